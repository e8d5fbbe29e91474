use Rattle.std.proofs.Common.{◌≡◌, suc, take, drop, ◌++◌, arith, add-one}
use Rattle.std.proofs.lemmas.Result.{err_from_is_err_and}
use Rattle.sk_files.specs.TakenLaws.{Takes-then, TakesPrefix-then, OnFailed-weaker}
use Rattle.sk_app.specs.Ends.{joined}
use Rattle.sk_app.specs.Lent.{texts}
use Rattle.sk_app.proofs.Joined.{joined_split, joined_more}
use Rattle.sk_app.proofs.pieces.put_all.Goals as goal

pub returns-in_err-put-clause-failed : goal.returns-in_err-put-clause-failed
returns-in_err-put-clause-failed g c =
    let p = err_from_is_err_and c.from_residual.result c.from_residual.ensures.1 in
    let i = c.loop-piece.piece-index in
    let all = texts c.args.pieces.now in
    let split : joined all ≡ joined (take i all) ++ (c.deref.result.now ++ joined (drop (suc i) all)) =
    rw c.deref.ensures.value (joined_split c.args.pieces.now i c.piece-item.result (omega arith) c.piece-item.is) in
    rw (p.1, p.2) (OnFailed-weaker (Unit {0}) (Unit {0}) c.in_err-put.field-0.0 (λ taken. TakesPrefix-then _ _ _ _ _ _ _ c.loop-piece.invariant.taken taken split) c.in_err-put.ensures.failed)

pub loop-piece-preserved : goal.loop-piece-preserved
loop-piece-preserved g c = record {
  later = omega (arith, c.loop-piece.invariant.later, c.in_ok-put.ensures.cause.later);
  taken = Takes-then _ _ _ _ _ _ c.loop-piece.invariant.taken c.in_ok-put.ensures.taken
      (rw (add-one, c.deref.ensures.value) (joined_more c.args.pieces.now c.loop-piece.piece-index c.piece-item.result (omega arith) c.piece-item.is));
}
