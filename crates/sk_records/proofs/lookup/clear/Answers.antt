use Rattle.std.proofs.Common.{◌≡◌, ℕ, zero, suc, List, [], ◌∷◌, Option, None, refl, arith, length-set}
use Rattle.sk_records.proofs.FoundLemmas.{nowhere}
use Rattle.sk_records.proofs.Shifted.{mapped_more}
use Rattle.std.proofs.Common.{get_or, length, ◌<◌}
use Rattle.sk_records.proofs.lookup.clear.Goals as goal

any : (xs : List (Option ℕ)) (i : ℕ) (d e : Option ℕ) → i < length xs → get_or xs i d ≡ get_or xs i e
any [] i d e lt = absurd (omega arith)
any (x ∷ xs) zero d e lt = refl
any (x ∷ xs) (suc i) d e lt = any xs i d e (omega arith)

pub loop-i-preserved : goal.loop-i-preserved
loop-i-preserved c =
    let old = c.args.found.now in
    let now = c.loop-i.found in
    let i = c.loop-i.i in
    let lt : i < length now = omega (arith, c.loop-i.invariant.len) in
    let lo : i < length old = omega (arith, c.loop-i.invariant.len) in
    let more = mapped_more (λ (o : Option ℕ). nowhere) old now i (get_or now i None) None c.loop-i.invariant.rest lt lo (any now i None (get_or now i None) lt) refl c.loop-i.invariant.same in
    record { same = more.0; rest = more.1; len = omega (arith, c.loop-i.invariant.len, length-set now i nowhere) }
