use Rattle.std.proofs.Common.{inr}
use Rattle.std.proofs.lemmas.Result.{err_from_is_err_and}
use Rattle.sk_model.proofs.Steps.{keys_grown}
use Rattle.sk_model.proofs.RemapSteps.{entries_step, entries_fault}
use Rattle.sk_types.specs.declared.group.RemapEntry.{RemapEntry}
use Rattle.sk_types.specs.Copies.{copied}
use Rattle.sk_model.proofs.remap.remap_of.Goals as goal

pub returns-in_err-entry : goal.returns-in_err-entry
returns-in_err-entry c =
    let f = entries_fault _ _ _ _ _ _ _ _ _ _ c.over.ensures.value c.in_err-entry.was c.loop-line.invariant.numbers c.loop-line.invariant.copies c.loop-line-test.true c.loop-line.invariant.rest in
    let p = err_from_is_err_and c.from_residual.result c.from_residual.ensures.1 in
    rw (p.1, p.2) (inr f)

pub loop-line-preserved : goal.loop-line-preserved
loop-line-preserved c = record {
  numbers = keys_grown (λ (e : RemapEntry). e.number) _ _ _ _ _ _ c.in_ok-insert.ensures.keys c.in_ok-entry.ensures.new_number c.loop-line.invariant.numbers c.in_ok-push.ensures.items;
  copies = keys_grown copied _ _ _ _ _ _ c.in_ok-insert-2.ensures.keys c.in_ok-entry.ensures.new_copy c.loop-line.invariant.copies c.in_ok-push.ensures.items;
  rest = entries_step _ _ _ _ _ _ _ _ _ _ _ c.over.ensures.value c.in_ok-entry.was c.loop-line.invariant.numbers c.loop-line.invariant.copies c.loop-line-test.true c.in_ok-push.ensures.items c.loop-line.invariant.rest;
}
