use Rattle.std.proofs.Common.{sym}
use Rattle.std.proofs.lemmas.Result.{err_from_is_err_and}
use Rattle.sk_copy.specs.Known.{number_at}
use Rattle.sk_copy.specs.Wanted.{is_linked}
use Rattle.sk_copy.specs.Copies.{linked_copy}
use Rattle.sk_copy.proofs.Making.{next_linked, next_passed, past_if}
use Rattle.sk_copy.proofs.linked.link.Goals as goal
use Rattle.sk_copy.proofs.linked.link.Goals.{then-is_linked+in_ok-linked_copy+in_ok-push, else-is_linked}

pub returns-in_err-linked_copy-clause-past : goal.returns-in_err-linked_copy-clause-past
returns-in_err-linked_copy-clause-past g c =
    let p = err_from_is_err_and c.from_residual.result c.from_residual.ensures.1 in
    rw (p.1, p.2) (past_if (linked_copy c.args.group.now (number_at c.args.numbers.now)) (is_linked c.args.source.now) c.args.source.now c.loop-entity.entity-index c.entity-item.result c.loop-entity-test.true c.entity-item.is
    c.loop-entity.made.items c.loop-entity.invariant _ (sym c.if-is_linked.ensures) c.in_err-linked_copy.ensures.past)

pub loop-entity-preserved : goal.loop-entity-preserved
loop-entity-preserved g c = elim c.if-is_linked.branch [
  | then-is_linked+in_ok-linked_copy+in_ok-push w ↦ rw w.made-is (next_linked (linked_copy c.args.group.now (number_at c.args.numbers.now)) (is_linked c.args.source.now) c.args.source.now c.loop-entity.entity-index c.entity-item.result c.loop-entity-test.true c.entity-item.is
      c.loop-entity.made.items c.loop-entity.invariant w.in_ok-linked_copy.field-0 w.push.new.self.items (sym w.if-is_linked.ensures) w.in_ok-linked_copy.ensures.made w.in_ok-push.ensures.items)
  | else-is_linked w ↦ rw w.made-is (next_passed (linked_copy c.args.group.now (number_at c.args.numbers.now)) (is_linked c.args.source.now) c.args.source.now c.loop-entity.entity-index c.entity-item.result c.loop-entity-test.true c.entity-item.is
      c.loop-entity.made.items c.loop-entity.invariant (sym w.if-is_linked.ensures))
]
