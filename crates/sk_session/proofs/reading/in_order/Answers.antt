use Rattle.std.proofs.Common.{◌∙◌, Some, refl, sym, ap}
use Rattle.std.specs.Option.{option_copied}
use Rattle.sk_session.proofs.Groups.{taken_more, passed_more}
use Rattle.sk_session.proofs.reading.in_order.Goals.{in-Some+in_ok-copy+in_ok-push, in_default}
use Rattle.sk_session.proofs.reading.in_order.Goals as goal

pub loop-id-preserved : goal.loop-id-preserved
loop-id-preserved g c =
    let more = taken_more c.args.groups.now c.args.order.now c.loop-id.id-index (record { 0 = 0 }) c.loop-id-test.true c.loop-id.found.items c.match-group_at.found.items in
    let same = passed_more c.args.groups.now c.args.order.now c.loop-id.id-index (record { 0 = 0 }) c.loop-id-test.true c.loop-id.found.items c.match-group_at.found.items in
    elim c.match-group_at.branch [
      | in-Some+in_ok-copy+in_ok-push w ↦ more w.in_ok-copy.field-0 (sym c.group_at.ensures ∙ ap option_copied w.in-Some.is ∙ ap Some (sym w.in_ok-copy.ensures)) (rw w.found-is w.in_ok-push.ensures.items) c.loop-id.invariant
      | in_default w ↦ same (sym c.group_at.ensures ∙ ap option_copied w.in_default.is) (rw w.found-is refl) c.loop-id.invariant
    ]
