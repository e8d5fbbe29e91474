use Rattle.std.proofs.Common.{◌<◌, ℕ, length, subst, sym, ap, ◌∙◌}
use Rattle.sk_chain.proofs.Noting.{filled_length, needs_all, needs_more}
use Rattle.sk_chain.proofs.dirty.note_constraint.Goals as goal

pub loop-need-init : goal.loop-need-init
loop-need-init g c = needs_all c.args.places.now.keys c.args.table.now.items _ c.args.entities.now c.args.constraint.now c.needs-needs.result c.needs-needs.ensures.parts c.needs-needs.ensures.few c.in_ok-note_named.ensures

pub loop-need-preserved : goal.loop-need-preserved
loop-need-preserved g c =
    let within = subst (λ (n : ℕ). c.loop-need.need-index < n) (sym (ap length c.needs-needs.ensures.parts ∙ filled_length _)) c.loop-need-test.true in
    needs_more c.args.places.now.keys c.args.table.now.items c.loop-need.table.items _ c.args.entities.now c.args.constraint.now c.needs-needs.result c.loop-need.need-index _ c.in-Some.need _ within (sym c.in-Some.is) c.loop-need.invariant c.in_ok-note_named-2.ensures
