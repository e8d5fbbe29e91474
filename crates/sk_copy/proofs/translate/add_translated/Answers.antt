use Rattle.std.proofs.Common.{ℕ, ◌+◌, FitsSigned, refl, ap, ◌∙◌, arith, rules, w32}
use Rattle.std.proofs.lemmas.Int.{to_z-of_z}
use Rattle.std.specs.Prelude.{◌==◌, not, map}
use Rattle.sk_types.specs.declared.entity_kind.TheConstants as entity_kind
use Rattle.sk_copy.specs.Known.{number_at}
use Rattle.sk_copy.specs.Wanted.{first_copy, moves_from}
use Rattle.sk_copy.specs.Copies.{translated_by}
use Rattle.sk_copy.proofs.Making.{below_step, all_moved, kept_behind, move_at, moved_pair, other}
use Rattle.sk_copy.proofs.translate.add_translated.Goals as goal

pub loop-i-preserved : goal.loop-i-preserved
loop-i-preserved g c =
    let group = c.args.group.now in
    let first = c.first_copy-first.result in
    let copied = translated_by group (number_at c.args.numbers.now) c.args.entity.now in
    let fits : FitsSigned w32 c.times_of-times.result = search rules in
    below_step (λ (k : ℕ). copied (move_at first (first + group.copies) group.two_sided group.copies k)) c.loop-i.i c.args.made.now.items c.loop-i.made.items c.push.new.self.items c.in_ok-translated.field-0
    c.loop-i.invariant c.in_ok-push.ensures.items
    (c.in_ok-translated.ensures ∙ ap copied (moved_pair _ _ _ _ c.copy_number.ensures (to_z-of_z w32 c.times_of-times.result fits ∙ c.times_of-times.ensures)))

pub returns : goal.returns
returns g c =
    let group = c.args.group.now in
    let entity = c.args.entity.now in
    let first = c.first_copy-first.result in
    let copied = translated_by group (number_at c.args.numbers.now) entity in
    kept_behind (not (entity.kind == entity_kind.WORKPLANE)) c.args.made.now.items c.loop-i.made.items (map copied (moves_from (first_copy group) group.two_sided group.copies)) (other entity.kind entity_kind.WORKPLANE c.if-entity-eq-WORKPLANE.false)
    (all_moved copied c.args.made.now.items c.loop-i.made.items first (first_copy group) (first + group.copies) c.loop-i.i group.copies group.two_sided c.first_copy-first.ensures.value refl (omega arith) c.loop-i.invariant)
