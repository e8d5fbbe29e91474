use Rattle.std.proofs.Common.{◌+◌, [], refl, arith}
use Rattle.std.specs.Prelude.{◌==◌, not, map}
use Rattle.sk_types.specs.declared.entity_kind.TheConstants as entity_kind
use Rattle.sk_copy.specs.Wanted.{Move, first_copy, moves_from}
use Rattle.sk_copy.proofs.Making.{all_moved, kept_behind, other}
use Rattle.sk_copy.proofs.wanted.translated_as.Goals as goal

pub returns : goal.returns
returns g c =
    let group = c.args.group.now in
    let entity = c.args.entity.now in
    let first = c.first_copy-first.result in
    kept_behind (not (entity.kind == entity_kind.WORKPLANE)) [] c.loop-i.keys.items (map (λ (m : Move). (entity.id.0, m.0)) (moves_from (first_copy group) group.two_sided group.copies)) (other entity.kind entity_kind.WORKPLANE c.if-entity-eq-WORKPLANE.false)
    (all_moved (λ (m : Move). (entity.id.0, m.0)) [] c.loop-i.keys.items first (first_copy group) (first + group.copies) c.loop-i.i group.copies group.two_sided c.first_copy-first.ensures.value refl (omega arith) c.loop-i.invariant)
