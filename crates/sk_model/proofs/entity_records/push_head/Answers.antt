use Rattle.std.proofs.Common.{[], ◌∷◌}
use Rattle.std.specs.Prelude.{codes}
use Rattle.std.specs.Fmt.{decimal}
use Rattle.sk_num.specs.Numerals.{padded}
use Rattle.sk_model.specs.EntityRecords.{flag_text}
use Rattle.sk_model.proofs.PairLines.{then}
use Rattle.sk_model.proofs.entity_records.push_head.Goals as goal

pub returns-clause-lines : goal.returns-clause-lines
returns-clause-lines g c =
    let e = c.args.entity.now in
    let r = c.push_value-3.result in
    then r ((codes "Entity.h.v", padded 16 8 e.id.0) ∷ []) ((codes "Entity.type", decimal e.kind) ∷ (codes "Entity.construction", flag_text e.construction) ∷ []) c.args.out.now.items c.push_value.new.out.items c.push_value-3.new.out.items
    (rw c.handle_text.ensures.text at c.in_ok-push_value.ensures)
    (then r ((codes "Entity.type", decimal e.kind) ∷ []) ((codes "Entity.construction", flag_text e.construction) ∷ []) c.push_value.new.out.items c.push_value-2.new.out.items c.push_value-3.new.out.items
    (rw (c.as_bytes.ensures.value, c.format.ensures.text) at c.in_ok-push_value-2.ensures)
    (rw c.flag_text.ensures at c.push_value-3.ensures))
