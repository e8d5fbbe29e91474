use Rattle.std.proofs.Common.{[], ◌∷◌, get_or, arith}
use Rattle.std.specs.Prelude.{pos, codes}
use Rattle.std.proofs.lemmas.List.{get_or_default}
use Rattle.sk_model.proofs.EntityLines.{more_numbers, last_number}
use Rattle.sk_model.proofs.entity_records.push_place.Goals as goal

pub returns-clause-lines : goal.returns-clause-lines
returns-clause-lines g c =
    let r = c.push_quantity-3.result in
    let vs = c.args.values.now in
    more_numbers r g.row.S (codes "Entity.actPoint.x") (get_or vs 0 c.index-values-0.result) (get_or vs 0 (pos 0)) (get_or_default vs 0 c.index-values-0.result (pos 0) (omega (arith, c.told-values))) c.args.out.now.items c.push_quantity.new.out.items ((codes "Entity.actPoint.y", get_or vs 1 (pos 0)) ∷ (codes "Entity.actPoint.z", get_or vs 2 (pos 0)) ∷ []) c.push_quantity-3.new.out.items c.in_ok-push_quantity.ensures.line
    (more_numbers r g.row.S (codes "Entity.actPoint.y") (get_or vs 1 c.index-values-1.result) (get_or vs 1 (pos 0)) (get_or_default vs 1 c.index-values-1.result (pos 0) (omega (arith, c.told-values))) c.push_quantity.new.out.items c.push_quantity-2.new.out.items ((codes "Entity.actPoint.z", get_or vs 2 (pos 0)) ∷ []) c.push_quantity-3.new.out.items c.in_ok-push_quantity-2.ensures.line
    (last_number r g.row.S (codes "Entity.actPoint.z") (get_or vs 2 c.index-values-2.result) (get_or vs 2 (pos 0)) (get_or_default vs 2 c.index-values-2.result (pos 0) (omega (arith, c.told-values))) c.push_quantity-2.new.out.items c.push_quantity-3.new.out.items c.push_quantity-3.ensures.line))
