use Rattle.std.proofs.Common.{get_or, arith}
use Rattle.std.specs.Prelude.{pos, codes}
use Rattle.std.proofs.lemmas.List.{get_or_default}
use Rattle.sk_model.proofs.EntityLines.{last_number}
use Rattle.sk_model.proofs.entity_records.push_length.Goals as goal

pub returns-clause-lines : goal.returns-clause-lines
returns-clause-lines g c =
    let r = c.push_quantity.result in
    let vs = c.args.values.now in
    last_number r g.row.S (codes "Entity.actDistance") (get_or vs 0 c.index-values-0.result) (get_or vs 0 (pos 0)) (get_or_default vs 0 c.index-values-0.result (pos 0) (omega (arith, c.told-values))) c.args.out.now.items c.push_quantity.new.out.items c.push_quantity.ensures.line
