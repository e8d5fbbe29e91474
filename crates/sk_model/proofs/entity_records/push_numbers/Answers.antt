use Rattle.std.proofs.Common.{sym, ◌∙◌}
use Rattle.sk_model.proofs.EntityLines.{no_numbers}
use Rattle.sk_model.proofs.entity_records.push_numbers.Goals as goal

pub returns-clause-lines : goal.returns-clause-lines
returns-clause-lines g c =
    no_numbers g.row.S c.args.kind c.args.values.now c.args.out.now.items (sym c.is_point.ensures ∙ c.if-is_point.false) (sym c.is_turned.ensures ∙ c.if-is_turned.false) (sym c.is_distance.ensures ∙ c.if-is_distance.false)
