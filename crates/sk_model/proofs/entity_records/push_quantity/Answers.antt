use Rattle.std.proofs.Common.{sym, ◌∙◌}
use Rattle.sk_model.proofs.Outcomes.{on_ok}
use Rattle.sk_model.proofs.EntityLines.{no_quantity, quantity_written}
use Rattle.sk_model.proofs.entity_records.push_quantity.Goals as goal

pub returns-then-is_same-clause-line : goal.returns-then-is_same-clause-line
returns-then-is_same-clause-line g c = no_quantity g.row.S c.args.key.now c.args.v c.args.out.now.items (rw c.zero.ensures at (sym c.is_same.ensures.value ∙ c.if-is_same.true))

pub returns-clause-line : goal.returns-clause-line
returns-clause-line g c =
    on_ok c.push_value.result
    (quantity_written g.row.S c.args.key.now c.args.v _ c.args.out.now.items c.push_value.new.out.items (rw c.zero.ensures at (sym c.is_same.ensures.value ∙ c.if-is_same.false)) (rw c.from.ensures c.quantity_text-text.ensures.text))
    c.push_value.ensures
