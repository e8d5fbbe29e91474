use Rattle.std.proofs.Common.{take}
use Rattle.sk_model.specs.TypingLaws.ParamTexts.{value_key, quantity_value}
use Rattle.sk_model.proofs.Outcomes.{on_ok}
use Rattle.sk_model.proofs.ManySteps.{change_pushed}
use Rattle.sk_model.proofs.changes.push_change.Goals as goal

pub set_value-requires-clause-key : goal.set_value-requires-clause-key
set_value-requires-clause-key g c = rw (c.requires.kind, c.bytes.ensures) value_key

pub set_value-requires-clause-value : goal.set_value-requires-clause-value
set_value-requires-clause-value g c = quantity_value g.row.S _ _ (rw (← c.from.ensures) at c.quantity_text-text.ensures.read_back)

pub returns : goal.returns
returns g c =
    on_ok c.set_value.result
    (change_pushed g.row.S c.args.place c.args.value c.args.changes.now c.set_value.new.self c.bytes.result.now (take c.from.result c.quantity_text-text.result.bytes) c.requires.kind c.bytes.ensures (rw c.from.ensures c.quantity_text-text.ensures.text))
    c.set_value.ensures.ok
