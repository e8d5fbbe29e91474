use Rattle.sk_model.proofs.Outcomes.{on_ok}
use Rattle.sk_model.proofs.EntityLines.{no_handle, handle_written}
use Rattle.sk_model.proofs.entity_records.push_handle.Goals as goal

pub returns-then-id-eq0 : goal.returns-then-id-eq0
returns-then-id-eq0 c = no_handle c.args.key.now c.args.id c.args.out.now.items c.if-id-eq0.true

pub returns : goal.returns
returns c = on_ok c.push_value.result (handle_written c.args.key.now c.args.id c.handle_text.result c.args.out.now.items c.push_value.new.out.items c.if-id-eq0.false c.handle_text.ensures.text) c.push_value.ensures
