use Rattle.sk_model.proofs.Outcomes.{on_ok}
use Rattle.sk_model.specs.EntityRecords.{point_key}
use Rattle.sk_model.proofs.EntityLines.{no_handle, handle_written, point_line}
use Rattle.sk_model.proofs.entity_records.push_point.Goals as goal

pub returns-then-id-eq0 : goal.returns-then-id-eq0
returns-then-id-eq0 c = no_handle (point_key c.args.place) c.args.id c.args.out.now.items c.if-id-eq0.true

pub returns : goal.returns
returns c =
    on_ok c.push_value.result
    (λ e. handle_written (point_key c.args.place) c.args.id c.handle_text.result c.args.out.now.items c.push_value.new.out.items c.if-id-eq0.false c.handle_text.ensures.text
    (point_line c.args.place c.handle_text.result c.args.out.now.items c.extend_from_slice.new.self.items c.extend_from_slice-2.new.self.items c.push_value.new.out.items
    c.in_ok-extend_from_slice.ensures.items (rw (c.as_bytes.ensures.value, c.format.ensures.text) at c.in_ok-extend_from_slice-2.ensures.items) e))
    c.push_value.ensures
