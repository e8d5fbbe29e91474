use Rattle.std.proofs.Common.{◌++◌, sym, ap, ◌∙◌, append_assoc}
use Rattle.sk_text.specs.Lines.{joined}
use Rattle.sk_records.specs.Reading.{row_lines}
use Rattle.sk_records.specs.Holding.Held.{bytes_at, rows_at, RecordWithin}
use Rattle.sk_records.proofs.WrittenLemmas.{stretch_bytes, record_bytes}
use Rattle.sk_records.proofs.writing.write_item.Goals as goal

pub returns-in_ok-extend_from_slice-in-Lines-clause-ok : goal.returns-in_ok-extend_from_slice-in-Lines-clause-ok
returns-in_ok-extend_from_slice-in-Lines-clause-ok c =
    rw (c.in-Lines.is) (c.in_ok-extend_from_slice-in-Lines.ensures.items ∙ ap (λ x. c.args.out.now.items ++ x) (sym (stretch_bytes c.args.text.now c.in-Lines.stretch)))

pub returns-in_ok-extend_from_slice-in-Held-clause-ok : goal.returns-in_ok-extend_from_slice-in-Held-clause-ok
returns-in_ok-extend_from_slice-in-Held-clause-ok c =
    let text = c.args.text.now in
    let r = c.in-Held.record in
    let is : RecordWithin text r = rw c.in-Held.is at c.requires.within in
    let rows = rw c.deref.ensures.value at c.in_ok-write_rows-in-Held.ensures.ok in
    rw (c.in-Held.is) (c.in_ok-extend_from_slice-in-Held.ensures.items ∙ ap (λ x. x ++ bytes_at text r.close.start r.close.end) rows
    ∙ append_assoc c.args.out.now.items (joined (row_lines (rows_at text r.rows.items))) (bytes_at text r.close.start r.close.end)
    ∙ ap (λ x. c.args.out.now.items ++ x) (sym (record_bytes text r is.close)))
