use Rattle.std.proofs.Common.{◌+◌, ◌≡◌, ◌++◌, length, take, drop, get_or, sym, ap, ◌∙◌, append_assoc}
use Rattle.sk_text.specs.Lines.{joined}
use Rattle.sk_records.specs.declared.rows.Row as held
use Rattle.sk_records.specs.Reading.{row_lines}
use Rattle.sk_records.specs.Holding.Marks.{mark_end}
use Rattle.sk_records.specs.Holding.Held.{bytes_at, rows_at}
use Rattle.sk_records.proofs.WrittenLemmas.{kept_more, rows_more}
use Rattle.sk_records.proofs.writing.write_rows.Goals as goal

pub loop-row-preserved : goal.loop-row-preserved
loop-row-preserved c =
    let d : held.Row = record { start = 0; body_end = 0; mark = record { code = 0 } } in
    let r = get_or c.args.rows.now c.loop-row.row-index d in
    let rest = joined (row_lines (rows_at c.args.text.now (drop (c.loop-row.row-index + 1) c.args.rows.now))) in
    let line = bytes_at c.args.text.now r.start (r.body_end + mark_end r.mark) in
    let more = rows_more c.args.text.now c.args.rows.now c.loop-row.row-index d c.loop-row-test.true c.requires.within in
    let grown : c.extend_from_slice.new.self.items ≡ c.loop-row.out.items ++ line = c.in_ok-extend_from_slice.ensures.items ∙ ap (λ n. c.loop-row.out.items ++ bytes_at c.args.text.now r.start n) c.end.ensures in
    record {
      done = ap (λ x. x ++ rest) grown ∙ append_assoc c.loop-row.out.items line rest ∙ ap (λ x. c.loop-row.out.items ++ x) (sym more) ∙ c.loop-row.invariant.done;
      kept = ap (take (length c.args.out.now.items)) grown ∙ kept_more c.args.out.now.items c.loop-row.out.items line c.loop-row.invariant.kept;
    }
