use Rattle.std.proofs.Common.{refl}
use Rattle.std.proofs.lemmas.Result.{on_ok_weaker, on_err_weaker}
use Rattle.sk_records.specs.Rows.{with_map}
use Rattle.sk_records.specs.Given.{given_list}
use Rattle.sk_records.specs.Holding.Held.{RecordWithin}
use Rattle.sk_records.proofs.Growth.{grown_none}
use Rattle.sk_records.proofs.RowsSet.{no_record, record_kept, record_changed}
use Rattle.sk_records.proofs.changes.set_item_list.Goals as goal

pub returns-in-Held-clause-ok : goal.returns-in-Held-clause-ok
returns-in-Held-clause-ok c =
    let is : RecordWithin c.args.text.now.items c.in-Held.record = rw c.in-Held.is at c.requires.within in
    rw c.in-Held.is (on_ok_weaker c.set_row_list.result (λ e. record_changed c.args.text.now.items c.set_row_list.new.text.items c.in-Held.record c.set_row_list.new.rows.items (with_map (given_list c.args.given.now)) c.set_row_list.ensures.grown is e) c.set_row_list.ensures.ok)

pub returns-in-Held-clause-err : goal.returns-in-Held-clause-err
returns-in-Held-clause-err c =
    let is : RecordWithin c.args.text.now.items c.in-Held.record = rw c.in-Held.is at c.requires.within in
    rw c.in-Held.is (on_err_weaker c.set_row_list.result (λ e. record_kept c.args.text.now.items c.set_row_list.new.text.items c.in-Held.record c.set_row_list.new.rows.items c.set_row_list.ensures.grown is e) c.set_row_list.ensures.err)

pub returns-in_default : goal.returns-in_default
returns-in_default c = record {
  ok = no_record c.args.text.now.items (with_map (given_list c.args.given.now)) c.args.item.now c.in_default.not-Held;
  err = tt;
  within = c.requires.within;
  grown = grown_none c.args.text.now.items;
  kind = λ k. refl;
}
