use Rattle.std.proofs.Common.{refl}
use Rattle.sk_records.specs.declared.items.Record as held_record
use Rattle.sk_records.proofs.PackLemmas.{record_moved}
use Rattle.sk_records.proofs.packing.pack_record.Goals as goal

pub returns-clause-item : goal.returns-clause-item
returns-clause-item c =
    let x : held_record.Record = record { kind = c.args.held.now.kind; rows = c.in_ok-rows.rows; close = c.in_ok-close.close } in
    let rows = rw c.deref.ensures.value at c.in_ok-rows.ensures.rows in
    record_moved c.args.text.now c.pack_rows.new.out.items c.pack_span.new.out.items c.args.held.now x c.requires refl rows c.in_ok-rows.ensures.within c.in_ok-close.ensures.line c.in_ok-close.ensures.within c.pack_span.ensures.grown
