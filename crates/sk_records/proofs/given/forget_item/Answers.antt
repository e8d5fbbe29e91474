use Rattle.std.proofs.Common.{refl}
use Rattle.sk_records.proofs.GivenLemmas.{bare_record, bare_other}
use Rattle.sk_records.proofs.given.forget_item.Goals as goal

pub returns-in-Held : goal.returns-in-Held
returns-in-Held c = rw c.in-Held.is (bare_record c.in-Held.record (record { kind = c.in-Held.record.kind; rows = c.forget_rows.new.rows; close = c.in-Held.record.close }) refl c.forget_rows.ensures refl)

pub returns-in_default : goal.returns-in_default
returns-in_default c = bare_other c.args.item.now c.in_default.not-Held
