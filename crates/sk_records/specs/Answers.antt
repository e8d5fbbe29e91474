-- What the calls of a book answer.
use Rattle.std.specs.Prelude.{◌≡◌, ◌⊎◌, List, [], Result, Ok, Err, slice_index_or}
use Rattle.sk_records.specs.declared.kinds.RecId.{RecId}
use Rattle.sk_records.specs.Rows.{Row}
use Rattle.sk_records.specs.Blocks.{Block, records}

-- the lines of a record
abbrev pub rows_in : RecId → List Block → List Row
rows_in rec bs = slice_index_or (records rec.kind bs) rec.place []

-- the fault is want of memory, or the defined one
abbrev pub IsFault : {T E : Type 0} → E → E → Result T E → Type 0
IsFault memory e r = (e ≡ memory) ⊎ (r ≡ Err e)

-- the answer is the defined one; only the fault that is want of memory is free
abbrev pub IsAnswer : {T E : Type 0} → E → Result T E → Result T E → Type 0
IsAnswer memory (Ok x) r = r ≡ Ok x
IsAnswer memory (Err e) r = IsFault memory e r
