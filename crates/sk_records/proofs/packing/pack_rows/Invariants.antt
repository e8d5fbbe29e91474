use Rattle.std.proofs.Common.{◌≡◌, take}
use Rattle.std.specs.List.{All}
use Rattle.sk_records.specs.Holding.Grown.{IsGrown}
use Rattle.sk_records.specs.Holding.Held.{rows_at, RowWithin}
use Rattle.sk_records.proofs.packing.pack_rows.Given as goal

abbrev pub invariant-loop-row : goal.invariant-loop-row
invariant-loop-row l = record {
  rows : rows_at l.out.items l.packed.items ≡ rows_at l.text (take l.row-index l.rows);
  within : All (RowWithin l.out.items) l.packed.items;
  grown : IsGrown l.fn.out.items l.out.items;
}
