use Rattle.std.proofs.Common.{take}
use Rattle.sk_records.specs.Holding.Grown.{IsGrown}
use Rattle.sk_records.specs.Holding.Copied.{AreMoved}
use Rattle.sk_records.proofs.packing.pack_items.Given as goal

abbrev pub invariant-loop-item : goal.invariant-loop-item
invariant-loop-item l = record {
  are : AreMoved l.text l.out.items (take l.item-index l.items) l.packed.items;
  grown : IsGrown l.fn.out.items l.out.items;
}
