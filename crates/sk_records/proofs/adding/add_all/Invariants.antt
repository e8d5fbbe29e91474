use Rattle.std.proofs.Common.{◌≡◌, take, drop, length}
use Rattle.sk_records.specs.Blocks.{add_records}
use Rattle.sk_records.specs.Given.{recs_of}
use Rattle.sk_records.specs.Holding.Grown.{IsGrown}
use Rattle.sk_records.specs.Holding.Held.{blocks_at, IsWithin}
use Rattle.sk_records.specs.Holding.BookHeld.{book_blocks, IsHeld}
use Rattle.sk_records.proofs.adding.add_all.Given as goal

abbrev pub invariant-loop-i : goal.invariant-loop-i
invariant-loop-i l = record {
  first : IsWithin l.text.items l.header;
  held : IsHeld l.text.items l.items.items l.places.items;
  grown : IsGrown l.initial.text.items l.text.items;
  rest : drop l.i l.new.items ≡ drop l.i l.initial.new.items;
  len : length l.new.items ≡ length l.initial.new.items;
  book : book_blocks l.text.items l.header l.items.items ≡ add_records l.kind (recs_of (blocks_at l.initial.text.items (take l.i l.initial.new.items))) (book_blocks l.initial.text.items l.initial.header l.initial.items.items);
}
