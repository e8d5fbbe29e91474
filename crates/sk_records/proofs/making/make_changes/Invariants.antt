use Rattle.std.proofs.Common.{◌≡◌, map, drop, length}
use Rattle.sk_records.specs.Blocks.{records}
use Rattle.sk_records.specs.ChangeLists.{all_changed}
use Rattle.sk_records.specs.Holding.ChangesHeld.{change_of}
use Rattle.sk_records.specs.Holding.Grown.{IsGrown}
use Rattle.sk_records.specs.Holding.Held.{blocks_at}
use Rattle.sk_records.specs.Holding.BookHeld.{IsHeld}
use Rattle.sk_records.proofs.making.make_changes.Given as goal

abbrev pub invariant-loop-edit : goal.invariant-loop-edit
invariant-loop-edit l = record {
  held : IsHeld l.text.items l.items.items l.places;
  grown : IsGrown l.initial.text.items l.text.items;
  count : length (records l.kind (blocks_at l.text.items l.items.items)) ≡ length (records l.kind (blocks_at l.initial.text.items l.initial.items.items));
  done : all_changed l.kind (map (change_of l.bytes) (drop l.edit-index l.edits)) (blocks_at l.text.items l.items.items) ≡ all_changed l.kind (map (change_of l.bytes) l.edits) (blocks_at l.initial.text.items l.initial.items.items);
}
