use Rattle.std.proofs.Common.{◌≡◌, ◌+◌, ◌<◌, ◌^◌, map, length}
use Rattle.std.specs.List.{All}
use Rattle.sk_text.specs.Lines.{line_at, AreLines}
use Rattle.sk_records.specs.Reading.{read_from, Outside}
use Rattle.sk_records.specs.Holding.Held.{blocks_at, ItemWithin}
use Rattle.sk_records.specs.Holding.Moves.{onto, state_of, OpenWithin, IsBelow, IsPartFrom}
use Rattle.sk_records.proofs.reading.read_lines.Given as goal

abbrev pub invariant-loop-line : goal.invariant-loop-line
invariant-loop-line l = record {
  parts : All (IsPartFrom l.text l.base) l.line-iterator;
  lines : AreLines (map line_at l.line-iterator);
  few : l.number + length l.line-iterator < 2 ^ 28;
  some : 0 < l.number;
  within : All (ItemWithin l.text) l.items.items;
  current : OpenWithin l.text l.current;
  below : IsBelow l.number l.current;
  same : onto (blocks_at l.text l.items.items) (read_from l.number (state_of l.text l.current) (map line_at l.line-iterator)) ≡ read_from l.first Outside (map line_at l.fn.lines);
}
