use Rattle.std.proofs.Common.{◌≡◌}
use Rattle.sk_types.specs.Copies.{copies_in}
use Rattle.sk_model.specs.Remap.{remap_of, numbers_in}
use Rattle.sk_model.proofs.RemapSteps.{RestOfEntries}
use Rattle.sk_model.proofs.remap.remap_of.Given as goal

abbrev pub invariant-loop-line : goal.invariant-loop-line
invariant-loop-line l = record {
  numbers : l.numbers.keys ≡ numbers_in l.remap.items;
  copies : l.copies.keys ≡ copies_in l.remap.items;
  rest : RestOfEntries l.id l.remap.items l.line-index l.lines ≡ remap_of l.id l.lines;
}
