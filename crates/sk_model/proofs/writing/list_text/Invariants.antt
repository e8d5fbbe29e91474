use Rattle.std.proofs.Common.{◌≡◌, ◌∷◌, take, map}
use Rattle.std.specs.Prelude.{codes}
use Rattle.std.specs.List.{All}
use Rattle.sk_text.specs.Lines.{joined}
use Rattle.sk_types.specs.declared.group.RemapEntry.{RemapEntry}
use Rattle.sk_model.specs.Changes.{fed_line, entry_text}
use Rattle.sk_model.specs.WrittenLines.{IsEntryText}
use Rattle.sk_model.proofs.writing.list_text.Given as goal

abbrev pub invariant-loop-entry : goal.invariant-loop-entry
invariant-loop-entry l = record {
  text : l.lines.items ≡ joined (fed_line (codes "Group.remap={") ∷ map (λ (e : RemapEntry). fed_line (entry_text e)) (take l.entry-index l.list));
  all : All IsEntryText (take l.entry-index l.list);
}
