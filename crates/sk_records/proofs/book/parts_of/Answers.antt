use Rattle.std.proofs.Common.{◌∷◌, subst}
use Rattle.std.specs.List.{All}
use Rattle.std.proofs.lemmas.List.Elements.{All-tail}
use Rattle.sk_text.specs.Lines.{IsPart}
use Rattle.sk_text.specs.Lent.{placed_line}
use Rattle.sk_records.proofs.WrittenLemmas.{parts_from_zero}
use Rattle.sk_records.proofs.book.parts_of.Goals as goal

pub read_lines-requires-clause-parts : goal.read_lines-requires-clause-parts
read_lines-requires-clause-parts c =
    let text = c.args.text.now in
    let parts : All (IsPart text) (placed_line c.in-Some.first ∷ c.next.new.self) = subst (All (IsPart text)) c.in-Some.ensures.steps c.lines-rest.ensures.parts in
    parts_from_zero text c.next.new.self (All-tail (IsPart text) (placed_line c.in-Some.first) c.next.new.self parts)
