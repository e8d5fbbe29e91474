-- A line that is lent, as contracts see it.
use Rattle.sk_text.specs.Lines.{PlacedLine}
use Rattle.sk_text.specs.declared.iter.Line.{Line}

abbrev pub placed_line : Line → PlacedLine
placed_line l = record { at = l.at; line = record { body = l.body.now; ending = l.end.now } }
