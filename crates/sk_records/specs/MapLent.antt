-- A line of a remap list that is lent, as contracts see it.
use Rattle.sk_records.specs.declared.map_lines.MapLine.{MapLine}
use Rattle.sk_records.specs.MapRows.{EntryLine}

abbrev pub lent_entry : MapLine → EntryLine
lent_entry l = record { line = l.line; body = l.body.now }
