-- Listings as the lists of their things.
use Rattle.std.specs.Prelude.{List, Result, Ok, Err}
use Rattle.sk_model.specs.declared.listed.Listed.{Listed}
use Rattle.sk_model.specs.declared.faults.ModelFault.{ModelFault}

abbrev pub listed_of : {T : Type 0} → Result (Listed T) ModelFault → Result (List T) ModelFault
listed_of (Ok l) = Ok l.items.items
listed_of (Err e) = Err e
