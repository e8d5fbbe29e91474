-- Vectors as the lists of their items.
use Rattle.std.specs.Prelude.{List, Vec, Result, Ok, Err}

abbrev pub items_of : {T E A : Type 0} → Result (Vec T A) E → Result (List T) E
items_of (Ok v) = Ok v.items
items_of (Err e) = Err e
