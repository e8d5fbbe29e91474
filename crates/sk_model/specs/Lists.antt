-- Vectors as the lists of their items, and texts as their bytes.
use Rattle.std.specs.Prelude.{ℕ, List, Vec, Result, Ok, Err, String, string_bytes}

abbrev pub items_of : {T E A : Type 0} → Result (Vec T A) E → Result (List T) E
items_of (Ok v) = Ok v.items
items_of (Err e) = Err e

abbrev pub text_of : {E A : Type 0} → Result (String A) E → Result (List ℕ) E
text_of (Ok t) = Ok (string_bytes t)
text_of (Err e) = Err e
