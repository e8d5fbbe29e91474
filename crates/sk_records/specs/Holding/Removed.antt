-- Empty lines at the front of what is held.
use Rattle.std.specs.Prelude.{◌+◌, ℕ, List, [], ◌∷◌, Bool, true, false, if◌then◌else◌, nat_eq, Option, Some, None}
use Rattle.sk_records.specs.declared.items.Stretch.{Stretch}
use Rattle.sk_records.specs.declared.items.Item.{Item}
use Rattle.sk_records.specs.declared.items.Item.TheVariants.{Gone, Lines, Held}
use Rattle.sk_records.specs.Holding.Held.{bytes_at}

abbrev pub feed_len : List ℕ → ℕ
feed_len [] = 0
feed_len (b ∷ bs) = if nat_eq b 10 then 2 else 0

-- the length of an empty line at the front of some bytes, with its end, or 0
abbrev pub blank_len : List ℕ → ℕ
blank_len [] = 0
blank_len (b ∷ bs) = if nat_eq b 10 then 1 else if nat_eq b 13 then feed_len bs else 0

abbrev pub cut_front : Stretch → ℕ → Option Item
cut_front s n = if nat_eq n 0 then None else if nat_eq (s.start + n) s.end then Some Gone else Some (Lines (record { start = s.start + n; end = s.end }))

-- what is left of an item without the empty line at its front, where there is one
abbrev pub shrunk : List ℕ → Item → Option Item
shrunk text Gone = None
shrunk text (Lines s) = cut_front s (blank_len (bytes_at text s.start s.end))
shrunk text (Held r) = None

abbrev pub is_gone : Item → Bool
is_gone Gone = true
is_gone (Lines s) = false
is_gone (Held r) = false

abbrev pub or_else : Item → Option Item → Item
or_else x None = x
or_else x (Some y) = y

-- The empty line goes that stands before anything else.
abbrev pub shrink_first : List ℕ → List Item → List Item
shrink_first text [] = []
shrink_first text (x ∷ xs) = if is_gone x then x ∷ shrink_first text xs else or_else x (shrunk text x) ∷ xs
