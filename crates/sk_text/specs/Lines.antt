-- The lines of a text. A line reaches up to its line feed; the last may have none.
use Rattle.std.specs.Prelude.{◌≡◌, ◌⊎◌, ◌≤◌, ℕ, ◌+◌, ◌-◌, List, [], ◌∷◌, ◌++◌, Bool, true, false, if◌then◌else◌, nat_eq, length, take, drop, map, slice_index}
use Rattle.std.specs.List.{flat_map}

-- a line: its body, and its end
pub record TextLine : Type 0 where
  pub body : List ℕ
  pub ending : List ℕ

-- a line, and the index of its first byte
pub record PlacedLine : Type 0 where
  pub at : ℕ
  pub line : TextLine

abbrev pub line_at : PlacedLine → TextLine
line_at p = p.line

-- the bytes of a line
abbrev pub line_bytes : TextLine → List ℕ
line_bytes l = l.body ++ l.ending

-- bodies and ends, joined
abbrev pub joined : List TextLine → List ℕ
joined ls = flat_map line_bytes ls

-- a byte goes onto the first line
abbrev pub onto_first : ℕ → List (List ℕ) → List (List ℕ)
onto_first b [] = (b ∷ []) ∷ []
onto_first b (l ∷ ls) = (b ∷ l) ∷ ls

-- the lines of a text, each with its end: a line feed (byte 10) is the last byte of its line
abbrev pub whole_lines : List ℕ → List (List ℕ)
whole_lines [] = []
whole_lines (b ∷ bs) = if nat_eq b 10 then (b ∷ []) ∷ whole_lines bs else onto_first b (whole_lines bs)

-- the length of a line's end: a line feed, and the carriage return (byte 13) directly before it; or nothing
unfoldable pub end_len : List ℕ → ℕ
end_len l = if nat_eq (slice_index l (length l - 1)) 10 then (if nat_eq (slice_index l (length l - 2)) 13 then 2 else 1) else 0

-- the body and the end of a line
abbrev pub cut : List ℕ → TextLine
cut l = record { body = take (length l - end_len l) l; ending = drop (length l - end_len l) l }

-- the lines of a text
abbrev pub lines_in : List ℕ → List TextLine
lines_in text = map cut (whole_lines text)

abbrev pub placed_from : ℕ → List (List ℕ) → List PlacedLine
placed_from at [] = []
placed_from at (l ∷ ls) = record { at = at; line = cut l } ∷ placed_from (at + length l) ls

-- the lines of a text, with their places
abbrev pub lines_of : List ℕ → List PlacedLine
lines_of text = placed_from 0 (whole_lines text)

-- the line stands in the text where it says, and its end has at most two bytes
pub record IsPart (text : List ℕ) (p : PlacedLine) : Type 0 where
  pub within : p.at + length (line_bytes p.line) ≤ length text
  pub bytes : take (length (line_bytes p.line)) (drop p.at text) ≡ line_bytes p.line
  pub short : length p.line.ending ≤ 2

abbrev pub is_empty : List ℕ → Bool
is_empty [] = true
is_empty (b ∷ bs) = false

-- no line feed
abbrev pub NoFeed : List ℕ → Type 0
NoFeed [] = Unit {0}
NoFeed (b ∷ bs) = (nat_eq b 10 ≡ false) × NoFeed bs

-- the last byte is a carriage return
abbrev pub ends_in_return : List ℕ → Bool
ends_in_return [] = false
ends_in_return (b ∷ []) = nat_eq b 13
ends_in_return (b ∷ (c ∷ cs)) = ends_in_return (c ∷ cs)

-- the end of a line with this body: a line feed, or a carriage return and a line feed
abbrev pub IsEnd : List ℕ → List ℕ → Type 0
IsEnd body ending = ((ending ≡ 10 ∷ []) × (ends_in_return body ≡ false)) ⊎ (ending ≡ 13 ∷ 10 ∷ [])

-- a line with an end
pub record IsEnded (l : TextLine) : Type 0 where
  pub clear : NoFeed l.body
  pub end : IsEnd l.body l.ending

-- a last line without an end
pub record IsUnended (l : TextLine) : Type 0 where
  pub clear : NoFeed l.body
  pub some : is_empty l.body ≡ false
  pub none : l.ending ≡ []

-- lines as a text has them: each but the last has an end
abbrev pub AreLines : List TextLine → Type 0
AreLines [] = Unit {0}
AreLines (l ∷ []) = IsEnded l ⊎ IsUnended l
AreLines (l ∷ (m ∷ ms)) = IsEnded l × AreLines (m ∷ ms)
