-- Readings at the numbers seen so far, and how a formula adds to what is seen by them.
use Rattle.std.specs.Prelude.{◌==◌, ℕ, zero, suc, ◌+◌, ◌*◌, ◌/◌, ℤ, pos, unsigned_abs, Bool, true, false, nat_le, List, [], ◌∷◌, ◌++◌, map, length, sum_by, unwrap_or, Option, Some, option_and_then, option_map, if◌then◌else◌}
use Rattle.std.specs.List.{position}
use Rattle.sk_num.specs.Each.{each_some}
use Rattle.sk_num.specs.Limit.{grid_of}
use Rattle.sk_num.specs.Rounding.{rounded_quotient}
use Rattle.sk_num.specs.Ends.{Ends, point, mid}
use Rattle.sk_expr.specs.Poly.{Poly, unknown}
use Rattle.sk_expr.specs.SpanValue.{span_value}
use Rattle.sk_expr.specs.Rows.{NamedRow}
use Rattle.sk_expr.specs.Seen.{Seen}
use Rattle.sk_expr.specs.Formula.{Auxiliary, length_of, quotient_of, own_row, Relation, row, without_greatest, lesser, Formula}
use Rattle.sk_expr.specs.declared.row.RowKind.{RowKind}

-- the midpoint of a polynomial's span at the numbers seen so far, None where it passes the limit
abbrev pub reading : ℕ → Seen → Poly ℤ → Option ℤ
reading s seen t = option_map mid (span_value s (map point seen.unknowns) seen.cosines t)

abbrev pub readings : ℕ → Seen → List (Poly ℤ) → Option (List ℤ)
readings s seen ts = each_some (reading s seen) ts

-- ---- auxiliaries

-- the root of n, rounded down, for n below 4^k: bit by bit
abbrev pub root_by : ℕ → ℕ → ℕ
root_by zero n = 0
root_by (suc k) n = let r = 2 * root_by k (n / 4) in if nat_le ((r + 1) * (r + 1)) n then r + 1 else r

-- the root of n, rounded down, for n up to 2^126
unfoldable pub floor_root : ℕ → ℕ
floor_root n = root_by 64 n

abbrev pub square_units : ℤ → ℕ
square_units z = unsigned_abs z * unsigned_abs z

-- the length of a vector with these readings, in units, rounded down
abbrev pub length_reading : List ℤ → Option ℤ
length_reading zs = grid_of (pos (floor_root (sum_by square_units zs)))

-- the quotient of readings, to the nearest; 0 where the denominator reads 0
abbrev pub quotient_reading : ℕ → ℤ → ℤ → Option ℤ
quotient_reading s n d = if unsigned_abs d == 0 then Some (pos 0) else rounded_quotient s n d

abbrev pub auxiliary_reading : ℕ → Seen → Auxiliary → Option ℤ
auxiliary_reading s seen (length_of a) = option_and_then length_reading (readings s seen a)
auxiliary_reading s seen (quotient_of n d) = option_and_then (λ x. option_and_then (quotient_reading s x) (reading s seen d)) (reading s seen n)

abbrev pub is_length : Auxiliary → Bool
is_length (length_of a) = true
is_length (quotient_of n d) = false

abbrev pub row_named : RowKind → ℕ → ℕ → Poly ℤ → NamedRow
row_named kind handle index t = record { name = record { kind = kind; handle = handle; index = index }; tree = t }

-- an auxiliary of that value is the next unknown; its own row, with the index 255, is the next row, forced on it
abbrev pub with_auxiliary : RowKind → ℕ → Seen → Auxiliary → ℤ → Seen
with_auxiliary kind handle seen x value = record {
  unknowns = seen.unknowns ++ (value ∷ []);
  rows = seen.rows ++ (row_named kind handle 255 (own_row (unknown (length seen.unknowns)) x) ∷ []);
  cosines = seen.cosines;
  forced = seen.forced ++ (record { row = length seen.rows; column = length seen.unknowns; is_length = is_length x } ∷ []);
}

abbrev pub add_auxiliary : ℕ → RowKind → ℕ → Auxiliary → Seen → Option Seen
add_auxiliary s kind handle x seen = option_map (with_auxiliary kind handle seen x) (auxiliary_reading s seen x)

abbrev pub add_auxiliaries : ℕ → RowKind → ℕ → List Auxiliary → Seen → Option Seen
add_auxiliaries s kind handle [] seen = Some seen
add_auxiliaries s kind handle (x ∷ xs) seen = option_and_then (add_auxiliaries s kind handle xs) (add_auxiliary s kind handle x seen)

-- ---- relation rows

-- whether no number is greater in absolute value
abbrev pub no_greater : List ℤ → ℤ → Bool
no_greater [] z = true
no_greater (x ∷ xs) z = if nat_le (unsigned_abs x) (unsigned_abs z) then no_greater xs z else false

-- the first place of the greatest absolute number
abbrev pub greatest_place : List ℤ → ℕ
greatest_place zs = unwrap_or (position (no_greater zs) zs) 0

abbrev pub without : {A : Type 0} → ℕ → List A → List A
without i [] = []
without zero (x ∷ xs) = xs
without (suc i) (x ∷ xs) = x ∷ without i xs

-- the one that reads less in absolute value, the first where both read the same
abbrev pub lesser_of : Poly ℤ → Poly ℤ → ℤ → ℤ → Poly ℤ
lesser_of t u x y = if nat_le (unsigned_abs x) (unsigned_abs y) then t else u

abbrev pub relation_rows : ℕ → Seen → Relation → Option (List (Poly ℤ))
relation_rows s seen (row t) = Some (t ∷ [])
relation_rows s seen (without_greatest a b) = option_map (λ zs. without (greatest_place zs) b) (readings s seen a)
relation_rows s seen (lesser t u) = option_and_then (λ x. option_map (λ y. lesser_of t u x y ∷ []) (reading s seen u)) (reading s seen t)

abbrev pub all_relation_rows : ℕ → Seen → List Relation → Option (List (Poly ℤ))
all_relation_rows s seen [] = Some []
all_relation_rows s seen (r ∷ rs) = option_and_then (λ ts. option_map (λ us. ts ++ us) (all_relation_rows s seen rs)) (relation_rows s seen r)

-- ---- a formula

-- relation rows are counted from 0
abbrev pub rows_from : RowKind → ℕ → ℕ → List (Poly ℤ) → List NamedRow
rows_from kind handle i [] = []
rows_from kind handle i (t ∷ ts) = row_named kind handle i t ∷ rows_from kind handle (i + 1) ts

-- what is seen once a formula's auxiliaries and cosines are made, and its relation rows
pub record Grown : Type 0 where
  pub seen : Seen
  pub rows : List NamedRow

abbrev pub with_cosines : List Ends → Seen → Seen
with_cosines es seen = record seen { cosines = seen.cosines ++ es }

abbrev pub grown : RowKind → ℕ → Formula → Seen → List (Poly ℤ) → Grown
grown kind handle f seen ts = record { seen = with_cosines f.cosines seen; rows = rows_from kind handle 0 ts }

-- the auxiliaries come first, one after another, then the relation rows by the readings of all; none past the limit
unfoldable pub grown_by : ℕ → RowKind → ℕ → Formula → Seen → Option Grown
grown_by s kind handle f seen =
    option_and_then (λ (more : Seen). option_map (grown kind handle f more) (all_relation_rows s more f.relations))
    (add_auxiliaries s kind handle f.auxiliaries seen)

-- with the relation rows behind all others
abbrev pub with_relations : Grown → Seen
with_relations g =
    let seen = g.seen in
    record seen { rows = seen.rows ++ g.rows }
