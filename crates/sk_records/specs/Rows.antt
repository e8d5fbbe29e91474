-- The lines of a record, and what is read from them.
use Rattle.std.specs.Prelude.{ℕ, suc, List, [], ◌∷◌, ◌++◌, Option, Some, None, Bool, true, false, if◌then◌else◌}
use Rattle.std.specs.Option.{option_map, option_or}
use Rattle.std.specs.List.{filter}
use Rattle.std.specs.Str.{bytes_eq}
use Rattle.sk_text.specs.Keys.{parts_at_equals}
pub use Rattle.sk_records.specs.declared.rows.Role.{Role}
pub use Rattle.sk_records.specs.declared.rows.Role.TheVariants.{Plain, Brace, Entry}

-- a line of a record, with its number where it was read and not added
pub record Row : Type 0 where
  pub number : Option ℕ
  pub role : Role
  pub body : List ℕ
  pub ending : List ℕ

abbrev pub value_under : List ℕ → Option (List ℕ × List ℕ) → Option (List ℕ)
value_under key None = None
value_under key (Some p) = if bytes_eq p.0 key then Some p.1 else None

-- what stands behind the first `=` of a value line with the key; a line of a remap list has no value
abbrev pub value_at : List ℕ → Role → List ℕ → Option (List ℕ)
value_at key Plain body = value_under key (parts_at_equals body)
value_at key Brace body = None
value_at key Entry body = None

abbrev pub value_in : List ℕ → Row → Option (List ℕ)
value_in key r = value_at key r.role r.body

-- the value of a key: that of the last line with it
abbrev pub last_value : List ℕ → List Row → Option (List ℕ)
last_value key [] = None
last_value key (r ∷ rs) = option_or (last_value key rs) (value_in key r)

abbrev pub is_known : {X : Type 0} → Option X → Bool
is_known None = false
is_known (Some x) = true

-- the number of the last line with the key, where it was read
abbrev pub last_number : List ℕ → List Row → Option ℕ
last_number key [] = None
last_number key (r ∷ rs) = if is_known (last_value key rs) then last_number key rs else (if is_known (value_in key r) then r.number else None)

abbrev pub is_plain_role : Role → Bool
is_plain_role Plain = true
is_plain_role Brace = false
is_plain_role Entry = false

abbrev pub is_entry_role : Role → Bool
is_entry_role Plain = false
is_entry_role Brace = false
is_entry_role Entry = true

abbrev pub is_plain : Row → Bool
is_plain r = is_plain_role r.role

-- the entries of the remap lists, in order
abbrev pub entries : List Row → List Row
entries rows = filter (λ (r : Row). is_entry_role r.role) rows

-- ---- changes of a record's lines

abbrev pub value_body : List ℕ → List ℕ → List ℕ
value_body key value = key ++ 61 ∷ value

-- a line that a change adds: it ends with a line feed
abbrev pub added_row : Role → List ℕ → Row
added_row role body = record { number = None; role = role; body = body; ending = 10 ∷ [] }

abbrev pub with_body : List ℕ → Row → Row
with_body body r = record { number = r.number; role = r.role; body = body; ending = r.ending }

-- A value is set on the last line with the key, whose end stays; where there is none, on a line at the end.
abbrev pub with_value : List ℕ → List ℕ → List Row → List Row
with_value key value [] = added_row Plain (value_body key value) ∷ []
with_value key value (r ∷ rs) =
    if is_known (last_value key rs) then r ∷ with_value key value rs else
    if is_known (value_in key r) then with_body (value_body key value) r ∷ rs else
    r ∷ with_value key value rs

-- A remap list stands in the place of the first, and further lists go; where there is none, it stands at the end.
abbrev pub with_map : List Row → List Row → List Row
with_map new [] = new
with_map new (r ∷ rs) = if is_plain r then r ∷ with_map new rs else new ++ filter is_plain rs

-- the place of the last line with the key
abbrev pub last_place : List ℕ → List Row → Option ℕ
last_place key [] = None
last_place key (r ∷ rs) = option_or (option_map suc (last_place key rs)) (if is_known (value_in key r) then Some 0 else None)
