-- What is read under a key of a record.
use Rattle.std.specs.Prelude.{ℕ, ◌==◌, ℤ, pos, negsuc, List, [], Option, Some, None, Bool, false, not, Result, Ok, Err, unwrap_or}
use Rattle.sk_num.specs.declared.fault.NumFault.{NumFault}
use Rattle.sk_num.specs.Spelling.{handle_of, whole_of, quantity_of}
use Rattle.sk_records.specs.declared.kinds.Kind.{Kind}
use Rattle.sk_records.specs.Rows.{Row, last_value, last_number}
use Rattle.sk_model.specs.declared.faults.ModelFault.{ModelFault}
use Rattle.sk_model.specs.declared.faults.ModelFault.TheVariants.{NumberAt}
use Rattle.sk_model.specs.declared.keys.Key.{Key}
use Rattle.sk_model.specs.Keys.{key_bytes}
use Rattle.sk_model.specs.Chain.{then_of}

-- the lines of a record of a kind
pub record RecordLines : Type 0 where
  pub kind : Kind
  pub rows : List Row

-- a text that doesn't read is refused by the number of its line; a line that a call added has none
abbrev pub read_at : {T : Type 0} → Option ℕ → Result T NumFault → Result T ModelFault
read_at line (Ok x) = Ok x
read_at line (Err e) = Err (NumberAt (unwrap_or line 0))

abbrev pub value_as : {T : Type 0} → (List ℕ → Result T NumFault) → T → Option ℕ → Option (List ℕ) → Result T ModelFault
value_as read absent line None = Ok absent
value_as read absent line (Some text) = read_at line (read text)

-- the value of the last line with the key; an absent key has the default
abbrev pub read_under : {T : Type 0} → (List ℕ → Result T NumFault) → T → List ℕ → List Row → Result T ModelFault
read_under read absent key rows = value_as read absent (last_number key rows) (last_value key rows)

unfoldable pub handle_under : Key → List Row → Result ℕ ModelFault
handle_under key rows = read_under handle_of 0 (key_bytes key) rows

unfoldable pub whole_under : Key → List Row → Result ℤ ModelFault
whole_under key rows = read_under whole_of (pos 0) (key_bytes key) rows

-- units of 2^-s
unfoldable pub quantity_under : ℕ → ℤ → Key → List Row → Result ℤ ModelFault
quantity_under s absent key rows = read_under (quantity_of s) absent (key_bytes key) rows

abbrev pub is_number : ℕ → ℤ → Bool
is_number n (pos m) = m == n
is_number n (negsuc m) = false

-- a truth value is a whole number: any but 0 is true
unfoldable pub flag_under : Key → List Row → Result Bool ModelFault
flag_under key rows = then_of (whole_under key rows) (λ z. Ok (not (is_number 0 z)))

-- an absent text is empty
unfoldable pub text_under : Key → List Row → List ℕ
text_under key rows = unwrap_or (last_value (key_bytes key) rows) []
