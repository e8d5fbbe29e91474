-- What is read under a key of a record.
use Rattle.std.specs.Prelude.{ℕ, zero, suc, ℤ, pos, negsuc, List, Option, Some, None, Bool, true, false, Result, Ok, Err, unwrap_or}
use Rattle.sk_num.specs.declared.fault.NumFault.{NumFault}
use Rattle.sk_num.specs.Spelling.{handle_of, whole_of, quantity_of}
use Rattle.sk_records.specs.Rows.{Row, last_value, last_number}
use Rattle.sk_link.specs.declared.fault.Refusal.{Refusal}
use Rattle.sk_link.specs.declared.fault.Refusal.TheVariants.{Number}
use Rattle.sk_link.specs.declared.keys.Key.{Key}
use Rattle.sk_link.specs.Chain.{then_of}
use Rattle.sk_link.specs.Keys.{key_bytes}

-- a text that doesn't read is refused by the number of its line
abbrev pub read_at : {T : Type 0} → Option ℕ → Result T NumFault → Result T Refusal
read_at line (Ok x) = Ok x
read_at line (Err e) = Err (Number (unwrap_or line 0))

abbrev pub value_as : {T : Type 0} → (List ℕ → Result T NumFault) → T → Option ℕ → Option (List ℕ) → Result T Refusal
value_as read absent line None = Ok absent
value_as read absent line (Some text) = read_at line (read text)

-- the value of the last line with the key; an absent key has the default
abbrev pub read_under : {T : Type 0} → (List ℕ → Result T NumFault) → T → List ℕ → List Row → Result T Refusal
read_under read absent key rows = value_as read absent (last_number key rows) (last_value key rows)

unfoldable pub handle_under : Key → List Row → Result ℕ Refusal
handle_under key rows = read_under handle_of 0 (key_bytes key) rows

unfoldable pub whole_under : Key → List Row → Result ℤ Refusal
whole_under key rows = read_under whole_of (pos 0) (key_bytes key) rows

-- units of 2^-s
unfoldable pub quantity_under : ℕ → Key → List Row → Result ℤ Refusal
quantity_under s key rows = read_under (quantity_of s) (pos 0) (key_bytes key) rows

-- a truth value is a whole number: any but 0 is true
abbrev pub is_true : ℤ → Bool
is_true (pos zero) = false
is_true (pos (suc n)) = true
is_true (negsuc n) = true

unfoldable pub flag_under : Key → List Row → Result Bool Refusal
flag_under key rows = then_of (whole_under key rows) (λ z. Ok (is_true z))
