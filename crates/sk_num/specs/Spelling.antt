-- Numbers as texts: quantities in decimal, handles in hexadecimal, whole numbers.
use Rattle.std.specs.Prelude.{◌≡◌, ℕ, ◌+◌, ◌*◌, ◌/◌, ◌%◌, ◌^◌, ◌==◌, Bool, true, false, nat_le, nat_lt, List, [], ◌∷◌, length, ℤ, pos, ◌*ℤ◌, unsigned_abs, Option, Some, None, option_map, Result, Ok, Err, if◌then◌else◌}
use Rattle.std.specs.Int.{is_negative}
use Rattle.sk_num.specs.declared.decimal.Decimal.{Decimal}
use Rattle.sk_num.specs.Numerals.{numeral}
use Rattle.sk_num.specs.Decimals.{decimal_of, decimal_text}
use Rattle.sk_num.specs.Division.{nearest, signed}
use Rattle.sk_num.specs.declared.fault.NumFault.{NumFault}
use Rattle.sk_num.specs.declared.fault.NumFault.TheVariants.{BadNumber, OutOfGrid}
use Rattle.sk_num.specs.Limit.{IsInLimit, is_in_limit}
use Rattle.sk_num.specs.Scale.{IsScale}

-- ---- quantities: decimal numbers cut to 20 decimals, to the nearest unit

-- a decimal number as a whole number of 10^-20
abbrev pub numerator : Decimal → ℤ
numerator d = signed d.negative (d.whole * 10 ^ 20 + d.decimals)

-- how many units of 2^-s are nearest to it, halves away from zero
abbrev pub units_of : ℕ → Decimal → ℤ
units_of s d = nearest (numerator d *ℤ pos (2 ^ s)) (pos (10 ^ 20))

abbrev pub in_grid : ℤ → Result ℤ NumFault
in_grid z = if is_in_limit z then Ok z else Err OutOfGrid

abbrev pub read_as : ℕ → Option Decimal → Result ℤ NumFault
read_as s None = Err BadNumber
read_as s (Some d) = in_grid (units_of s d)

-- the grid number of a quantity text
unfoldable pub quantity_of : ℕ → List ℕ → Result ℤ NumFault
quantity_of s t = read_as s (decimal_of t)

-- the decimal number nearest to z units, halves away from zero
abbrev pub decimal_from : ℤ → Decimal
decimal_from n = record { negative = is_negative n; whole = unsigned_abs n / 10 ^ 20; decimals = unsigned_abs n % 10 ^ 20 }

-- the text of z units of 2^-s
unfoldable pub quantity_text : ℕ → ℤ → List ℕ
quantity_text s z = decimal_text (decimal_from (nearest (z *ℤ pos (10 ^ 20)) (pos (2 ^ s))))

-- what is written of a grid number reads back as it
abbrev pub QuantityLaw : Type 0
QuantityLaw = (s : ℕ) (z : ℤ) → IsScale s → IsInLimit z → quantity_of s (quantity_text s z) ≡ Ok z

-- ---- handles: one to eight hexadecimal digits

abbrev pub known_number : Option ℕ → Result ℕ NumFault
known_number None = Err BadNumber
known_number (Some n) = Ok n

unfoldable pub handle_of : List ℕ → Result ℕ NumFault
handle_of t = if nat_le (length t) 8 then known_number (numeral 16 t) else Err BadNumber

-- ---- whole numbers: an optional minus and decimal digits, in 32 bits

-- at least -2^31 and below 2^31
abbrev pub fits_i32 : ℤ → Bool
fits_i32 z = if is_negative z then nat_le (unsigned_abs z) (2 ^ 31) else nat_lt (unsigned_abs z) (2 ^ 31)

abbrev pub in_32_bits : Option ℤ → Result ℤ NumFault
in_32_bits None = Err BadNumber
in_32_bits (Some z) = if fits_i32 z then Ok z else Err OutOfGrid

unfoldable pub whole_of : List ℕ → Result ℤ NumFault
whole_of [] = Err BadNumber
whole_of (c ∷ cs) = if c == 45 then in_32_bits (option_map (signed true) (numeral 10 cs)) else in_32_bits (option_map (signed false) (numeral 10 (c ∷ cs)))
