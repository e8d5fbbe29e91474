-- Numbers written in digits: the most significant first, letters in either case.
use Rattle.std.specs.Prelude.{ℕ, zero, suc, ◌/◌, ◌%◌, ◌&&◌, Bool, true, List, [], ◌∷◌, ◌++◌, Option, Some, None, if◌then◌else◌, false}
use Rattle.std.specs.Char.{is_digit}
use Rattle.std.specs.Str.Parse.{digits_value}
use Rattle.std.specs.Fmt.{digit_glyph}

-- every byte is a digit in the base
abbrev pub all_digits : ℕ → List ℕ → Bool
all_digits base [] = true
all_digits base (c ∷ cs) = is_digit c base && all_digits base cs

-- the number that one or more digits write, where nothing else stands
abbrev pub numeral : ℕ → List ℕ → Option ℕ
numeral base [] = None
numeral base (c ∷ cs) = if all_digits base (c ∷ cs) then Some (digits_value base (c ∷ cs)) else None

-- the last digits of n in the base, so many as the width says, letters in lower case
unfoldable pub padded : ℕ → ℕ → ℕ → List ℕ
padded base zero n = []
padded base (suc k) n = padded base k (n / base) ++ digit_glyph false (n % base) ∷ []
