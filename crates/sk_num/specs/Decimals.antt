-- Decimal numbers as texts: an optional minus, digits, and optionally a point with digits.
use Rattle.std.specs.Prelude.{ℕ, zero, suc, ◌+◌, ◌*◌, ◌^◌, ◌==◌, min, Bool, true, false, List, [], ◌∷◌, ◌++◌, Option, Some, None, option_map, option_and_then, if◌then◌else◌}
use Rattle.std.specs.Char.{digit_value}
use Rattle.std.specs.Fmt.{decimal}
use Rattle.sk_num.specs.declared.decimal.Decimal.{Decimal}
use Rattle.sk_num.specs.Numerals.{numeral, padded}

-- the first k digits behind the point, over 10^k; a digit that isn't there is 0
abbrev pub first_decimals : ℕ → List ℕ → ℕ
first_decimals zero ds = 0
first_decimals (suc k) [] = 0
first_decimals (suc k) (c ∷ cs) = digit_value c * 10 ^ k + first_decimals k cs

-- what stands before the first point (46), and what follows it where there is one
pub record Halves : Type 0 where
  pub front : List ℕ
  pub back : Option (List ℕ)

abbrev pub at_point : List ℕ → Halves
at_point [] = record { front = []; back = None }
at_point (c ∷ cs) = if c == 46 then record { front = []; back = Some cs } else record { front = c ∷ (at_point cs).front; back = (at_point cs).back }

-- 20 decimals; none where what follows the point isn't one digit or more
abbrev pub decimals_of : Option (List ℕ) → Option ℕ
decimals_of None = Some 0
decimals_of (Some ds) = option_map (λ _. first_decimals 20 ds) (numeral 10 ds)

abbrev pub unsigned_of : Bool → Halves → Option Decimal
unsigned_of negative h =
    option_and_then (λ w. option_map (λ d. record { negative = negative; whole = w; decimals = d }) (decimals_of h.back)) (numeral 10 h.front)

-- the number of a decimal text, none where the form is wrong; 45 is the minus
abbrev pub decimal_of : List ℕ → Option Decimal
decimal_of [] = None
decimal_of (c ∷ cs) = if c == 45 then unsigned_of true (at_point cs) else unsigned_of false (at_point (c ∷ cs))

-- the same number where its whole part is at most `most`, else with `most`
abbrev pub at_most : ℕ → Decimal → Decimal
at_most most d = record { negative = d.negative; whole = min d.whole most; decimals = d.decimals }

-- the text of a number with all 20 decimals
abbrev pub sign_text : Bool → List ℕ
sign_text true = 45 ∷ []
sign_text false = []

unfoldable pub decimal_text : Decimal → List ℕ
decimal_text d = sign_text d.negative ++ (decimal d.whole ++ 46 ∷ padded 10 20 d.decimals)
