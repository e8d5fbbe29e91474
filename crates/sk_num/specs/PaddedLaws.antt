-- Digits that are written are read as the number.
use Rattle.std.proofs.Common.{◌≡◌, ℕ, zero, suc, ◌+◌, ◌*◌, ◌/◌, ◌%◌, ◌^◌, ◌<◌, ◌≤◌, length, List, [], ◌∷◌, ◌++◌, Bool, true, false, ap, ◌∙◌, refl, arith, rules, length-append, ◌&&◌, ltb}
use Rattle.std.specs.Char.{is_digit, digit_value}
use Rattle.std.specs.Fmt.{decimal, digit_glyph}
use Rattle.std.specs.Str.Parse.{digits_value}
use Rattle.std.proofs.lemmas.Fmt.{decimal_step}
use Rattle.std.proofs.lemmas.Str.Parse.{IsNumeralModel, numerals_by_weight}
use Rattle.std.proofs.lemmas.Int.Digits.{digits_value_push}
use Rattle.std.proofs.Math.Nat.{pow-zero, pow-suc}
use Rattle.std.proofs.lemmas.Nat.{div_below, mod_below, div-add-mod'}
use Rattle.sk_num.specs.Decimals.{first_decimals}
use Rattle.sk_num.specs.Numerals.{all_digits, padded}

pub length-padded : (base k n : ℕ) → length (padded base k n) ≡ k
unfolding padded
length-padded base zero n = refl
length-padded base (suc k) n = length-append (padded base k (n / base)) _ ∙ ap (λ z. z + 1) (length-padded base k (n / base)) ∙ omega arith

pub length-decimal_step : (n : ℕ) → 10 ≤ n → n < 2 ^ 64 → length (decimal n) ≡ length (decimal (n / 10)) + 1
length-decimal_step n h k = ap length (decimal_step n h k) ∙ length-append (decimal (n / 10)) _

pub both_true : (a b : Bool) → (a && b) ≡ true → (a ≡ true) × (b ≡ true)
both_true true b e = (refl, e)
both_true false b e = cc

-- the glyph of a digit is read as the digit
digit_value-glyph : (d : ℕ) → d < 16 → digit_value (digit_glyph false d) ≡ d
digit_value-glyph d h = grind arith

pub value-padded : (base k n : ℕ) → 2 ≤ base → base ≤ 16 → n < base ^ k → digits_value base (padded base k n) ≡ n
unfolding padded
value-padded base zero n l h small = omega (arith, pow-zero base)
value-padded base (suc k) n l h small =
    let below : n / base < base ^ k = div_below n base (base ^ k) (omega arith) (omega (arith, pow-suc base k)) in
    digits_value_push base (padded base k (n / base)) (digit_glyph false (n % base))
    ∙ ap (λ z. z * base + digit_value (digit_glyph false (n % base))) (value-padded base k (n / base) l h below)
    ∙ ap (λ z. n / base * base + z) (digit_value-glyph (n % base) (omega (arith, mod_below n base (omega arith))))
    ∙ div-add-mod' n base

all_digits-push : (base : ℕ) (ds : List ℕ) (c : ℕ) → all_digits base ds ≡ true → is_digit c base ≡ true → all_digits base (ds ++ c ∷ []) ≡ true
all_digits-push base [] c e h = rw h refl
all_digits-push base (d ∷ ds) c e h =
    let (a, b) = both_true (is_digit d base) (all_digits base ds) e in
    rw (a, all_digits-push base ds c b h) refl

pub below_true : {d base : ℕ} → d < base → ltb d base ≡ true
below_true l = grind arith

pub digits-padded : (base k n : ℕ) → 2 ≤ base → base ≤ 16 → all_digits base (padded base k n) ≡ true
unfolding padded
digits-padded base zero n l h = refl
digits-padded base (suc k) n l h = all_digits-push base (padded base k (n / base)) _ (digits-padded base k (n / base) l h) (glyph_fits base (n % base) h (mod_below n base (omega arith)))
  where
    glyph_fits : (base d : ℕ) → base ≤ 16 → d < base → is_digit (digit_glyph false d) base ≡ true
    glyph_fits base d h l = rw (digit_value-glyph d (omega arith)) (below_true l)

-- the decimals of a known count are the number that the digits write
counted : IsNumeralModel (λ ds. all_digits 10 ds ≡ true) (λ ds. first_decimals (length ds) ds)
counted = numerals_by_weight (λ ds. all_digits 10 ds ≡ true) (search rules) (λ ds. first_decimals (length ds) ds) (search rules)

pub first_decimals-all : (ds : List ℕ) → all_digits 10 ds ≡ true → first_decimals (length ds) ds ≡ digits_value 10 ds
first_decimals-all ds d = counted.same ds (counted.to ds d)
