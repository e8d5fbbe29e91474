-- A decimal text that is written is read back as its number.
use Rattle.std.proofs.Common.{None, if◌then◌else◌, subst, ◌≡◌, ℕ, ◌^◌, ◌<◌, ◌≤◌, length, List, [], ◌∷◌, ◌++◌, Some, Bool, true, false, option_map, ap, sym, ◌∙◌, refl, arith, eqb}
use Rattle.std.specs.Char.{is_digit, digit_value}
use Rattle.std.specs.Fmt.{decimal}
use Rattle.std.specs.Str.Parse.{digits_value, AllDigits}
use Rattle.std.proofs.lemmas.Int.Digits.{digits_value-lt}
use Rattle.std.proofs.lemmas.Fmt.{decimal_is_IsNumeral_wide}
use Rattle.sk_num.specs.declared.decimal.Decimal.{Decimal}
use Rattle.sk_num.specs.Numerals.{all_digits, numeral, padded}
use Rattle.sk_num.specs.Decimals.{first_decimals, at_point, decimals_of, unsigned_of, decimal_of, decimal_text, sign_text}
use Rattle.sk_num.specs.PaddedLaws.{length-padded, digits-padded, value-padded, first_decimals-all, below_true, both_true}

pub all_digits-from : (base : ℕ) (ds : List ℕ) → AllDigits base ds → all_digits base ds ≡ true
all_digits-from base [] h = refl
all_digits-from base (c ∷ cs) h = rw (below_true h.0, all_digits-from base cs h.1) refl

pub numeral-all : (base : ℕ) (ds : List ℕ) → 0 < length ds → all_digits base ds ≡ true → numeral base ds ≡ Some (digits_value base ds)
numeral-all base [] l h = absurd (omega arith)
numeral-all base (c ∷ cs) l h = rw h refl

pub numeral-decimal : (n : ℕ) → n < 10 ^ 64 → numeral 10 (decimal n) ≡ Some n
numeral-decimal n h =
    let (i, v) = decimal_is_IsNumeral_wide n h in
    numeral-all 10 (decimal n) i.0 (all_digits-from 10 (decimal n) i.1) ∙ ap Some v

pub decimals-padded : (n : ℕ) → n < 10 ^ 20 → decimals_of (Some (padded 10 20 n)) ≡ Some n
decimals-padded n h =
    let ds = padded 10 20 n in
    let d = digits-padded 10 20 n (omega arith) (omega arith) in
    let l = length-padded 10 20 n in
    let v = value-padded 10 20 n (omega arith) (omega arith) h in
    ap (option_map (λ _. first_decimals 20 ds)) (numeral-all 10 ds (omega (arith, l)) d)
    ∙ ap Some (ap (λ k. first_decimals k ds) (sym l) ∙ first_decimals-all ds d ∙ v)

-- digits hold no point and no minus
pub no_sign : (c : ℕ) → is_digit c 10 ≡ true → (eqb c 46 ≡ false) × (eqb c 45 ≡ false)
no_sign c h = (grind arith, grind arith)

at_point-digits : (ds es : List ℕ) → all_digits 10 ds ≡ true → at_point (ds ++ 46 ∷ es) ≡ record { front = ds; back = Some es }
at_point-digits [] es h = refl
at_point-digits (c ∷ cs) es h =
    let (a, b) = both_true (is_digit c 10) (all_digits 10 cs) h in
    rw ((no_sign c a).0, at_point-digits cs es b) refl

unsigned-text : (t : Bool) (d : Decimal) → d.whole < 10 ^ 64 → d.decimals < 10 ^ 20 → unsigned_of t (at_point (decimal d.whole ++ 46 ∷ padded 10 20 d.decimals)) ≡ Some (record d { negative = t })
unsigned-text t d w f =
    let (i, v) = decimal_is_IsNumeral_wide d.whole w in
    rw (at_point-digits (decimal d.whole) (padded 10 20 d.decimals) (all_digits-from 10 (decimal d.whole) i.1), numeral-decimal d.whole w, decimals-padded d.decimals f) refl

-- with no minus in front
plain-text : (ds es : List ℕ) → 0 < length ds → all_digits 10 ds ≡ true → decimal_of (ds ++ es) ≡ unsigned_of false (at_point (ds ++ es))
plain-text [] es l h = absurd (omega arith)
plain-text (c ∷ cs) es l h =
    let (a, b) = both_true (is_digit c 10) (all_digits 10 cs) h in
    rw (no_sign c a).1 refl

pub read_back : (d : Decimal) → d.whole < 10 ^ 64 → d.decimals < 10 ^ 20 → decimal_of (decimal_text d) ≡ Some d
unfolding decimal_text
read_back d w f = by_sign d.negative refl
  where
    by_sign : (t : Bool) → d.negative ≡ t → decimal_of (sign_text d.negative ++ (decimal d.whole ++ 46 ∷ padded 10 20 d.decimals)) ≡ Some d
    by_sign true e = rw e (unsigned-text true d w f)
    by_sign false e =
        let (i, v) = decimal_is_IsNumeral_wide d.whole w in
        rw e (plain-text (decimal d.whole) (46 ∷ padded 10 20 d.decimals) i.0 (all_digits-from 10 (decimal d.whole) i.1) ∙ unsigned-text false d w f)

pub numeral-padded : (base k n : ℕ) → 2 ≤ base → base ≤ 16 → 0 < k → n < base ^ k → numeral base (padded base k n) ≡ Some n
numeral-padded base k n l h some small =
    numeral-all base (padded base k n) (omega (arith, length-padded base k n)) (digits-padded base k n l h) ∙ ap Some (value-padded base k n l h small)

all_digits-to : (base : ℕ) (ds : List ℕ) → all_digits base ds ≡ true → AllDigits base ds
all_digits-to base [] h = tt
all_digits-to base (c ∷ cs) h = let (a, b) = both_true (is_digit c base) (all_digits base cs) h in (digit_below c base a, all_digits-to base cs b)
  where
    digit_below : (c base : ℕ) → is_digit c base ≡ true → digit_value c < base
    digit_below c base h = grind arith

-- so many digits write a number below that power of the base
pub numeral-lt : (base : ℕ) (ds : List ℕ) (n : ℕ) → numeral base ds ≡ Some n → n < base ^ length ds
numeral-lt base [] n e = absurd (none n e)
  where
    none : (n : ℕ) → None ≡ Some n → ⊥
    none n e = cc
numeral-lt base (c ∷ cs) n e = by_test (all_digits base (c ∷ cs)) refl e
  where
    by_test : (t : Bool) → all_digits base (c ∷ cs) ≡ t → (if t then Some (digits_value base (c ∷ cs)) else None) ≡ Some n → n < base ^ length (c ∷ cs)
    by_test true h e = let same : digits_value base (c ∷ cs) ≡ n = cc in subst (λ (m : ℕ). m < base ^ length (c ∷ cs)) same (digits_value-lt base (c ∷ cs) (all_digits-to base (c ∷ cs) h))
    by_test false h e = absurd (none n e)
      where
        none : (n : ℕ) → None ≡ Some n → ⊥
        none n e = cc
