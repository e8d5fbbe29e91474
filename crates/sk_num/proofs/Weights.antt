-- Decimals that are read digit by digit, each with a tenth of the weight before.
use Rattle.std.proofs.Common.{◌≡◌, ℕ, zero, suc, ◌+◌, ◌*◌, ◌/◌, ◌^◌, ◌<◌, ◌≤◌, length, get_or, drop, List, [], ◌∷◌, Option, Some, None, Bool, true, false, option_map, if◌then◌else◌, ap, ◌∙◌, refl, arith, ◌⊎◌, ⊎_elim, inl, inr}
use Rattle.std.proofs.lemmas.Bool.{cases_lt}
use Rattle.std.proofs.lemmas.List.{drop_more, drop_all}
use Rattle.std.proofs.Math.Nat.{pow-suc, mul-le-mul_right}
use Rattle.std.specs.Char.{is_digit, digit_value}
use Rattle.std.specs.Str.Parse.{digits_value}
use Rattle.sk_num.specs.Numerals.{all_digits}
use Rattle.sk_num.specs.Decimals.{first_decimals, decimals_of}

abbrev pub weighed : ℕ → List ℕ → ℕ
weighed w [] = 0
weighed w (c ∷ cs) = digit_value c * (w / 10) + weighed (w / 10) cs

-- reading on with the weight w and the value v
abbrev pub weighing : ℕ → ℕ → List ℕ → Option ℕ
weighing w v [] = Some v
weighing w v (c ∷ cs) = if is_digit c 10 then weighing (w / 10) (v + digit_value c * (w / 10)) cs else None

weightless : (ds : List ℕ) → weighed 0 ds ≡ 0
weightless [] = refl
weightless (c ∷ cs) = ap (λ z. digit_value c * 0 + z) (weightless cs) ∙ omega arith

tenth : (k : ℕ) → 10 ^ suc k / 10 ≡ 10 ^ k
tenth k = omega (arith, pow-suc 10 k)

pub weighed-is : (k : ℕ) (ds : List ℕ) → weighed (10 ^ k) ds ≡ first_decimals k ds
weighed-is zero [] = refl
weighed-is zero (c ∷ cs) = ap (λ z. digit_value c * 0 + z) (weightless cs) ∙ omega arith
weighed-is (suc k) [] = refl
weighed-is (suc k) (c ∷ cs) = ap (λ z. digit_value c * z + weighed z cs) (tenth k) ∙ ap (λ z. digit_value c * 10 ^ k + z) (weighed-is k cs)

abbrev all_or_none : Bool → ℕ → Option ℕ
all_or_none t n = if t then Some n else None

two : (t : Bool) → (t ≡ true) ⊎ (t ≡ false)
two true = inl refl
two false = inr refl

weighing-from : (w v : ℕ) (ds : List ℕ) → weighing w v ds ≡ all_or_none (all_digits 10 ds) (v + weighed w ds)
weighing-from w v [] = ap Some (omega arith)
weighing-from w v (c ∷ cs) =
    elim (two (is_digit c 10)) [
      | inl e ↦ rw e (weighing-from (w / 10) (v + digit_value c * (w / 10)) cs ∙ ap (all_or_none (all_digits 10 cs)) (omega arith))
      | inr e ↦ rw e refl
    ]

pub weighing-is : (ds : List ℕ) → 0 < length ds → weighing (10 ^ 20) 0 ds ≡ decimals_of (Some ds)
weighing-is [] h = absurd (omega arith)
weighing-is (c ∷ cs) h =
    weighing-from (10 ^ 20) 0 (c ∷ cs)
    ∙ ap (all_or_none (all_digits 10 (c ∷ cs))) (ap (λ z. 0 + z) (weighed-is 20 (c ∷ cs)) ∙ omega arith)
    ∙ chosen (all_digits 10 (c ∷ cs)) (first_decimals 20 (c ∷ cs)) (digits_value 10 (c ∷ cs))
  where
    chosen : (t : Bool) (n m : ℕ) → all_or_none t n ≡ option_map (λ _. n) (if t then Some m else None)
    chosen true n m = refl
    chosen false n m = refl

pub weighing_stop : (w v i : ℕ) (ds : List ℕ) (b : ℕ) → i < length ds → b ≡ get_or ds i 0 → ¬ (digit_value b < 10) → weighing w v (drop i ds) ≡ None
weighing_stop w v i ds b l e h = rw (drop_more ds i 0 l, ← e, not_digit b h) refl
  where
    not_digit : (b : ℕ) → ¬ (digit_value b < 10) → is_digit b 10 ≡ false
    not_digit b h = grind arith

pub weighing_end : (w v i : ℕ) (ds : List ℕ) → length ds ≤ i → weighing w v (drop i ds) ≡ Some v
weighing_end w v i ds l = rw drop_all refl

pub weighing_more : (w v i : ℕ) (ds : List ℕ) (b d : ℕ) → i < length ds → b ≡ get_or ds i 0 → digit_value b < 10 → d ≡ digit_value b → weighing (w / 10) (v + d * (w / 10)) (drop (i + 1) ds) ≡ weighing w v (drop i ds)
weighing_more w v i ds b d l e h same = rw (drop_more ds i 0 l, ← e, a_digit b h, ← same) refl
  where
    a_digit : (b : ℕ) → digit_value b < 10 → is_digit b 10 ≡ true
    a_digit b h = grind arith

pub weight_falls : (v w d most : ℕ) → d < 10 → v + w ≤ most → v + d * (w / 10) + w / 10 ≤ most
weight_falls v w d most h l =
    let nine : d ≤ 9 = omega arith in
    let m : d * (w / 10) ≤ 9 * (w / 10) = mul-le-mul_right (w / 10) nine in
    omega (arith, m)

pub weight_below : (v w d most : ℕ) → d < 10 → v + w ≤ most → v < most → v + d * (w / 10) < most
weight_below v w d most h l b = ⊎_elim (λ (o : 0 < w / 10). omega (arith, weight_falls v w d most h l)) (λ (o : w / 10 ≤ 0). still (w / 10) (omega arith)) (cases_lt 0 (w / 10))
  where
    still : (t : ℕ) → t ≡ 0 → v + d * t < most
    still t e = rw e (omega arith)
