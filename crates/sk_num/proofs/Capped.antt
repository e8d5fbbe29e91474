-- A number that is read digit by digit and never kept past a limit.
use Rattle.std.proofs.Common.{◌≡◌, ℕ, ◌+◌, ◌*◌, ◌<◌, ◌≤◌, min, length, List, [], ◌∷◌, Option, Some, None, Bool, true, false, option_map, if◌then◌else◌, ap, ◌∙◌, refl, arith, get_or, drop, ⊎_elim, ◌⊎◌, inl, inr}
use Rattle.std.proofs.lemmas.Bool.{cases_lt}
use Rattle.std.proofs.Math.Nat.{mul-le-mul_right}
use Rattle.std.proofs.lemmas.List.{drop_more, drop_all}
use Rattle.std.specs.Char.{is_digit, digit_value}
use Rattle.std.specs.Str.Parse.{digits_value_after}
use Rattle.sk_num.specs.Numerals.{all_digits, numeral}

-- reading on from n
abbrev pub capped : ℕ → ℕ → ℕ → List ℕ → Option ℕ
capped base most n [] = Some n
capped base most n (c ∷ cs) = if is_digit c base then capped base most (min (n * base + digit_value c) most) cs else None

abbrev pub value_from : ℕ → ℕ → List ℕ → Option ℕ
value_from base n ds = if all_digits base ds then Some (digits_value_after base n ds) else None

capped_once : (base most n d : ℕ) → 1 ≤ base → min (min n most * base + d) most ≡ min (n * base + d) most
capped_once base most n d h =
    ⊎_elim
    (λ (o : most < n). let a : most * 1 ≤ most * base = mul_left most 1 base h in let b = mul-le-mul_right base (most_le_n o) in omega (arith, a, b, ap (λ z. z * base) (over o)))
    (λ (o : n ≤ most). ap (λ z. min (z * base + d) most) (under o))
    (cases_lt most n)
  where
    most_le_n : most < n → most ≤ n
    most_le_n o = omega arith

    mul_left : (a b c : ℕ) → b ≤ c → a * b ≤ a * c
    mul_left a b c h = grind arith

    over : most < n → min n most ≡ most
    over o = omega arith

    under : n ≤ most → min n most ≡ n
    under o = omega arith

two : (t : Bool) → (t ≡ true) ⊎ (t ≡ false)
two true = inl refl
two false = inr refl

pub capped_from : (base most n : ℕ) (ds : List ℕ) → 1 ≤ base → capped base most (min n most) ds ≡ option_map (λ v. min v most) (value_from base n ds)
capped_from base most n [] h = refl
capped_from base most n (c ∷ cs) h =
    elim (two (is_digit c base)) [
      | inl e ↦ rw (e, capped_once base most n (digit_value c) h) (capped_from base most (n * base + digit_value c) cs h)
      | inr e ↦ rw e refl
    ]

pub capped_is : (base most : ℕ) (ds : List ℕ) → 1 ≤ base → 0 < length ds → capped base most 0 ds ≡ option_map (λ v. min v most) (numeral base ds)
capped_is base most [] h l = absurd (omega arith)
capped_is base most (c ∷ cs) h l = ap (λ z. capped base most z (c ∷ cs)) zero_is ∙ capped_from base most 0 (c ∷ cs) h
  where
    zero_is : 0 ≡ min 0 most
    zero_is = omega arith

-- where the rest begins with no digit
pub capped_stop : (base most n i : ℕ) (ds : List ℕ) (b : ℕ) → i < length ds → b ≡ get_or ds i 0 → ¬ (digit_value b < base) → capped base most n (drop i ds) ≡ None
capped_stop base most n i ds b l e h = rw (drop_more ds i 0 l, ← e, not_digit b base h) refl
  where
    not_digit : (b base : ℕ) → ¬ (digit_value b < base) → is_digit b base ≡ false
    not_digit b base h = grind arith

pub capped_end : (base most n i : ℕ) (ds : List ℕ) → length ds ≤ i → capped base most n (drop i ds) ≡ Some n
capped_end base most n i ds l = rw drop_all refl
