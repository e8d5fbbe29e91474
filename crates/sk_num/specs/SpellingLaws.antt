-- What is written of a number reads back as it, and what is read is in its range.
use Rattle.std.proofs.Common.{ℕ, ◌≡◌, ◌^◌, ◌<◌, ◌≤◌, ◌<ℤ◌, eqb, ap, sym, subst, ◌∙◌, refl, ℤ, pos, neg_ℤ, ◌*ℤ◌, arith, List, [], ◌∷◌, length, Option, Some, None, option_map, Result, Ok, Err, true, false, Bool, inl, inr, min}
use Rattle.std.specs.Prelude.{unsigned_abs, nat_le, nat_lt, ◌&&◌}
use Rattle.std.specs.Char.{is_digit}
use Rattle.std.specs.Fmt.{decimal}
use Rattle.std.specs.Int.{is_negative}
use Rattle.std.proofs.lemmas.Bool.{cases_Bool, leb-true, lt-ltb}
use Rattle.std.proofs.lemmas.Fmt.{decimal_is_IsNumeral_wide}
use Rattle.std.proofs.Math.Nat.{div-le_self, pow-le-pow_right}
use Rattle.sk_num.specs.declared.decimal.Decimal.{Decimal}
use Rattle.sk_num.specs.Numerals.{all_digits, numeral, padded}
use Rattle.sk_num.specs.Decimals.{decimal_of}
use Rattle.sk_num.specs.PaddedLaws.{length-padded, both_true}
use Rattle.sk_num.specs.DecimalLaws.{read_back, all_digits-from, numeral-decimal, numeral-padded, numeral-lt, no_sign}
use Rattle.sk_num.specs.Division.{nearest}
use Rattle.sk_num.specs.Limit.{IsInLimit, is_in_limit}
use Rattle.sk_num.specs.declared.fault.NumFault.{NumFault}
use Rattle.sk_num.specs.declared.fault.NumFault.TheVariants.{BadNumber, OutOfGrid}
use Rattle.sk_num.specs.Scale.{IsScale}
use Rattle.sk_num.specs.Spelling.{QuantityLaw, quantity_of, quantity_text, read_as, in_grid, units_of, decimal_from, handle_of, known_number, whole_of, in_32_bits, fits_i32}
use Rattle.sk_num.specs.SpellingLemmas.{units-back, decimal_at-is, in_grid-known}

-- the number with 20 decimals that is written
abbrev written : ℕ → ℤ → Decimal
written s z = decimal_from (nearest (z *ℤ pos (10 ^ 20)) (pos (2 ^ s)))

whole-fits : (s : ℕ) (z : ℤ) → IsScale s → IsInLimit z → (written s z).whole < 10 ^ 64
whole-fits s z h l = let e = ap (λ (d : Decimal). d.whole) (decimal_at-is s z h) in omega (arith, e, l, div-le_self (unsigned_abs z) (2 ^ s))

decimals-fit : (s : ℕ) (z : ℤ) → (written s z).decimals < 10 ^ 20
decimals-fit s z = omega arith

pub quantity-read_back : QuantityLaw
unfolding quantity_of quantity_text
quantity-read_back s z h l =
    ap (read_as s) (read_back (written s z) (whole-fits s z h l) (decimals-fit s z))
    ∙ ap (λ (d : Decimal). in_grid (units_of s d)) (decimal_at-is s z h)
    ∙ ap in_grid (units-back s z h)
    ∙ in_grid-known z l

pub handle-read_back : (n : ℕ) → n < 2 ^ 32 → handle_of (padded 16 8 n) ≡ Ok n
unfolding handle_of
handle-read_back n h = rw (length-padded 16 8 n, numeral-padded 16 8 n (omega arith) (omega arith) (omega arith) (omega (arith, h))) refl

-- digits without a minus
whole-digits : (ds : List ℕ) (n : ℕ) → 0 < length ds → all_digits 10 ds ≡ true → numeral 10 ds ≡ Some n → n < 2 ^ 31 → whole_of ds ≡ Ok (pos n)
unfolding whole_of
whole-digits [] n some are e small = absurd (omega arith)
whole-digits (c ∷ cs) n some are e small =
    let from_zero : is_negative (pos n) ≡ false = grind arith in
    rw ((no_sign c (both_true (is_digit c 10) (all_digits 10 cs) are).0).1, e, from_zero, lt-ltb n (2 ^ 31) small) refl

pub whole-read_back : (n : ℕ) → n < 2 ^ 31 → whole_of (decimal n) ≡ Ok (pos n)
whole-read_back n small =
    let (i, v) = decimal_is_IsNumeral_wide n (omega (arith, small)) in
    whole-digits (decimal n) n i.0 (all_digits-from 10 (decimal n) i.1) (numeral-decimal n (omega (arith, small))) small

-- ---- ranges

ok-same : {A E : Type 0} (r : Result A E) (x y : A) → r ≡ Ok x → r ≡ Ok y → x ≡ y
ok-same r x y e f = cc

past-grid : (z y : ℤ) → is_in_limit z ≡ false → in_grid z ≡ Ok y → ⊥
past-grid z y n h = let u : Err OutOfGrid ≡ Ok y = rw n at h in absurd cc

in_grid-fits : (z y : ℤ) → in_grid z ≡ Ok y → IsInLimit y
in_grid-fits z y h = elim (cases_Bool (is_in_limit z)) [
  | inl t ↦ let same = ok-same (in_grid z) z y (rw t refl) h in subst IsInLimit same (leb-true (unsigned_abs z) (2 ^ 62) t)
  | inr n ↦ absurd (past-grid z y n h)
]

read_as-fits : (s : ℕ) (o : Option Decimal) (z : ℤ) → read_as s o ≡ Ok z → IsInLimit z
read_as-fits s None z h = absurd cc
read_as-fits s (Some d) z h = in_grid-fits (units_of s d) z h

pub quantity-fits : (s : ℕ) (t : List ℕ) (z : ℤ) → quantity_of s t ≡ Ok z → IsInLimit z
unfolding quantity_of
quantity-fits s t z h = read_as-fits s (decimal_of t) z h

below : {a b c : ℕ} → a < b → b ≤ c → a < c
below h k = omega arith

known-fits : (t : List ℕ) (o : Option ℕ) (h : ℕ) → length t ≤ 8 → numeral 16 t ≡ o → known_number o ≡ Ok h → h < 2 ^ 32
known-fits t None h l e r = absurd cc
known-fits t (Some n) h l e r =
    let same : n ≡ h = cc in
    subst (λ m. m < 2 ^ 32) same (below (numeral-lt 16 t n e) (pow-le-pow_right (omega arith) l))

long-text : (h : ℕ) → Err BadNumber ≡ Ok h → ⊥
long-text h e = absurd cc

pub handle-fits : (t : List ℕ) (h : ℕ) → handle_of t ≡ Ok h → h < 2 ^ 32
unfolding handle_of
handle-fits t h e = elim (cases_Bool (nat_le (length t) 8)) [
  | inl y ↦ known-fits t (numeral 16 t) h (leb-true (length t) 8 y) refl (rw y at e)
  | inr n ↦ absurd (long-text h (rw n at e))
]
