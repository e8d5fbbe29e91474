-- Rounding between units and decimals, by magnitudes.
use Rattle.std.proofs.Common.{◌≡◌, ℕ, zero, suc, ◌+◌, ◌*◌, ◌/◌, ◌%◌, ◌-◌, ◌^◌, ◌<◌, ◌≤◌, min, length, List, Option, Some, None, Ok, Err, Bool, true, false, ap, sym, ◌∙◌, refl, arith, lit≤, ℤ, pos, negsuc, neg_ℤ, ◌*ℤ◌, ⊎_elim, option_map, if◌then◌else◌}
use Rattle.std.specs.Prelude.{unsigned_abs, nat_le, IfSome, IfOk}
use Rattle.std.specs.Option.{ok_or}
use Rattle.std.specs.Int.{is_negative}
use Rattle.std.proofs.lemmas.Int.{ints}
use Rattle.std.proofs.lemmas.Bool.{cases_lt}
use Rattle.std.proofs.lemmas.Nat.{div-mul-add, mod-mul-add, div-add-mod', mod_below, pow_pos}
use Rattle.std.proofs.Math.IntN.{pos-*ℤ-pos}
use Rattle.sk_num.specs.Whole.{neg_ℤ-*ℤ}
use Rattle.std.proofs.Math.Nat.{pow-le-pow_right, add-mul-div_left, mul-le-mul_right, mul-le-mul}
use Rattle.sk_num.specs.declared.decimal.Decimal.{Decimal}
use Rattle.sk_num.specs.Numerals.{numeral}
use Rattle.sk_num.specs.Decimals.{at_most, decimal_of}
use Rattle.sk_num.specs.DecimalLaws.{numeral-lt}
use Rattle.sk_num.specs.Division.{nearest, signed, nearest_is, IsNearest}
use Rattle.sk_num.specs.declared.fault.NumFault.TheVariants.{OutOfGrid}
use Rattle.sk_num.specs.Limit.{IsInLimit, is_in_limit, grid_of}
use Rattle.sk_num.specs.Scale.{IsScale, IsScale-bounds}
use Rattle.sk_num.specs.DecimalUnits.{magnitude_at, decimal_at}
use Rattle.sk_num.specs.Spelling.{numerator, units_of, quantity_of, in_grid, read_as, decimal_from, known_number}

is_negative-pos : (a : ℕ) → is_negative (pos a) ≡ false
is_negative-pos a = grind arith

unsigned_abs-signed : (t : Bool) (n : ℕ) → unsigned_abs (signed t n) ≡ n
unsigned_abs-signed true n = omega (arith, ints)
unsigned_abs-signed false n = omega (arith, ints)

-- a quotient from its bounds
quotient-is : (a k q : ℕ) → q * k ≤ a → a < q * k + k → a / k ≡ q
quotient-is a k q l h = let e : a ≡ q * k + (a - q * k) = omega arith in ap (λ n. n / k) e ∙ div-mul-add q k (a - q * k) (omega arith)

half-parts : (a k : ℕ) → 0 < k → let n = (2 * a + k) / (2 * k) in (2 * (n * k) ≤ 2 * a + k) × (2 * a < 2 * (n * k) + k)
half-parts a k h = omega arith

-- rounding with the sign taken apart
pub nearest-signed : (t : Bool) (n k : ℕ) → 0 < k → nearest (signed t n) (pos k) ≡ signed t ((2 * n + k) / (2 * k))
nearest-signed false n k h = rw (is_negative-pos n, is_negative-pos k) refl
nearest-signed true zero k h =
    let e : (2 * 0 + k) / (2 * k) ≡ 0 = quotient-is (2 * 0 + k) (2 * k) 0 (omega arith) (omega arith) in
    rw (is_negative-pos k, e) refl
nearest-signed true (suc n) k h = rw (is_negative-pos k) refl

signed-times : (t : Bool) (n u : ℕ) → signed t n *ℤ pos u ≡ signed t (n * u)
signed-times true n u = neg_ℤ-*ℤ (pos n) (pos u) ∙ ap neg_ℤ (pos-*ℤ-pos n u)
signed-times false n u = pos-*ℤ-pos n u

signed-self : (z : ℤ) → signed (is_negative z) (unsigned_abs z) ≡ z
signed-self (pos n) = rw (is_negative-pos n) refl
signed-self (negsuc n) = refl

split_quotient : (w f u t : ℕ) → 0 < t → (2 * ((w * t + f) * u) + t) / (2 * t) ≡ w * u + (2 * (f * u) + t) / (2 * t)
split_quotient w f u t h =
    let e : 2 * ((w * t + f) * u) + t ≡ (2 * (f * u) + t) + 2 * t * (w * u) = omega arith in
    ap (λ n. n / (2 * t)) e ∙ add-mul-div_left (2 * (f * u) + t) (w * u) (omega arith) ∙ omega arith

pub units-magnitude : (s : ℕ) (d : Decimal) → units_of s d ≡ signed d.negative (magnitude_at s d)
units-magnitude s d =
    ap (λ z. nearest z (pos (10 ^ 20))) (signed-times d.negative (d.whole * 10 ^ 20 + d.decimals) (2 ^ s))
    ∙ nearest-signed d.negative ((d.whole * 10 ^ 20 + d.decimals) * 2 ^ s) (10 ^ 20) (lit≤ tt)
    ∙ ap (signed d.negative) (split_quotient d.whole d.decimals (2 ^ s) (10 ^ 20) (lit≤ tt))

-- a whole part of 10^9 or more is past the limit
past : (s : ℕ) (d : Decimal) → IsScale s → 10 ^ 9 ≤ d.whole → in_grid (signed d.negative (magnitude_at s d)) ≡ Err OutOfGrid
past s d h l =
    let u : 2 ^ 36 ≤ 2 ^ s = pow-le-pow_right (lit≤ tt) (IsScale-bounds h).0 in
    let m : 10 ^ 9 * 2 ^ 36 ≤ d.whole * 2 ^ s = mul-le-mul l u in
    rw (unsigned_abs-signed d.negative (magnitude_at s d), too_large (magnitude_at s d) (omega (arith, m))) refl
  where
    too_large : (n : ℕ) → 2 ^ 62 < n → nat_le n (2 ^ 62) ≡ false
    too_large n h = grind arith

pub read-capped : (s : ℕ) (d : Decimal) → IsScale s → in_grid (units_of s d) ≡ in_grid (signed d.negative (magnitude_at s (at_most (10 ^ 9) d)))
read-capped s d h =
    ⊎_elim
    (λ (o : 10 ^ 9 < d.whole). ap in_grid (units-magnitude s d) ∙ past s d h (omega arith) ∙ sym (past s (at_most (10 ^ 9) d) h (omega arith)))
    (λ (o : d.whole ≤ 10 ^ 9). ap in_grid (units-magnitude s d) ∙ ap (λ w. in_grid (signed d.negative (w * 2 ^ s + (2 * (d.decimals * 2 ^ s) + 10 ^ 20) / (2 * 10 ^ 20)))) (kept d.whole o))
    (cases_lt (10 ^ 9) d.whole)
  where
    kept : (w : ℕ) → w ≤ 10 ^ 9 → w ≡ min w (10 ^ 9)
    kept w o = omega arith

-- r over u, brought to t and back
there_and_back : (r u t : ℕ) → 0 < u → u < t → (2 * ((2 * (r * t) + u) / (2 * u) * u) + t) / (2 * t) ≡ r
there_and_back r u t h l =
    let n = (2 * (r * t) + u) / (2 * u) in
    let p = half-parts (r * t) u h in
    quotient-is (2 * (n * u) + t) (2 * t) r (omega (arith, p)) (omega (arith, p))

small-unit : (s : ℕ) → IsScale s → 2 ^ s < 10 ^ 20
small-unit s h = let u : 2 ^ s ≤ 2 ^ 44 = pow-le-pow_right (lit≤ tt) (IsScale-bounds h).1 in omega (arith, u)

-- units that are written in decimals are read back
pub units-back : (s : ℕ) (z : ℤ) → IsScale s → units_of s (decimal_at s z) ≡ z
units-back s z h =
    let n = unsigned_abs z in
    let b = there_and_back (n % 2 ^ s) (2 ^ s) (10 ^ 20) (pow_pos s) (small-unit s h) in
    units-magnitude s (decimal_at s z)
    ∙ ap (λ m. signed (is_negative z) (n / 2 ^ s * 2 ^ s + m)) b
    ∙ ap (signed (is_negative z)) (div-add-mod' n (2 ^ s))
    ∙ signed-self z

below-one : (f u t : ℕ) → f < u → u < t → (2 * (f * t) + u) / (2 * u) < t
below-one f u t h l =
    let n = (2 * (f * t) + u) / (2 * u) in
    let p = half-parts (f * t) u (omega arith) in
    let m : suc f * t ≤ u * t = mul-le-mul_right t h in
    ⊎_elim (λ (o : n < t). o) (λ (o : t ≤ n). absurd (omega (arith, p, m, mul-le-mul_right u o))) (cases_lt n t)

from-signed : (b : Bool) (m w d : ℕ) → m ≡ w * 10 ^ 20 + d → d < 10 ^ 20 → (b ≡ true → 0 < m) → decimal_from (signed b m) ≡ record { negative = b; whole = w; decimals = d }
from-signed false m w d e l h = rw (is_negative-pos m, e, div-mul-add w (10 ^ 20) d l, mod-mul-add w (10 ^ 20) d l) refl
from-signed true zero w d e l h = absurd (omega (arith, h refl))
from-signed true (suc m) w d e l h = rw (e, div-mul-add w (10 ^ 20) d l, mod-mul-add w (10 ^ 20) d l) refl

not-zero : (n u t : ℕ) → 0 < n → 0 < u → u < t → 0 < (2 * (n * t) + u) / (2 * u)
not-zero n u t some h l =
    let p = half-parts (n * t) u h in
    let m : 1 * t ≤ n * t = mul-le-mul_right t some in
    let k = (2 * (n * t) + u) / (2 * u) in
    ⊎_elim (λ (o : 0 < k). o) (λ (o : k ≤ 0). absurd (omega (arith, p, m, mul-le-mul_right u o))) (cases_lt 0 k)

negative-some : (z : ℤ) → is_negative z ≡ true → 0 < unsigned_abs z
negative-some (pos n) e = absurd (no (sym (is_negative-pos n) ∙ e))
  where
    no : false ≡ true → ⊥
    no h = cc
negative-some (negsuc n) e = omega arith

-- the nearest decimal number, by whole part and decimals
pub decimal_at-is : (s : ℕ) (z : ℤ) → IsScale s → decimal_from (nearest (z *ℤ pos (10 ^ 20)) (pos (2 ^ s))) ≡ decimal_at s z
decimal_at-is s z h =
    let n = unsigned_abs z in
    let u = 2 ^ s in
    let t = 10 ^ 20 in
    let b = is_negative z in
    let signs : z *ℤ pos t ≡ signed b (n * t) = ap (λ y. y *ℤ pos t) (sym (signed-self z)) ∙ signed-times b n t in
    let whole : (2 * (n * t) + u) / (2 * u) ≡ n / u * t + (2 * (n % u * t) + u) / (2 * u) =
    ap (λ m. (2 * (m * t) + u) / (2 * u)) (sym (div-add-mod' n u)) ∙ split_quotient (n / u) (n % u) t u (pow_pos s) in
    ap (λ y. decimal_from (nearest y (pos u))) signs
    ∙ ap decimal_from (nearest-signed b (n * t) u (pow_pos s))
    ∙ from-signed b ((2 * (n * t) + u) / (2 * u)) (n / u) ((2 * (n % u * t) + u) / (2 * u)) whole
    (below-one (n % u) u t (mod_below n u (pow_pos s)) (small-unit s h))
    (λ e. not-zero n u t (negative-some z e) (pow_pos s) (small-unit s h))

-- ---- what the readers answer

pub in_grid-known : (z : ℤ) → IsInLimit z → in_grid z ≡ Ok z
in_grid-known z h = rw (within (unsigned_abs z) h) refl
  where
    within : (n : ℕ) → n ≤ 2 ^ 62 → nat_le n (2 ^ 62) ≡ true
    within n h = grind arith

pub in_grid-is : (z : ℤ) → ok_or (grid_of z) OutOfGrid ≡ in_grid z
in_grid-is z = chosen (is_in_limit z)
  where
    chosen : (t : Bool) → ok_or (if t then Some z else None) OutOfGrid ≡ (if t then Ok z else Err OutOfGrid)
    chosen true = refl
    chosen false = refl

pub quantity-read : (s : ℕ) (o : Option Decimal) (d : Decimal) → IsScale s → option_map (at_most (10 ^ 9)) o ≡ Some d → in_grid (signed d.negative (magnitude_at s d)) ≡ read_as s o
quantity-read s None d h e = absurd (none e)
  where
    none : None ≡ Some d → ⊥
    none e = cc
quantity-read s (Some x) d h e =
    let same : at_most (10 ^ 9) x ≡ d = cc in
    ap (λ (y : Decimal). in_grid (signed y.negative (magnitude_at s y))) (sym same) ∙ sym (read-capped s x h)

pub handle-read : (t : List ℕ) (o : Option ℕ) (r : ℕ) → length t ≤ 8 → numeral 16 t ≡ o → option_map (λ n. min n (2 ^ 32)) o ≡ Some r → (r < 2 ^ 32) × (known_number (numeral 16 t) ≡ Ok r)
handle-read t None r l e h = absurd (none h)
  where
    none : None ≡ Some r → ⊥
    none e = cc
handle-read t (Some n) r l e h =
    let small : n < 2 ^ 32 = lt_of (numeral-lt 16 t n e) (pow-le-pow_right (lit≤ tt) l) in
    let same : min n (2 ^ 32) ≡ r = cc in
    let is : n ≡ r = omega arith in
    (omega arith, rw e (ap Ok is))
  where
    lt_of : {a b c : ℕ} → a < b → b ≤ c → a < c
    lt_of h k = omega arith

pub short-text : (n : ℕ) → n ≤ 8 → nat_le n 8 ≡ true
short-text n h = grind arith

-- what is kept of the nearest is the nearest
if_kept : (b : Bool) (P : ℤ → Type 0) (z : ℤ) → P z → IfSome (if b then Some z else None) P
if_kept true P z h = h
if_kept false P z h = tt

pub kept-nearest : (p q : ℤ) → 0 < unsigned_abs q → IfSome (grid_of (nearest p q)) (IsNearest p q)
kept-nearest p q h = if_kept (is_in_limit (nearest p q)) (IsNearest p q) (nearest p q) (nearest_is p q h)

if_read : (b : Bool) (P : ℤ → Type 0) (z : ℤ) → P z → IfOk (if b then Ok z else Err OutOfGrid) P
if_read true P z h = h
if_read false P z h = tt

-- what is read is nearest to what the text writes
pub read-nearest : (s : ℕ) (o : Option Decimal) → IfSome o (λ d. IfOk (read_as s o) (IsNearest (numerator d *ℤ pos (2 ^ s)) (pos (10 ^ 20))))
read-nearest s None = tt
read-nearest s (Some d) =
    if_read (is_in_limit (units_of s d)) (IsNearest (numerator d *ℤ pos (2 ^ s)) (pos (10 ^ 20))) (units_of s d)
    (nearest_is (numerator d *ℤ pos (2 ^ s)) (pos (10 ^ 20)) (lit≤ tt))

pub quantity-nearest : (s : ℕ) (t : List ℕ) → IfSome (decimal_of t) (λ d. IfOk (quantity_of s t) (IsNearest (numerator d *ℤ pos (2 ^ s)) (pos (10 ^ 20))))
unfolding quantity_of
quantity-nearest s t = read-nearest s (decimal_of t)

-- a number of 10^-20 is that of its decimals
pub numerator-from : (n : ℤ) → numerator (decimal_from n) ≡ n
numerator-from n = ap (signed (is_negative n)) (div-add-mod' (unsigned_abs n) (10 ^ 20)) ∙ signed-self n
