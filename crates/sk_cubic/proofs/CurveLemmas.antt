-- What Bernstein's form keeps to.
use Rattle.std.proofs.Common.{◌≡◌, ℕ, ◌+◌, ◌-◌, ◌*◌, ◌^◌, ◌≤◌, ℤ, pos, ◌+ℤ◌, ◌*ℤ◌, ◌≤ℤ◌, List, [], ◌∷◌, length, arith, refl, sym, ap, ◌∙◌}
use Rattle.std.specs.Prelude.{unsigned_abs, reverse, get_or}
use Rattle.std.specs.Int.{int_min, int_max}
use Rattle.std.proofs.lemmas.Int.{ints, clamps, unsigned_abs-mul}
use Rattle.std.proofs.Math.Nat.{pow-suc, pow-zero, mul-le-mul_right}
use Rattle.sk_num.specs.Division.{nearest, nearest_is, IsNearest}
use Rattle.sk_num.specs.Whole.{*ℤ-le_pos, *ℤ-+ℤ_left}
use Rattle.sk_cubic.specs.CurvePoint.{mixed, curve_number, curve_components, curve_point}
use Rattle.sk_cubic.specs.CurveLaws.{IsBetween, AreBetween, IsInHull}

-- ---- weights

pub square : (n : ℕ) → n ^ 2 ≡ n * n
square n = pow-suc n 1 ∙ ap (λ z. z * n) (pow-suc n 0 ∙ ap (λ z. z * n) (pow-zero n) ∙ omega arith)

pub cube : (n : ℕ) → n ^ 3 ≡ n * n * n
cube n = pow-suc n 2 ∙ ap (λ z. z * n) (square n)

pub ruleset power_facts = (square, cube)

cube-sum : (i j : ℕ) → (i + j) * (i + j) * (i + j) ≡ j * j * j + 3 * (j * j) * i + 3 * j * (i * i) + i * i * i
cube-sum i j = omega arith

weights-sum : (i : ℕ) → i ≤ 16 → (16 - i) ^ 3 + 3 * (16 - i) ^ 2 * i + 3 * (16 - i) * i ^ 2 + i ^ 3 ≡ 4096
weights-sum i h =
    let all : i + (16 - i) ≡ 16 = omega (arith, h) in
    rw (cube (16 - i), square (16 - i), square i, cube i) (sym (cube-sum i (16 - i)) ∙ ap (λ n. n * n * n) all)

pub product-fits : (a : ℤ) (w : ℕ) → unsigned_abs a ≤ 2 ^ 62 → unsigned_abs (a *ℤ pos w) ≤ 2 ^ 62 * w
product-fits a w h = rw (unsigned_abs-mul a (pos w)) (mul-le-mul_right w h)

-- a sum of four numbers times their weights, two and two
pub mixed-fits : (i : ℕ) (ws : List ℕ) (s t r : ℤ) → i ≤ 16 → ws ≡ (16 - i) ^ 3 ∷ 3 * (16 - i) ^ 2 * i ∷ 3 * (16 - i) * i ^ 2 ∷ i ^ 3 ∷ [] →
    unsigned_abs s ≤ 2 ^ 62 * (get_or ws 0 0 + get_or ws 1 0) → unsigned_abs t ≤ 2 ^ 62 * (get_or ws 2 0 + get_or ws 3 0) →
    unsigned_abs r ≤ unsigned_abs s + unsigned_abs t → unsigned_abs r ≤ 2 ^ 74
mixed-fits i ws s t r h e hs ht hr =
    let first = rw e at hs in
    let second = rw e at ht in
    omega (arith, weights-sum i h, first, second, hr)

-- ---- the nearest multiple

-- what lies on one side of a multiple of 4096 rounds to that side
above : (p r lo : ℤ) → IsNearest p (pos 4096) r → (lo *ℤ pos 4096) ≤ℤ p → lo ≤ℤ r
above p r lo n h = omega (arith, ints, h, n.no_nearer lo)

below : (p r hi : ℤ) → IsNearest p (pos 4096) r → p ≤ℤ (hi *ℤ pos 4096) → r ≤ℤ hi
below p r hi n h = omega (arith, ints, h, n.no_nearer hi)

-- ---- mixtures

spread : (m w x y z : ℕ) (a : ℤ) → w + x + y + z ≡ m → (a *ℤ pos w +ℤ a *ℤ pos x) +ℤ (a *ℤ pos y +ℤ a *ℤ pos z) ≡ a *ℤ pos m
spread m w x y z a h =
    let e : pos m ≡ (pos w +ℤ pos x) +ℤ (pos y +ℤ pos z) = omega (arith, ints, h) in
    rw (e, *ℤ-+ℤ_left a (pos w +ℤ pos x) (pos y +ℤ pos z), *ℤ-+ℤ_left a (pos w) (pos x), *ℤ-+ℤ_left a (pos y) (pos z)) refl

mixed-above : (i : ℕ) (lo a b c d : ℤ) → i ≤ 16 → lo ≤ℤ a → lo ≤ℤ b → lo ≤ℤ c → lo ≤ℤ d → (lo *ℤ pos 4096) ≤ℤ mixed i a b c d
mixed-above i lo a b c d h ha hb hc hd =
    let w = (16 - i) ^ 3 in
    let x = 3 * (16 - i) ^ 2 * i in
    let y = 3 * (16 - i) * i ^ 2 in
    let z = i ^ 3 in
    omega (arith, ints, spread 4096 w x y z lo (weights-sum i h), *ℤ-le_pos w lo a ha, *ℤ-le_pos x lo b hb, *ℤ-le_pos y lo c hc, *ℤ-le_pos z lo d hd)

mixed-below : (i : ℕ) (hi a b c d : ℤ) → i ≤ 16 → a ≤ℤ hi → b ≤ℤ hi → c ≤ℤ hi → d ≤ℤ hi → mixed i a b c d ≤ℤ (hi *ℤ pos 4096)
mixed-below i hi a b c d h ha hb hc hd =
    let w = (16 - i) ^ 3 in
    let x = 3 * (16 - i) ^ 2 * i in
    let y = 3 * (16 - i) * i ^ 2 in
    let z = i ^ 3 in
    omega (arith, ints, spread 4096 w x y z hi (weights-sum i h), *ℤ-le_pos w a hi ha, *ℤ-le_pos x b hi hb, *ℤ-le_pos y c hi hc, *ℤ-le_pos z d hi hd)

number-above : (i : ℕ) (lo a b c d : ℤ) → i ≤ 16 → lo ≤ℤ a → lo ≤ℤ b → lo ≤ℤ c → lo ≤ℤ d → lo ≤ℤ curve_number i a b c d
unfolding curve_number
number-above i lo a b c d h ha hb hc hd = above (mixed i a b c d) (nearest (mixed i a b c d) (pos 4096)) lo (nearest_is (mixed i a b c d) (pos 4096) (omega arith)) (mixed-above i lo a b c d h ha hb hc hd)

number-below : (i : ℕ) (hi a b c d : ℤ) → i ≤ 16 → a ≤ℤ hi → b ≤ℤ hi → c ≤ℤ hi → d ≤ℤ hi → curve_number i a b c d ≤ℤ hi
unfolding curve_number
number-below i hi a b c d h ha hb hc hd = below (mixed i a b c d) (nearest (mixed i a b c d) (pos 4096)) hi (nearest_is (mixed i a b c d) (pos 4096) (omega arith)) (mixed-below i hi a b c d h ha hb hc hd)

-- ---- numbers

number-between : (i : ℕ) (a b c d : ℤ) → i ≤ 16 → IsBetween a b c d (curve_number i a b c d)
number-between i a b c d h =
    let lo = int_min (int_min a b) (int_min c d) in
    let hi = int_max (int_max a b) (int_max c d) in (
      number-above i lo a b c d h (omega (arith, ints, clamps)) (omega (arith, ints, clamps)) (omega (arith, ints, clamps)) (omega (arith, ints, clamps)),
      number-below i hi a b c d h (omega (arith, ints, clamps)) (omega (arith, ints, clamps)) (omega (arith, ints, clamps)) (omega (arith, ints, clamps)),
    )

number-start : (a b c d : ℤ) → curve_number 0 a b c d ≡ a
unfolding curve_number
number-start a b c d =
    let p = mixed 0 a b c d in
    let n = nearest_is p (pos 4096) (omega arith) in
    let e : p ≡ a *ℤ pos 4096 = omega (arith, ints) in
    omega (arith, ints, above p (nearest p (pos 4096)) a n (omega (arith, ints, e)), below p (nearest p (pos 4096)) a n (omega (arith, ints, e)))

number-last : (a b c d : ℤ) → curve_number 16 a b c d ≡ d
unfolding curve_number
number-last a b c d =
    let p = mixed 16 a b c d in
    let n = nearest_is p (pos 4096) (omega arith) in
    let e : p ≡ d *ℤ pos 4096 = omega (arith, ints) in
    omega (arith, ints, above p (nearest p (pos 4096)) d n (omega (arith, ints, e)), below p (nearest p (pos 4096)) d n (omega (arith, ints, e)))

number-reversed : (i : ℕ) (a b c d : ℤ) → i ≤ 16 → curve_number (16 - i) d c b a ≡ curve_number i a b c d
unfolding curve_number
number-reversed i a b c d h = ap (λ p. nearest p (pos 4096)) (mixed-reversed i a b c d h)
  where
    turned : (j i : ℕ) (a b c d : ℤ) →
        (d *ℤ pos (i ^ 3) +ℤ c *ℤ pos (3 * i ^ 2 * j)) +ℤ (b *ℤ pos (3 * i * j ^ 2) +ℤ a *ℤ pos (j ^ 3))
        ≡ (a *ℤ pos (j ^ 3) +ℤ b *ℤ pos (3 * j ^ 2 * i)) +ℤ (c *ℤ pos (3 * j * i ^ 2) +ℤ d *ℤ pos (i ^ 3))
    turned j i a b c d =
        let x : 3 * i * j ^ 2 ≡ 3 * j ^ 2 * i = omega arith in
        let y : 3 * i ^ 2 * j ≡ 3 * j * i ^ 2 = omega arith in
        rw (x, y) (omega (arith, ints))

    mixed-reversed : (i : ℕ) (a b c d : ℤ) → i ≤ 16 → mixed (16 - i) d c b a ≡ mixed i a b c d
    mixed-reversed i a b c d h = let e : 16 - (16 - i) ≡ i = omega (arith, h) in rw e (turned (16 - i) i a b c d)

-- ---- points

pub components-between : (i : ℕ) (p q r s : List ℤ) → i ≤ 16 → AreBetween p q r s (curve_components i p q r s)
components-between i [] q r s h = tt
components-between i (a ∷ p) [] r s h = tt
components-between i (a ∷ p) (b ∷ q) [] s h = tt
components-between i (a ∷ p) (b ∷ q) (c ∷ r) [] h = tt
components-between i (a ∷ p) (b ∷ q) (c ∷ r) (d ∷ s) h = (number-between i a b c d h, components-between i p q r s h)

pub components-reversed : (i : ℕ) (p q r s : List ℤ) → i ≤ 16 → curve_components (16 - i) s r q p ≡ curve_components i p q r s
components-reversed i [] [] [] [] h = refl
components-reversed i [] [] [] (d ∷ s) h = refl
components-reversed i [] [] (c ∷ r) [] h = refl
components-reversed i [] [] (c ∷ r) (d ∷ s) h = refl
components-reversed i [] (b ∷ q) [] [] h = refl
components-reversed i [] (b ∷ q) [] (d ∷ s) h = refl
components-reversed i [] (b ∷ q) (c ∷ r) [] h = refl
components-reversed i [] (b ∷ q) (c ∷ r) (d ∷ s) h = refl
components-reversed i (a ∷ p) [] [] [] h = refl
components-reversed i (a ∷ p) [] [] (d ∷ s) h = refl
components-reversed i (a ∷ p) [] (c ∷ r) [] h = refl
components-reversed i (a ∷ p) [] (c ∷ r) (d ∷ s) h = refl
components-reversed i (a ∷ p) (b ∷ q) [] [] h = refl
components-reversed i (a ∷ p) (b ∷ q) [] (d ∷ s) h = refl
components-reversed i (a ∷ p) (b ∷ q) (c ∷ r) [] h = refl
components-reversed i (a ∷ p) (b ∷ q) (c ∷ r) (d ∷ s) h = ap (λ x. x ∷ curve_components (16 - i) s r q p) (number-reversed i a b c d h) ∙ ap (λ xs. curve_number i a b c d ∷ xs) (components-reversed i p q r s h)

pub components-start : (n : ℕ) (p q r s : List ℤ) → length p ≡ n → length q ≡ n → length r ≡ n → length s ≡ n → curve_components 0 p q r s ≡ p
components-start n [] q r s hp hq hr hs = refl
components-start n (a ∷ p) [] r s hp hq hr hs = absurd (omega (arith, hp, hq))
components-start n (a ∷ p) (b ∷ q) [] s hp hq hr hs = absurd (omega (arith, hp, hr))
components-start n (a ∷ p) (b ∷ q) (c ∷ r) [] hp hq hr hs = absurd (omega (arith, hp, hs))
components-start n (a ∷ p) (b ∷ q) (c ∷ r) (d ∷ s) hp hq hr hs =
    ap (λ x. x ∷ curve_components 0 p q r s) (number-start a b c d)
    ∙ ap (λ xs. a ∷ xs) (components-start (n - 1) p q r s (omega (arith, hp)) (omega (arith, hq)) (omega (arith, hr)) (omega (arith, hs)))

pub components-last : (n : ℕ) (p q r s : List ℤ) → length p ≡ n → length q ≡ n → length r ≡ n → length s ≡ n → curve_components 16 p q r s ≡ s
components-last n [] q r [] hp hq hr hs = refl
components-last n [] q r (d ∷ s) hp hq hr hs = absurd (omega (arith, hp, hs))
components-last n (a ∷ p) [] r s hp hq hr hs = absurd (omega (arith, hp, hq))
components-last n (a ∷ p) (b ∷ q) [] s hp hq hr hs = absurd (omega (arith, hp, hr))
components-last n (a ∷ p) (b ∷ q) (c ∷ r) [] hp hq hr hs = absurd (omega (arith, hp, hs))
components-last n (a ∷ p) (b ∷ q) (c ∷ r) (d ∷ s) hp hq hr hs =
    ap (λ x. x ∷ curve_components 16 p q r s) (number-last a b c d)
    ∙ ap (λ xs. d ∷ xs) (components-last (n - 1) p q r s (omega (arith, hp)) (omega (arith, hq)) (omega (arith, hr)) (omega (arith, hs)))

-- of four control points
pub point-in_hull : (ps : List (List ℤ)) (i : ℕ) → i ≤ 16 → length ps ≡ 4 → IsInHull ps (curve_point ps i)
point-in_hull [] i h l = absurd (omega (arith, l))
point-in_hull (p ∷ []) i h l = absurd (omega (arith, l))
point-in_hull (p ∷ q ∷ []) i h l = absurd (omega (arith, l))
point-in_hull (p ∷ q ∷ r ∷ []) i h l = absurd (omega (arith, l))
point-in_hull (p ∷ q ∷ r ∷ s ∷ []) i h l = components-between i p q r s h
point-in_hull (p ∷ q ∷ r ∷ s ∷ t ∷ ts) i h l = absurd (omega (arith, l))

pub point-reversed : (ps : List (List ℤ)) (i : ℕ) → i ≤ 16 → length ps ≡ 4 → curve_point (reverse ps) (16 - i) ≡ curve_point ps i
point-reversed [] i h l = absurd (omega (arith, l))
point-reversed (p ∷ []) i h l = absurd (omega (arith, l))
point-reversed (p ∷ q ∷ []) i h l = absurd (omega (arith, l))
point-reversed (p ∷ q ∷ r ∷ []) i h l = absurd (omega (arith, l))
point-reversed (p ∷ q ∷ r ∷ s ∷ []) i h l = components-reversed i p q r s h
point-reversed (p ∷ q ∷ r ∷ s ∷ t ∷ ts) i h l = absurd (omega (arith, l))
