-- The Taylor sum as an exact fraction, and that the rounded brackets enclose it.
use Rattle.std.proofs.Common.{◌≡◌, ℕ, zero, suc, ◌-◌, ◌*◌, ◌^◌, ◌<◌, ◌≤◌, arith, lit≤, ap, ◌∙◌, subst, ℤ, pos, neg_ℤ, ◌+ℤ◌, ◌-ℤ◌, ◌*ℤ◌, ◌≤ℤ◌}
use Rattle.std.proofs.lemmas.Int.{ints}
use Rattle.std.proofs.Math.Nat.{mul-le-mul}
use Rattle.std.proofs.Math.IntN.{pos-*ℤ-pos}
use Rattle.sk_num.specs.Whole.{*ℤ_assoc, *ℤ_turn, *ℤ--ℤ_right, *ℤ--ℤ_left, neg_ℤ-*ℤ, *ℤ-le_pos}
use Rattle.sk_num.specs.Division.{floor_by, ceil_by, floor_by-below, ceil_by-above}
use Rattle.sk_num.specs.Ends.{Ends}
use Rattle.sk_cosine.specs.Rule.{part_down, part_up, bracket, brackets, taylor, divisor, whole_one}
use Rattle.sk_cosine.specs.Cut.{sum_under, sum_top, minus_power}

-- e, in units of 2^-60, encloses n / d
pub record EnclosesPart (e : Ends) (n : ℤ) (d : ℕ) : Type 0 where
  pub low : (e.lo *ℤ pos d) ≤ℤ (n *ℤ pos (2 ^ 60))
  pub high : (n *ℤ pos (2 ^ 60)) ≤ℤ (e.hi *ℤ pos d)

times-three : (u : ℤ) (k c d : ℕ) → ((u *ℤ pos k) *ℤ pos c) *ℤ pos d ≡ u *ℤ pos (d * (c * k))
times-three u k c d =
    let n : k * c * d ≡ d * (c * k) = grind arith in
    ap (λ x. x *ℤ pos d) (*ℤ_assoc u (pos k) (pos c) ∙ ap (λ x. u *ℤ x) (pos-*ℤ-pos k c))
    ∙ *ℤ_assoc u (pos (k * c)) (pos d) ∙ ap (λ x. u *ℤ x) (pos-*ℤ-pos (k * c) d ∙ ap (λ m. pos m) n)

part_up-above : (y k d : ℕ) (hi n : ℤ) → 0 < k → (n *ℤ pos (2 ^ 60)) ≤ℤ (hi *ℤ pos d) → ((n *ℤ pos y) *ℤ pos (2 ^ 60)) ≤ℤ (part_up y k hi *ℤ pos (d * (2 ^ 60 * k)))
part_up-above y k d hi n p h =
    let c = ceil_by (hi *ℤ pos y) (2 ^ 60) in
    let t1 = *ℤ-le_pos y (n *ℤ pos (2 ^ 60)) (hi *ℤ pos d) h in
    let t2 = *ℤ-le_pos d (hi *ℤ pos y) (c *ℤ pos (2 ^ 60)) (ceil_by-above (hi *ℤ pos y) (2 ^ 60) (lit≤ tt)) in
    let t3 = *ℤ-le_pos d (c *ℤ pos (2 ^ 60)) ((part_up y k hi *ℤ pos k) *ℤ pos (2 ^ 60)) (*ℤ-le_pos (2 ^ 60) c (part_up y k hi *ℤ pos k) (ceil_by-above c k p)) in
    omega (arith, ints, t1, t2, t3, *ℤ_turn n (pos y) (pos (2 ^ 60)), *ℤ_turn hi (pos d) (pos y), times-three (part_up y k hi) k (2 ^ 60) d)

part_down-below : (y k d : ℕ) (lo n : ℤ) → 0 < k → (lo *ℤ pos d) ≤ℤ (n *ℤ pos (2 ^ 60)) → (part_down y k lo *ℤ pos (d * (2 ^ 60 * k))) ≤ℤ ((n *ℤ pos y) *ℤ pos (2 ^ 60))
part_down-below y k d lo n p h =
    let c = floor_by (lo *ℤ pos y) (2 ^ 60) in
    let t1 = *ℤ-le_pos y (lo *ℤ pos d) (n *ℤ pos (2 ^ 60)) h in
    let t2 = *ℤ-le_pos d (c *ℤ pos (2 ^ 60)) (lo *ℤ pos y) (floor_by-below (lo *ℤ pos y) (2 ^ 60) (lit≤ tt)) in
    let t3 = *ℤ-le_pos d ((part_down y k lo *ℤ pos k) *ℤ pos (2 ^ 60)) (c *ℤ pos (2 ^ 60)) (*ℤ-le_pos (2 ^ 60) (part_down y k lo *ℤ pos k) c (floor_by-below c k p)) in
    omega (arith, ints, t1, t2, t3, *ℤ_turn n (pos y) (pos (2 ^ 60)), *ℤ_turn lo (pos d) (pos y), times-three (part_down y k lo) k (2 ^ 60) d)

bracket-encloses : (y k d : ℕ) (e : Ends) (n : ℤ) → 0 < k → EnclosesPart e n d → EnclosesPart (bracket y k e) (pos (d * (2 ^ 60 * k)) -ℤ n *ℤ pos y) (d * (2 ^ 60 * k))
bracket-encloses y k d e n p h =
    let m = d * (2 ^ 60 * k) in
    let a = part_up-above y k d e.hi n p h.high in
    let b = part_down-below y k d e.lo n p h.low in
    let q1 = *ℤ--ℤ_right (pos (2 ^ 60)) (part_up y k e.hi) (pos m) in
    let q2 = *ℤ--ℤ_right (pos (2 ^ 60)) (part_down y k e.lo) (pos m) in
    let q3 = *ℤ--ℤ_right (pos m) (n *ℤ pos y) (pos (2 ^ 60)) in
    let o1 = pos-*ℤ-pos (2 ^ 60) m in
    let o2 = pos-*ℤ-pos m (2 ^ 60) in
    let o3 : 2 ^ 60 * m ≡ m * 2 ^ 60 = grind arith in
    record { low = omega (arith, ints, a, q1, q3, o1, o2, o3); high = omega (arith, ints, b, q2, q3, o1, o2, o3) }

-- the exact brackets
pub record Part : Type 0 where
  pub top : ℤ
  pub under : ℕ

abbrev pub exact_bracket : ℕ → ℕ → Part → Part
exact_bracket y k q = record { top = pos (q.under * (2 ^ 60 * k)) -ℤ q.top *ℤ pos y; under = q.under * (2 ^ 60 * k) }

abbrev pub exact_brackets : ℕ → ℕ → Part → Part
exact_brackets y zero q = q
exact_brackets y (suc j) q = exact_brackets y j (exact_bracket y (divisor (suc j)) q)

divisor-positive : (j : ℕ) → 0 < divisor (suc j)
divisor-positive j =
    let a : 1 ≤ 2 * suc j - 1 = omega arith in
    let b : 1 ≤ 2 * suc j = omega arith in
    mul-le-mul a b

brackets-enclose : (y j : ℕ) (e : Ends) (q : Part) → EnclosesPart e q.top q.under → EnclosesPart (brackets y j e) (Part.top (exact_brackets y j q)) (Part.under (exact_brackets y j q))
brackets-enclose y zero e q h = h
brackets-enclose y (suc j) e q h =
    let k = divisor (suc j) in
    brackets-enclose y j (bracket y k e) (exact_bracket y k q) (bracket-encloses y k q.under e q.top (divisor-positive j) h)

exact-under : (y j : ℕ) (q : Part) → Part.under (exact_brackets y j q) ≡ q.under * sum_under j
unfolding sum_under
exact-under y zero q = omega arith
exact-under y (suc j) q =
    let c = 2 ^ 60 * divisor (suc j) in
    exact-under y j (exact_bracket y (divisor (suc j)) q) ∙ regroup q.under c (sum_under j)
  where
    regroup : (a c s : ℕ) → a * c * s ≡ a * (s * c)
    regroup a c s = grind arith

exact-top : (y j : ℕ) (q : Part) → Part.top (exact_brackets y j q) ≡ (sum_top y j -ℤ minus_power y j) *ℤ pos q.under +ℤ minus_power y j *ℤ q.top
unfolding sum_top minus_power
exact-top y zero q = first q.top (pos q.under)
  where
    first : (n d : ℤ) → n ≡ (pos 1 -ℤ pos 1) *ℤ d +ℤ pos 1 *ℤ n
    first n d = omega (arith, ints, *ℤ--ℤ_right (pos 1) (pos 1) d)
exact-top y (suc j) q =
    let c = 2 ^ 60 * divisor (suc j) in
    exact-top y j (exact_bracket y (divisor (suc j)) q) ∙ ring (sum_top y j) (minus_power y j) q.top (pos y) q.under c
  where
    ring : (s m n y : ℤ) (d c : ℕ) →
        (s -ℤ m) *ℤ pos (d * c) +ℤ m *ℤ (pos (d * c) -ℤ n *ℤ y) ≡ ((s *ℤ pos c +ℤ neg_ℤ (m *ℤ y)) -ℤ neg_ℤ (m *ℤ y)) *ℤ pos d +ℤ neg_ℤ (m *ℤ y) *ℤ n
    ring s m n y d c =
        let e1 = *ℤ--ℤ_right s m (pos (d * c)) in
        let e2 = *ℤ--ℤ_left m (pos (d * c)) (n *ℤ y) in
        let e3 : (s *ℤ pos c +ℤ neg_ℤ (m *ℤ y)) -ℤ neg_ℤ (m *ℤ y) ≡ s *ℤ pos c = omega (arith, ints) in
        let e4 : (s *ℤ pos c) *ℤ pos d ≡ s *ℤ pos (d * c) = *ℤ_assoc s (pos c) (pos d) ∙ ap (λ x. s *ℤ x) (pos-*ℤ-pos c d ∙ ap (λ k. pos k) (swap c d)) in
        let e5 = neg_ℤ-*ℤ (m *ℤ y) n in
        let e6 : (m *ℤ y) *ℤ n ≡ m *ℤ (n *ℤ y) = *ℤ_turn m y n ∙ *ℤ_assoc m n y in
        rw (e3, e4) (omega (arith, ints, e1, e2, e5, e6))
      where
        swap : (c d : ℕ) → c * d ≡ d * c
        swap c d = grind arith

pub top-is : (y n : ℕ) → Part.top (exact_brackets y n (record { top = pos 1; under = 1 })) ≡ sum_top y n
top-is y n = exact-top y n (record { top = pos 1; under = 1 }) ∙ last (sum_top y n) (minus_power y n)
  where
    last : (s m : ℤ) → (s -ℤ m) *ℤ pos 1 +ℤ m *ℤ pos 1 ≡ s
    last s m = omega (arith, ints, *ℤ--ℤ_right s m (pos 1))

pub taylor-encloses : (y n : ℕ) → EnclosesPart (taylor n y) (sum_top y n) (sum_under n)
taylor-encloses y n =
    let q : Part = record { top = pos 1; under = 1 } in
    let h : EnclosesPart whole_one (pos 1) 1 = record { low = omega (arith, ints); high = omega (arith, ints) } in
    let u : Part.under (exact_brackets y n q) ≡ sum_under n = omega (arith, exact-under y n q) in
    subst (λ d. EnclosesPart (taylor n y) (sum_top y n) d) u (subst (λ m. EnclosesPart (taylor n y) m (Part.under (exact_brackets y n q))) (top-is y n) (brackets-enclose y n whole_one q h))
