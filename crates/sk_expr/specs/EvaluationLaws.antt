-- What evaluation encloses, over any kind of number that keeps the laws of a kernel.
use Rattle.std.proofs.Common.{◌≡◌, ℕ, ◌+◌, ◌-◌, ◌*◌, ◌≤◌, max, ℤ, pos, List, Option, Some, None, arith, refl, ap, subst}
use Rattle.std.specs.Prelude.{slice_get, option_and_then}
use Rattle.sk_num.specs.Sums.{unit_at}
use Rattle.sk_num.specs.Enclosed.{Triple, triple_of, triple_mul, triple_scale}
use Rattle.sk_num.specs.KernelLaws.{KernelLaws}
use Rattle.sk_expr.specs.Poly.{Poly, number, cosine, unknown, plus, minus, times, degree}
use Rattle.sk_expr.specs.ExactValue.{exact}
use Rattle.sk_expr.specs.SpanValue.{value_by}
use Rattle.sk_expr.specs.DegreeLaws.{degree-positive, raise-value, raise-slope}

pub both-some : {K : Type 0} (f : K → K → Option K) (a b : Option K) (z : K) → option_and_then (λ x. option_and_then (λ y. f x y) b) a ≡ Some z → (x : K) × (y : K) × (a ≡ Some x) × (b ≡ Some y) × (f x y ≡ Some z)
both-some f None b z e = absurd cc
both-some f (Some x) None z e = absurd cc
both-some f (Some x) (Some y) z e = (x, y, refl, refl, e)

some_same : {T : Type 0} (x y : T) → Some x ≡ Some y → x ≡ y
some_same x y e = cc

-- the lists us and cs enclose the points p and q, the slope 1 in the column c, and the cosines k
module _ (s n : ℕ) (K : Type 0) (of : ℤ → K) (add sub mul : K → K → Option K) (encloses : ℕ → ℕ → K → Triple → Type 0)
    (laws : KernelLaws s K of add sub mul encloses) (fine : s ≤ n) (us cs : List K) (k p q : ℕ → ℤ) (c : ℕ)
    (unknowns : (i : ℕ) (x : K) → slice_get us i ≡ Some x → encloses n 0 x (record { at_p = p i; at_q = q i; slope = unit_at i c }))
    (cosines : (i : ℕ) (x : K) → slice_get cs i ≡ Some x → encloses n 0 x (record { at_p = k i; at_q = k i; slope = pos 0 })) where
  leaf : (z : K) (t : Triple) → encloses n 0 z t → encloses (n * 1) (n * 0) z t
  leaf z t h =
      let i : n ≡ n * 1 = omega arith in
      let j : 0 ≡ n * 0 = omega arith in
      subst (λ (m : ℕ). encloses m (n * 0) z t) i (subst (λ (k : ℕ). encloses n k z t) j h)

  brought : (d e : ℕ) (x : K) (t : Triple) → 1 ≤ d → d ≤ e → encloses (n * d) (n * (d - 1)) x t → encloses (n * e) (n * (e - 1)) x (triple_scale (n * (e - d)) t)
  brought d e x t p h l =
      let r = laws.scaled (n * (e - d)) (n * d) (n * (d - 1)) x t l in
      rw (raise-value n d e h, raise-slope n d e p h) at r

  -- at the greater of two degrees, which the sum of both has
  at_first : (d e : ℕ) (x : K) (t : Triple) → 1 ≤ d → encloses (n * d) (n * (d - 1)) x t → encloses (n * max d e) (n * (max d e - 1)) x (triple_scale (n * (max d e - d)) t)
  at_first d e x t p l = brought d (max d e) x t p (omega arith) l

  at_second : (d e : ℕ) (x : K) (t : Triple) → 1 ≤ e → encloses (n * e) (n * (e - 1)) x t → encloses (n * max d e) (n * (max d e - 1)) x (triple_scale (n * (max e d - e)) t)
  at_second d e x t p l =
      let m : max e d ≡ max d e = omega arith in
      subst (λ (g : ℕ). encloses (n * max d e) (n * (max d e - 1)) x (triple_scale (n * (g - e)) t)) (let i : max d e ≡ max e d = omega arith in i) (brought e (max d e) x t p (omega arith) l)

  pub value_by-encloses : (t : Poly ℤ) (z : K) → value_by of add sub mul us cs t ≡ Some z → encloses (n * degree t) (n * (degree t - 1)) z (exact s n k p q c t)
  value_by-encloses (number g) z e =
      let i : s + (n - s) ≡ n * 1 = omega arith in
      let P = λ (m : ℕ). encloses m (n * 0) (of g) (triple_of (n - s) g) in
      let Q = λ (x : K). encloses (n * 1) (n * 0) x (triple_of (n - s) g) in
      subst Q (some_same (of g) z e) (subst P i (laws.one (n - s) (n * 0) g))
  value_by-encloses (cosine i) z e = leaf z _ (cosines i z e)
  value_by-encloses (unknown i) z e = leaf z _ (unknowns i z e)
  value_by-encloses (plus a b) z e =
      let (x, y, f, g, h) = both-some add (value_by of add sub mul us cs a) (value_by of add sub mul us cs b) z e in
      let d = max (degree a) (degree b) in
      laws.sum (n * d) (n * (d - 1)) x y z _ _
      (at_first (degree a) (degree b) x (exact s n k p q c a) (degree-positive a) (value_by-encloses a x f))
      (at_second (degree a) (degree b) y (exact s n k p q c b) (degree-positive b) (value_by-encloses b y g)) h
  value_by-encloses (minus a b) z e =
      let (x, y, f, g, h) = both-some sub (value_by of add sub mul us cs a) (value_by of add sub mul us cs b) z e in
      let d = max (degree a) (degree b) in
      laws.difference (n * d) (n * (d - 1)) x y z _ _
      (at_first (degree a) (degree b) x (exact s n k p q c a) (degree-positive a) (value_by-encloses a x f))
      (at_second (degree a) (degree b) y (exact s n k p q c b) (degree-positive b) (value_by-encloses b y g)) h
  value_by-encloses (times a b) z e =
      let (x, y, f, g, h) = both-some mul (value_by of add sub mul us cs a) (value_by of add sub mul us cs b) z e in
      let da = degree a in
      let db = degree b in
      let p1 : da ≡ da - 1 + 1 = omega (arith, degree-positive a) in
      let p2 : db ≡ db - 1 + 1 = omega (arith, degree-positive b) in
      let u : n * da ≡ n * (da - 1) + n = omega (arith, ap (λ z. n * z) p1) in
      let v : n * db ≡ n * (db - 1) + n = omega (arith, ap (λ z. n * z) p2) in
      let p3 : da + db - 1 ≡ da + (db - 1) = omega (arith, degree-positive b) in
      let i : n * da + n * db ≡ n * (da + db) = omega arith in
      let j : n * da + n * (db - 1) ≡ n * (da + db - 1) = omega (arith, ap (λ z. n * z) p3) in
      let r = laws.product (n * da) (n * (da - 1)) (n * db) (n * (db - 1)) x y z (exact s n k p q c a) (exact s n k p q c b) (omega arith) (value_by-encloses a x f) (value_by-encloses b y g) h in
      let P = λ (m : ℕ). encloses m (n * da + n * (db - 1)) z (triple_mul (exact s n k p q c a) (exact s n k p q c b)) in
      let Q = λ (m : ℕ). encloses (n * (da + db)) m z (triple_mul (exact s n k p q c a) (exact s n k p q c b)) in
      subst Q j (subst P i r)

-- what a number k of a polynomial encloses: at every precision from the scale on, the exact value and slope for all numbers that are enclosed
pub record EnclosesPoly (s : ℕ) {K : Type 0} (encloses : ℕ → ℕ → K → Triple → Type 0) (us cs : List K) (t : Poly ℤ) (z : K) : Type 0 where
  pub at_points : (n : ℕ) → s ≤ n → (k p q : ℕ → ℤ) (c : ℕ) →
      ((i : ℕ) (x : K) → slice_get us i ≡ Some x → encloses n 0 x (record { at_p = p i; at_q = q i; slope = unit_at i c })) →
      ((i : ℕ) (x : K) → slice_get cs i ≡ Some x → encloses n 0 x (record { at_p = k i; at_q = k i; slope = pos 0 })) →
      encloses (n * degree t) (n * (degree t - 1)) z (exact s n k p q c t)
