-- Polynomials within bounds, and the vectors that are made of such.
use Rattle.std.proofs.Common.{◌≡◌, ℕ, zero, suc, ◌+◌, ◌*◌, ◌≤◌, ℤ, pos, List, [], ◌∷◌, length, arith}
use Rattle.sk_expr.specs.Poly.{Poly, number, cosine, unknown, plus, minus, times, IsInRange}
use Rattle.sk_expr.specs.Vectors.{whole, component, vector_sum, vector_difference, scaled, scaled_by, negated, dot_onto, dot, squared, minor, cross, about}
use Rattle.sk_system.specs.Fits.{IsWithin, AreWithin}

-- ---- more unknowns and cosines

pub raise : (u c v d : ℕ) (t : Poly ℤ) → u ≤ v → c ≤ d → IsInRange u c t → IsInRange v d t
raise u c v d (number g) p q h = tt
raise u c v d (cosine i) p q h = omega (arith, q, h)
raise u c v d (unknown i) p q h = omega (arith, p, h)
raise u c v d (plus a b) p q h = (raise u c v d a p q h.0, raise u c v d b p q h.1)
raise u c v d (minus a b) p q h = (raise u c v d a p q h.0, raise u c v d b p q h.1)
raise u c v d (times a b) p q h = (raise u c v d a p q h.0, raise u c v d b p q h.1)

pub raise-all : (u c v d n : ℕ) (ts : List (Poly ℤ)) → u ≤ v → c ≤ d → AreWithin u c n ts → AreWithin v d n ts
raise-all u c v d n [] p q h = tt
raise-all u c v d n (t ∷ ts) p q h = ((raise u c v d t p q h.0.0, h.0.1), raise-all u c v d n ts p q h.1)

-- how many nodes a sum of so many products has
abbrev grow : ℕ → ℕ → ℕ → ℕ
grow zero m step = m
grow (suc k) m step = grow k (m + step) step

grow-up : (k m step : ℕ) → m ≤ grow k m step
grow-up zero m step = omega arith
grow-up (suc k) m step = let l = grow-up k (m + step) step in omega (arith, l)

-- at most three components
pub record IsVector (u c n : ℕ) (a : List (Poly ℤ)) : Type 0 where
  pub few : length a ≤ 3
  pub within : AreWithin u c n a

module _ (u c : ℕ) where
  pub loosen : (m n : ℕ) (t : Poly ℤ) → m ≤ n → IsWithin u c m t → IsWithin u c n t
  loosen m n t l h = let k = h.1 in (h.0, omega (arith, l, k))

  pub loosen-all : (m n : ℕ) (ts : List (Poly ℤ)) → m ≤ n → AreWithin u c m ts → AreWithin u c n ts
  loosen-all m n [] l h = tt
  loosen-all m n (t ∷ ts) l h = (loosen m n t l h.0, loosen-all m n ts l h.1)

  pub loosen-vector : (m n : ℕ) (a : List (Poly ℤ)) → m ≤ n → IsVector u c m a → IsVector u c n a
  loosen-vector m n a l h = record { few = h.few; within = loosen-all m n a l h.within }

  pub plus-in : (n : ℕ) (a b : Poly ℤ) → IsWithin u c n a → IsWithin u c n b → IsWithin u c (2 * n + 1) (plus a b)
  plus-in n a b h k = let p = h.1 in let q = k.1 in ((h.0, k.0), omega (arith, p, q))

  pub minus-in : (n : ℕ) (a b : Poly ℤ) → IsWithin u c n a → IsWithin u c n b → IsWithin u c (2 * n + 1) (minus a b)
  minus-in n a b h k = let p = h.1 in let q = k.1 in ((h.0, k.0), omega (arith, p, q))

  pub times-in : (n : ℕ) (a b : Poly ℤ) → IsWithin u c n a → IsWithin u c n b → IsWithin u c (2 * n + 1) (times a b)
  times-in n a b h k = let p = h.1 in let q = k.1 in ((h.0, k.0), omega (arith, p, q))

  pub component-in : (n : ℕ) (a : List (Poly ℤ)) (i : ℕ) → 1 ≤ n → AreWithin u c n a → IsWithin u c n (component a i)
  component-in n [] i p h = (tt, p)
  component-in n (x ∷ xs) zero p h = h.0
  component-in n (x ∷ xs) (suc i) p h = component-in n xs i p h.1

  -- ---- component by component

  sum-all : (n : ℕ) (a b : List (Poly ℤ)) → AreWithin u c n a → AreWithin u c n b → AreWithin u c (2 * n + 1) (vector_sum a b)
  unfolding vector_sum
  sum-all n [] b h k = tt
  sum-all n (x ∷ xs) [] h k = tt
  sum-all n (x ∷ xs) (y ∷ ys) h k = (plus-in n x y h.0 k.0, sum-all n xs ys h.1 k.1)

  sum-few : (a b : List (Poly ℤ)) → length (vector_sum a b) ≤ length a
  unfolding vector_sum
  sum-few [] b = omega arith
  sum-few (x ∷ xs) [] = omega arith
  sum-few (x ∷ xs) (y ∷ ys) = let l = sum-few xs ys in omega (arith, l)

  pub sum-in : (n : ℕ) (a b : List (Poly ℤ)) → IsVector u c n a → IsVector u c n b → IsVector u c (2 * n + 1) (vector_sum a b)
  sum-in n a b h k = let l = sum-few a b in let f = h.few in record { few = omega (arith, l, f); within = sum-all n a b h.within k.within }

  difference-all : (n : ℕ) (a b : List (Poly ℤ)) → AreWithin u c n a → AreWithin u c n b → AreWithin u c (2 * n + 1) (vector_difference a b)
  unfolding vector_difference
  difference-all n [] b h k = tt
  difference-all n (x ∷ xs) [] h k = tt
  difference-all n (x ∷ xs) (y ∷ ys) h k = (minus-in n x y h.0 k.0, difference-all n xs ys h.1 k.1)

  difference-few : (a b : List (Poly ℤ)) → length (vector_difference a b) ≤ length a
  unfolding vector_difference
  difference-few [] b = omega arith
  difference-few (x ∷ xs) [] = omega arith
  difference-few (x ∷ xs) (y ∷ ys) = let l = difference-few xs ys in omega (arith, l)

  pub difference-in : (n : ℕ) (a b : List (Poly ℤ)) → IsVector u c n a → IsVector u c n b → IsVector u c (2 * n + 1) (vector_difference a b)
  difference-in n a b h k = let l = difference-few a b in let f = h.few in record { few = omega (arith, l, f); within = difference-all n a b h.within k.within }

  scaled-all : (n : ℕ) (t : Poly ℤ) (a : List (Poly ℤ)) → IsWithin u c n t → AreWithin u c n a → AreWithin u c (2 * n + 1) (scaled t a)
  unfolding scaled
  scaled-all n t [] r h = tt
  scaled-all n t (x ∷ xs) r h = (times-in n t x r h.0, scaled-all n t xs r h.1)

  scaled-few : (t : Poly ℤ) (a : List (Poly ℤ)) → length (scaled t a) ≡ length a
  unfolding scaled
  scaled-few t [] = omega arith
  scaled-few t (x ∷ xs) = let l = scaled-few t xs in omega (arith, l)

  pub scaled-in : (n : ℕ) (t : Poly ℤ) (a : List (Poly ℤ)) → IsWithin u c n t → IsVector u c n a → IsVector u c (2 * n + 1) (scaled t a)
  scaled-in n t a r h = let l = scaled-few t a in let f = h.few in record { few = omega (arith, l, f); within = scaled-all n t a r h.within }

  scaled_by-all : (n : ℕ) (a : List (Poly ℤ)) (t : Poly ℤ) → AreWithin u c n a → IsWithin u c n t → AreWithin u c (2 * n + 1) (scaled_by a t)
  unfolding scaled_by
  scaled_by-all n [] t h r = tt
  scaled_by-all n (x ∷ xs) t h r = (times-in n x t h.0 r, scaled_by-all n xs t h.1 r)

  scaled_by-few : (a : List (Poly ℤ)) (t : Poly ℤ) → length (scaled_by a t) ≡ length a
  unfolding scaled_by
  scaled_by-few [] t = omega arith
  scaled_by-few (x ∷ xs) t = let l = scaled_by-few xs t in omega (arith, l)

  pub scaled_by-in : (n : ℕ) (a : List (Poly ℤ)) (t : Poly ℤ) → IsVector u c n a → IsWithin u c n t → IsVector u c (2 * n + 1) (scaled_by a t)
  scaled_by-in n a t h r = let l = scaled_by-few a t in let f = h.few in record { few = omega (arith, l, f); within = scaled_by-all n a t h.within r }

  negated-all : (n : ℕ) (a : List (Poly ℤ)) → 1 ≤ n → AreWithin u c n a → AreWithin u c (2 * n + 1) (negated a)
  unfolding negated
  negated-all n [] p h = tt
  negated-all n (x ∷ xs) p h = (minus-in n (number (pos 0)) x (tt, p) h.0, negated-all n xs p h.1)

  negated-few : (a : List (Poly ℤ)) → length (negated a) ≡ length a
  unfolding negated
  negated-few [] = omega arith
  negated-few (x ∷ xs) = let l = negated-few xs in omega (arith, l)

  pub negated-in : (n : ℕ) (a : List (Poly ℤ)) → 1 ≤ n → IsVector u c n a → IsVector u c (2 * n + 1) (negated a)
  negated-in n a p h = let l = negated-few a in let f = h.few in record { few = omega (arith, l, f); within = negated-all n a p h.within }

  -- ---- products

  onto-in : (k m n : ℕ) (t : Poly ℤ) (a b : List (Poly ℤ)) → length a ≤ k → IsWithin u c m t → AreWithin u c n a → AreWithin u c n b →
      IsWithin u c (grow k m (2 * n + 2)) (dot_onto t a b)
  onto-in k m n t [] b l r h j = loosen m (grow k m (2 * n + 2)) t (grow-up k m (2 * n + 2)) r
  onto-in k m n t (x ∷ xs) [] l r h j = loosen m (grow k m (2 * n + 2)) t (grow-up k m (2 * n + 2)) r
  onto-in zero m n t (x ∷ xs) (y ∷ ys) l r h j = absurd (omega (arith, l))
  onto-in (suc k) m n t (x ∷ xs) (y ∷ ys) l r h j =
      let p = h.0.1 in let q = j.0.1 in let o = r.1 in
      onto-in k (m + (2 * n + 2)) n (plus t (times x y)) xs ys (omega (arith, l)) ((r.0, (h.0.0, j.0.0)), omega (arith, p, q, o)) h.1 j.1

  pub dot-in : (n : ℕ) (a b : List (Poly ℤ)) → IsVector u c n a → IsVector u c n b → IsWithin u c (6 * n + 5) (dot a b)
  unfolding dot
  dot-in n [] b h k = (tt, omega arith)
  dot-in n (x ∷ xs) [] h k = (tt, omega arith)
  dot-in n (x ∷ xs) (y ∷ ys) h k =
      let f = h.few in
      loosen (grow 2 (2 * n + 1) (2 * n + 2)) (6 * n + 5) (dot_onto (times x y) xs ys) (omega arith)
      (onto-in 2 (2 * n + 1) n (times x y) xs ys (omega (arith, f)) (times-in n x y h.within.0 k.within.0) h.within.1 k.within.1)

  -- of four components
  pub dot-four : (n : ℕ) (a b : List (Poly ℤ)) → length a ≤ 4 → AreWithin u c n a → AreWithin u c n b → IsWithin u c (8 * n + 7) (dot a b)
  unfolding dot
  dot-four n [] b f h k = (tt, omega arith)
  dot-four n (x ∷ xs) [] f h k = (tt, omega arith)
  dot-four n (x ∷ xs) (y ∷ ys) f h k =
      loosen (grow 3 (2 * n + 1) (2 * n + 2)) (8 * n + 7) (dot_onto (times x y) xs ys) (omega arith)
      (onto-in 3 (2 * n + 1) n (times x y) xs ys (omega (arith, f)) (times-in n x y h.0 k.0) h.1 k.1)

  pub squared-in : (n : ℕ) (a : List (Poly ℤ)) → IsVector u c n a → IsWithin u c (6 * n + 5) (squared a)
  unfolding squared
  squared-in n a h = dot-in n a a h h

  pub minor-in : (n : ℕ) (a b : List (Poly ℤ)) (i j : ℕ) → 1 ≤ n → AreWithin u c n a → AreWithin u c n b → IsWithin u c (4 * n + 3) (minor a b i j)
  unfolding minor
  minor-in n a b i j p h k =
      loosen (2 * (2 * n + 1) + 1) (4 * n + 3) (minus (times (component a i) (component b j)) (times (component a j) (component b i))) (omega arith)
      (minus-in (2 * n + 1) (times (component a i) (component b j)) (times (component a j) (component b i))
      (times-in n (component a i) (component b j) (component-in n a i p h) (component-in n b j p k))
      (times-in n (component a j) (component b i) (component-in n a j p h) (component-in n b i p k)))

  pub cross-in : (n : ℕ) (a b : List (Poly ℤ)) → 1 ≤ n → IsVector u c n a → IsVector u c n b → IsVector u c (4 * n + 3) (cross a b)
  unfolding cross
  cross-in n a b p h k = record {
    few = omega arith;
    within = (minor-in n a b 1 2 p h.within k.within, (minor-in n a b 2 0 p h.within k.within, (minor-in n a b 0 1 p h.within k.within, tt)));
  }

  pub about-in : (s n : ℕ) (p q m : List (Poly ℤ)) → 1 ≤ n → IsVector u c n p → IsVector u c n q → IsVector u c n m → IsVector u c (4 * n + 3) (about s p q m)
  about-in s n p q m l h k r =
      loosen-vector (2 * (2 * n + 1) + 1) (4 * n + 3) (about s p q m) (omega arith)
      (difference-in (2 * n + 1) (vector_sum p q) (scaled (whole s 2) m) (sum-in n p q h k) (scaled-in n (whole s 2) m (tt, l) r))
