-- What is left of n times the unit matrix when a product of matrices is taken away, and steps cut to whole numbers.
use Rattle.std.proofs.Common.{◌≡◌, ℕ, suc, ◌<◌, ◌≤◌, ◌*◌, ◌/◌, ap, ◌∙◌, ℤ, pos, negsuc, neg_ℤ, ◌-ℤ◌, ◌*ℤ◌, arith}
use Rattle.std.proofs.lemmas.Int.{ints, quot-rem, rem_below}
use Rattle.std.specs.Prelude.{unsigned_abs, int_div}
use Rattle.sk_num.specs.Whole.{*ℤ_assoc, *ℤ--ℤ_right}
use Rattle.sk_num.specs.Sums.{sum_to, unit_at, unit_row-at, sum_to-same, sum_to-sub, sum_to_assoc}

-- the cells of n I - P Q
abbrev pub rest : ℕ → ℤ → (ℕ → ℕ → ℤ) → (ℕ → ℕ → ℤ) → ℕ → ℕ → ℤ
rest m n p q i l = unit_at i l *ℤ n -ℤ sum_to m (λ j. p i j *ℤ q j l)

-- (n I - P Q) v = n v - P (Q v)
pub rest_row : (m : ℕ) (n : ℤ) (p q : ℕ → ℕ → ℤ) (v : ℕ → ℤ) (i : ℕ) → i < m →
    sum_to m (λ l. rest m n p q i l *ℤ v l) ≡ n *ℤ v i -ℤ sum_to m (λ j. p i j *ℤ sum_to m (λ l. q j l *ℤ v l))
rest_row m n p q v i h =
    sum_to-same m _ _ (λ l k. *ℤ--ℤ_right (unit_at i l *ℤ n) (sum_to m (λ j. p i j *ℤ q j l)) (v l) ∙ ap (λ z. z -ℤ sum_to m (λ j. p i j *ℤ q j l) *ℤ v l) (*ℤ_assoc (unit_at i l) n (v l)))
    ∙ sum_to-sub m (λ l. unit_at i l *ℤ (n *ℤ v l)) (λ l. sum_to m (λ j. p i j *ℤ q j l) *ℤ v l)
    ∙ ap (λ z. z -ℤ sum_to m (λ l. sum_to m (λ j. p i j *ℤ q j l) *ℤ v l)) (unit_row-at m i (λ l. n *ℤ v l) h)
    ∙ ap (λ z. n *ℤ v i -ℤ z) (sum_to_assoc m m (p i) q v)

-- t / k, cut towards 0
abbrev pub cut : ℤ → ℕ → ℤ
cut t k = int_div t (pos k)

-- what the cut leaves is less than k
pub cut-left : (t : ℤ) (k : ℕ) → 0 < k → unsigned_abs (t -ℤ cut t k *ℤ pos k) < k
cut-left t k h = omega (arith, ints, quot-rem t (pos k), rem_below t (pos k) h)

pub cut-small : (t : ℤ) (k : ℕ) → 0 < k → unsigned_abs (cut t k) * k ≤ unsigned_abs t
cut-small (pos n) k h = omega arith
cut-small (negsuc n) k h =
    rw (abs_neg (suc n / k)) (omega arith)
  where
    abs_neg : (n : ℕ) → unsigned_abs (neg_ℤ (pos n)) ≡ n
    abs_neg n = omega (arith, ints)
