-- What this crate's functions promise: its main laws, each as one statement.
use Rattle.std.specs.Prelude.{◌≡◌, ℕ, ◌<◌, ◌≤◌, ◌*◌, ℤ, pos, negsuc, neg_ℤ, ◌≤ℤ◌, ◌<ℤ◌, ◌+ℤ◌, ◌-ℤ◌, ◌*ℤ◌, unsigned_abs}
use Rattle.sk_num.specs.Division.{floor_by, ceil_by, nearest, IsNearest}
use Rattle.sk_num.specs.Sums.{sum_to, total_to, top_to, unit_at}

-- products are associative, and sums, differences and signs go through them
pub record ProductLaws : Type 0 where
  pub grouped : (a b c : ℤ) → (a *ℤ b) *ℤ c ≡ a *ℤ (b *ℤ c)
  pub of_sum : (a b c : ℤ) → a *ℤ (b +ℤ c) ≡ a *ℤ b +ℤ a *ℤ c
  pub of_difference : (a b c : ℤ) → a *ℤ (b -ℤ c) ≡ a *ℤ b -ℤ a *ℤ c
  pub of_negative : (a b : ℤ) → neg_ℤ a *ℤ b ≡ neg_ℤ (a *ℤ b)

-- a product keeps the order for a factor from 0 on, turns it for a negative one, and lies between
-- the products of its factors' ends
pub record OrderLaws : Type 0 where
  pub kept : (n : ℕ) (a b : ℤ) → a ≤ℤ b → (a *ℤ pos n) ≤ℤ (b *ℤ pos n)
  pub turned : (n : ℕ) (a b : ℤ) → a ≤ℤ b → (b *ℤ negsuc n) ≤ℤ (a *ℤ negsuc n)
  pub cancelled : (k : ℕ) (a b : ℤ) → 0 < k → (a *ℤ pos k) ≤ℤ (b *ℤ pos k) → a ≤ℤ b
  pub above_corners : (a b c d x y l : ℤ) → a ≤ℤ x → x ≤ℤ b → c ≤ℤ y → y ≤ℤ d →
      l ≤ℤ (a *ℤ c) → l ≤ℤ (a *ℤ d) → l ≤ℤ (b *ℤ c) → l ≤ℤ (b *ℤ d) → l ≤ℤ (x *ℤ y)
  pub below_corners : (a b c d x y g : ℤ) → a ≤ℤ x → x ≤ℤ b → c ≤ℤ y → y ≤ℤ d →
      (a *ℤ c) ≤ℤ g → (a *ℤ d) ≤ℤ g → (b *ℤ c) ≤ℤ g → (b *ℤ d) ≤ℤ g → (x *ℤ y) ≤ℤ g

-- the greatest multiple of k at most a, the least one at least a, and the nearest one
pub record DivisionLaws : Type 0 where
  pub down : (a : ℤ) (k : ℕ) → 0 < k → (floor_by a k *ℤ pos k) ≤ℤ a
  pub down_next : (a : ℤ) (k : ℕ) → 0 < k → a <ℤ (floor_by a k *ℤ pos k +ℤ pos k)
  pub down_greatest : (a z : ℤ) (k : ℕ) → 0 < k → (z *ℤ pos k) ≤ℤ a → z ≤ℤ floor_by a k
  pub up : (a : ℤ) (k : ℕ) → 0 < k → a ≤ℤ (ceil_by a k *ℤ pos k)
  pub up_next : (a : ℤ) (k : ℕ) → 0 < k → (ceil_by a k *ℤ pos k) <ℤ (a +ℤ pos k)
  pub up_least : (a z : ℤ) (k : ℕ) → 0 < k → a ≤ℤ (z *ℤ pos k) → ceil_by a k ≤ℤ z
  pub near : (p q : ℤ) → 0 < unsigned_abs q → IsNearest p q (nearest p q)
  pub near_only : (p q r t : ℤ) → 0 < unsigned_abs q → IsNearest p q r → IsNearest p q t → r ≡ t

-- sums change places, (A Y) v = A (Y v), a row times a vector is within its weights, a unit row
-- picks its entry, and the greatest is the least bound
pub record SumLaws : Type 0 where
  pub exchanged : (m n : ℕ) (f : ℕ → ℕ → ℤ) → sum_to m (λ i. sum_to n (λ j. f i j)) ≡ sum_to n (λ j. sum_to m (λ i. f i j))
  pub grouped : (m n : ℕ) (a : ℕ → ℤ) (y : ℕ → ℕ → ℤ) (v : ℕ → ℤ) →
      sum_to n (λ l. sum_to m (λ j. a j *ℤ y j l) *ℤ v l) ≡ sum_to m (λ j. a j *ℤ sum_to n (λ l. y j l *ℤ v l))
  pub triangle : (n : ℕ) (f : ℕ → ℤ) → unsigned_abs (sum_to n f) ≤ total_to n (λ i. unsigned_abs (f i))
  pub weighted : (n : ℕ) (a v : ℕ → ℤ) (r : ℕ → ℕ) (w : ℕ) → ((i : ℕ) → i < n → unsigned_abs (v i) ≤ r i * w) →
      unsigned_abs (sum_to n (λ i. a i *ℤ v i)) ≤ total_to n (λ i. unsigned_abs (a i) * r i) * w
  pub picked : (n k : ℕ) (v : ℕ → ℤ) → k < n → sum_to n (λ i. unit_at k i *ℤ v i) ≡ v k
  pub top_above : (n i : ℕ) (f : ℕ → ℕ) → i < n → f i ≤ top_to n f
  pub top_least : (n c : ℕ) (f : ℕ → ℕ) → ((i : ℕ) → i < n → f i ≤ c) → top_to n f ≤ c
