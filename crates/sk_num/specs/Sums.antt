-- Finite sums and greatest numbers by index: the last term is added last.
use Rattle.std.proofs.Common.{◌≡◌, ℕ, suc, zero, ◌<◌, ◌≤◌, ◌+◌, ◌*◌, ap, sym, ◌∙◌, refl, ℤ, pos, ◌+ℤ◌, ◌-ℤ◌, ◌*ℤ◌, arith, cond, eqb, ◌≢◌, ◌⊎◌, ⊎_elim, max}
use Rattle.std.proofs.lemmas.Int.{ints, unsigned_abs-mul}
use Rattle.std.specs.Prelude.{unsigned_abs}
use Rattle.std.proofs.Math.Nat.{mul-le-mul_left}
use Rattle.sk_num.specs.Whole.{*ℤ_assoc, *ℤ-+ℤ_left, *ℤ-+ℤ_right, unsigned_abs-add}

-- f 0 + .. + f (n - 1), over the whole numbers
abbrev pub sum_to : ℕ → (ℕ → ℤ) → ℤ
sum_to zero f = pos 0
sum_to (suc n) f = sum_to n f +ℤ f n

-- the same over the natural numbers
abbrev pub total_to : ℕ → (ℕ → ℕ) → ℕ
total_to zero f = 0
total_to (suc n) f = total_to n f + f n

-- the greatest of f 0 .. f (n - 1), 0 where there is none
abbrev pub top_to : ℕ → (ℕ → ℕ) → ℕ
top_to zero f = 0
top_to (suc n) f = max (top_to n f) (f n)

-- 1 on the diagonal, 0 off it
abbrev pub unit_at : ℕ → ℕ → ℤ
unit_at i k = cond (eqb i k) (pos 1) (pos 0)

pub last_or_before : (n i : ℕ) → i < suc n → (i ≡ n) ⊎ (i < n)
last_or_before n i h = grind arith

-- ---- the same terms

pub sum_to-same : (n : ℕ) (f g : ℕ → ℤ) → ((i : ℕ) → i < n → f i ≡ g i) → sum_to n f ≡ sum_to n g
sum_to-same zero f g h = refl
sum_to-same (suc n) f g h =
    let e = sum_to-same n f g (λ i l. h i (omega arith)) in
    let k = h n (omega arith) in
    rw (e, k) refl

pub total_to-same : (n : ℕ) (f g : ℕ → ℕ) → ((i : ℕ) → i < n → f i ≡ g i) → total_to n f ≡ total_to n g
total_to-same zero f g h = refl
total_to-same (suc n) f g h =
    let e = total_to-same n f g (λ i l. h i (omega arith)) in
    let k = h n (omega arith) in
    rw (e, k) refl

pub top_to-same : (n : ℕ) (f g : ℕ → ℕ) → ((i : ℕ) → i < n → f i ≡ g i) → top_to n f ≡ top_to n g
top_to-same zero f g h = refl
top_to-same (suc n) f g h =
    let e = top_to-same n f g (λ i l. h i (omega arith)) in
    let k = h n (omega arith) in
    rw (e, k) refl

-- ---- sums of sums, differences and multiples

pub sum_to-add : (n : ℕ) (f g : ℕ → ℤ) → sum_to n (λ i. f i +ℤ g i) ≡ sum_to n f +ℤ sum_to n g
sum_to-add zero f g = refl
sum_to-add (suc n) f g = omega (arith, ints, sum_to-add n f g)

pub sum_to-sub : (n : ℕ) (f g : ℕ → ℤ) → sum_to n (λ i. f i -ℤ g i) ≡ sum_to n f -ℤ sum_to n g
sum_to-sub zero f g = refl
sum_to-sub (suc n) f g = omega (arith, ints, sum_to-sub n f g)

pub sum_to-zero : (n : ℕ) → sum_to n (λ i. pos 0) ≡ pos 0
sum_to-zero zero = refl
sum_to-zero (suc n) = omega (arith, ints, sum_to-zero n)

pub sum_to-times : (n : ℕ) (a : ℤ) (f : ℕ → ℤ) → sum_to n (λ i. a *ℤ f i) ≡ a *ℤ sum_to n f
sum_to-times zero a f = omega (arith, ints)
sum_to-times (suc n) a f = omega (arith, ints, sum_to-times n a f, *ℤ-+ℤ_left a (sum_to n f) (f n))

pub sum_to-times_right : (n : ℕ) (a : ℤ) (f : ℕ → ℤ) → sum_to n (λ i. f i *ℤ a) ≡ sum_to n f *ℤ a
sum_to-times_right zero a f = omega (arith, ints)
sum_to-times_right (suc n) a f = omega (arith, ints, sum_to-times_right n a f, *ℤ-+ℤ_right (sum_to n f) (f n) a)

pub total_to-times : (n c : ℕ) (f : ℕ → ℕ) → total_to n (λ i. f i * c) ≡ total_to n f * c
total_to-times zero c f = omega arith
total_to-times (suc n) c f = omega (arith, total_to-times n c f)

-- two sums change places
pub sum_to_exchange : (m n : ℕ) (f : ℕ → ℕ → ℤ) → sum_to m (λ i. sum_to n (λ j. f i j)) ≡ sum_to n (λ j. sum_to m (λ i. f i j))
sum_to_exchange zero n f = sym (sum_to-zero n)
sum_to_exchange (suc m) n f =
    ap (λ z. z +ℤ sum_to n (λ j. f m j)) (sum_to_exchange m n f) ∙ sym (sum_to-add n (λ j. sum_to m (λ i. f i j)) (λ j. f m j))

-- (A Y) v = A (Y v), for one row a of A
pub sum_to_assoc : (m n : ℕ) (a : ℕ → ℤ) (y : ℕ → ℕ → ℤ) (v : ℕ → ℤ) →
    sum_to n (λ l. sum_to m (λ j. a j *ℤ y j l) *ℤ v l) ≡ sum_to m (λ j. a j *ℤ sum_to n (λ l. y j l *ℤ v l))
sum_to_assoc m n a y v =
    sum_to-same n _ _ (λ l h. sym (sum_to-times_right m (v l) (λ j. a j *ℤ y j l)))
    ∙ sum_to_exchange n m (λ l j. (a j *ℤ y j l) *ℤ v l)
    ∙ sum_to-same m _ _ (λ j h. sum_to-same n _ _ (λ l k. *ℤ_assoc (a j) (y j l) (v l)) ∙ sum_to-times n (a j) (λ l. y j l *ℤ v l))

-- ---- bounds

pub total_to-le : (n : ℕ) (f g : ℕ → ℕ) → ((i : ℕ) → i < n → f i ≤ g i) → total_to n f ≤ total_to n g
total_to-le zero f g h = omega arith
total_to-le (suc n) f g h = omega (arith, total_to-le n f g (λ i l. h i (omega arith)), h n (omega arith))

pub total_to-bound : (n c : ℕ) (f : ℕ → ℕ) → ((i : ℕ) → i < n → f i ≤ c) → total_to n f ≤ n * c
total_to-bound zero c f h = omega arith
total_to-bound (suc n) c f h = omega (arith, total_to-bound n c f (λ i l. h i (omega arith)), h n (omega arith))

-- a term is at most the sum, and at most the greatest
pub term-le-total_to : (n i : ℕ) (f : ℕ → ℕ) → i < n → f i ≤ total_to n f
term-le-total_to zero i f h = absurd (omega arith)
term-le-total_to (suc n) i f h = ⊎_elim (λ e. rw e (omega arith)) (λ l. omega (arith, term-le-total_to n i f l)) (last_or_before n i h)

pub term-le-top_to : (n i : ℕ) (f : ℕ → ℕ) → i < n → f i ≤ top_to n f
term-le-top_to zero i f h = absurd (omega arith)
term-le-top_to (suc n) i f h = ⊎_elim (λ e. rw e (omega arith)) (λ l. omega (arith, term-le-top_to n i f l)) (last_or_before n i h)

-- and the greatest is the least such bound
pub top_to-le : (n c : ℕ) (f : ℕ → ℕ) → ((i : ℕ) → i < n → f i ≤ c) → top_to n f ≤ c
top_to-le zero c f h = omega arith
top_to-le (suc n) c f h = omega (arith, top_to-le n c f (λ i l. h i (omega arith)), h n (omega arith))

-- the triangle's law
pub unsigned_abs-sum_to : (n : ℕ) (f : ℕ → ℤ) → unsigned_abs (sum_to n f) ≤ total_to n (λ i. unsigned_abs (f i))
unsigned_abs-sum_to zero f = omega arith
unsigned_abs-sum_to (suc n) f = omega (arith, unsigned_abs-sum_to n f, unsigned_abs-add (sum_to n f) (f n))

-- a row times a vector, where each entry of the vector is at most its weight times w
pub row-le_weights : (n : ℕ) (a v : ℕ → ℤ) (r : ℕ → ℕ) (w : ℕ) → ((i : ℕ) → i < n → unsigned_abs (v i) ≤ r i * w) →
    unsigned_abs (sum_to n (λ i. a i *ℤ v i)) ≤ total_to n (λ i. unsigned_abs (a i) * r i) * w
row-le_weights n a v r w h =
    let each = λ (i : ℕ) (l : i < n). mul-le-mul_left (unsigned_abs (a i)) (h i l) in
    let k = total_to-le n (λ i. unsigned_abs (a i *ℤ v i)) (λ i. unsigned_abs (a i) * r i * w)
    (λ i l. rw (unsigned_abs-mul (a i) (v i)) (omega (arith, each i l))) in
    omega (arith, unsigned_abs-sum_to n (λ i. a i *ℤ v i), k, total_to-times n w (λ i. unsigned_abs (a i) * r i))

-- the same where one number bounds all entries
pub row-le : (n : ℕ) (a v : ℕ → ℤ) (r : ℕ) → ((i : ℕ) → i < n → unsigned_abs (v i) ≤ r) →
    unsigned_abs (sum_to n (λ i. a i *ℤ v i)) ≤ total_to n (λ i. unsigned_abs (a i)) * r
row-le n a v r h =
    let each = λ (i : ℕ) (l : i < n). mul-le-mul_left (unsigned_abs (a i)) (h i l) in
    let k = total_to-le n (λ i. unsigned_abs (a i *ℤ v i)) (λ i. unsigned_abs (a i) * r)
    (λ i l. rw (unsigned_abs-mul (a i) (v i)) (each i l)) in
    omega (arith, unsigned_abs-sum_to n (λ i. a i *ℤ v i), k, total_to-times n r (λ i. unsigned_abs (a i)))

-- ---- a row of the unit matrix picks one entry

pub unit_at-same : (k : ℕ) → unit_at k k ≡ pos 1
unit_at-same k = grind arith

pub unit_at-other : (i k : ℕ) → i ≢ k → unit_at i k ≡ pos 0
unit_at-other i k h = grind arith

pub unit_row-outside : (n k : ℕ) (v : ℕ → ℤ) → n ≤ k → sum_to n (λ i. unit_at k i *ℤ v i) ≡ pos 0
unit_row-outside zero k v h = refl
unit_row-outside (suc n) k v h =
    let o : k ≢ n = omega arith in
    let e = unit_at-other k n o in
    rw e (omega (arith, ints, unit_row-outside n k v (omega arith)))

unit_row-last : (n k : ℕ) (v : ℕ → ℤ) → k ≡ n → sum_to n (λ i. unit_at k i *ℤ v i) +ℤ unit_at k n *ℤ v n ≡ v k
unit_row-last n k v e =
    let z = unit_row-outside n k v (omega arith) in
    let u : unit_at k n ≡ pos 1 = rw e (unit_at-same n) in
    rw (z, u, e) (omega (arith, ints))

unit_row-earlier : (n k : ℕ) (v : ℕ → ℤ) → k < n → sum_to n (λ i. unit_at k i *ℤ v i) ≡ v k → sum_to n (λ i. unit_at k i *ℤ v i) +ℤ unit_at k n *ℤ v n ≡ v k
unit_row-earlier n k v l h =
    let o : k ≢ n = omega arith in
    let e = unit_at-other k n o in
    rw (h, e) (omega (arith, ints))

pub unit_row-at : (n k : ℕ) (v : ℕ → ℤ) → k < n → sum_to n (λ i. unit_at k i *ℤ v i) ≡ v k
unit_row-at zero k v h = absurd (omega arith)
unit_row-at (suc n) k v h =
    ⊎_elim (λ e. unit_row-last n k v e) (λ l. unit_row-earlier n k v l (unit_row-at n k v l)) (last_or_before n k h)
