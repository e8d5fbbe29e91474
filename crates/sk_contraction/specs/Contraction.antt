-- The contraction: a box that contracts holds a point with small residuals, and any two such points are close.
use Rattle.std.proofs.Common.{◌≡◌, ℕ, suc, zero, ◌<◌, ◌≤◌, ◌+◌, ◌*◌, ap, sym, ◌∙◌, ℤ, pos, ◌+ℤ◌, ◌-ℤ◌, ◌*ℤ◌, arith, ⊎_elim}
use Rattle.std.proofs.lemmas.Int.{ints, unsigned_abs-mul}
use Rattle.std.proofs.lemmas.Bool.{cases_lt}
use Rattle.std.specs.Prelude.{unsigned_abs}
use Rattle.std.proofs.Math.IntN.{*ℤ_comm}
use Rattle.std.proofs.Math.Nat.{mul-le-mul_right, mul-le-mul_left, mul-le-mul, le_of_mul-le-mul_right}
use Rattle.sk_num.specs.Whole.{*ℤ_assoc, *ℤ-+ℤ_left, *ℤ--ℤ_left, unsigned_abs-add, unsigned_abs-sub}
use Rattle.sk_num.specs.Sums.{sum_to, total_to, sum_to-same, sum_to-sub, sum_to-add, sum_to-times, sum_to-times_right, row-le_weights, row-le, term-le-total_to}
use Rattle.sk_contraction.specs.Rest.{rest, rest_row, cut, cut-left, cut-small}
use Rattle.sk_contraction.specs.Farthest.{farthest}
use Rattle.sk_contraction.specs.Contracting.{Contracting}

one-le-mul : (u g : ℕ) → 1 ≤ u → 1 ≤ g → 1 ≤ u * g
one-le-mul u g h k = let p : 1 * 1 ≤ u * g = mul-le-mul h k in omega (arith, p)

-- what a step loses, against what its cut leaves
loss-is : (n p x y c : ℤ) → unsigned_abs (n *ℤ ((x +ℤ c) -ℤ p) +ℤ y) ≡ unsigned_abs ((n *ℤ (p -ℤ x) -ℤ y) -ℤ c *ℤ n)
loss-is n p x y c =
    let d : (x +ℤ c) -ℤ p ≡ c -ℤ (p -ℤ x) = omega (arith, ints) in
    rw (d, *ℤ--ℤ_left n c (p -ℤ x), *ℤ_comm n c) (omega (arith, ints))

module _ (Pt : Type 0) (at f : Pt → ℕ → ℤ) (a : Pt → Pt → ℕ → ℕ → ℤ) (In : Pt → Type 0) (m u w g b : ℕ) (y : ℕ → ℕ → ℤ) (r : ℕ → ℕ) (x : Pt)
    (h : Contracting Pt at f a In m u w g b y r x) where
  -- N (q - p) = (N I - Y A) (q - p) + Y (F q - F p)
  displaced : (p q : Pt) → In p → In q → (j : ℕ) → j < m →
      sum_to m (λ k. rest m (pos (u * g)) y (a p q) j k *ℤ (at q k -ℤ at p k))
      ≡ pos (u * g) *ℤ (at q j -ℤ at p j) -ℤ sum_to m (λ i. y j i *ℤ (f q i -ℤ f p i))
  displaced p q hp hq j l =
      rest_row m (pos (u * g)) y (a p q) (λ k. at q k -ℤ at p k) j l
      ∙ ap (λ z. pos (u * g) *ℤ (at q j -ℤ at p j) -ℤ z)
      (sum_to-same m _ _ (λ i k. ap (λ z. y j i *ℤ z) (sym (h.slope p q hp hq i k))))

  differences : (p q : Pt) (j : ℕ) → sum_to m (λ i. y j i *ℤ (f q i -ℤ f p i)) ≡ sum_to m (λ i. y j i *ℤ f q i) -ℤ sum_to m (λ i. y j i *ℤ f p i)
  differences p q j = sum_to-same m _ _ (λ i k. *ℤ--ℤ_left (y j i) (f q i) (f p i)) ∙ sum_to-sub m (λ i. y j i *ℤ f q i) (λ i. y j i *ℤ f p i)

  -- the uncut step from p, from the centre, times N
  aim : Pt → ℕ → ℤ
  aim p j = pos (u * g) *ℤ (at p j -ℤ at x j) -ℤ sum_to m (λ i. y j i *ℤ f p i)

  aim-small : (p : Pt) → In p → (j : ℕ) → j < m → unsigned_abs (aim p j) ≤ r j * w * (u * g)
  unfolding aim
  aim-small p hp j l =
      let s = displaced x p h.centre hp j l in
      let d = differences x p j in
      let bound = row-le_weights m (rest m (pos (u * g)) y (a x p) j) (λ k. at p k -ℤ at x k) r w (h.within p hp) in
      let c = mul-le-mul_right w (h.left x p h.centre hp j l) in
      let e : aim p j ≡ sum_to m (λ k. rest m (pos (u * g)) y (a x p) j k *ℤ (at p k -ℤ at x k)) -ℤ sum_to m (λ i. y j i *ℤ f x i) = omega (arith, ints, s, d) in
      let z = unsigned_abs-sub (sum_to m (λ k. rest m (pos (u * g)) y (a x p) j k *ℤ (at p k -ℤ at x k))) (sum_to m (λ i. y j i *ℤ f x i)) in
      rw e (omega (arith, z, bound, c, h.start j l))

  whole-positive : 0 < u * g
  whole-positive = omega (arith, one-le-mul u g h.scale h.slope_scale)

  target : Pt → ℕ → ℤ
  target p j = at x j +ℤ cut (aim p j) (u * g)

  target-within : (p : Pt) → In p → (j : ℕ) → j < m → unsigned_abs (target p j -ℤ at x j) ≤ r j * w
  unfolding target
  target-within p hp j l =
      let s = cut-small (aim p j) (u * g) whole-positive in
      let k : unsigned_abs (cut (aim p j) (u * g)) * (u * g) ≤ (r j * w) * (u * g) = omega (arith, s, aim-small p hp j l) in
      let c = le_of_mul-le-mul_right k whole-positive in
      omega (arith, ints, c)

  -- what the step loses, times N
  loss : Pt → Pt → ℕ → ℤ
  loss p q j = pos (u * g) *ℤ (at q j -ℤ at p j) +ℤ sum_to m (λ l. y j l *ℤ f p l)

  loss-small : (p q : Pt) (j : ℕ) → at q j ≡ target p j → unsigned_abs (loss p q j) ≤ u * g
  unfolding loss target aim
  loss-small p q j e =
      rw (e, loss-is (pos (u * g)) (at p j) (at x j) (sum_to m (λ l. y j l *ℤ f p l)) (cut (aim p j) (u * g)))
      (omega (arith, cut-left (aim p j) (u * g) whole-positive))

  residual : (p q : Pt) → In p → In q → (i : ℕ) → i < m →
      pos (u * g) *ℤ f q i ≡ sum_to m (λ l. rest m (pos (u * g)) (a p q) y i l *ℤ f p l) +ℤ sum_to m (λ j. a p q i j *ℤ loss p q j)
  unfolding loss
  residual p q hp hq i l =
      let n = pos (u * g) in
      let d = λ (j : ℕ). at q j -ℤ at p j in
      let z = λ (j : ℕ). sum_to m (λ l. y j l *ℤ f p l) in
      let one = rest_row m n (a p q) y (f p) i l in
      let two : sum_to m (λ j. a p q i j *ℤ (n *ℤ d j +ℤ z j)) ≡ sum_to m (λ j. n *ℤ (a p q i j *ℤ d j)) +ℤ sum_to m (λ j. a p q i j *ℤ z j) =
      sum_to-same m _ _ (λ j k. turned (a p q i j) n (d j) (z j)) ∙ sum_to-add m (λ j. n *ℤ (a p q i j *ℤ d j)) (λ j. a p q i j *ℤ z j) in
      let three : sum_to m (λ j. n *ℤ (a p q i j *ℤ d j)) ≡ n *ℤ f q i -ℤ n *ℤ f p i =
      sum_to-times m n (λ j. a p q i j *ℤ d j) ∙ ap (λ v. n *ℤ v) (sym (h.slope p q hp hq i l)) ∙ *ℤ--ℤ_left n (f q i) (f p i) in
      rw (one, two, three) (joined (n *ℤ f q i) (n *ℤ f p i) (sum_to m (λ j. a p q i j *ℤ z j)))
    where
      turned : (a n d z : ℤ) → a *ℤ (n *ℤ d +ℤ z) ≡ n *ℤ (a *ℤ d) +ℤ a *ℤ z
      turned a n d z = *ℤ-+ℤ_left a (n *ℤ d) z ∙ ap (λ v. v +ℤ a *ℤ z) (sym (*ℤ_assoc a n d) ∙ ap (λ v. v *ℤ d) (*ℤ_comm a n) ∙ *ℤ_assoc n a d)

      joined : (x y z : ℤ) → x ≡ (y -ℤ z) +ℤ ((x -ℤ y) +ℤ z)
      joined x y z = omega (arith, ints)

  decrease : (p q : Pt) → In p → In q → ((j : ℕ) → j < m → at q j ≡ target p j) → (top : ℕ) → ((i : ℕ) → i < m → unsigned_abs (f p i) ≤ top) →
      (i : ℕ) → i < m → 2 * unsigned_abs (f q i) ≤ top + 2 * (b * g)
  decrease p q hp hq e top k i l =
      let n = u * g in
      let s = sum_to m (λ l. rest m (pos n) (a p q) y i l *ℤ f p l) in
      let t = sum_to m (λ j. a p q i j *ℤ loss p q j) in
      let sb = row-le m (rest m (pos n) (a p q) y i) (f p) top k in
      let tb = row-le m (a p q i) (loss p q) n (λ j o. loss-small p q j (e j o)) in
      let c = mul-le-mul_right top (h.right p q hp hq i l) in
      let d = mul-le-mul_right n (h.rows p q hp hq i l) in
      let v : unsigned_abs (pos n *ℤ f q i) ≡ n * unsigned_abs (f q i) = unsigned_abs-mul (pos n) (f q i) in
      let z = unsigned_abs-add s t in
      let o = ap unsigned_abs (residual p q hp hq i l) in
      let big : (2 * unsigned_abs (f q i)) * n ≤ (top + 2 * (b * g)) * n = omega (arith, sb, tb, c, d, v, z, o) in
      le_of_mul-le-mul_right big whole-positive

  settles : (top : ℕ) (p : Pt) → In p → ((i : ℕ) → i < m → unsigned_abs (f p i) ≤ top) → (q : Pt) × In q × ((i : ℕ) → i < m → unsigned_abs (f q i) ≤ 4 * (b * g))
  settles zero p hp k = (p, hp, λ i l. omega (arith, k i l))
  settles (suc top) p hp k =
      ⊎_elim
      (λ far. let (q, hq, e) = h.moved (target p) (target-within p hp) in
      settles top q hq (λ i l. omega (arith, far, decrease p q hp hq e (suc top) k i l)))
      (λ near. (p, hp, λ i l. omega (arith, near, k i l)))
      (cases_lt (4 * (b * g)) (suc top))

  pub some-settled : (q : Pt) × In q × ((i : ℕ) → i < m → unsigned_abs (f q i) ≤ 4 * (b * g))
  some-settled = settles (total_to m (λ i. unsigned_abs (f x i))) x h.centre (λ i l. term-le-total_to m i (λ i. unsigned_abs (f x i)) l)

  scaled : (p q : Pt) (z : ℕ) → In p → In q → z < m → ((i : ℕ) → i < m → unsigned_abs (at q i -ℤ at p i) * r z ≤ unsigned_abs (at q z -ℤ at p z) * r i) →
      2 * (unsigned_abs (sum_to m (λ k. rest m (pos (u * g)) y (a p q) z k *ℤ (at q k -ℤ at p k))) * r z) ≤ u * g * r z * unsigned_abs (at q z -ℤ at p z)
  scaled p q z hp hq l far =
      let e = rest m (pos (u * g)) y (a p q) z in
      let d = λ (k : ℕ). at q k -ℤ at p k in
      let t = row-le_weights m e (λ k. d k *ℤ pos (r z)) r (unsigned_abs (d z)) (λ k o. rw (unsigned_abs-mul (d k) (pos (r z))) (omega (arith, far k o))) in
      let same : sum_to m (λ k. e k *ℤ (d k *ℤ pos (r z))) ≡ sum_to m (λ k. e k *ℤ d k) *ℤ pos (r z) =
      sum_to-same m _ _ (λ k o. sym (*ℤ_assoc (e k) (d k) (pos (r z)))) ∙ sum_to-times_right m (pos (r z)) (λ k. e k *ℤ d k) in
      let v = ap unsigned_abs same ∙ unsigned_abs-mul (sum_to m (λ k. e k *ℤ d k)) (pos (r z)) in
      let c = mul-le-mul_right (unsigned_abs (d z)) (h.left p q hp hq z l) in
      omega (arith, t, v, c)

  most : (c : ℕ) → ((j : ℕ) → j < m → total_to m (λ i. unsigned_abs (y j i)) ≤ c * u) → (p q : Pt) → In p → In q →
      ((i : ℕ) → i < m → unsigned_abs (f p i) ≤ 4 * (b * g)) → ((i : ℕ) → i < m → unsigned_abs (f q i) ≤ 4 * (b * g)) →
      (z : ℕ) → z < m → ((i : ℕ) → i < m → unsigned_abs (at q i -ℤ at p i) * r z ≤ unsigned_abs (at q z -ℤ at p z) * r i) → 0 < r z →
      unsigned_abs (at q z -ℤ at p z) ≤ 16 * (b * c)
  most c cells p q hp hq fp fq z l far rz =
      let n = u * g in
      let d = unsigned_abs (at q z -ℤ at p z) in
      let e = sum_to m (λ k. rest m (pos n) y (a p q) z k *ℤ (at q k -ℤ at p k)) in
      let t = sum_to m (λ i. y z i *ℤ (f q i -ℤ f p i)) in
      let tb = row-le m (y z) (λ i. f q i -ℤ f p i) (8 * (b * g)) (λ i o. omega (arith, unsigned_abs-sub (f q i) (f p i), fp i o, fq i o)) in
      let tc = mul-le-mul_right (8 * (b * g)) (cells z l) in
      let s = scaled p q z hp hq l far in
      let move : pos n *ℤ (at q z -ℤ at p z) ≡ e +ℤ t = omega (arith, ints, displaced p q hp hq z l) in
      let v = unsigned_abs-mul (pos n) (at q z -ℤ at p z) in
      let mag : n * d ≤ unsigned_abs e + unsigned_abs t = omega (arith, ap unsigned_abs move, v, unsigned_abs-add e t) in
      let m1 = mul-le-mul_right (r z) mag in
      let tt : unsigned_abs t ≤ c * u * (8 * (b * g)) = omega (arith, tb, tc) in
      let m2 = mul-le-mul_right (r z) tt in
      let big : d * (n * r z) ≤ (16 * (b * c)) * (n * r z) = omega (arith, s, m1, m2) in
      le_of_mul-le-mul_right big (one-le-mul n (r z) whole-positive rz)

  -- two settled points are close
  pub settled-close : (c o : ℕ) → ((j : ℕ) → j < m → 0 < r j) → ((j k : ℕ) → j < m → k < m → r k ≤ o * r j) →
      ((j : ℕ) → j < m → total_to m (λ i. unsigned_abs (y j i)) ≤ c * u) →
      (p q : Pt) → In p → In q → ((i : ℕ) → i < m → unsigned_abs (f p i) ≤ 4 * (b * g)) → ((i : ℕ) → i < m → unsigned_abs (f q i) ≤ 4 * (b * g)) →
      (k : ℕ) → k < m → unsigned_abs (at q k -ℤ at p k) ≤ 16 * (b * c * o)
  settled-close c o radii ratio cells p q hp hq fp fq k l =
      let (z, zl, far) = farthest m (λ i. unsigned_abs (at q i -ℤ at p i)) r (omega arith) radii in
      let top = most c cells p q hp hq fp fq z zl far (radii z zl) in
      let a = far k l in
      let b1 = mul-le-mul_right (r k) top in
      let b2 = mul-le-mul_left (16 * (b * c)) (ratio z k zl l) in
      let last : unsigned_abs (at q k -ℤ at p k) * r z ≤ (16 * (b * c * o)) * r z = omega (arith, a, b1, b2) in
      le_of_mul-le-mul_right last (radii z zl)
