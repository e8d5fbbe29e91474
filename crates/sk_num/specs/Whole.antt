-- The whole numbers as an ordered ring: what antt's library leaves out.
use Rattle.std.proofs.Common.{◌≡◌, ℕ, suc, ◌<◌, ◌≤◌, ◌+◌, ◌*◌, ap, sym, ◌∙◌, ℤ, pos, negsuc, neg_ℤ, ◌≤ℤ◌, ◌+ℤ◌, ◌-ℤ◌, ◌*ℤ◌, arith}
use Rattle.std.specs.Prelude.{◌<ℤ◌, unsigned_abs}
use Rattle.std.proofs.lemmas.Int.{ints, by_lt_z}
use Rattle.std.proofs.Math.Nat.{mul-le-mul_right, le_of_mul-le-mul_right}
use Rattle.std.proofs.Math.IntN.{*ℤ_comm}
use borrow.Author.Differences.{up, down, product_is, sum_is_lem, neg_is, same_in, at_most_in, le_out}

-- ---- products

pub *ℤ_assoc : (a b c : ℤ) → (a *ℤ b) *ℤ c ≡ a *ℤ (b *ℤ c)
*ℤ_assoc a b c =
    same_in _ _ (rw ((product_is (a *ℤ b) c).0, (product_is (a *ℤ b) c).1, (product_is a (b *ℤ c)).0, (product_is a (b *ℤ c)).1, (product_is a b).0, (product_is a b).1, (product_is b c).0, (product_is b c).1) (omega arith))

pub *ℤ-+ℤ_left : (a b c : ℤ) → a *ℤ (b +ℤ c) ≡ a *ℤ b +ℤ a *ℤ c
*ℤ-+ℤ_left a b c =
    let u = ap (λ n. up a * n) (sum_is_lem b c) in
    let d = ap (λ n. down a * n) (sum_is_lem b c) in
    same_in _ _ (omega (arith, u, d, sum_is_lem (a *ℤ b) (a *ℤ c), product_is a b, product_is a c, product_is a (b +ℤ c)))

pub *ℤ-+ℤ_right : (a b c : ℤ) → (a +ℤ b) *ℤ c ≡ a *ℤ c +ℤ b *ℤ c
*ℤ-+ℤ_right a b c = *ℤ_comm (a +ℤ b) c ∙ *ℤ-+ℤ_left c a b ∙ ap (λ x. x +ℤ c *ℤ b) (*ℤ_comm c a) ∙ ap (λ x. a *ℤ c +ℤ x) (*ℤ_comm c b)

pub neg_ℤ-*ℤ : (a b : ℤ) → neg_ℤ a *ℤ b ≡ neg_ℤ (a *ℤ b)
neg_ℤ-*ℤ a b = same_in _ _ (rw ((product_is (neg_ℤ a) b).0, (product_is (neg_ℤ a) b).1, (neg_is (a *ℤ b)).0, (neg_is (a *ℤ b)).1, (product_is a b).0, (product_is a b).1, (neg_is a).0, (neg_is a).1) (omega arith))

pub *ℤ-neg_ℤ : (a b : ℤ) → a *ℤ neg_ℤ b ≡ neg_ℤ (a *ℤ b)
*ℤ-neg_ℤ a b = *ℤ_comm a (neg_ℤ b) ∙ neg_ℤ-*ℤ b a ∙ ap neg_ℤ (*ℤ_comm b a)

pub *ℤ--ℤ_left : (a b c : ℤ) → a *ℤ (b -ℤ c) ≡ a *ℤ b -ℤ a *ℤ c
*ℤ--ℤ_left a b c = *ℤ-+ℤ_left a b (neg_ℤ c) ∙ ap (λ x. a *ℤ b +ℤ x) (*ℤ-neg_ℤ a c)

pub *ℤ--ℤ_right : (a b c : ℤ) → (a -ℤ b) *ℤ c ≡ a *ℤ c -ℤ b *ℤ c
*ℤ--ℤ_right a b c = *ℤ-+ℤ_right a (neg_ℤ b) c ∙ ap (λ x. a *ℤ c +ℤ x) (neg_ℤ-*ℤ b c)

-- the middle factors change places
pub *ℤ_swap : (a b c d : ℤ) → (a *ℤ b) *ℤ (c *ℤ d) ≡ (a *ℤ c) *ℤ (b *ℤ d)
*ℤ_swap a b c d =
    *ℤ_assoc a b (c *ℤ d) ∙ ap (λ x. a *ℤ x) (sym (*ℤ_assoc b c d) ∙ ap (λ x. x *ℤ d) (*ℤ_comm b c) ∙ *ℤ_assoc c b d) ∙ sym (*ℤ_assoc a c (b *ℤ d))

-- the last two factors change places
pub *ℤ_turn : (a b c : ℤ) → (a *ℤ b) *ℤ c ≡ (a *ℤ c) *ℤ b
*ℤ_turn a b c = *ℤ_assoc a b c ∙ ap (λ x. a *ℤ x) (*ℤ_comm b c) ∙ sym (*ℤ_assoc a c b)

-- ---- order

pub ≤ℤ_trans : {a b c : ℤ} → a ≤ℤ b → b ≤ℤ c → a ≤ℤ c
≤ℤ_trans {a} {b} {c} h k = omega (arith, ints)

pub +ℤ-le : {a b c d : ℤ} → a ≤ℤ b → c ≤ℤ d → (a +ℤ c) ≤ℤ (b +ℤ d)
+ℤ-le {a} {b} {c} {d} h k = omega (arith, ints)

pub -ℤ-le : {a b c d : ℤ} → a ≤ℤ b → c ≤ℤ d → (a -ℤ d) ≤ℤ (b -ℤ c)
-ℤ-le {a} {b} {c} {d} h k = omega (arith, ints)

-- times a number that is not negative
pub *ℤ-le_pos : (n : ℕ) (a b : ℤ) → a ≤ℤ b → (a *ℤ pos n) ≤ℤ (b *ℤ pos n)
*ℤ-le_pos n a b h =
    let m = mul-le-mul_right n (le_out a b h) in
    at_most_in _ _ (omega (arith, m, product_is a (pos n), product_is b (pos n)))

-- times a negative number
pub *ℤ-le_neg : (n : ℕ) (a b : ℤ) → a ≤ℤ b → (b *ℤ negsuc n) ≤ℤ (a *ℤ negsuc n)
*ℤ-le_neg n a b h =
    let m = mul-le-mul_right (suc n) (le_out a b h) in
    at_most_in _ _ (omega (arith, m, product_is a (negsuc n), product_is b (negsuc n)))

-- a positive factor may be left out
pub *ℤ-le_cancel : (k : ℕ) (a b : ℤ) → 0 < k → (a *ℤ pos k) ≤ℤ (b *ℤ pos k) → a ≤ℤ b
*ℤ-le_cancel k a b p h =
    let m : (up a + down b) * k ≤ (up b + down a) * k = omega (arith, le_out _ _ h, product_is a (pos k), product_is b (pos k)) in
    at_most_in _ _ (le_of_mul-le-mul_right m p)

pub *ℤ-lt_cancel : (k : ℕ) (a b : ℤ) → (a *ℤ pos k) <ℤ (b *ℤ pos k) → a <ℤ b
*ℤ-lt_cancel k a b h = by_lt_z a b (λ l. l) (λ l. absurd (omega (arith, ints, h, *ℤ-le_pos k b a l)))

pub one-*ℤ : (a : ℤ) → pos 1 *ℤ a ≡ a
one-*ℤ a = omega (arith, ints)

pub unsigned_abs-add : (a b : ℤ) → unsigned_abs (a +ℤ b) ≤ unsigned_abs a + unsigned_abs b
unsigned_abs-add a b = omega (arith, ints)

pub unsigned_abs-sub : (a b : ℤ) → unsigned_abs (a -ℤ b) ≤ unsigned_abs a + unsigned_abs b
unsigned_abs-sub a b = omega (arith, ints)

-- ---- a product where the factors lie between ends

-- x y for x from a to b is at least what both ends are at least
pub product-above_ends : (a b x y l : ℤ) → a ≤ℤ x → x ≤ℤ b → l ≤ℤ (a *ℤ y) → l ≤ℤ (b *ℤ y) → l ≤ℤ (x *ℤ y)
product-above_ends a b x (pos n) l h k p q = ≤ℤ_trans p (*ℤ-le_pos n a x h)
product-above_ends a b x (negsuc n) l h k p q = ≤ℤ_trans q (*ℤ-le_neg n x b k)

pub product-below_ends : (a b x y g : ℤ) → a ≤ℤ x → x ≤ℤ b → (a *ℤ y) ≤ℤ g → (b *ℤ y) ≤ℤ g → (x *ℤ y) ≤ℤ g
product-below_ends a b x (pos n) g h k p q = ≤ℤ_trans (*ℤ-le_pos n x b k) q
product-below_ends a b x (negsuc n) g h k p q = ≤ℤ_trans (*ℤ-le_neg n a x h) p

-- x y for x from a to b and y from c to d is at least what all four corners are at least
pub product-above_corners : (a b c d x y l : ℤ) → a ≤ℤ x → x ≤ℤ b → c ≤ℤ y → y ≤ℤ d →
    l ≤ℤ (a *ℤ c) → l ≤ℤ (a *ℤ d) → l ≤ℤ (b *ℤ c) → l ≤ℤ (b *ℤ d) → l ≤ℤ (x *ℤ y)
product-above_corners a b c d x y l ax xb cy yd ac ad bc bd = product-above_ends a b x y l ax xb (side a ac ad) (side b bc bd)
  where
    side : (z : ℤ) → l ≤ℤ (z *ℤ c) → l ≤ℤ (z *ℤ d) → l ≤ℤ (z *ℤ y)
    side z h k = rw (*ℤ_comm z y) (product-above_ends c d y z l cy yd (rw (*ℤ_comm c z) h) (rw (*ℤ_comm d z) k))

pub product-below_corners : (a b c d x y g : ℤ) → a ≤ℤ x → x ≤ℤ b → c ≤ℤ y → y ≤ℤ d →
    (a *ℤ c) ≤ℤ g → (a *ℤ d) ≤ℤ g → (b *ℤ c) ≤ℤ g → (b *ℤ d) ≤ℤ g → (x *ℤ y) ≤ℤ g
product-below_corners a b c d x y g ax xb cy yd ac ad bc bd = product-below_ends a b x y g ax xb (side a ac ad) (side b bc bd)
  where
    side : (z : ℤ) → (z *ℤ c) ≤ℤ g → (z *ℤ d) ≤ℤ g → (z *ℤ y) ≤ℤ g
    side z h k = rw (*ℤ_comm z y) (product-below_ends c d y z g cy yd (rw (*ℤ_comm c z) h) (rw (*ℤ_comm d z) k))
