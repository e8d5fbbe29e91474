-- Rising lists of columns: what is among a union, that it rises, and that two of the same columns are equal.
use Rattle.std.proofs.Common.{◌≡◌, inl, inr, ℕ, ◌≤◌, ◌+◌, ℤ, Bool, true, false, true≢false, List, [], ◌∷◌, refl, sym, ap, ◌∙◌, subst, arith}
use Rattle.std.specs.Prelude.{◌==◌, ◌||◌, ◌&&◌, nat_lt, nat_le, if◌then◌else◌, filter}
use Rattle.std.proofs.lemmas.Bool.{eqb-true, eq-eqb, ne_eqb, ltb-true, ltb-false, leb-true, cases_order, cases_eq, and_parts}
use Rattle.sk_expr.specs.Poly.{Poly, number, cosine, unknown, plus, minus, times, occurs}
use Rattle.sk_expr.specs.Columns.{is_among, RisesFrom, rises_from, unite_after, united, columns_in}

or-assoc : (x y z : Bool) → (x || (y || z)) ≡ ((x || y) || z)
or-assoc true y z = refl
or-assoc false y z = refl

or-swap : (x y z : Bool) → (x || (y || z)) ≡ (y || (x || z))
or-swap true true z = refl
or-swap true false z = refl
or-swap false y z = refl

or-twice : (x y z : Bool) → (x || (y || z)) ≡ ((x || y) || (x || z))
or-twice true y z = refl
or-twice false y z = refl

or-false : (b : Bool) → (b || false) ≡ b
or-false true = refl
or-false false = refl

and-or : (x y z : Bool) → ((x && y) || (x && z)) ≡ (x && (y || z))
and-or true y z = refl
and-or false y z = refl

and-false : (b : Bool) → (b && false) ≡ false
and-false true = refl
and-false false = refl

-- k is no less and no greater than l
same : (k l : ℕ) → nat_lt k l ≡ false → nat_lt l k ≡ false → k ≡ l
same k l h g = let p = ltb-false k l h in let q = ltb-false l k g in omega (arith, p, q)

-- ---- what is among a union

among-after : (k : ℕ) (rest : List ℕ → List ℕ) (ks : List ℕ) (c : ℕ) → ((ms : List ℕ) → is_among (rest ms) c ≡ (is_among ks c || is_among ms c)) →
    (ls : List ℕ) → is_among (unite_after k rest ls) c ≡ (is_among (k ∷ ks) c || is_among ls c)
among-after k rest ks c h [] = ap (λ z. (k == c) || z) (h []) ∙ or-assoc (k == c) (is_among ks c) false
among-after k rest ks c h (l ∷ ls) = by (nat_lt k l) (nat_lt l k) refl refl (among-after k rest ks c h ls)
  where
    by : (x y : Bool) → nat_lt k l ≡ x → nat_lt l k ≡ y → is_among (unite_after k rest ls) c ≡ (is_among (k ∷ ks) c || is_among ls c) →
        is_among (unite_after k rest (l ∷ ls)) c ≡ (is_among (k ∷ ks) c || is_among (l ∷ ls) c)
    by true y p q r = rw p (ap (λ z. (k == c) || z) (h (l ∷ ls)) ∙ or-assoc (k == c) (is_among ks c) (is_among (l ∷ ls) c))
    by false true p q r = rw (p, q) (ap (λ z. (l == c) || z) r ∙ or-swap (l == c) (is_among (k ∷ ks) c) (is_among ls c))
    by false false p q r =
        rw (p, q) (ap (λ z. (k == c) || z) (h ls) ∙ or-twice (k == c) (is_among ks c) (is_among ls c)
        ∙ ap (λ m. ((k == c) || is_among ks c) || ((m == c) || is_among ls c)) (same k l p q))

pub among-united : (ks ls : List ℕ) (c : ℕ) → is_among (united ks ls) c ≡ (is_among ks c || is_among ls c)
among-united [] ls c = refl
among-united (k ∷ ks) ls c = among-after k (united ks) ks c (λ ms. among-united ks ms c) ls

unknown-among : (b : Bool) (i c : ℕ) (listed : ℕ → Bool) → listed i ≡ b → is_among (if b then i ∷ [] else []) c ≡ (listed c && (i == c))
unknown-among b i c listed h = by b (i == c) h refl
  where
    by : (x y : Bool) → listed i ≡ x → (i == c) ≡ y → is_among (if x then i ∷ [] else []) c ≡ (listed c && (i == c))
    by true true p q = rw q (sym (ap (λ z. listed z && true) (sym (eqb-true i c q)) ∙ ap (λ z. z && true) p))
    by true false p q = rw q (sym (and-false (listed c)))
    by false true p q = rw q (sym (ap (λ z. listed z && true) (sym (eqb-true i c q)) ∙ ap (λ z. z && true) p))
    by false false p q = rw q (sym (and-false (listed c)))

-- a column is among them where it is listed and occurs
pub columns_in-are : (listed : ℕ → Bool) (t : Poly ℤ) (c : ℕ) → is_among (columns_in listed t) c ≡ (listed c && occurs c t)
columns_in-are listed (number g) c = sym (and-false (listed c))
columns_in-are listed (cosine i) c = sym (and-false (listed c))
columns_in-are listed (unknown i) c = unknown-among (listed i) i c listed refl
columns_in-are listed (plus a b) c =
    among-united (columns_in listed a) (columns_in listed b) c ∙ (λ j. columns_in-are listed a c j || columns_in-are listed b c j) ∙ and-or (listed c) (occurs c a) (occurs c b)
columns_in-are listed (minus a b) c =
    among-united (columns_in listed a) (columns_in listed b) c ∙ (λ j. columns_in-are listed a c j || columns_in-are listed b c j) ∙ and-or (listed c) (occurs c a) (occurs c b)
columns_in-are listed (times a b) c =
    among-united (columns_in listed a) (columns_in listed b) c ∙ (λ j. columns_in-are listed a c j || columns_in-are listed b c j) ∙ and-or (listed c) (occurs c a) (occurs c b)

-- ---- rising

rises-after : (k : ℕ) (rest : List ℕ → List ℕ) (ks : List ℕ) → ((m : ℕ) (ms : List ℕ) → RisesFrom m ks → RisesFrom m ms → RisesFrom m (rest ms)) →
    (n : ℕ) (ls : List ℕ) → RisesFrom n (k ∷ ks) → RisesFrom n ls → RisesFrom n (unite_after k rest ls)
rises-after k rest ks h n [] a b = (a.0, h (k + 1) [] a.1 tt)
rises-after k rest ks h n (l ∷ ls) a b = by (nat_lt k l) (nat_lt l k) refl refl (rises-after k rest ks h (l + 1) ls)
  where
    by : (x y : Bool) → nat_lt k l ≡ x → nat_lt l k ≡ y → (RisesFrom (l + 1) (k ∷ ks) → RisesFrom (l + 1) ls → RisesFrom (l + 1) (unite_after k rest ls)) →
        RisesFrom n (unite_after k rest (l ∷ ls))
    by true y p q r = let e = ltb-true k l p in rw p (a.0, h (k + 1) (l ∷ ls) a.1 ((omega (arith, e)), b.1))
    by false true p q r = let e = ltb-true l k q in rw (p, q) (b.0, r ((omega (arith, e)), a.1) b.1)
    by false false p q r = rw (p, q) (a.0, h (k + 1) ls a.1 (subst (λ (m : ℕ). RisesFrom (m + 1) ls) (sym (same k l p q)) b.1))

pub united-rises : (n : ℕ) (ks ls : List ℕ) → RisesFrom n ks → RisesFrom n ls → RisesFrom n (united ks ls)
united-rises n [] ls a b = b
united-rises n (k ∷ ks) ls a b = rises-after k (united ks) ks (λ m ms. united-rises m ks ms) n ls a b

unknown-rises : (b : Bool) (i : ℕ) → RisesFrom 0 (if b then i ∷ [] else [])
unknown-rises true i = (omega arith, tt)
unknown-rises false i = tt

pub columns_in-rise : (listed : ℕ → Bool) (t : Poly ℤ) → RisesFrom 0 (columns_in listed t)
columns_in-rise listed (number g) = tt
columns_in-rise listed (cosine i) = tt
columns_in-rise listed (unknown i) = unknown-rises (listed i) i
columns_in-rise listed (plus a b) = united-rises 0 (columns_in listed a) (columns_in listed b) (columns_in-rise listed a) (columns_in-rise listed b)
columns_in-rise listed (minus a b) = united-rises 0 (columns_in listed a) (columns_in listed b) (columns_in-rise listed a) (columns_in-rise listed b)
columns_in-rise listed (times a b) = united-rises 0 (columns_in listed a) (columns_in listed b) (columns_in-rise listed a) (columns_in-rise listed b)

pub rises-by : (n : ℕ) (ks : List ℕ) → rises_from n ks ≡ true → RisesFrom n ks
rises-by n [] h = tt
rises-by n (k ∷ ks) h = let p = and_parts (nat_le n k) (rises_from (k + 1) ks) h in (leb-true n k p.0, rises-by (k + 1) ks p.1)

pub rises-lower : (m n : ℕ) (ks : List ℕ) → m ≤ n → RisesFrom n ks → RisesFrom m ks
rises-lower m n [] h r = tt
rises-lower m n (k ∷ ks) h r = (omega (arith, h, r.0), r.1)

-- what is among a list that rises from n is at least n
pub among-from : (n : ℕ) (ks : List ℕ) (c : ℕ) → RisesFrom n ks → is_among ks c ≡ true → n ≤ c
among-from n [] c r h = absurd (true≢false (sym h))
among-from n (k ∷ ks) c r h = by (k == c) refl (among-from (k + 1) ks c r.1)
  where
    by : (b : Bool) → (k == c) ≡ b → (is_among ks c ≡ true → k + 1 ≤ c) → n ≤ c
    by true e f = let g = eqb-true k c e in omega (arith, r.0, g)
    by false e f = let g = f (rw e at h) in omega (arith, r.0, g)

-- the first of a list is among it, and not among the rest
pub first-among : (k : ℕ) (ks : List ℕ) → is_among (k ∷ ks) k ≡ true
first-among k ks = rw (eq-eqb k k refl) refl

not-later : (k : ℕ) (ks : List ℕ) → RisesFrom (k + 1) ks → is_among ks k ≡ false
not-later k ks r = by (is_among ks k) refl
  where
    by : (b : Bool) → is_among ks k ≡ b → is_among ks k ≡ false
    by true e = absurd (let g = among-from (k + 1) ks k r e in omega (arith, g))
    by false e = e

-- two rising lists of the same columns are equal
pub same-columns : (m n : ℕ) (ks ls : List ℕ) → RisesFrom m ks → RisesFrom n ls → ((c : ℕ) → is_among ks c ≡ is_among ls c) → ks ≡ ls
same-columns m n [] [] a b h = refl
same-columns m n [] (l ∷ ls) a b h = absurd (true≢false (sym (first-among l ls) ∙ sym (h l)))
same-columns m n (k ∷ ks) [] a b h = absurd (true≢false (sym (first-among k ks) ∙ h k))
same-columns m n (k ∷ ks) (l ∷ ls) a b h =
    λ j. heads j ∷ same-columns (k + 1) (l + 1) ks ls a.1 b.1 rest j
  where
    heads : k ≡ l
    heads =
        elim (cases_order k l) [
          | inl e ↦ e
          | inr o ↦ elim o [
            | inl p ↦ absurd (let g = among-from l (l ∷ ls) k (omega arith, b.1) (sym (h k) ∙ first-among k ks) in omega (arith, p, g))
            | inr p ↦ absurd (let g = among-from k (k ∷ ks) l (omega arith, a.1) (h l ∙ first-among l ls) in omega (arith, p, g))
          ]
        ]

    rest : (c : ℕ) → is_among ks c ≡ is_among ls c
    rest c =
        elim (cases_eq k c) [
          | inl e ↦ ap (is_among ks) (sym e) ∙ not-later k ks a.1 ∙ sym (ap (is_among ls) (sym e ∙ heads) ∙ not-later l ls b.1)
          | inr e ↦
              let p = ne_eqb k c e in
              let q = ne_eqb l c (λ z. e (heads ∙ z)) in
              let g = h c in
              rw (p, q) at g
        ]

-- ---- those that pass a test

pub among-filter : (test : ℕ → Bool) (ks : List ℕ) (c : ℕ) → is_among (filter test ks) c ≡ (is_among ks c && test c)
among-filter test [] c = refl
among-filter test (k ∷ ks) c = by (test k) (k == c) refl refl (among-filter test ks c)
  where
    by : (x y : Bool) → test k ≡ x → (k == c) ≡ y → is_among (filter test ks) c ≡ (is_among ks c && test c) → is_among (filter test (k ∷ ks)) c ≡ (is_among (k ∷ ks) c && test c)
    by true true p q r = rw (p, q) (sym (ap test (sym (eqb-true k c q)) ∙ p))
    by true false p q r = rw (p, q) r
    by false true p q r = rw (p, q) (r ∙ ap (λ z. is_among ks c && z) (ap test (sym (eqb-true k c q)) ∙ p) ∙ and-false (is_among ks c) ∙ sym (ap test (sym (eqb-true k c q)) ∙ p))
    by false false p q r = rw (p, q) r

pub filter-rises : (test : ℕ → Bool) (n : ℕ) (ks : List ℕ) → RisesFrom n ks → RisesFrom n (filter test ks)
filter-rises test n [] r = tt
filter-rises test n (k ∷ ks) r = by (test k) refl (filter-rises test (k + 1) ks r.1)
  where
    by : (b : Bool) → test k ≡ b → RisesFrom (k + 1) (filter test ks) → RisesFrom n (filter test (k ∷ ks))
    by true e f = rw e (r.0, f)
    by false e f = rw e (rises-lower n (k + 1) (filter test ks) (omega (arith, r.0)) f)
