-- What is added at the columns that aren't 0 is one more term of every column's sum.
use Rattle.std.proofs.Common.{◌≡◌, ℕ, zero, suc, ◌<◌, ◌≤◌, ◌+◌, ◌/◌, ◌^◌, arith, refl, ap, sym, ◌∙◌, subst, ⊎_elim, List, length, Option, Some, None, Bool, true, false, inl, inr, ℤ, pos, ◌+ℤ◌, ◌*ℤ◌, ◌≢◌}
use Rattle.std.specs.Prelude.{slice_set, unsigned_abs, option_and_then, not, nat_eq, ◌&&◌, MatchOption}
use Rattle.std.specs.List.{filter, range_with_len}
use Rattle.std.proofs.lemmas.Int.{ints}
use Rattle.std.proofs.lemmas.Bool.{cases_Bool, cases_lt, leb-true, le-leb, eqb-true}
use Rattle.std.proofs.lemmas.List.{get_or-set_same, get_or-set_other, length-set}
use Rattle.std.proofs.Math.Nat.{zero-div}
use Rattle.sk_num.specs.Limit.{IsInLimit, is_in_limit}
use Rattle.sk_num.specs.PaddedLaws.{both_true}
use Rattle.sk_num.specs.Ends.{Ends, point, span_between, span_add, span_mul}
use Rattle.sk_matrix.specs.Matrix.{of_both, span_sum}
use Rattle.sk_matrix.specs.Sparse.{is_nought, is_nonzero, sum_at, added}

-- ---- sums are in the limit

between-fits : (lo hi : ℤ) (e : Ends) → span_between lo hi ≡ Some e → IsInLimit e.lo × IsInLimit e.hi
between-fits lo hi e h = elim (cases_Bool (is_in_limit lo && is_in_limit hi)) [
  | inl t ↦
      let (l, r) = both_true (is_in_limit lo) (is_in_limit hi) t in
      let same : record { lo = lo; hi = hi } ≡ e = kept (rw t at h) in
      subst (λ (e : Ends). IsInLimit e.lo × IsInLimit e.hi) same (leb-true (unsigned_abs lo) (2 ^ 62) l, leb-true (unsigned_abs hi) (2 ^ 62) r)
  | inr n ↦ absurd (none (rw n at h))
]
  where
    kept : {x y : Ends} → Some x ≡ Some y → x ≡ y
    kept h = cc

    none : {y : Ends} → None ≡ Some y → ⊥
    none h = cc

pub sum-fits : (n : ℕ) (f : ℕ → Option Ends) (e : Ends) → span_sum n f ≡ Some e → IsInLimit e.lo × IsInLimit e.hi
sum-fits zero f e h = let same : point (pos 0) ≡ e = cc in subst (λ (e : Ends). IsInLimit e.lo × IsInLimit e.hi) same (omega arith, omega arith)
sum-fits (suc n) f e h = both (span_sum n f) (f n) h
  where
    both : (a b : Option Ends) → of_both span_add a b ≡ Some e → IsInLimit e.lo × IsInLimit e.hi
    both None b h = absurd cc
    both (Some x) None h = absurd cc
    both (Some x) (Some y) h = between-fits (x.lo +ℤ y.lo) (x.hi +ℤ y.hi) e h

-- ---- a product with 0 leaves a sum as it is

noughts : (s : ℕ) → span_mul s (point (pos 0)) (point (pos 0)) ≡ Some (point (pos 0))
noughts s = let z : 0 / 2 ^ s ≡ 0 = zero-div (2 ^ s) in rw z refl

pub mul-nought_left : (s : ℕ) (b : Ends) → span_mul s (point (pos 0)) b ≡ Some (point (pos 0))
mul-nought_left s b =
    let l : pos 0 *ℤ b.lo ≡ pos 0 = omega (arith, ints) in
    let h : pos 0 *ℤ b.hi ≡ pos 0 = omega (arith, ints) in
    rw (l, h) (noughts s)

pub mul-nought_right : (s : ℕ) (a : Ends) → span_mul s a (point (pos 0)) ≡ Some (point (pos 0))
mul-nought_right s a =
    let l : a.lo *ℤ pos 0 ≡ pos 0 = omega (arith, ints) in
    let h : a.hi *ℤ pos 0 ≡ pos 0 = omega (arith, ints) in
    rw (l, h) (noughts s)

pub add-nought : (e : Ends) → IsInLimit e.lo → IsInLimit e.hi → span_add e (point (pos 0)) ≡ Some e
add-nought e l h =
    let a : e.lo +ℤ pos 0 ≡ e.lo = omega (arith, ints) in
    let b : e.hi +ℤ pos 0 ≡ e.hi = omega (arith, ints) in
    rw (a, b, le-leb (unsigned_abs e.lo) _ l, le-leb (unsigned_abs e.hi) _ h) refl

pub nought-is : (e : Ends) → is_nought e ≡ true → e ≡ point (pos 0)
nought-is e h =
    let (l, r) = both_true (nat_eq (unsigned_abs e.lo) 0) (nat_eq (unsigned_abs e.hi) 0) h in
    let lo : e.lo ≡ pos 0 = omega (arith, ints, eqb-true (unsigned_abs e.lo) 0 l) in
    let hi : e.hi ≡ pos 0 = omega (arith, ints, eqb-true (unsigned_abs e.hi) 0 r) in
    subst (λ h. e ≡ record { lo = pos 0; hi = h }) hi (subst (λ l. e ≡ record { lo = l; hi = e.hi }) lo refl)

pub nonzero-not : (o : Option Ends) → is_nonzero o ≡ false → o ≡ Some (point (pos 0))
nonzero-not None h = absurd cc
nonzero-not (Some e) h = ap (λ x. Some x) (nought-is e (turned (is_nought e) h))
  where
    turned : (b : Bool) → not b ≡ false → b ≡ true
    turned true h = refl
    turned false h = absurd cc

-- ---- one term more in every column

module _ (s : ℕ) (x : Ends) (row before after : ℕ → Option Ends)
    (more : (k : ℕ) → after k ≡ of_both span_add (before k) (of_both (span_mul s) (Some x) (row k)))
    (fits : (k : ℕ) (e : Ends) → before k ≡ Some e → IsInLimit e.lo × IsInLimit e.hi) where
  -- the sums that are left, or a column that passes the limit
  abbrev pub HasAdded : ℕ → Option (List Ends) → Type 0
  HasAdded n o = MatchOption o ((k : ℕ) × (k < n) × (after k ≡ None)) (λ vs. (length vs ≡ n) × ((k : ℕ) → k < n → after k ≡ Some (sum_at vs k)))

  still : (k : ℕ) (e : Ends) → is_nonzero (row k) ≡ false → before k ≡ Some e → after k ≡ Some e
  still k e z b =
      let (l, h) = fits k e b in
      more k ∙ rw (b, nonzero-not (row k) z, mul-nought_right s x) (add-nought e l h)

  onward : (from n : ℕ) (us : List Ends) (ks : List ℕ) (o : Option Ends) → from < n → after from ≡ o →
      ((v : Ends) → after from ≡ Some v → HasAdded n (added s x row ks (slice_set us from v))) →
      HasAdded n (option_and_then (λ e. added s x row ks (slice_set us from e)) o)
  onward from n us ks None inside e next = (from, inside, e)
  onward from n us ks (Some v) inside e next = next v e

  -- up to a column and from it on
  split : (P : ℕ → Type 0) (from k : ℕ) → k < from + 1 → (k < from → P k) → P from → P k
  split P from k l below here = ⊎_elim {C = P k} below (λ (o : from ≤ k). let z : from ≡ k = omega (arith, o, l) in subst P z here) (cases_lt k from)

  put-other : (us : List Ends) (from k : ℕ) (v : Ends) (o : Option Ends) → k ≢ from → o ≡ Some (sum_at us k) → o ≡ Some (sum_at (slice_set us from v) k)
  put-other us from k v o n e = e ∙ ap (λ z. Some z) (sym (get_or-set_other us from k v (point (pos 0)) n))

  pub added-all : (m from n : ℕ) (us : List Ends) → length us ≡ n → from + m ≡ n →
      ((k : ℕ) → k < from → after k ≡ Some (sum_at us k)) → ((k : ℕ) → from ≤ k → k < n → before k ≡ Some (sum_at us k)) →
      HasAdded n (added s x row (filter (λ k. is_nonzero (row k)) (range_with_len from m)) us)
  added-all zero from n us size end done ahead = (size, λ k l. done k (omega (arith, end, l)))
  added-all (suc m) from n us size end done ahead =
      let inside : from < n = omega (arith, end) in
      let here : before from ≡ Some (sum_at us from) = ahead from (omega arith) inside in
      let ks = filter (λ k. is_nonzero (row k)) (range_with_len (from + 1) m) in
      let term = of_both (span_mul s) (Some x) (row from) in
      elim (cases_Bool (is_nonzero (row from))) [
        | inl t ↦ rw t (onward from n us ks (of_both span_add (Some (sum_at us from)) term) inside (more from ∙ ap (λ o. of_both span_add o term) here)
            (λ v e. added-all m (from + 1) n (slice_set us from v) (length-set us from v ∙ size) (omega (arith, end))
            (λ k l. split (λ j. after j ≡ Some (sum_at (slice_set us from v) j)) from k l
            (λ o. put-other us from k v (after k) (λ z. absurd (omega (arith, z, o))) (done k o))
            (e ∙ ap (λ z. Some z) (sym (get_or-set_same us from v (point (pos 0)) (omega (arith, size, inside))))))
            (λ k l h. put-other us from k v (before k) (λ z. absurd (omega (arith, z, l))) (ahead k (omega (arith, l)) h))))
        | inr f ↦ rw f (added-all m (from + 1) n us size (omega (arith, end))
            (λ k l. split (λ j. after j ≡ Some (sum_at us j)) from k l (done k) (still from (sum_at us from) f here))
            (λ k l h. ahead k (omega (arith, l)) h))
      ]
