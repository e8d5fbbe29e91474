-- At the places where the pivot's row isn't 0 a row becomes what it becomes as a whole.
use Rattle.std.proofs.Common.{◌≡◌, ℕ, zero, suc, ◌<◌, ◌≤◌, ◌+◌, arith, refl, ap, sym, ◌∙◌, subst, ⊎_elim, List, length, Option, Some, None, Bool, true, false, inl, inr, ℤ, pos, ◌≢◌}
use Rattle.std.specs.Prelude.{slice_set, unsigned_abs, option_and_then, not, nat_eq}
use Rattle.std.specs.List.{All, filter, range_with_len}
use Rattle.std.proofs.lemmas.Int.{ints}
use Rattle.std.proofs.lemmas.Bool.{cases_Bool, cases_lt, eqb-true}
use Rattle.std.proofs.lemmas.List.{get_or-set_same, get_or-set_other, length-set}
use Rattle.std.proofs.lemmas.List.FromFn.{get_or-range_with_len, length-range_with_len}
use Rattle.std.proofs.lemmas.List.Elements.{All-filter}
use Rattle.sk_num.specs.Limit.{IsInLimit}
use Rattle.sk_elim.specs.Elimination.{cell, cell_less, row_less}
use Rattle.sk_elim.specs.Filled.{is_filled, filled_places, less_at}
use Rattle.sk_elim.proofs.RowLemmas.{row_less-all, row_less-none, cell_less-nought}

pub filled-below : (ps : List ℤ) → All (λ k. k < length ps) (filled_places ps)
filled-below ps = All-filter (λ k. is_filled (cell ps k)) (λ k. k < length ps) (range_with_len 0 (length ps)) (λ i d l. rw (get_or-range_with_len 0 (length ps) i d (omega (arith, l, length-range_with_len 0 (length ps)))) (omega (arith, l, length-range_with_len 0 (length ps))))

nought-is : (p : ℤ) → is_filled p ≡ false → p ≡ pos 0
nought-is p h = omega (arith, ints, eqb-true (unsigned_abs p) 0 (turned (nat_eq (unsigned_abs p) 0) h))
  where
    turned : (b : Bool) → not b ≡ false → b ≡ true
    turned true h = refl
    turned false h = absurd cc

module _ (s : ℕ) (f : ℤ) (us ps : List ℤ) (size : length ps ≡ length us) (within : (k : ℕ) → IsInLimit (cell us k)) where
  -- what the number at a place becomes
  abbrev after : ℕ → Option ℤ
  after k = cell_less s f (cell us k) (cell ps k)

  still : (k : ℕ) (now : List ℤ) → is_filled (cell ps k) ≡ false → cell now k ≡ cell us k → after k ≡ Some (cell now k)
  still k now z e = cell_less-nought s f (cell us k) (cell ps k) (nought-is (cell ps k) z) (within k) ∙ ap (λ a. Some a) (sym e)

  onward : (from : ℕ) (ks : List ℕ) (now : List ℤ) (o : Option ℤ) → from < length us → after from ≡ o →
      ((y : ℤ) → after from ≡ Some y → less_at s f ps ks (slice_set now from y) ≡ row_less s f us ps) →
      option_and_then (λ y. less_at s f ps ks (slice_set now from y)) o ≡ row_less s f us ps
  onward from ks now None inside e next = sym (row_less-none s f us ps from size inside e)
  onward from ks now (Some y) inside e next = next y e

  -- up to a place and from it on
  split : (P : ℕ → Type 0) (from k : ℕ) → k < from + 1 → (k < from → P k) → P from → P k
  split P from k l below here = ⊎_elim {C = P k} below (λ (o : from ≤ k). let z : from ≡ k = omega (arith, o, l) in subst P z here) (cases_lt k from)

  put-other : (now : List ℤ) (from k : ℕ) (y : ℤ) (o : Option ℤ) → k ≢ from → o ≡ Some (cell now k) → o ≡ Some (cell (slice_set now from y) k)
  put-other now from k y o n e = e ∙ ap (λ a. Some a) (sym (get_or-set_other now from k y (pos 0) n))

  left-at : (m from : ℕ) (now : List ℤ) → length now ≡ length us → from + m ≡ length us →
      ((k : ℕ) → k < from → after k ≡ Some (cell now k)) → ((k : ℕ) → from ≤ k → cell now k ≡ cell us k) →
      less_at s f ps (filter (λ k. is_filled (cell ps k)) (range_with_len from m)) now ≡ row_less s f us ps
  left-at zero from now count end done ahead = sym (row_less-all s f us ps now size count (λ k l. done k (omega (arith, end, l))))
  left-at (suc m) from now count end done ahead =
      let inside : from < length us = omega (arith, end) in
      let here : cell now from ≡ cell us from = ahead from (omega arith) in
      let ks = filter (λ k. is_filled (cell ps k)) (range_with_len (from + 1) m) in
      elim (cases_Bool (is_filled (cell ps from))) [
        | inl t ↦ rw t (onward from ks now (cell_less s f (cell now from) (cell ps from)) inside (ap (λ a. cell_less s f a (cell ps from)) (sym here))
            (λ y e. left-at m (from + 1) (slice_set now from y) (length-set now from y ∙ count) (omega (arith, end))
            (λ k l. split (λ j. after j ≡ Some (cell (slice_set now from y) j)) from k l
            (λ o. put-other now from k y (after k) (λ z. absurd (omega (arith, z, o))) (done k o))
            (e ∙ ap (λ a. Some a) (sym (get_or-set_same now from y (pos 0) (omega (arith, count, inside))))))
            (λ k l. get_or-set_other now from k y (pos 0) (λ z. absurd (omega (arith, z, l))) ∙ ahead k (omega (arith, l)))))
        | inr n ↦ rw n (left-at m (from + 1) now count (omega (arith, end))
            (λ k l. split (λ j. after j ≡ Some (cell now j)) from k l (done k) (still from now n here))
            (λ k l. ahead k (omega (arith, l))))
      ]

  pub less_at-row : less_at s f ps (filled_places ps) us ≡ row_less s f us ps
  less_at-row = left-at (length ps) 0 us refl (omega (arith, size)) (λ k l. absurd (omega (arith, l))) (λ k l. refl)
