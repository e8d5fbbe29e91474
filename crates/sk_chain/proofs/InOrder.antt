-- What holds of all of some things holds of them in order.
use Rattle.std.proofs.Common.{inl, inr, List, [], ◌∷◌, Bool}
use Rattle.std.specs.List.{AllByRecursion, fold}
use Rattle.std.proofs.lemmas.Bool.{cases_Bool}
use Rattle.sk_copy.specs.Order.{put_in, in_order}

module _ {X : Type 0} (P : X → Type 0) (before : X → X → Bool) where
  pub all_put : (x : X) (ys : List X) → P x → AllByRecursion P ys → AllByRecursion P (put_in before x ys)
  all_put x [] p h = (p, tt)
  all_put x (y ∷ ys) p h = elim (cases_Bool (before x y)) [
    | inl t ↦ rw t ((p, h))
    | inr f ↦ rw f ((h.0, all_put x ys p h.1))
  ]

  pub all_onto : (ys xs : List X) → AllByRecursion P ys → AllByRecursion P xs → AllByRecursion P (fold (λ zs x. put_in before x zs) ys xs)
  all_onto ys [] h k = h
  all_onto ys (x ∷ xs) h k = all_onto (put_in before x ys) xs (all_put x ys k.0 h) k.1

  pub all_in_order : (xs : List X) → AllByRecursion P xs → AllByRecursion P (in_order before xs)
  unfolding in_order
  all_in_order xs h = all_onto [] xs tt h

  both_of : (x : X) (ys : List X) → AllByRecursion P (put_in before x ys) → P x × AllByRecursion P ys
  both_of x [] h = h
  both_of x (y ∷ ys) h = elim (cases_Bool (before x y)) [
    | inl t ↦ (let k = rw t at h in k)
    | inr f ↦ (let k = rw f at h in let rest = both_of x ys k.1 in (rest.0, (k.0, rest.1)))
  ]

  all_of_onto : (ys xs : List X) → AllByRecursion P (fold (λ zs x. put_in before x zs) ys xs) → AllByRecursion P ys × AllByRecursion P xs
  all_of_onto ys [] h = (h, tt)
  all_of_onto ys (x ∷ xs) h = let rest = all_of_onto (put_in before x ys) xs h in let one = both_of x ys rest.0 in (one.1, (one.0, rest.1))

  pub all_of_order : (xs : List X) → AllByRecursion P (in_order before xs) → AllByRecursion P xs
  unfolding in_order
  all_of_order xs h = (all_of_onto [] xs h).1
