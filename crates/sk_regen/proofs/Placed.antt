-- A group's parameters with its unknowns at a point.
use Rattle.std.proofs.Common.{◌≡◌, inl, inr, ℕ, zero, suc, List, [], ◌∷◌, length, map, Bool, true, false, nat_eq, refl, sym, ap}
use Rattle.std.specs.Prelude.{ℤ}
use Rattle.std.proofs.lemmas.Bool.{cases_Bool, eqb-true, eq-eqb}
use Rattle.sk_types.specs.declared.handle.ParamId.{ParamId}
use Rattle.sk_types.specs.declared.entity.ParamValue.{ParamValue}
use Rattle.sk_regen.specs.Regeneration.{point_of, fixed_of, placed}

abbrev pub id_of : {s : ℕ} → ParamValue s → ParamId
id_of p = p.id

module _ (s : ℕ) (t : ParamId → Bool) where
  pub ids_placed : (ps : List (ParamValue s)) (x : List ℤ) → map id_of (placed t ps x) ≡ map id_of ps
  ids_placed [] x = refl
  ids_placed (p ∷ ps) [] = refl
  ids_placed (p ∷ ps) (z ∷ zs) = elim (cases_Bool (t p.id)) [
    | inl y ↦ rw y (ap (λ l. p.id ∷ l) (ids_placed ps zs))
    | inr n ↦ rw n (ap (λ l. p.id ∷ l) (ids_placed ps (z ∷ zs)))
  ]

  pub fixed_placed : (ps : List (ParamValue s)) (x : List ℤ) → fixed_of t (placed t ps x) ≡ fixed_of t ps
  fixed_placed [] x = refl
  fixed_placed (p ∷ ps) [] = refl
  fixed_placed (p ∷ ps) (z ∷ zs) = elim (cases_Bool (t p.id)) [
    | inl y ↦ rw (y, y) (fixed_placed ps zs)
    | inr n ↦ rw (n, n) (ap (λ l. p ∷ l) (fixed_placed ps (z ∷ zs)))
  ]

  pub point_placed : (ps : List (ParamValue s)) (x : List ℤ) → length x ≡ length (point_of t ps) → point_of t (placed t ps x) ≡ x
  point_placed [] [] e = refl
  point_placed [] (z ∷ zs) e = cc
  point_placed (p ∷ ps) [] e = none (point_of t (p ∷ ps)) e
    where
      none : (x : List ℤ) → zero ≡ length x → x ≡ []
      none [] h = refl
      none (z ∷ zs) h = cc
  point_placed (p ∷ ps) (z ∷ zs) e = elim (cases_Bool (t p.id)) [
    | inl y ↦ rw (y, y) (ap (λ l. z ∷ l) (point_placed ps zs (suc_inj (rw y at e))))
    | inr n ↦ rw (n, n) (point_placed ps (z ∷ zs) (rw n at e))
  ]
    where
      suc_inj : {a b : ℕ} → suc a ≡ suc b → a ≡ b
      suc_inj h = cc

  pub placed_twice : (ps : List (ParamValue s)) (x : List ℤ) → placed t (placed t ps x) x ≡ placed t ps x
  placed_twice [] x = refl
  placed_twice (p ∷ ps) [] = refl
  placed_twice (p ∷ ps) (z ∷ zs) = elim (cases_Bool (t p.id)) [
    | inl y ↦ rw (y, y) (ap (λ l. record { id = p.id; value = z } ∷ l) (placed_twice ps zs))
    | inr n ↦ rw (n, n) (ap (λ l. p ∷ l) (placed_twice ps (z ∷ zs)))
  ]

pub flip : (m n : ℕ) → nat_eq m n ≡ false → nat_eq n m ≡ false
flip m n e = elim (cases_Bool (nat_eq n m)) [ inl t ↦ (let same : n ≡ m = eqb-true n m t in let no : nat_eq m n ≡ true = eq-eqb m n (sym same) in cc (no, e)) | inr f ↦ f ]
