-- A list of needs that is filled up with None.
use Rattle.std.proofs.Common.{◌≡◌, ℕ, zero, suc, ◌<◌, ◌≤◌, List, [], ◌∷◌, ◌++◌, map, take, length, get_or, Option, Some, None, refl, arith, ap, sym, ◌∙◌}
use Rattle.std.specs.Prelude.{slice_get}
use Rattle.sk_types.specs.declared.constraint.Need.{Need}
use Rattle.sk_types.specs.Needs.{filled_up, fits_part}

filled_at : (n : ℕ) (ns : List Need) (more : List (Option Need)) (i : ℕ) (d : Option Need) → i < length ns → i < n → get_or (take n (map Some ns ++ more)) i d ≡ slice_get ns i
filled_at zero ns more i d l h = absurd (omega arith)
filled_at (suc n) [] more i d l h = absurd (omega arith)
filled_at (suc n) (x ∷ ns) more zero d l h = refl
filled_at (suc n) (x ∷ ns) more (suc i) d l h = filled_at n ns more i d (omega arith) (omega arith)

pub filled_up-at : (ns : List Need) (i : ℕ) (d : Option Need) → i < length ns → length ns ≤ 4 → get_or (filled_up ns) i d ≡ slice_get ns i
filled_up-at ns i d l few = filled_at 4 ns (None ∷ None ∷ None ∷ None ∷ []) i d l (omega arith)

-- what a place of the filled list holds decides what fits there
pub fits-at : (xs : List (Option Need)) (ns : List Need) (i j e : ℕ) (o : Option Need) → xs ≡ filled_up ns → j ≡ i → i < length ns → length ns ≤ 4 → get_or xs j None ≡ o → fits_part o e ≡ fits_part (slice_get ns i) e
fits-at xs ns i j e o p q l few h =
    ap (λ x. fits_part x e) (sym h ∙ ap (λ k. get_or xs k None) q ∙ ap (λ (ys : List (Option Need)). get_or ys i None) p ∙ filled_up-at ns i None l few)
