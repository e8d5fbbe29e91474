-- The needed parts of a kind, over four places.
use Rattle.std.proofs.Common.{◌≡◌, ℕ, zero, suc, ◌≤◌, List, [], ◌∷◌, ◌++◌, map, take, length, Bool, true, false, Option, Some, None, refl, sym, ap, ◌∙◌, arith, drop, append-nil}
use Rattle.std.specs.Prelude.{if◌then◌else◌}
use Rattle.std.specs.List.{filter}
use Rattle.sk_types.specs.declared.handle.EntityId.{EntityId}
use Rattle.sk_types.specs.declared.constraint.Need.{Need}
use Rattle.std.proofs.lemmas.List.{length-take, drop_all}
use Rattle.sk_types.specs.declared.constraint.Constraint.{Constraint}
use Rattle.sk_types.specs.Needs.{part_takes, filled_up, needs_of}
use Rattle.sk_system.specs.ConstraintParts.{needed}

-- those that are there and in whose place an entity of the number k can stand
abbrev pub chosen : ℕ → List (Option Need) → List EntityId
chosen k [] = []
chosen k (None ∷ ns) = chosen k ns
chosen k (Some n ∷ ns) = if part_takes n.part k then n.entity ∷ chosen k ns else chosen k ns

abbrev pub entities_for : ℕ → List Need → List EntityId
entities_for k ns = map (λ (n : Need). n.entity) (filter (λ (n : Need). part_takes n.part k) ns)

abbrev blanks : List (Option Need)
blanks = None ∷ None ∷ None ∷ None ∷ []

blank : (k m : ℕ) → chosen k (take m blanks) ≡ []
blank k zero = refl
blank k (suc zero) = refl
blank k (suc (suc zero)) = refl
blank k (suc (suc (suc zero))) = refl
blank k (suc (suc (suc (suc m)))) = nothing m
  where
    nothing : (m : ℕ) → chosen k (take m []) ≡ []
    nothing zero = refl
    nothing (suc m) = refl

one : (n : Need) (b : Bool) (xs : List EntityId) (ns : List Need) → xs ≡ map (λ (n : Need). n.entity) ns →
    (if b then n.entity ∷ xs else xs) ≡ map (λ (n : Need). n.entity) (if b then n ∷ ns else ns)
one n true xs ns e = ap (λ ys. n.entity ∷ ys) e
one n false xs ns e = e

placed : (k m : ℕ) (ns : List Need) → length ns ≤ m → chosen k (take m (map Some ns ++ blanks)) ≡ entities_for k ns
placed k m [] h = blank k m
placed k zero (n ∷ ns) h = absurd (omega (arith, h))
placed k (suc m) (n ∷ ns) h = one n (part_takes n.part k) _ _ (placed k m ns (omega (arith, h)))

pub needed_by : (k : ℕ) (ns : List Need) → length ns ≤ 4 → chosen k (filled_up ns) ≡ entities_for k ns
needed_by k ns h = placed k 4 ns h

-- at the end of the list all needed parts are chosen
pub needed-from : {s : ℕ} (c : Constraint s) (k i : ℕ) (ids : List EntityId) (ns : List (Option Need)) → ns ≡ filled_up (needs_of c.kind c.points c.entities) →
    length (needs_of c.kind c.points c.entities) ≤ 4 → 4 ≤ i → ids ++ chosen k (drop i ns) ≡ chosen k ns → ids ≡ needed c k
unfolding needed
needed-from c k i ids ns e f l h =
    let many = length-take 4 (map Some (needs_of c.kind c.points c.entities) ++ blanks) in
    let few : length ns ≤ i = omega (arith, ap (λ (xs : List (Option Need)). length xs) e, many, l) in
    let end : ids ++ chosen k (drop i ns) ≡ ids = ap (λ (xs : List (Option Need)). ids ++ chosen k xs) (drop_all i ns few) ∙ append-nil ids in
    sym end ∙ h ∙ ap (chosen k) e ∙ needed_by k (needs_of c.kind c.points c.entities) f
