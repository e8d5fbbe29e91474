-- Unknowns of a group, entity by entity.
use Rattle.std.proofs.Common.{◌≡◌, inl, inr, ℕ, ◌+◌, ◌<◌, ◌≤◌, List, [], ◌∷◌, ◌++◌, length, get_or, take, Bool, true, false, refl, ◌∙◌, append-nil}
use Rattle.std.specs.Prelude.{◌==◌, ◌&&◌, ◌||◌, not}
use Rattle.sk_types.specs.declared.handle.ParamId.{ParamId}
use Rattle.sk_types.specs.Lists.{only_if}
use Rattle.std.specs.List.{filter, flat_map}
use Rattle.std.proofs.lemmas.List.{take_all, take_more}
use Rattle.std.proofs.lemmas.List.Elements.{filter-append}
use Rattle.std.proofs.lemmas.List.Folds.{list_any-append}
use Rattle.std.proofs.lemmas.Grind.{flat_map-append}
use Rattle.sk_types.specs.declared.handle.EntityId.{EntityId}
use Rattle.sk_types.specs.declared.handle.GroupId.{GroupId}
use Rattle.sk_types.specs.declared.entity.Entity.{Entity}
use Rattle.sk_types.specs.declared.constraint.Constraint.{Constraint}
use Rattle.sk_types.specs.declared.group.Group.{Group}
use Rattle.sk_types.specs.FixedPoints.{HasFixed, is_pair}
use Rattle.sk_types.specs.Params.{fixes, is_fixed, free_params, group_params, own_params, unknown_params}
use Rattle.sk_types.specs.SearchLaws.{two}

-- ---- points that are fixed

either : (t : Bool) → (t || false) ≡ t
either true = refl
either false = refl

pub fixed_more : {s : ℕ} (cs : List (Constraint s)) (i : ℕ) (d : Constraint s) (pairs pairs' : List (GroupId × EntityId)) → i < length cs → HasFixed pairs (take i cs) →
    ((e : Entity s) → is_pair e pairs' ≡ (is_pair e pairs || fixes e (get_or cs i d))) → HasFixed pairs' (take (i + 1) cs)
fixed_more cs i d pairs pairs' l h k e = k e ∙ rw (h e, take_more cs i d l, list_any-append (fixes e) (take i cs) (get_or cs i d ∷ []), either (fixes e (get_or cs i d))) refl

-- ---- what the entities that pass a test give

module _ {X Y : Type 0} (p : X → Bool) (f : X → List Y) (xs : List X) (i : ℕ) (d : X) (l : i < length xs) where
  abbrev pub so_far : ℕ → List Y
  so_far n = flat_map f (filter p (take n xs))

  one_more : so_far (i + 1) ≡ so_far i ++ flat_map f (filter p (get_or xs i d ∷ []))
  one_more = rw (take_more xs i d l, filter-append p (take i xs) (get_or xs i d ∷ []), flat_map-append) refl

-- an entity more: its parameters, where it is the group's and isn't fixed
free_one : {s : ℕ} (cs : List (Constraint s)) (g : ℕ) (pairs : List (GroupId × EntityId)) (e : Entity s) → HasFixed pairs cs →
    flat_map (free_params cs) (filter (λ x. x.group.0 == g) (e ∷ [])) ≡ only_if (e.group.0 == g && not (is_pair e pairs)) (own_params e)
free_one cs g pairs e h = rw (h e) (elim (two (e.group.0 == g)) [
  | inl t ↦ rw t (elim (two (is_fixed cs e)) [ inl u ↦ rw u refl | inr u ↦ rw (u, append-nil (own_params e)) refl ])
  | inr t ↦ rw t refl
])

pub free_more : {s : ℕ} (cs : List (Constraint s)) (g : ℕ) (pairs : List (GroupId × EntityId)) (es : List (Entity s)) (i : ℕ) (d : Entity s) (ps ps' : List ParamId) → HasFixed pairs cs → i < length es →
    ps ≡ flat_map (free_params cs) (filter (λ x. x.group.0 == g) (take i es)) → d ≡ get_or es i d → ps' ≡ ps ++ only_if (d.group.0 == g && not (is_pair d pairs)) (own_params d) →
    ps' ≡ flat_map (free_params cs) (filter (λ x. x.group.0 == g) (take (i + 1) es))
free_more cs g pairs es i d ps ps' h l e k m =
    m ∙ rw (one_more (λ x. x.group.0 == g) (free_params cs) es i d l, ← k, free_one cs g pairs d h, e) refl

pub all_free : {s : ℕ} (cs : List (Constraint s)) (es : List (Entity s)) (g : Group s) (i : ℕ) (ps ps' : List ParamId) → ps ≡ flat_map (free_params cs) (filter (λ x. x.group.0 == g.id.0) (take i es)) → length es ≤ i → ps' ≡ ps ++ group_params g → ps' ≡ unknown_params cs es g
all_free cs es g i ps ps' k l m = m ∙ rw (k, take_all i es l) refl
