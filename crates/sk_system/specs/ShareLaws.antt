-- What is made of a group's own entities and constraints alone is what is made of all.
use Rattle.std.proofs.Common.{◌≡◌, ℕ, Bool, true, false, List, [], ◌∷◌, ◌++◌, refl, ap, sym, ◌∙◌, subst, length, inl, inr, ◌+◌, ◌≤◌}
use Rattle.std.specs.Prelude.{◌==◌, ◌&&◌, not, if◌then◌else◌}
use Rattle.std.specs.List.{All, filter, flat_map, sum_by}
use Rattle.std.proofs.lemmas.Bool.{cases_Bool, eqb-true}
use Rattle.std.proofs.lemmas.Map.Views.{any-filter_same}
use Rattle.sk_types.specs.declared.constraint.Constraint.{Constraint}
use Rattle.sk_types.specs.declared.entity.Entity.{Entity}
use Rattle.sk_types.specs.declared.entity.Numbers.{Numbers}
use Rattle.sk_types.specs.declared.group.Group.{Group}
use Rattle.sk_types.specs.declared.handle.ParamId.{ParamId}
use Rattle.sk_types.specs.Lookups.{RiseBy, param_handle}
use Rattle.sk_types.specs.Needs.{named}
use Rattle.sk_types.specs.Params.{fixes, free_params, group_params, own_params, unknown_params}
use Rattle.sk_types.specs.declared.constraint_kind.TheConstants as kind
use Rattle.sk_types.specs.Sizes.{entity_rows, group_rows, rows_of, sizes_in, unknowns_of}
use Rattle.sk_geom.specs.Sources.{Source}
use Rattle.sk_system.specs.GroupSystem.{GroupSystem, group_system, numbers_of, own_constraints, own_rows_of}
use Rattle.sk_system.specs.Formulas.{formulas_from}
use Rattle.sk_system.specs.Known.{IsKnown, IsTaken}
use Rattle.sk_system.specs.Shares.{entity_group, of_group}

-- twice picked out is once
pub own-again : {X : Type 0} (key : X → ℕ) (g : ℕ) (xs : List X) → of_group key g (of_group key g xs) ≡ of_group key g xs
own-again key g [] = refl
own-again key g (x ∷ xs) = elim (cases_Bool (key x == g)) [
  | inl t ↦ rw (t, t) (ap (λ ys. x ∷ ys) (own-again key g xs))
  | inr f ↦ rw f (own-again key g xs)
]

third : (a b c d : Bool) → (a && b && c && d) ≡ true → c ≡ true
third true true true d e = refl
third true true false d e = absurd cc
third true false c d e = absurd cc
third false b c d e = absurd cc

-- what fixes an entity is of its group
of-group : {s : ℕ} (g : ℕ) (e : Entity s) (c : Constraint s) → (e.group.0 == g) ≡ true → fixes e c ≡ true → (c.group.0 == g) ≡ true
of-group g e c h t =
    subst (λ n. (c.group.0 == n) ≡ true) (eqb-true e.group.0 g h) (third (c.kind == kind.WHERE_DRAGGED) (not c.reference) (c.group.0 == e.group.0) ((named c.points 0).0 == e.id.0) t)

free-same : {s : ℕ} (g : Group s) (cs : List (Constraint s)) (e : Entity s) → (e.group.0 == g.id.0) ≡ true → free_params (own_constraints g cs) e ≡ free_params cs e
free-same {s} g cs e h =
    ap (λ b. if b then [] else own_params e) (any-filter_same (fixes e) (λ (c : Constraint s). c.group.0 == g.id.0) true (λ c t. of-group g.id.0 e c h t) cs)

one-free : {s : ℕ} (g : Group s) (cs : List (Constraint s)) (e : Entity s) (es : List (Entity s)) (b : Bool) → (e.group.0 == g.id.0) ≡ b →
    flat_map (free_params (own_constraints g cs)) es ≡ flat_map (free_params cs) es →
    flat_map (free_params (own_constraints g cs)) (if b then e ∷ es else es) ≡ flat_map (free_params cs) (if b then e ∷ es else es)
one-free g cs e es false h k = k
one-free g cs e es true h k =
    ap (λ (ps : List ParamId). ps ++ flat_map (free_params (own_constraints g cs)) es) (free-same g cs e h) ∙ ap (λ (ps : List ParamId). free_params cs e ++ ps) k

all-free : {s : ℕ} (g : Group s) (cs : List (Constraint s)) (es : List (Entity s)) →
    flat_map (free_params (own_constraints g cs)) (filter (λ e. e.group.0 == g.id.0) es) ≡ flat_map (free_params cs) (filter (λ e. e.group.0 == g.id.0) es)
all-free g cs [] = refl
all-free {s} g cs (e ∷ es) = one-free g cs e (filter (λ (x : Entity s). x.group.0 == g.id.0) es) (e.group.0 == g.id.0) refl (all-free g cs es)

-- only constraints of the group fix what it solves
pub own-unknowns : {s : ℕ} (g : Group s) (cs : List (Constraint s)) (es : List (Entity s)) → unknown_params (own_constraints g cs) es g ≡ unknown_params cs es g
own-unknowns g cs es = ap (λ (ps : List ParamId). ps ++ group_params g) (all-free g cs es)

pub own-entities : {s : ℕ} (g : Group s) (cs : List (Constraint s)) (es : List (Entity s)) → unknown_params cs (of_group entity_group g.id.0 es) g ≡ unknown_params cs es g
own-entities g cs es = ap (λ es. flat_map (free_params cs) es ++ group_params g) (own-again entity_group g.id.0 es)

module _ {s : ℕ} (g : Group s) (es : List (Entity s)) (cs : List (Constraint s)) (n : Numbers s) where
  twice : own_constraints g (own_constraints g cs) ≡ own_constraints g cs
  twice = own-again (λ (c : Constraint s). c.group.0) g.id.0 cs

  abbrev system-over : List ParamId → List (Constraint s) → GroupSystem
  system-over us own =
      let o : Source s = record { entities = es; params = n.params; acts = n.acts; unknowns = us; group = g.id } in
      record { unknowns = us; numbers = numbers_of o; rows = own_rows_of o g; formulas = formulas_from o (length us) 0 own }

  pub own-system : group_system g es (own_constraints g cs) n ≡ group_system g es cs n
  unfolding group_system
  own-system = ap (λ us. system-over us (own_constraints g (own_constraints g cs))) (own-unknowns g cs es) ∙ ap (system-over (unknown_params cs es g)) twice

  few : (f : Constraint s → ℕ) → sum_by f (own_constraints g (own_constraints g cs)) ≡ sum_by f (own_constraints g cs)
  few f = ap (sum_by f) twice

  unknowns-same : unknowns_of (own_constraints g cs) es g ≡ unknowns_of cs es g
  unknowns-same = ap (λ us. length us + sum_by (λ (c : Constraint s). (sizes_in es c).0) (own_constraints g (own_constraints g cs))) (own-unknowns g cs es)
      ∙ ap (λ k. length (unknown_params cs es g) + k) (few (λ c. (sizes_in es c).0))

  rows-same : rows_of (own_constraints g cs) es g ≡ rows_of cs es g
  rows-same = ap (λ k. sum_by entity_rows (of_group entity_group g.id.0 es) + group_rows g + k) (few (λ c. (sizes_in es c).1))

  pub own-known : IsKnown g es cs n → IsKnown g es (own_constraints g cs) n
  own-known h = record {
    group = h.group;
    entities = h.entities;
    own = h.own;
    params = h.params;
    acts = h.acts;
    unknowns = subst (RiseBy param_handle) (sym (own-unknowns g cs es)) h.unknowns;
    constraints = subst (All (IsTaken es)) (sym twice) h.constraints;
    few_unknowns = subst (λ k. k ≤ 400) (sym unknowns-same) h.few_unknowns;
    few_rows = subst (λ k. k ≤ 400) (sym rows-same) h.few_rows;
  }
