-- What a group is regenerated over gives all that its system asks.
use Rattle.std.proofs.Common.{◌≡◌, inl, inr, ℕ, ◌≤◌, List, [], ◌∷◌, map, true, nat_eq, sym, subst}
use Rattle.std.specs.Prelude.{◌==◌}
use Rattle.std.specs.List.{All, AllByRecursion, IsDistinct}
use Rattle.std.specs.List.Sorted.{IsStrictlySortedBy}
use Rattle.std.specs.Ordering.{nat_cmp}
use Rattle.std.proofs.lemmas.Bool.{cases_Bool}
use Rattle.std.proofs.lemmas.List.Elements.{All-from_recursion, recursion_from_All}
use Rattle.sk_types.specs.declared.constraint.Constraint.{Constraint}
use Rattle.sk_types.specs.declared.entity.Entity.{Entity}
use Rattle.sk_types.specs.declared.entity.Numbers.{Numbers}
use Rattle.sk_types.specs.declared.entity.Outline.{Outline}
use Rattle.sk_types.specs.declared.group.Group.{Group}
use Rattle.sk_types.specs.declared.handle.ParamId.{ParamId}
use Rattle.sk_types.specs.Lookups.{RiseBy, act_handle, param_handle, value_handle}
use Rattle.sk_types.specs.Params.{unknown_params}
use Rattle.sk_types.specs.Parts.{HasParts}
use Rattle.sk_model.specs.Chain.{seen_in}
use Rattle.sk_model.specs.Checked.{IsCheckedGroup, IsCheckedConstraint}
use Rattle.sk_model.specs.Typed.{Typed}
use Rattle.sk_chain.proofs.Apart.{sorted_distinct}
use Rattle.sk_chain.proofs.Standing.{found_holds}
use Rattle.sk_chain.specs.Laws.{IsSmallGroup}
use Rattle.sk_system.specs.GroupSystem.{own_constraints}
use Rattle.sk_system.specs.Known.{IsTaken, IsKnown}
use Rattle.sk_regen.specs.Ground.{IsGround}
use Rattle.sk_regen.specs.GroupWorks.{all_params, params_of}
use Rattle.sk_regen.proofs.SoundNumbers.{params_rise, acts_rise, own_among, own_rise, StandsAmong}

taken-all : {s : ℕ} (g : Group s) (es : List (Entity s)) (cs : List (Constraint s)) → AllByRecursion IsCheckedConstraint cs → AllByRecursion (HasParts es) cs → AllByRecursion (IsTaken es) (own_constraints g cs)
taken-all g es [] c h = tt
taken-all g es (x ∷ cs) c h = elim (cases_Bool (x.group.0 == g.id.0)) [
  | inl t ↦ rw t ((c.0.accepted, c.0.in_turn, h.0), taken-all g es cs c.1 h.1)
  | inr f ↦ rw f (taken-all g es cs c.1 h.1)
]

-- with the same handles
pub rise-same : {X : Type 0} (f : X → ℕ) (xs ys : List X) → map f ys ≡ map f xs → RiseBy f xs → RiseBy f ys
rise-same f xs ys e rise = subst (IsStrictlySortedBy nat_cmp) (sym e) rise

module _ {s : ℕ} (m : Typed s) (o : Outline s) (n : Numbers s) (g : Group s) (is : IsGround m o n g) where
  in-model : (P : Group s → Type 0) → All P m.groups → P g
  in-model P all = found_holds P g.id.0 m.groups g all is.there

  pub most : g.id.0 ≤ 32767
  most = (in-model IsCheckedGroup is.checked.groups).most

  pub whole-rise : RiseBy value_handle (all_params m.groups o.entities)
  whole-rise = params_rise m.groups o.entities is.checked.groups_differ is.outline.own_rise is.outline.own_within

  pub params-rise : RiseBy value_handle n.params
  params-rise = subst (IsStrictlySortedBy nat_cmp) (sym is.whole.params) whole-rise

  pub params-differ : IsDistinct nat_eq (map value_handle n.params)
  params-differ = sorted_distinct (map value_handle n.params) params-rise

  pub acts-rise : RiseBy act_handle n.acts
  acts-rise = subst (IsStrictlySortedBy nat_cmp) (sym is.whole.acts) (acts_rise o.entities is.outline.rise)

  pub own-rise : RiseBy param_handle (params_of o.entities g)
  own-rise = own_rise o.entities is.outline.own_rise is.outline.own_within g most

  pub own-stand : All (λ (p : ParamId). seen_in p.0 (map value_handle n.params) ≡ true) (params_of o.entities g)
  own-stand = subst (λ (ids : List ℕ). All (λ (p : ParamId). seen_in p.0 ids ≡ true) (params_of o.entities g)) (sym is.whole.params) (in-model (StandsAmong m.groups o.entities) (own_among m.groups o.entities))

  small : IsSmallGroup m o.entities g
  small = in-model (IsSmallGroup m o.entities) is.outline.groups_small

  pub unknowns-rise : RiseBy param_handle (unknown_params m.constraints o.entities g)
  unknowns-rise = small.params_rise

  -- with other numbers of the same handles too
  pub known : (r : Numbers s) → map value_handle r.params ≡ map value_handle n.params → map act_handle r.acts ≡ map act_handle n.acts → IsKnown g o.entities m.constraints r
  known r p a = record {
    group = most;
    entities = is.outline.rise;
    own = is.outline.own_fit;
    params = subst (IsStrictlySortedBy nat_cmp) (sym p) params-rise;
    acts = subst (IsStrictlySortedBy nat_cmp) (sym a) acts-rise;
    unknowns = unknowns-rise;
    constraints = All-from_recursion (IsTaken o.entities) (own_constraints g m.constraints)
        (taken-all g o.entities m.constraints (recursion_from_All IsCheckedConstraint m.constraints is.checked.constraints) (recursion_from_All (HasParts o.entities) m.constraints is.outline.parts));
    few_unknowns = small.unknowns;
    few_rows = small.rows;
  }
