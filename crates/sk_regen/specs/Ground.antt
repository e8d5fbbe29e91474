-- What a group is regenerated over: a model, its outline, and the numbers so far.
use Rattle.std.specs.Prelude.{◌≡◌, ℕ, pos, List, map, length, Some, unwrap_or, IfSome}
use Rattle.std.specs.List.{All}
use Rattle.sk_types.specs.declared.entity.Numbers.{Numbers}
use Rattle.sk_types.specs.declared.entity.Outline.{Outline}
use Rattle.sk_types.specs.declared.entity.ParamValue.{ParamValue}
use Rattle.sk_types.specs.declared.group.Group.{Group}
use Rattle.sk_types.specs.declared.handle.GroupId.{GroupId}
use Rattle.sk_types.specs.Lookups.{value_of, value_handle, act_handle}
use Rattle.sk_types.specs.Params.{unknown_params}
use Rattle.sk_chain.specs.Laws.{IsOutlineOf}
use Rattle.sk_chain.specs.Lookups.{group_at}
use Rattle.sk_krawczyk.specs.Answers.{IsSoundAt}
use Rattle.sk_model.specs.Checked.{AreChecked}
use Rattle.sk_model.specs.Typed.{Typed}
use Rattle.sk_solve.specs.declared.report.Listed.{Listed}
use Rattle.sk_regen.specs.Works.{Works}
use Rattle.sk_regen.specs.Regeneration.{Left, unknowns, fixed_of}
use Rattle.sk_types.specs.declared.handle.RequestId.{RequestId}
use Rattle.sk_system.specs.declared.shares.Shares.{Shares}
use Rattle.sk_system.specs.Shares.{AreParted, constraint_group, entity_group}
use Rattle.sk_regen.specs.GroupWorks.{all_params, all_acts, params_of, is_one_of, start_of, bad_frame_of, seen_of, acts_of, first_numbers, request_handle}

-- the handles are those of all parameters and of all entities with numbers
pub record HasAll {s : ℕ} (m : Typed s) (o : Outline s) (n : Numbers s) : Type 0 where
  pub params : map value_handle n.params ≡ map value_handle (all_params m.groups o.entities)
  pub acts : map act_handle n.acts ≡ map act_handle (all_acts o.entities)

-- the requests with their places, and what belongs to each group
pub record ArePlaced {s : ℕ} (m : Typed s) (o : Outline s) (places : List RequestId) (shares : Shares s) : Type 0 where
  pub requests : places ≡ map request_handle m.requests
  pub entities : AreParted entity_group o.entities shares.entities.items
  pub constraints : AreParted constraint_group m.constraints shares.constraints.items

-- the model has passed typing, the outline is its own, the group is in it, and the numbers are whole
pub record IsGround {s : ℕ} (m : Typed s) (o : Outline s) (n : Numbers s) (g : Group s) : Type 0 where
  pub checked : AreChecked m
  pub outline : IsOutlineOf m o
  pub there : group_at g.id.0 m.groups ≡ Some g
  pub whole : HasAll m o n

-- the works of one group
abbrev pub group_works : {s : ℕ} → Typed s → Outline s → Group s → Works s
group_works m o g = record {
  own = λ h. params_of o.entities g;
  is_unknown = λ h. is_one_of (unknown_params m.constraints o.entities g);
  start = λ n h. start_of m.requests o.entities n g;
  bad_frame = λ n h. bad_frame_of o.entities n.acts g;
  seen = λ n h. seen_of o.entities m.constraints n g;
  acts = λ n h. acts_of o.entities m.constraints n g;
  first = first_numbers m.groups o.entities m.constraints;
}

-- these parameters where they stand among others
abbrev pub stands_among : {s : ℕ} → List (ParamValue s) → ParamValue s → ParamValue s
stands_among params p = record { id = p.id; value = unwrap_or (value_of p.id.0 params) (pos 0) }

-- each box in a group's members is sound, for the group's system at the point where its parameters are kept
abbrev pub BoxesSound : {s : ℕ} → Works s → Numbers s → GroupId → Left s → Type 0
BoxesSound {s} w n g x = All (λ (l : Listed s). IfSome l.result.certificate (IsSoundAt (length (unknowns w g)) (w.seen n g (fixed_of (w.is_unknown g) x.params)) l.result.point)) x.members
