-- What a system is made from: the outline has accepted it, and every list by handle rises.
use Rattle.std.specs.Prelude.{◌≡◌, ◌≤◌, ℕ, pos, List}
use Rattle.std.specs.List.{All}
use Rattle.sk_types.specs.declared.constraint.Constraint.{Constraint}
use Rattle.sk_types.specs.declared.entity.Entity.{Entity}
use Rattle.sk_types.specs.declared.entity.Numbers.{Numbers}
use Rattle.sk_types.specs.declared.group.Group.{Group}
use Rattle.sk_types.specs.declared.standing.Standing.TheVariants.{Accepted}
use Rattle.sk_types.specs.Lookups.{act_handle, value_handle, param_handle, Rise, RiseBy}
use Rattle.sk_types.specs.Parts.{HasParts}
use Rattle.sk_types.specs.Params.{OwnFit, unknown_params}
use Rattle.sk_types.specs.Sizes.{unknowns_of, rows_of}
use Rattle.sk_types.specs.Standings.{constraint_standing, IsInTurn}
use Rattle.sk_system.specs.GroupSystem.{own_constraints}

-- a constraint of an accepted kind; an angle is at most a turn; the needed parts are there
abbrev pub IsTaken : {s : ℕ} → List (Entity s) → Constraint s → Type 0
IsTaken es c = (constraint_standing (pos c.kind) ≡ Accepted) × IsInTurn c × HasParts es c

-- entities, parameters, numbers of entities and unknowns by rising handle; at most 400 unknowns and 400 rows, as the outline
-- counts them
pub record IsKnown {s : ℕ} (g : Group s) (es : List (Entity s)) (cs : List (Constraint s)) (numbers : Numbers s) : Type 0 where
  pub group : g.id.0 ≤ 32767
  pub entities : Rise es
  pub own : OwnFit es
  pub params : RiseBy (value_handle {s = s}) numbers.params
  pub acts : RiseBy (act_handle {s = s}) numbers.acts
  pub unknowns : RiseBy param_handle (unknown_params cs es g)
  pub constraints : All (IsTaken {s = s} es) (own_constraints g cs)
  pub few_unknowns : unknowns_of cs es g ≤ 400
  pub few_rows : rows_of cs es g ≤ 400
