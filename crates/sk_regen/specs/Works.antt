-- What regeneration takes from the crates below it, of each group of a model.
use Rattle.std.specs.Prelude.{ℕ, List, ℤ, Option, Bool}
use Rattle.sk_types.specs.declared.handle.GroupId.{GroupId}
use Rattle.sk_types.specs.declared.handle.ParamId.{ParamId}
use Rattle.sk_types.specs.declared.entity.ParamValue.{ParamValue}
use Rattle.sk_types.specs.declared.entity.Act.{Act}
use Rattle.sk_types.specs.declared.entity.Numbers.{Numbers}
use Rattle.sk_geom.specs.declared.fault.FrameFault.{FrameFault}
use Rattle.sk_expr.specs.Seen.{Seen}

-- All of it is a function of the groups, the requests, the constraints and the outline: no stored parameter is looked at.
pub record Works (s : ℕ) : Type 0 where
  -- the group's own parameters, in rising handle order
  pub own : GroupId → List ParamId
  -- those that no constraint fixes
  pub is_unknown : GroupId → ParamId → Bool
  -- where a parameter starts that isn't stored
  pub start : Numbers s → GroupId → ParamId → ℤ
  -- why a frame by line segments isn't there
  pub bad_frame : Numbers s → GroupId → Option FrameFault
  -- the group's system at a point, over the numbers that earlier groups left and the group's fixed parameters; none where a
  -- reading passes the limit
  pub seen : Numbers s → GroupId → List (ParamValue s) → List ℤ → Option Seen
  -- the readings of the group's entities where its parameters stand so
  pub acts : Numbers s → GroupId → List (ParamValue s) → List (Act s)
  -- all parameters and entities by rising handle, before any group is regenerated: those of group 1 where they stand, the others at 0
  pub first : Numbers s
