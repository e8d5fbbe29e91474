-- Constraints whose rows are made of points in their workplane alone: nothing else needs to be made for them.
use Rattle.std.specs.Prelude.{ℕ, Bool, false, List, [], ◌∷◌, ◌&&◌}
use Rattle.sk_types.specs.declared.constraint.Constraint.{Constraint}
use Rattle.sk_types.specs.declared.constraint_kind.TheConstants as kind
use Rattle.sk_types.specs.Lists.{is_among}
use Rattle.sk_types.specs.Sizes.{has_entity}
use Rattle.sk_expr.specs.Parts.{PartsOf}

abbrev pub flat_kinds : List ℕ
flat_kinds = kind.POINTS_COINCIDENT ∷ kind.POINT_POINT_DISTANCE ∷ kind.SYMMETRIC_HORIZONTAL ∷ kind.SYMMETRIC_VERTICAL ∷ []

unfoldable pub is_flat : {s : ℕ} → Constraint s → Bool
is_flat c = has_entity c.workplane && is_among c.kind flat_kinds

-- of these parts the points in the workplane
abbrev pub flat_alone : PartsOf → PartsOf
flat_alone m = record {
  points = [];
  flat_points = m.flat_points;
  lines = [];
  frames = [];
  axes = [];
  rounds = [];
  normals = false ∷ false ∷ false ∷ false ∷ [];
}
