-- The formula of a constraint by its number: its auxiliaries, its cosines and its relation rows.
use Rattle.std.specs.Prelude.{ℕ, ◌+◌, List, [], ◌∷◌, length, if◌then◌else◌}
use Rattle.sk_types.specs.declared.handle.ConstraintId.{ConstraintId}
use Rattle.sk_types.specs.declared.constraint.Constraint.{Constraint}
use Rattle.sk_types.specs.Lists.{is_among}
use Rattle.sk_types.specs.Needs.{named}
use Rattle.sk_expr.specs.Formula.{Formula, formula}
use Rattle.sk_geom.specs.Sources.{Source}
use Rattle.sk_eq_points.specs.PointRows.{point_kinds, point_formula}
use Rattle.sk_eq_lines.specs.LineRows.{line_kinds, line_formula}
use Rattle.sk_eq_curves.specs.CurveRows.{curve_kinds, curve_formula}
use Rattle.sk_face.specs.FaceRows.{face_kinds, face_formula}
use Rattle.sk_cubic.specs.CubicRows.{cubic_formula}
use Rattle.sk_system.specs.ByHandle.{point_by}
use Rattle.sk_system.specs.ConstraintParts.{constraint_parts}
use Rattle.sk_system.specs.Contacts.{face_by, contact_in, has_cubic}

-- i unknowns and k cosines stand before; a reference, a point that stays where it is and a comment have nothing
unfoldable pub constraint_formula : {s : ℕ} → Source s → ℕ → ℕ → Constraint s → Formula
constraint_formula {s} o i k c =
    if c.reference then formula [] [] else
    if is_among c.kind point_kinds then point_formula s c (constraint_parts o c) else
    if is_among c.kind line_kinds then line_formula s i k c (constraint_parts o c) else
    if is_among c.kind face_kinds then face_formula s i c (point_by o (named c.points 0)) (face_by o (named c.entities 0)) else
    if has_cubic o c then cubic_formula s c (contact_in o c) else
    if is_among c.kind curve_kinds then curve_formula s i c (constraint_parts o c) else formula [] []

-- a constraint with its formula
pub record NamedFormula : Type 0 where
  pub constraint : ConstraintId
  pub formula : Formula

-- one after another, each behind the auxiliaries and cosines of those before
abbrev pub formulas_from : {s : ℕ} → Source s → ℕ → ℕ → List (Constraint s) → List NamedFormula
formulas_from o i k [] = []
formulas_from o i k (c ∷ cs) =
    let f = constraint_formula o i k c in
    record { constraint = c.id; formula = f } ∷ formulas_from o (i + length f.auxiliaries) (k + length f.cosines) cs
