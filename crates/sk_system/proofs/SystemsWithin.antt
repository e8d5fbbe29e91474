-- The formula of each constraint fits, and so do the rows of entities and of the group.
use Rattle.std.proofs.Common.{◌≡◌, ℕ, ◌≤◌, ℤ, pos, Bool, true, false, List, [], ◌∷◌, length, map, refl, ap, ◌∙◌, arith}
use Rattle.std.specs.Prelude.{◌==◌, not, if◌then◌else◌, slice_get, unwrap_or}
use Rattle.std.specs.List.{filter}
use Rattle.std.proofs.lemmas.Bool.{eqb-true}
use Rattle.sk_types.specs.declared.handle.EntityId.{EntityId}
use Rattle.sk_types.specs.declared.constraint.Constraint.{Constraint}
use Rattle.sk_types.specs.declared.constraint.Need.{Need}
use Rattle.sk_types.specs.declared.constraint_kind.TheConstants as kind
use Rattle.sk_types.specs.declared.entity_kind.TheConstants as entity_kind
use Rattle.sk_types.specs.Lists.{is_among}
use Rattle.sk_types.specs.Needs.{named, needs_of, part_takes}
use Rattle.sk_types.specs.Sizes.{has_entity}
use Rattle.sk_expr.specs.Poly.{Poly, number, unknown}
use Rattle.sk_expr.specs.Vectors.{vector_difference, scaled}
use Rattle.sk_expr.specs.Parts.{LinePoints, point_at, line_at, end_at, line_vector}
use Rattle.sk_expr.specs.Formula.{Formula, formula}
use Rattle.sk_geom.specs.Sources.{Source}
use Rattle.sk_eq_points.specs.PointRows.{point_kinds, point_rows}
use Rattle.sk_eq_lines.specs.LineRows.{line_kinds, line_formula, from_foot, on_line}
use Rattle.sk_eq_curves.specs.CurveRows.{curve_kinds, curve_formula}
use Rattle.sk_face.specs.FaceRows.{face_kinds, face_formula}
use Rattle.sk_cubic.specs.CubicRows.{cubic_formula}
use Rattle.sk_system.specs.ByHandle.{point_by, end_by, is_normal_by}
use Rattle.sk_system.specs.ConstraintParts.{needed, workplane_of, space_points, line_by, constraint_parts}
use Rattle.sk_system.specs.Contacts.{face_by, contact_in, has_cubic}
use Rattle.sk_system.specs.Formulas.{constraint_formula}
use Rattle.sk_system.specs.Fits.{AreWithin, FormulaFits}
use Rattle.sk_system.proofs.Lengths.{difference-length, scaled-length, point-three}
use Rattle.sk_system.proofs.PartsWithin.{PartsIn, parts-in, point_by-in}
use Rattle.sk_system.proofs.FormulasWithin.{only, coincident-in, points_apart-in, over_plane-in, in_plane-in, symmetric-in, mirrored-in, symmetric_over_line-in, middle-in, level-in, from_line-fits, apart_along-fits, on_line-fits, equal_lengths-fits, length_ratio-fits, length_as_height-fits, equal_heights-fits, equal_angles-fits, longer_by-fits, same_orientation-fits, in_angle-fits, parallel-lines-fits, perpendicular-lines-fits, diameter-fits, on_circle-fits, arc_touches_line-fits, arcs_touch-fits, equal_radii-fits}
use Rattle.sk_system.proofs.ContactsWithin.{face_by-in, over_face-fits, in_face-fits, contact-in, touch-fits}

-- ---- a line in space

pub line-three : (l : LinePoints) (a b : List (Poly ℤ)) → l.ends ≡ a ∷ b ∷ [] → length a ≡ 3 → length b ≡ 3 → (length (end_at false l 0) ≡ 3) × (length (line_vector false l) ≡ 3)
unfolding line_vector end_at
line-three l a b e h k =
    let first : length (end_at false l 0) ≡ 3 = ap (λ (es : List (List (Poly ℤ))). length (unwrap_or (slice_get es 0) (number (pos 0) ∷ number (pos 0) ∷ []))) e ∙ h in
    let second : length (end_at false l 1) ≡ 3 = ap (λ (es : List (List (Poly ℤ))). length (unwrap_or (slice_get es 1) (number (pos 0) ∷ number (pos 0) ∷ []))) e ∙ k in
    (first, difference-length 3 (end_at false l 0) (end_at false l 1) first second)

pub foot-three : (t : Poly ℤ) (p : List (Poly ℤ)) (l : LinePoints) → length p ≡ 3 → length (end_at false l 0) ≡ 3 → length (line_vector false l) ≡ 3 → length (from_foot t p l) ≡ 3
unfolding from_foot
foot-three t p l h k j =
    difference-length 3 (vector_difference p (end_at false l 0)) (scaled t (line_vector false l)) (difference-length 3 p (end_at false l 0) h k) (scaled-length 3 t (line_vector false l) j)

-- ---- constraints

module _ {s : ℕ} (o : Source s) (i k : ℕ) (l : length o.unknowns ≤ i) (c : Constraint s) where
  parts-within : (v d : ℕ) → i ≤ v → PartsIn v d (constraint_parts o c)
  parts-within v d q = parts-in o v d (omega (arith, l, q)) c

  either : (t : Bool) (f g : Formula) → FormulaFits i k f → FormulaFits i k g → FormulaFits i k (if t then f else g)
  either true f g x y = x
  either false f g x y = y

  either-on : (t : Bool) (f g : Formula) → (t ≡ true → FormulaFits i k f) → FormulaFits i k g → FormulaFits i k (if t then f else g)
  either-on true f g x y = x refl
  either-on false f g x y = y

  nothing : FormulaFits i k (formula [] [])
  nothing = (tt, tt)

  abbrev RowsIn : List (Poly ℤ) → Type 0
  RowsIn ts = (v d : ℕ) → i ≤ v → AreWithin v d 4000000 ts

  either-rows : (t : Bool) (a b : List (Poly ℤ)) → RowsIn a → RowsIn b → RowsIn (if t then a else b)
  either-rows true a b x y = x
  either-rows false a b x y = y

  point_rows-in : RowsIn (point_rows s c (constraint_parts o c))
  unfolding point_rows
  point_rows-in =
      let m = constraint_parts o c in
      let flat = has_entity c.workplane in
      let has_line = has_entity (named c.entities 0) in
      either-rows (c.kind == kind.POINTS_COINCIDENT) _ _ (coincident-in m i parts-within flat) (
      either-rows (c.kind == kind.POINT_POINT_DISTANCE) _ _ (points_apart-in m i parts-within flat c.value) (
      either-rows (c.kind == kind.POINT_PLANE_DISTANCE) _ _ (over_plane-in m i parts-within c.value) (
      either-rows (c.kind == kind.POINT_IN_PLANE) _ _ (in_plane-in m i parts-within) (
      either-rows (c.kind == kind.SYMMETRIC) _ _ (symmetric-in m i parts-within s flat) (
      either-rows (c.kind == kind.SYMMETRIC_HORIZONTAL) _ _ (mirrored-in m i parts-within 1 0) (
      either-rows (c.kind == kind.SYMMETRIC_VERTICAL) _ _ (mirrored-in m i parts-within 0 1) (
      either-rows (c.kind == kind.SYMMETRIC_LINE) _ _ (symmetric_over_line-in m i parts-within s) (
      either-rows (c.kind == kind.AT_MIDPOINT) _ _ (middle-in m i parts-within s (has_entity (named c.points 0)) flat) (
      either-rows (c.kind == kind.HORIZONTAL) _ _ (level-in m i parts-within has_line 1) (
      either-rows (c.kind == kind.VERTICAL) _ _ (level-in m i parts-within has_line 0) (λ v d q. tt)))))))))))

  -- a point on a line: the line isn't a normal
  points-of : c.kind ≡ kind.POINT_ON_LINE → needed c entity_kind.POINT_IN_SPACE ≡ named c.points 0 ∷ []
  unfolding needed needs_of part_takes
  points-of e = ap (λ n. map (λ (n : Need). n.entity) (filter (λ (n : Need). part_takes n.part entity_kind.POINT_IN_SPACE) (needs_of n c.points c.entities))) e

  lines-of : c.kind ≡ kind.POINT_ON_LINE → needed c entity_kind.LINE ≡ named c.entities 0 ∷ []
  unfolding needed needs_of part_takes
  lines-of e = ap (λ n. map (λ (n : Need). n.entity) (filter (λ (n : Need). part_takes n.part entity_kind.LINE) (needs_of n c.points c.entities))) e

  kept : (b : Bool) (e : EntityId) → b ≡ false → (if not b then e ∷ [] else []) ≡ e ∷ []
  kept true e h = absurd cc
  kept false e h = refl

  lines-there : c.kind ≡ kind.POINT_ON_LINE → is_normal_by o (named c.entities 0) ≡ false → filter (λ e. not (is_normal_by o e)) (needed c entity_kind.LINE) ≡ named c.entities 0 ∷ []
  lines-there e n = ap (λ (es : List EntityId). filter (λ e. not (is_normal_by o e)) es) (lines-of e) ∙ kept (is_normal_by o (named c.entities 0)) (named c.entities 0) n

  point-there : c.kind ≡ kind.POINT_ON_LINE → length (point_at false (constraint_parts o c) 0) ≡ 3
  unfolding point_at constraint_parts
  point-there e = ap (λ (es : List EntityId). length (unwrap_or (slice_get (space_points o es) 0) (number (pos 0) ∷ number (pos 0) ∷ []))) (points-of e) ∙ point-three o (named c.points 0)

  ends-there : c.kind ≡ kind.POINT_ON_LINE → is_normal_by o (named c.entities 0) ≡ false →
      (line_at (constraint_parts o c) 0).ends ≡ point_by o (end_by o (named c.entities 0) 0) ∷ point_by o (end_by o (named c.entities 0) 1) ∷ []
  unfolding line_at constraint_parts line_by
  ends-there e n =
      ap (λ (es : List EntityId). let t : LinePoints = unwrap_or (slice_get (map (line_by o (workplane_of c)) es) 0) (record { ends = []; flat = [] }) in t.ends) (lines-there e n)

  pub line_formula-fits : (c.kind ≡ kind.POINT_ON_LINE → is_normal_by o (named c.entities 0) ≡ false) → FormulaFits i k (line_formula s i k c (constraint_parts o c))
  unfolding line_formula
  line_formula-fits n =
      let m = constraint_parts o c in
      let h = parts-within in
      let flat = has_entity c.workplane in
      either (c.kind == kind.POINT_LINE_DISTANCE) _ _ (from_line-fits m i k h flat c.value) (
      either (c.kind == kind.PROJECTED_DISTANCE) _ _ (apart_along-fits m i k h c.value) (
      either-on (c.kind == kind.POINT_ON_LINE) _ _ (λ t. on-line (eqb-true c.kind kind.POINT_ON_LINE t)) (
      either (c.kind == kind.EQUAL_LENGTHS) _ _ (equal_lengths-fits m i k h flat) (
      either (c.kind == kind.LENGTH_RATIO) _ _ (length_ratio-fits m i k h flat c.value) (
      either (c.kind == kind.EQUAL_LENGTH_AND_DISTANCE) _ _ (length_as_height-fits m i k h flat) (
      either (c.kind == kind.EQUAL_DISTANCES) _ _ (equal_heights-fits m i k h flat) (
      either (c.kind == kind.EQUAL_ANGLES) _ _ (equal_angles-fits m i k h c.other flat) (
      either (c.kind == kind.LENGTH_DIFFERENCE) _ _ (longer_by-fits m i k h flat c.value) (
      either (c.kind == kind.SAME_ORIENTATION) _ _ (same_orientation-fits m i k h) (
      either (c.kind == kind.ANGLE) _ _ (in_angle-fits m i k h c.other flat _) (
      either (c.kind == kind.PARALLEL) _ _ (parallel-lines-fits m i k h flat) (
      either (c.kind == kind.PERPENDICULAR) _ _ (perpendicular-lines-fits m i k h flat) nothing))))))))))))
    where
      on-line : c.kind ≡ kind.POINT_ON_LINE → FormulaFits i k (on_line i (has_entity c.workplane) (constraint_parts o c))
      on-line e =
          let m = constraint_parts o c in
          let a = named c.entities 0 in
          let t = line-three (line_at m 0) (point_by o (end_by o a 0)) (point_by o (end_by o a 1)) (ends-there e (n e)) (point-three o (end_by o a 0)) (point-three o (end_by o a 1)) in
          let f = foot-three (unknown i) (point_at false m 0) (line_at m 0) (point-there e) t.0 t.1 in
          let t1 = t.1 in
          on_line-fits m i k parts-within (has_entity c.workplane) (λ q. (omega (arith, t1, f), omega (arith, f)))

  pub curve_formula-fits : FormulaFits i k (curve_formula s i c (constraint_parts o c))
  unfolding curve_formula
  curve_formula-fits =
      let m = constraint_parts o c in
      let h = parts-within in
      either (c.kind == kind.DIAMETER) _ _ (diameter-fits m i k h s c.value) (
      either (c.kind == kind.POINT_ON_CIRCLE) _ _ (on_circle-fits m i k h) (
      either (c.kind == kind.ARC_LINE_TANGENT) _ _ (arc_touches_line-fits m i k h c.other) (
      either (c.kind == kind.CURVE_CURVE_TANGENT) _ _ (arcs_touch-fits m i k h c.other c.other2) (
      either (c.kind == kind.EQUAL_RADII) _ _ (equal_radii-fits m i k h) nothing))))

  face_formula-fits : FormulaFits i k (face_formula s i c (point_by o (named c.points 0)) (face_by o (named c.entities 0)))
  unfolding face_formula
  face_formula-fits =
      let p = point_by o (named c.points 0) in
      let f = face_by o (named c.entities 0) in
      either (c.kind == kind.POINT_FACE_DISTANCE) _ _ (over_face-fits i k p f (λ v d q. point_by-in o v d (omega (arith, l, q)) (named c.points 0)) (λ v d q. face_by-in o v d (omega (arith, l, q)) (named c.entities 0)) c.value) (
      either (c.kind == kind.POINT_ON_FACE) _ _ (in_face-fits i k p f (λ v d q. point_by-in o v d (omega (arith, l, q)) (named c.points 0)) (λ v d q. face_by-in o v d (omega (arith, l, q)) (named c.entities 0))) nothing)

  cubic_formula-fits : FormulaFits i k (cubic_formula s c (contact_in o c))
  unfolding cubic_formula
  cubic_formula-fits =
      let t = touch-fits i k (contact_in o c) (λ v d q. contact-in o v d (omega (arith, l, q)) c) in
      either (c.kind == kind.CUBIC_LINE_TANGENT) _ _ t (either (c.kind == kind.CURVE_CURVE_TANGENT) _ _ t nothing)

  pub formula-fits : (c.kind ≡ kind.POINT_ON_LINE → is_normal_by o (named c.entities 0) ≡ false) → FormulaFits i k (constraint_formula o i k c)
  unfolding constraint_formula
  formula-fits n =
      either c.reference _ _ nothing (
      either (is_among c.kind point_kinds) _ _ (only i k (point_rows s c (constraint_parts o c)) point_rows-in) (
      either (is_among c.kind line_kinds) _ _ (line_formula-fits n) (
      either (is_among c.kind face_kinds) _ _ face_formula-fits (
      either (has_cubic o c) _ _ cubic_formula-fits (
      either (is_among c.kind curve_kinds) _ _ curve_formula-fits nothing)))))
