-- Formulas read which entities are normals only where a line or a normal is needed.
use Rattle.std.proofs.Common.{◌≡◌, ℕ, zero, suc, ◌+◌, ◌-◌, ◌<◌, List, [], ◌∷◌, ◌++◌, map, take, Bool, true, false, Option, Some, None, refl, ap, arith}
use Rattle.std.specs.Prelude.{◌==◌, ℤ, count_by, get_or, if◌then◌else◌}
use Rattle.sk_types.specs.declared.handle.EntityId.{EntityId}
use Rattle.sk_types.specs.declared.constraint.Constraint.{Constraint}
use Rattle.sk_types.specs.declared.constraint_kind.TheConstants as kind
use Rattle.sk_types.specs.Needs.{named}
use Rattle.sk_types.specs.Sizes.{has_entity}
use Rattle.sk_expr.specs.Poly.{Poly, cosine, minus, number, times, unknown}
use Rattle.sk_expr.specs.Vectors.{dot, negated, squared, vector_difference}
use Rattle.sk_expr.specs.Parts.{PartsOf, RoundParts, axes_at, frame_at, line_at, line_vector, point_at, round_at}
use Rattle.sk_expr.specs.Formula.{Formula, formula, length_of, parallel, perpendicular, row}
use Rattle.sk_eq_points.specs.PointRows.{height_over, in_plane, level, level_end, middle, mirrored, over_plane, point_formula, point_rows, points_apart, points_difference, symmetric_over_line, symmetric_over_plane}
use Rattle.sk_eq_lines.specs.LineRows.{apart_along, cosine_of, direction_at, equal_angles, equal_heights, equal_lengths, first_direction, from_line, in_angle, is_normal_at, length_as_height, length_ratio, line_formula, longer_by, normal_vector, normals_before, on_line, same_orientation}
use Rattle.sk_eq_curves.specs.CurveRows.{arc_touches_line, arcs_touch, curve_formula, diameter, equal_radii, from_centre, on_circle, radius_auxiliaries, radius_of}
use Rattle.sk_system.proofs.AlikeParts.{branch, marked}

module _ (m : PartsOf) (ns : List Bool) where
  -- ---- of points

  pub point_unmarked : (s : ℕ) (c : Constraint s) → point_formula s c (marked m ns) ≡ point_formula s c m
  unfolding point_rows points_difference points_apart height_over over_plane in_plane symmetric_over_plane mirrored symmetric_over_line middle level_end level point_at line_at frame_at
  point_unmarked s c = refl

  -- ---- of curves

  from_unmarked : (r : RoundParts) (o : Option (List (Poly ℤ))) → from_centre (marked m ns) r o ≡ from_centre m r o
  unfolding from_centre point_at
  from_unmarked r None = refl
  from_unmarked r (Some p) = refl

  circle_unmarked : (i : ℕ) → on_circle i (marked m ns) ≡ on_circle i m
  unfolding on_circle round_at
  circle_unmarked i =
      let r = round_at m 0 in
      ap (λ ps. circle_by i r ps) (from_unmarked r r.flat_centre)
    where
      circle_by : ℕ → RoundParts → List (Poly ℤ) → Formula
      circle_by i r ps =
          let t = radius_of i r.distance in
          formula (radius_auxiliaries r r.distance) (row (minus (squared ps) (times t t)) ∷ [])

  pub curve_unmarked : (s : ℕ) (i : ℕ) (c : Constraint s) → curve_formula s i c (marked m ns) ≡ curve_formula s i c m
  unfolding curve_formula diameter arc_touches_line arcs_touch equal_radii round_at line_at
  curve_unmarked s i c =
      branch (c.kind == kind.DIAMETER) _ _ _ _ (λ e. refl) (λ e.
      branch (c.kind == kind.POINT_ON_CIRCLE) _ _ _ _ (λ e. circle_unmarked i) (λ e. refl))

  -- ---- of lines

  abbrev pub SameAt : ℕ → Type 0
  SameAt j = (take j ns ≡ take j m.normals) × (get_or ns j false ≡ get_or m.normals j false)

  direction_unmarked : (flat : Bool) (j : ℕ) → SameAt j → direction_at flat (marked m ns) j ≡ direction_at flat m j
  unfolding direction_at normals_before is_normal_at normal_vector axes_at frame_at line_at
  direction_unmarked flat j h = λ i.
      let n = count_by (λ n. n) (h.0 i) in
      if h.1 i then normal_vector flat m (axes_at m n) else line_vector flat (line_at m (j - n))

  apart_unmarked : (i : ℕ) (v : ℤ) → SameAt 0 → apart_along i v (marked m ns) ≡ apart_along i v m
  unfolding apart_along point_at
  apart_unmarked i v h = λ k.
      let a = direction_unmarked false 0 h k in
      formula (length_of a ∷ []) (row (minus (dot (vector_difference (point_at false m 1) (point_at false m 0)) a) (times (number v) (unknown i))) ∷ [])

  first_unmarked : (other flat : Bool) → SameAt 0 → first_direction other flat (marked m ns) ≡ first_direction other flat m
  unfolding first_direction
  first_unmarked other flat h = λ k. if other then negated (direction_unmarked flat 0 h k) else direction_unmarked flat 0 h k

  angles_unmarked : (i : ℕ) (other flat : Bool) → SameAt 0 → SameAt 1 → SameAt 2 → SameAt 3 → equal_angles i other flat (marked m ns) ≡ equal_angles i other flat m
  unfolding equal_angles
  angles_unmarked i other flat a b c d = λ k.
      formula (cosine_of i (first_unmarked other flat a k) (direction_unmarked flat 1 b k) ++ cosine_of (i + 3) (direction_unmarked flat 2 c k) (direction_unmarked flat 3 d k))
      (row (minus (unknown (i + 2)) (unknown (i + 5))) ∷ [])

  angle_unmarked : (i k : ℕ) (other flat : Bool) (e : _) → SameAt 0 → SameAt 1 → in_angle i k other flat e (marked m ns) ≡ in_angle i k other flat e m
  unfolding in_angle
  angle_unmarked i k other flat e h j = λ t.
      let a = first_unmarked other flat h t in
      let b = direction_unmarked flat 1 j t in
      record {
        auxiliaries = length_of a ∷ length_of b ∷ [];
        cosines = e ∷ [];
        relations = row (minus (dot a b) (times (times (cosine k) (unknown i)) (unknown (i + 1)))) ∷ [];
      }

  pub line_unmarked : (s i k : ℕ) (c : Constraint s) → ((c.kind == kind.PROJECTED_DISTANCE) ≡ true → SameAt 0)
      → ((c.kind == kind.EQUAL_ANGLES) ≡ true → SameAt 0 × SameAt 1 × SameAt 2 × SameAt 3)
      → ((c.kind == kind.ANGLE) ≡ true → SameAt 0 × SameAt 1) → ((c.kind == kind.PARALLEL) ≡ true → SameAt 0 × SameAt 1) → ((c.kind == kind.PERPENDICULAR) ≡ true → SameAt 0 × SameAt 1)
      → line_formula s i k c (marked m ns) ≡ line_formula s i k c m
  unfolding line_formula from_line on_line equal_lengths length_ratio length_as_height equal_heights longer_by same_orientation point_at line_at axes_at
  line_unmarked s i k c apart angles angle even upright =
      let flat = has_entity c.workplane in
      branch (c.kind == kind.POINT_LINE_DISTANCE) _ _ _ _ (λ e. refl) (λ e.
      branch (c.kind == kind.PROJECTED_DISTANCE) _ _ _ _ (λ e. apart_unmarked i c.value (apart e)) (λ e.
      branch (c.kind == kind.POINT_ON_LINE) _ _ _ _ (λ e. refl) (λ e.
      branch (c.kind == kind.EQUAL_LENGTHS) _ _ _ _ (λ e. refl) (λ e.
      branch (c.kind == kind.LENGTH_RATIO) _ _ _ _ (λ e. refl) (λ e.
      branch (c.kind == kind.EQUAL_LENGTH_AND_DISTANCE) _ _ _ _ (λ e. refl) (λ e.
      branch (c.kind == kind.EQUAL_DISTANCES) _ _ _ _ (λ e. refl) (λ e.
      branch (c.kind == kind.EQUAL_ANGLES) _ _ _ _ (λ e. (let h = angles e in angles_unmarked i c.other flat h.0 h.1 h.2 h.3)) (λ e.
      branch (c.kind == kind.LENGTH_DIFFERENCE) _ _ _ _ (λ e. refl) (λ e.
      branch (c.kind == kind.SAME_ORIENTATION) _ _ _ _ (λ e. refl) (λ e.
      branch (c.kind == kind.ANGLE) _ _ _ _ (λ e. (let h = angle e in angle_unmarked i k c.other flat _ h.0 h.1)) (λ e.
      branch (c.kind == kind.PARALLEL) _ _ _ _ (λ e. (let h = even e in λ t. parallel flat (direction_unmarked flat 0 h.0 t) (direction_unmarked flat 1 h.1 t))) (λ e.
      branch (c.kind == kind.PERPENDICULAR) _ _ _ _ (λ e. (let h = upright e in λ t. perpendicular (direction_unmarked flat 0 h.0 t) (direction_unmarked flat 1 h.1 t))) (λ e. refl)))))))))))))

-- ---- marks of entities

pub same-take : (f g : EntityId → Bool) (j : ℕ) (es : List EntityId) → ((i : ℕ) → i < j → f (named es i) ≡ g (named es i)) → take j (map f es) ≡ take j (map g es)
same-take f g zero es h = refl
same-take f g (suc j) [] h = refl
same-take f g (suc j) (e ∷ es) h = let rest = same-take f g j es (λ i l. h (suc i) (omega (arith, l))) in λ k. h 0 (omega arith) k ∷ rest k

pub same-get : (f g : EntityId → Bool) (j : ℕ) (es : List EntityId) → f (named es j) ≡ g (named es j) → get_or (map f es) j false ≡ get_or (map g es) j false
same-get f g j [] h = refl
same-get f g zero (e ∷ es) h = h
same-get f g (suc j) (e ∷ es) h = same-get f g j es h

pub below-1 : (P : ℕ → Type 0) (i : ℕ) → i < 1 → P 0 → P i
below-1 P zero l h = h
below-1 P (suc i) l h = absurd (omega (arith, l))

pub below-4 : (P : ℕ → Type 0) → P 0 → P 1 → P 2 → P 3 → (i : ℕ) → i < 4 → P i
below-4 P a b c d zero l = a
below-4 P a b c d (suc zero) l = b
below-4 P a b c d (suc (suc zero)) l = c
below-4 P a b c d (suc (suc (suc zero))) l = d
below-4 P a b c d (suc (suc (suc (suc i)))) l = absurd (omega (arith, l))
