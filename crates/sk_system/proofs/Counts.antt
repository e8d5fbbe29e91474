-- How many auxiliaries and rows each constraint has: those that the outline counts.
use Rattle.std.proofs.Common.{◌≡◌, ℕ, ◌+◌, ◌≤◌, ℤ, pos, Bool, true, false, List, [], ◌∷◌, cond, length, map, Option, Some, None, refl, sym, ap, ◌∙◌, subst, arith, length-append}
use Rattle.std.specs.Prelude.{◌==◌, ◌||◌, not, count_by, if◌then◌else◌}
use Rattle.std.specs.List.{sum_by, filter}
use Rattle.std.proofs.lemmas.Bool.{eqb-true}
use Rattle.std.proofs.lemmas.List.Sums.{sum_by-cons}
use Rattle.sk_types.specs.declared.handle.EntityId.{EntityId}
use Rattle.sk_types.specs.declared.constraint.Constraint.{Constraint}
use Rattle.sk_types.specs.declared.constraint.Need.{Need}
use Rattle.sk_types.specs.declared.constraint.PartKind.TheVariants.{Point, Workplane, Line, CircleOrArc}
use Rattle.sk_types.specs.declared.constraint_kind.TheConstants as kind
use Rattle.sk_types.specs.declared.entity_kind.TheConstants as entity_kind
use Rattle.sk_types.specs.declared.standing.Standing.TheVariants.{Accepted}
use Rattle.sk_types.specs.Lists.{is_among}
use Rattle.sk_types.specs.Needs.{named, needs_of, part_takes, circles_of}
use Rattle.sk_types.specs.Sizes.{has_entity, sizes_in, arcs_of}
use Rattle.sk_types.specs.Standings.{standing_of, is_accepted_constraint, is_left_out_constraint, constraint_standing, is_point_constraint, is_size_constraint, is_direction_constraint, is_symmetry_constraint, point_constraints, size_constraints, direction_constraints, symmetry_constraints}
use Rattle.sk_num.specs.Ends.{Ends}
use Rattle.sk_expr.specs.Poly.{Poly, unknown}
use Rattle.sk_expr.specs.Vectors.{cross}
use Rattle.sk_expr.specs.Parts.{PartsOf, LinePoints, RoundParts, vector_at, point_at, line_at, end_at, round_at}
use Rattle.sk_expr.specs.Formula.{row, Formula, formula, rows_only, parallel, perpendicular}
use Rattle.sk_geom.specs.Sources.{Source}
use Rattle.sk_eq_points.specs.PointRows.{point_rows, points_difference, points_apart, over_plane, in_plane, symmetric_over_plane, mirrored, symmetric_over_line, middle, level}
use Rattle.sk_eq_lines.specs.LineRows.{line_formula, height, cosine_of, from_foot, from_line, apart_along, on_line, equal_lengths, length_ratio, length_as_height, equal_heights, longer_by, equal_angles, same_orientation, in_angle}
use Rattle.sk_eq_curves.specs.CurveRows.{curve_formula, radius_auxiliaries, diameter, on_circle, arc_touches_line, arcs_touch, equal_radii}
use Rattle.sk_face.specs.FaceRows.{Face, face_formula, over_face, in_face}
use Rattle.sk_cubic.specs.CubicRows.{CurveEnd, spoke, tangent, with_line, of_curves, touch, cubic_formula}
use Rattle.sk_system.specs.ByHandle.{entity_by, point_by, end_by, is_normal_by, is_arc_by, is_cubic_by, distance_by, distance_of}
use Rattle.sk_system.specs.ConstraintParts.{needed, workplane_of, space_points, flat_points, line_by, round_by, round_plane, constraint_parts}
use Rattle.sk_system.specs.Contacts.{face_by, contact_in}
use Rattle.sk_system.specs.Formulas.{constraint_formula}
use Rattle.sk_system.specs.Sizes.{rows_of_relation, formula_rows}
use Rattle.sk_system.proofs.Lengths.{difference-length, about-length, point-three, flat_by-two}
use Rattle.sk_system.proofs.SystemsWithin.{line-three, foot-three}

-- ---- one of many numbers

abbrev pub AllOf : (ℕ → Type 0) → List ℕ → Type 0
AllOf p [] = Unit {0}
AllOf p (n ∷ ns) = p n × AllOf p ns

split : {X : Type 0} (a b : Bool) → (a || b) ≡ true → (a ≡ true → X) → (b ≡ true → X) → X
split true b e f g = f refl
split false b e f g = g e

pub each-of : (p : ℕ → Type 0) (ns : List ℕ) → AllOf p ns → (k : ℕ) → is_among k ns ≡ true → p k
each-of p [] h k e = absurd cc
each-of p (n ∷ ns) h k e = split (k == n) (is_among k ns) e (λ t. subst p (sym (eqb-true k n t)) h.0) (λ t. each-of p ns h.1 k t)

accepted : (a b : Bool) → standing_of a b ≡ Accepted → a ≡ true
accepted true b e = refl
accepted false true e = absurd cc
accepted false false e = absurd cc

-- ---- formulas

-- a auxiliaries, and r rows more
abbrev Has : Formula → ℕ → ℕ → Type 0
Has f a r = (length f.auxiliaries ≡ a) × (formula_rows f ≡ a + r) × (length f.cosines ≤ length f.auxiliaries)

rows-sum : (ts : List (Poly ℤ)) → sum_by rows_of_relation (map row ts) ≡ length ts
rows-sum [] = refl
rows-sum (t ∷ ts) = let e = rows-sum ts in let z = sum_by-cons rows_of_relation (row t) (map row ts) in omega (arith, e, z)

only-rows : (ts : List (Poly ℤ)) (n : ℕ) → length ts ≡ n → Has (rows_only ts) 0 n
only-rows ts n e = let z = rows-sum ts in (refl, omega (arith, e, z), omega arith)

nothing : Has (formula [] []) 0 0
nothing = (refl, refl, omega arith)

parallel-has : (flat : Bool) (a b : List (Poly ℤ)) → Has (parallel flat a b) 0 (if flat then 1 else 2)
unfolding parallel cross
parallel-has true a b = (refl, refl, omega arith)
parallel-has false a b = (refl, refl, omega arith)

perpendicular-has : (a b : List (Poly ℤ)) → Has (perpendicular a b) 0 1
unfolding perpendicular
perpendicular-has a b = (refl, refl, omega arith)

-- ---- of points

symmetric-long : (s : ℕ) (flat : Bool) (m : PartsOf) → length (symmetric_over_plane s flat m) ≡ (if flat then 2 else 3)
unfolding symmetric_over_plane
symmetric-long s true m = refl
symmetric-long s false m = refl

middle-long : (s : ℕ) (has_point flat : Bool) (m : PartsOf) → (has_point ≡ true → (length (end_at flat (line_at m 0) 0) ≡ (if flat then 2 else 3)) × (length (end_at flat (line_at m 0) 1) ≡ (if flat then 2 else 3)) × (length (point_at flat m 0) ≡ (if flat then 2 else 3))) →
    length (middle s has_point flat m) ≡ (if has_point then (if flat then 2 else 3) else 1)
unfolding middle
middle-long s true flat m h = let t = h refl in about-length s (if flat then 2 else 3) (end_at flat (line_at m 0) 0) (end_at flat (line_at m 0) 1) (point_at flat m 0) t.0 t.1 t.2
middle-long s false flat m h = refl

-- ---- of lines

from_line-has : (i : ℕ) (flat : Bool) (v : ℤ) (m : PartsOf) → Has (from_line i flat v m) 1 1
unfolding from_line
from_line-has i true v m = (refl, refl, omega arith)
from_line-has i false v m = (refl, refl, omega arith)

apart_along-has : (i : ℕ) (v : ℤ) (m : PartsOf) → Has (apart_along i v m) 1 1
unfolding apart_along
apart_along-has i v m = (refl, refl, omega arith)

on_line-has : (i : ℕ) (flat : Bool) (m : PartsOf) → length (from_foot (unknown i) (point_at false m 0) (line_at m 0)) ≡ 3 → Has (on_line i flat m) (if flat then 0 else 1) (if flat then 1 else 2)
unfolding on_line
on_line-has i true m h = (refl, refl, omega arith)
on_line-has i false m h = (refl, omega (arith, h), omega arith)

equal_lengths-has : (flat : Bool) (m : PartsOf) → Has (equal_lengths flat m) 0 1
unfolding equal_lengths
equal_lengths-has flat m = (refl, refl, omega arith)

length_ratio-has : (flat : Bool) (v : ℤ) (m : PartsOf) → Has (length_ratio flat v m) 0 1
unfolding length_ratio
length_ratio-has flat v m = (refl, refl, omega arith)

length_as_height-has : (i : ℕ) (flat : Bool) (m : PartsOf) → Has (length_as_height i flat m) (if flat then 2 else 1) 1
unfolding length_as_height height
length_as_height-has i true m = (refl, refl, omega arith)
length_as_height-has i false m = (refl, refl, omega arith)

equal_heights-has : (i : ℕ) (flat : Bool) (m : PartsOf) → Has (equal_heights i flat m) (if flat then 4 else 2) 1
unfolding equal_heights height
equal_heights-has i true m = (refl, refl, omega arith)
equal_heights-has i false m = (refl, refl, omega arith)

equal_angles-has : (i : ℕ) (other flat : Bool) (m : PartsOf) → Has (equal_angles i other flat m) 6 1
unfolding equal_angles cosine_of
equal_angles-has i other flat m = (refl, refl, omega arith)

longer_by-has : (i : ℕ) (flat : Bool) (v : ℤ) (m : PartsOf) → Has (longer_by i flat v m) 2 1
unfolding longer_by
longer_by-has i flat v m = (refl, refl, omega arith)

same_orientation-has : (m : PartsOf) → Has (same_orientation m) 0 3
unfolding same_orientation cross
same_orientation-has m = (refl, refl, omega arith)

in_angle-has : (i k : ℕ) (other flat : Bool) (e : Ends) (m : PartsOf) → Has (in_angle i k other flat e m) 2 1
unfolding in_angle
in_angle-has i k other flat e m = (refl, refl, omega arith)

-- ---- of faces and cubics

over_face-has : (i : ℕ) (v : ℤ) (p : List (Poly ℤ)) (f : Face) → Has (over_face i v p f) 1 1
unfolding over_face
over_face-has i v p f = (refl, refl, omega arith)

in_face-has : (p : List (Poly ℤ)) (f : Face) → Has (in_face p f) 0 1
unfolding in_face perpendicular
in_face-has p f = (refl, refl, omega arith)

ends-has : (a b : CurveEnd) → Has (touch (of_curves a b)) 0 1
unfolding parallel perpendicular
ends-has (spoke a) (spoke b) = (refl, refl, omega arith)
ends-has (spoke a) (tangent b) = (refl, refl, omega arith)
ends-has (tangent a) (spoke b) = (refl, refl, omega arith)
ends-has (tangent a) (tangent b) = (refl, refl, omega arith)

-- ---- of circles and arcs

-- an arc has one, what isn't an arc none
radius-long : (r : RoundParts) (b : Bool) (t : Poly ℤ) (d : Option (Poly ℤ)) → d ≡ (if b then None else Some t) → length (radius_auxiliaries r d) ≡ (if b then 1 else 0)
unfolding radius_auxiliaries
radius-long r true t None e = refl
radius-long r true t (Some x) e = absurd cc
radius-long r false t None e = absurd cc
radius-long r false t (Some x) e = refl

diameter-has : (s i : ℕ) (v : ℤ) (m : PartsOf) (n : ℕ) → length (radius_auxiliaries (round_at m 0) (round_at m 0).distance) ≡ n → Has (diameter s i v m) n 1
unfolding diameter
diameter-has s i v m n e = (e, omega (arith, e), omega arith)

on_circle-has : (i : ℕ) (m : PartsOf) (n : ℕ) → length (radius_auxiliaries (round_at m 0) (round_at m 0).distance) ≡ n → Has (on_circle i m) n 1
unfolding on_circle
on_circle-has i m n e = (e, omega (arith, e), omega arith)

equal_radii-has : (i : ℕ) (m : PartsOf) (a b : ℕ) → length (radius_auxiliaries (round_at m 0) (round_at m 0).distance) ≡ a → length (radius_auxiliaries (round_at m 1) (round_at m 1).distance) ≡ b → Has (equal_radii i m) (a + b) 1
unfolding equal_radii
equal_radii-has i m a b e f =
    let l = length-append (radius_auxiliaries (round_at m 0) (round_at m 0).distance) (radius_auxiliaries (round_at m 1) (round_at m 1).distance) in
    (omega (arith, e, f, l), omega (arith, e, f, l), omega arith)

-- ---- constraints

module _ {s : ℕ} (o : Source s) where
  -- in a plane two components, whatever is there
  flat-first : (w : Option EntityId) (ps : List EntityId) → length (vector_at (flat_points o w ps) 0) ≡ 2
  flat-first None ps = refl
  flat-first (Some w) [] = refl
  flat-first (Some w) (p ∷ ps) = flat_by-two o w p

  flat-second : (w : Option EntityId) (ps : List EntityId) → length (vector_at (flat_points o w ps) 1) ≡ 2
  flat-second None ps = refl
  flat-second (Some w) [] = refl
  flat-second (Some w) (p ∷ []) = refl
  flat-second (Some w) (p ∷ q ∷ ps) = flat_by-two o w q

  -- the only line
  kept : (f : EntityId → LinePoints) (b : Bool) (e : EntityId) → b ≡ false → map f (if not b then e ∷ [] else []) ≡ f e ∷ []
  kept f true e h = absurd cc
  kept f false e h = refl

  ends-long : (w : Option EntityId) (a : EntityId) (flat : Bool) (m : PartsOf) → m.lines ≡ line_by o w a ∷ [] →
      (length (end_at flat (line_at m 0) 0) ≡ (if flat then 2 else 3)) × (length (end_at flat (line_at m 0) 1) ≡ (if flat then 2 else 3))
  unfolding end_at line_at line_by
  ends-long w a true m e =
      let l : line_at m 0 ≡ line_by o w a = ap (λ (ls : List LinePoints). let t : PartsOf = record m { lines = ls } in line_at t 0) e in
      (ap (λ (t : LinePoints). length (vector_at t.flat 0)) l ∙ flat-first w (end_by o a 0 ∷ end_by o a 1 ∷ []), ap (λ (t : LinePoints). length (vector_at t.flat 1)) l ∙ flat-second w (end_by o a 0 ∷ end_by o a 1 ∷ []))
  ends-long w a false m e =
      let l : line_at m 0 ≡ line_by o w a = ap (λ (ls : List LinePoints). let t : PartsOf = record m { lines = ls } in line_at t 0) e in
      (ap (λ (t : LinePoints). length (vector_at t.ends 0)) l ∙ point-three o (end_by o a 0), ap (λ (t : LinePoints). length (vector_at t.ends 1)) l ∙ point-three o (end_by o a 1))

  line-foot : (i : ℕ) (w : Option EntityId) (a : EntityId) (m : PartsOf) → m.lines ≡ line_by o w a ∷ [] → length (point_at false m 0) ≡ 3 → length (from_foot (unknown i) (point_at false m 0) (line_at m 0)) ≡ 3
  unfolding line_at line_by
  line-foot i w a m e p =
      let l : (line_at m 0).ends ≡ point_by o (end_by o a 0) ∷ point_by o (end_by o a 1) ∷ [] = ap (λ (ls : List LinePoints). let t : PartsOf = record m { lines = ls } in (line_at t 0).ends) e in
      let t = line-three (line_at m 0) (point_by o (end_by o a 0)) (point_by o (end_by o a 1)) l (point-three o (end_by o a 0)) (point-three o (end_by o a 1)) in
      foot-three (unknown i) (point_at false m 0) (line_at m 0) p t.0 t.1

  -- the point and the line of a midpoint
  abbrev middle-needs : Bool → EntityId → EntityId → EntityId → List Need
  middle-needs b a w p = record { entity = a; part = Line } ∷ (if b then record { entity = w; part = Workplane } ∷ [] else record { entity = p; part = Point } ∷ [])

  abbrev chosen-by : ℕ → List Need → List EntityId
  chosen-by k ns = map (λ (n : Need). n.entity) (filter (λ (n : Need). part_takes n.part k) ns)

  middle-line : (b : Bool) (a w p : EntityId) → chosen-by entity_kind.LINE (middle-needs b a w p) ≡ a ∷ []
  unfolding part_takes
  middle-line true a w p = refl
  middle-line false a w p = refl

  middle-point : (b : Bool) (a w p : EntityId) → not b ≡ true → chosen-by entity_kind.POINT_IN_SPACE (middle-needs b a w p) ≡ p ∷ []
  unfolding part_takes
  middle-point true a w p h = absurd cc
  middle-point false a w p h = refl

  module _ (c : Constraint s) where
    -- the same constraint with the number n
    abbrev numbered : ℕ → Constraint s
    numbered n = record c { kind = n; reference = false }

    abbrev parts : ℕ → PartsOf
    parts n = constraint_parts o (numbered n)

    apart-long : (flat : Bool) → length (points_difference flat (parts kind.POINTS_COINCIDENT)) ≡ (if flat then 2 else 3)
    unfolding points_difference point_at constraint_parts needed needs_of part_takes
    apart-long true =
        let m = parts kind.POINTS_COINCIDENT in
        difference-length 2 (vector_at m.flat_points 0) (vector_at m.flat_points 1) (flat-first (workplane_of (numbered kind.POINTS_COINCIDENT)) (named c.points 0 ∷ named c.points 1 ∷ [])) (flat-second (workplane_of (numbered kind.POINTS_COINCIDENT)) (named c.points 0 ∷ named c.points 1 ∷ []))
    apart-long false = difference-length 3 (point_by o (named c.points 0)) (point_by o (named c.points 1)) (point-three o (named c.points 0)) (point-three o (named c.points 1))

    on-lines : is_normal_by o (named c.entities 0) ≡ false → (parts kind.POINT_ON_LINE).lines ≡ line_by o (workplane_of (numbered kind.POINT_ON_LINE)) (named c.entities 0) ∷ []
    unfolding constraint_parts needed needs_of part_takes
    on-lines h = kept (line_by o (workplane_of (numbered kind.POINT_ON_LINE))) (is_normal_by o (named c.entities 0)) (named c.entities 0) h

    on-point : length (point_at false (parts kind.POINT_ON_LINE) 0) ≡ 3
    unfolding point_at constraint_parts needed needs_of part_takes
    on-point = point-three o (named c.points 0)

    middle-lines : is_normal_by o (named c.entities 0) ≡ false → (parts kind.AT_MIDPOINT).lines ≡ line_by o (workplane_of (numbered kind.AT_MIDPOINT)) (named c.entities 0) ∷ []
    unfolding constraint_parts needed needs_of
    middle-lines h =
        let f = line_by o (workplane_of (numbered kind.AT_MIDPOINT)) in
        ap (λ (es : List EntityId). map f (filter (λ e. not (is_normal_by o e)) es)) (middle-line ((named c.points 0).0 == 0) (named c.entities 0) (named c.entities 1) (named c.points 0))
        ∙ kept f (is_normal_by o (named c.entities 0)) (named c.entities 0) h

    middle-points : (flat : Bool) → has_entity (named c.points 0) ≡ true → length (point_at flat (parts kind.AT_MIDPOINT) 0) ≡ (if flat then 2 else 3)
    unfolding point_at constraint_parts needed needs_of
    middle-points true h = flat-first (workplane_of (numbered kind.AT_MIDPOINT)) (needed (numbered kind.AT_MIDPOINT) entity_kind.POINT_IN_SPACE)
    middle-points false h =
        ap (λ (es : List EntityId). length (vector_at (space_points o es) 0)) (middle-point ((named c.points 0).0 == 0) (named c.entities 0) (named c.entities 1) (named c.points 0) h) ∙ point-three o (named c.points 0)

    -- so many auxiliaries and rows as the outline counts, and no more cosines than auxiliaries
    abbrev pub IsCounted : ℕ → ℕ → Constraint s → Type 0
    IsCounted i k d =
        (length (constraint_formula o i k d).auxiliaries ≡ (sizes_in o.entities d).0) × (formula_rows (constraint_formula o i k d) ≡ (sizes_in o.entities d).1)
        × (length (constraint_formula o i k d).cosines ≤ length (constraint_formula o i k d).auxiliaries)

    abbrev Named : Type 0
    Named = is_normal_by o (named c.entities 0) ≡ false

    abbrev Counts : ℕ → ℕ → ℕ → Type 0
    Counts i k n = (n ≡ kind.POINT_ON_LINE → Named) → (n ≡ kind.AT_MIDPOINT → Named) → IsCounted i k (numbered n)

    count-one : (p : Need → Bool) (x : Need) (b : Bool) → p x ≡ b → count_by p (x ∷ []) ≡ (if b then 1 else 0)
    count-one p x true e = rw e refl
    count-one p x false e = rw e refl

    count-two : (p : Need → Bool) (x y : Need) → count_by p (x ∷ y ∷ []) ≡ count_by p (x ∷ []) + count_by p (y ∷ [])
    count-two p x y = omega (arith, sum_by-cons (λ n. cond (p n) 1 0) x (y ∷ []), sum_by-cons (λ n. cond (p n) 1 0) x [])

    abbrev round-need : EntityId → Need
    round-need e = record { entity = e; part = CircleOrArc }

    abbrev is_arc_need : Need → Bool
    is_arc_need n = is_arc_by o n.entity

    one-arc : (n : ℕ) (m : PartsOf) (w : Option EntityId) (a : EntityId) → round_at m n ≡ round_by o w a → length (radius_auxiliaries (round_at m n) (round_at m n).distance) ≡ count_by is_arc_need (round-need a ∷ [])
    unfolding round_by
    one-arc n m w a e =
        radius-long (round_at m n) (is_arc_by o a) (distance_by o (distance_of (entity_by o a))) (round_at m n).distance (ap (λ (r : RoundParts). r.distance) e)
        ∙ sym (count-one is_arc_need (round-need a) (is_arc_by o a) refl)

    on-arc : length (radius_auxiliaries (round_at (parts kind.POINT_ON_CIRCLE) 0) (round_at (parts kind.POINT_ON_CIRCLE) 0).distance) ≡ arcs_of o.entities (numbered kind.POINT_ON_CIRCLE)
    unfolding round_at constraint_parts needed needs_of part_takes circles_of
    on-arc = one-arc 0 (parts kind.POINT_ON_CIRCLE) (round_plane o (numbered kind.POINT_ON_CIRCLE) (named c.entities 0)) (named c.entities 0) refl

    of-arc : length (radius_auxiliaries (round_at (parts kind.DIAMETER) 0) (round_at (parts kind.DIAMETER) 0).distance) ≡ arcs_of o.entities (numbered kind.DIAMETER)
    unfolding round_at constraint_parts needed needs_of part_takes circles_of
    of-arc = one-arc 0 (parts kind.DIAMETER) (round_plane o (numbered kind.DIAMETER) (named c.entities 0)) (named c.entities 0) refl

    both-arcs : (i : ℕ) → Has (equal_radii i (parts kind.EQUAL_RADII)) (arcs_of o.entities (numbered kind.EQUAL_RADII)) 1
    unfolding round_at constraint_parts needed needs_of part_takes circles_of
    both-arcs i =
        let m = parts kind.EQUAL_RADII in
        let d = numbered kind.EQUAL_RADII in
        let a = named c.entities 0 in
        let b = named c.entities 1 in
        subst (λ n. Has (equal_radii i m) n 1) (sym (count-two is_arc_need (round-need a) (round-need b)))
        (equal_radii-has i m _ _ (one-arc 0 m (round_plane o d a) a refl) (one-arc 1 m (round_plane o d b) b refl))

    line-has : (d l : List (Poly ℤ)) (b : Bool) (p : List (Poly ℤ) × List (Poly ℤ)) → Has (touch (with_line d l (if b then Some p else None))) 0 (if b then 1 else 2)
    line-has d l true p = parallel-has true p.0 p.1
    line-has d l false p = parallel-has false d l

    either-has : (b : Bool) (f g : Formula) (n r : ℕ) → Has f n r → Has g n r → Has (if b then f else g) n r
    either-has true f g n r x y = x
    either-has false f g n r x y = y

    cubic-line : Has (touch (contact_in o (numbered kind.CUBIC_LINE_TANGENT))) 0 (if has_entity c.workplane then 1 else 2)
    unfolding contact_in
    cubic-line = line-has _ _ (has_entity c.workplane) _

    cubic-curves : Has (touch (contact_in o (numbered kind.CURVE_CURVE_TANGENT))) 0 1
    unfolding contact_in
    cubic-curves = ends-has _ _

    module _ (i k : ℕ) where
      of-points : AllOf (Counts i k) point_constraints
      unfolding constraint_formula point_rows line_formula face_formula curve_formula points_apart over_plane in_plane
      of-points =
          let flat = has_entity c.workplane in (
            λ a b. only-rows (points_difference flat (parts kind.POINTS_COINCIDENT)) (if flat then 2 else 3) (apart-long flat),
            (
              λ a b. (refl, refl, omega arith),
              (
                λ a b. (refl, refl, omega arith),
                (
                  λ a b. from_line-has i flat c.value (parts kind.POINT_LINE_DISTANCE),
                  (
                    λ a b. over_face-has i c.value (point_by o (named c.points 0)) (face_by o (named c.entities 0)),
                    (
                      λ a b. apart_along-has i c.value (parts kind.PROJECTED_DISTANCE),
                      (
                        λ a b. (refl, refl, omega arith),
                        (
                          λ a b. on_line-has i flat (parts kind.POINT_ON_LINE) (line-foot i (workplane_of (numbered kind.POINT_ON_LINE)) (named c.entities 0) (parts kind.POINT_ON_LINE) (on-lines (a refl)) on-point),
                          (
                            λ a b. in_face-has (point_by o (named c.points 0)) (face_by o (named c.entities 0)),
                            (
                              λ a b. on_circle-has i (parts kind.POINT_ON_CIRCLE) (arcs_of o.entities (numbered kind.POINT_ON_CIRCLE)) on-arc,
                              (
                                λ a b. nothing,
                                tt,
                              ),
                            ),
                          ),
                        ),
                      ),
                    ),
                  ),
                ),
              ),
            ),
          )

      of-sizes : AllOf (Counts i k) size_constraints
      unfolding constraint_formula line_formula curve_formula
      of-sizes =
          let flat = has_entity c.workplane in (
            λ a b. equal_lengths-has flat (parts kind.EQUAL_LENGTHS),
            (
              λ a b. length_ratio-has flat c.value (parts kind.LENGTH_RATIO),
              (
                λ a b. length_as_height-has i flat (parts kind.EQUAL_LENGTH_AND_DISTANCE),
                (
                  λ a b. equal_heights-has i flat (parts kind.EQUAL_DISTANCES),
                  (
                    λ a b. equal_angles-has i c.other flat (parts kind.EQUAL_ANGLES),
                    (
                      λ a b. longer_by-has i flat c.value (parts kind.LENGTH_DIFFERENCE),
                      (
                        λ a b. diameter-has s i c.value (parts kind.DIAMETER) (arcs_of o.entities (numbered kind.DIAMETER)) of-arc,
                        (
                          λ a b. in_angle-has i k c.other flat _ (parts kind.ANGLE),
                          (
                            λ a b. both-arcs i,
                            tt,
                          ),
                        ),
                      ),
                    ),
                  ),
                ),
              ),
            ),
          )

      of-directions : AllOf (Counts i k) direction_constraints
      unfolding constraint_formula point_rows line_formula curve_formula cubic_formula level arc_touches_line arcs_touch
      of-directions =
          let flat = has_entity c.workplane in (
            λ a b. (refl, refl, omega arith),
            (
              λ a b. (refl, refl, omega arith),
              (
                λ a b. same_orientation-has (parts kind.SAME_ORIENTATION),
                (
                  λ a b. parallel-has flat _ _,
                  (
                    λ a b. perpendicular-has _ _,
                    (
                      λ a b. perpendicular-has _ _,
                      (
                        λ a b. cubic-line,
                        (
                          λ a b. either-has (is_cubic_by o (named c.entities 0) || is_cubic_by o (named c.entities 1)) _ _ 0 1 cubic-curves (refl, refl, omega arith),
                          tt,
                        ),
                      ),
                    ),
                  ),
                ),
              ),
            ),
          )

      of-symmetry : AllOf (Counts i k) symmetry_constraints
      unfolding constraint_formula point_rows mirrored symmetric_over_line
      of-symmetry =
          let flat = has_entity c.workplane in
          let there = has_entity (named c.points 0) in
          let m = parts kind.AT_MIDPOINT in (
            λ a b. only-rows (symmetric_over_plane s flat (parts kind.SYMMETRIC)) (if flat then 2 else 3) (symmetric-long s flat (parts kind.SYMMETRIC)),
            (
              λ a b. (refl, refl, omega arith),
              (
                λ a b. (refl, refl, omega arith),
                (
                  λ a b. (refl, refl, omega arith),
                  (
                    λ a b. only-rows (middle s there flat m) (if there then (if flat then 2 else 3) else 1)
                        (middle-long s there flat m (λ h. let e = ends-long (workplane_of (numbered kind.AT_MIDPOINT)) (named c.entities 0) flat m (middle-lines (b refl)) in (e.0, e.1, middle-points flat h))),
                    tt,
                  ),
                ),
              ),
            ),
          )

      of-comment : Counts i k kind.COMMENT
      unfolding constraint_formula
      of-comment a b = nothing

      by-reference : (b : Bool) → IsCounted i k (record c { reference = false }) → IsCounted i k (record c { reference = b })
      unfolding constraint_formula
      by-reference true h = nothing
      by-reference false h = h

      by-number : constraint_standing (pos c.kind) ≡ Accepted → Counts i k c.kind
      unfolding constraint_standing is_point_constraint is_size_constraint is_direction_constraint is_symmetry_constraint
      by-number e =
          let two = is_among c.kind point_constraints || is_among c.kind size_constraints in
          let three = two || is_among c.kind direction_constraints in
          let four = three || is_among c.kind symmetry_constraints in
          split four (c.kind == kind.COMMENT) (accepted (is_accepted_constraint c.kind) (is_left_out_constraint c.kind) e)
          (λ r. split three (is_among c.kind symmetry_constraints) r
          (λ r. split two (is_among c.kind direction_constraints) r
          (λ r. split (is_among c.kind point_constraints) (is_among c.kind size_constraints) r
          (λ t. each-of (Counts i k) point_constraints of-points c.kind t)
          (λ t. each-of (Counts i k) size_constraints of-sizes c.kind t))
          (λ t. each-of (Counts i k) direction_constraints of-directions c.kind t))
          (λ t. each-of (Counts i k) symmetry_constraints of-symmetry c.kind t))
          (λ t. subst (Counts i k) (sym (eqb-true c.kind kind.COMMENT t)) of-comment)

      pub counted : constraint_standing (pos c.kind) ≡ Accepted → (c.kind ≡ kind.POINT_ON_LINE → Named) → (c.kind ≡ kind.AT_MIDPOINT → Named) → IsCounted i k c
      counted e a b = by-reference c.reference (by-number e a b)
