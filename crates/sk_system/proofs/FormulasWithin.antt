-- Each formula fits: what it reads stands before it, what its rows name is there, and its trees are small.
use Rattle.std.proofs.Common.{◌≡◌, ℕ, zero, suc, ◌+◌, ◌-◌, ◌*◌, ◌≤◌, ◌<◌, ℤ, Bool, true, false, List, [], ◌∷◌, ◌++◌, length, Option, Some, None, arith, refl, subst, length-append}
use Rattle.std.specs.Prelude.{if◌then◌else◌, unwrap_or, slice_get}
use Rattle.sk_num.specs.Ends.{Ends}
use Rattle.sk_expr.specs.Poly.{Poly, unknown, times}
use Rattle.sk_expr.specs.Vectors.{component, vector_difference, scaled, negated, dot, squared, cross, flat_cross, about}
use Rattle.sk_expr.specs.Parts.{PartsOf, LinePoints, PlaneFrame, NormalAxes, RoundParts, no_vector, no_round, vector_at, point_at, line_at, end_at, line_vector, frame_at, axes_at, round_at}
use Rattle.sk_expr.specs.Formula.{Auxiliary, length_of, quotient_of, rows_only, parallel, perpendicular}
use Rattle.sk_eq_points.specs.PointRows.{points_difference, points_apart, height_over, over_plane, in_plane, across, symmetric_over_plane, mirrored, symmetric_over_line, middle, level_end, level}
use Rattle.sk_eq_lines.specs.LineRows.{normal_vector, is_normal_at, normals_before, direction_at, first_direction, foot, from_foot, side_of, height, cosine_of, from_line, apart_along, on_line, equal_lengths, length_ratio, length_as_height, equal_heights, longer_by, equal_angles, same_orientation, in_angle}
use Rattle.sk_eq_curves.specs.CurveRows.{spoke, flat_spoke, start_spoke, radius_auxiliaries, radius_of, diameter, from_centre, on_circle, arc_touches_line, arcs_touch, equal_radii}
use Rattle.sk_system.specs.Fits.{IsWithin, AreWithin, AuxiliariesFit, RelationsFit, FormulaFits}
use Rattle.sk_system.proofs.Within.{loosen, loosen-all, loosen-vector, IsVector, component-in, difference-in, scaled-in, negated-in, dot-in, squared-in, minor-in, cross-in, about-in}
use Rattle.sk_system.proofs.PartsWithin.{IsPart, AreParts, LineIn, PlaneIn, TurnIn, IfPart, IfWithin, RoundIn, AreLines, ArePlanes, AreTurns, AreRounds, PartsIn}

-- ---- parts in their places

module _ (u c : ℕ) where
  none-in : IsPart u c no_vector
  none-in = record { few = omega arith; within = ((tt, omega arith), ((tt, omega arith), tt)) }

  vector-at : (vs : List (List (Poly ℤ))) (i : ℕ) → AreParts u c vs → IsPart u c (vector_at vs i)
  vector-at [] i h = none-in
  vector-at (v ∷ vs) zero h = h.0
  vector-at (v ∷ vs) (suc i) h = vector-at vs i h.1

  either-part : (t : Bool) (as' bs : List (List (Poly ℤ))) → AreParts u c as' → AreParts u c bs → AreParts u c (if t then as' else bs)
  either-part true as' bs h k = h
  either-part false as' bs h k = k

  line-at : (ls : List LinePoints) (i : ℕ) → AreLines u c ls → LineIn u c (unwrap_or (slice_get ls i) (record { ends = []; flat = [] }))
  line-at [] i h = record { ends = tt; flat = tt }
  line-at (l ∷ ls) zero h = h.0
  line-at (l ∷ ls) (suc i) h = line-at ls i h.1

  plane-at : (fs : List PlaneFrame) (i : ℕ) → ArePlanes u c fs → PlaneIn u c (unwrap_or (slice_get fs i) (record { origin = no_vector; u = no_vector; v = no_vector; n = no_vector }))
  plane-at [] i h = record { origin = none-in; u' = none-in; v' = none-in; n' = none-in }
  plane-at (f ∷ fs) zero h = h.0
  plane-at (f ∷ fs) (suc i) h = plane-at fs i h.1

  turn-at : (as' : List NormalAxes) (i : ℕ) → AreTurns u c as' → TurnIn u c (unwrap_or (slice_get as' i) (record { u = no_vector; v = no_vector; n = no_vector }))
  turn-at [] i h = record { u' = none-in; v' = none-in; n' = none-in }
  turn-at (a ∷ as') zero h = h.0
  turn-at (a ∷ as') (suc i) h = turn-at as' i h.1

  no_round-in : RoundIn u c no_round
  no_round-in = record {
    centre = record { few = omega arith; within = ((tt, omega arith), ((tt, omega arith), ((tt, omega arith), tt))) };
    ends = tt;
    flat_centre = tt;
    flat_ends = tt;
    distance = tt;
    axes = tt;
  }

  round-at : (rs : List RoundParts) (i : ℕ) → AreRounds u c rs → RoundIn u c (unwrap_or (slice_get rs i) no_round)
  round-at [] i h = no_round-in
  round-at (r ∷ rs) zero h = h.0
  round-at (r ∷ rs) (suc i) h = round-at rs i h.1

  module _ (m : PartsOf) (h : PartsIn u c m) where
    point_at-in : (flat : Bool) (i : ℕ) → IsPart u c (point_at flat m i)
    unfolding point_at
    point_at-in flat i = vector-at (if flat then m.flat_points else m.points) i (either-part flat m.flat_points m.points h.flat_points h.points)

    line_at-in : (i : ℕ) → LineIn u c (line_at m i)
    unfolding line_at
    line_at-in i = line-at m.lines i h.lines

    frame_at-in : (i : ℕ) → PlaneIn u c (frame_at m i)
    unfolding frame_at
    frame_at-in i = plane-at m.frames i h.frames

    axes_at-in : (i : ℕ) → TurnIn u c (axes_at m i)
    unfolding axes_at
    axes_at-in i = turn-at m.axes i h.axes

    round_at-in : (i : ℕ) → RoundIn u c (round_at m i)
    unfolding round_at
    round_at-in i = round-at m.rounds i h.rounds

  end-in : (flat : Bool) (l : LinePoints) (i : ℕ) → LineIn u c l → IsPart u c (end_at flat l i)
  unfolding end_at
  end-in flat l i h = vector-at (if flat then l.flat else l.ends) i (either-part flat l.flat l.ends h.flat h.ends)

  -- 24575 nodes
  line_vector-in : (flat : Bool) (l : LinePoints) → LineIn u c l → IsVector u c 24575 (line_vector flat l)
  unfolding line_vector
  line_vector-in flat l h = difference-in u c 12287 (end_at flat l 0) (end_at flat l 1) (end-in flat l 0 h) (end-in flat l 1 h)

  up : (a : List (Poly ℤ)) → IsPart u c a → IsVector u c 24575 a
  up a h = loosen-vector u c 12287 24575 a (omega arith) h

rows-fit : (u c k : ℕ) (ts : List (Poly ℤ)) → AreWithin u (c + k) 4000000 ts → RelationsFit u c k (rows_only ts).relations
rows-fit u c k [] h = tt
rows-fit u c k (t ∷ ts) h = (h.0, rows-fit u c k ts h.1)

-- ---- the kinds, where i unknowns and k cosines stand before

module _ (i k : ℕ) where
  -- rows alone
  pub only : (ts : List (Poly ℤ)) → ((v d : ℕ) → i ≤ v → AreWithin v d 4000000 ts) → FormulaFits i k (rows_only ts)
  only ts r = (tt, rows-fit (i + 0) k 0 ts (r (i + 0) (k + 0) (omega arith)))

  pub with-length : (a : List (Poly ℤ)) (xs : List Auxiliary) → ((v d : ℕ) → i ≤ v → IsVector v d 600000 a) → AuxiliariesFit (i + 1) k xs → AuxiliariesFit i k (length_of a ∷ xs)
  with-length a xs h r =
      let q = squared-in (i + 1) k 600000 a (h (i + 1) k (omega arith)) in
      let q' = q.1 in
      (loosen-all i k 600000 4000000 a (omega arith) (h i k (omega arith)).within, (((omega arith, omega arith), q.0), omega (arith, q')), r)

  with-quotient : (n d : Poly ℤ) (xs : List Auxiliary) → ((v e : ℕ) → i ≤ v → IsWithin v e 1900000 n) → ((v e : ℕ) → i ≤ v → IsWithin v e 1900000 d) →
      AuxiliariesFit (i + 1) k xs → AuxiliariesFit i k (quotient_of n d ∷ xs)
  with-quotient n d xs h j r =
      let a = h (i + 1) k (omega arith) in
      let b = j (i + 1) k (omega arith) in
      let a' = a.1 in
      let b' = b.1 in (
        (loosen i k 1900000 4000000 n (omega arith) (h i k (omega arith)), (loosen i k 1900000 4000000 d (omega arith) (j i k (omega arith)), tt)),
        ((a.0, (omega arith, b.0)), omega (arith, a', b')),
        r,
      )

  few-of-cross : (a b : List (Poly ℤ)) (n : ℕ) → n ≤ 3 → n ≤ length (cross a b)
  unfolding cross
  few-of-cross a b n l = l

  some-of-cross : (a b : List (Poly ℤ)) → 0 < length (cross a b)
  unfolding cross
  some-of-cross a b = omega arith

  pub parallel-fits : (flat : Bool) (a b : List (Poly ℤ)) → ((v d : ℕ) → i ≤ v → IsVector v d 73727 a) → ((v d : ℕ) → i ≤ v → IsVector v d 73727 b) → FormulaFits i k (parallel flat a b)
  unfolding parallel
  parallel-fits true a b x y = (
    tt,
    (
      loosen (i + 0) (k + 0) 294911 4000000 (flat_cross a b) (omega arith)
          (minor-in (i + 0) (k + 0) 73727 a b 0 1 (omega arith) (x (i + 0) (k + 0) (omega arith)).within (y (i + 0) (k + 0) (omega arith)).within),
      tt,
    ),
  )
  parallel-fits false a b x y =
      let p = x (i + 0) k (omega arith) in
      let q = y (i + 0) k (omega arith) in
      let f = p.few in (
        tt,
        (
          (
            loosen-all (i + 0) k 73727 4000000 a (omega arith) p.within,
            loosen-all (i + 0) k 294911 4000000 (cross a b) (omega arith) (cross-in (i + 0) k 73727 a b (omega arith) p q).within,
            few-of-cross a b (length a) f,
            some-of-cross a b,
          ),
          tt,
        ),
      )

  pub perpendicular-fits : (n : ℕ) (a b : List (Poly ℤ)) → n ≤ 600000 → ((v d : ℕ) → i ≤ v → IsVector v d n a) → ((v d : ℕ) → i ≤ v → IsVector v d n b) → FormulaFits i k (perpendicular a b)
  unfolding perpendicular
  perpendicular-fits n a b l x y =
      (tt, (loosen (i + 0) (k + 0) (6 * n + 5) 4000000 (dot a b) (omega (arith, l)) (dot-in (i + 0) (k + 0) n a b (x (i + 0) (k + 0) (omega arith)) (y (i + 0) (k + 0) (omega arith))), tt))

-- ---- points

module _ (m : PartsOf) (i : ℕ) (h : (v d : ℕ) → i ≤ v → PartsIn v d m) where
  apart-in : (v d : ℕ) → i ≤ v → (flat : Bool) → IsVector v d 24575 (points_difference flat m)
  unfolding points_difference
  apart-in v d q flat = difference-in v d 12287 (point_at flat m 0) (point_at flat m 1) (point_at-in v d m (h v d q) flat 0) (point_at-in v d m (h v d q) flat 1)

  -- rows within bounds
  abbrev pub Rows : List (Poly ℤ) → Type 0
  Rows ts = (v d : ℕ) → i ≤ v → AreWithin v d 4000000 ts

  pub coincident-in : (flat : Bool) → Rows (points_difference flat m)
  coincident-in flat v d q = loosen-all v d 24575 4000000 (points_difference flat m) (omega arith) (apart-in v d q flat).within

  pub points_apart-in : (flat : Bool) (z : ℤ) → Rows (points_apart flat z m)
  unfolding points_apart
  points_apart-in flat z v d q =
      let a = squared-in v d 24575 (points_difference flat m) (apart-in v d q flat) in
      let a' = a.1 in
      (((a.0, (tt, tt)), omega (arith, a')), tt)

  height-in : (v d : ℕ) → i ≤ v → IsWithin v d 147455 (height_over m)
  unfolding height_over
  height-in v d q =
      let f = frame_at-in v d m (h v d q) 0 in
      dot-in v d 24575 (vector_difference (point_at false m 0) (frame_at m 0).origin) (frame_at m 0).n
      (difference-in v d 12287 (point_at false m 0) (frame_at m 0).origin (point_at-in v d m (h v d q) false 0) f.origin)
      (up v d (frame_at m 0).n f.n')

  pub over_plane-in : (z : ℤ) → Rows (over_plane z m)
  unfolding over_plane
  over_plane-in z v d q = let a = height-in v d q in let a' = a.1 in (((a.0, tt), omega (arith, a')), tt)

  pub in_plane-in : Rows (in_plane m)
  unfolding in_plane
  in_plane-in v d q = (loosen v d 147455 4000000 (height_over m) (omega arith) (height-in v d q), tt)

  across-in : (flat : Bool) → Rows (across flat m)
  across-in true v d q =
      let f = frame_at-in v d m (h v d q) 0 in
      let g = frame_at-in v d m (h v d q) 1 in
      let n = cross-in v d 12287 (frame_at m 0).n (frame_at m 1).n (omega arith) f.n' g.n' in (
        loosen v d 294911 4000000 (dot (cross (frame_at m 0).n (frame_at m 1).n) (points_difference false m)) (omega arith)
            (dot-in v d 49151 (cross (frame_at m 0).n (frame_at m 1).n) (points_difference false m) n (loosen-vector v d 24575 49151 (points_difference false m) (omega arith) (apart-in v d q false))),
        tt,
      )
  across-in false v d q =
      let f = frame_at-in v d m (h v d q) 0 in (
        loosen v d 147455 4000000 (dot (points_difference false m) (frame_at m 0).u) (omega arith) (dot-in v d 24575 (points_difference false m) (frame_at m 0).u (apart-in v d q false) (up v d (frame_at m 0).u f.u')),
        (loosen v d 147455 4000000 (dot (points_difference false m) (frame_at m 0).v) (omega arith) (dot-in v d 24575 (points_difference false m) (frame_at m 0).v (apart-in v d q false) (up v d (frame_at m 0).v f.v')), tt),
      )

  pub symmetric-in : (s : ℕ) (flat : Bool) → Rows (symmetric_over_plane s flat m)
  unfolding symmetric_over_plane
  symmetric-in s flat v d q =
      let f = frame_at-in v d m (h v d q) 0 in
      let e = about s (point_at false m 0) (point_at false m 1) (frame_at m 0).origin in
      let a = about-in v d s 12287 (point_at false m 0) (point_at false m 1) (frame_at m 0).origin (omega arith) (point_at-in v d m (h v d q) false 0) (point_at-in v d m (h v d q) false 1) f.origin in
      (loosen v d 294911 4000000 (dot e (frame_at m 0).n) (omega arith) (dot-in v d 49151 e (frame_at m 0).n a (loosen-vector v d 12287 49151 (frame_at m 0).n (omega arith) f.n')), across-in flat v d q)

  coordinate-in : (v d : ℕ) → i ≤ v → (p j : ℕ) → IsWithin v d 12287 (component (point_at true m p) j)
  coordinate-in v d q p j = component-in v d 12287 (point_at true m p) j (omega arith) (point_at-in v d m (h v d q) true p).within

  pub mirrored-in : (a b : ℕ) → Rows (mirrored a b m)
  unfolding mirrored
  mirrored-in a b v d q =
      let x = coordinate-in v d q 0 a in
      let y = coordinate-in v d q 1 a in
      let z = coordinate-in v d q 0 b in
      let w = coordinate-in v d q 1 b in
      let x' = x.1 in let y' = y.1 in let z' = z.1 in let w' = w.1 in
      (((x.0, y.0), omega (arith, x', y')), (((z.0, w.0), omega (arith, z', w')), tt))

  line-in : (v d : ℕ) → i ≤ v → (flat : Bool) (j : ℕ) → IsVector v d 24575 (line_vector flat (line_at m j))
  line-in v d q flat j = line_vector-in v d flat (line_at m j) (line_at-in v d m (h v d q) j)

  tip-in : (v d : ℕ) → i ≤ v → (flat : Bool) (j e : ℕ) → IsPart v d (end_at flat (line_at m j) e)
  tip-in v d q flat j e = end-in v d flat (line_at m j) e (line_at-in v d m (h v d q) j)

  pub symmetric_over_line-in : (s : ℕ) → Rows (symmetric_over_line s m)
  unfolding symmetric_over_line
  symmetric_over_line-in s v d q =
      let a = line-in v d q true 0 in
      let w = line_vector true (line_at m 0) in
      let e = about s (point_at true m 0) (point_at true m 1) (end_at true (line_at m 0) 0) in
      let b = about-in v d s 12287 (point_at true m 0) (point_at true m 1) (end_at true (line_at m 0) 0) (omega arith) (point_at-in v d m (h v d q) true 0) (point_at-in v d m (h v d q) true 1) (tip-in v d q true 0 0) in (
        loosen v d 147455 4000000 (dot w (points_difference true m)) (omega arith) (dot-in v d 24575 w (points_difference true m) a (apart-in v d q true)),
        (loosen v d 196607 4000000 (flat_cross w e) (omega arith) (minor-in v d 49151 w e 0 1 (omega arith) (loosen-vector v d 24575 49151 w (omega arith) a).within b.within), tt),
      )

  pub middle-in : (s : ℕ) (has_point flat : Bool) → Rows (middle s has_point flat m)
  unfolding middle
  middle-in s true flat v d q =
      loosen-all v d 49151 4000000 (about s (end_at flat (line_at m 0) 0) (end_at flat (line_at m 0) 1) (point_at flat m 0)) (omega arith)
      (about-in v d s 12287 (end_at flat (line_at m 0) 0) (end_at flat (line_at m 0) 1) (point_at flat m 0) (omega arith) (tip-in v d q flat 0 0) (tip-in v d q flat 0 1) (point_at-in v d m (h v d q) flat 0)).within
  middle-in s false flat v d q =
      let f = frame_at-in v d m (h v d q) 0 in
      let e = about s (end_at false (line_at m 0) 0) (end_at false (line_at m 0) 1) (frame_at m 0).origin in
      let a = about-in v d s 12287 (end_at false (line_at m 0) 0) (end_at false (line_at m 0) 1) (frame_at m 0).origin (omega arith) (tip-in v d q false 0 0) (tip-in v d q false 0 1) f.origin in
      (loosen v d 294911 4000000 (dot e (frame_at m 0).n) (omega arith) (dot-in v d 49151 e (frame_at m 0).n a (loosen-vector v d 12287 49151 (frame_at m 0).n (omega arith) f.n')), tt)

  level_end-in : (v d : ℕ) → i ≤ v → (has_line : Bool) (e j : ℕ) → IsWithin v d 12287 (component (level_end has_line m e) j)
  unfolding level_end
  level_end-in v d q true e j = component-in v d 12287 (end_at true (line_at m 0) e) j (omega arith) (tip-in v d q true 0 e).within
  level_end-in v d q false e j = component-in v d 12287 (point_at true m e) j (omega arith) (point_at-in v d m (h v d q) true e).within

  pub level-in : (has_line : Bool) (j : ℕ) → Rows (level has_line j m)
  unfolding level
  level-in has_line j v d q =
      let x = level_end-in v d q has_line 0 j in
      let y = level_end-in v d q has_line 1 j in
      let x' = x.1 in let y' = y.1 in
      (((x.0, y.0), omega (arith, x', y')), tt)

-- ---- lines and normals

module _ (m : PartsOf) (i k : ℕ) (h : (v d : ℕ) → i ≤ v → PartsIn v d m) where
  with-foot : (i' : ℕ) → i ≤ i' → (p : List (Poly ℤ)) (j : ℕ) (xs : List Auxiliary) → ((v d : ℕ) → i ≤ v → IsPart v d p) →
      AuxiliariesFit (i' + 1) k xs → AuxiliariesFit i' k (foot p (line_at m j) ∷ xs)
  unfolding foot
  with-foot i' l p j xs r t =
      let a = line_vector false (line_at m j) in
      let e = vector_difference p (end_at false (line_at m j) 0) in
      with-quotient i' k (dot e a) (squared a) xs
      (λ v d q. loosen v d 147455 1900000 (dot e a) (omega arith) (dot-in v d 24575 e a
      (difference-in v d 12287 p (end_at false (line_at m j) 0) (r v d (omega (arith, l, q))) (tip-in m i h v d (omega (arith, l, q)) false j 0)) (line-in m i h v d (omega (arith, l, q)) false j)))
      (λ v d q. loosen v d 147455 1900000 (squared a) (omega arith) (squared-in v d 24575 a (line-in m i h v d (omega (arith, l, q)) false j))) t

  from_foot-in : (v d : ℕ) → i ≤ v → (e : ℕ) → e < v → (p : List (Poly ℤ)) (j : ℕ) → IsPart v d p → IsVector v d 98303 (from_foot (unknown e) p (line_at m j))
  unfolding from_foot
  from_foot-in v d q e l p j r =
      let a = line_vector false (line_at m j) in
      let b = vector_difference p (end_at false (line_at m j) 0) in
      difference-in v d 49151 b (scaled (unknown e) a)
      (loosen-vector v d 24575 49151 b (omega arith) (difference-in v d 12287 p (end_at false (line_at m j) 0) r (tip-in m i h v d q false j 0)))
      (scaled-in v d 24575 (unknown e) a (l, omega arith) (line-in m i h v d q false j))

  side_of-in : (v d : ℕ) → i ≤ v → (p : List (Poly ℤ)) (j : ℕ) → IsPart v d p → IsWithin v d 98303 (side_of p (line_at m j))
  unfolding side_of
  side_of-in v d q p j r =
      minor-in v d 24575 (line_vector true (line_at m j)) (vector_difference (end_at true (line_at m j) 0) p) 1 0 (omega arith)
      (line-in m i h v d q true j).within (difference-in v d 12287 (end_at true (line_at m j) 0) p (tip-in m i h v d q true j 0) r).within

  with-height : (i' : ℕ) → i ≤ i' → (p : List (Poly ℤ)) (j : ℕ) (xs : List Auxiliary) → ((v d : ℕ) → i ≤ v → IsPart v d p) →
      AuxiliariesFit (i' + 1 + 1) k xs → AuxiliariesFit i' k (height i' p (line_at m j) ++ xs)
  unfolding height
  with-height i' l p j xs r t =
      let a = line_vector true (line_at m j) in
      with-length i' k a (quotient_of (side_of p (line_at m j)) (unknown i') ∷ xs) (λ v d q. loosen-vector v d 24575 600000 a (omega arith) (line-in m i h v d (omega (arith, l, q)) true j))
      (with-quotient (i' + 1) k (side_of p (line_at m j)) (unknown i') xs
      (λ v d q. loosen v d 98303 1900000 (side_of p (line_at m j)) (omega arith) (side_of-in v d (omega (arith, l, q)) p j (r v d (omega (arith, l, q)))))
      (λ v d q. (omega (arith, q), omega arith)) t)

  space_point : (j v d : ℕ) → i ≤ v → IsPart v d (point_at false m j)
  space_point j v d q = point_at-in v d m (h v d q) false j

  flat_point : (j v d : ℕ) → i ≤ v → IsPart v d (point_at true m j)
  flat_point j v d q = point_at-in v d m (h v d q) true j

  wide_line : (flat : Bool) (j v d : ℕ) → i ≤ v → IsVector v d 600000 (line_vector flat (line_at m j))
  wide_line flat j v d q = loosen-vector v d 24575 600000 (line_vector flat (line_at m j)) (omega arith) (line-in m i h v d q flat j)

  foot-squared : (v d : ℕ) → i ≤ v → (e : ℕ) → e < v → (p j : ℕ) → IsWithin v d 589823 (squared (from_foot (unknown e) (point_at false m p) (line_at m j)))
  foot-squared v d q e l p j = squared-in v d 98303 (from_foot (unknown e) (point_at false m p) (line_at m j)) (from_foot-in v d q e l (point_at false m p) j (space_point p v d q))

  line-squared : (v d : ℕ) → i ≤ v → (flat : Bool) (j : ℕ) → IsWithin v d 147455 (squared (line_vector flat (line_at m j)))
  line-squared v d q flat j = squared-in v d 24575 (line_vector flat (line_at m j)) (line-in m i h v d q flat j)

  pub from_line-fits : (flat : Bool) (z : ℤ) → FormulaFits i k (from_line i flat z m)
  unfolding from_line
  from_line-fits true z =
      let a = side_of-in (i + 1) (k + 0) (omega arith) (point_at true m 0) 0 (flat_point 0 (i + 1) (k + 0) (omega arith)) in
      let a' = a.1 in
      (with-length i k (line_vector true (line_at m 0)) [] (wide_line true 0) tt, (((a.0, (tt, omega arith)), omega (arith, a')), tt))
  from_line-fits false z =
      let a = foot-squared (i + 1) (k + 0) (omega arith) i (omega arith) 0 0 in
      let a' = a.1 in
      (with-foot i (omega arith) (point_at false m 0) 0 [] (space_point 0) tt, (((a.0, (tt, tt)), omega (arith, a')), tt))

  normal_vector-in : (v d : ℕ) → i ≤ v → (flat : Bool) (j : ℕ) → IsVector v d 73727 (normal_vector flat m (axes_at m j))
  unfolding normal_vector
  normal_vector-in v d q true j =
      let a = axes_at-in v d m (h v d q) j in
      let f = frame_at-in v d m (h v d q) 0 in
      record { few = omega arith; within = (dot-in v d 12287 (axes_at m j).n (frame_at m 0).u a.n' f.u', (dot-in v d 12287 (axes_at m j).n (frame_at m 0).v a.n' f.v', tt)) }
  normal_vector-in v d q false j = loosen-vector v d 12287 73727 (axes_at m j).n (omega arith) (axes_at-in v d m (h v d q) j).n'

  either-in : (v d n : ℕ) (t : Bool) (a b : List (Poly ℤ)) → IsVector v d n a → IsVector v d n b → IsVector v d n (if t then a else b)
  either-in v d n true a b x y = x
  either-in v d n false a b x y = y

  direction-in : (v d : ℕ) → i ≤ v → (flat : Bool) (j : ℕ) → IsVector v d 73727 (direction_at flat m j)
  unfolding direction_at
  direction-in v d q flat j =
      either-in v d 73727 (is_normal_at j m) (normal_vector flat m (axes_at m (normals_before j m))) (line_vector flat (line_at m (j - normals_before j m))) (normal_vector-in v d q flat (normals_before j m))
      (loosen-vector v d 24575 73727 (line_vector flat (line_at m (j - normals_before j m))) (omega arith) (line-in m i h v d q flat (j - normals_before j m)))

  first-in : (v d : ℕ) → i ≤ v → (other flat : Bool) → IsVector v d 147455 (first_direction other flat m)
  unfolding first_direction
  first-in v d q other flat =
      either-in v d 147455 other (negated (direction_at flat m 0)) (direction_at flat m 0) (negated-in v d 73727 (direction_at flat m 0) (omega arith) (direction-in v d q flat 0))
      (loosen-vector v d 73727 147455 (direction_at flat m 0) (omega arith) (direction-in v d q flat 0))

  wide-in : (v d : ℕ) → i ≤ v → (flat : Bool) (j : ℕ) → IsVector v d 147455 (direction_at flat m j)
  wide-in v d q flat j = loosen-vector v d 73727 147455 (direction_at flat m j) (omega arith) (direction-in v d q flat j)

  pub apart_along-fits : (z : ℤ) → FormulaFits i k (apart_along i z m)
  unfolding apart_along
  apart_along-fits z =
      let e = vector_difference (point_at false m 1) (point_at false m 0) in
      let x = difference-in (i + 1) (k + 0) 12287 (point_at false m 1) (point_at false m 0) (space_point 1 (i + 1) (k + 0) (omega arith)) (space_point 0 (i + 1) (k + 0) (omega arith)) in
      let a = dot-in (i + 1) (k + 0) 73727 e (direction_at false m 0) (loosen-vector (i + 1) (k + 0) 24575 73727 e (omega arith) x) (direction-in (i + 1) (k + 0) (omega arith) false 0) in
      let a' = a.1 in (
        with-length i k (direction_at false m 0) [] (λ v d q. loosen-vector v d 73727 600000 (direction_at false m 0) (omega arith) (direction-in v d q false 0)) tt,
        (((a.0, (tt, omega arith)), omega (arith, a')), tt),
      )

  pub equal_lengths-fits : (flat : Bool) → FormulaFits i k (equal_lengths flat m)
  unfolding equal_lengths
  equal_lengths-fits flat =
      let a = line-squared (i + 0) (k + 0) (omega arith) flat 0 in
      let b = line-squared (i + 0) (k + 0) (omega arith) flat 1 in
      let a' = a.1 in let b' = b.1 in
      (tt, (((a.0, b.0), omega (arith, a', b')), tt))

  pub length_ratio-fits : (flat : Bool) (z : ℤ) → FormulaFits i k (length_ratio flat z m)
  unfolding length_ratio
  length_ratio-fits flat z =
      let a = line-squared (i + 0) (k + 0) (omega arith) flat 0 in
      let b = line-squared (i + 0) (k + 0) (omega arith) flat 1 in
      let a' = a.1 in let b' = b.1 in
      (tt, (((a.0, ((tt, tt), b.0)), omega (arith, a', b')), tt))

  pub length_as_height-fits : (flat : Bool) → FormulaFits i k (length_as_height i flat m)
  unfolding length_as_height height
  length_as_height-fits true =
      let a = line-squared (i + 2) (k + 0) (omega arith) true 0 in
      let a' = a.1 in
      (with-height i (omega arith) (point_at true m 0) 1 [] (flat_point 0) tt, (((a.0, (omega arith, omega arith)), omega (arith, a')), tt))
  length_as_height-fits false =
      let a = line-squared (i + 1) (k + 0) (omega arith) false 0 in
      let b = foot-squared (i + 1) (k + 0) (omega arith) i (omega arith) 0 1 in
      let a' = a.1 in let b' = b.1 in
      (with-foot i (omega arith) (point_at false m 0) 1 [] (space_point 0) tt, (((a.0, b.0), omega (arith, a', b')), tt))

  pub longer_by-fits : (flat : Bool) (z : ℤ) → FormulaFits i k (longer_by i flat z m)
  unfolding longer_by
  longer_by-fits flat z = (
    with-length i k (line_vector flat (line_at m 0)) (length_of (line_vector flat (line_at m 1)) ∷ []) (wide_line flat 0)
        (with-length (i + 1) k (line_vector flat (line_at m 1)) [] (λ v d q. wide_line flat 1 v d (omega (arith, q))) tt),
    (((((omega arith, omega arith), tt)), omega arith), tt),
  )

  with-cosine : (i' : ℕ) → i ≤ i' → (a b : List (Poly ℤ)) (xs : List Auxiliary) → ((v d : ℕ) → i ≤ v → IsVector v d 147455 a) → ((v d : ℕ) → i ≤ v → IsVector v d 147455 b) →
      AuxiliariesFit (i' + 1 + 1 + 1) k xs → AuxiliariesFit i' k (cosine_of i' a b ++ xs)
  unfolding cosine_of
  with-cosine i' l a b xs x y t =
      let q = quotient_of (dot a b) (times (unknown i') (unknown (i' + 1))) in
      with-length i' k a (length_of b ∷ q ∷ xs) (λ v d q. loosen-vector v d 147455 600000 a (omega arith) (x v d (omega (arith, l, q))))
      (with-length (i' + 1) k b (q ∷ xs) (λ v d q. loosen-vector v d 147455 600000 b (omega arith) (y v d (omega (arith, l, q))))
      (with-quotient (i' + 1 + 1) k (dot a b) (times (unknown i') (unknown (i' + 1))) xs
      (λ v d q. loosen v d 884735 1900000 (dot a b) (omega arith) (dot-in v d 147455 a b (x v d (omega (arith, l, q))) (y v d (omega (arith, l, q)))))
      (λ v d q. ((omega (arith, q), omega (arith, q)), omega arith)) t))

  later : (j l : ℕ) (xs : List Auxiliary) → l ≡ j → AuxiliariesFit l k xs → AuxiliariesFit j k xs
  later j l xs e t = subst (λ n. AuxiliariesFit n k xs) e t

  pub equal_angles-fits : (other flat : Bool) → FormulaFits i k (equal_angles i other flat m)
  unfolding equal_angles cosine_of
  equal_angles-fits other flat =
      let c = direction_at flat m 2 in
      let e = direction_at flat m 3 in
      let ys = cosine_of (i + 3) c e in (
        with-cosine i (omega arith) (first_direction other flat m) (direction_at flat m 1) ys (λ v d q. first-in v d q other flat) (λ v d q. wide-in v d q flat 1)
            (later (i + 1 + 1 + 1) (i + 3) ys (omega arith) (with-cosine (i + 3) (omega arith) c e [] (λ v d q. wide-in v d q flat 2) (λ v d q. wide-in v d q flat 3) tt)),
        (((omega arith, omega arith), omega arith), tt),
      )

  pub on_line-fits : (flat : Bool) → (flat ≡ false → (length (line_vector false (line_at m 0)) ≤ length (from_foot (unknown i) (point_at false m 0) (line_at m 0))) × (0 < length (from_foot (unknown i) (point_at false m 0) (line_at m 0)))) →
      FormulaFits i k (on_line i flat m)
  unfolding on_line
  on_line-fits true e =
      (tt, (loosen (i + 0) (k + 0) 98303 4000000 (side_of (point_at true m 0) (line_at m 0)) (omega arith) (side_of-in (i + 0) (k + 0) (omega arith) (point_at true m 0) 0 (flat_point 0 (i + 0) (k + 0) (omega arith))), tt))
  on_line-fits false e = (
    with-foot i (omega arith) (point_at false m 0) 0 [] (space_point 0) tt,
    (
      (
        loosen-all (i + 1) k 24575 4000000 (line_vector false (line_at m 0)) (omega arith) (line-in m i h (i + 1) k (omega arith) false 0).within,
        loosen-all (i + 1) k 98303 4000000 (from_foot (unknown i) (point_at false m 0) (line_at m 0)) (omega arith) (from_foot-in (i + 1) k (omega arith) i (omega arith) (point_at false m 0) 0 (space_point 0 (i + 1) k (omega arith))).within,
        (e refl).0,
        (e refl).1,
      ),
      tt,
    ),
  )

  pub equal_heights-fits : (flat : Bool) → FormulaFits i k (equal_heights i flat m)
  unfolding equal_heights height
  equal_heights-fits true =
      let ys = height (i + 2) (point_at true m 1) (line_at m 1) in (
        with-height i (omega arith) (point_at true m 0) 0 ys (flat_point 0)
            (later (i + 1 + 1) (i + 2) ys (omega arith) (with-height (i + 2) (omega arith) (point_at true m 1) 1 [] (flat_point 1) tt)),
        ((((omega arith, omega arith), (omega arith, omega arith)), omega arith), tt),
      )
  equal_heights-fits false =
      let a = foot-squared (i + 2) (k + 0) (omega arith) i (omega arith) 0 0 in
      let b = foot-squared (i + 2) (k + 0) (omega arith) (i + 1) (omega arith) 1 1 in
      let a' = a.1 in let b' = b.1 in (
        with-foot i (omega arith) (point_at false m 0) 0 (foot (point_at false m 1) (line_at m 1) ∷ []) (space_point 0)
            (with-foot (i + 1) (omega arith) (point_at false m 1) 1 [] (space_point 1) tt),
        (((a.0, b.0), omega (arith, a', b')), tt),
      )

  pub same_orientation-fits : FormulaFits i k (same_orientation m)
  unfolding same_orientation
  same_orientation-fits =
      let a = axes_at-in (i + 0) k m (h (i + 0) k (omega arith)) 0 in
      let b = axes_at-in (i + 0) k m (h (i + 0) k (omega arith)) 1 in
      let f = a.n'.few in
      let n = (axes_at m 0).n in
      let o = (axes_at m 1).n in (
        tt,
        (
          (
            loosen-all (i + 0) k 12287 4000000 n (omega arith) a.n'.within,
            loosen-all (i + 0) k 49151 4000000 (cross n o) (omega arith) (cross-in (i + 0) k 12287 n o (omega arith) a.n' b.n').within,
            few-of-cross i k n o (length n) f,
            some-of-cross i k n o,
          ),
          (
            (
              loosen (i + 0) k 73727 4000000 (dot (axes_at m 0).u (axes_at m 1).v) (omega arith) (dot-in (i + 0) k 12287 (axes_at m 0).u (axes_at m 1).v a.u' b.v'),
              loosen (i + 0) k 73727 4000000 (dot (axes_at m 0).u (axes_at m 1).u) (omega arith) (dot-in (i + 0) k 12287 (axes_at m 0).u (axes_at m 1).u a.u' b.u'),
            ),
            tt,
          ),
        ),
      )

  pub in_angle-fits : (other flat : Bool) (e : Ends) → FormulaFits i k (in_angle i k other flat e m)
  unfolding in_angle
  in_angle-fits other flat e =
      let a = dot-in (i + 2) (k + 1) 147455 (first_direction other flat m) (direction_at flat m 1) (first-in (i + 2) (k + 1) (omega arith) other flat) (wide-in (i + 2) (k + 1) (omega arith) flat 1) in
      let a' = a.1 in (
        with-length i k (first_direction other flat m) (length_of (direction_at flat m 1) ∷ []) (λ v d q. loosen-vector v d 147455 600000 (first_direction other flat m) (omega arith) (first-in v d q other flat))
            (with-length (i + 1) k (direction_at flat m 1) [] (λ v d q. loosen-vector v d 147455 600000 (direction_at flat m 1) (omega arith) (wide-in v d (omega (arith, q)) flat 1)) tt),
        (((a.0, ((omega arith, omega arith), omega arith)), omega (arith, a')), tt),
      )

  pub parallel-lines-fits : (flat : Bool) → FormulaFits i k (parallel flat (direction_at flat m 0) (direction_at flat m 1))
  parallel-lines-fits flat = parallel-fits i k flat (direction_at flat m 0) (direction_at flat m 1) (λ v d q. direction-in v d q flat 0) (λ v d q. direction-in v d q flat 1)

  pub perpendicular-lines-fits : (flat : Bool) → FormulaFits i k (perpendicular (direction_at flat m 0) (direction_at flat m 1))
  perpendicular-lines-fits flat = perpendicular-fits i k 73727 (direction_at flat m 0) (direction_at flat m 1) (omega arith) (λ v d q. direction-in v d q flat 0) (λ v d q. direction-in v d q flat 1)

  -- ---- circles and arcs

  spoke-in : (v d : ℕ) → i ≤ v → (j : ℕ) (at_end : Bool) → IsVector v d 24575 (spoke (round_at m j) at_end)
  unfolding spoke
  spoke-in v d q j at_end =
      let r = round_at-in v d m (h v d q) j in
      let e = if at_end then 1 else 0 in
      difference-in v d 12287 (vector_at (round_at m j).ends e) (round_at m j).centre (vector-at v d (round_at m j).ends e r.ends) r.centre

  centre-or-none : (v d : ℕ) (c : Option (List (Poly ℤ))) → IfPart v d c → IsPart v d (unwrap_or c no_vector)
  centre-or-none v d None x = none-in v d
  centre-or-none v d (Some a) x = x

  flat_spoke-in : (v d : ℕ) → i ≤ v → (j : ℕ) (at_end : Bool) → IsVector v d 24575 (flat_spoke (round_at m j) at_end)
  unfolding flat_spoke
  flat_spoke-in v d q j at_end =
      let r = round_at-in v d m (h v d q) j in
      let e = if at_end then 1 else 0 in
      difference-in v d 12287 (vector_at (round_at m j).flat_ends e) (unwrap_or (round_at m j).flat_centre no_vector) (vector-at v d (round_at m j).flat_ends e r.flat_ends) (centre-or-none v d (round_at m j).flat_centre r.flat_centre)

  start-in : (v d : ℕ) → i ≤ v → (j : ℕ) (c : Option (List (Poly ℤ))) → IsVector v d 24575 (start_spoke (round_at m j) c)
  unfolding start_spoke
  start-in v d q j None = spoke-in v d q j false
  start-in v d q j (Some a) = flat_spoke-in v d q j false

  wide_start : (j v d : ℕ) → i ≤ v → IsVector v d 600000 (start_spoke (round_at m j) (round_at m j).flat_centre)
  wide_start j v d q = loosen-vector v d 24575 600000 (start_spoke (round_at m j) (round_at m j).flat_centre) (omega arith) (start-in v d q j (round_at m j).flat_centre)

  with-radius : (i' : ℕ) → i ≤ i' → (j : ℕ) (t : Option (Poly ℤ)) (xs : List Auxiliary) → AuxiliariesFit (i' + length (radius_auxiliaries (round_at m j) t)) k xs →
      AuxiliariesFit i' k (radius_auxiliaries (round_at m j) t ++ xs)
  unfolding radius_auxiliaries
  with-radius i' l j (Some t) xs r = subst (λ n. AuxiliariesFit n k xs) (omega arith) r
  with-radius i' l j None xs r = with-length i' k (start_spoke (round_at m j) (round_at m j).flat_centre) xs (λ v d q. wide_start j v d (omega (arith, l, q))) r

  alone : (i' : ℕ) → i ≤ i' → (j : ℕ) (t : Option (Poly ℤ)) → AuxiliariesFit i' k (radius_auxiliaries (round_at m j) t)
  unfolding radius_auxiliaries
  alone i' l j (Some t) = tt
  alone i' l j None = with-length i' k (start_spoke (round_at m j) (round_at m j).flat_centre) [] (λ v d q. wide_start j v d (omega (arith, l, q))) tt

  radius-of-in : (v d e j : ℕ) (t : Option (Poly ℤ)) → IfWithin v d t → e + length (radius_auxiliaries (round_at m j) t) ≤ v → IsWithin v d 1 (radius_of e t)
  unfolding radius_of radius_auxiliaries
  radius-of-in v d e j (Some t) x q = x
  radius-of-in v d e j None x q = (omega (arith, q), omega arith)

  pub diameter-fits : (s : ℕ) (z : ℤ) → FormulaFits i k (diameter s i z m)
  unfolding diameter
  diameter-fits s z =
      let t = (round_at m 0).distance in
      let n = length (radius_auxiliaries (round_at m 0) t) in
      let r = round_at-in (i + n) (k + 0) m (h (i + n) (k + 0) (omega arith)) 0 in
      let a = radius-of-in (i + n) (k + 0) i 0 t r.distance (omega arith) in
      let a' = a.1 in
      (alone i (omega arith) 0 t, ((((tt, a.0), tt), omega (arith, a')), tt))

  from_centre-in : (v d : ℕ) → i ≤ v → (c : Option (List (Poly ℤ))) → IfPart v d c → IsVector v d 147455 (from_centre m (round_at m 0) c)
  unfolding from_centre
  from_centre-in v d q None x =
      let r = round_at-in v d m (h v d q) 0 in
      let as' = (round_at m 0).axes in
      let w = vector_difference (point_at false m 0) (round_at m 0).centre in
      let e = difference-in v d 12287 (point_at false m 0) (round_at m 0).centre (point_at-in v d m (h v d q) false 0) r.centre in
      record { few = omega arith; within = (dot-in v d 24575 w (vector_at as' 0) e (up v d (vector_at as' 0) (vector-at v d as' 0 r.axes)), (dot-in v d 24575 w (vector_at as' 1) e (up v d (vector_at as' 1) (vector-at v d as' 1 r.axes)), tt)) }
  from_centre-in v d q (Some c) x = loosen-vector v d 24575 147455 (vector_difference (point_at true m 0) c) (omega arith) (difference-in v d 12287 (point_at true m 0) c (point_at-in v d m (h v d q) true 0) x)

  pub on_circle-fits : FormulaFits i k (on_circle i m)
  unfolding on_circle
  on_circle-fits =
      let t = (round_at m 0).distance in
      let n = length (radius_auxiliaries (round_at m 0) t) in
      let r = round_at-in (i + n) (k + 0) m (h (i + n) (k + 0) (omega arith)) 0 in
      let e = from_centre m (round_at m 0) (round_at m 0).flat_centre in
      let x = radius-of-in (i + n) (k + 0) i 0 t r.distance (omega arith) in
      let a = squared-in (i + n) (k + 0) 147455 e (from_centre-in (i + n) (k + 0) (omega arith) (round_at m 0).flat_centre r.flat_centre) in
      let a' = a.1 in let x' = x.1 in
      (alone i (omega arith) 0 t, (((a.0, (x.0, x.0)), omega (arith, a', x')), tt))

  pub arc_touches_line-fits : (other : Bool) → FormulaFits i k (arc_touches_line other m)
  unfolding arc_touches_line
  arc_touches_line-fits other =
      let a = spoke (round_at m 0) other in
      let b = line_vector false (line_at m 0) in
      perpendicular-fits i k 24575 a b (omega arith) (λ v d q. spoke-in v d q 0 other) (λ v d q. line-in m i h v d q false 0)

  pub arcs_touch-fits : (other other2 : Bool) → FormulaFits i k (arcs_touch other other2 m)
  unfolding arcs_touch
  arcs_touch-fits other other2 =
      let a = flat_spoke (round_at m 0) other in
      let b = flat_spoke (round_at m 1) other2 in (
        tt,
        (
          loosen (i + 0) (k + 0) 98303 4000000 (flat_cross a b) (omega arith)
              (minor-in (i + 0) (k + 0) 24575 a b 0 1 (omega arith) (flat_spoke-in (i + 0) (k + 0) (omega arith) 0 other).within (flat_spoke-in (i + 0) (k + 0) (omega arith) 1 other2).within),
          tt,
        ),
      )

  pub equal_radii-fits : FormulaFits i k (equal_radii i m)
  unfolding equal_radii
  equal_radii-fits =
      let a = (round_at m 0).distance in
      let b = (round_at m 1).distance in
      let xs = radius_auxiliaries (round_at m 0) a in
      let ys = radius_auxiliaries (round_at m 1) b in
      let v = i + length (xs ++ ys) in
      let e = length-append xs ys in
      let r = round_at-in v (k + 0) m (h v (k + 0) (omega arith)) 0 in
      let t = round_at-in v (k + 0) m (h v (k + 0) (omega arith)) 1 in
      let x = radius-of-in v (k + 0) i 0 a r.distance (omega (arith, e)) in
      let y = radius-of-in v (k + 0) (i + length xs) 1 b t.distance (omega (arith, e)) in
      let x' = x.1 in let y' = y.1 in
      (with-radius i (omega arith) 0 a ys (alone (i + length xs) (omega arith) 1 b), (((x.0, y.0), omega (arith, x', y')), tt))
