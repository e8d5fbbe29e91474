-- The parts of a constraint are the same trees over outlines and numbers that are alike where they are read.
use Rattle.std.proofs.Common.{◌≡◌, ℕ, Bool, true, false, List, [], ◌∷◌, ◌++◌, map, Option, Some, None, refl, ap, ◌∙◌, subst}
use Rattle.std.specs.Prelude.{◌==◌, not, option_map, option_to_list, if◌then◌else◌}
use Rattle.std.specs.List.{All, filter}
use Rattle.std.proofs.lemmas.Bool.{eqb-true}
use Rattle.std.proofs.lemmas.List.Elements.{All-nil, All-cons, All-head, All-tail, All-append, All-filter, All-map}
use Rattle.sk_types.specs.declared.handle.EntityId.{EntityId}
use Rattle.sk_types.specs.declared.constraint.Constraint.{Constraint}
use Rattle.sk_types.specs.declared.constraint.Need.{Need}
use Rattle.sk_types.specs.declared.constraint.PartKind.{PartKind}
use Rattle.sk_types.specs.declared.constraint.PartKind.TheVariants.{Point, Workplane, Line, Normal, LineOrNormal, Face, Cubic, Arc, ArcOrCubic, CircleOrArc}
use Rattle.sk_types.specs.declared.entity.Entity.{Entity}
use Rattle.sk_types.specs.declared.entity_kind.TheConstants as entity_kind
use Rattle.sk_types.specs.declared.constraint_kind.TheConstants as kind
use Rattle.sk_types.specs.Lists.{is_among}
use Rattle.sk_types.specs.Needs.{named, part_takes, needs_of, two_points, one_point, one_of, two_of, four_of, curve_and_line, midpoint_parts, level_parts}
use Rattle.sk_types.specs.Kinds.{is_normal}
use Rattle.sk_types.specs.Sizes.{has_entity, is_arc}
use Rattle.sk_expr.specs.Parts.{LinePoints, PartsOf}
use Rattle.sk_geom.specs.Sources.{Source, three_numbers, four_numbers}
use Rattle.sk_geom.specs.Quaternions.{quaternion_axes}
use Rattle.sk_geom.specs.EntityTrees.{of_entity, point_tree, normal_tree}
use Rattle.sk_system.specs.ByHandle.{entity_by, point_by, both_there, flat_by, frame_or_none, frame_by, axes_by, distance_or_none, distance_by, points_of, normal_of, distance_of, end_by, is_of, is_normal_by, is_arc_by, drawn_in, normal_plane}
use Rattle.sk_system.specs.ConstraintParts.{needed, workplane_of, points_plane, round_plane, flat_points, space_points, line_by, arc_ends, radius_by, two_axes, axes_unless, round_by, constraint_parts}
use Rattle.sk_system.specs.LookupLaws.{Reads, IsRead}
use Rattle.sk_system.specs.OutlineLaws.{NeededRead}
use Rattle.sk_system.proofs.AlikeEntities.{Pair, one, other, IsAlike, IfRead, of-there, found, in_place, point-same, normal-same, distance-same, flat-same, frame-same}

-- parts with other marks of which entities are normals
abbrev pub marked : PartsOf → List Bool → PartsOf
marked m ns = record { points = m.points; flat_points = m.flat_points; lines = m.lines; frames = m.frames; axes = m.axes; rounds = m.rounds; normals = ns }

-- ---- lists

pub mapped : {A B : Type 0} (R : A → Type 0) (f g : A → B) (xs : List A) → ((x : A) → R x → f x ≡ g x) → All R xs → map f xs ≡ map g xs
mapped R f g [] h k = refl
mapped R f g (x ∷ xs) h k = let rest = mapped R f g xs h (All-tail R x xs k) in λ i. h x (All-head R x xs k) i ∷ rest i

filtered : {A : Type 0} (R : A → Type 0) (p q : A → Bool) (xs : List A) → ((x : A) → R x → p x ≡ q x) → All R xs → filter p xs ≡ filter q xs
filtered R p q [] h k = refl
filtered R p q (x ∷ xs) h k = let rest = filtered R p q xs h (All-tail R x xs k) in λ i. if h x (All-head R x xs k) i then x ∷ rest i else rest i

-- one of two, each the same where it is the one
pub branch : {A : Type 0} (t : Bool) (a b c d : A) → (t ≡ true → a ≡ c) → (t ≡ false → b ≡ d) → (if t then a else b) ≡ (if t then c else d)
branch true a b c d h k = h refl
branch false a b c d h k = k refl

chosen : {A : Type 0} (P : A → Type 0) (t : Bool) (x y : A) → (t ≡ true → P x) → P y → P (if t then x else y)
chosen P true x y h k = h refl
chosen P false x y h k = k

either : {A : Type 0} (P : A → Type 0) (t : Bool) (x y : A) → P x → P y → P (if t then x else y)
either P true x y h k = h
either P false x y h k = k

-- ---- what a constraint needs is among what it names

pub record NeedsRead (r : Reads) (ns : List Need) : Type 0 where
  pub all : All (λ (n : Need). IsRead r n.entity) ns

module _ (r : Reads) (z : (ps : List EntityId) (i : ℕ) → All (IsRead r) ps → IsRead r (named ps i)) (ps es : List EntityId) (h : All (IsRead r) ps) (l : All (IsRead r) es) where
  no-need : NeedsRead r []
  no-need = record { all = All-nil (λ (n : Need). IsRead r n.entity) }

  before : (n : Need) (ns : List Need) → IsRead r n.entity → NeedsRead r ns → NeedsRead r (n ∷ ns)
  before n ns k m = record { all = All-cons (λ (n : Need). IsRead r n.entity) n ns k m.all }

  point-first : (i : ℕ) (ns : List Need) → NeedsRead r ns → NeedsRead r (record { entity = named ps i; part = Point } ∷ ns)
  point-first i ns k = before (record { entity = named ps i; part = Point }) ns (z ps i h) k

  entity-first : (i : ℕ) (p : PartKind) (ns : List Need) → NeedsRead r ns → NeedsRead r (record { entity = named es i; part = p } ∷ ns)
  entity-first i p ns k = before (record { entity = named es i; part = p }) ns (z es i l) k

  read-entity : (p : PartKind) → NeedsRead r (one_of p es)
  read-entity p = entity-first 0 p [] no-need

  read-entities : (p : PartKind) → NeedsRead r (two_of p es)
  read-entities p = entity-first 0 p _ (entity-first 1 p [] no-need)

  read-four : (p : PartKind) → NeedsRead r (four_of p es)
  read-four p = entity-first 0 p _ (entity-first 1 p _ (entity-first 2 p _ (entity-first 3 p [] no-need)))

  read-point : (ns : List Need) → NeedsRead r ns → NeedsRead r (one_point ps ++ ns)
  read-point ns k = point-first 0 ns k

  read-points : (ns : List Need) → NeedsRead r ns → NeedsRead r (two_points ps ++ ns)
  read-points ns k = point-first 0 _ (point-first 1 ns k)

  read-touching : (p : PartKind) → NeedsRead r (curve_and_line p es)
  read-touching p = entity-first 0 p _ (entity-first 1 Line [] no-need)

  read-middle : NeedsRead r (midpoint_parts ps es)
  read-middle = entity-first 0 Line _ (either (NeedsRead r) ((named ps 0).0 == 0) _ _ (entity-first 1 Workplane [] no-need) (point-first 0 [] no-need))

  read-level : NeedsRead r (level_parts ps es)
  read-level = either (NeedsRead r) ((named es 0).0 == 0) _ _ (read-points [] no-need) (read-entity Line)

  pub needs-read : (k : ℕ) → NeedsRead r (needs_of k ps es)
  unfolding needs_of
  needs-read k =
      either (NeedsRead r) (is_among k (kind.POINTS_COINCIDENT ∷ kind.POINT_POINT_DISTANCE ∷ kind.SYMMETRIC_HORIZONTAL ∷ kind.SYMMETRIC_VERTICAL ∷ [])) _ _ (read-points [] no-need)
      (either (NeedsRead r) (is_among k (kind.POINT_PLANE_DISTANCE ∷ kind.POINT_IN_PLANE ∷ [])) _ _ (read-point _ (read-entity Workplane))
      (either (NeedsRead r) (is_among k (kind.POINT_LINE_DISTANCE ∷ kind.POINT_ON_LINE ∷ [])) _ _ (read-point _ (read-entity Line))
      (either (NeedsRead r) (is_among k (kind.POINT_FACE_DISTANCE ∷ kind.POINT_ON_FACE ∷ [])) _ _ (read-point _ (read-entity Face))
      (either (NeedsRead r) (k == kind.PROJECTED_DISTANCE) _ _ (read-points _ (read-entity LineOrNormal))
      (either (NeedsRead r) (is_among k (kind.EQUAL_LENGTHS ∷ kind.LENGTH_RATIO ∷ kind.LENGTH_DIFFERENCE ∷ [])) _ _ (read-entities Line)
      (either (NeedsRead r) (k == kind.EQUAL_LENGTH_AND_DISTANCE) _ _ (read-point _ (read-entities Line))
      (either (NeedsRead r) (k == kind.EQUAL_DISTANCES) _ _ (read-points _ (read-entities Line))
      (either (NeedsRead r) (k == kind.EQUAL_ANGLES) _ _ (read-four LineOrNormal)
      (either (NeedsRead r) (k == kind.SYMMETRIC) _ _ (read-points _ (read-entity Workplane))
      (either (NeedsRead r) (k == kind.SYMMETRIC_LINE) _ _ (read-points _ (read-entity Line))
      (either (NeedsRead r) (k == kind.AT_MIDPOINT) _ _ read-middle
      (either (NeedsRead r) (is_among k (kind.HORIZONTAL ∷ kind.VERTICAL ∷ [])) _ _ read-level
      (either (NeedsRead r) (k == kind.DIAMETER) _ _ (read-entity CircleOrArc)
      (either (NeedsRead r) (k == kind.POINT_ON_CIRCLE) _ _ (read-point _ (read-entity CircleOrArc))
      (either (NeedsRead r) (k == kind.SAME_ORIENTATION) _ _ (read-entities Normal)
      (either (NeedsRead r) (is_among k (kind.ANGLE ∷ kind.PARALLEL ∷ kind.PERPENDICULAR ∷ [])) _ _ (read-entities LineOrNormal)
      (either (NeedsRead r) (k == kind.ARC_LINE_TANGENT) _ _ (read-touching Arc)
      (either (NeedsRead r) (k == kind.CUBIC_LINE_TANGENT) _ _ (read-touching Cubic)
      (either (NeedsRead r) (k == kind.CURVE_CURVE_TANGENT) _ _ (read-entities ArcOrCubic)
      (either (NeedsRead r) (k == kind.EQUAL_RADII) _ _ (read-entities CircleOrArc)
      (either (NeedsRead r) (k == kind.WHERE_DRAGGED) _ _ (read-point [] no-need) no-need)))))))))))))))))))))

module _ {s : ℕ} (x : Pair s) (a : IsAlike x) where
  abbrev r : Reads
  r = x.reads

  -- ---- by handle

  pub at : (e : EntityId) → IsRead r e → entity_by (one x) e ≡ entity_by (other x) e
  at e k = a.there e.0 k

  pub point_by-same : (e : EntityId) → IsRead r e → point_by (one x) e ≡ point_by (other x) e
  unfolding point_by
  point_by-same e k = of-there r (three_numbers []) (point_tree (one x)) (point_tree (other x)) (entity_by (one x) e) (point-same x a) (found x a e k) ∙ ap (of_entity (three_numbers []) (point_tree (other x))) (at e k)

  both-same : (w e : Option (Entity s)) → IfRead r w → IfRead r e → both_there (one x) w e ≡ both_there (other x) w e
  both-same None e h k = refl
  both-same (Some w) None h k = refl
  both-same (Some w) (Some e) h k = flat-same x a w e h k

  pub flat_by-same : (w e : EntityId) → IsRead r w → IsRead r e → flat_by (one x) w e ≡ flat_by (other x) w e
  unfolding flat_by
  flat_by-same w e h k = both-same (entity_by (one x) w) (entity_by (one x) e) (found x a w h) (found x a e k) ∙ (λ i. both_there (other x) (at w h i) (at e k i))

  plane-same : (w : Option (Entity s)) → IfRead r w → frame_or_none (one x) w ≡ frame_or_none (other x) w
  plane-same None h = refl
  plane-same (Some w) h = frame-same x a w h

  pub frame_by-same : (w : EntityId) → IsRead r w → frame_by (one x) w ≡ frame_by (other x) w
  unfolding frame_by
  frame_by-same w k = plane-same (entity_by (one x) w) (found x a w k) ∙ ap (frame_or_none (other x)) (at w k)

  pub axes_by-same : (e : EntityId) → IsRead r e → axes_by (one x) e ≡ axes_by (other x) e
  unfolding axes_by
  axes_by-same e k =
      let q = of-there r (four_numbers []) (normal_tree (one x)) (normal_tree (other x)) (entity_by (one x) e) (normal-same x a) (found x a e k) ∙ ap (of_entity (four_numbers []) (normal_tree (other x))) (at e k) in
      λ i. quaternion_axes s (q i)

  far-same : (e : Option (Entity s)) → IfRead r e → distance_or_none (one x) e ≡ distance_or_none (other x) e
  far-same None k = refl
  far-same (Some e) k = distance-same x a e k

  distance_by-same : (e : EntityId) → IsRead r e → distance_by (one x) e ≡ distance_by (other x) e
  unfolding distance_by
  distance_by-same e k = far-same (entity_by (one x) e) (found x a e k) ∙ ap (distance_or_none (other x)) (at e k)

  -- ---- what an entity names

  points-read : (e : Option (Entity s)) → IfRead r e → All (IsRead r) (points_of e)
  points-read None k = All-nil (IsRead r)
  points-read (Some e) k = k.names.points

  pub names-read : (e : EntityId) → IsRead r e → All (IsRead r) (points_of (entity_by (one x) e))
  names-read e k = points-read (entity_by (one x) e) (found x a e k)

  end-read : (e : EntityId) (n : ℕ) → IsRead r e → IsRead r (end_by (one x) e n)
  end-read e n k = in_place x a (points_of (entity_by (one x) e)) n (names-read e k)

  end-same : (e : EntityId) (n : ℕ) → IsRead r e → end_by (one x) e n ≡ end_by (other x) e n
  end-same e n k = λ i. named (points_of (at e k i)) n

  normal-read : (e : Option (Entity s)) → IfRead r e → IsRead r (normal_of e)
  normal-read None k = a.nothing
  normal-read (Some e) k = k.names.normal

  distance-read : (e : Option (Entity s)) → IfRead r e → IsRead r (distance_of e)
  distance-read None k = a.nothing
  distance-read (Some e) k = k.names.distance

  abbrev NameRead : Option EntityId → Type 0
  NameRead None = Unit {0}
  NameRead (Some w) = IsRead r w

  drawn-read : (e : Option (Entity s)) → IfRead r e → NameRead (drawn_in e)
  drawn-read None k = tt
  drawn-read (Some e) k = either NameRead (e.kind == entity_kind.NORMAL_IN_WORKPLANE) (Some e.workplane) None k.names.workplane tt

  plane-read : (e : EntityId) → IsRead r e → NameRead (normal_plane (one x) e)
  plane-read e k =
      let n = normal_of (entity_by (one x) e) in
      drawn-read (entity_by (one x) n) (found x a n (normal-read (entity_by (one x) e) (found x a e k)))

  plane_of-same : (e : EntityId) → IsRead r e → normal_plane (one x) e ≡ normal_plane (other x) e
  plane_of-same e k =
      let n = normal_of (entity_by (one x) e) in
      ap drawn_in (at n (normal-read (entity_by (one x) e) (found x a e k))) ∙ (λ i. drawn_in (entity_by (other x) (normal_of (at e k i))))

  -- ---- lists of points

  space-same : (es : List EntityId) → All (IsRead r) es → space_points (one x) es ≡ space_points (other x) es
  space-same es k = mapped (IsRead r) (point_by (one x)) (point_by (other x)) es point_by-same k

  flats-same : (w : Option EntityId) (es : List EntityId) → NameRead w → All (IsRead r) es → flat_points (one x) w es ≡ flat_points (other x) w es
  flats-same None es h k = refl
  flats-same (Some w) es h k = mapped (IsRead r) (flat_by (one x) w) (flat_by (other x) w) es (λ e l. flat_by-same w e h l) k

  -- ---- lines, circles and arcs

  two-read : (e : EntityId) (m n : ℕ) → IsRead r e → All (IsRead r) (end_by (one x) e m ∷ end_by (one x) e n ∷ [])
  two-read e m n k = All-cons (IsRead r) (end_by (one x) e m) (end_by (one x) e n ∷ []) (end-read e m k) (All-cons (IsRead r) (end_by (one x) e n) [] (end-read e n k) (All-nil (IsRead r)))

  abbrev line_with : Source s → Option EntityId → List EntityId → LinePoints
  line_with o w es = record { ends = space_points o es; flat = flat_points o w es }

  line_with-same : (w : Option EntityId) (es : List EntityId) → NameRead w → All (IsRead r) es → line_with (one x) w es ≡ line_with (other x) w es
  line_with-same w es h k =
      let ends = space-same es k in
      let flat = flats-same w es h k in
      λ i. record { ends = ends i; flat = flat i }

  line-same : (w : Option EntityId) (e : EntityId) → NameRead w → IsRead r e → line_by (one x) w e ≡ line_by (other x) w e
  unfolding line_by
  line-same w e h k =
      line_with-same w (end_by (one x) e 0 ∷ end_by (one x) e 1 ∷ []) h (two-read e 0 1 k)
      ∙ (λ i. line_with (other x) w (end-same e 0 k i ∷ end-same e 1 k i ∷ []))

  arc-read : (e : EntityId) → IsRead r e → All (IsRead r) (arc_ends (one x) e)
  arc-read e k = either (λ es. All (IsRead r) es) (is_arc_by (one x) e) (end_by (one x) e 1 ∷ end_by (one x) e 2 ∷ []) [] (two-read e 1 2 k) (All-nil (IsRead r))

  arc_ends-same : (e : EntityId) → IsRead r e → arc_ends (one x) e ≡ arc_ends (other x) e
  arc_ends-same e k = λ i. if is_arc (at e k i) then end-same e 1 k i ∷ end-same e 2 k i ∷ [] else []

  radius-same : (e : EntityId) → IsRead r e → radius_by (one x) e ≡ radius_by (other x) e
  radius-same e k =
      let y = entity_by (one x) e in
      let far = distance_by-same (distance_of y) (distance-read y (found x a e k)) in
      (λ i. if is_arc_by (one x) e then None else Some (far i)) ∙ (λ i. if is_arc (at e k i) then None else Some (distance_by (other x) (distance_of (at e k i))))

  centre-same : (w : Option EntityId) (e : EntityId) → NameRead w → IsRead r e → option_map (λ p. flat_by (one x) p e) w ≡ option_map (λ p. flat_by (other x) p e) w
  centre-same None e h k = refl
  centre-same (Some w) e h k = λ i. Some (flat_by-same w e h k i)

  unless-same : (w : Option EntityId) (n : EntityId) → IsRead r n → axes_unless (one x) w n ≡ axes_unless (other x) w n
  unless-same None n k = λ i. two_axes (axes_by-same n k i)
  unless-same (Some w) n k = refl

  round-same : (w : Option EntityId) (e : EntityId) → NameRead w → IsRead r e → round_by (one x) w e ≡ round_by (other x) w e
  unfolding round_by
  round-same w e h k =
      let y = entity_by (one x) e in
      let there = found x a e k in
      let centre = point_by-same (end_by (one x) e 0) (end-read e 0 k) ∙ ap (point_by (other x)) (end-same e 0 k) in
      let ends = space-same (arc_ends (one x) e) (arc-read e k) ∙ ap (space_points (other x)) (arc_ends-same e k) in
      let middle = centre-same w (end_by (one x) e 0) h (end-read e 0 k) ∙ ap (λ (c : EntityId). option_map (λ p. flat_by (other x) p c) w) (end-same e 0 k) in
      let flat = flats-same w (arc_ends (one x) e) h (arc-read e k) ∙ ap (flat_points (other x) w) (arc_ends-same e k) in
      let far = radius-same e k in
      let axes = unless-same (normal_plane (one x) e) (normal_of y) (normal-read y there) ∙ (λ i. axes_unless (other x) (plane_of-same e k i) (normal_of (at e k i))) in
      λ i. record {
        centre = centre i;
        ends = ends i;
        flat_centre = middle i;
        flat_ends = flat i;
        distance = far i;
        axes = axes i;
      }

  -- ---- all parts

  module _ (c : Constraint s) (p : NeededRead r c) where
    -- what is needed by a kind
    pub needed-by : (k : ℕ) → (c.kind == k) ≡ true → All (λ (n : Need). IsRead r n.entity) (needs_of k c.points c.entities)
    needed-by k e = subst (λ (k : ℕ). All (λ (n : Need). IsRead r n.entity) (needs_of k c.points c.entities)) (eqb-true c.kind k e) p.needs

    -- what is needed in a place
    pub place-read : (k : ℕ) → (c.kind == k) ≡ true → (j : ℕ) → IsRead r (named (map (λ (n : Need). n.entity) (needs_of k c.points c.entities)) j)
    place-read k e j = in_place x a (map (λ (n : Need). n.entity) (needs_of k c.points c.entities)) j (All-map (IsRead r) (λ (n : Need). n.entity) (needs_of k c.points c.entities) (needed-by k e))

    needed-read : (k : ℕ) → All (IsRead r) (needed c k)
    unfolding needed
    needed-read k =
        let t = λ (n : Need). part_takes n.part k in
        let ns = needs_of c.kind c.points c.entities in
        All-map (IsRead r) (λ (n : Need). n.entity) (filter t ns) (All-filter t (λ (n : Need). IsRead r n.entity) ns p.needs)

    workplane-read : NameRead (workplane_of c)
    workplane-read = either NameRead (has_entity c.workplane) (Some c.workplane) None p.workplane tt

    abbrev Two : EntityId → PartKind → EntityId → PartKind → Type 0
    Two d k e m = All (λ (n : Need). IsRead r n.entity) (record { entity = d; part = k } ∷ record { entity = e; part = m } ∷ [])

    pub first-of : (d : EntityId) (k : PartKind) (e : EntityId) (m : PartKind) → Two d k e m → IsRead r d
    first-of d k e m h = All-head (λ (n : Need). IsRead r n.entity) (record { entity = d; part = k }) (record { entity = e; part = m } ∷ []) h

    pub second-of : (d : EntityId) (k : PartKind) (e : EntityId) (m : PartKind) → Two d k e m → IsRead r e
    second-of d k e m h =
        All-head (λ (n : Need). IsRead r n.entity) (record { entity = e; part = m }) [] (All-tail (λ (n : Need). IsRead r n.entity) (record { entity = d; part = k }) (record { entity = e; part = m } ∷ []) h)

    circle-read : (c.kind == kind.POINT_ON_CIRCLE) ≡ true → IsRead r (named c.entities 0)
    unfolding needs_of
    circle-read e = second-of (named c.points 0) Point (named c.entities 0) CircleOrArc (needed-by kind.POINT_ON_CIRCLE e)

    points_plane-read : NameRead (points_plane (one x) c)
    points_plane-read =
        chosen NameRead (c.kind == kind.POINT_ON_CIRCLE) (normal_plane (one x) (named c.entities 0)) (workplane_of c) (λ e. plane-read (named c.entities 0) (circle-read e)) workplane-read

    points_plane-same : points_plane (one x) c ≡ points_plane (other x) c
    points_plane-same =
        branch (c.kind == kind.POINT_ON_CIRCLE) (normal_plane (one x) (named c.entities 0)) (workplane_of c) (normal_plane (other x) (named c.entities 0)) (workplane_of c)
        (λ e. plane_of-same (named c.entities 0) (circle-read e)) (λ e. refl)

    round_plane-read : (e : EntityId) → IsRead r e → NameRead (round_plane (one x) c e)
    round_plane-read e k = either NameRead (c.kind == kind.CURVE_CURVE_TANGENT) (workplane_of c) (normal_plane (one x) e) workplane-read (plane-read e k)

    round_plane-same : (e : EntityId) → IsRead r e → round_plane (one x) c e ≡ round_plane (other x) c e
    round_plane-same e k = λ i. if c.kind == kind.CURVE_CURVE_TANGENT then workplane_of c else plane_of-same e k i

    to-list-read : (w : Option EntityId) → NameRead w → All (IsRead r) (option_to_list w)
    to-list-read None k = All-nil (IsRead r)
    to-list-read (Some w) k = All-cons (IsRead r) w [] k (All-nil (IsRead r))

    pub normal-is : (e : EntityId) → IsRead r e → is_normal_by (one x) e ≡ is_normal_by (other x) e
    normal-is e k = λ i. is_of is_normal (at e k i)

    -- but for the marks
    pub parts-same : marked (constraint_parts (one x) c) (map (is_normal_by (other x)) c.entities) ≡ constraint_parts (other x) c
    unfolding constraint_parts
    parts-same =
        let ps = needed c entity_kind.POINT_IN_SPACE in
        let is_line = λ (e : EntityId). not (is_normal_by (one x) e) in
        let is_line2 = λ (e : EntityId). not (is_normal_by (other x) e) in
        let all = needed c entity_kind.LINE in
        let all-read = needed-read entity_kind.LINE in
        let ls = filter is_line all in
        let ws = needed c entity_kind.WORKPLANE ++ option_to_list (workplane_of c) in
        let ms = needed c entity_kind.NORMAL_IN_SPACE in
        let ms-read = needed-read entity_kind.NORMAL_IN_SPACE in
        let ns = filter (is_normal_by (one x)) ms in
        let rs = needed c entity_kind.ARC in
        let w = workplane-read in
        let points = space-same ps (needed-read entity_kind.POINT_IN_SPACE) in
        let flats = flats-same (points_plane (one x) c) ps points_plane-read (needed-read entity_kind.POINT_IN_SPACE) ∙ ap (λ (v : Option EntityId). flat_points (other x) v ps) points_plane-same in
        let lines = mapped (IsRead r) (line_by (one x) (workplane_of c)) (line_by (other x) (workplane_of c)) ls (λ e k. line-same (workplane_of c) e w k) (All-filter is_line (IsRead r) all all-read)
        ∙ ap (map (line_by (other x) (workplane_of c))) (filtered (IsRead r) is_line is_line2 all (λ e k i. not (normal-is e k i)) all-read) in
        let frames = mapped (IsRead r) (frame_by (one x)) (frame_by (other x)) ws frame_by-same
        (All-append (IsRead r) (needed c entity_kind.WORKPLANE) (option_to_list (workplane_of c)) (needed-read entity_kind.WORKPLANE) (to-list-read (workplane_of c) w)) in
        let axes = mapped (IsRead r) (axes_by (one x)) (axes_by (other x)) ns axes_by-same (All-filter (is_normal_by (one x)) (IsRead r) ms ms-read)
        ∙ ap (map (axes_by (other x))) (filtered (IsRead r) (is_normal_by (one x)) (is_normal_by (other x)) ms normal-is ms-read) in
        let rounds = mapped (IsRead r) (λ e. round_by (one x) (round_plane (one x) c e) e) (λ e. round_by (other x) (round_plane (other x) c e) e) rs
        (λ e k. round-same (round_plane (one x) c e) e (round_plane-read e k) k ∙ ap (λ (v : Option EntityId). round_by (other x) v e) (round_plane-same e k)) (needed-read entity_kind.ARC) in
        λ i. record {
          points = points i;
          flat_points = flats i;
          lines = lines i;
          frames = frames i;
          axes = axes i;
          rounds = rounds i;
          normals = map (is_normal_by (other x)) c.entities;
        }
