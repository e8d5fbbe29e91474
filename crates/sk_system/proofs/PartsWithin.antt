-- The parts of a constraint are within bounds, at every count of unknowns from that of the parameters on.
use Rattle.std.proofs.Common.{ℕ, ◌≤◌, ℤ, Bool, true, false, List, [], ◌∷◌, ◌++◌, map, length, Option, Some, None, arith}
use Rattle.std.specs.Prelude.{not, option_map, option_to_list, if◌then◌else◌}
use Rattle.std.specs.List.{filter}
use Rattle.sk_types.specs.declared.handle.EntityId.{EntityId}
use Rattle.sk_types.specs.declared.constraint.Constraint.{Constraint}
use Rattle.sk_types.specs.declared.entity.Entity.{Entity}
use Rattle.sk_types.specs.declared.entity_kind.TheConstants as entity_kind
use Rattle.sk_expr.specs.Poly.{Poly}
use Rattle.sk_expr.specs.Parts.{no_vector, LinePoints, PlaneFrame, NormalAxes, RoundParts, PartsOf}
use Rattle.sk_geom.specs.Sources.{Source, three_numbers, four_numbers}
use Rattle.sk_geom.specs.EntityTrees.{of_entity, point_tree, normal_tree}
use Rattle.sk_system.specs.Fits.{IsWithin, AreWithin}
use Rattle.sk_system.specs.ByHandle.{entity_by, point_by, both_there, flat_by, frame_or_none, frame_by, axes_by, distance_or_none, distance_by, normal_of, distance_of, end_by, is_arc_by, is_normal_by, normal_plane}
use Rattle.sk_system.specs.ConstraintParts.{needed, workplane_of, points_plane, round_plane, flat_points, space_points, line_by, arc_ends, axes_unless, round_by, constraint_parts}
use Rattle.sk_system.proofs.Within.{raise-all, loosen-all, IsVector}
use Rattle.sk_system.proofs.EntitiesWithin.{axes-in, four_numbers-in, point-in, normal-in, distance-in, flat-in, frame-in}

-- what a part's components have at most, nodes of points in a plane
abbrev pub IsPart : ℕ → ℕ → List (Poly ℤ) → Type 0
IsPart u c a = IsVector u c 12287 a

abbrev pub AreParts : ℕ → ℕ → List (List (Poly ℤ)) → Type 0
AreParts u c [] = Unit {0}
AreParts u c (a ∷ as') = IsPart u c a × AreParts u c as'

pub record LineIn (u c : ℕ) (l : LinePoints) : Type 0 where
  pub ends : AreParts u c l.ends
  pub flat : AreParts u c l.flat

pub record PlaneIn (u c : ℕ) (f : PlaneFrame) : Type 0 where
  pub origin : IsPart u c f.origin
  pub u' : IsPart u c f.u
  pub v' : IsPart u c f.v
  pub n' : IsPart u c f.n

pub record TurnIn (u c : ℕ) (a : NormalAxes) : Type 0 where
  pub u' : IsPart u c a.u
  pub v' : IsPart u c a.v
  pub n' : IsPart u c a.n

abbrev pub IfPart : ℕ → ℕ → Option (List (Poly ℤ)) → Type 0
IfPart u c None = Unit {0}
IfPart u c (Some a) = IsPart u c a

abbrev pub IfWithin : ℕ → ℕ → Option (Poly ℤ) → Type 0
IfWithin u c None = Unit {0}
IfWithin u c (Some t) = IsWithin u c 1 t

pub record RoundIn (u c : ℕ) (r : RoundParts) : Type 0 where
  pub centre : IsPart u c r.centre
  pub ends : AreParts u c r.ends
  pub flat_centre : IfPart u c r.flat_centre
  pub flat_ends : AreParts u c r.flat_ends
  pub distance : IfWithin u c r.distance
  pub axes : AreParts u c r.axes

abbrev pub AreLines : ℕ → ℕ → List LinePoints → Type 0
AreLines u c [] = Unit {0}
AreLines u c (l ∷ ls) = LineIn u c l × AreLines u c ls

abbrev pub ArePlanes : ℕ → ℕ → List PlaneFrame → Type 0
ArePlanes u c [] = Unit {0}
ArePlanes u c (f ∷ fs) = PlaneIn u c f × ArePlanes u c fs

abbrev pub AreTurns : ℕ → ℕ → List NormalAxes → Type 0
AreTurns u c [] = Unit {0}
AreTurns u c (a ∷ as') = TurnIn u c a × AreTurns u c as'

abbrev pub AreRounds : ℕ → ℕ → List RoundParts → Type 0
AreRounds u c [] = Unit {0}
AreRounds u c (r ∷ rs) = RoundIn u c r × AreRounds u c rs

pub record PartsIn (u c : ℕ) (m : PartsOf) : Type 0 where
  pub points : AreParts u c m.points
  pub flat_points : AreParts u c m.flat_points
  pub lines : AreLines u c m.lines
  pub frames : ArePlanes u c m.frames
  pub axes : AreTurns u c m.axes
  pub rounds : AreRounds u c m.rounds

module _ {s : ℕ} (o : Source s) (u c : ℕ) (l : length o.unknowns ≤ u) where
  pub raised : (n : ℕ) (a : List (Poly ℤ)) → n ≤ 12287 → IsVector (length o.unknowns) 0 n a → IsPart u c a
  raised n a k h = record { few = h.few; within = raise-all (length o.unknowns) 0 u c 12287 a l (omega arith) (loosen-all (length o.unknowns) 0 n 12287 a k h.within) }

  pub zeros-in : IsPart u c (three_numbers [])
  zeros-in = record { few = omega arith; within = ((tt, omega arith), ((tt, omega arith), ((tt, omega arith), tt))) }

  pair-in : IsPart u c no_vector
  pair-in = record { few = omega arith; within = ((tt, omega arith), ((tt, omega arith), tt)) }

  -- ---- by handle

  of_there : (r : Option (Entity s)) → IsPart u c (of_entity (three_numbers []) (point_tree o) r)
  of_there None = zeros-in
  of_there (Some e) = raised 1023 (point_tree o e) (omega arith) (point-in o e)

  pub point_by-in : (e : EntityId) → IsPart u c (point_by o e)
  unfolding point_by
  point_by-in e = of_there (entity_by o e)

  both-in : (w e : Option (Entity s)) → IsPart u c (both_there o w e)
  both-in None e = pair-in
  both-in (Some w) None = pair-in
  both-in (Some w) (Some e) = raised 12287 _ (omega arith) (flat-in o w e)

  pub flat_by-in : (w e : EntityId) → IsPart u c (flat_by o w e)
  unfolding flat_by
  flat_by-in w e = both-in (entity_by o w) (entity_by o e)

  plane-in : (r : Option (Entity s)) → PlaneIn u c (frame_or_none o r)
  plane-in None = record { origin = zeros-in; u' = zeros-in; v' = zeros-in; n' = zeros-in }
  plane-in (Some w) =
      let h = frame-in o w in
      record {
        origin = raised 255 _ (omega arith) h.origin;
        u' = raised 127 _ (omega arith) h.u;
        v' = raised 127 _ (omega arith) h.v;
        n' = raised 127 _ (omega arith) h.n;
      }

  pub frame_by-in : (w : EntityId) → PlaneIn u c (frame_by o w)
  unfolding frame_by
  frame_by-in w = plane-in (entity_by o w)

  turned : (r : Option (Entity s)) → AreWithin (length o.unknowns) 0 15 (of_entity (four_numbers []) (normal_tree o) r)
  turned None = four_numbers-in o 15 [] (omega arith)
  turned (Some e) = normal-in o e

  pub axes_by-in : (e : EntityId) → TurnIn u c (axes_by o e)
  unfolding axes_by
  axes_by-in e =
      let h = axes-in (length o.unknowns) 0 s 15 _ (omega arith) (turned (entity_by o e)) in
      record { u' = raised 127 _ (omega arith) h.first; v' = raised 127 _ (omega arith) h.second; n' = raised 127 _ (omega arith) h.across }

  one-raised : (t : Poly ℤ) → IsWithin (length o.unknowns) 0 1 t → IsWithin u c 1 t
  one-raised t h = (raise-all (length o.unknowns) 0 u c 1 (t ∷ []) l (omega arith) (h, tt)).0

  distance-there : (r : Option (Entity s)) → IsWithin u c 1 (distance_or_none o r)
  distance-there None = (tt, omega arith)
  distance-there (Some e) = one-raised _ (distance-in o e)

  pub distance_by-in : (e : EntityId) → IsWithin u c 1 (distance_by o e)
  unfolding distance_by
  distance_by-in e = distance-there (entity_by o e)

  -- ---- lists of points

  pub space-in : (es : List EntityId) → AreParts u c (space_points o es)
  space-in [] = tt
  space-in (e ∷ es) = (point_by-in e, space-in es)

  in_plane : (w : EntityId) (es : List EntityId) → AreParts u c (map (flat_by o w) es)
  in_plane w [] = tt
  in_plane w (e ∷ es) = (flat_by-in w e, in_plane w es)

  pub flat_points-in : (w : Option EntityId) (es : List EntityId) → AreParts u c (flat_points o w es)
  flat_points-in None es = tt
  flat_points-in (Some w) es = in_plane w es

  -- ---- lines, circles and arcs

  line-in : (w : Option EntityId) (e : EntityId) → LineIn u c (line_by o w e)
  unfolding line_by
  line-in w e = record { ends = space-in (end_by o e 0 ∷ end_by o e 1 ∷ []); flat = flat_points-in w (end_by o e 0 ∷ end_by o e 1 ∷ []) }

  centre-in : (w : Option EntityId) (e : EntityId) → IfPart u c (option_map (λ p. flat_by o p e) w)
  centre-in None e = tt
  centre-in (Some w) e = flat_by-in w e

  radius-in : (b : Bool) (e : EntityId) → IfWithin u c (if b then None else Some (distance_by o e))
  radius-in true e = tt
  radius-in false e = distance_by-in e

  unless-in : (w : Option EntityId) (n : EntityId) → AreParts u c (axes_unless o w n)
  unless-in None n = let h = axes_by-in n in (h.u', (h.v', tt))
  unless-in (Some w) n = tt

  round-in : (w : Option EntityId) (e : EntityId) → RoundIn u c (round_by o w e)
  unfolding round_by
  round-in w e = record {
    centre = point_by-in (end_by o e 0);
    ends = space-in (arc_ends o e);
    flat_centre = centre-in w (end_by o e 0);
    flat_ends = flat_points-in w (arc_ends o e);
    distance = radius-in (is_arc_by o e) (distance_of (entity_by o e));
    axes = unless-in (normal_plane o e) (normal_of (entity_by o e));
  }

  -- ---- all parts

  lines-in : (w : Option EntityId) (es : List EntityId) → AreLines u c (map (line_by o w) es)
  lines-in w [] = tt
  lines-in w (e ∷ es) = (line-in w e, lines-in w es)

  planes-in : (es : List EntityId) → ArePlanes u c (map (frame_by o) es)
  planes-in [] = tt
  planes-in (e ∷ es) = (frame_by-in e, planes-in es)

  turns-in : (es : List EntityId) → AreTurns u c (map (axes_by o) es)
  turns-in [] = tt
  turns-in (e ∷ es) = (axes_by-in e, turns-in es)

  rounds-in : (w : EntityId → Option EntityId) (es : List EntityId) → AreRounds u c (map (λ e. round_by o (w e) e) es)
  rounds-in w [] = tt
  rounds-in w (e ∷ es) = (round-in (w e) e, rounds-in w es)

  pub parts-in : (k : Constraint s) → PartsIn u c (constraint_parts o k)
  unfolding constraint_parts
  parts-in k = record {
    points = space-in (needed k entity_kind.POINT_IN_SPACE);
    flat_points = flat_points-in (points_plane o k) (needed k entity_kind.POINT_IN_SPACE);
    lines = lines-in (workplane_of k) (filter (λ e. not (is_normal_by o e)) (needed k entity_kind.LINE));
    frames = planes-in (needed k entity_kind.WORKPLANE ++ option_to_list (workplane_of k));
    axes = turns-in (filter (is_normal_by o) (needed k entity_kind.NORMAL_IN_SPACE));
    rounds = rounds-in (round_plane o k) (needed k entity_kind.ARC);
  }
