-- The definitions on small inputs.
use Rattle.std.specs.Prelude.{◌≡◌, ℕ, pos, negsuc, Bool, true, false, List, [], ◌∷◌, ◌++◌, map, refl}
use Rattle.sk_types.specs.declared.handle.EntityId.{EntityId}
use Rattle.sk_types.specs.declared.handle.ParamId.{ParamId}
use Rattle.sk_types.specs.declared.entity.Entity.{Entity}
use Rattle.sk_types.specs.declared.entity.Numbering.{Numbering}
use Rattle.sk_types.specs.declared.entity.Numbering.TheVariants.{Own, Nothing}
use Rattle.sk_types.specs.declared.constraint.Constraint.{Constraint}
use Rattle.sk_types.specs.declared.constraint.PartKind.{PartKind}
use Rattle.sk_types.specs.declared.constraint.PartKind.TheVariants.{Point, Line, Face, Cubic, ArcOrCubic}
use Rattle.sk_types.specs.declared.constraint.Need.{Need}
use Rattle.sk_types.specs.declared.group.Group.{Group}
use Rattle.sk_types.specs.declared.group.GroupKind.{GroupKind}
use Rattle.sk_types.specs.declared.group.GroupKind.TheVariants.{Space, Extrude, Linked}
use Rattle.sk_types.specs.declared.standing.Standing.TheVariants as standing
use Rattle.sk_types.specs.Standings.{group_standing, request_standing, constraint_standing, is_point_constraint, is_size_constraint, is_direction_constraint, is_symmetry_constraint}
use Rattle.sk_types.specs.Needs.{needs_of, circle_parts, circles_of, part_takes}
use Rattle.sk_types.specs.Params.{unknown_params}
use Rattle.sk_types.specs.Sizes.{auxiliaries, relations, sizes_in, unknowns_of, rows_of}

-- a face's distance, a cubic and its tangent are taken; a line as long as an arc, a closed cubic and a lathe are left out
standings : map constraint_standing (pos 33 ∷ pos 124 ∷ pos 55 ∷ pos 21 ∷ negsuc 0 ∷ []) ++ map request_standing (pos 300 ∷ pos 301 ∷ pos 65836 ∷ []) ++ map group_standing (pos 5300 ∷ pos 5101 ∷ [])
    ≡ standing.Accepted ∷ standing.Accepted ∷ standing.LeftOut ∷ standing.Unknown ∷ standing.Unknown ∷ standing.Accepted ∷ standing.LeftOut ∷ standing.Unknown ∷ standing.Accepted ∷ standing.LeftOut ∷ []
unfolding constraint_standing request_standing group_standing is_point_constraint is_size_constraint is_direction_constraint is_symmetry_constraint
standings = refl

abbrev ids : List ℕ → List EntityId
ids ns = map (λ n. record { 0 = n }) ns

-- which entities a constraint names as what
abbrev parts : ℕ → List (ℕ × PartKind)
parts k = map (λ (n : Need). (n.entity.0, n.part)) (needs_of k (ids (1 ∷ 2 ∷ [])) (ids (11 ∷ 12 ∷ 13 ∷ 14 ∷ [])))

face_parts : parts 33 ≡ (1, Point) ∷ (11, Face) ∷ []
unfolding needs_of
face_parts = refl

cubic_parts : parts 124 ++ parts 125 ≡ (11, Cubic) ∷ (12, Line) ∷ (11, ArcOrCubic) ∷ (12, ArcOrCubic) ∷ []
unfolding needs_of
cubic_parts = refl

-- the parts of a diameter, a tangent arc, two tangent curves, two equal radii and two equal lines that may be arcs
arcs_needed : map (λ k. circle_parts k [] []) (90 ∷ 123 ∷ 125 ∷ 130 ∷ 50 ∷ []) ≡ 1 ∷ 1 ∷ 2 ∷ 2 ∷ 0 ∷ []
unfolding circles_of needs_of part_takes
arcs_needed = refl

-- auxiliaries and relation rows: a face's distance and a point on it; a cubic's tangent in a workplane and in space
abbrev both_sizes : ℕ → Bool → ℕ × ℕ
both_sizes k in_plane = (auxiliaries k in_plane 0, relations k in_plane true)

sizes : both_sizes 33 false ∷ both_sizes 43 false ∷ both_sizes 124 true ∷ both_sizes 124 false ∷ [] ≡ (1, 1) ∷ (0, 1) ∷ (0, 1) ∷ (0, 2) ∷ []
sizes = refl

-- ---- a group of a circle and an arc in space

abbrev entity_of : ℕ → ℕ → ℕ → Numbering 36 → Entity 36
entity_of id kind group numbers = record {
  id = record { 0 = id };
  kind = kind;
  group = record { 0 = group };
  construction = false;
  points = [];
  normal = record { 0 = 0 };
  distance = record { 0 = 0 };
  workplane = record { 0 = 0 };
  numbers = numbers;
}

-- a point of group 2, and one of group 3; a circle and an arc of group 2; that arc's copy in group 3
abbrev drawn : List (Entity 36)
drawn = entity_of 262144 2000 2 (Own (record { 0 = 262160 })) ∷ entity_of 327680 2001 3 (Own (record { 0 = 327696 })) ∷ entity_of 393216 13000 2 Nothing ∷ entity_of 458752 14000 2 Nothing ∷ entity_of 2147680257 14000 3 Nothing ∷ []

abbrev constraint_of : ℕ → ℕ → ℕ → ℕ → ℕ → Constraint 36
constraint_of kind group p a b = record {
  id = record { 0 = 7 };
  kind = kind;
  group = record { 0 = group };
  workplane = record { 0 = 0 };
  value = pos 0;
  points = record { 0 = p } ∷ record { 0 = 0 } ∷ [];
  entities = record { 0 = a } ∷ record { 0 = b } ∷ record { 0 = 0 } ∷ record { 0 = 0 } ∷ [];
  other = false;
  other2 = false;
  reference = false;
}

abbrev group_of : ℕ → GroupKind → ℕ → Group 36
group_of id kind entity_b = record {
  id = record { 0 = id };
  kind = kind;
  order = pos 0;
  active = record { 0 = 0 };
  source = record { 0 = 0 };
  copies = 0;
  two_sided = false;
  skip_first = false;
  by_lines = false;
  quaternion = pos 0 ∷ pos 0 ∷ pos 0 ∷ pos 0 ∷ [];
  origin = record { 0 = 0 };
  entity_b = record { 0 = entity_b };
  entity_c = record { 0 = 0 };
  swap_uv = false;
  negate_u = false;
  negate_v = false;
  scale = pos 0;
  remap = [];
  part = [];
}

-- equal radii of the circle and the arc take one length
equal_radii : sizes_in drawn (constraint_of 130 2 0 393216 458752) ≡ (1, 2)
unfolding circles_of needs_of part_takes
equal_radii = refl

-- what is dragged is fixed in its own group alone; a linked group has seven parameters of its own
unknowns : map (λ (p : ParamId). p.0) (unknown_params (constraint_of 200 2 262144 0 0 ∷ []) drawn (group_of 2 Space 0) ++ unknown_params (constraint_of 200 2 327680 0 0 ∷ []) drawn (group_of 3 Extrude 65536)) ≡ 327696 ∷ 327697 ∷ 2147680256 ∷ 2147680257 ∷ 2147680258 ∷ []
unknowns = refl

-- an arc of a request has a row and its copy none; an extrusion along a workplane's normal has two
abbrev both_counts : Group 36 → ℕ × ℕ
both_counts g = (unknowns_of [] drawn g, rows_of [] drawn g)

counts : both_counts (group_of 2 Space 0) ∷ both_counts (group_of 3 Extrude 65536) ∷ both_counts (group_of 4 Linked 0) ∷ [] ≡ (3, 1) ∷ (5, 2) ∷ (7, 1) ∷ []
counts = refl
