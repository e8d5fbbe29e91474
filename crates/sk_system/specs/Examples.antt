-- Worked systems by computation, with 16 units for 1: what is seen of them at a point.
use Rattle.std.specs.Prelude.{◌≡◌, ◌^◌, ℕ, ℤ, pos, true, false, List, [], ◌∷◌, map, length, Option, Some, None, option_map, refl}
use Rattle.sk_types.specs.declared.constraint.Constraint.{Constraint}
use Rattle.sk_types.specs.declared.constraint_kind.TheConstants as kind
use Rattle.sk_types.specs.declared.entity.Act.{Act}
use Rattle.sk_types.specs.declared.entity.Entity.{Entity}
use Rattle.sk_types.specs.declared.entity.Numbering.{Numbering}
use Rattle.sk_types.specs.declared.entity.Numbering.TheVariants.{Own, Moved, Nothing}
use Rattle.sk_types.specs.declared.entity.Numbers.{Numbers}
use Rattle.sk_types.specs.declared.group.Group.{Group}
use Rattle.sk_types.specs.declared.group.GroupKind.{GroupKind}
use Rattle.sk_types.specs.declared.group.GroupKind.TheVariants.{Space, Extrude, Linked}
use Rattle.sk_types.specs.Needs.{needs_of, part_takes}
use Rattle.sk_expr.specs.declared.row.RowKind.{RowKind}
use Rattle.sk_expr.specs.declared.row.RowKind.TheVariants.{OfGroup, OfConstraint}
use Rattle.sk_expr.specs.declared.row.RowName.{RowName}
use Rattle.sk_expr.specs.Rows.{NamedRow}
use Rattle.sk_expr.specs.Seen.{Seen}
use Rattle.sk_expr.specs.SpanValue.{span_value}
use Rattle.sk_expr.specs.Vectors.{vector_sum, vector_difference, scaled, dot, squared}
use Rattle.sk_expr.specs.Parts.{line_at, frame_at, round_at, point_at, end_at, line_vector}
use Rattle.sk_expr.specs.Readings.{reading, floor_root, grown_by}
use Rattle.sk_geom.specs.Sources.{param_tree, three_params, four_params, group_vector, group_quaternion, act_numbers}
use Rattle.sk_geom.specs.Quaternions.{quaternion_axes}
use Rattle.sk_geom.specs.EntityTrees.{moved_point, space_point, space_normal, point_named, normal_named, frame, point_tree, distance_tree}
use Rattle.sk_eq_points.specs.PointRows.{height_over, over_plane, in_plane, point_rows}
use Rattle.sk_eq_lines.specs.LineRows.{line_formula, in_angle, first_direction, direction_at, normals_before, is_normal_at}
use Rattle.sk_eq_curves.specs.CurveRows.{radius_auxiliaries, radius_of, diameter, curve_formula}
use Rattle.sk_system.specs.ByHandle.{point_by, frame_by, distance_by}
use Rattle.sk_system.specs.Shares.{constraint_group, list_at, of_group}
use Rattle.sk_system.specs.ConstraintParts.{needed, line_by, round_by, constraint_parts}
use Rattle.sk_system.specs.Formulas.{constraint_formula}
use Rattle.sk_system.specs.OwnRows.{own_numbers, unit_row, entity_row_trees, group_row_trees}
use Rattle.sk_system.specs.GroupSystem.{group_system, seen_at, acts_at}

-- ---- groups, entities and constraints

abbrev entity : ℕ → ℕ → ℕ → List ℕ → ℕ → ℕ → ℕ → Numbering 4 → Entity 4
entity id kind group points normal distance workplane numbers = record {
  id = record { 0 = id };
  kind = kind;
  group = record { 0 = group };
  construction = false;
  points = map (λ p. record { 0 = p }) points;
  normal = record { 0 = normal };
  distance = record { 0 = distance };
  workplane = record { 0 = workplane };
  numbers = numbers;
}

abbrev own : ℕ → Numbering 4
own p = Own (record { 0 = p })

-- XY, with its origin and its normal, in group 1
abbrev behind : List (Entity 4) → List (Entity 4)
behind es = entity 65536 10000 1 (65537 ∷ []) 65568 0 0 Nothing ∷ entity 65537 2000 1 [] 0 0 0 (own 65552) ∷ entity 65568 3000 1 [] 0 0 0 (own 65568) ∷ es

abbrev numbers : Numbers 4
numbers = record {
  params = [];
  acts =
      record { entity = record { 0 = 65537 }; values = pos 0 ∷ pos 0 ∷ pos 0 ∷ pos 0 ∷ [] }
      ∷ record { entity = record { 0 = 65568 }; values = pos 16 ∷ pos 0 ∷ pos 0 ∷ pos 0 ∷ [] }
      ∷ record { entity = record { 0 = 131073 }; values = pos 0 ∷ pos 0 ∷ pos 0 ∷ pos 0 ∷ [] }
      ∷ record { entity = record { 0 = 131074 }; values = pos 48 ∷ pos 64 ∷ pos 0 ∷ pos 0 ∷ [] }
      ∷ record { entity = record { 0 = 196609 }; values = pos 0 ∷ pos 0 ∷ pos 0 ∷ pos 0 ∷ [] }
      ∷ record { entity = record { 0 = 196610 }; values = pos 32 ∷ pos 0 ∷ pos 0 ∷ pos 0 ∷ [] } ∷ [];
}

-- group 2; what it goes along is XY
abbrev group : GroupKind → ℕ → Group 4
group kind plane = record {
  id = record { 0 = 2 };
  kind = kind;
  order = pos 2;
  active = record { 0 = 0 };
  source = record { 0 = 0 };
  copies = 0;
  two_sided = false;
  skip_first = false;
  by_lines = false;
  quaternion = pos 16 ∷ pos 0 ∷ pos 0 ∷ pos 0 ∷ [];
  origin = record { 0 = 0 };
  entity_b = record { 0 = plane };
  entity_c = record { 0 = 0 };
  swap_uv = false;
  negate_u = false;
  negate_v = false;
  scale = pos 16;
  remap = [];
  part = [];
}

abbrev constraint : ℕ → ℕ → ℤ → ℕ → ℕ → Constraint 4
constraint id k value p a = record {
  id = record { 0 = id };
  kind = k;
  group = record { 0 = 2 };
  workplane = record { 0 = 0 };
  value = value;
  points = record { 0 = p } ∷ record { 0 = 0 } ∷ [];
  entities = record { 0 = a } ∷ record { 0 = 0 } ∷ record { 0 = 0 } ∷ record { 0 = 0 } ∷ [];
  other = false;
  other2 = false;
  reference = false;
}

-- ---- what is seen

-- the numbers of unknowns, and of each row its name and what it reads
record Shown : Type 0 where
  unknowns : List ℤ
  names : List RowName
  reads : List (Option ℤ)
  forced : ℕ

abbrev shown : Seen → Shown
shown seen = record {
  unknowns = seen.unknowns;
  names = map (λ (r : NamedRow). r.name) seen.rows;
  reads = map (λ (r : NamedRow). reading 4 seen r.tree) seen.rows;
  forced = length seen.forced;
}

abbrev named : RowKind → ℕ → ℕ → RowName
named kind handle index = record { kind = kind; handle = handle; index = index }

abbrev at : Group 4 → List (Entity 4) → List (Constraint 4) → List ℤ → Option Shown
at g es cs xs = option_map shown (seen_at 4 (group_system g (behind es) cs numbers) xs)

-- an extrusion goes along XY's normal: its vector (1, 2, 5) reads 1 along U and 2 along V
extrusion : at (group Extrude 65536) [] [] (pos 16 ∷ pos 32 ∷ pos 80 ∷ []) ≡ Some (record {
  unknowns = pos 16 ∷ pos 32 ∷ pos 80 ∷ [];
  names = named OfGroup 2 0 ∷ named OfGroup 2 1 ∷ [];
  reads = Some (pos 16) ∷ Some (pos 32) ∷ [];
  forced = 0;
})
unfolding group_system seen_at own_numbers entity_row_trees group_row_trees frame_by frame point_named normal_named space_point space_normal act_numbers quaternion_axes group_vector three_params param_tree dot span_value
extrusion = refl

-- with no workplane it goes anywhere
free-extrusion : at (group Extrude 0) [] [] (pos 16 ∷ pos 32 ∷ pos 80 ∷ []) ≡ Some (record { unknowns = pos 16 ∷ pos 32 ∷ pos 80 ∷ []; names = []; reads = []; forced = 0 })
unfolding group_system seen_at own_numbers entity_row_trees group_row_trees param_tree
free-extrusion = refl

-- a linked part's quaternion has length 1: (1, 2, 0, 0) reads 4 too much
linked-part : at (group Linked 0) [] [] (pos 16 ∷ pos 32 ∷ pos 80 ∷ pos 16 ∷ pos 32 ∷ pos 0 ∷ pos 0 ∷ []) ≡ Some (record {
  unknowns = pos 16 ∷ pos 32 ∷ pos 80 ∷ pos 16 ∷ pos 32 ∷ pos 0 ∷ pos 0 ∷ [];
  names = named OfGroup 2 0 ∷ [];
  reads = Some (pos 64) ∷ [];
  forced = 0;
})
unfolding group_system seen_at own_numbers entity_row_trees group_row_trees unit_row group_quaternion four_params param_tree squared dot span_value
linked-part = refl

-- a point in space, request 5 of group 2, lies 3 over XY: at (1, 2, 5) it is 2 too high
abbrev spatial : List (Entity 4)
spatial = entity 327680 2000 2 [] 0 0 0 (own 327696) ∷ []

point-over-plane : at (group Space 0) spatial (constraint 7 kind.POINT_PLANE_DISTANCE (pos 48) 327680 65536 ∷ []) (pos 16 ∷ pos 32 ∷ pos 80 ∷ []) ≡ Some (record {
  unknowns = pos 16 ∷ pos 32 ∷ pos 80 ∷ [];
  names = named OfConstraint 7 0 ∷ [];
  reads = Some (pos 32) ∷ [];
  forced = 0;
})
unfolding group_system seen_at own_numbers entity_row_trees group_row_trees grown_by constraint_formula constraint_parts needed needs_of part_takes point_rows over_plane height_over point_at frame_at point_by frame_by frame point_named normal_named space_point space_normal point_tree act_numbers quaternion_axes three_params param_tree vector_difference dot span_value
point-over-plane = refl

-- a circle of radius 3, where 4 is the diameter that is asked for, reads 2 too much
abbrev circle : List (Entity 4)
circle =
    entity 393216 13000 2 (393217 ∷ []) 65568 393280 0 Nothing ∷ entity 393217 2000 2 [] 0 0 0 (own 393232)
    ∷ entity 393280 4000 2 [] 0 0 0 (own 393280) ∷ []

circle-diameter : at (group Space 0) circle (constraint 7 kind.DIAMETER (pos 64) 0 393216 ∷ []) (pos 0 ∷ pos 0 ∷ pos 0 ∷ pos 48 ∷ []) ≡ Some (record {
  unknowns = pos 0 ∷ pos 0 ∷ pos 0 ∷ pos 48 ∷ [];
  names = named OfConstraint 7 0 ∷ [];
  reads = Some (pos 32) ∷ [];
  forced = 0;
})
unfolding group_system seen_at own_numbers entity_row_trees group_row_trees grown_by constraint_formula constraint_parts needed needs_of part_takes curve_formula diameter radius_auxiliaries radius_of round_at round_by distance_by distance_tree space_point point_tree three_params param_tree span_value
circle-diameter = refl

-- an angle of 60 degrees between two lines of lengths 5 and 2: two lengths with their rows first, a cosine, and the angle's row
abbrev placed : ℕ → Entity 4
placed id = entity id 2000 1 [] 0 0 0 (own id)

abbrev lines : List (Entity 4)
lines = entity 131072 11000 1 (131073 ∷ 131074 ∷ []) 0 0 0 Nothing ∷ entity 196608 11000 1 (196609 ∷ 196610 ∷ []) 0 0 0 Nothing ∷ placed 131073 ∷ placed 131074 ∷ placed 196609 ∷ placed 196610 ∷ []

abbrev between : Constraint 4
between = let c = constraint 7 kind.ANGLE (pos 960) 0 131072 in record c { entities = record { 0 = 131072 } ∷ record { 0 = 196608 } ∷ record { 0 = 0 } ∷ record { 0 = 0 } ∷ [] }

abbrev at_angle : Option Seen
at_angle = seen_at 4 (group_system (group Space 0) (behind lines) (between ∷ []) numbers) []

angle-60 :
    (option_map (λ (x : Seen). x.unknowns) at_angle ≡ Some (pos 80 ∷ pos 32 ∷ []))
    × (option_map (λ (x : Seen). map (λ (r : NamedRow). r.name) x.rows) at_angle ≡ Some (named OfConstraint 7 255 ∷ named OfConstraint 7 255 ∷ named OfConstraint 7 0 ∷ []))
    × (option_map (λ (x : Seen). x.forced) at_angle ≡ Some (record { row = 0; column = 0; is_length = true } ∷ record { row = 1; column = 1; is_length = true } ∷ []))
    × (option_map (λ (x : Seen). length x.cosines) at_angle ≡ Some 1)
unfolding group_system seen_at own_numbers entity_row_trees group_row_trees grown_by constraint_formula constraint_parts needed needs_of part_takes line_formula in_angle first_direction direction_at normals_before is_normal_at line_at line_by line_vector end_at point_by space_point point_tree act_numbers three_params param_tree vector_difference floor_root span_value
angle-60 = (refl, refl, refl, refl)

-- constraints stand in the order of the file, whatever their handles
in-order : option_map (λ (x : Shown). x.names) (at (group Space 0) spatial (constraint 9 kind.POINT_IN_PLANE (pos 0) 327680 65536 ∷ constraint 7 kind.POINT_PLANE_DISTANCE (pos 48) 327680 65536 ∷ []) (pos 16 ∷ pos 32 ∷ pos 80 ∷ []))
    ≡ Some (named OfConstraint 9 0 ∷ named OfConstraint 7 0 ∷ [])
unfolding group_system seen_at own_numbers entity_row_trees group_row_trees grown_by constraint_formula constraint_parts needed needs_of part_takes point_rows over_plane in_plane height_over point_at frame_at point_by frame_by frame point_named normal_named space_point space_normal point_tree act_numbers quaternion_axes three_params param_tree vector_difference dot span_value
in-order = refl

-- a point that stays where it was dragged to has no unknowns
dragged : option_map (λ (x : Shown). x.unknowns) (at (group Space 0) spatial (constraint 7 kind.WHERE_DRAGGED (pos 0) 327680 0 ∷ []) []) ≡ Some []
unfolding group_system seen_at own_numbers entity_row_trees group_row_trees grown_by constraint_formula point_tree space_point three_params param_tree span_value
dragged = refl

-- a number past the limit is no system: that of a point moved by three times the vector
past-limit : at (group Extrude 0) (entity 393217 2010 2 [] 0 0 0 (Moved (record { 0 = 131074 }) (pos 3)) ∷ []) [] (pos (2 ^ 62) ∷ pos 0 ∷ pos 0 ∷ []) ≡ None
unfolding group_system seen_at own_numbers entity_row_trees group_row_trees point_tree space_point moved_point act_numbers group_vector three_params param_tree vector_sum scaled span_value
past-limit = refl

-- ---- what is read

-- the numbers, with the first number of the point stored too
abbrev stored : ℤ → Numbers 4
stored v = record numbers { params = record { id = record { 0 = 327696 }; value = v } ∷ [] }

-- where an unknown stood isn't read
unread : group_system (group Space 0) (behind spatial) [] (stored (pos 0)) ≡ group_system (group Space 0) (behind spatial) [] (stored (pos 144))
unfolding group_system own_numbers entity_row_trees group_row_trees point_tree space_point three_params param_tree
unread = refl

-- a point that stays where it was dragged to is read there
left : map (λ (a : Act 4). a.values) (acts_at (group_system (group Space 0) (behind spatial) (constraint 7 kind.WHERE_DRAGGED (pos 0) 327680 0 ∷ []) (stored (pos 144))) [])
    ≡ (pos 144 ∷ pos 0 ∷ pos 0 ∷ pos 0 ∷ []) ∷ []
unfolding group_system acts_at own_numbers entity_row_trees group_row_trees constraint_formula point_tree space_point three_params param_tree span_value
left = refl

-- ---- what belongs to a group

abbrev constraint_in : ℕ → ℕ → Constraint 4
constraint_in g id = let c = constraint id kind.POINT_IN_PLANE (pos 0) 327680 65536 in record c { group = record { 0 = g } }

-- those of group 2, in the order of the file, whatever their handles
parted : map (λ (c : Constraint 4). c.id.0) (of_group constraint_group 2 (constraint_in 2 9 ∷ constraint_in 3 8 ∷ constraint_in 2 7 ∷ constraint_in 1 6 ∷ [])) ≡ 9 ∷ 7 ∷ []
parted = refl

-- a group without a list has nothing
none-at : list_at {X = ℕ} ([] ∷ (5 ∷ []) ∷ []) 2 ≡ []
none-at = refl
