-- Which numbers of groups, requests and constraints are accepted, left out by name, or unknown.
use Rattle.std.specs.Prelude.{◌≡◌, ◌≤◌, ◌*◌, ◌^◌, ℕ, ◌==◌, ◌||◌, ℤ, pos, negsuc, unsigned_abs, Bool, List, [], ◌∷◌, if◌then◌else◌}
use Rattle.sk_types.specs.declared.constraint.Constraint.{Constraint}
use Rattle.sk_types.specs.declared.standing.Standing.{Standing}
use Rattle.sk_types.specs.declared.standing.Standing.TheVariants.{Accepted, LeftOut, Unknown}
use Rattle.sk_types.specs.declared.group_kind.TheConstants as group_kind
use Rattle.sk_types.specs.declared.request_kind.TheConstants as request_kind
use Rattle.sk_types.specs.declared.constraint_kind.TheConstants as kind
use Rattle.sk_types.specs.Lists.{is_among}

-- what is neither accepted nor left out isn't known
abbrev pub standing_of : Bool → Bool → Standing
standing_of accepted left_out = if accepted then Accepted else (if left_out then LeftOut else Unknown)

-- no number below 0 is known
abbrev pub standing_by : (ℕ → Bool) → (ℕ → Bool) → ℤ → Standing
standing_by accepted left_out (pos n) = standing_of (accepted n) (left_out n)
standing_by accepted left_out (negsuc n) = Unknown

abbrev pub is_accepted_group : ℕ → Bool
is_accepted_group n = is_among n
    (group_kind.DRAWING_IN_SPACE ∷ group_kind.DRAWING_IN_WORKPLANE ∷ group_kind.EXTRUSION ∷ group_kind.TRANSLATION ∷ group_kind.LINKED_PART ∷ [])

abbrev pub is_left_out_group : ℕ → Bool
is_left_out_group n = is_among n (group_kind.LATHE ∷ group_kind.REVOLUTION ∷ group_kind.HELIX ∷ group_kind.ROTATION ∷ [])

unfoldable pub group_standing : ℤ → Standing
group_standing n = standing_by is_accepted_group is_left_out_group n

abbrev pub is_accepted_request : ℕ → Bool
is_accepted_request n = is_among n
    (request_kind.WORKPLANE ∷ request_kind.DATUM_POINT ∷ request_kind.LINE ∷ request_kind.CUBIC ∷ request_kind.CIRCLE ∷ request_kind.ARC ∷ [])

abbrev pub is_left_out_request : ℕ → Bool
is_left_out_request n = is_among n (request_kind.CLOSED_CUBIC ∷ request_kind.FONT_TEXT ∷ request_kind.IMAGE ∷ [])

unfoldable pub request_standing : ℤ → Standing
request_standing n = standing_by is_accepted_request is_left_out_request n

-- where points are
abbrev pub point_constraints : List ℕ
point_constraints =
    kind.POINTS_COINCIDENT ∷ kind.POINT_POINT_DISTANCE ∷ kind.POINT_PLANE_DISTANCE ∷ kind.POINT_LINE_DISTANCE ∷ kind.POINT_FACE_DISTANCE
    ∷ kind.PROJECTED_DISTANCE ∷ kind.POINT_IN_PLANE ∷ kind.POINT_ON_LINE ∷ kind.POINT_ON_FACE ∷ kind.POINT_ON_CIRCLE ∷ kind.WHERE_DRAGGED ∷ []

-- how long lines, distances and radii are, and how large angles
abbrev pub size_constraints : List ℕ
size_constraints =
    kind.EQUAL_LENGTHS ∷ kind.LENGTH_RATIO ∷ kind.EQUAL_LENGTH_AND_DISTANCE ∷ kind.EQUAL_DISTANCES ∷ kind.EQUAL_ANGLES
    ∷ kind.LENGTH_DIFFERENCE ∷ kind.DIAMETER ∷ kind.ANGLE ∷ kind.EQUAL_RADII ∷ []

-- which way lines, normals and the ends of curves go
abbrev pub direction_constraints : List ℕ
direction_constraints =
    kind.HORIZONTAL ∷ kind.VERTICAL ∷ kind.SAME_ORIENTATION ∷ kind.PARALLEL ∷ kind.PERPENDICULAR
    ∷ kind.ARC_LINE_TANGENT ∷ kind.CUBIC_LINE_TANGENT ∷ kind.CURVE_CURVE_TANGENT ∷ []

-- what lies in the middle
abbrev pub symmetry_constraints : List ℕ
symmetry_constraints = kind.SYMMETRIC ∷ kind.SYMMETRIC_HORIZONTAL ∷ kind.SYMMETRIC_VERTICAL ∷ kind.SYMMETRIC_LINE ∷ kind.AT_MIDPOINT ∷ []

unfoldable pub is_point_constraint : ℕ → Bool
is_point_constraint n = is_among n point_constraints

unfoldable pub is_size_constraint : ℕ → Bool
is_size_constraint n = is_among n size_constraints

unfoldable pub is_direction_constraint : ℕ → Bool
is_direction_constraint n = is_among n direction_constraints

unfoldable pub is_symmetry_constraint : ℕ → Bool
is_symmetry_constraint n = is_among n symmetry_constraints

abbrev pub is_accepted_constraint : ℕ → Bool
is_accepted_constraint n =
    is_point_constraint n || is_size_constraint n || is_direction_constraint n || is_symmetry_constraint n || n == kind.COMMENT

abbrev pub is_left_out_constraint : ℕ → Bool
is_left_out_constraint n = n == kind.EQUAL_LINE_AND_ARC

unfoldable pub constraint_standing : ℤ → Standing
constraint_standing n = standing_by is_accepted_constraint is_left_out_constraint n

-- an angle is at most a turn
abbrev pub IsInTurn : {s : ℕ} → Constraint s → Type 0
IsInTurn {s} c = c.kind ≡ kind.ANGLE → unsigned_abs c.value ≤ 360 * 2 ^ s
