-- What each constraint needs: its parts in order, and which entities fit them.
use Rattle.std.specs.Prelude.{◌==◌, ℕ, Bool, false, List, [], ◌∷◌, ◌++◌, map, take, length, get_or, Option, Some, None, if◌then◌else◌}
use Rattle.std.specs.List.{filter}
use Rattle.sk_types.specs.declared.constraint.PartKind.{PartKind}
use Rattle.sk_types.specs.declared.constraint.PartKind.TheVariants.{Point, Workplane, Line, Normal, LineOrNormal, Face, Cubic, Arc, ArcOrCubic, CircleOrArc}
use Rattle.sk_types.specs.declared.constraint.Need.{Need}
use Rattle.sk_types.specs.declared.handle.EntityId.{EntityId}
use Rattle.sk_types.specs.declared.entity_kind.TheConstants as entity_kind
use Rattle.sk_types.specs.declared.constraint_kind.TheConstants as kind
use Rattle.sk_types.specs.Kinds.{normals, is_point, is_normal, is_face}
use Rattle.sk_types.specs.Lists.{is_among}

-- whether an entity of this number can stand in the part's place
unfoldable pub part_takes : PartKind → ℕ → Bool
part_takes Point n = is_point n
part_takes Workplane n = n == entity_kind.WORKPLANE
part_takes Line n = n == entity_kind.LINE
part_takes Normal n = is_normal n
part_takes LineOrNormal n = is_among n (entity_kind.LINE ∷ normals)
part_takes Face n = is_face n
part_takes Cubic n = n == entity_kind.CUBIC
part_takes Arc n = n == entity_kind.ARC
part_takes ArcOrCubic n = is_among n (entity_kind.ARC ∷ entity_kind.CUBIC ∷ [])
part_takes CircleOrArc n = is_among n (entity_kind.CIRCLE ∷ entity_kind.ARC ∷ [])

-- ---- the parts that a constraint needs, in order

abbrev need : EntityId → PartKind → Need
need e p = record { entity = e; part = p }

-- the entity that is named in this place, 0 where none is
abbrev pub named : List EntityId → ℕ → EntityId
named es i = get_or es i (record { 0 = 0 })

-- points A and B, and entities A to D, as what they have to be
abbrev pub two_points : List EntityId → List Need
two_points ps = need (named ps 0) Point ∷ need (named ps 1) Point ∷ []

abbrev pub one_point : List EntityId → List Need
one_point ps = need (named ps 0) Point ∷ []

abbrev pub one_of : PartKind → List EntityId → List Need
one_of p es = need (named es 0) p ∷ []

abbrev pub two_of : PartKind → List EntityId → List Need
two_of p es = need (named es 0) p ∷ need (named es 1) p ∷ []

abbrev pub four_of : PartKind → List EntityId → List Need
four_of p es = need (named es 0) p ∷ need (named es 1) p ∷ need (named es 2) p ∷ need (named es 3) p ∷ []

-- a curve that touches a line
abbrev pub curve_and_line : PartKind → List EntityId → List Need
curve_and_line p es = need (named es 0) p ∷ need (named es 1) Line ∷ []

-- a midpoint is that of a line: the point that lies there, or the workplane that goes through it
abbrev pub midpoint_parts : List EntityId → List EntityId → List Need
midpoint_parts ps es = one_of Line es ++ (if (named ps 0).0 == 0 then need (named es 1) Workplane ∷ [] else one_point ps)

-- what is level or upright is a line, or two points
abbrev pub level_parts : List EntityId → List EntityId → List Need
level_parts ps es = if (named es 0).0 == 0 then two_points ps else one_of Line es

-- by the constraint's number, its points A and B, and its entities A to D
unfoldable pub needs_of : ℕ → List EntityId → List EntityId → List Need
needs_of k ps es =
    if is_among k (kind.POINTS_COINCIDENT ∷ kind.POINT_POINT_DISTANCE ∷ kind.SYMMETRIC_HORIZONTAL ∷ kind.SYMMETRIC_VERTICAL ∷ []) then two_points ps else
    if is_among k (kind.POINT_PLANE_DISTANCE ∷ kind.POINT_IN_PLANE ∷ []) then one_point ps ++ one_of Workplane es else
    if is_among k (kind.POINT_LINE_DISTANCE ∷ kind.POINT_ON_LINE ∷ []) then one_point ps ++ one_of Line es else
    if is_among k (kind.POINT_FACE_DISTANCE ∷ kind.POINT_ON_FACE ∷ []) then one_point ps ++ one_of Face es else
    if k == kind.PROJECTED_DISTANCE then two_points ps ++ one_of LineOrNormal es else
    if is_among k (kind.EQUAL_LENGTHS ∷ kind.LENGTH_RATIO ∷ kind.LENGTH_DIFFERENCE ∷ []) then two_of Line es else
    if k == kind.EQUAL_LENGTH_AND_DISTANCE then one_point ps ++ two_of Line es else
    if k == kind.EQUAL_DISTANCES then two_points ps ++ two_of Line es else
    if k == kind.EQUAL_ANGLES then four_of LineOrNormal es else
    if k == kind.SYMMETRIC then two_points ps ++ one_of Workplane es else
    if k == kind.SYMMETRIC_LINE then two_points ps ++ one_of Line es else
    if k == kind.AT_MIDPOINT then midpoint_parts ps es else
    if is_among k (kind.HORIZONTAL ∷ kind.VERTICAL ∷ []) then level_parts ps es else
    if k == kind.DIAMETER then one_of CircleOrArc es else
    if k == kind.POINT_ON_CIRCLE then one_point ps ++ one_of CircleOrArc es else
    if k == kind.SAME_ORIENTATION then two_of Normal es else
    if is_among k (kind.ANGLE ∷ kind.PARALLEL ∷ kind.PERPENDICULAR ∷ []) then two_of LineOrNormal es else
    if k == kind.ARC_LINE_TANGENT then curve_and_line Arc es else
    if k == kind.CUBIC_LINE_TANGENT then curve_and_line Cubic es else
    if k == kind.CURVE_CURVE_TANGENT then two_of ArcOrCubic es else
    if k == kind.EQUAL_RADII then two_of CircleOrArc es else
    if k == kind.WHERE_DRAGGED then one_point ps else []

-- the parts, and None behind the last, four in all
abbrev pub filled_up : List Need → List (Option Need)
filled_up ns = take 4 (map Some ns ++ None ∷ None ∷ None ∷ None ∷ [])

-- whether an entity of this number fits a needed part that is there
abbrev pub fits_part : Option Need → ℕ → Bool
fits_part None n = false
fits_part (Some p) n = part_takes p.part n

-- ---- circles and arcs

-- the needed parts in whose place an arc can stand
unfoldable pub circles_of : ℕ → List EntityId → List EntityId → List Need
circles_of k ps es = filter (λ (n : Need). part_takes n.part entity_kind.ARC) (needs_of k ps es)

-- how many they are
abbrev pub circle_parts : ℕ → List EntityId → List EntityId → ℕ
circle_parts k ps es = length (circles_of k ps es)
