-- Worked rows of drawings, by computation, on the plain grid unless a row says otherwise.
use Rattle.std.specs.Prelude.{◌≡◌, ℕ, ◌*◌, ◌^◌, ℤ, pos, neg_ℤ, Bool, true, false, List, [], ◌∷◌, ◌++◌, map, codes, Some, None, Ok, Err, refl}
use Rattle.std.specs.List.{flat_map}
use Rattle.std.specs.Fmt.{digits}
use Rattle.sk_num.specs.Numerals.{padded}
use Rattle.sk_num.specs.Decimals.{decimal_text}
use Rattle.sk_num.specs.Spelling.{quantity_text}
use Rattle.sk_types.specs.declared.handle.EntityId.{EntityId}
use Rattle.sk_types.specs.declared.entity.Entity.{Entity}
use Rattle.sk_types.specs.declared.entity.Act.{Act}
use Rattle.sk_types.specs.declared.entity.Numbering.TheVariants.{Nothing}
use Rattle.sk_types.specs.declared.entity_kind.TheConstants as entity_kind
use Rattle.sk_types.specs.Handles.{item_of_request, item_of_group}
use Rattle.sk_expr.specs.Vectors.{vector_difference, dot}
use Rattle.sk_expr.specs.SpanValue.{span_value}
use Rattle.sk_expr.specs.Readings.{floor_root}
use Rattle.sk_geom.specs.Quaternions.{quaternion_axes}
use Rattle.sk_geom.specs.LineFrame.{rounded_minor}
use Rattle.sk_cubic.specs.CurvePoint.{curve_number, curve_point}
use Rattle.sk_dxf.specs.declared.shape.Shape.{Shape}
use Rattle.sk_dxf.specs.declared.shape.Shape.TheVariants.{Point, Circle, Arc, Cubic}
use Rattle.sk_dxf.specs.declared.shape.LeftOut.TheVariants.{Construction, NotDatum, NoCurve, Tilted, ExtraPoints, NotLevel}
use Rattle.sk_dxf.specs.Plane.{PlaneNumbers, drawing_plane, plane_numbers, coordinates, leaning, facing}
use Rattle.sk_dxf.specs.Bulge.{spoke, rounded_pair, ratio, clamped, sweep_cosine, half_cosine, half_sine, quarter_tangent, bulge_between, bulge}
use Rattle.sk_dxf.specs.Shapes.{line_shape, point_shape, circle_shape, bulged, arc_shape, if_level, cubic_shape, shape_by_kind, shape_of, all_places}
use Rattle.sk_dxf.specs.Lines.{quantity_lines, first_place, second_place, line_text, point_text, circle_text, vertex, bulged_vertex, arc_text, cubic_text, polyline, sequence_end, shape_text}
use Rattle.sk_dxf.specs.Drawing.{entity_text, entity_texts, group_drawing}

abbrev handle_of : ℕ → EntityId
handle_of n = record { 0 = n }

-- an entity of group 2: handle, number, whether it is for construction, points, normal and distance
abbrev entity : {s : ℕ} → ℕ → ℕ → Bool → List ℕ → ℕ → ℕ → Entity s
entity h k c ps n d = record {
  id = handle_of h;
  kind = k;
  group = record { 0 = 2 };
  construction = c;
  points = map handle_of ps;
  normal = handle_of n;
  distance = handle_of d;
  workplane = handle_of 0;
  numbers = Nothing;
}

abbrev act : {s : ℕ} → ℕ → ℤ → ℤ → ℤ → ℤ → Act s
act h w x y z = record { entity = handle_of h; values = w ∷ x ∷ y ∷ z ∷ [] }

-- n and -n millimetres
abbrev whole : ℕ → ℤ
whole n = pos (n * 2 ^ 36)

abbrev less : ℕ → ℤ
less n = neg_ℤ (whole n)

-- item i of request 1, whose workplane is XY, and of request 4
abbrev first : ℕ → ℕ
first i = item_of_request 1 i

abbrev fourth : ℕ → ℕ
fourth i = item_of_request 4 i

abbrev xy : Entity 36
xy = let e : Entity 36 = entity (first 0) entity_kind.WORKPLANE false (first 1 ∷ []) (first 32) 0 in record e { group = record { 0 = 1 } }

-- XY at the origin, with the quaternion (1, 0, 0, 0)
abbrev xy_acts : List (Act 36)
xy_acts = act (first 1) (pos 0) (pos 0) (pos 0) (pos 0) ∷ act (first 32) (whole 1) (pos 0) (pos 0) (pos 0) ∷ []

abbrev at : ℕ → ℕ → ℕ → Act 36
at i u v = act (fourth i) (whole u) (whole v) (pos 0) (pos 0)

abbrev flat : PlaneNumbers
flat = plane_numbers xy_acts (Some xy)

-- ---- a line from (0, 0) to (10, 0)

pub line-drawing :
    group_drawing (xy ∷ entity (fourth 0) entity_kind.LINE false (fourth 1 ∷ fourth 2 ∷ []) 0 0 ∷ [])
    (xy_acts ++ (at 1 0 0 ∷ at 2 10 0 ∷ [])) 2 (handle_of 0)
    ≡ codes "0\nSECTION\n2\nENTITIES\n0\nLINE\n8\n0\n10\n0.00000000000000000000\n20\n0.00000000000000000000\n30\n0.00000000000000000000\n"
    ++ codes "11\n10.00000000000000000000\n21\n0.00000000000000000000\n31\n0.00000000000000000000\n0\nENDSEC\n0\nEOF\n"
unfolding digits padded quantity_text decimal_text vector_difference dot span_value quaternion_axes coordinates line_shape shape_by_kind shape_of quantity_lines first_place second_place line_text entity_text entity_texts group_drawing
line-drawing = refl

-- another group draws nothing of it
pub empty-drawing :
    group_drawing (xy ∷ entity (fourth 0) entity_kind.LINE false (fourth 1 ∷ fourth 2 ∷ []) 0 0 ∷ []) (xy_acts ++ (at 1 0 0 ∷ at 2 10 0 ∷ [])) 3 (handle_of 0)
    ≡ codes "0\nSECTION\n2\nENTITIES\n0\nENDSEC\n0\nEOF\n"
unfolding entity_text entity_texts group_drawing
empty-drawing = refl

-- ---- the plane

-- what isn't a workplane counts as none: XY is taken
pub planes :
    (drawing_plane (xy ∷ entity (fourth 0) entity_kind.LINE false [] 0 0 ∷ []) (handle_of (fourth 0)) ≡ Some xy)
    × (drawing_plane (xy ∷ []) (handle_of 0) ≡ Some xy)
    × (drawing_plane (xy ∷ entity (fourth 0) entity_kind.WORKPLANE false [] 0 0 ∷ []) (handle_of (fourth 0)) ≡ Some (entity (fourth 0) entity_kind.WORKPLANE false [] 0 0))
planes = (refl, refl, refl)

-- in the plane through (1, 2, 3) that is turned upside down about the first axis, (4, 6, 8) is at (3, -4) and 5 below it
pub upside-down : coordinates 36 (record { origin = whole 1 ∷ whole 2 ∷ whole 3 ∷ pos 0 ∷ []; normal = pos 0 ∷ whole 1 ∷ pos 0 ∷ pos 0 ∷ [] }) (whole 4 ∷ whole 6 ∷ whole 8 ∷ pos 0 ∷ [])
    ≡ Some (whole 3 ∷ less 4 ∷ less 5 ∷ [])
unfolding vector_difference dot span_value quaternion_axes coordinates
upside-down = refl

-- past the limit: 8 000 along and a normal of length 10 000
pub past-the-limit : coordinates 36 (record { origin = pos 0 ∷ pos 0 ∷ pos 0 ∷ pos 0 ∷ []; normal = whole 100 ∷ pos 0 ∷ pos 0 ∷ pos 0 ∷ [] }) (whole 8000 ∷ pos 0 ∷ pos 0 ∷ pos 0 ∷ []) ≡ None
unfolding vector_difference dot span_value quaternion_axes coordinates
past-the-limit = refl

-- ---- arcs

abbrev place : ℤ → ℤ → List ℤ
place u v = u ∷ v ∷ pos 0 ∷ []

-- half a turn has the bulge 1; on the finer grid too
pub half-turn :
    (bulge 36 false (place (pos 0) (pos 0)) (place (whole 1) (pos 0)) (place (less 1) (pos 0)) ≡ Some (whole 1))
    × (bulge 44 false (place (pos 0) (pos 0)) (place (pos (2 ^ 44)) (pos 0)) (place (neg_ℤ (pos (2 ^ 44))) (pos 0)) ≡ Some (pos (2 ^ 44)))
unfolding floor_root rounded_minor spoke rounded_pair ratio clamped sweep_cosine half_cosine half_sine quarter_tangent bulge_between bulge
half-turn = (refl, refl)

-- a quarter of a turn, and the other three quarters; clockwise where the normal goes against the plane's
pub quarter-turns :
    (bulge 36 false (place (pos 0) (pos 0)) (place (whole 1) (pos 0)) (place (pos 0) (whole 1)) ≡ Some (pos 28464539263))
    × (bulge 36 false (place (pos 0) (pos 0)) (place (pos 0) (whole 1)) (place (whole 1) (pos 0)) ≡ Some (pos 165903492736))
    × (bulge 36 true (place (pos 0) (pos 0)) (place (pos 0) (whole 1)) (place (whole 1) (pos 0)) ≡ Some (neg_ℤ (pos 28464539263)))
    × (bulge 36 true (place (pos 0) (pos 0)) (place (whole 1) (pos 0)) (place (pos 0) (whole 1)) ≡ Some (neg_ℤ (pos 165903492736)))
unfolding floor_root rounded_minor spoke rounded_pair ratio clamped sweep_cosine half_cosine half_sine quarter_tangent bulge_between bulge
quarter-turns = (refl, refl, refl, refl)

-- without a radius, and with the start as the end
pub no-bulge :
    (bulge 36 false (place (whole 1) (pos 0)) (place (whole 1) (pos 0)) (place (pos 0) (whole 1)) ≡ None)
    × (bulge 36 false (place (pos 0) (pos 0)) (place (whole 1) (pos 0)) (place (whole 1) (pos 0)) ≡ None)
unfolding floor_root rounded_minor spoke rounded_pair ratio clamped sweep_cosine half_cosine half_sine quarter_tangent bulge_between bulge
no-bulge = (refl, refl)

abbrev arc : Entity 36
arc = entity (fourth 0) entity_kind.ARC false (fourth 1 ∷ fourth 2 ∷ fourth 3 ∷ []) (fourth 32) 0

-- the arc from (1, 0) to (-1, 0) about the origin, over a normal with the quaternion (w, x, 0, 0)
abbrev arc_acts : ℤ → ℤ → List (Act 36)
arc_acts w x = at 1 0 0 ∷ at 2 1 0 ∷ act (fourth 3) (less 1) (pos 0) (pos 0) (pos 0) ∷ act (fourth 32) w x (pos 0) (pos 0) ∷ []

pub arc-shapes :
    (shape_of flat (arc_acts (whole 1) (pos 0)) arc ≡ Ok (Arc (place (whole 1) (pos 0)) (place (less 1) (pos 0)) (whole 1)))
    × (shape_of flat (arc_acts (pos 0) (whole 1)) arc ≡ Ok (Arc (place (whole 1) (pos 0)) (place (less 1) (pos 0)) (less 1)))
unfolding floor_root vector_difference dot span_value quaternion_axes coordinates leaning facing rounded_minor spoke rounded_pair ratio clamped sweep_cosine half_cosine half_sine quarter_tangent bulge_between bulge bulged all_places arc_shape shape_by_kind shape_of
arc-shapes = (refl, refl)

pub arc-text : shape_text (let a : Shape 36 = Arc (place (whole 1) (pos 0)) (place (less 1) (pos 0)) (whole 1) in a)
    ≡ codes "0\nPOLYLINE\n8\n0\n66\n1\n70\n0\n0\nVERTEX\n8\n0\n10\n1.00000000000000000000\n20\n0.00000000000000000000\n30\n0.00000000000000000000\n42\n1.00000000000000000000\n"
    ++ codes "0\nVERTEX\n8\n0\n10\n-1.00000000000000000000\n20\n0.00000000000000000000\n30\n0.00000000000000000000\n0\nSEQEND\n"
unfolding digits padded quantity_text decimal_text quantity_lines first_place vertex bulged_vertex arc_text
arc-text = refl

-- ---- circles

abbrev circle : Entity 36
circle = entity (fourth 0) entity_kind.CIRCLE false (fourth 1 ∷ []) (fourth 32) (fourth 64)

abbrev circle_acts : ℤ → ℤ → List (Act 36)
circle_acts w x = at 1 3 4 ∷ act (fourth 32) w x (pos 0) (pos 0) ∷ act (fourth 64) (whole 5) (pos 0) (pos 0) (pos 0) ∷ []

-- straight on the plane; leaning by 2^-20, the most; leaning by one unit more
pub circle-shapes :
    (shape_of flat (circle_acts (whole 1) (pos 0)) circle ≡ Ok (Circle (place (whole 3) (whole 4)) (whole 5)))
    × (shape_of flat (circle_acts (whole 1) (pos 32768)) circle ≡ Ok (Circle (place (whole 3) (whole 4)) (whole 5)))
    × (shape_of flat (circle_acts (whole 1) (pos 32769)) circle ≡ Err Tilted)
unfolding vector_difference dot span_value quaternion_axes coordinates leaning circle_shape shape_by_kind shape_of
circle-shapes = (refl, refl, refl)

pub circle-text : shape_text (let c : Shape 36 = Circle (place (whole 3) (whole 4)) (whole 5) in c)
    ≡ codes "0\nCIRCLE\n8\n0\n10\n3.00000000000000000000\n20\n4.00000000000000000000\n30\n0.00000000000000000000\n40\n5.00000000000000000000\n"
unfolding digits padded quantity_text decimal_text quantity_lines first_place circle_text
circle-text = refl

-- ---- points

-- a datum point; a point of a curve; a copy of a point; a normal; a line for construction
pub points :
    (shape_of flat (at 0 1 2 ∷ []) (entity (fourth 0) entity_kind.POINT_IN_WORKPLANE false [] 0 0) ≡ Ok (Point (place (whole 1) (whole 2))))
    × (shape_of flat (at 1 1 2 ∷ []) (entity (fourth 1) entity_kind.POINT_IN_WORKPLANE false [] 0 0) ≡ Err NotDatum)
    × (shape_of flat xy_acts (entity (item_of_group 3 0) entity_kind.MOVED_POINT false [] 0 0) ≡ Err NotDatum)
    × (shape_of flat xy_acts (entity (fourth 32) entity_kind.NORMAL_IN_SPACE false [] 0 0) ≡ Err NoCurve)
    × (shape_of flat (at 1 0 0 ∷ at 2 10 0 ∷ []) (entity (fourth 0) entity_kind.LINE true (fourth 1 ∷ fourth 2 ∷ []) 0 0) ≡ Err Construction)
unfolding vector_difference dot span_value quaternion_axes coordinates point_shape shape_by_kind shape_of
points = (refl, refl, refl, refl, refl)

pub point-text : shape_text (let p : Shape 36 = Point (place (whole 1) (whole 2)) in p)
    ≡ codes "0\nPOINT\n8\n0\n10\n1.00000000000000000000\n20\n2.00000000000000000000\n30\n0.00000000000000000000\n"
unfolding digits padded quantity_text decimal_text quantity_lines first_place point_text
point-text = refl

-- ---- cubics

-- (0, 0), (0, 8), (8, 8), (8, 0)
abbrev control : List (List ℤ)
control = place (pos 0) (pos 0) ∷ place (pos 0) (whole 8) ∷ place (whole 8) (whole 8) ∷ place (whole 8) (pos 0) ∷ []

abbrev cubic : List ℕ → Entity 36
cubic ps = entity (fourth 0) entity_kind.CUBIC false ps 0 0

-- the last control point at a height over the plane
abbrev cubic_acts : ℤ → List (Act 36)
cubic_acts z = at 1 0 0 ∷ at 2 0 8 ∷ at 3 8 8 ∷ act (fourth 4) (whole 8) (pos 0) z (pos 0) ∷ []

pub cubic-shapes :
    (shape_of flat (cubic_acts (pos 0)) (cubic (fourth 1 ∷ fourth 2 ∷ fourth 3 ∷ fourth 4 ∷ [])) ≡ Ok (Cubic control))
    × (shape_of flat (cubic_acts (pos 1)) (cubic (fourth 1 ∷ fourth 2 ∷ fourth 3 ∷ fourth 4 ∷ [])) ≡ Err NotLevel)
    × (shape_of flat (cubic_acts (pos 0)) (cubic (fourth 1 ∷ fourth 2 ∷ fourth 3 ∷ fourth 4 ∷ fourth 5 ∷ [])) ≡ Err ExtraPoints)
unfolding vector_difference dot span_value quaternion_axes coordinates if_level all_places cubic_shape shape_by_kind shape_of
cubic-shapes = (refl, refl, refl)

-- vertices 0, 4, 8 and 16
pub cubic-points :
    (curve_point control 0 ≡ place (pos 0) (pos 0)) × (curve_point control 4 ≡ place (pos (5 * 2 ^ 34)) (pos (9 * 2 ^ 35)))
    × (curve_point control 8 ≡ place (whole 4) (whole 6)) × (curve_point control 16 ≡ place (whole 8) (pos 0))
unfolding curve_number
cubic-points = (refl, refl, refl, refl)

pub fourth-vertex : vertex 36 (curve_point control 4) ≡ codes "0\nVERTEX\n8\n0\n10\n1.25000000000000000000\n20\n4.50000000000000000000\n30\n0.00000000000000000000\n"
unfolding digits padded quantity_text decimal_text curve_number quantity_lines first_place vertex
fourth-vertex = refl

-- a number of 256ths
abbrev parts : ℕ → ℤ
parts n = pos (n * 2 ^ 28)

abbrev seventeen : List (List ℤ)
seventeen =
    map (λ (uv : List ℕ). map parts uv) (
    (0 ∷ 0 ∷ 0 ∷ []) ∷ (23 ∷ 360 ∷ 0 ∷ []) ∷ (88 ∷ 672 ∷ 0 ∷ []) ∷ (189 ∷ 936 ∷ 0 ∷ []) ∷ (320 ∷ 1152 ∷ 0 ∷ []) ∷ (475 ∷ 1320 ∷ 0 ∷ [])
    ∷ (648 ∷ 1440 ∷ 0 ∷ []) ∷ (833 ∷ 1512 ∷ 0 ∷ []) ∷ (1024 ∷ 1536 ∷ 0 ∷ []) ∷ (1215 ∷ 1512 ∷ 0 ∷ []) ∷ (1400 ∷ 1440 ∷ 0 ∷ []) ∷ (1573 ∷ 1320 ∷ 0 ∷ [])
    ∷ (1728 ∷ 1152 ∷ 0 ∷ []) ∷ (1859 ∷ 936 ∷ 0 ∷ []) ∷ (1960 ∷ 672 ∷ 0 ∷ []) ∷ (2025 ∷ 360 ∷ 0 ∷ []) ∷ (2048 ∷ 0 ∷ 0 ∷ []) ∷ [])

-- the whole cubic, through its 17 points
pub cubic-text : cubic_text 36 control ≡ polyline ++ (flat_map (vertex 36) seventeen ++ sequence_end)
unfolding digits padded quantity_text decimal_text curve_number quantity_lines first_place vertex cubic_text
cubic-text = refl
