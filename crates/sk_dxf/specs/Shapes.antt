-- What is drawn of an entity, or why it is left out.
use Rattle.std.specs.Prelude.{◌==◌, ◌&&◌, ℕ, ℤ, pos, Bool, false, List, [], ◌∷◌, map, get_or, length, Option, Some, None, option_and_then, option_map, Result, Ok, Err, if◌then◌else◌}
use Rattle.std.specs.Ordering.{int_eq}
use Rattle.std.specs.Int.{is_negative}
use Rattle.sk_num.specs.Each.{each_some}
use Rattle.sk_types.specs.declared.handle.EntityId.{EntityId}
use Rattle.sk_types.specs.declared.handle.Maker.{Maker}
use Rattle.sk_types.specs.declared.handle.Maker.TheVariants.{OfRequest, OfGroup}
use Rattle.sk_types.specs.declared.entity.Entity.{Entity}
use Rattle.sk_types.specs.declared.entity.Act.{Act}
use Rattle.sk_types.specs.declared.entity_kind.TheConstants as entity_kind
use Rattle.sk_types.specs.Handles.{maker_of}
use Rattle.sk_types.specs.Kinds.{is_point}
use Rattle.sk_types.specs.Needs.{named}
use Rattle.sk_dxf.specs.declared.shape.Shape.{Shape}
use Rattle.sk_dxf.specs.declared.shape.Shape.TheVariants.{Line, Point, Circle, Arc, Cubic}
use Rattle.sk_dxf.specs.declared.shape.LeftOut.{LeftOut}
use Rattle.sk_dxf.specs.declared.shape.LeftOut.TheVariants.{Construction, NotDatum, NoCurve, PastLimit, Tilted, NoBulge, ExtraPoints, NotLevel}
use Rattle.sk_dxf.specs.Plane.{PlaneNumbers, numbers_at, coordinates_at, leaning, facing, is_tilted}
use Rattle.sk_dxf.specs.Bulge.{bulge}

-- left out where a reading passes the limit
abbrev pub or_past : {A : Type 0} → Option A → Result A LeftOut
or_past None = Err PastLimit
or_past (Some x) = Ok x

-- ---- lines and datum points

unfoldable pub line_shape : {s : ℕ} → PlaneNumbers → List (Act s) → List EntityId → Option (Shape s)
line_shape plane acts ps =
    option_and_then (λ a. option_map (Line a) (coordinates_at plane acts (named ps 1))) (coordinates_at plane acts (named ps 0))

-- the first entity of a request: a point that is one is a datum point, and no point of a curve and no copy is one
abbrev pub is_first_item : Maker → Bool
is_first_item (OfRequest r i) = i == 0
is_first_item (OfGroup g i) = false

unfoldable pub point_shape : {s : ℕ} → PlaneNumbers → List (Act s) → EntityId → ℕ → Result (Shape s) LeftOut
point_shape plane acts e kind =
    if is_point kind then (if is_first_item (maker_of e.0) then or_past (option_map Point (coordinates_at plane acts e)) else Err NotDatum)
    else Err NoCurve

-- ---- circles and arcs, whose normal has to stand straight on the plane

abbrev pub if_straight : {s : ℕ} → Option (List ℤ) → Result (Shape s) LeftOut → Result (Shape s) LeftOut
if_straight None shape = Err PastLimit
if_straight {s} (Some zs) shape = if is_tilted s zs then Err Tilted else shape

-- the radius is the number at which the distance stands
unfoldable pub circle_shape : {s : ℕ} → PlaneNumbers → List (Act s) → Entity s → Option (Shape s)
circle_shape plane acts e =
    option_map (λ c. Circle c (get_or (numbers_at acts e.distance) 0 (pos 0))) (coordinates_at plane acts (named e.points 0))

-- all of them, none where one is none
unfoldable pub all_places : List (Option (List ℤ)) → Option (List (List ℤ))
all_places os = each_some (λ o. o) os

-- the coordinates of points, none where a reading passes the limit
abbrev pub all_coordinates : {s : ℕ} → PlaneNumbers → List (Act s) → List EntityId → Option (List (List ℤ))
all_coordinates {s} plane acts ps = all_places (map (coordinates_at {s = s} plane acts) ps)

abbrev pub at : List (List ℤ) → ℕ → List ℤ
at ps i = get_or ps i []

abbrev pub with_bulge : {s : ℕ} → List (List ℤ) → Option ℤ → Result (Shape s) LeftOut
with_bulge ps None = Err NoBulge
with_bulge ps (Some z) = Ok (Arc (at ps 1) (at ps 2) z)

-- from the start to the end, counterclockwise about its normal; ps are centre, start and end
unfoldable pub bulged : {s : ℕ} → List (List ℤ) → ℤ → Result (Shape s) LeftOut
bulged {s} ps z = with_bulge ps (bulge s (is_negative z) (at ps 0) (at ps 1) (at ps 2))

abbrev pub arc_of : {s : ℕ} → Option (List (List ℤ)) → Option ℤ → Result (Shape s) LeftOut
arc_of None z = Err PastLimit
arc_of (Some ps) None = Err PastLimit
arc_of (Some ps) (Some z) = bulged ps z

unfoldable pub arc_shape : {s : ℕ} → PlaneNumbers → List (Act s) → Entity s → Result (Shape s) LeftOut
arc_shape {s} plane acts e =
    arc_of (all_coordinates plane acts (named e.points 0 ∷ named e.points 1 ∷ named e.points 2 ∷ [])) (facing s plane (numbers_at acts e.normal))

-- ---- cubics of four control points at one height over the plane

abbrev pub height : List (List ℤ) → ℕ → ℤ
height ps i = get_or (at ps i) 2 (pos 0)

abbrev pub is_level : List (List ℤ) → Bool
is_level ps = int_eq (height ps 1) (height ps 0) && (int_eq (height ps 2) (height ps 0) && int_eq (height ps 3) (height ps 0))

unfoldable pub if_level : {s : ℕ} → List (List ℤ) → Result (Shape s) LeftOut
if_level ps = if is_level ps then Ok (Cubic ps) else Err NotLevel

abbrev pub cubic_of : {s : ℕ} → Option (List (List ℤ)) → Result (Shape s) LeftOut
cubic_of None = Err PastLimit
cubic_of (Some ps) = if_level ps

unfoldable pub cubic_shape : {s : ℕ} → PlaneNumbers → List (Act s) → List EntityId → Result (Shape s) LeftOut
cubic_shape plane acts ps =
    if length ps == 4 then cubic_of (all_coordinates plane acts (named ps 0 ∷ named ps 1 ∷ named ps 2 ∷ named ps 3 ∷ [])) else Err ExtraPoints

-- ---- any entity

unfoldable pub shape_by_kind : {s : ℕ} → PlaneNumbers → List (Act s) → Entity s → Result (Shape s) LeftOut
shape_by_kind {s} plane acts e =
    if e.kind == entity_kind.LINE then or_past (line_shape plane acts e.points) else
    if e.kind == entity_kind.CIRCLE then if_straight (leaning s plane (numbers_at acts e.normal)) (or_past (circle_shape plane acts e)) else
    if e.kind == entity_kind.ARC then if_straight (leaning s plane (numbers_at acts e.normal)) (arc_shape plane acts e) else
    if e.kind == entity_kind.CUBIC then cubic_shape plane acts e.points else
    point_shape plane acts e.id e.kind

unfoldable pub shape_of : {s : ℕ} → PlaneNumbers → List (Act s) → Entity s → Result (Shape s) LeftOut
shape_of plane acts e = if e.construction then Err Construction else shape_by_kind plane acts e
