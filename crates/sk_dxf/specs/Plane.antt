-- The plane of a drawing, and how entities stand in it: readings over the numbers at which they stand, in whatever group.
-- What isn't there stands at 0.
use Rattle.std.specs.Prelude.{◌==◌, ◌-◌, ◌^◌, ◌||◌, ℕ, ℤ, pos, unsigned_abs, nat_lt, Bool, List, [], ◌∷◌, get_or, Option, Some, None, if◌then◌else◌}
use Rattle.sk_types.specs.declared.handle.EntityId.{EntityId}
use Rattle.sk_types.specs.declared.entity.Entity.{Entity}
use Rattle.sk_types.specs.declared.entity.Act.{Act}
use Rattle.sk_types.specs.declared.entity_kind.TheConstants as entity_kind
use Rattle.sk_types.specs.Handles.{item_of_request}
use Rattle.sk_types.specs.Needs.{named}
use Rattle.sk_types.specs.Lookups.{entity_at, act_at}
use Rattle.sk_expr.specs.Poly.{Poly}
use Rattle.sk_expr.specs.Vectors.{vector_difference, dot}
use Rattle.sk_expr.specs.Parts.{PlaneFrame}
use Rattle.sk_expr.specs.Seen.{Seen}
use Rattle.sk_expr.specs.Readings.{reading, readings}
use Rattle.sk_geom.specs.Sources.{three_numbers, four_numbers, values_or_zeros}
use Rattle.sk_geom.specs.Quaternions.{quaternion_axes}

-- the numbers at which the entity with the handle stands
abbrev pub numbers_at : {s : ℕ} → List (Act s) → EntityId → List ℤ
numbers_at acts e = values_or_zeros (act_at e.0 acts)

-- ---- the plane

-- the first reference workplane, XY: the first item of request 1
abbrev pub reference_plane : ℕ
reference_plane = item_of_request 1 0

abbrev pub workplane_or : {s : ℕ} → Option (Entity s) → Option (Entity s) → Option (Entity s)
workplane_or other None = other
workplane_or other (Some e) = if e.kind == entity_kind.WORKPLANE then Some e else other

-- what is active in the group, where that is a workplane, else XY
abbrev pub drawing_plane : {s : ℕ} → List (Entity s) → EntityId → Option (Entity s)
drawing_plane es active = workplane_or (entity_at reference_plane es) (entity_at active.0 es)

-- the numbers at which a workplane's point and its normal stand
pub record PlaneNumbers : Type 0 where
  pub origin : List ℤ
  pub normal : List ℤ

abbrev pub no_numbers : List ℤ
no_numbers = pos 0 ∷ pos 0 ∷ pos 0 ∷ pos 0 ∷ []

abbrev pub plane_numbers : {s : ℕ} → List (Act s) → Option (Entity s) → PlaneNumbers
plane_numbers acts None = record { origin = no_numbers; normal = no_numbers }
plane_numbers acts (Some w) = record { origin = numbers_at acts (named w.points 0); normal = numbers_at acts w.normal }

-- its point o, and the axes U, V and N of its normal
abbrev pub plane_frame : ℕ → PlaneNumbers → PlaneFrame
plane_frame s p =
    let a = quaternion_axes s (four_numbers p.normal) in
    record { origin = three_numbers p.origin; u = a.u; v = a.v; n = a.n }

-- ---- points in it

-- no unknowns and no cosines: a reading is then the midpoint of a span of numbers
abbrev pub nothing_seen : Seen
nothing_seen = record { unknowns = []; rows = []; cosines = []; forced = [] }

-- ((p - o) . U, (p - o) . V, (p - o) . N)
abbrev pub projections : PlaneFrame → List (Poly ℤ) → List (Poly ℤ)
projections f p = let d = vector_difference p f.origin in dot d f.u ∷ dot d f.v ∷ dot d f.n ∷ []

-- the readings of the three, none where one passes the limit
unfoldable pub coordinates : ℕ → PlaneNumbers → List ℤ → Option (List ℤ)
coordinates s plane zs = readings s nothing_seen (projections (plane_frame s plane) (three_numbers zs))

-- the coordinates of the point with the handle
abbrev pub coordinates_at : {s : ℕ} → PlaneNumbers → List (Act s) → EntityId → Option (List ℤ)
coordinates_at {s} plane acts e = coordinates s plane (numbers_at acts e)

-- ---- normals over it

-- N of a normal
abbrev pub normal_axis : ℕ → List ℤ → List (Poly ℤ)
normal_axis s zs = (quaternion_axes s (four_numbers zs)).n

-- the readings of N . U and N . V: both are 0 where the normal stands straight on the plane
unfoldable pub leaning : ℕ → PlaneNumbers → List ℤ → Option (List ℤ)
leaning s plane zs =
    let f = plane_frame s plane in
    let n = normal_axis s zs in
    readings s nothing_seen (dot n f.u ∷ dot n f.v ∷ [])

-- the reading of N with the plane's own N: below 0 where the normal goes against the plane's
unfoldable pub facing : ℕ → PlaneNumbers → List ℤ → Option ℤ
facing s plane zs = reading s nothing_seen (dot (normal_axis s zs) (plane_frame s plane).n)

-- 2^-20, in units
abbrev pub most_leaning : ℕ → ℕ
most_leaning s = 2 ^ (s - 20)

-- whether one of two readings passes it
abbrev pub is_tilted : ℕ → List ℤ → Bool
is_tilted s zs = nat_lt (most_leaning s) (unsigned_abs (get_or zs 0 (pos 0))) || nat_lt (most_leaning s) (unsigned_abs (get_or zs 1 (pos 0)))
