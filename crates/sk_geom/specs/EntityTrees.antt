-- Points, normals, distances and workplanes as polynomials in the unknowns of a group.
-- An entity of another group is the numbers at which it stands. What isn't there is 0.
use Rattle.std.specs.Prelude.{◌==◌, ◌&&◌, ℕ, ◌+◌, ◌^◌, ℤ, pos, ◌*ℤ◌, Bool, List, [], ◌∷◌, unwrap_or, Option, Some, None, if◌then◌else◌}
use Rattle.sk_num.specs.Limit.{grid_of}
use Rattle.sk_types.specs.declared.handle.EntityId.{EntityId}
use Rattle.sk_types.specs.declared.entity.Entity.{Entity}
use Rattle.sk_types.specs.declared.entity.Numbering.{Numbering}
use Rattle.sk_types.specs.declared.entity.Numbering.TheVariants.{Own, Moved, Copied, Placed, Nothing}
use Rattle.sk_types.specs.declared.entity_kind.TheConstants as entity_kind
use Rattle.sk_types.specs.Needs.{named}
use Rattle.sk_types.specs.Lookups.{entity_at}
use Rattle.sk_expr.specs.Poly.{Poly, number}
use Rattle.sk_expr.specs.Vectors.{component, vector_sum, vector_difference, scaled, scaled_by, dot}
use Rattle.sk_expr.specs.Parts.{PlaneFrame}
use Rattle.sk_geom.specs.Sources.{Source, param_tree, three_params, four_params, group_vector, group_quaternion, number_at, three_numbers, four_numbers, act_numbers}
use Rattle.sk_geom.specs.Quaternions.{quaternion_axes, quaternion_product}

abbrev pub is_own : {s : ℕ} → Source s → Entity s → Bool
is_own o e = e.group.0 == o.group.0

-- the entity with the handle, or where none has it
abbrev pub of_entity : {s : ℕ} → List (Poly ℤ) → (Entity s → List (Poly ℤ)) → Option (Entity s) → List (Poly ℤ)
of_entity none f None = none
of_entity none f (Some e) = f e

-- ---- points and normals by numbers of their own, or by those of entities of other groups

-- the whole number k in units, 0 past the limit
abbrev pub whole_units : ℕ → ℤ → ℤ
whole_units s k = unwrap_or (grid_of (k *ℤ pos (2 ^ s))) (pos 0)

-- p + k t: another point, moved by k times the group's vector
unfoldable pub moved_point : {s : ℕ} → Source s → EntityId → ℤ → List (Poly ℤ)
moved_point {s} o from k = vector_sum (three_numbers (act_numbers o from)) (scaled (number (whole_units s k)) (group_vector o))

-- U x + V y + N z + t: the stored point (x, y, z), turned by the group's quaternion and moved by its vector
unfoldable pub turned_point : {s : ℕ} → Source s → List ℤ → List (Poly ℤ)
turned_point {s} o zs =
    let q = quaternion_axes s (group_quaternion o) in
    vector_sum (vector_sum (vector_sum (scaled_by q.u (number_at zs 0)) (scaled_by q.v (number_at zs 1))) (scaled_by q.n (number_at zs 2))) (group_vector o)

-- a point in space, a moved, a turned and a copied point
abbrev pub own_point : {s : ℕ} → Source s → EntityId → Numbering s → List (Poly ℤ)
own_point o e (Own p) = three_params o p.0
own_point o e (Moved from k) = moved_point o from k
own_point o e (Placed zs) = turned_point o zs
own_point o e (Copied from) = three_numbers (act_numbers o from)
own_point o e Nothing = three_numbers (act_numbers o e)

unfoldable pub space_point : {s : ℕ} → Source s → Entity s → List (Poly ℤ)
space_point o e = if is_own o e then own_point o e.id e.numbers else three_numbers (act_numbers o e.id)

-- a normal in space, a copied normal (that of a drawing by line segments has its numbers already), and a turned one
abbrev pub own_normal : {s : ℕ} → Source s → EntityId → ℕ → Numbering s → List (Poly ℤ)
own_normal o e k (Own p) = four_params o p.0
own_normal o e k (Moved from n) = four_numbers []
own_normal o e k (Placed zs) = if k == entity_kind.TURNED_NORMAL then quaternion_product (group_quaternion o) (four_numbers zs) else four_numbers zs
own_normal o e k (Copied from) = four_numbers (act_numbers o from)
own_normal o e k Nothing = four_numbers (act_numbers o e)

unfoldable pub space_normal : {s : ℕ} → Source s → Entity s → List (Poly ℤ)
space_normal o e = if is_own o e then own_normal o e.id e.kind e.numbers else four_numbers (act_numbers o e.id)

-- ---- workplanes

unfoldable pub point_named : {s : ℕ} → Source s → EntityId → List (Poly ℤ)
point_named o e = of_entity (three_numbers []) (space_point o) (entity_at e.0 o.entities)

unfoldable pub normal_named : {s : ℕ} → Source s → EntityId → List (Poly ℤ)
normal_named o e = of_entity (four_numbers []) (space_normal o) (entity_at e.0 o.entities)

-- a workplane's origin is its point, its axes are those of its normal
unfoldable pub frame : {s : ℕ} → Source s → Entity s → PlaneFrame
frame {s} o w =
    let a = quaternion_axes s (normal_named o w.normal) in
    record { origin = point_named o (named w.points 0); u = a.u; v = a.v; n = a.n }

-- ---- points, normals and distances of any kind

-- the two parameters of a point in a workplane
abbrev pub own_pair : {s : ℕ} → Source s → Numbering s → List (Poly ℤ)
own_pair o (Own p) = param_tree o p.0 ∷ param_tree o (p.0 + 1) ∷ []
own_pair o (Moved from k) = number (pos 0) ∷ number (pos 0) ∷ []
own_pair o (Placed zs) = number (pos 0) ∷ number (pos 0) ∷ []
own_pair o (Copied from) = number (pos 0) ∷ number (pos 0) ∷ []
own_pair o Nothing = number (pos 0) ∷ number (pos 0) ∷ []

-- o + u U + v V
unfoldable pub point_in : PlaneFrame → List (Poly ℤ) → List (Poly ℤ)
point_in f uv = vector_sum (vector_sum f.origin (scaled (component uv 0) f.u)) (scaled (component uv 1) f.v)

-- a point that is drawn in a workplane of its own group
abbrev pub drawn_point : {s : ℕ} → Source s → Entity s → Option (Entity s) → List (Poly ℤ)
drawn_point o e None = three_numbers []
drawn_point o e (Some w) = point_in (frame o w) (own_pair o e.numbers)

unfoldable pub point_tree : {s : ℕ} → Source s → Entity s → List (Poly ℤ)
point_tree o e =
    if is_own o e && e.kind == entity_kind.POINT_IN_WORKPLANE then drawn_point o e (entity_at e.workplane.0 o.entities) else space_point o e

-- a normal that is drawn in a workplane is that of the workplane
unfoldable pub normal_tree : {s : ℕ} → Source s → Entity s → List (Poly ℤ)
normal_tree o e =
    if is_own o e && e.kind == entity_kind.NORMAL_IN_WORKPLANE then of_entity (four_numbers []) (λ w. normal_named o w.normal) (entity_at e.workplane.0 o.entities)
    else space_normal o e

-- a distance, and a copied one
abbrev pub own_distance : {s : ℕ} → Source s → Numbering s → Poly ℤ
own_distance o (Own p) = param_tree o p.0
own_distance o (Moved from n) = number (pos 0)
own_distance o (Placed zs) = number_at zs 0
own_distance o (Copied from) = number_at (act_numbers o from) 0
own_distance o Nothing = number (pos 0)

unfoldable pub distance_tree : {s : ℕ} → Source s → Entity s → Poly ℤ
distance_tree o e = if is_own o e then own_distance o e.numbers else number_at (act_numbers o e.id) 0

-- ---- points in a workplane

-- ((p - o) . U, (p - o) . V)
unfoldable pub projected : PlaneFrame → List (Poly ℤ) → List (Poly ℤ)
projected f p = let d = vector_difference p f.origin in dot d f.u ∷ dot d f.v ∷ []

-- a point in the workplane w: its two parameters where it is drawn in that very one, in whatever group, or else its projection
unfoldable pub flat_tree : {s : ℕ} → Source s → Entity s → Entity s → List (Poly ℤ)
flat_tree o w e =
    if e.kind == entity_kind.POINT_IN_WORKPLANE && e.workplane.0 == w.id.0 then own_pair o e.numbers else projected (frame o w) (point_tree o e)
