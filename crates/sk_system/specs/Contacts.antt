-- Faces and the ends of curves, as polynomials.
use Rattle.std.specs.Prelude.{◌==◌, ◌&&◌, ◌||◌, ℕ, ◌-◌, ℤ, Bool, List, [], ◌∷◌, length, Option, Some, None, if◌then◌else◌}
use Rattle.sk_types.specs.declared.handle.EntityId.{EntityId}
use Rattle.sk_types.specs.declared.constraint.Constraint.{Constraint}
use Rattle.sk_types.specs.declared.entity.Entity.{Entity}
use Rattle.sk_types.specs.declared.entity.Numbering.{Numbering}
use Rattle.sk_types.specs.declared.entity.Numbering.TheVariants.{Own, Moved, Copied, Placed, Nothing}
use Rattle.sk_types.specs.declared.entity_kind.TheConstants as entity_kind
use Rattle.sk_types.specs.declared.constraint_kind.TheConstants as constraint_kind
use Rattle.sk_types.specs.Needs.{named}
use Rattle.sk_types.specs.Sizes.{has_entity}
use Rattle.sk_expr.specs.Poly.{Poly}
use Rattle.sk_expr.specs.Vectors.{vector_difference}
use Rattle.sk_geom.specs.Sources.{Source, group_vector, number_at, three_numbers, act_numbers}
use Rattle.sk_geom.specs.EntityTrees.{is_own}
use Rattle.sk_face.specs.FaceRows.{Face, flat, side}
use Rattle.sk_cubic.specs.CubicRows.{CurveEnd, spoke, tangent, Contact, with_line, of_curves}
use Rattle.sk_system.specs.declared.contacts.Chord.{Chord}
use Rattle.sk_system.specs.ByHandle.{entity_by, point_by, flat_by, axes_by, points_of, is_cubic_by}

-- ---- faces

-- the normal vector of a face stands behind a 0
abbrev pub last_three : List ℤ → List (Poly ℤ)
last_three zs = number_at zs 1 ∷ number_at zs 2 ∷ number_at zs 3 ∷ []

-- that of a copied face is its source's
abbrev pub copied_normal : {s : ℕ} → Source s → Numbering s → List (Poly ℤ)
copied_normal o (Own p) = three_numbers []
copied_normal o (Moved from k) = three_numbers []
copied_normal o (Placed zs) = three_numbers []
copied_normal o (Copied from) = last_three (act_numbers o from)
copied_normal o Nothing = three_numbers []

-- the normal that a face names, or else the group's vector
abbrev pub named_normal : {s : ℕ} → Source s → EntityId → List (Poly ℤ)
named_normal o n = if has_entity n then (axes_by o n).n else group_vector o

-- the side that a line leaves; a face with the normal that it names; a copied one
abbrev pub own_face : {s : ℕ} → Source s → Entity s → Face
own_face o e =
    let on = point_by o (named e.points 0) in
    if e.kind == entity_kind.FACE_BY_LINE then side on (point_by o (named e.points 1)) (group_vector o) else
    if e.kind == entity_kind.FACE_BY_NORMAL then flat on (named_normal o e.normal) else
    flat on (copied_normal o e.numbers)

-- a face of another group is given by its numbers
unfoldable pub face_of : {s : ℕ} → Source s → Entity s → Face
face_of o e = if is_own o e then own_face o e else flat (point_by o (named e.points 0)) (last_three (act_numbers o e.id))

abbrev pub face_or_none : {s : ℕ} → Source s → Option (Entity s) → Face
face_or_none o None = flat (three_numbers []) (three_numbers [])
face_or_none o (Some e) = face_of o e

unfoldable pub face_by : {s : ℕ} → Source s → EntityId → Face
face_by o e = face_or_none o (entity_by o e)

-- ---- cubics

-- a cubic's tangent: at its start from point 0 to point 1, at its end from the last point but one to the last
abbrev pub tangent_chord : List EntityId → Bool → Chord
tangent_chord ps at_end =
    if at_end then record { from = named ps (length ps - 2); to = named ps (length ps - 1) } else record { from = named ps 0; to = named ps 1 }

-- an arc's spoke: from its centre to its start, or to its end
abbrev pub spoke_chord : List EntityId → Bool → Chord
spoke_chord ps at_end = record { from = named ps 0; to = named ps (if at_end then 2 else 1) }

-- a line's vector is its first point less its second
abbrev pub line_chord : List EntityId → Chord
line_chord ps = record { from = named ps 1; to = named ps 0 }

unfoldable pub space_chord : {s : ℕ} → Source s → Chord → List (Poly ℤ)
space_chord o d = vector_difference (point_by o d.to) (point_by o d.from)

unfoldable pub flat_chord : {s : ℕ} → Source s → EntityId → Chord → List (Poly ℤ)
flat_chord o w d = vector_difference (flat_by o w d.to) (flat_by o w d.from)

unfoldable pub curve_end : {s : ℕ} → Source s → EntityId → EntityId → Bool → CurveEnd
curve_end o w e at_end =
    let ps = points_of (entity_by o e) in
    if is_cubic_by o e then tangent (flat_chord o w (tangent_chord ps at_end)) else spoke (flat_chord o w (spoke_chord ps at_end))

-- two vectors in the constraint's workplane, where it has one
abbrev pub both_chords : {s : ℕ} → Source s → EntityId → Chord → Chord → Option (List (Poly ℤ) × List (Poly ℤ))
both_chords o w d l = if has_entity w then Some (flat_chord o w d, flat_chord o w l) else None

-- a cubic and a line, or two curves
unfoldable pub contact_in : {s : ℕ} → Source s → Constraint s → Contact
contact_in o c =
    let w = c.workplane in
    let d = tangent_chord (points_of (entity_by o (named c.entities 0))) c.other in
    let l = line_chord (points_of (entity_by o (named c.entities 1))) in
    if c.kind == constraint_kind.CUBIC_LINE_TANGENT then
    with_line (space_chord o d) (space_chord o l) (both_chords o w d l)
    else of_curves (curve_end o w (named c.entities 0) c.other) (curve_end o w (named c.entities 1) c.other2)

-- whether a cubic touches something
abbrev pub has_cubic : {s : ℕ} → Source s → Constraint s → Bool
has_cubic o c =
    c.kind == constraint_kind.CUBIC_LINE_TANGENT
    || (c.kind == constraint_kind.CURVE_CURVE_TANGENT && (is_cubic_by o (named c.entities 0) || is_cubic_by o (named c.entities 1)))
