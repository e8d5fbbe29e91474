-- Which copies a group has, in rising handles of what is copied, then by the copy's number (SolveSpace's numbering).
use Rattle.std.specs.Prelude.{ℕ, ◌+◌, ◌*◌, ◌==◌, ◌&&◌, ◌||◌, ℤ, pos, negsuc, ◌-ℤ◌, List, [], ◌∷◌, ◌++◌, map, Option, Some, None, Bool, false, not, if◌then◌else◌}
use Rattle.std.specs.List.{flat_map, list_all}
use Rattle.sk_types.specs.declared.handle.EntityId.{EntityId}
use Rattle.sk_types.specs.declared.entity.Entity.{Entity}
use Rattle.sk_types.specs.declared.group.Group.{Group}
use Rattle.sk_types.specs.declared.group.GroupKind.{GroupKind}
use Rattle.sk_types.specs.declared.group.GroupKind.TheVariants.{Space, Plane, Extrude, Translate, Linked}
use Rattle.sk_types.specs.declared.entity_kind.TheConstants as entity_kind
use Rattle.sk_copy.specs.declared.copy_number.TheConstants as which
use Rattle.sk_types.specs.Kinds.{has_numbers, is_distance, is_face, is_normal, is_point}
use Rattle.sk_types.specs.Lists.{each_below, only_if}
use Rattle.sk_types.specs.Lookups.{entity_at}
use Rattle.sk_types.specs.Copies.{CopyKey}
use Rattle.sk_types.specs.Needs.{named}
use Rattle.sk_types.specs.Sizes.{has_entity}

-- ---- how far copies are moved: which copy, and so many times the group's vector

abbrev pub Move : Type 0
Move = ℕ × ℤ

-- top and bottom of an extrusion
abbrev pub ends_of : Bool → List Move
ends_of two_sided = (which.TOP, if two_sided then pos 1 else pos 2) ∷ (which.BOTTOM, if two_sided then negsuc 0 else pos 0) ∷ []

-- copy a of n in a translation, both ways from the source or one way
abbrev pub times_of : Bool → ℕ → ℕ → ℤ
times_of two_sided n a = if two_sided then pos (2 * a + 1) -ℤ pos n else pos (2 * a)

-- the last copy has the number 1000
abbrev pub copy_number : ℕ → ℕ → ℕ
copy_number end a = if a + 1 == end then which.LAST else a

-- n copies from the first on
abbrev pub moves_from : ℕ → Bool → ℕ → List Move
moves_from first two_sided n = each_below n (λ i. (copy_number (first + n) (first + i), times_of two_sided n (first + i)))

-- one way, the copy in the source's place may be left out
abbrev pub first_copy : {s : ℕ} → Group s → ℕ
first_copy g = if g.skip_first && not g.two_sided then 1 else 0

abbrev pub moves_by : {s : ℕ} → GroupKind → Group s → List Move
moves_by Space g = []
moves_by Plane g = []
moves_by Extrude g = ends_of g.two_sided
moves_by Translate g = moves_from (first_copy g) g.two_sided g.copies
moves_by Linked g = []

-- ---- an extrusion: 1001 and 1002 are the copies, 1003 a point's line between them, 1004 a line's face between them

abbrev pub is_extruded : {s : ℕ} → Entity s → Bool
is_extruded e = not (e.kind == entity_kind.WORKPLANE || is_face e.kind)

abbrev pub extruded_as : {s : ℕ} → Entity s → List CopyKey
extruded_as e = only_if (is_extruded e)
    ((e.id.0, which.TOP) ∷ (e.id.0, which.BOTTOM) ∷ only_if (is_point e.kind) ((e.id.0, which.SIDE_LINE) ∷ []) ++ only_if (e.kind == entity_kind.LINE) ((e.id.0, which.SIDE_FACE) ∷ []))

-- ---- a translation copies all but workplanes

abbrev pub is_translated : {s : ℕ} → Entity s → Bool
is_translated e = not (e.kind == entity_kind.WORKPLANE)

abbrev pub translated_as : {s : ℕ} → List Move → Entity s → List CopyKey
translated_as moves e = only_if (is_translated e) (map (λ (m : Move). (e.id.0, m.0)) moves)

-- ---- a linked part: points, normals and distances, and the curves that are whole

abbrev pub is_as : {s : ℕ} → (ℕ → Bool) → Option (Entity s) → Bool
is_as fits None = false
is_as fits (Some e) = fits e.kind

-- what is named is nothing, or stands among these as what it has to be
abbrev pub is_there_as : {s : ℕ} → (ℕ → Bool) → List (Entity s) → EntityId → Bool
is_there_as fits es n = n.0 == 0 || is_as fits (entity_at n.0 es)

abbrev pub names_fit : {s : ℕ} → List (Entity s) → Entity s → Bool
names_fit es e = list_all (is_there_as is_point es) e.points && (is_there_as is_normal es e.normal && is_there_as is_distance es e.distance)

abbrev pub has_point : {s : ℕ} → Entity s → ℕ → Bool
has_point e i = has_entity (named e.points i)

-- a line names its ends, a circle its centre, normal and distance, an arc three points and a normal
abbrev pub is_whole : {s : ℕ} → Entity s → Bool
is_whole e =
    if e.kind == entity_kind.LINE then has_point e 0 && has_point e 1 else
    if e.kind == entity_kind.CIRCLE then has_point e 0 && (has_entity e.normal && has_entity e.distance) else
    if e.kind == entity_kind.ARC then has_point e 0 && (has_point e 1 && (has_point e 2 && has_entity e.normal)) else false

abbrev pub is_linked : {s : ℕ} → List (Entity s) → Entity s → Bool
is_linked es e = has_numbers e.kind || (is_whole e && names_fit es e)

abbrev pub linked_as : {s : ℕ} → List (Entity s) → Entity s → List CopyKey
linked_as es e = only_if (is_linked es e) ((e.id.0, which.LINKED) ∷ [])

-- ---- the copies that a group has of these entities

-- the two faces at an extrusion's ends are copies of nothing
abbrev pub ends_by : GroupKind → List CopyKey
ends_by Space = []
ends_by Plane = []
ends_by Extrude = (0, which.TOP) ∷ (0, which.BOTTOM) ∷ []
ends_by Translate = []
ends_by Linked = []

-- of one of them
abbrev pub wanted_as : {s : ℕ} → GroupKind → Group s → List (Entity s) → Entity s → List CopyKey
wanted_as Space g es e = []
wanted_as Plane g es e = []
wanted_as Extrude g es e = extruded_as e
wanted_as Translate g es e = translated_as (moves_by Translate g) e
wanted_as Linked g es e = linked_as es e

abbrev pub wanted : {s : ℕ} → Group s → List (Entity s) → List CopyKey
wanted g es = ends_by g.kind ++ flat_map (wanted_as g.kind g es) es
