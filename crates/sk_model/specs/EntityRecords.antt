-- The records of entities, as a model's text has them (SolveSpace's file format): what an entity is, what it names, and the
-- numbers at which it stands. They are made from the outline and its numbers, and typing doesn't look at them.
use Rattle.std.specs.Prelude.{ℕ, ◌+◌, ◌==◌, ◌||◌, ℤ, pos, List, [], ◌∷◌, ◌++◌, map, get_or, Option, Some, None, Bool, codes, if◌then◌else◌}
use Rattle.std.specs.Fmt.{decimal}
use Rattle.std.specs.List.{flat_map}
use Rattle.std.specs.Ordering.{int_eq}
use Rattle.sk_num.specs.Numerals.{padded}
use Rattle.sk_num.specs.Spelling.{quantity_text}
use Rattle.sk_types.specs.declared.handle.EntityId.{EntityId}
use Rattle.sk_types.specs.declared.entity.Entity.{Entity}
use Rattle.sk_types.specs.declared.entity.Act.{Act}
use Rattle.sk_types.specs.Kinds.{is_point, is_normal, is_distance, is_face}
use Rattle.sk_types.specs.Lookups.{act_at}
use Rattle.sk_records.specs.declared.kinds.Kind.TheVariants as kind
use Rattle.sk_records.specs.Blocks.{Rec}
use Rattle.sk_records.specs.Laws.{plain_record}

-- a line: its key and its value
abbrev pub Pair : Type 0
Pair = List ℕ × List ℕ

-- A line whose value is 0 is left out.
unfoldable pub handle_pairs : List ℕ → EntityId → List Pair
handle_pairs key e = if e.0 == 0 then [] else (key, padded 16 8 e.0) ∷ []

unfoldable pub quantity_pairs : ℕ → List ℕ → ℤ → List Pair
quantity_pairs s key v = if int_eq v (pos 0) then [] else (key, quantity_text s v) ∷ []

-- ---- what an entity names

unfoldable pub point_key : ℕ → List ℕ
point_key i = codes "Entity.point[" ++ (decimal i ++ codes "].v")

-- points in their order, the first with this place
abbrev pub point_pairs : ℕ → List EntityId → List Pair
point_pairs i [] = []
point_pairs i (e ∷ es) = handle_pairs (point_key i) e ++ point_pairs (i + 1) es

-- its points, its normal, its distance and its workplane
unfoldable pub name_pairs : {s : ℕ} → Entity s → List Pair
name_pairs e =
    point_pairs 0 e.points ++ (handle_pairs (codes "Entity.normal.v") e.normal
    ++ (handle_pairs (codes "Entity.distance.v") e.distance ++ handle_pairs (codes "Entity.workplane.v") e.workplane))

-- ---- the numbers at which it stands

-- numbers with their keys
abbrev pub Keyed : Type 0
Keyed = List (List ℕ × ℤ)

abbrev number : List ℤ → ℕ → ℤ
number vs i = get_or vs i (pos 0)

-- a point's x, y, z
abbrev pub place_numbers : List ℤ → Keyed
place_numbers vs = (codes "Entity.actPoint.x", number vs 0) ∷ (codes "Entity.actPoint.y", number vs 1) ∷ (codes "Entity.actPoint.z", number vs 2) ∷ []

-- a normal's w, x, y, z; or a face's 0 and normal vector
abbrev pub turn_numbers : List ℤ → Keyed
turn_numbers vs = (codes "Entity.actNormal.w", number vs 0) ∷ (codes "Entity.actNormal.vx", number vs 1) ∷ (codes "Entity.actNormal.vy", number vs 2) ∷ (codes "Entity.actNormal.vz", number vs 3) ∷ []

-- a distance
abbrev pub length_numbers : List ℤ → Keyed
length_numbers vs = (codes "Entity.actDistance", number vs 0) ∷ []

abbrev pub is_turned : ℕ → Bool
is_turned n = is_normal n || is_face n

-- those of an entity of this kind; curves and workplanes have none
unfoldable pub act_numbers : ℕ → List ℤ → Keyed
act_numbers n vs =
    if is_point n then place_numbers vs else
    if is_turned n then turn_numbers vs else
    if is_distance n then length_numbers vs else []

unfoldable pub number_pairs : ℕ → Keyed → List Pair
number_pairs s ks = flat_map (λ (k : List ℕ × ℤ). quantity_pairs s k.0 k.1) ks

-- an entity without numbers has no such lines
abbrev pub act_pairs : {s : ℕ} → ℕ → Option (Act s) → List Pair
act_pairs n None = []
act_pairs {s} n (Some a) = number_pairs s (act_numbers n a.values)

-- ---- the record

abbrev pub flag_text : Bool → List ℕ
flag_text t = if t then codes "1" else codes "0"

-- its handle, its number in the format, and whether it is for construction alone: these always stand
abbrev pub head_pairs : {s : ℕ} → Entity s → List Pair
head_pairs e =
    (codes "Entity.h.v", padded 16 8 e.id.0) ∷ (codes "Entity.type", decimal e.kind)
    ∷ (codes "Entity.construction", flag_text e.construction) ∷ []

abbrev pub seen_pairs : List Pair
seen_pairs = (codes "Entity.actVisible", codes "1") ∷ []

unfoldable pub entity_pairs : {s : ℕ} → List (Act s) → Entity s → List Pair
entity_pairs acts e = head_pairs e ++ (name_pairs e ++ (act_pairs e.kind (act_at e.id.0 acts) ++ seen_pairs))

abbrev pub entity_record : {s : ℕ} → List (Act s) → Entity s → Rec
entity_record acts e = plain_record kind.Entity (entity_pairs acts e)

-- The records of entities, in their order.
abbrev pub entity_records : {s : ℕ} → List (Act s) → List (Entity s) → List Rec
entity_records acts es = map (entity_record acts) es
