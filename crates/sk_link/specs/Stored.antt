-- What an entity record stores (SolveSpace's file format).
use Rattle.std.specs.Prelude.{ℕ, ◌==◌, nat_le, ℤ, pos, negsuc, List, [], ◌∷◌, Option, Some, None, Result, Ok, if◌then◌else◌}
use Rattle.std.specs.Option.{option_map}
use Rattle.sk_types.specs.declared.handle.EntityId.{EntityId}
use Rattle.sk_types.specs.declared.entity.Entity.{Entity}
use Rattle.sk_types.specs.declared.entity.Numbering.{Numbering}
use Rattle.sk_types.specs.declared.entity.Numbering.TheVariants.{Placed, Nothing}
use Rattle.sk_types.specs.Kinds.{is_distance, is_normal, is_point}
use Rattle.sk_records.specs.Rows.{Row}
use Rattle.sk_link.specs.declared.fault.Refusal.{Refusal}
use Rattle.sk_link.specs.declared.entity_keys.EntityKeys.{EntityKeys}
use Rattle.sk_link.specs.declared.keys.Key.TheVariants as key
use Rattle.sk_link.specs.declared.stored.Stored.{Stored}
use Rattle.sk_link.specs.Chain.{then_of}
use Rattle.sk_link.specs.Fields.{handle_under, whole_under, quantity_under, flag_under}

-- the values in the order of the keys
unfoldable pub entity_keys : (s : ℕ) → List Row → Result (EntityKeys s) Refusal
entity_keys s rows =
    then_of (handle_under key.Handle rows) (λ id.
    then_of (whole_under key.Number rows) (λ kind.
    then_of (flag_under key.Construction rows) (λ construction.
    then_of (handle_under key.FirstPoint rows) (λ first.
    then_of (handle_under key.SecondPoint rows) (λ second.
    then_of (handle_under key.ThirdPoint rows) (λ third.
    then_of (handle_under key.Normal rows) (λ normal.
    then_of (handle_under key.Distance rows) (λ distance.
    then_of (quantity_under s key.PlaceX rows) (λ x.
    then_of (quantity_under s key.PlaceY rows) (λ y.
    then_of (quantity_under s key.PlaceZ rows) (λ z.
    then_of (quantity_under s key.TurnW rows) (λ w.
    then_of (quantity_under s key.TurnX rows) (λ vx.
    then_of (quantity_under s key.TurnY rows) (λ vy.
    then_of (quantity_under s key.TurnZ rows) (λ vz.
    then_of (quantity_under s key.Length rows) (λ length.
    Ok (record {
      id = id;
      kind = kind;
      construction = construction;
      points = record { 0 = first } ∷ record { 0 = second } ∷ record { 0 = third } ∷ [];
      normal = normal;
      distance = distance;
      place = x ∷ y ∷ z ∷ pos 0 ∷ [];
      turn = w ∷ vx ∷ vy ∷ vz ∷ [];
      length = length ∷ pos 0 ∷ pos 0 ∷ pos 0 ∷ [];
    })))))))))))))))))

-- an entity's number is from 0 to 65535
abbrev pub number_of : ℤ → Option ℕ
number_of (pos n) = if nat_le n 65535 then Some n else None
number_of (negsuc n) = None

-- the names up to the last that names something
abbrev pub with_first : EntityId → List EntityId → List EntityId
with_first n [] = if n.0 == 0 then [] else n ∷ []
with_first n (m ∷ ms) = n ∷ m ∷ ms

abbrev pub named_points : List EntityId → List EntityId
named_points [] = []
named_points (n ∷ ns) = with_first n (named_points ns)

-- a point, a normal or a distance stands at its stored numbers
abbrev pub stored_numbers : {s : ℕ} → EntityKeys s → ℕ → Numbering s
stored_numbers k number =
    if is_point number then Placed k.place else
    if is_normal number then Placed k.turn else
    if is_distance number then Placed k.length else
    Nothing

-- the entity belongs to no group and lies in no workplane
abbrev pub stored_entity : {s : ℕ} → EntityKeys s → ℕ → Entity s
stored_entity k number = record {
  id = record { 0 = k.id };
  kind = number;
  group = record { 0 = 0 };
  construction = k.construction;
  points = named_points k.points;
  normal = record { 0 = k.normal };
  distance = record { 0 = k.distance };
  workplane = record { 0 = 0 };
  numbers = stored_numbers k number;
}

-- the handle of a record, and its entity if its number is one
abbrev pub stored_of : {s : ℕ} → EntityKeys s → Stored s
stored_of k = record { handle = k.id; entity = option_map (stored_entity k) (number_of k.kind) }

abbrev pub stored : (s : ℕ) → List Row → Result (Stored s) Refusal
stored s rows = then_of (entity_keys s rows) (λ k. Ok (stored_of k))
