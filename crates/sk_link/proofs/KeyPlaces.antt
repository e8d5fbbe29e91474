-- What was found for the keys, by their places.
use Rattle.std.proofs.Common.{◌≡◌, ℕ, List, map, get_or, Option, refl}
use Rattle.sk_records.specs.Rows.{Row, last_place}
use Rattle.sk_link.specs.declared.keys.Key.{Key}
use Rattle.sk_link.specs.declared.keys.Key.TheVariants.{Handle, Number, Construction, FirstPoint, SecondPoint, ThirdPoint, Normal, Distance, PlaceX, PlaceY, PlaceZ, TurnW, TurnX, TurnY, TurnZ, Length}
use Rattle.sk_link.specs.Keys.{key_bytes, key_place, all_keys}

pub at_place : (rows : List Row) (k : Key) (d : Option ℕ) → get_or (map (λ (k : Key). last_place (key_bytes k) rows) all_keys) (key_place k) d ≡ last_place (key_bytes k) rows
at_place rows Handle d = refl
at_place rows Number d = refl
at_place rows Construction d = refl
at_place rows FirstPoint d = refl
at_place rows SecondPoint d = refl
at_place rows ThirdPoint d = refl
at_place rows Normal d = refl
at_place rows Distance d = refl
at_place rows PlaceX d = refl
at_place rows PlaceY d = refl
at_place rows PlaceZ d = refl
at_place rows TurnW d = refl
at_place rows TurnX d = refl
at_place rows TurnY d = refl
at_place rows TurnZ d = refl
at_place rows Length d = refl
