-- The keys of an entity's record that are read, as they stand in a text (SolveSpace's file format).
use Rattle.std.specs.Prelude.{ℕ, List, [], ◌∷◌, codes}
use Rattle.sk_link.specs.declared.keys.Key.{Key}
use Rattle.sk_link.specs.declared.keys.Key.TheVariants.{Handle, Number, Construction, FirstPoint, SecondPoint, ThirdPoint, Normal, Distance, PlaceX, PlaceY, PlaceZ, TurnW, TurnX, TurnY, TurnZ, Length}

unfoldable pub key_bytes : Key → List ℕ
key_bytes Handle = codes "Entity.h.v"
key_bytes Number = codes "Entity.type"
key_bytes Construction = codes "Entity.construction"
key_bytes FirstPoint = codes "Entity.point[0].v"
key_bytes SecondPoint = codes "Entity.point[1].v"
key_bytes ThirdPoint = codes "Entity.point[2].v"
key_bytes Normal = codes "Entity.normal.v"
key_bytes Distance = codes "Entity.distance.v"
key_bytes PlaceX = codes "Entity.actPoint.x"
key_bytes PlaceY = codes "Entity.actPoint.y"
key_bytes PlaceZ = codes "Entity.actPoint.z"
key_bytes TurnW = codes "Entity.actNormal.w"
key_bytes TurnX = codes "Entity.actNormal.vx"
key_bytes TurnY = codes "Entity.actNormal.vy"
key_bytes TurnZ = codes "Entity.actNormal.vz"
key_bytes Length = codes "Entity.actDistance"

-- the keys in their order
abbrev pub all_keys : List Key
all_keys =
    Handle ∷ Number ∷ Construction ∷ FirstPoint ∷ SecondPoint ∷ ThirdPoint ∷ Normal ∷ Distance
    ∷ PlaceX ∷ PlaceY ∷ PlaceZ ∷ TurnW ∷ TurnX ∷ TurnY ∷ TurnZ ∷ Length ∷ []

abbrev pub key_place : Key → ℕ
key_place Handle = 0
key_place Number = 1
key_place Construction = 2
key_place FirstPoint = 3
key_place SecondPoint = 4
key_place ThirdPoint = 5
key_place Normal = 6
key_place Distance = 7
key_place PlaceX = 8
key_place PlaceY = 9
key_place PlaceZ = 10
key_place TurnW = 11
key_place TurnX = 12
key_place TurnY = 13
key_place TurnZ = 14
key_place Length = 15
