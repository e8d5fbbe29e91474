-- Which entities are points, normals, distances and faces, by their numbers in SolveSpace's file format.
use Rattle.std.specs.Prelude.{◌||◌, ℕ, Bool, List, [], ◌∷◌}
use Rattle.sk_types.specs.declared.entity_kind.TheConstants as entity_kind
use Rattle.sk_types.specs.Lists.{is_among}

abbrev pub points : List ℕ
points = entity_kind.POINT_IN_SPACE ∷ entity_kind.POINT_IN_WORKPLANE ∷ entity_kind.MOVED_POINT ∷ entity_kind.TURNED_POINT ∷ entity_kind.COPIED_POINT ∷ []

abbrev pub normals : List ℕ
normals = entity_kind.NORMAL_IN_SPACE ∷ entity_kind.NORMAL_IN_WORKPLANE ∷ entity_kind.COPIED_NORMAL ∷ entity_kind.TURNED_NORMAL ∷ []

abbrev pub distances : List ℕ
distances = entity_kind.DISTANCE ∷ entity_kind.COPIED_DISTANCE ∷ []

abbrev pub faces : List ℕ
faces = entity_kind.FACE_BY_NORMAL ∷ entity_kind.FACE_BY_LINE ∷ entity_kind.MOVED_FACE ∷ []

abbrev pub is_point : ℕ → Bool
is_point n = is_among n points

abbrev pub is_normal : ℕ → Bool
is_normal n = is_among n normals

abbrev pub is_distance : ℕ → Bool
is_distance n = is_among n distances

abbrev pub is_face : ℕ → Bool
is_face n = is_among n faces

-- points, normals and distances stand at numbers; what else there is names them
abbrev pub has_numbers : ℕ → Bool
has_numbers n = is_point n || (is_normal n || is_distance n)
