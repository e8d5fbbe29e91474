-- Where the records of each kind stand in the list of items.
use Rattle.std.specs.Prelude.{ℕ, ◌+◌, List, [], ◌∷◌, Bool, false, if◌then◌else◌, map, Vec, slice_index_or}
use Rattle.sk_records.specs.declared.kinds.Kind.{Kind}
use Rattle.sk_records.specs.declared.kinds.Kind.TheVariants.{Group, Param, Request, Entity, Constraint, Style}
use Rattle.sk_records.specs.declared.items.Item.{Item}
use Rattle.sk_records.specs.declared.items.Item.TheVariants.{Gone, Lines, Held}
use Rattle.sk_records.specs.Kinds.{same_kind, kind_place}

abbrev pub holds : Kind → Item → Bool
holds k Gone = false
holds k (Lines s) = false
holds k (Held r) = same_kind r.kind k

-- the places of the records of a kind, counted from i
abbrev pub places_from : Kind → ℕ → List Item → List ℕ
places_from k i [] = []
places_from k i (x ∷ xs) = if holds k x then i ∷ places_from k (i + 1) xs else places_from k (i + 1) xs

-- those of every kind, in the order of kinds
abbrev pub all_places : List Item → List (List ℕ)
all_places items =
    places_from Group 0 items ∷ places_from Param 0 items ∷ places_from Request 0 items ∷ places_from Entity 0 items ∷ places_from Constraint 0 items ∷ places_from Style 0 items ∷ []

abbrev pub lists_of : {A : Type 0} → List (Vec ℕ A) → List (List ℕ)
lists_of {A} vs = map (λ (v : Vec ℕ A). v.items) vs

-- the list of a kind
abbrev pub list_of : Kind → List (List ℕ) → List ℕ
list_of k lists = slice_index_or lists (kind_place k) []
