-- Copies of entities, as a group's remap list numbers them.
use Rattle.std.specs.Prelude.{ℕ, ◌&&◌, nat_eq, List, map, Bool}
use Rattle.sk_types.specs.declared.group.RemapEntry.{RemapEntry}

-- an entity that is copied, by its handle, and which copy of it
abbrev pub CopyKey : Type 0
CopyKey = ℕ × ℕ

abbrev pub same_copy : CopyKey → CopyKey → Bool
same_copy a b = nat_eq a.0 b.0 && nat_eq a.1 b.1

-- what an entry numbers
abbrev pub copied : RemapEntry → CopyKey
copied e = (e.source.0, e.copy)

abbrev pub copies_in : List RemapEntry → List CopyKey
copies_in es = map copied es
