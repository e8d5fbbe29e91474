-- Remap lists extended by the copies that they lack (SolveSpace's numbering of copies).
use Rattle.std.specs.Prelude.{ℕ, ◌+◌, max, nat_le, List, [], ◌∷◌, ◌++◌, map, Option, Some, None, Bool, if◌then◌else◌}
use Rattle.std.specs.List.{fold, list_any}
use Rattle.sk_types.specs.declared.group.RemapEntry.{RemapEntry}
use Rattle.sk_types.specs.Copies.{CopyKey, copied, same_copy, copies_in}

abbrev pub numbers_in : List RemapEntry → List ℕ
numbers_in es = map (λ (e : RemapEntry). e.number) es

abbrev pub greatest : List RemapEntry → ℕ
greatest [] = 0
greatest (e ∷ es) = max e.number (greatest es)

abbrev pub has_copy : CopyKey → List RemapEntry → Bool
has_copy c es = list_any (same_copy c) (copies_in es)

-- the copy behind the list, with one more than the greatest number
abbrev pub with_copy : CopyKey → List RemapEntry → List RemapEntry
with_copy c es = es ++ record { number = 1 + greatest es; source = record { 0 = c.0 }; copy = c.1 } ∷ []

-- Each copy that the list lacks gets one more than the greatest number, 1 in an empty list; none where that would be 65536.
abbrev pub extended : List CopyKey → List RemapEntry → Option (List RemapEntry)
extended [] es = Some es
extended (c ∷ cs) es =
    if has_copy c es then extended cs es else
    if nat_le 65535 (greatest es) then None else
    extended cs (with_copy c es)

-- the number of a copy in a list, 0 where it has none
abbrev pub number_in : List RemapEntry → CopyKey → ℕ
number_in es c = fold (λ (n : ℕ) (e : RemapEntry). if same_copy (copied e) c then e.number else n) 0 es
