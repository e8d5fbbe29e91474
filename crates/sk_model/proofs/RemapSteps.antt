-- Steps of a remap list.
use Rattle.std.proofs.Common.{◌≡◌, ℕ, ◌+◌, ◌<◌, List, [], ◌∷◌, ◌++◌, length, get_or, map, Result, Ok, Err}
use Rattle.sk_types.specs.declared.group.RemapEntry.{RemapEntry}
use Rattle.sk_model.specs.declared.faults.ModelFault.{ModelFault}
use Rattle.sk_model.specs.declared.remap.EntryNumbers.{EntryNumbers}
use Rattle.sk_types.specs.Copies.{copies_in}
use Rattle.sk_model.specs.Remap.{entry_over, numbers_in}
use Rattle.sk_model.proofs.Steps.{RestOf, rest_step, rest_fault, map_same}

abbrev over_entries : ℕ → List RemapEntry → EntryNumbers → Result RemapEntry ModelFault
over_entries id before e = entry_over id (numbers_in before) (copies_in before) e

-- what is left of a list behind the entries that are made
abbrev pub RestOfEntries : ℕ → List RemapEntry → ℕ → List EntryNumbers → Result (List RemapEntry) ModelFault
RestOfEntries id xs i rs = RestOf (λ (e : RemapEntry). e) (λ before e. entry_over id (numbers_in before) (copies_in before) e) xs i rs

over_made : (id : ℕ) (xs : List RemapEntry) (numbers : List ℕ) (copies : List (ℕ × ℕ)) (e : EntryNumbers) (r m : Result RemapEntry ModelFault) →
    r ≡ entry_over id numbers copies e → numbers ≡ numbers_in xs → copies ≡ copies_in xs → r ≡ m → over_entries id (map (λ (x : RemapEntry). x) xs) e ≡ m
over_made id xs numbers copies e r m h n c q = rw (map_same xs) (rw (← n, ← c, ← h) q)

pub entries_step : (id : ℕ) (xs xs' : List RemapEntry) (x : RemapEntry) (numbers : List ℕ) (copies : List (ℕ × ℕ)) (i : ℕ) (rs : List EntryNumbers) (d : EntryNumbers) (r : Result RemapEntry ModelFault) (m : Result (List RemapEntry) ModelFault) →
    r ≡ entry_over id numbers copies (get_or rs i d) → r ≡ Ok x → numbers ≡ numbers_in xs → copies ≡ copies_in xs → i < length rs → xs' ≡ xs ++ (x ∷ []) → RestOfEntries id xs i rs ≡ m → RestOfEntries id xs' (i + 1) rs ≡ m
entries_step id xs xs' x numbers copies i rs d r m h q n c l e p =
    rw e (rest_step (λ (e : RemapEntry). e) (over_entries id) xs x i rs d m l (over_made id xs numbers copies (get_or rs i d) r (Ok x) h n c q) p)

pub entries_fault : (id : ℕ) (xs : List RemapEntry) (f : ModelFault) (numbers : List ℕ) (copies : List (ℕ × ℕ)) (i : ℕ) (rs : List EntryNumbers) (d : EntryNumbers) (r : Result RemapEntry ModelFault) (m : Result (List RemapEntry) ModelFault) →
    r ≡ entry_over id numbers copies (get_or rs i d) → r ≡ Err f → numbers ≡ numbers_in xs → copies ≡ copies_in xs → i < length rs → RestOfEntries id xs i rs ≡ m → m ≡ Err f
entries_fault id xs f numbers copies i rs d r m h q n c l p =
    rest_fault (λ (e : RemapEntry). e) (over_entries id) xs i rs d f m l (over_made id xs numbers copies (get_or rs i d) r (Err f) h n c q) p
