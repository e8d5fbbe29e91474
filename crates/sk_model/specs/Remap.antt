-- The numbers of a group's copies, as its remap list says.
use Rattle.std.specs.Prelude.{ℕ, ◌&&◌, ℤ, pos, int_le, unsigned_abs, List, [], ◌∷◌, Bool, not, map, Result, Ok, if◌then◌else◌}
use Rattle.std.specs.List.{list_any}
use Rattle.sk_num.specs.Spelling.{handle_of, whole_of}
use Rattle.sk_types.specs.declared.group.RemapEntry.{RemapEntry}
use Rattle.sk_types.specs.Copies.{CopyKey, copied, same_copy, copies_in}
use Rattle.sk_records.specs.Classes.{is_space}
use Rattle.sk_records.specs.MapRows.{EntryLine}
use Rattle.sk_model.specs.declared.faults.ModelFault.{ModelFault}
use Rattle.sk_model.specs.declared.faults.ModelFault.TheVariants.{BadValue}
use Rattle.sk_model.specs.declared.remap.EntryNumbers.{EntryNumbers}
use Rattle.sk_model.specs.Chain.{then_of, refused, seen_in, all_of}
use Rattle.sk_model.specs.Fields.{read_at}

-- what stands behind the spaces at the front
abbrev pub after_spaces : List ℕ → List ℕ
after_spaces [] = []
after_spaces (b ∷ bs) = if is_space b then after_spaces bs else b ∷ bs

-- what stands before the first space
abbrev pub until_space : List ℕ → List ℕ
until_space [] = []
until_space (b ∷ bs) = if is_space b then [] else b ∷ until_space bs

-- from the first space on
abbrev pub from_space : List ℕ → List ℕ
from_space [] = []
from_space (b ∷ bs) = if is_space b then b ∷ bs else from_space bs

abbrev pub first_word : List ℕ → List ℕ
first_word body = until_space (after_spaces body)

abbrev pub after_word : List ℕ → List ℕ
after_word body = from_space (after_spaces body)

-- a line of a remap list: a number, the entity that is copied, and which copy of it
unfoldable pub entry_numbers : EntryLine → Result EntryNumbers ModelFault
entry_numbers l =
    then_of (read_at l.line (whole_of (first_word l.body))) (λ number.
    then_of (read_at l.line (handle_of (first_word (after_word l.body)))) (λ source.
    then_of (read_at l.line (whole_of (first_word (after_word (after_word l.body))))) (λ copy.
    Ok (record { number = number; source = source; copy = copy }))))

-- the numbers of the lines, or the first line that doesn't read
abbrev pub all_numbers : List EntryLine → Result (List EntryNumbers) ModelFault
all_numbers [] = Ok []
all_numbers (l ∷ ls) = then_of (entry_numbers l) (λ e. then_of (all_numbers ls) (λ es. Ok (e ∷ es)))

abbrev pub is_within : ℤ → ℤ → ℤ → Bool
is_within least most z = int_le least z && int_le z most

-- numbers are 1 to 65535, copies 0 to 65535
abbrev pub is_in_range : EntryNumbers → Bool
is_in_range e = is_within (pos 1) (pos 65535) e.number && is_within (pos 0) (pos 65535) e.copy

abbrev pub remap_entry : EntryNumbers → RemapEntry
remap_entry e = record { number = unsigned_abs e.number; source = record { 0 = e.source }; copy = unsigned_abs e.copy }

-- an entry over the numbers and the copies of earlier ones: it is in range, and none of them has its number or its copy
unfoldable pub entry_over : ℕ → List ℕ → List CopyKey → EntryNumbers → Result RemapEntry ModelFault
entry_over id numbers copies e =
    refused (not (is_in_range e)) (BadValue id) (
    refused (seen_in (remap_entry e).number numbers) (BadValue id) (
    refused (list_any (same_copy (copied (remap_entry e))) copies) (BadValue id) (
    Ok (remap_entry e))))

abbrev pub numbers_in : List RemapEntry → List ℕ
numbers_in es = map (λ (e : RemapEntry). e.number) es

-- the list of a group
abbrev pub remap_of : ℕ → List EntryNumbers → Result (List RemapEntry) ModelFault
remap_of id es = all_of (λ (e : RemapEntry). e) (λ before e. entry_over id (numbers_in before) (copies_in before) e) [] es
