-- Changes of a model: the value of a parameter, and the remap list of a group.
use Rattle.std.specs.Prelude.{ℕ, ◌==◌, nat_eq, nat_lt, ℤ, pos, List, [], ◌∷◌, ◌++◌, length, Option, Some, None, Bool, false, map, codes, if◌then◌else◌}
use Rattle.std.specs.Fmt.{decimal}
use Rattle.std.specs.Ordering.{int_eq}
use Rattle.std.specs.Option.{is_none}
use Rattle.std.specs.List.{position, position_or_len, filter, filter_map}
use Rattle.sk_num.specs.Numerals.{padded}
use Rattle.sk_num.specs.Spelling.{quantity_text}
use Rattle.sk_types.specs.declared.group.Group.{Group}
use Rattle.sk_types.specs.declared.group.RemapEntry.{RemapEntry}
use Rattle.sk_types.specs.declared.entity.ParamValue.{ParamValue}
use Rattle.sk_types.specs.Lookups.{value_handle, value_of}
use Rattle.sk_records.specs.declared.kinds.Kind.TheVariants as kind
use Rattle.sk_text.specs.Lines.{TextLine}
use Rattle.sk_records.specs.Rows.{with_value, with_map}
use Rattle.sk_records.specs.Blocks.{Block, Rec, on_record, add_records}
use Rattle.sk_records.specs.ChangeLists.{Change, SetValue, SetMap}
use Rattle.sk_records.specs.Given.{list_row}
use Rattle.sk_records.specs.Laws.{plain_record}
use Rattle.sk_model.specs.declared.keys.Key.TheVariants as key
use Rattle.sk_model.specs.declared.remap.EntryNumbers.{EntryNumbers}
use Rattle.sk_model.specs.declared.remap.GroupList.{GroupList}
use Rattle.sk_model.specs.Keys.{key_bytes}
use Rattle.sk_model.specs.Typed.{group_handle}

-- a line that a change adds: it ends with a line feed
abbrev pub fed_line : List ℕ → TextLine
fed_line body = record { body = body; ending = 10 ∷ [] }

-- the first thing with a handle is changed, and the others stay
abbrev pub with_first : {T : Type 0} → (T → ℕ) → ℕ → (T → T) → List T → List T
with_first handle id f [] = []
with_first handle id f (x ∷ xs) = if id == handle x then f x ∷ xs else x ∷ with_first handle id f xs

-- ---- the value of a parameter

-- the parameters with a value set: that of the one with the handle, or else of one more at the end
abbrev pub with_param : {s : ℕ} → ℕ → ℤ → List (ParamValue s) → List (ParamValue s)
with_param id v [] = record { id = record { 0 = id }; value = v } ∷ []
with_param id v (p ∷ ps) = if id == p.id.0 then record { id = p.id; value = v } ∷ ps else p ∷ with_param id v ps

-- the record that is added for a parameter: its handle and its value, which also stands where it is 0
abbrev pub param_record : ℕ → ℕ → ℤ → Rec
param_record s id v = plain_record kind.Param ((key_bytes key.ParamHandle, padded 16 8 id) ∷ (key_bytes key.ParamValue, quantity_text s v) ∷ [])

abbrev pub new_record : {s : ℕ} → ParamValue s → Rec
new_record {s} p = param_record s p.id.0 p.value

abbrev pub is_value : ℤ → Option ℤ → Bool
is_value v None = false
is_value v (Some w) = int_eq w v

-- the value is set in the record with this place, or in a new record
abbrev pub value_put : ℕ → ℕ → ℤ → Option ℕ → List Block → List Block
value_put s id v None bs = add_records kind.Param (param_record s id v ∷ []) bs
value_put s id v (Some place) bs = on_record kind.Param place (with_value (key_bytes key.ParamValue) (quantity_text s v)) bs

-- The text in which a parameter has a value: where it has it already, all stays.
unfoldable pub param_set : {s : ℕ} → ℕ → ℤ → List (ParamValue s) → List Block → List Block
param_set {s} id v ps bs = if is_value v (value_of id ps) then bs else value_put s id v (position (nat_eq id) (map value_handle ps)) bs

-- parameters set one after the other
abbrev pub with_params : {s : ℕ} → List (ParamValue s) → List (ParamValue s) → List (ParamValue s)
with_params [] ps = ps
with_params (q ∷ qs) ps = with_params qs (with_param q.id.0 q.value ps)

-- The text in which parameters were set one after the other.
abbrev pub params_set : {s : ℕ} → List (ParamValue s) → List (ParamValue s) → List Block → List Block
params_set [] ps bs = bs
params_set (q ∷ qs) ps bs = params_set qs (with_param q.id.0 q.value ps) (param_set q.id.0 q.value ps bs)

-- the same in one pass: the parameters that have no record, and the changes of those that have another value

abbrev pub absent : {s : ℕ} → List (ParamValue s) → List (ParamValue s) → List (ParamValue s)
absent ps qs = filter (λ q. is_none (value_of q.id.0 ps)) qs

abbrev pub change_at : ℕ → ℤ → Option ℕ → Option Change
change_at s v None = None
change_at s v (Some place) = Some (SetValue place (key_bytes key.ParamValue) (quantity_text s v))

abbrev pub change_of : {s : ℕ} → List (ParamValue s) → ParamValue s → Option Change
change_of {s} ps q = if is_value q.value (value_of q.id.0 ps) then None else change_at s q.value (position (nat_eq q.id.0) (map value_handle ps))

abbrev pub value_changes : {s : ℕ} → List (ParamValue s) → List (ParamValue s) → List Change
value_changes ps qs = filter_map (change_of ps) qs

-- ---- the remap list of a group

-- the groups with the list of one of them set
abbrev pub with_remap : {s : ℕ} → ℕ → List RemapEntry → List (Group s) → List (Group s)
with_remap {s} id list gs = with_first group_handle id (λ (g : Group s). record g { remap = list }) gs

-- the numbers of an entry as they are read
abbrev pub numbers_of : RemapEntry → EntryNumbers
numbers_of e = record { number = pos e.number; source = e.source.0; copy = pos e.copy }

-- the line of an entry: four blanks, the number, a blank, the handle, a blank, which copy
abbrev pub entry_text : RemapEntry → List ℕ
entry_text e = codes "    " ++ (decimal e.number ++ (32 ∷ padded 16 8 e.source.0 ++ (32 ∷ decimal e.copy)))

-- a whole list, as it is written
abbrev pub list_lines : List RemapEntry → List TextLine
list_lines es = fed_line (codes "Group.remap={") ∷ (map (λ e. fed_line (entry_text e)) es ++ fed_line (codes "}") ∷ [])

-- The text in which a group has a list.
unfoldable pub remap_set : {s : ℕ} → ℕ → List RemapEntry → List (Group s) → List Block → List Block
remap_set id list gs bs = on_record kind.Group (position_or_len (nat_eq id) (map group_handle gs)) (with_map (map list_row (list_lines list))) bs

-- ---- the remap lists of several groups

-- the list of the group with the handle; none where there is no such group
abbrev pub list_in : {s : ℕ} → ℕ → List (Group s) → List RemapEntry
list_in id [] = []
list_in id (g ∷ gs) = if id == g.id.0 then g.remap else list_in id gs

-- whether a list is longer than the one that the group has
abbrev pub grew : {s : ℕ} → GroupList → List (Group s) → Bool
grew x gs = nat_lt (length (list_in x.group.0 gs)) (length x.entries)

-- A list is set only where it grew.
abbrev pub with_list : {s : ℕ} → GroupList → List (Group s) → List (Group s)
with_list x gs = if grew x gs then with_remap x.group.0 x.entries gs else gs

abbrev pub list_set : {s : ℕ} → GroupList → List (Group s) → List Block → List Block
list_set x gs bs = if grew x gs then remap_set x.group.0 x.entries gs bs else bs

-- lists set one after the other
abbrev pub with_lists : {s : ℕ} → List GroupList → List (Group s) → List (Group s)
with_lists [] gs = gs
with_lists (x ∷ xs) gs = with_lists xs (with_list x gs)

-- The text in which lists were set one after the other.
abbrev pub lists_set : {s : ℕ} → List GroupList → List (Group s) → List Block → List Block
lists_set [] gs bs = bs
lists_set (x ∷ xs) gs bs = lists_set xs (with_list x gs) (list_set x gs bs)

-- the same in one pass: the lists that are longer than those that stand

abbrev pub grown : {s : ℕ} → List (Group s) → List GroupList → List GroupList
grown gs xs = filter (λ x. grew x gs) xs

abbrev pub list_handle : GroupList → ℕ
list_handle x = x.group.0

abbrev pub list_change : {s : ℕ} → List (Group s) → GroupList → Option Change
list_change gs x = if grew x gs then Some (SetMap (position_or_len (nat_eq x.group.0) (map group_handle gs)) (map list_row (list_lines x.entries))) else None

abbrev pub list_changes : {s : ℕ} → List (Group s) → List GroupList → List Change
list_changes gs xs = filter_map (list_change gs) xs
