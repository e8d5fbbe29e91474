-- Lines that a change writes.
use Rattle.std.specs.Prelude.{◌≡◌, ℕ, ℤ, List, [], ◌∷◌, map, true, false, None, Ok}
use Rattle.std.specs.List.{flat_map}
use Rattle.sk_text.specs.Lines.{line_bytes, lines_in, IsEnded}
use Rattle.sk_num.specs.Numerals.{padded}
use Rattle.sk_num.specs.Spelling.{handle_of, quantity_of, quantity_text}
use Rattle.sk_types.specs.declared.group.RemapEntry.{RemapEntry}
use Rattle.sk_records.specs.declared.kinds.Kind.TheVariants as kind
use Rattle.sk_records.specs.Classes.{is_opening, is_shut, is_entry}
use Rattle.sk_records.specs.Rows.{value_body}
use Rattle.sk_records.specs.MapRows.{entry_lines}
use Rattle.sk_records.specs.Given.{AllEnded, is_whole_list, list_row, IsOneRecord, given_records}
use Rattle.sk_model.specs.Remap.{entry_numbers, all_numbers}
use Rattle.sk_model.specs.Changes.{fed_line, param_record, numbers_of, entry_text, list_lines}

-- the bytes of lines `key=value`, each with a line feed
unfoldable pub pair_bytes : List (List ℕ × List ℕ) → List ℕ
pair_bytes ps = flat_map (λ (p : List ℕ × List ℕ). line_bytes (fed_line (value_body p.0 p.1))) ps

-- the bytes are the record that is added for a parameter, and are read as its handle and its value
pub record IsParamText (s id : ℕ) (v : ℤ) (lines : List ℕ) : Type 0 where
  pub handle : handle_of (padded 16 8 id) ≡ Ok id
  pub value : quantity_of s (quantity_text s v) ≡ Ok v
  pub one : IsOneRecord kind.Param lines
  pub records : given_records lines ≡ param_record s id v ∷ []

-- the line of an entry is one of a remap list, and is read as the entry
pub record IsEntryText (e : RemapEntry) : Type 0 where
  pub reads : entry_numbers (record { line = None; body = entry_text e }) ≡ Ok (numbers_of e)
  pub entry : is_entry (entry_text e) ≡ true
  pub shut : is_shut (entry_text e) ≡ false
  pub opening : is_opening (entry_text e) ≡ false
  pub ended : IsEnded (fed_line (entry_text e))

-- the bytes are a whole list, and are read as the entries
pub record IsListText (es : List RemapEntry) (lines : List ℕ) : Type 0 where
  pub same : lines_in lines ≡ list_lines es
  pub ended : AllEnded (lines_in lines)
  pub whole : is_whole_list (lines_in lines) ≡ true
  pub reads : all_numbers (entry_lines (map list_row (list_lines es))) ≡ Ok (map numbers_of es)
