-- Changes as they are held.
use Rattle.std.specs.Prelude.{◌≡◌, ◌≤◌, ◌<◌, ℕ, List, true, length, Vec}
use Rattle.sk_text.specs.Lines.{lines_in}
use Rattle.sk_records.specs.declared.kinds.Kind.{Kind}
use Rattle.sk_records.specs.declared.kinds.Kind.TheVariants.{Group}
use Rattle.sk_records.specs.declared.rows.Span.{Span}
use Rattle.sk_records.specs.declared.items.Item.{Item}
use Rattle.sk_records.specs.declared.change_list.ValueEdit.{ValueEdit}
use Rattle.sk_records.specs.declared.change_list.MapEdit.{MapEdit}
use Rattle.sk_records.specs.declared.change_list.Edit.{Edit}
use Rattle.sk_records.specs.declared.change_list.Edit.TheVariants.{Value, Map}
use Rattle.sk_records.specs.Blocks.{Block, records, add_records}
use Rattle.sk_records.specs.ChangeLists.{Change, SetValue, SetMap, change_place, all_changed}
use Rattle.sk_records.specs.Given.{IsKey, IsValue, AllEnded, is_whole_list, given_list, given_records}
use Rattle.sk_records.specs.Holding.Held.{bytes_at, IsWithin}
use Rattle.sk_records.specs.Holding.BookHeld.{book_blocks, IsHeld}

-- what a held change is, over the bytes of its list
abbrev pub change_of : List ℕ → Edit → Change
change_of bytes (Value e) = SetValue e.place (bytes_at bytes e.start e.middle) (bytes_at bytes e.middle e.end)
change_of bytes (Map e) = SetMap e.place (given_list (bytes_at bytes e.start e.end))

-- the key and the value lie in the bytes, and may be set in a record of the kind
pub record ValueFits (k : Kind) (bytes : List ℕ) (e : ValueEdit) : Type 0 where
  pub order : e.start ≤ e.middle
  pub more : e.middle ≤ e.end
  pub within : e.end ≤ length bytes
  pub key : IsKey k (bytes_at bytes e.start e.middle)
  pub value : IsValue (bytes_at bytes e.middle e.end)

-- the lines lie in the bytes, and may be set in a group
pub record MapFits (k : Kind) (bytes : List ℕ) (e : MapEdit) : Type 0 where
  pub order : e.start ≤ e.end
  pub within : e.end ≤ length bytes
  pub group : k ≡ Group
  pub list : is_whole_list (lines_in (bytes_at bytes e.start e.end)) ≡ true
  pub ended : AllEnded (lines_in (bytes_at bytes e.start e.end))

abbrev pub EditFits : Kind → List ℕ → Edit → Type 0
EditFits k bytes (Value e) = ValueFits k bytes e
EditFits k bytes (Map e) = MapFits k bytes e

-- a book has the record that a change names
abbrev pub Exists : Kind → List Block → Change → Type 0
Exists k bs c = change_place c < length (records k bs)

abbrev pub edit_place : Edit → ℕ
edit_place (Value e) = e.place
edit_place (Map e) = e.place

-- the changes were made, and the given records put where their kind goes
pub record IsChanged {A : Type 0} (old new : List ℕ) (k : Kind) (cs : List Change) (lines : List ℕ) (was now : Span) (before after : List Item) (places : List (Vec ℕ A)) : Type 0 where
  pub book : book_blocks new now after ≡ add_records k (given_records lines) (all_changed k cs (book_blocks old was before))
  pub first : IsWithin new now
  pub held : IsHeld new after places
