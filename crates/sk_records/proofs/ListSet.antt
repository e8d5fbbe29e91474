-- A remap list that is set among the held lines of a record.
use Rattle.std.proofs.Common.{◌≡◌, inl, inr, ℕ, List, [], ◌∷◌, ◌++◌, map, refl, ap, ◌∙◌, append_assoc}
use Rattle.std.specs.List.{All, filter}
use Rattle.std.proofs.lemmas.List.{map-append}
use Rattle.std.proofs.lemmas.List.Elements.{All-nil, All-cons, All-head, All-tail, All-append}
use Rattle.sk_text.specs.Lines.{PlacedLine, line_at}
use Rattle.sk_records.specs.declared.rows.Row as held
use Rattle.sk_records.specs.Rows.{Row, is_plain_role, is_plain, with_map}
use Rattle.sk_records.specs.Given.{list_role, list_row}
use Rattle.sk_records.specs.Holding.Marks.{mark_role}
use Rattle.sk_records.specs.Holding.Held.{row_of, row_at, rows_at, RowWithin}
use Rattle.sk_records.specs.Holding.Moves.{IsPartFrom}
use Rattle.sk_records.specs.Holding.Changes.{is_plain_row, with_list}
use Rattle.sk_records.specs.Laws.MadeAnew.{two}
use Rattle.sk_records.proofs.ReadSteps.{span_of, span_within, span_line}
use Rattle.sk_records.proofs.RowsSet.{row_lined}

plain_at : (text : List ℕ) (rows : List held.Row) → rows_at text (filter is_plain_row rows) ≡ filter is_plain (rows_at text rows)
plain_at text [] = refl
plain_at text (r ∷ rs) = elim (two (is_plain_role (mark_role r.mark))) [ inl e ↦ rw e (ap (λ l. row_at text r ∷ l) (plain_at text rs)) | inr e ↦ rw e (plain_at text rs) ]

pub list_at : (text : List ℕ) (new rows : List held.Row) → rows_at text (with_list new rows) ≡ with_map (rows_at text new) (rows_at text rows)
list_at text new [] = refl
list_at text new (r ∷ rs) = elim (two (is_plain_role (mark_role r.mark))) [
  | inl e ↦ rw e (ap (λ l. row_at text r ∷ l) (list_at text new rs))
  | inr e ↦ rw e (map-append (row_at text) new (filter is_plain_row rs) ∙ ap (λ l. rows_at text new ++ l) (plain_at text rs))
]

plain_within : (text : List ℕ) (rows : List held.Row) → All (RowWithin text) rows → All (RowWithin text) (filter is_plain_row rows)
plain_within text [] all = All-nil (RowWithin text)
plain_within text (r ∷ rs) all = elim (two (is_plain_role (mark_role r.mark))) [
  | inl e ↦ rw e (All-cons (RowWithin text) r (filter is_plain_row rs) (All-head (RowWithin text) r rs all) (plain_within text rs (All-tail (RowWithin text) r rs all)))
  | inr e ↦ rw e (plain_within text rs (All-tail (RowWithin text) r rs all))
]

pub list_within : (text : List ℕ) (new rows : List held.Row) → All (RowWithin text) new → All (RowWithin text) rows → All (RowWithin text) (with_list new rows)
list_within text new [] n all = n
list_within text new (r ∷ rs) n all = elim (two (is_plain_role (mark_role r.mark))) [
  | inl e ↦ rw e (All-cons (RowWithin text) r (with_list new rs) (All-head (RowWithin text) r rs all) (list_within text new rs n (All-tail (RowWithin text) r rs all)))
  | inr e ↦ rw e (All-append (RowWithin text) new (filter is_plain_row rs) n (plain_within text rs (All-tail (RowWithin text) r rs all)))
]

-- one more line of a given list
pub given_more : (text : List ℕ) (base : ℕ) (p : PlacedLine) (rest : List PlacedLine) (rows : List held.Row) (all : List Row) (part : IsPartFrom text base p) →
    rows_at text rows ++ map list_row (map line_at (p ∷ rest)) ≡ all →
    rows_at text (rows ++ row_of (span_of text base p part) (list_role p.line.body) 0 ∷ []) ++ map list_row (map line_at rest) ≡ all
given_more text base p rest rows all part e =
    let x : held.Row = row_of (span_of text base p part) (list_role p.line.body) 0 in
    let here : row_at text x ≡ list_row p.line = row_lined text (span_of text base p part) (list_role p.line.body) 0 p.line (span_within text base p part) (span_line text base p part) in
    ap (λ (l : List Row). l ++ map list_row (map line_at rest)) (map-append (row_at text) rows (x ∷ []))
    ∙ append_assoc (rows_at text rows) (row_at text x ∷ []) (map list_row (map line_at rest))
    ∙ ap (λ (y : Row). rows_at text rows ++ y ∷ map list_row (map line_at rest)) here
    ∙ e
