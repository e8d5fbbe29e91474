-- Lines `key=value` and records that are written one behind the other.
use Rattle.std.proofs.Common.{◌≡◌, ℕ, List, [], ◌∷◌, ◌++◌, map, Result, Ok, Err, refl, sym, ap, ◌∙◌, append_assoc}
use Rattle.std.specs.Prelude.{OnOk}
use Rattle.std.proofs.lemmas.List.{append-nil}
use Rattle.std.proofs.lemmas.Grind.{flat_map-append}
use Rattle.sk_text.specs.Lines.{TextLine, line_bytes, joined}
use Rattle.sk_records.specs.declared.kinds.Kind.{Kind}
use Rattle.sk_records.specs.Kinds.{closing_of}
use Rattle.sk_records.specs.Rows.{value_body}
use Rattle.sk_records.specs.Blocks.{Block, Rec, feed_line, with_tails}
use Rattle.sk_records.specs.Reading.{row_lines, block_lines}
use Rattle.sk_records.specs.Written.{lines_of, bytes_of}
use Rattle.sk_records.specs.Laws.{value_row, plain_record}
use Rattle.sk_model.specs.Changes.{fed_line}
use Rattle.sk_model.specs.EntityRecords.{Pair}
use Rattle.sk_model.specs.WrittenLines.{pair_bytes}

-- ---- lines

pub pairs-append : (ps qs : List Pair) → pair_bytes (ps ++ qs) ≡ pair_bytes ps ++ pair_bytes qs
unfolding pair_bytes
pairs-append ps qs = flat_map-append (λ (p : Pair). line_bytes (fed_line (value_body p.0 p.1))) ps qs

pub no_pairs : (z : List ℕ) → z ≡ z ++ pair_bytes []
unfolding pair_bytes
no_pairs z = sym (append-nil z)

-- a line in its parts
pub one_line : (z a b c d key value : List ℕ) → a ≡ z ++ key → b ≡ a ++ 61 ∷ [] → c ≡ b ++ value → d ≡ c ++ 10 ∷ [] → d ≡ z ++ pair_bytes ((key, value) ∷ [])
unfolding pair_bytes
one_line z a b c d key value ea eb ec ed =
    ed ∙ ap (λ (x : List ℕ). x ++ 10 ∷ []) (ec ∙ ap (λ (x : List ℕ). x ++ value) (eb ∙ ap (λ (x : List ℕ). x ++ 61 ∷ []) ea)) ∙ simp append_assoc refl

-- some lines, then others
pub behind : (ps qs : List Pair) (z a b : List ℕ) → a ≡ z ++ pair_bytes ps → b ≡ a ++ pair_bytes qs → b ≡ z ++ pair_bytes (ps ++ qs)
behind ps qs z a b e h = h ∙ ap (λ (x : List ℕ). x ++ pair_bytes qs) e ∙ append_assoc z (pair_bytes ps) (pair_bytes qs) ∙ ap (λ (x : List ℕ). z ++ x) (sym (pairs-append ps qs))

-- the same where there is memory
pub then : {T E : Type 0} (r : Result T E) (ps qs : List Pair) (z a b : List ℕ) → a ≡ z ++ pair_bytes ps → OnOk r (b ≡ a ++ pair_bytes qs) → OnOk r (b ≡ z ++ pair_bytes (ps ++ qs))
then (Ok x) ps qs z a b e h = behind ps qs z a b e h
then (Err x) ps qs z a b e h = tt

-- ---- records

bytes-append : (cs bs : List Block) → bytes_of (cs ++ bs) ≡ bytes_of cs ++ bytes_of bs
bytes-append cs bs = ap joined (flat_map-append block_lines cs bs) ∙ flat_map-append line_bytes (lines_of cs) (lines_of bs)

tails-append : (rs qs : List Rec) → with_tails (rs ++ qs) ≡ with_tails rs ++ with_tails qs
tails-append [] qs = refl
tails-append (r ∷ rs) qs = rw (tails-append rs qs) refl

pub records-append : (rs qs : List Rec) → bytes_of (with_tails (rs ++ qs)) ≡ bytes_of (with_tails rs) ++ bytes_of (with_tails qs)
records-append rs qs = ap bytes_of (tails-append rs qs) ∙ bytes-append (with_tails rs) (with_tails qs)

rows_written : (ps : List Pair) → joined (row_lines (map value_row ps)) ≡ pair_bytes ps
unfolding pair_bytes
rows_written [] = refl
rows_written (p ∷ ps) = ap (λ (x : List ℕ). line_bytes (fed_line (value_body p.0 p.1)) ++ x) (rows_written ps)

joined-append : (a b : List TextLine) → joined (a ++ b) ≡ joined a ++ joined b
joined-append a b = flat_map-append line_bytes a b

module _ (k : Kind) (ps : List Pair) where
  abbrev closing : TextLine
  closing = record { body = closing_of k; ending = 10 ∷ [] }

  abbrev end : List ℕ
  end = closing_of k ++ (10 ∷ (10 ∷ []))

  record_bytes : bytes_of (with_tails (plain_record k ps ∷ [])) ≡ pair_bytes ps ++ end
  record_bytes =
      joined-append (row_lines (map value_row ps) ++ closing ∷ []) (feed_line ∷ [])
      ∙ ap (λ (x : List ℕ). x ++ 10 ∷ []) (joined-append (row_lines (map value_row ps)) (closing ∷ []) ∙ ap (λ (x : List ℕ). x ++ joined (closing ∷ [])) (rows_written ps))
      ∙ simp append_assoc refl

  -- a record of lines, with its tail
  pub record_written : (z a b : List ℕ) → a ≡ z ++ pair_bytes ps → b ≡ a ++ end → b ≡ z ++ bytes_of (with_tails (plain_record k ps ∷ []))
  record_written z a b e h =
      h ∙ ap (λ (x : List ℕ). x ++ end) e ∙ append_assoc z (pair_bytes ps) end ∙ ap (λ (x : List ℕ). z ++ x) (sym record_bytes)
