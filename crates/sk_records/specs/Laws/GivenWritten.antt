-- Lines that are written of whole records may be given.
use Rattle.std.proofs.Common.{◌≡◌, inl, ℕ, ◌+◌, List, [], ◌∷◌, map, refl, ap, sym, ◌∙◌, false, subst, Ok}
use Rattle.sk_text.specs.Lines.{lines_in, NoFeed}
use Rattle.sk_text.specs.LineLaws.{lines_again}
use Rattle.sk_records.specs.declared.kinds.Kind.{Kind}
use Rattle.sk_records.specs.declared.kinds.Kind.TheVariants.{Group, Param, Request, Entity, Constraint, Style}
use Rattle.sk_records.specs.Kinds.{closing_of}
use Rattle.sk_records.specs.Rows.{Row}
use Rattle.sk_records.specs.Blocks.{Block, Rec, Loose, Record, AllOf, with_tails, feed_line}
use Rattle.sk_records.specs.Classes.{Closes, class_of, closed_kind}
use Rattle.sk_records.specs.Reading.{Outside, read_from, row_lines, block_lines}
use Rattle.sk_records.specs.Written.{is_inner, Fit, AreBlocks, lines_of, bytes_of, numbered_rows, numbered, past_rows, bare_rows, bare_rec, bare}
use Rattle.sk_records.specs.Given.{AllEnded, read_given, recs_of, recs_read, given_records, IsOneRecord, AreRecords}
use Rattle.sk_records.specs.Laws.Statements.{IsGiven, value_row, plain_record, ArePairs}
use Rattle.sk_records.specs.Laws.ClassOfLine.{class_of_value}
use Rattle.sk_records.specs.Laws.Numbers.{bare_numbered}
use Rattle.sk_records.specs.Laws.ReadAgain.{same_kind_refl, reads_again}
use Rattle.sk_records.specs.Laws.BlocksKept.{are_tails}
use Rattle.sk_records.specs.Laws.EndsKept.{ends_tails, ended_are, all-append}
use Rattle.sk_records.specs.Laws.TextKept.{no_feed, closing_mends, body_clear, body_return}

-- blocks whose lines are ended are read as themselves
read_written : (bs : List Block) → AreBlocks bs → AllEnded (lines_of bs) → read_given (bytes_of bs) ≡ Ok (numbered 1 bs)
read_written bs are all = ap (read_from 1 Outside) (lines_again (lines_of bs) (ended_are (lines_of bs) all)) ∙ reads_again 1 bs are

ended_written : (bs : List Block) → AllEnded (lines_of bs) → AllEnded (lines_in (bytes_of bs))
ended_written bs all = subst AllEnded (sym (lines_again (lines_of bs) (ended_are (lines_of bs) all))) all

abbrev numbered_rec : ℕ → Rec → Rec
numbered_rec n r = record { kind = r.kind; rows = numbered_rows n r.rows; close = r.close }

-- records, numbered as they stand with their tails
abbrev numbered_recs : ℕ → List Rec → List Rec
numbered_recs n [] = []
numbered_recs n (r ∷ rs) = numbered_rec n r ∷ numbered_recs (past_rows n r.rows + 1 + 1) rs

numbered_tails : (n : ℕ) (rs : List Rec) → numbered n (with_tails rs) ≡ with_tails (numbered_recs n rs)
numbered_tails n [] = refl
numbered_tails n (r ∷ rs) = ap (λ (l : List Block). Record (numbered_rec n r) ∷ Loose feed_line ∷ l) (numbered_tails (past_rows n r.rows + 1 + 1) rs)

numbered_kind : (k : Kind) (n : ℕ) (rs : List Rec) → AllOf k rs → AllOf k (numbered_recs n rs)
numbered_kind k n [] all = tt
numbered_kind k n (r ∷ rs) all = (all.0, numbered_kind k (past_rows n r.rows + 1 + 1) rs all.1)

bare_recs : (rs : List Rec) → recs_of (bare (with_tails rs)) ≡ map bare_rec rs
bare_recs [] = refl
bare_recs (r ∷ rs) = ap (λ (l : List Rec). bare_rec r ∷ l) (bare_recs rs)

-- ---- records with their tails

module _ (k : Kind) (rs : List Rec) (given : IsGiven k rs) where
  many_read : read_given (bytes_of (with_tails rs)) ≡ Ok (numbered 1 (with_tails rs))
  many_read = read_written (with_tails rs) (are_tails rs given.recs) (ends_tails rs given.ended)

  pub many_written : AreRecords k (bytes_of (with_tails rs))
  many_written = record {
    given = numbered_recs 1 rs;
    read = many_read ∙ ap Ok (numbered_tails 1 rs);
    kind = numbered_kind k 1 rs given.kind;
    ended = ended_written (with_tails rs) (ends_tails rs given.ended);
  }

  pub many_given : given_records (bytes_of (with_tails rs)) ≡ map bare_rec rs
  many_given = ap recs_read many_read ∙ ap recs_of (bare_numbered 1 (with_tails rs)) ∙ bare_recs rs

-- ---- one record

module _ (k : Kind) (r : Rec) (given : IsGiven k (r ∷ [])) where
  one_ended : AllEnded (lines_of (Record r ∷ []))
  one_ended = all-append (block_lines (Record r)) [] given.ended.0 tt

  one_read : read_given (bytes_of (Record r ∷ [])) ≡ Ok (Record (numbered_rec 1 r) ∷ [])
  one_read = read_written (Record r ∷ []) (given.recs.0, tt) one_ended

  pub one_written : IsOneRecord k (bytes_of (Record r ∷ []))
  one_written = record { given = numbered_rec 1 r; read = one_read; kind = given.kind.0; ended = ended_written (Record r ∷ []) one_ended }

  pub one_given : given_records (bytes_of (Record r ∷ [])) ≡ bare_rec r ∷ []
  one_given = ap recs_read one_read ∙ ap recs_of (bare_numbered 1 (Record r ∷ []))

-- ---- records of lines `key=value`

closing_class : (k : Kind) → class_of (closing_of k) ≡ Closes k
unfolding class_of closed_kind
closing_class Group = refl
closing_class Param = refl
closing_class Request = refl
closing_class Entity = refl
closing_class Constraint = refl
closing_class Style = refl

closing_clear : (k : Kind) → NoFeed (closing_of k)
closing_clear Group = no_feed (closing_of Group) refl
closing_clear Param = no_feed (closing_of Param) refl
closing_clear Request = no_feed (closing_of Request) refl
closing_clear Entity = no_feed (closing_of Entity) refl
closing_clear Constraint = no_feed (closing_of Constraint) refl
closing_clear Style = no_feed (closing_of Style) refl

fit_pairs : (k : Kind) (ps : List (List ℕ × List ℕ)) → ArePairs k ps → Fit k false (map value_row ps)
fit_pairs k [] all = tt
fit_pairs k (p ∷ ps) all = (ap (is_inner k) (class_of_value k p.0 p.1 all.0.0) ∙ same_kind_refl k, fit_pairs k ps all.1)

ended_pairs : (k : Kind) (ps : List (List ℕ × List ℕ)) → ArePairs k ps → AllEnded (row_lines (map value_row ps))
ended_pairs k [] all = tt
ended_pairs k (p ∷ ps) all = (record { clear = body_clear k p.0 p.1 all.0.0 all.0.1; end = inl (refl, body_return k p.0 p.1 all.0.0 all.0.1) }, ended_pairs k ps all.1)

pub plain_given : (k : Kind) (p : List ℕ × List ℕ) (ps : List (List ℕ × List ℕ)) (rs : List Rec) → ArePairs k (p ∷ ps) → IsGiven k rs → IsGiven k (plain_record k (p ∷ ps) ∷ rs)
plain_given k p ps rs all given = record {
  recs = (((record { role = refl; class = class_of_value k p.0 p.1 all.0.0 }, fit_pairs k ps all.1), closing_class k), given.recs);
  ended = (all-append (row_lines (map value_row (p ∷ ps))) (record { body = closing_of k; ending = 10 ∷ [] } ∷ []) (ended_pairs k (p ∷ ps) all) (record { clear = closing_clear k; end = inl (refl, closing_mends k) }, tt), given.ended);
  kind = (same_kind_refl k, given.kind);
}

bare_pairs : (ps : List (List ℕ × List ℕ)) → bare_rows (map value_row ps) ≡ map value_row ps
bare_pairs [] = refl
bare_pairs (p ∷ ps) = ap (λ (l : List Row). value_row p ∷ l) (bare_pairs ps)

pub plain_is_bare : (k : Kind) (ps : List (List ℕ × List ℕ)) → bare_rec (plain_record k ps) ≡ plain_record k ps
plain_is_bare k ps = ap (λ (l : List Row). record { kind = k; rows = l; close = record { body = closing_of k; ending = 10 ∷ [] } }) (bare_pairs ps)
