-- What holds of the changes of a text, whatever the text: each law is stated in Statements, and proved by the files beside it.
pub mod Statements
pub mod MadeAnew
pub mod RecordsAfter
pub mod ValuesAfter
pub mod ListsAfter
pub mod Added
pub mod Passes
pub mod ReadAgain
pub mod BlocksKept
pub mod EndsKept
pub mod PlaceEnded
pub mod ClassOfLine
pub mod ReadSound
pub mod TextKept
pub mod Numbers
pub mod Numbering
pub mod GivenWritten
use Rattle.std.proofs.Common.{inl, inr, ◌≡◌, ◌^◌, List, [], ◌∷◌, map, length, refl, ap, sym, false, subst, ◌≤◌, Ok}
use Rattle.std.proofs.lemmas.Bool.{le-leb}
use Rattle.sk_text.specs.Lines.{TextLine, lines_in, joined}
use Rattle.sk_records.specs.declared.kinds.Kind.{Kind}
use Rattle.sk_records.specs.declared.kinds.Kind.TheVariants.{Group}
use Rattle.sk_records.specs.Blocks.{Block, has, made_anew}
use Rattle.sk_records.specs.Classes.{is_opening, is_shut}
use Rattle.sk_records.specs.Written.{Fit, IsText, bytes_of, numbered}
use Rattle.sk_records.specs.Given.{AllEnded, list_row, given_list}
pub use Rattle.sk_records.specs.Laws.Statements.{RecordsLaw, ValuesLaw, NonePlain, ListsLaw, AllSame, where_it, NoneOf, Only, PassesLaw, AnewLaw, AreRecs, EndedRecords, IsGiven, KeepsRows, TextsLaw, AddedLaw, Forgets, AllForget, NumbersLaw, NumberingLaw, ReadAgainLaw, value_row, plain_record, ArePairs, GivenLaw}
use Rattle.sk_records.specs.Laws.Added.{added_then, added_joined, changed_added}
use Rattle.sk_records.specs.Laws.Numbering.{value_forgets, map_forgets, list_bare, given_bare, bare_changed, bare_all_changed, bare_passed, bare_added, bare_anew, bare_dropped}
use Rattle.sk_records.specs.Laws.GivenWritten.{one_written, one_given, many_written, many_given, plain_given, plain_is_bare}
use Rattle.sk_records.specs.Reading.{read_text}
use Rattle.sk_records.specs.Laws.MadeAnew.{two, anew_twice}
use Rattle.sk_records.specs.Laws.RecordsAfter.{added_same, added_other, anew_same, anew_other, changed_same, changed_other, mapped_same, mapped_other, dropped_same, dropped_other, mapped_kept}
use Rattle.sk_records.specs.Laws.ClassOfLine.{key_keyless}
use Rattle.sk_records.specs.Laws.ValuesAfter.{value_set, value_other, value_twice}
use Rattle.sk_records.specs.Laws.ListsAfter.{entries_set, value_map, map_twice, entries_value}
use Rattle.sk_records.specs.Laws.Passes.{pass_then, pass_at}
use Rattle.sk_records.specs.Laws.Numbers.{bare_numbered, lines_bare, records_bare, value_bare, entries_bare, anew_same_lines}
use Rattle.sk_records.specs.Laws.ReadSound.{same_kinds}
use Rattle.sk_records.specs.Laws.ReadAgain.{text_read}
use Rattle.sk_records.specs.Laws.BlocksKept.{opened_map, header_on_record, header_on_records}
use Rattle.sk_records.specs.Laws.EndsKept.{ends_on_record, ends_on_records}
use Rattle.sk_records.specs.Laws.TextKept.{text_added, text_anew, text_dropped, value_ended, value_opened, list_fits, list_lines, map_ended, given_one, given_with_tails}

pub records_law : RecordsLaw
records_law = record {
  added_same = added_same;
  added_other = added_other;
  anew_same = anew_same;
  anew_other = anew_other;
  changed_same = changed_same;
  changed_other = changed_other;
  mapped_same = mapped_same;
  mapped_other = mapped_other;
  dropped_same = dropped_same;
  dropped_other = dropped_other;
}

pub values_law : ValuesLaw
values_law = record { whole_key = key_keyless; value_set = value_set; value_other = value_other; value_twice = value_twice; entries_value = entries_value }

rows_plain : (ls : List TextLine) → NonePlain (map list_row ls)
rows_plain [] = tt
rows_plain (l ∷ ls) = (elim (two (is_opening l.body)) [ inl e ↦ rw e refl | inr e ↦ elim (two (is_shut l.body)) [ inl f ↦ rw (e, f) refl | inr f ↦ rw (e, f) refl ] ], rows_plain ls)

pub lists_law : ListsLaw
lists_law = record { list_plain = λ lines. rows_plain (lines_in lines); entries_set = entries_set; value_map = value_map; map_twice = map_twice }

pub passes_law : PassesLaw
passes_law = record { pass_then = pass_then; pass_at = pass_at; pass_kept = mapped_kept }

none_anew : (k : Kind) (bs : List Block) → has k bs ≡ false → made_anew k [] bs ≡ bs
none_anew k bs e = rw e refl

pub anew_law : AnewLaw
anew_law = record { anew_twice = anew_twice; added_none = λ k bs. refl; anew_none = none_anew }

pub texts_law : TextsLaw
texts_law = record {
  given_one = given_one;
  given_with_tails = given_with_tails;
  added = λ k rs bs given is. text_added k rs bs is given.recs given.ended;
  anew = λ k rs bs given is. text_anew k rs bs is given.recs given.ended;
  dropped = text_dropped;
  changed = λ k i f bs keeps is. record { blocks = header_on_record k i f bs keeps.opened is.blocks; lines = ends_on_record k i f bs keeps.ended is.lines };
  mapped = λ k f bs keeps is. record { blocks = header_on_records k f bs keeps.opened is.blocks; lines = ends_on_records k f bs keeps.ended is.lines };
  value_keeps = λ k key value is_key is_value. record { opened = value_opened k key value is_key is_value; ended = value_ended k key value is_key is_value };
  list_keeps = λ lines whole all.
      (let new = given_list lines in
      let fit : Fit Group false new = list_fits (lines_in lines) whole in
      record {
        opened = λ j rows same is. opened_map j new rows (subst (λ (x : Kind). Fit x false new) (sym (same_kinds j Group same)) fit) is;
        ended = λ rows more. map_ended new rows (subst AllEnded (sym (list_lines (lines_in lines))) all) more;
      });
}

pub numbers_law : NumbersLaw
numbers_law = record {
  bare_numbered = bare_numbered;
  bytes_bare = λ bs. ap joined (lines_bare bs);
  records_bare = records_bare;
  value_bare = value_bare;
  entries_bare = entries_bare;
  anew_same_lines = anew_same_lines;
}

text_again : (bs : List Block) → IsText bs → length (bytes_of bs) ≤ 2 ^ 26 → read_text (bytes_of bs) ≡ Ok (numbered 1 bs)
text_again bs is small = rw (le-leb (length (bytes_of bs)) (2 ^ 26) small) (text_read bs is)

pub read_again_law : ReadAgainLaw
read_again_law = record { lines = text_read; text = text_again }

pub added_law : AddedLaw
added_law = record { added_then = added_then; added_joined = added_joined; changed_added = changed_added }

pub numbering_law : NumberingLaw
numbering_law = record {
  value_forgets = value_forgets;
  map_forgets = map_forgets;
  list_bare = list_bare;
  given_bare = given_bare;
  bare_changed = bare_changed;
  bare_all_changed = bare_all_changed;
  bare_passed = bare_passed;
  bare_added = bare_added;
  bare_anew = bare_anew;
  bare_dropped = bare_dropped;
}

pub given_law : GivenLaw
given_law = record { one = one_written; one_is = one_given; many = many_written; many_are = many_given; plain = plain_given; plain_bare = plain_is_bare }
