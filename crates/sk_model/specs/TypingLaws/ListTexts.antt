-- Remap lists, as they are written.
use Rattle.std.proofs.Common.{◌≡◌, inl, ℕ, ◌<◌, ◌^◌, List, [], ◌∷◌, ◌++◌, map, length, true, Some, Ok, refl, sym, ap, ◌∙◌, arith}
use Rattle.std.proofs.lemmas.List.{append-nil}
use Rattle.std.specs.Prelude.{codes}
use Rattle.std.specs.List.{All}
use Rattle.std.proofs.lemmas.List.Elements.{All-head, All-tail}
use Rattle.sk_num.specs.SpellingLaws.{handle-read_back, whole-read_back}
use Rattle.sk_text.specs.Lines.{TextLine, joined, lines_in, AreLines}
use Rattle.sk_text.specs.LineLaws.{lines_again}
use Rattle.sk_types.specs.declared.group.RemapEntry.{RemapEntry}
use Rattle.sk_records.specs.Classes as Classes
use Rattle.sk_records.specs.Classes.{is_space, is_hex_digit, after_run, after_part, after_parts, is_nothing, is_opening, is_shut, is_entry}
use Rattle.sk_records.specs.MapRows.{entry_lines}
use Rattle.sk_records.specs.Given.{AllEnded, is_list_rest, list_row}
use Rattle.sk_model.specs.Remap.{after_spaces, until_space, from_space, first_word, after_word, entry_numbers, all_numbers}
use Rattle.sk_model.specs.Changes.{fed_line, numbers_of, entry_text, list_lines}
use Rattle.sk_model.specs.WrittenLines.{IsEntryText, IsListText}
use Rattle.sk_model.specs.TypingLaws.Digits.{AreHex, AreDecimal, hex_of_decimal, decimal_digits, handle_digits}
use Rattle.sk_model.specs.TypingLaws.CleanTexts.{Clean, clean-append, clean_hex, clean_ended}

-- ---- words between blanks

after_none : (ds rest : List ℕ) → AreHex ds → 0 < length ds → after_spaces (ds ++ rest) ≡ ds ++ rest
after_none [] rest are some = absurd (omega arith)
after_none (d ∷ ds) rest are some = rw are.0.space refl

until_blank : (ds rest : List ℕ) → AreHex ds → until_space (ds ++ (32 ∷ rest)) ≡ ds
until_blank [] rest are = refl
until_blank (d ∷ ds) rest are = rw are.0.space (ap (λ l. d ∷ l) (until_blank ds rest are.1))

until_end : (ds : List ℕ) → AreHex ds → until_space ds ≡ ds
until_end [] are = refl
until_end (d ∷ ds) are = rw are.0.space (ap (λ l. d ∷ l) (until_end ds are.1))

from_blank : (ds rest : List ℕ) → AreHex ds → from_space (ds ++ (32 ∷ rest)) ≡ 32 ∷ rest
from_blank [] rest are = refl
from_blank (d ∷ ds) rest are = rw are.0.space (from_blank ds rest are.1)

-- ---- the form of an entry

run_hex : (ds rest : List ℕ) → AreHex ds → after_run is_hex_digit (ds ++ (32 ∷ rest)) ≡ 32 ∷ rest
run_hex [] rest are = refl
run_hex (d ∷ ds) rest are = rw are.0.hex (run_hex ds rest are.1)

run_decimal : (ds rest : List ℕ) → AreDecimal ds → after_run Classes.is_digit (ds ++ (32 ∷ rest)) ≡ 32 ∷ rest
run_decimal [] rest are = refl
run_decimal (d ∷ ds) rest are = rw are.0.digit (run_decimal ds rest are.1)

run_end : (ds : List ℕ) → AreDecimal ds → after_run Classes.is_digit ds ≡ []
run_end [] are = refl
run_end (d ∷ ds) are = rw are.0.digit (run_end ds are.1)

part_hex : (ds rest : List ℕ) → AreHex ds → 0 < length ds → after_part is_hex_digit (ds ++ (32 ∷ rest)) ≡ Some (32 ∷ rest)
part_hex [] rest are some = absurd (omega arith)
part_hex (d ∷ ds) rest are some = rw are.0.hex (ap Some (run_hex ds rest are.1))

part_decimal : (ds rest : List ℕ) → AreDecimal ds → 0 < length ds → after_part Classes.is_digit (ds ++ (32 ∷ rest)) ≡ Some (32 ∷ rest)
part_decimal [] rest are some = absurd (omega arith)
part_decimal (d ∷ ds) rest are some = rw are.0.digit (ap Some (run_decimal ds rest are.1))

part_end : (ds : List ℕ) → AreDecimal ds → 0 < length ds → after_part Classes.is_digit ds ≡ Some []
part_end [] are some = absurd (omega arith)
part_end (d ∷ ds) are some = rw are.0.digit (ap Some (run_end ds are.1))

blanks_end : (ds rest : List ℕ) → AreHex ds → 0 < length ds → after_run is_space (ds ++ rest) ≡ ds ++ rest
blanks_end [] rest are some = absurd (omega arith)
blanks_end (d ∷ ds) rest are some = rw are.0.space refl

module _ (n h c : List ℕ) (an : AreDecimal n) (ah : AreHex h) (ac : AreDecimal c) (sn : 0 < length n) (sh : 0 < length h) (sc : 0 < length c) where
  abbrev body : List ℕ
  body = codes "    " ++ (n ++ (32 ∷ h ++ (32 ∷ c)))

  abbrev second : List ℕ
  second = 32 ∷ h ++ (32 ∷ c)

  abbrev third : List ℕ
  third = 32 ∷ c

  pub word_first : first_word body ≡ n
  word_first = ap until_space (after_none n second (hex_of_decimal n an) sn) ∙ until_blank n (h ++ (32 ∷ c)) (hex_of_decimal n an)

  rest_first : after_word body ≡ second
  rest_first = ap from_space (after_none n second (hex_of_decimal n an) sn) ∙ from_blank n (h ++ (32 ∷ c)) (hex_of_decimal n an)

  pub word_second : first_word (after_word body) ≡ h
  word_second = ap first_word rest_first ∙ ap until_space (after_none h third ah sh) ∙ until_blank h c ah

  rest_second : after_word (after_word body) ≡ third
  rest_second = ap after_word rest_first ∙ ap from_space (after_none h third ah sh) ∙ from_blank h c ah

  last_bare : after_spaces c ≡ c
  last_bare = ap after_spaces (sym (append-nil c)) ∙ after_none c [] (hex_of_decimal c ac) sc ∙ append-nil c

  pub word_third : first_word (after_word (after_word body)) ≡ c
  word_third = ap first_word rest_second ∙ ap until_space last_bare ∙ until_end c (hex_of_decimal c ac)

  last_run : after_run is_space c ≡ c
  last_run = ap (after_run is_space) (sym (append-nil c)) ∙ blanks_end c [] (hex_of_decimal c ac) sc ∙ append-nil c

  pub entry_form : is_entry body ≡ true
  unfolding is_entry
  entry_form = rw (blanks_end n second (hex_of_decimal n an) sn, part_decimal n (h ++ (32 ∷ c)) an sn, blanks_end h third ah sh, part_hex h c ah sh, last_run, part_end c ac sc) refl

  pub entry_clean : Clean body
  entry_clean = (
    (refl, refl),
    (
      (refl, refl),
      (
        (refl, refl),
        (
          (refl, refl),
          clean-append n second (clean_hex n (hex_of_decimal n an)) ((refl, refl), clean-append h third (clean_hex h ah) ((refl, refl), clean_hex c (hex_of_decimal c ac))),
        ),
      ),
    ),
  )

pub entry_is : (e : RemapEntry) → e.number < 2 ^ 16 → e.source.0 < 2 ^ 32 → e.copy < 2 ^ 16 → IsEntryText e
unfolding entry_numbers
entry_is e a b c =
    let n = decimal_digits e.number (omega (arith, a)) in
    let h = handle_digits e.source.0 in
    let k = decimal_digits e.copy (omega (arith, c)) in
    record {
      reads = rw (word_first _ _ _ n.0 h.0 k.0 n.1 h.1 k.1, word_second _ _ _ n.0 h.0 k.0 n.1 h.1 k.1, word_third _ _ _ n.0 h.0 k.0 n.1 h.1 k.1, whole-read_back e.number (omega (arith, a)), handle-read_back e.source.0 b, whole-read_back e.copy (omega (arith, c))) refl;
      entry = entry_form _ _ _ n.0 h.0 k.0 n.1 h.1 k.1;
      shut = refl;
      opening = refl;
      ended = clean_ended (entry_text e) (entry_clean _ _ _ n.0 h.0 k.0 n.1 h.1 k.1);
    }

-- ---- whole lists

abbrev entries_fed : List RemapEntry → List TextLine
entries_fed es = map (λ (e : RemapEntry). fed_line (entry_text e)) es

rest_is : (es : List RemapEntry) → All IsEntryText es → is_list_rest (entries_fed es ++ fed_line (codes "}") ∷ []) ≡ true
rest_is [] all = refl
rest_is (e ∷ es) all =
    let h = All-head IsEntryText e es all in
    rw (h.shut, h.entry) (rest_is es (All-tail IsEntryText e es all))

all_ended : (es : List RemapEntry) → All IsEntryText es → AllEnded (entries_fed es ++ fed_line (codes "}") ∷ [])
all_ended [] all = (clean_ended (codes "}") ((refl, refl), tt), tt)
all_ended (e ∷ es) all = ((All-head IsEntryText e es all).ended, all_ended es (All-tail IsEntryText e es all))

ended_lines : (ls : List TextLine) → AllEnded ls → AreLines ls
ended_lines [] all = tt
ended_lines (l ∷ []) all = inl all.0
ended_lines (l ∷ (m ∷ ms)) all = (all.0, ended_lines (m ∷ ms) all.1)

numbers_read : (es : List RemapEntry) → All IsEntryText es → all_numbers (entry_lines (map list_row (entries_fed es ++ fed_line (codes "}") ∷ []))) ≡ Ok (map numbers_of es)
numbers_read [] all = refl
numbers_read (e ∷ es) all =
    let h = All-head IsEntryText e es all in
    rw (h.opening, h.shut) (rw (h.reads, numbers_read es (All-tail IsEntryText e es all)) refl)

opening_clean : Clean (codes "Group.remap={")
opening_clean = ((refl, refl), ((refl, refl), ((refl, refl), ((refl, refl), ((refl, refl), ((refl, refl), ((refl, refl), ((refl, refl), ((refl, refl), ((refl, refl), ((refl, refl), ((refl, refl), ((refl, refl), tt)))))))))))))

pub list_is : (es : List RemapEntry) (text : List ℕ) → All IsEntryText es → text ≡ joined (list_lines es) → IsListText es text
list_is es text all is =
    let ended : AllEnded (list_lines es) = (clean_ended (codes "Group.remap={") opening_clean, all_ended es all) in
    let same : lines_in text ≡ list_lines es = ap lines_in is ∙ lines_again (list_lines es) (ended_lines (list_lines es) ended) in
    record { same = same; ended = rw same ended; whole = rw same (rest_is es all); reads = numbers_read es all }
