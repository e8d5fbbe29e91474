-- Each change of a text gives a text: what is written after it is read again.
use Rattle.std.proofs.Common.{◌≡◌, inl, inr, ℕ, List, [], ◌∷◌, ◌++◌, map, refl, ap, sym, ◌∙◌, true, false, Bool, Option, Some, None, nat_eq, subst}
use Rattle.std.specs.Prelude.{codes}
use Rattle.std.specs.Str.{bytes_eq}
use Rattle.std.specs.List.{filter}
use Rattle.sk_text.specs.Lines.{TextLine, lines_in, is_empty, NoFeed, ends_in_return, IsEnd, IsUnended}
use Rattle.sk_records.specs.declared.kinds.Kind.{Kind}
use Rattle.sk_records.specs.declared.kinds.Kind.TheVariants.{Group, Param, Request, Entity, Constraint, Style}
use Rattle.sk_records.specs.Kinds.{same_kind, closing_of}
use Rattle.sk_records.specs.Rows.{Row, Brace, value_in, last_value, is_known, value_body, with_value, is_plain_role, is_plain, with_map}
use Rattle.sk_records.specs.Blocks.{Block, Rec, Loose, Record, has, AllOf, with_tails, made_anew, add_records, on_record, dropped}
use Rattle.sk_records.specs.Classes.{Value, Opens, Closes, class_of, closing_class, value_class, surface_class, value_kind, closed_kind, is_surface, is_header, is_opening, is_shut, is_entry}
use Rattle.sk_records.specs.Reading.{row_line, row_lines, block_lines, Outside}
use Rattle.sk_records.specs.Written.{lines_of, within_then, Fit, Opened, AreBlocks, IsText, bare_rows, bare_rec, bare}
use Rattle.sk_records.specs.Given.{IsKey, IsValue, has_byte, AllEnded, is_end_of_list, is_list_rest, is_whole_list, list_role, list_row, given_list, recs_of, recs_read, given_records, IsOneRecord, AreRecords}
use Rattle.sk_records.specs.Laws.Statements.{AreRecs, EndedRecords, IsGiven}
use Rattle.sk_records.specs.Laws.MadeAnew.{two}
use Rattle.sk_records.specs.Laws.ValuesAfter.{same_bytes}
use Rattle.sk_records.specs.Laws.ReadSound.{reads_sound, same_kinds}
use Rattle.sk_records.specs.Laws.ClassOfLine.{class_of_value}
use Rattle.sk_records.specs.Laws.BlocksKept.{opened_value, opened_map, header_added, header_anew, header_on_record, header_dropped}
use Rattle.sk_records.specs.Laws.EndsKept.{Mends, ends_on_record, ends_dropped, ends_anew}
use Rattle.sk_records.specs.Laws.PlaceEnded.{RecordsMend, ends_added}

-- ---- closing lines and the header may get an end

closed_word : (k : Kind) (body : List ℕ) → closed_kind body ≡ Some k → body ≡ closing_of k
unfolding closed_kind
closed_word k body e =
    elim (two (bytes_eq body (closing_of Group))) [
      | inl g ↦ found Group g (rw g at e)
      | inr g0 ↦
          elim (two (bytes_eq body (closing_of Param))) [
            | inl g ↦ found Param g (rw (g0, g) at e)
            | inr g1 ↦
                elim (two (bytes_eq body (closing_of Request))) [
                  | inl g ↦ found Request g (rw (g0, g1, g) at e)
                  | inr g2 ↦
                      elim (two (bytes_eq body (closing_of Entity))) [
                        | inl g ↦ found Entity g (rw (g0, g1, g2, g) at e)
                        | inr g3 ↦
                            elim (two (bytes_eq body (closing_of Constraint))) [
                              | inl g ↦ found Constraint g (rw (g0, g1, g2, g3, g) at e)
                              | inr g4 ↦
                                  elim (two (bytes_eq body (closing_of Style))) [
                                    | inl g ↦ found Style g (rw (g0, g1, g2, g3, g4, g) at e)
                                    | inr g5 ↦
                                        (let f = rw (g0, g1, g2, g3, g4, g5) at e in cc f)
                                  ]
                            ]
                      ]
                ]
          ]
    ]
  where
    found : (j : Kind) → bytes_eq body (closing_of j) ≡ true → Some j ≡ Some k → body ≡ closing_of k
    found j g f = let same : j ≡ k = cc in same_bytes body (closing_of j) g ∙ ap closing_of same

surface_not : {P : Type 0} (t : Bool) (k : Kind) → surface_class t ≡ Closes k → P
surface_not true k e = cc
surface_not false k e = cc

value_not : {P : Type 0} (o : Option Kind) (body : List ℕ) (k : Kind) → value_class o body ≡ Closes k → P
value_not None body k e = surface_not (is_surface body) k e
value_not (Some j) body k e = cc

closing_is : (o : Option Kind) (body : List ℕ) (k : Kind) → closing_class o body ≡ Closes k → o ≡ Some k
closing_is None body k e = value_not (value_kind body) body k e
closing_is (Some j) body k e = let same : j ≡ k = cc in ap Some same

-- a line that closes a record is the closing word of its kind
pub class_closes : (k : Kind) (body : List ℕ) → class_of body ≡ Closes k → body ≡ closing_of k
unfolding class_of
class_closes k body e = elim (two (is_empty body)) [
  | inl f ↦ (let g = rw f at e in cc g)
  | inr f ↦ elim (two (is_opening body)) [
    | inl g ↦ (let h = rw (f, g) at e in cc h)
    | inr g ↦ closed_word k body (closing_is (closed_kind body) body k (rw (f, g) at e))
  ]
]

pub closing_mends : (k : Kind) → ends_in_return (closing_of k) ≡ false
closing_mends Group = refl
closing_mends Param = refl
closing_mends Request = refl
closing_mends Entity = refl
closing_mends Constraint = refl
closing_mends Style = refl

line_mends : (l : TextLine) → ends_in_return l.body ≡ false → Mends l
line_mends l e = λ (un : IsUnended l). record { clear = un.clear; end = inl (refl, e) }

header_mends : (body : List ℕ) → is_header body ≡ true → ends_in_return body ≡ false
header_mends body e = ap ends_in_return (same_bytes body (177 ∷ 178 ∷ 179 ∷ codes "SolveSpaceREVa") e)

records_mend : (bs : List Block) → AreBlocks bs → RecordsMend bs
records_mend [] is = tt
records_mend (Loose l ∷ bs) is = records_mend bs is.1
records_mend (Record r ∷ bs) is = (line_mends r.close (ap ends_in_return (class_closes r.kind r.close.body is.0.1) ∙ closing_mends r.kind), records_mend bs is.1)

-- ---- records are added, made anew, taken away

-- a text with new records is a text
pub text_added : (k : Kind) (rs : List Rec) (bs : List Block) → IsText bs → AreRecs rs → EndedRecords rs → IsText (add_records k rs bs)
text_added k [] bs is recs all = is
text_added k (r ∷ rs) [] is recs all = absurd is.blocks
text_added k (r ∷ rs) (Record x ∷ bs) is recs all = absurd is.blocks
text_added k (r ∷ rs) (Loose l ∷ bs) is recs all = record {
  blocks = header_added k (r ∷ rs) (Loose l ∷ bs) is.blocks recs;
  lines = ends_added k r rs (Loose l) bs (line_mends l (header_mends l.body is.blocks.0)) (records_mend bs is.blocks.1) all is.lines;
}

-- a text with records made anew is a text
pub text_anew : (k : Kind) (rs : List Rec) (bs : List Block) → IsText bs → AreRecs rs → EndedRecords rs → IsText (made_anew k rs bs)
text_anew k rs bs is recs all = record {
  blocks = header_anew k rs bs is.blocks recs;
  lines = elim (two (has k bs)) [
    | inl e ↦ ends_anew k rs bs e all is.lines
    | inr e ↦ rw e (text_added k rs bs is recs all).lines
  ];
}

-- a text from which a record goes is a text
pub text_dropped : (k : Kind) (i : ℕ) (bs : List Block) → IsText bs → IsText (dropped k i bs)
text_dropped k i bs is = record { blocks = header_dropped k i bs is.blocks; lines = ends_dropped k i bs is.lines }

-- ---- a value is set

pub no_feed : (xs : List ℕ) → has_byte 10 xs ≡ false → NoFeed xs
no_feed [] e = tt
no_feed (x ∷ xs) e = elim (two (nat_eq x 10)) [
  | inl f ↦ (let g = rw f at e in cc g)
  | inr f ↦ (f, no_feed xs (rw f at e))
]

NoFeed-append : (xs ys : List ℕ) → NoFeed xs → NoFeed ys → NoFeed (xs ++ ys)
NoFeed-append [] ys a b = b
NoFeed-append (x ∷ xs) ys a b = (a.0, NoFeed-append xs ys a.1 b)

return-append : (xs : List ℕ) (y : ℕ) (ys : List ℕ) → ends_in_return (xs ++ (y ∷ ys)) ≡ ends_in_return (y ∷ ys)
return-append [] y ys = refl
return-append (x ∷ []) y ys = refl
return-append (x ∷ (z ∷ zs)) y ys = return-append (z ∷ zs) y ys

value_return : (value : List ℕ) → ends_in_return value ≡ false → ends_in_return (61 ∷ value) ≡ false
value_return [] e = refl
value_return (x ∷ xs) e = e

module _ (k : Kind) (key value : List ℕ) (is_key : IsKey k key) (is_value : IsValue value) where
  pub body_clear : NoFeed (value_body key value)
  body_clear = NoFeed-append key (61 ∷ value) (no_feed key is_key.no_feed) (refl, no_feed value is_value.no_feed)

  pub body_return : ends_in_return (value_body key value) ≡ false
  body_return = return-append key 61 value ∙ value_return value is_value.no_return

  value_end : (body ending : List ℕ) → IsEnd body ending → IsEnd (value_body key value) ending
  value_end body ending (inl e) = inl (e.0, body_return)
  value_end body ending (inr e) = inr e

  pub value_ended : (rows : List Row) → AllEnded (row_lines rows) → AllEnded (row_lines (with_value key value rows))
  value_ended [] all = (record { clear = body_clear; end = inl (refl, body_return) }, tt)
  value_ended (r ∷ rs) all = elim (two (is_known (last_value key rs))) [
    | inl h ↦ rw h (all.0, value_ended rs all.1)
    | inr h ↦ elim (two (is_known (value_in key r))) [
      | inl g ↦ rw (h, g) (record { clear = body_clear; end = value_end r.body r.ending all.0.end }, all.1)
      | inr g ↦ rw (h, g) (all.0, value_ended rs all.1)
    ]
  ]

  pub value_opened : (j : Kind) (rows : List Row) → same_kind j k ≡ true → Opened j rows → Opened j (with_value key value rows)
  value_opened j rows same is = opened_value j key value rows (class_of_value k key value is_key ∙ ap Value (sym (same_kinds j k same))) is

  -- a text with a value set is a text
  pub text_value : (i : ℕ) (bs : List Block) → IsText bs → IsText (on_record k i (with_value key value) bs)
  text_value i bs is = record {
    blocks = header_on_record k i (with_value key value) bs value_opened is.blocks;
    lines = ends_on_record k i (with_value key value) bs value_ended is.lines;
  }

-- ---- a remap list is set

opening_class : class_of (codes "Group.remap={") ≡ Opens
unfolding class_of
opening_class = refl

opening_no_entry : is_entry (codes "Group.remap={") ≡ false
unfolding is_entry
opening_no_entry = refl

opens : (body : List ℕ) → is_opening body ≡ true → class_of body ≡ Opens
opens body e = ap class_of (same_bytes body (codes "Group.remap={") e) ∙ opening_class

entry_no_opening : (body : List ℕ) → is_entry body ≡ true → is_opening body ≡ false
entry_no_opening body e = elim (two (is_opening body)) [
  | inl f ↦ (let g = sym e ∙ ap is_entry (same_bytes body (codes "Group.remap={") f) ∙ opening_no_entry in cc g)
  | inr f ↦ f
]

shut_role : (body : List ℕ) → is_shut body ≡ true → list_role body ≡ Brace
shut_role body e = elim (two (is_opening body)) [ inl f ↦ rw f refl | inr f ↦ rw (f, e) refl ]

no_more : (ls : List TextLine) → is_end_of_list ls ≡ true → Fit Group false (map list_row ls)
no_more [] e = tt
no_more (l ∷ ls) e = cc

rest_fits : (ls : List TextLine) → is_list_rest ls ≡ true → Fit Group true (map list_row ls)
rest_fits [] e = cc
rest_fits (l ∷ ls) e = elim (two (is_shut l.body)) [
  | inl f ↦ (let role = shut_role l.body f in rw role (f, no_more ls (rw f at e)))
  | inr f ↦ elim (two (is_entry l.body)) [
    | inl g ↦ (let o = entry_no_opening l.body g in rw (o, f) (rw (f, g) refl, rest_fits ls (rw (f, g) at e)))
    | inr g ↦ (let h = rw (f, g) at e in cc h)
  ]
]

pub list_fits : (ls : List TextLine) → is_whole_list ls ≡ true → Fit Group false (map list_row ls)
list_fits [] e = cc
list_fits (l ∷ ls) e = elim (two (is_opening l.body)) [
  | inl f ↦ rw f (rw (opens l.body f) refl, rest_fits ls (rw f at e))
  | inr f ↦ (let g = rw f at e in cc g)
]

pub list_lines : (ls : List TextLine) → row_lines (map list_row ls) ≡ ls
list_lines [] = refl
list_lines (l ∷ ls) = ap (λ x. l ∷ x) (list_lines ls)

AllEnded-append : (a b : List Row) → AllEnded (row_lines a) → AllEnded (row_lines b) → AllEnded (row_lines (a ++ b))
AllEnded-append [] b x y = y
AllEnded-append (r ∷ a) b x y = (x.0, AllEnded-append a b x.1 y)

plain_ended : (rows : List Row) → AllEnded (row_lines rows) → AllEnded (row_lines (filter is_plain rows))
plain_ended [] all = tt
plain_ended (r ∷ rs) all = elim (two (is_plain_role r.role)) [ inl e ↦ rw e (all.0, plain_ended rs all.1) | inr e ↦ rw e (plain_ended rs all.1) ]

pub map_ended : (new rows : List Row) → AllEnded (row_lines new) → AllEnded (row_lines rows) → AllEnded (row_lines (with_map new rows))
map_ended new [] n all = n
map_ended new (r ∷ rs) n all = elim (two (is_plain_role r.role)) [
  | inl e ↦ rw e (all.0, map_ended new rs n all.1)
  | inr e ↦ rw e (AllEnded-append new (filter is_plain rs) n (plain_ended rs all.1))
]

-- a text with a remap list set is a text
pub text_list : (lines : List ℕ) (i : ℕ) (bs : List Block) → is_whole_list (lines_in lines) ≡ true → AllEnded (lines_in lines) → IsText bs → IsText (on_record Group i (with_map (given_list lines)) bs)
text_list lines i bs whole all is =
    let new = given_list lines in
    let fit : Fit Group false new = list_fits (lines_in lines) whole in
    let ends : AllEnded (row_lines new) = subst AllEnded (sym (list_lines (lines_in lines))) all in
    record {
      blocks = header_on_record Group i (with_map new) bs (λ j rows same o. opened_map j new rows (subst (λ (x : Kind). Fit x false new) (sym (same_kinds j Group same)) fit) o) is.blocks;
      lines = ends_on_record Group i (with_map new) bs (λ rows more. map_ended new rows ends more) is.lines;
    }

-- ---- given records

fit_bare : (k : Kind) (t : Bool) (rows : List Row) → Fit k t rows → Fit k t (bare_rows rows)
fit_bare k false [] f = f
fit_bare k true [] f = f
fit_bare k false (r ∷ rs) f = (f.0, fit_bare k (within_then false r.role) rs f.1)
fit_bare k true (r ∷ rs) f = (f.0, fit_bare k (within_then true r.role) rs f.1)

opened_bare : (k : Kind) (rows : List Row) → Opened k rows → Opened k (bare_rows rows)
opened_bare k [] is = is
opened_bare k (r ∷ rs) is = (record { role = is.0.role; class = is.0.class }, fit_bare k false rs is.1)

lines_bare : (rows : List Row) → row_lines (bare_rows rows) ≡ row_lines rows
lines_bare [] = refl
lines_bare (r ∷ rs) = ap (λ l. row_line r ∷ l) (lines_bare rs)

recs_blocks : (rs : List Rec) → AreBlocks (with_tails rs) → AreRecs (recs_of (bare (with_tails rs)))
recs_blocks [] is = tt
recs_blocks (r ∷ rs) is = ((opened_bare r.kind r.rows is.0.0, is.0.1), recs_blocks rs is.1.1)

all_left : (a b : List TextLine) → AllEnded (a ++ b) → AllEnded a
all_left [] b all = tt
all_left (l ∷ a) b all = (all.0, all_left a b all.1)

all_right : (a b : List TextLine) → AllEnded (a ++ b) → AllEnded b
all_right [] b all = all
all_right (l ∷ a) b all = all_right a b all.1

recs_ended : (rs : List Rec) → AllEnded (lines_of (with_tails rs)) → EndedRecords (recs_of (bare (with_tails rs)))
recs_ended [] all = tt
recs_ended (r ∷ rs) all =
    let here = all_left (block_lines (Record r)) (lines_of (Loose (record { body = []; ending = 10 ∷ [] }) ∷ with_tails rs)) all in
    let later = all_right (block_lines (Record r)) (lines_of (Loose (record { body = []; ending = 10 ∷ [] }) ∷ with_tails rs)) all in
    (subst (λ (ls : List TextLine). AllEnded (ls ++ r.close ∷ [])) (sym (lines_bare r.rows)) here, recs_ended rs later.1)

recs_kind : (k : Kind) (rs : List Rec) → AllOf k rs → AllOf k (recs_of (bare (with_tails rs)))
recs_kind k [] all = tt
recs_kind k (r ∷ rs) all = (all.0, recs_kind k rs all.1)

-- records that are given with their tails
pub given_with_tails : (k : Kind) (lines : List ℕ) → AreRecords k lines → IsGiven k (given_records lines)
given_with_tails k lines is =
    let sound = reads_sound 1 Outside (lines_in lines) (with_tails is.given) tt is.read in
    let ends : AllEnded (lines_of (with_tails is.given)) = subst AllEnded (sym sound.lines) is.ended in
    let given : given_records lines ≡ recs_of (bare (with_tails is.given)) = ap recs_read is.read in
    rw given (record { recs = recs_blocks is.given sound.blocks; ended = recs_ended is.given ends; kind = recs_kind k is.given is.kind })

-- one record that is given
pub given_one : (k : Kind) (lines : List ℕ) → IsOneRecord k lines → IsGiven k (given_records lines)
given_one k lines is =
    let sound = reads_sound 1 Outside (lines_in lines) (Record is.given ∷ []) tt is.read in
    let ends : AllEnded (block_lines (Record is.given) ++ []) = subst AllEnded (sym sound.lines) is.ended in
    let given : given_records lines ≡ bare_rec is.given ∷ [] = ap recs_read is.read in
    rw given (record {
      recs = ((opened_bare is.given.kind is.given.rows sound.blocks.0.0, sound.blocks.0.1), tt);
      ended = (subst (λ (ls : List TextLine). AllEnded (ls ++ is.given.close ∷ [])) (sym (lines_bare is.given.rows)) (all_left (block_lines (Record is.given)) [] ends), tt);
      kind = (is.kind, tt);
    })
