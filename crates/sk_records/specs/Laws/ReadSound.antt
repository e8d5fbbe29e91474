-- What is read is blocks of a text, and their lines are the lines that were read.
use Rattle.std.proofs.Common.{◌≡◌, inl, inr, ℕ, ◌+◌, List, [], ◌∷◌, ◌++◌, refl, ap, sym, ◌∙◌, cond, true, false, Bool, append_assoc, nat_eq, Result, Ok, Err, subst}
use Rattle.std.proofs.lemmas.List.{append-nil}
use Rattle.std.proofs.lemmas.Bool.{eqb-true}
use Rattle.sk_text.specs.Lines.{TextLine, lines_in, AreLines}
use Rattle.sk_text.specs.LineLaws.{lines_ended}
use Rattle.sk_records.specs.declared.kinds.Kind.{Kind}
use Rattle.sk_records.specs.declared.kinds.Kind.TheVariants.{Group, Param, Request, Entity, Constraint, Style}
use Rattle.sk_records.specs.declared.faults.ReadFault.{ReadFault}
use Rattle.sk_records.specs.Kinds.{same_kind, kind_place}
use Rattle.sk_records.specs.Rows.{Row, Plain, Brace, Entry}
use Rattle.sk_records.specs.Blocks.{Block, Loose, Record}
use Rattle.sk_records.specs.Classes.{LineClass, Empty, Value, Opens, Closes, Surface, Unknown, class_of, is_header, is_shut, is_entry}
use Rattle.sk_records.specs.Reading.{State, Outside, Inside, Within, Step, Bad, Goes, Gives, row_at, outside, inside, within, step, with_block, onward, read_from, read_lines, row_line, row_lines, block_lines}
use Rattle.sk_records.specs.Written.{lines_of, is_inner, opens_list, fits, within_then, Fit, IsFirst, Opened, is_loose, IsBlock, AreBlocks, HasHeader, IsText}
use Rattle.sk_records.specs.Laws.MadeAnew.{two}

-- the lines fit from one flag to another
abbrev FitTo : Kind → Bool → List Row → Bool → Type 0
FitTo k t [] u = t ≡ u
FitTo k t (r ∷ rs) u = (fits k t r.role r.body ≡ true) × FitTo k (within_then t r.role) rs u

fit_whole : (k : Kind) (t : Bool) (rows : List Row) → FitTo k t rows false → Fit k t rows
fit_whole k false [] f = tt
fit_whole k true [] f = cc
fit_whole k false (r ∷ rs) f = (f.0, fit_whole k (within_then false r.role) rs f.1)
fit_whole k true (r ∷ rs) f = (f.0, fit_whole k (within_then true r.role) rs f.1)

fit_push : (k : Kind) (t : Bool) (rows : List Row) (u : Bool) (r : Row) → FitTo k t rows u → fits k u r.role r.body ≡ true → FitTo k t (rows ++ (r ∷ [])) (within_then u r.role)
fit_push k t [] u r f g = rw f (g, refl)
fit_push k t (x ∷ rows) u r f g = (f.0, fit_push k (within_then t x.role) rows u r f.1 g)

abbrev OpenTo : Kind → List Row → Bool → Type 0
OpenTo k [] u = ⊥
OpenTo k (r ∷ rs) u = IsFirst k r × FitTo k false rs u

open_push : (k : Kind) (rows : List Row) (u : Bool) (r : Row) → OpenTo k rows u → fits k u r.role r.body ≡ true → OpenTo k (rows ++ (r ∷ [])) (within_then u r.role)
open_push k [] u r f g = absurd f
open_push k (x ∷ rows) u r f g = (f.0, fit_push k false rows u r f.1 g)

open_whole : (k : Kind) (rows : List Row) → OpenTo k rows false → Opened k rows
open_whole k [] f = absurd f
open_whole k (x ∷ rows) f = (f.0, fit_whole k false rows f.1)

abbrev StateFits : State → Type 0
StateFits Outside = Unit {0}
StateFits (Inside k first rows) = OpenTo k rows false
StateFits (Within k first at rows) = OpenTo k rows true

abbrev state_lines : State → List TextLine
state_lines Outside = []
state_lines (Inside k first rows) = row_lines rows
state_lines (Within k first at rows) = row_lines rows

pub row_lines-append : (a b : List Row) → row_lines (a ++ b) ≡ row_lines a ++ row_lines b
row_lines-append [] b = refl
row_lines-append (r ∷ a) b = ap (λ l. row_line r ∷ l) (row_lines-append a b)

-- what one line does keeps the blocks and the lines
record Sound (s : State) (l : TextLine) (x : Step) : Type 0 where
  goes : (t : State) → x ≡ Goes t → StateFits t × (state_lines t ≡ state_lines s ++ l ∷ [])
  gives : (b : Block) (t : State) → x ≡ Gives b t → IsBlock b × (StateFits t × (block_lines b ++ state_lines t ≡ state_lines s ++ l ∷ []))

sound_bad : (s : State) (l : TextLine) → Sound s l Bad
sound_bad s l = record { goes = λ t e. cc; gives = λ b t e. cc }

sound_goes : (s : State) (l : TextLine) (u : State) → StateFits u → state_lines u ≡ state_lines s ++ l ∷ [] → Sound s l (Goes u)
sound_goes s l u fit lines = record {
  goes = λ t e. (let same : u ≡ t = cc in subst (λ (v : State). StateFits v × (state_lines v ≡ state_lines s ++ l ∷ [])) same (fit, lines));
  gives = λ b t e. cc;
}

sound_gives : (s : State) (l : TextLine) (c : Block) → IsBlock c → block_lines c ≡ state_lines s ++ l ∷ [] → Sound s l (Gives c Outside)
sound_gives s l c is lines = record {
  goes = λ t e. cc;
  gives = λ b t e. (let same : c ≡ b = cc in let out : Outside ≡ t = cc in
      (subst IsBlock same is, (subst StateFits out tt, ap (λ x. block_lines b ++ state_lines x) (sym out) ∙ append-nil (block_lines b) ∙ ap block_lines (sym same) ∙ lines)));
}

sound_outside : (n : ℕ) (l : TextLine) (c : LineClass) → class_of l.body ≡ c → Sound Outside l (outside n l c)
sound_outside n l Empty e = sound_gives Outside l (Loose l) (ap is_loose e) refl
sound_outside n l (Value k) e = sound_goes Outside l (Inside k n (row_at n Plain l ∷ [])) (record { role = refl; class = e }, refl) refl
sound_outside n l Opens e = sound_bad Outside l
sound_outside n l (Closes k) e = sound_bad Outside l
sound_outside n l Surface e = sound_gives Outside l (Loose l) (ap is_loose e) refl
sound_outside n l Unknown e = sound_bad Outside l

sound_row : (n : ℕ) (k : Kind) (first : ℕ) (rows : List Row) (l : TextLine) → StateFits (Inside k first rows) → is_inner k (class_of l.body) ≡ true → Sound (Inside k first rows) l (Goes (Inside k first (rows ++ (row_at n Plain l ∷ []))))
sound_row n k first rows l fit e = sound_goes (Inside k first rows) l (Inside k first (rows ++ (row_at n Plain l ∷ []))) (open_push k rows false (row_at n Plain l) fit e) (row_lines-append rows (row_at n Plain l ∷ []))

abbrev kind_at : ℕ → Kind
kind_at n = cond (nat_eq n 0) Group (cond (nat_eq n 1) Param (cond (nat_eq n 2) Request (cond (nat_eq n 3) Entity (cond (nat_eq n 4) Constraint Style))))

at_place : (k : Kind) → kind_at (kind_place k) ≡ k
at_place Group = refl
at_place Param = refl
at_place Request = refl
at_place Entity = refl
at_place Constraint = refl
at_place Style = refl

pub same_kinds : (j k : Kind) → same_kind j k ≡ true → j ≡ k
same_kinds j k e = sym (at_place j) ∙ ap kind_at (eqb-true (kind_place j) (kind_place k) e) ∙ at_place k

sound_inside : (n : ℕ) (k : Kind) (first : ℕ) (rows : List Row) (l : TextLine) (c : LineClass) → StateFits (Inside k first rows) → class_of l.body ≡ c → Sound (Inside k first rows) l (inside n k first rows l c)
sound_inside n k first rows l Empty fit e = sound_row n k first rows l fit (ap (is_inner k) e)
sound_inside n k first rows l (Value j) fit e = elim (two (same_kind j k)) [
  | inl f ↦ rw f (sound_row n k first rows l fit (ap (is_inner k) e ∙ f))
  | inr f ↦ rw f (sound_bad (Inside k first rows) l)
]
sound_inside n k first rows l Opens fit e = elim (two (same_kind k Group)) [
  | inl f ↦ rw f (sound_goes (Inside k first rows) l (Within k first n (rows ++ (row_at n Brace l ∷ []))) (open_push k rows false (row_at n Brace l) fit (ap (opens_list k) e ∙ f)) (row_lines-append rows (row_at n Brace l ∷ [])))
  | inr f ↦ rw f (sound_bad (Inside k first rows) l)
]
sound_inside n k first rows l (Closes j) fit e = elim (two (same_kind j k)) [
  | inl f ↦ rw f (sound_gives (Inside k first rows) l (Record (record { kind = k; rows = rows; close = l })) (open_whole k rows fit, e ∙ ap Closes (same_kinds j k f)) refl)
  | inr f ↦ rw f (sound_bad (Inside k first rows) l)
]
sound_inside n k first rows l Surface fit e = sound_bad (Inside k first rows) l
sound_inside n k first rows l Unknown fit e = sound_bad (Inside k first rows) l

sound_within : (n : ℕ) (k : Kind) (first at : ℕ) (rows : List Row) (l : TextLine) → StateFits (Within k first at rows) → Sound (Within k first at rows) l (within n k first at rows l)
sound_within n k first at rows l fit = elim (two (is_shut l.body)) [
  | inl e ↦ rw e (sound_goes (Within k first at rows) l (Inside k first (rows ++ (row_at n Brace l ∷ []))) (open_push k rows true (row_at n Brace l) fit e) (row_lines-append rows (row_at n Brace l ∷ [])))
  | inr e ↦ elim (two (is_entry l.body)) [
    | inl f ↦ rw (e, f) (sound_goes (Within k first at rows) l (Within k first at (rows ++ (row_at n Entry l ∷ []))) (open_push k rows true (row_at n Entry l) fit (rw (e, f) refl)) (row_lines-append rows (row_at n Entry l ∷ [])))
    | inr f ↦ rw (e, f) (sound_bad (Within k first at rows) l)
  ]
]

sound_step : (n : ℕ) (s : State) (l : TextLine) → StateFits s → Sound s l (step n s l)
sound_step n Outside l fit = sound_outside n l (class_of l.body) refl
sound_step n (Inside k first rows) l fit = sound_inside n k first rows l (class_of l.body) fit refl
sound_step n (Within k first at rows) l fit = sound_within n k first at rows l fit

pub record IsSound (s : State) (ls : List TextLine) (bs : List Block) : Type 0 where
  pub blocks : AreBlocks bs
  pub lines : lines_of bs ≡ state_lines s ++ ls

ok_parts : (b : Block) (r : Result (List Block) ReadFault) (bs : List Block) → with_block b r ≡ Ok bs → (cs : List Block) × ((r ≡ Ok cs) × (bs ≡ b ∷ cs))
ok_parts b (Ok cs) bs e = (cs, (refl, (let p : b ∷ cs ≡ bs = cc in sym p)))
ok_parts b (Err f) bs e = cc

-- what is read from a state
pub reads_sound : (n : ℕ) (s : State) (ls : List TextLine) (bs : List Block) → StateFits s → read_from n s ls ≡ Ok bs → IsSound s ls bs
reads_sound n Outside [] bs fit e = let none : [] ≡ bs = cc in record { blocks = subst AreBlocks none tt; lines = ap lines_of (sym none) }
reads_sound n (Inside k first rows) [] bs fit e = cc
reads_sound n (Within k first at rows) [] bs fit e = cc
reads_sound n s (l ∷ ls) bs fit e = by_step (step n s l) (sound_step n s l fit) e (λ t cs. reads_sound (n + 1) t ls cs)
  where
    by_step : (x : Step) → Sound s l x → onward n x (λ t. read_from (n + 1) t ls) ≡ Ok bs → ((t : State) (cs : List Block) → StateFits t → read_from (n + 1) t ls ≡ Ok cs → IsSound t ls cs) → IsSound s (l ∷ ls) bs
    by_step Bad sound e go = cc
    by_step (Goes t) sound e go =
        let is = sound.goes t refl in
        let more = go t bs is.0 e in
        record { blocks = more.blocks; lines = more.lines ∙ ap (λ x. x ++ ls) is.1 ∙ append_assoc (state_lines s) (l ∷ []) ls }
    by_step (Gives b t) sound e go =
        let is = sound.gives b t refl in
        let parts = ok_parts b (read_from (n + 1) t ls) bs e in
        let more = go t parts.0 is.1.0 parts.1.0 in
        record {
          blocks = rw parts.1.1 (is.0, more.blocks);
          lines = ap lines_of parts.1.1 ∙ ap (λ x. block_lines b ++ x) more.lines ∙ sym (append_assoc (block_lines b) (state_lines t) ls) ∙ ap (λ x. x ++ ls) is.1.1 ∙ append_assoc (state_lines s) (l ∷ []) ls;
        }

-- a text that is read gives blocks of a text, whose lines are its lines
pub lines_sound : (ls : List TextLine) (bs : List Block) → read_lines ls ≡ Ok bs → HasHeader bs × (lines_of bs ≡ ls)
lines_sound [] bs e = cc
lines_sound (l ∷ ls) bs e = elim (two (is_header l.body)) [
  | inl h ↦ (
      let parts = ok_parts (Loose l) (read_from 2 Outside ls) bs (rw h at e) in
      let more = reads_sound 2 Outside ls parts.0 tt parts.1.0 in
      rw parts.1.1 ((h, more.blocks), ap (λ x. l ∷ x) more.lines))
  | inr h ↦ (let g = rw h at e in cc g)
]

pub text_sound : (text : List ℕ) (bs : List Block) → read_lines (lines_in text) ≡ Ok bs → IsText bs
text_sound text bs e =
    let is = lines_sound (lines_in text) bs e in
    record { blocks = is.0; lines = subst AreLines (sym is.1) (lines_ended text) }
