-- What a session holds.
use Rattle.std.proofs.Common.{◌≡◌, inl, inr, ℕ, ◌+◌, List, [], ◌∷◌, ◌++◌, Bool, true, false, nat_eq, Ok, refl, sym, ap, ◌∙◌, subst}
use Rattle.std.specs.Prelude.{◌==◌, ℤ}
use Rattle.std.proofs.lemmas.Bool.{cases_Bool, eq-eqb}
use Rattle.std.proofs.lemmas.List.{append-nil}
use Rattle.std.proofs.lemmas.List.Elements.{filter-append}
use Rattle.sk_num.specs.Scale.{IsScale}
use Rattle.sk_text.specs.Lines.{joined}
use Rattle.sk_types.specs.declared.handle.GroupId.{GroupId}
use Rattle.sk_types.specs.declared.handle.ParamId.{ParamId}
use Rattle.sk_types.specs.declared.entity.ParamValue.{ParamValue}
use Rattle.sk_types.specs.declared.entity.Numbers.{Numbers}
use Rattle.sk_records.specs.declared.kinds.Kind.TheVariants as kind
use Rattle.sk_records.specs.Kinds.{same_kind}
use Rattle.sk_records.specs.Blocks.{Block, Loose, Record, has, made_anew}
use Rattle.sk_records.specs.Laws.{numbers_law, read_again_law}
use Rattle.sk_records.specs.Laws.ReadSound.{text_sound}
use Rattle.sk_records.specs.Written.{IsText, bytes_of, numbered, past_rows}
use Rattle.sk_model.specs.Changes.{params_set}
use Rattle.sk_model.specs.EntityRecords.{entity_records}
use Rattle.sk_model.specs.Typed.{Typed, typed}
use Rattle.sk_model.specs.TypingLaws.{typing_law, set_params_law, set_lists_law}
use Rattle.sk_chain.specs.Outlines.{Outlined}
use Rattle.sk_solve.specs.declared.report.Listed.{Listed}
use Rattle.sk_regen.specs.Works.{Works}
use Rattle.sk_regen.specs.Regeneration.{Left, State, taken, started, found, left_by, is_listed, members_of, folded, at_references, regenerated, regenerated_over}
use Rattle.sk_regen.specs.FoldLaws.{AllStored, Each, StandsAs, AgreeOutside, SameStored, SameStarts, SameGroup, UndoneLaw}
use Rattle.sk_regen.specs.NewText.{Below, order_of, works_of, outcome, new_blocks, new_lists, regen}
use Rattle.sk_regen.specs.NewTextLaws.{OwnsParams, IsSound, BlocksAgain, IsFixed, AllDiffer, SettledLaw, EditedLaw, FixedLaw}
use Rattle.sk_regen.proofs.Placed.{ids_placed, flip}
use Rattle.sk_regen.proofs.Folded.{starts, ids_started, dirty_full}
use Rattle.sk_regen.proofs.Owned.{each_stored}
use Rattle.sk_regen.proofs.NewTexts.{blocks_again_law, stored-each, each-through, none_grew, same_works, stored, has_entities, anew_same}

module _ (s : ℕ) (w : Works s) (stored : List (ParamValue s)) where
  abbrev of_group : GroupId → Listed s → Bool
  of_group g m = m.group.0 == g.0

  -- the members of a group that comes no more
  none_later : (g : GroupId) (order : List GroupId) (st : State s) → is_listed order g ≡ false → members_of g (folded (left_by w stored) order st).members ≡ members_of g st.members
  none_later g [] st e = refl
  none_later g (h ∷ hs) st e = elim (cases_Bool (nat_eq g.0 h.0)) [
    | inl t ↦ (let no : true ≡ false = rw t at e in cc no)
    | inr f ↦ (let more : is_listed hs g ≡ false = rw f at e in
        none_later g hs (taken st (left_by w stored st.numbers h)) more
        ∙ filter-append (of_group g) st.members (left_by w stored st.numbers h).members
        ∙ ap (λ (l : List (Listed s)). members_of g st.members ++ l) (alone g h (flip g.0 h.0 f))
        ∙ append-nil (members_of g st.members))
  ]
    where
      alone : (g h : GroupId) → nat_eq h.0 g.0 ≡ false → members_of g (left_by w stored st.numbers h).members ≡ []
      alone g h f = rw f refl

  -- no member so far is of a group that comes
  abbrev NoneYet : List (Listed s) → List GroupId → Type 0
  NoneYet ms [] = Unit {0}
  NoneYet ms (g ∷ gs) = (members_of g ms ≡ []) × NoneYet ms gs

  settled : (report : List (Listed s)) (order : List GroupId) (st : State s) → report ≡ (folded (left_by w stored) order st).members → AllDiffer order → NoneYet st.members order
      → Each (left_by w stored) (λ n g x. AllStored stored x.params) order st → Each (left_by w stored) (StandsAs w stored report) order st
  settled report [] st is differ yet all = tt
  settled report (g ∷ gs) st is differ yet all =
      let x : Left s = left_by w stored st.numbers g in (
        record {
          member = ap (members_of g) is ∙ none_later g gs (taken st x) differ.0 ∙ filter-append (of_group g) st.members x.members ∙ ap (λ (l : List (Listed s)). l ++ members_of g x.members) yet.0 ∙ own g;
          params = starts s w stored st.numbers g (w.own g) x.params (ids_placed s (w.is_unknown g) (started w stored st.numbers g) (found w st.numbers g (started w stored st.numbers g)).point ∙ ids_started s w stored st.numbers g (w.own g)) all.0;
        },
        settled report gs (taken st x) is differ.1 (later g gs differ.0 yet.1) all.1,
      )
    where
      own : (g : GroupId) → members_of g (left_by w stored st.numbers g).members ≡ (left_by w stored st.numbers g).members
      own g = rw (eq-eqb g.0 g.0 refl) refl

      later : (g : GroupId) (hs : List GroupId) → is_listed hs g ≡ false → NoneYet st.members hs → NoneYet (st.members ++ (left_by w stored st.numbers g).members) hs
      later g [] e y = tt
      later g (h ∷ hs) e y = elim (cases_Bool (nat_eq g.0 h.0)) [
        | inl t ↦ (let no : true ≡ false = rw t at e in cc no)
        | inr f ↦ (
          filter-append (of_group h) st.members (left_by w stored st.numbers g).members ∙ ap (λ (l : List (Listed s)). l ++ members_of h (left_by w stored st.numbers g).members) y.0 ∙ rw f refl,
          later g hs (rw f at e) y.1,
        )
      ]

  none_yet : (order : List GroupId) → NoneYet [] order
  none_yet [] = tt
  none_yet (g ∷ gs) = (refl, none_yet gs)

pub settled_law : SettledLaw
settled_law s b bs l o report is differ =
    let w : Works s = works_of b l o in
    settled s w l.params report (order_of o) (at_references w) is.members differ (none_yet s w l.params (order_of o))
    (each-through s l.params (outcome b l o).numbers.params (left_by w l.params) (order_of o) (at_references w) is.params
    (each_stored w l.params (order_of o) (at_references w) is.own.apart))

pub edited_law : EditedLaw
edited_law s b bs l o report m p own dirty is differ order same =
    ap (λ (gs : List GroupId). regenerated_over (works_of b m p) m.params dirty report gs) order
    ∙ dirty_full s own (works_of b l o) (works_of b m p) l.params m.params dirty report same (order_of o) (settled_law s b bs l o report is differ)
    ∙ ap (regenerated (works_of b m p) m.params) (sym order)

-- ---- texts that are their own regeneration

-- nothing is set in them
fixed_blocks : (s : ℕ) (b : Below s) (bs cs : List Block) (l : Typed s) (o : Outlined s) (report : List (Listed s)) → IsFixed b bs l o report
    → new_blocks b l o cs ≡ made_anew kind.Entity (entity_records (outcome b l o).numbers.acts o.outline.entities) cs
fixed_blocks s b bs cs l o report is =
    ap (λ (ds : List Block). made_anew kind.Entity (entity_records (outcome b l o).numbers.acts o.outline.entities) (params_set (outcome b l o).numbers.params l.params ds)) (set_lists_law.same_text s o.lists l.groups cs is.lists)
    ∙ ap (made_anew kind.Entity (entity_records (outcome b l o).numbers.acts o.outline.entities)) (set_params_law.same_text s (outcome b l o).numbers.params l.params cs (stored-each s l.params (outcome b l o).numbers.params is.params))

has_numbered : (n : ℕ) (bs : List Block) → has kind.Entity (numbered n bs) ≡ has kind.Entity bs
has_numbered n [] = refl
has_numbered n (Loose l ∷ bs) = has_numbered (n + 1) bs
has_numbered n (Record r ∷ bs) = elim (cases_Bool (same_kind r.kind kind.Entity)) [ inl t ↦ rw t refl | inr f ↦ rw f (has_numbered (past_rows n r.rows + 1) bs) ]

bytes_numbered : (bs : List Block) → bytes_of (numbered 1 bs) ≡ bytes_of bs
bytes_numbered bs = sym (numbers_law.bytes_bare (numbered 1 bs)) ∙ ap bytes_of (numbers_law.bare_numbered 1 bs) ∙ numbers_law.bytes_bare bs

read_again : (s : ℕ) (b : Below s) (bs : List Block) (l : Typed s) (o : Outlined s) (report : List (Listed s)) → IsFixed b bs l o report → IsFixed b (numbered 1 bs) l o report
read_again s b bs l o report is = record {
  is_text = text_sound (bytes_of bs) (numbered 1 bs) (read_again_law.lines bs is.is_text);
  typed = typing_law.numbers s bs (numbered 1 bs) l (numbers_law.bare_numbered 1 bs) is.typed;
  outline = is.outline;
  lists = is.lists;
  own = is.own;
  params = is.params;
  some = has_numbered 1 bs ∙ is.some;
  entities = ap joined (numbers_law.anew_same_lines kind.Entity (entity_records (outcome b l o).numbers.acts o.outline.entities) bs (numbered 1 bs) is.some (numbers_law.bare_numbered 1 bs)) ∙ is.entities ∙ sym (bytes_numbered bs);
  members = is.members;
}

fixed_again : (s : ℕ) (b : Below s) (bs : List Block) (l : Typed s) (o : Outlined s) (report : List (Listed s)) → IsFixed b bs l o report → regen b (bytes_of bs) ≡ Ok (record { text = bytes_of bs; report = report })
fixed_again s b bs l o report is =
    let again : IsFixed b (numbered 1 bs) l o report = read_again s b bs l o report is in
    let bytes : bytes_of (new_blocks b l o (numbered 1 bs)) ≡ bytes_of bs =
    ap bytes_of (fixed_blocks s b bs (numbered 1 bs) l o report is)
    ∙ ap joined (numbers_law.anew_same_lines kind.Entity (entity_records (outcome b l o).numbers.acts o.outline.entities) bs (numbered 1 bs) is.some (numbers_law.bare_numbered 1 bs)) ∙ is.entities in
    rw (read_again_law.lines bs is.is_text, again.typed, is.outline, bytes, sym is.members) refl

fixed_made : (s : ℕ) → IsScale s → (b : Below s) (bs : List Block) (l : Typed s) (o : Outlined s) → IsText bs → typed s bs ≡ Ok l → b.outline_of l.groups l.requests l.constraints ≡ Ok o → IsSound b l o
    → IsFixed b (new_blocks b l o bs) (new_lists b l o) o (outcome b l o).members
fixed_made s scale b bs l o text ty out sound =
    let made : BlocksAgain b bs l o = blocks_again_law s scale b bs l o text ty out sound in
    let same : outcome b (new_lists b l o) o ≡ outcome b l o = made.outcome in
    record {
      is_text = made.is_text;
      typed = made.typed;
      outline = made.outline;
      lists = none_grew s scale b bs l o ty sound text;
      own = subst (λ (w : Works s). OwnsParams w (order_of o)) (sym (same_works s scale b bs l o ty sound text)) sound.params;
      params = subst (λ (st : State s). AllStored (new_lists b l o).params st.numbers.params) (sym same) (stored s scale b bs l o ty sound text);
      some = has_entities s scale b bs l o ty sound text;
      entities = ap (λ (st : State s). bytes_of (made_anew kind.Entity (entity_records st.numbers.acts o.outline.entities) (new_blocks b l o bs))) same
          ∙ ap bytes_of (anew_same s scale b bs l o ty sound text);
      members = ap (λ (st : State s). st.members) (sym same);
    }

pub fixed_law : FixedLaw
fixed_law = record { made = fixed_made; read = read_again; again = fixed_again }

-- ---- the other way

pub undone_law : UndoneLaw
undone_law s own w v before now dirty same = record {
  first = agree_back w.first v.first same.first;
  group = λ n m g agree out. group_back m n g (same.group m n g (agree_back n m agree) out);
  left_before = same.left_now;
  left_now = same.left_before;
}
  where
    agree_back : (n m : Numbers s) → AgreeOutside dirty own n m → AgreeOutside dirty own m n
    agree_back n m is = record { params = λ h out. sym (is.params h out); acts = λ h out. sym (is.acts h out) }

    stored_back : (ids : List ParamId) → SameStored before now ids → SameStored now before ids
    stored_back [] e = tt
    stored_back (p ∷ ps) e = (sym e.0, stored_back ps e.1)

    starts_back : (f h : ParamId → ℤ) (ids : List ParamId) → SameStarts f h ids → SameStarts h f ids
    starts_back f h [] e = tt
    starts_back f h (p ∷ ps) e = (sym e.0, starts_back f h ps e.1)

    group_back : (n m : Numbers s) (g : GroupId) → SameGroup w v before now n m g → SameGroup v w now before m n g
    group_back n m g is = record {
      own = sym is.own;
      unknown = λ p. sym (is.unknown p);
      stored = subst (SameStored now before) (sym is.own) (stored_back (w.own g) is.stored);
      start = subst (SameStarts (v.start m g) (w.start n g)) (sym is.own) (starts_back (w.start n g) (v.start m g) (w.own g) is.start);
      frame = sym is.frame;
      seen = λ fixed x. sym (is.seen fixed x);
      acts = λ ps. sym (is.acts ps);
    }
