-- Regeneration once more.
use Rattle.std.proofs.Common.{◌≡◌, ◌≢◌, ◌<◌, inl, inr, ℕ, List, [], ◌∷◌, map, Bool, true, false, nat_eq, Option, Some, None, Result, Ok, refl, sym, ap, ◌∙◌, subst}
use Rattle.std.specs.Prelude.{ℤ, ◌^◌, unwrap_or}
use Rattle.std.specs.List.{All, IsDistinct}
use Rattle.std.proofs.lemmas.Bool.{cases_Bool}
use Rattle.std.proofs.lemmas.List.Elements.{All-nil, All-cons, All-head, All-tail}
use Rattle.sk_num.specs.Limit.{IsInLimit}
use Rattle.sk_num.specs.Scale.{IsScale}
use Rattle.sk_text.specs.Lines.{joined}
use Rattle.sk_types.specs.declared.handle.GroupId.{GroupId}
use Rattle.sk_types.specs.declared.handle.ParamId.{ParamId}
use Rattle.sk_types.specs.declared.group.Group.{Group}
use Rattle.sk_types.specs.declared.entity.Act.{Act}
use Rattle.sk_types.specs.declared.entity.Entity.{Entity}
use Rattle.sk_types.specs.declared.entity.Numbers.{Numbers}
use Rattle.sk_types.specs.declared.entity.ParamValue.{ParamValue}
use Rattle.sk_types.specs.Lookups.{value_handle, value_of}
use Rattle.sk_records.specs.declared.kinds.Kind.TheVariants as kind
use Rattle.sk_records.specs.Kinds.{same_kind}
use Rattle.sk_records.specs.Blocks.{Block, Loose, Record, Rec, AllOf, rows_of, records, has, made_anew}
use Rattle.sk_records.specs.Laws.{records_law, anew_law, texts_law, numbers_law, read_again_law}
use Rattle.sk_records.specs.Laws.ReadSound.{text_sound}
use Rattle.sk_records.specs.Written.{IsText, bytes_of, numbered}
use Rattle.sk_geom.specs.declared.fault.FrameFault.{FrameFault}
use Rattle.sk_model.specs.declared.remap.GroupList.{GroupList}
use Rattle.sk_model.specs.Changes.{grew, with_lists, lists_set, with_params, params_set}
use Rattle.sk_model.specs.Chain.{seen_in}
use Rattle.sk_model.specs.EntityRecords.{entity_record, entity_records}
use Rattle.sk_model.specs.Settable.{IsSettable, IsStored, IsRemapList, IsGroupList}
use Rattle.sk_model.specs.Typed.{Typed, typed}
use Rattle.sk_model.specs.TypingLaws.{typing_law, set_texts_law, set_params_law, set_lists_law}
use Rattle.sk_solve.specs.Search.{search}
use Rattle.sk_solve.specs.Searched.{search_law}
use Rattle.sk_chain.specs.Outlines.{Outlined}
use Rattle.sk_regen.specs.Works.{Works}
use Rattle.sk_regen.specs.Regeneration.{started_at, started, point_of, fixed_of, placed, unless_bad, visit, found, Left, left_by, State, taken, folded, at_references, regenerated}
use Rattle.sk_regen.specs.FoldLaws.{AllStored, Each}
use Rattle.sk_regen.specs.NewText.{Below, order_of, works_of, outcome, blocks_with, new_blocks, new_lists, Regenerated, regen_blocks, regen}
use Rattle.sk_regen.specs.NewTextLaws.{OwnsParams, StartsInLimit, IsSound, RegenAgainLaw, BlocksAgain, BlocksAgainLaw}
use Rattle.sk_regen.proofs.Folded.{fold_again}
use Rattle.sk_regen.proofs.Owned.{stand-all, AllStand, folded_handles, each_stored, all-through}

-- ---- entity records made anew

pub all_entities : (s : ℕ) (acts : List (Act s)) (es : List (Entity s)) → AllOf kind.Entity (entity_records acts es)
all_entities s acts [] = tt
all_entities s acts (e ∷ es) = (refl, all_entities s acts es)

has-some : (bs : List Block) (r : Rec) (rs : List Rec) → records kind.Entity bs ≡ rows_of (r ∷ rs) → has kind.Entity bs ≡ true
has-some [] r rs e = cc
has-some (Loose l ∷ bs) r rs e = has-some bs r rs e
has-some (Record q ∷ bs) r rs e = elim (cases_Bool (same_kind q.kind kind.Entity)) [
  | inl t ↦ rw t refl
  | inr f ↦ rw f (has-some bs r rs (rw f at e))
]

-- ---- values within the limit

module _ (s : ℕ) (w : Works s) (stored : List (ParamValue s)) (fits : (h : ℕ) (v : ℤ) → value_of h stored ≡ Some v → IsInLimit v) (in_limit : StartsInLimit w) where
  abbrev AllFit : List (ParamValue s) → Type 0
  AllFit [] = Unit {0}
  AllFit (p ∷ ps) = IsInLimit p.value × AllFit ps

  value_fits : (o : Option ℤ) (d : ℤ) → ((v : ℤ) → o ≡ Some v → IsInLimit v) → IsInLimit d → IsInLimit (unwrap_or o d)
  value_fits None d e f = f
  value_fits (Some v) d e f = e v refl

  started_fit : (n : Numbers s) (g : GroupId) (ids : List ParamId) → AllFit (map (started_at w stored n g) ids)
  started_fit n g [] = tt
  started_fit n g (p ∷ ps) = (value_fits (value_of p.0 stored) (w.start n g p) (fits p.0) (in_limit n g p), started_fit n g ps)

  point_fits : (t : ParamId → Bool) (ps : List (ParamValue s)) → AllFit ps → All IsInLimit (point_of t ps)
  point_fits t [] a = All-nil IsInLimit
  point_fits t (p ∷ ps) a = elim (cases_Bool (t p.id)) [
    | inl y ↦ rw y (All-cons IsInLimit p.value (point_of t ps) a.0 (point_fits t ps a.1))
    | inr z ↦ rw z (point_fits t ps a.1)
  ]

  placed_fit : (t : ParamId → Bool) (ps : List (ParamValue s)) (x : List ℤ) → AllFit ps → All IsInLimit x → AllFit (placed t ps x)
  placed_fit t [] x a e = tt
  placed_fit t (p ∷ ps) [] a e = a
  placed_fit t (p ∷ ps) (z ∷ zs) a e = elim (cases_Bool (t p.id)) [
    | inl y ↦ rw y (All-head IsInLimit z zs e, placed_fit t ps zs a.1 (All-tail IsInLimit z zs e))
    | inr m ↦ rw m (a.0, placed_fit t ps (z ∷ zs) a.1 e)
  ]

  found_fits : (n : Numbers s) (g : GroupId) (ps : List (ParamValue s)) → AllFit ps → All IsInLimit (found w n g ps).point
  found_fits n g ps a = by_frame (w.bad_frame n g)
    where
      by_frame : (o : Option FrameFault) → All IsInLimit (unless_bad o (point_of (w.is_unknown g) ps) (search (visit w n g (fixed_of (w.is_unknown g) ps)) (point_of (w.is_unknown g) ps))).point
      by_frame None = search_law.limit (visit w n g (fixed_of (w.is_unknown g) ps)) (point_of (w.is_unknown g) ps) (point_fits (w.is_unknown g) ps a)
      by_frame (Some v) = point_fits (w.is_unknown g) ps a

  left_fits : (n : Numbers s) (g : GroupId) → AllFit (left_by w stored n g).params
  left_fits n g =
      let a : AllFit (started w stored n g) = started_fit n g (w.own g) in
      placed_fit (w.is_unknown g) (started w stored n g) (found w n g (started w stored n g)).point a (found_fits n g (started w stored n g) a)

  -- numbers that are set fit as they did
  put_fit : (id : ℕ) (v : ℤ) (ps : List (ParamValue s)) → IsInLimit v → AllFit ps → AllFit (with_params (record { id = record { 0 = id }; value = v } ∷ []) ps)
  put_fit id v [] e a = (e, tt)
  put_fit id v (p ∷ ps) e a = elim (cases_Bool (nat_eq id p.id.0)) [ inl t ↦ rw t (e, a.1) | inr f ↦ rw f (a.0, put_fit id v ps e a.1) ]

  set_fit : (qs ps : List (ParamValue s)) → AllFit qs → AllFit ps → AllFit (with_params qs ps)
  set_fit [] ps a b = b
  set_fit (q ∷ qs) ps a b = set_fit qs (with_params (q ∷ []) ps) a.1 (put_fit q.id.0 q.value ps a.0 b)

  folded_fit : (order : List GroupId) (st : State s) → AllFit st.numbers.params → AllFit (folded (left_by w stored) order st).numbers.params
  folded_fit [] st a = a
  folded_fit (g ∷ gs) st a = folded_fit gs (taken st (left_by w stored st.numbers g)) (set_fit (left_by w stored st.numbers g).params st.numbers.params (left_fits st.numbers g) a)

  fit_all : (ps : List (ParamValue s)) → All IsSettable ps → AllFit ps
  fit_all [] a = tt
  fit_all (p ∷ ps) a = ((All-head IsSettable p ps a).value, fit_all ps (All-tail IsSettable p ps a))

  -- handles of what may be set, with values within the limit
  fit_settable : (ps qs : List (ParamValue s)) → map value_handle qs ≡ map value_handle ps → All IsSettable ps → AllFit qs → All IsSettable qs
  fit_settable ps [] e a b = All-nil IsSettable
  fit_settable [] (q ∷ qs) e a b = cc
  fit_settable (p ∷ ps) (q ∷ qs) e a b =
      let is = All-head IsSettable p ps a in
      let same : p.id.0 ≡ q.id.0 = sym (cons_head e) in
      All-cons IsSettable q qs
      (record { some = subst (λ (k : ℕ). k ≢ 0) same is.some; handle = subst (λ (k : ℕ). k < 2 ^ 32) same is.handle; value = b.0 })
      (fit_settable ps qs (cons_tail e) (All-tail IsSettable p ps a) b.1)
    where
      cons_head : {x y : ℕ} {xs ys : List ℕ} → x ∷ xs ≡ y ∷ ys → x ≡ y
      cons_head e = cc

      cons_tail : {x y : ℕ} {xs ys : List ℕ} → x ∷ xs ≡ y ∷ ys → xs ≡ ys
      cons_tail e = cc

  all_stand : (order : List GroupId) → OwnsParams w order → AllStand w stored (map value_handle w.first.params) order
  all_stand order own = each order own.among
    where
      each : (gs : List GroupId) → All (λ (g : GroupId). All (λ (p : ParamId). seen_in p.0 (map value_handle w.first.params) ≡ true) (w.own g)) gs → AllStand w stored (map value_handle w.first.params) gs
      each [] a = tt
      each (g ∷ gs) a = (stand-all (map value_handle w.first.params) (w.own g) (All-head (λ (h : GroupId). All (λ (p : ParamId). seen_in p.0 (map value_handle w.first.params) ≡ true) (w.own h)) g gs a), each gs (All-tail (λ (h : GroupId). All (λ (p : ParamId). seen_in p.0 (map value_handle w.first.params) ≡ true) (w.own h)) g gs a))

  pub kept_handles : (order : List GroupId) → OwnsParams w order → map value_handle (regenerated w stored order).numbers.params ≡ map value_handle w.first.params
  kept_handles order own = folded_handles w stored order (at_references w) (all_stand order own)

  pub kept_settable : (order : List GroupId) → OwnsParams w order → All IsSettable (regenerated w stored order).numbers.params
  kept_settable order own =
      fit_settable w.first.params (regenerated w stored order).numbers.params (kept_handles order own) own.settable
      (folded_fit order (at_references w) (fit_all w.first.params own.settable))

  pub kept_differ : (order : List GroupId) → OwnsParams w order → IsDistinct nat_eq (map value_handle (regenerated w stored order).numbers.params)
  kept_differ order own = subst (IsDistinct nat_eq) (sym (kept_handles order own)) own.differ

-- ---- the new text

stored_fits : (s : ℕ) (ps : List (ParamValue s)) → All IsSettable ps → (h : ℕ) (v : ℤ) → value_of h ps ≡ Some v → IsInLimit v
stored_fits s [] a h v e = cc
stored_fits s (p ∷ ps) a h v e = elim (cases_Bool (nat_eq h p.id.0)) [
  | inl t ↦ subst IsInLimit (value_is (rw t at e)) (All-head IsSettable p ps a).value
  | inr f ↦ stored_fits s ps (All-tail IsSettable p ps a) h v (rw f at e)
]
  where
    value_is : {x y : ℤ} → Some x ≡ Some y → x ≡ y
    value_is e = cc

pub stored-each : (s : ℕ) (now qs : List (ParamValue s)) → AllStored now qs → All (IsStored now) qs
stored-each s now [] a = All-nil (IsStored now)
stored-each s now (q ∷ qs) a = All-cons (IsStored now) q qs a.0 (stored-each s now qs a.1)

stored-all : (s : ℕ) (now qs : List (ParamValue s)) → All (IsStored now) qs → AllStored now qs
stored-all s now [] a = tt
stored-all s now (q ∷ qs) a = (All-head (IsStored now) q qs a, stored-all s now qs (All-tail (IsStored now) q qs a))

-- what each group leaves is stored where all numbers are
pub each-through : (s : ℕ) (now all : List (ParamValue s)) (left : Numbers s → GroupId → Left s) (order : List GroupId) (st : State s) → AllStored now all
    → Each left (λ n g x. AllStored all x.params) order st → Each left (λ n g x. AllStored now x.params) order st
each-through s now all left [] st a b = tt
each-through s now all left (g ∷ gs) st a b = (all-through now all (left st.numbers g).params a b.0, each-through s now all left gs (taken st (left st.numbers g)) a b.1)

module _ (s : ℕ) (scale : IsScale s) (b : Below s) (bs : List Block) (l : Typed s) (o : Outlined s) (ty : typed s bs ≡ Ok l) (sound : IsSound b l o) (text : IsText bs) where
  abbrev w : Works s
  w = works_of b l o

  abbrev kept : Numbers s
  kept = (outcome b l o).numbers

  abbrev entities : List Rec
  entities = entity_records kept.acts o.outline.entities

  fits : (h : ℕ) (v : ℤ) → value_of h l.params ≡ Some v → IsInLimit v
  fits = stored_fits s l.params (typing_law.leaves s bs l ty).params

  settable : All IsSettable kept.params
  settable = kept_settable s w l.params fits sound.starts (order_of o) sound.params

  differ : IsDistinct nat_eq (map value_handle kept.params)
  differ = kept_differ s w l.params fits sound.starts (order_of o) sound.params

  new_typed : typed s (new_blocks b l o bs) ≡ Ok (new_lists b l o)
  new_typed =
      typing_law.entities s entities (params_set kept.params l.params (lists_set o.lists l.groups bs)) (all_entities s kept.acts o.outline.entities)
      ∙ typing_law.params s scale kept.params (lists_set o.lists l.groups bs) (record l { groups = with_lists o.lists l.groups }) settable
      (typing_law.lists s o.lists bs l sound.lists.each sound.lists.sources ty)

  remaps : (xs : List GroupList) → All (IsGroupList l.groups) xs → All (λ (x : GroupList). IsRemapList x.group.0 x.entries) xs
  remaps [] a = All-nil (λ (x : GroupList). IsRemapList x.group.0 x.entries)
  remaps (x ∷ xs) a = All-cons (λ (y : GroupList). IsRemapList y.group.0 y.entries) x xs (All-head (IsGroupList l.groups) x xs a).list (remaps xs (All-tail (IsGroupList l.groups) x xs a))

  new_text : IsText (new_blocks b l o bs)
  new_text =
      texts_law.anew kind.Entity entities (params_set kept.params l.params (lists_set o.lists l.groups bs)) sound.given
      (set_texts_law.params s scale kept.params l.params (lists_set o.lists l.groups bs) settable
      (set_texts_law.lists s o.lists l.groups bs (remaps o.lists sound.lists.each) sound.lists.sources text))

  -- it comes out the same
  pub stored : AllStored (with_params kept.params l.params) kept.params
  stored = stored-all s (with_params kept.params l.params) kept.params (set_params_law.stored s kept.params l.params differ)

  pub none_grew : All (λ (x : GroupList). grew x (with_lists o.lists l.groups) ≡ false) o.lists
  none_grew = set_lists_law.none_grew s o.lists l.groups sound.lists.each sound.lists.differ

  same_groups : with_lists o.lists (with_lists o.lists l.groups) ≡ with_lists o.lists l.groups
  same_groups = set_lists_law.same s o.lists (with_lists o.lists l.groups) none_grew

  all_kept : Each (left_by w l.params) (λ n g x. AllStored (with_params kept.params l.params) x.params) (order_of o) (at_references w)
  all_kept = each-through s (with_params kept.params l.params) kept.params (left_by w l.params) (order_of o) (at_references w) stored (each_stored w l.params (order_of o) (at_references w) sound.params.apart)

  pub same_works : works_of b (new_lists b l o) o ≡ works_of b l o
  same_works = ap (λ (gs : List (Group s)). b.works gs l.requests l.constraints o.outline) same_groups

  pub same_outcome : outcome b (new_lists b l o) o ≡ outcome b l o
  same_outcome =
      ap (λ (gs : List (Group s)). regenerated (b.works gs l.requests l.constraints o.outline) (with_params kept.params l.params) (order_of o)) same_groups
      ∙ fold_again s w l.params (with_params kept.params l.params) (order_of o) (at_references w) all_kept

  same_blocks : (cs : List Block) → new_blocks b (new_lists b l o) o cs ≡ made_anew kind.Entity entities cs
  same_blocks cs =
      ap (λ (st : State s). blocks_with st.numbers (new_lists b l o) o cs) same_outcome
      ∙ ap (λ (ds : List Block). made_anew kind.Entity entities (params_set kept.params (with_params kept.params l.params) ds)) (set_lists_law.same_text s o.lists (with_lists o.lists l.groups) cs none_grew)
      ∙ ap (λ (ds : List Block). made_anew kind.Entity entities ds) (set_params_law.same_text s kept.params (with_params kept.params l.params) cs (stored-each s (with_params kept.params l.params) kept.params stored))

  -- entity records made anew once more
  abbrev first : Rec
  first = entity_record kept.acts sound.some.first

  abbrev others : List Rec
  others = entity_records kept.acts sound.some.others

  is_first : entities ≡ first ∷ others
  is_first = ap (entity_records kept.acts) sound.some.is

  all_first : AllOf kind.Entity (first ∷ others)
  all_first = all_entities s kept.acts (sound.some.first ∷ sound.some.others)

  abbrev before : List Block
  before = params_set kept.params l.params (lists_set o.lists l.groups bs)

  pub anew_same : made_anew kind.Entity entities (made_anew kind.Entity entities before) ≡ made_anew kind.Entity entities before
  anew_same = subst (λ (rs : List Rec). made_anew kind.Entity rs (made_anew kind.Entity rs before) ≡ made_anew kind.Entity rs before) (sym is_first) (anew_law.anew_twice kind.Entity first others before all_first)

  pub has_entities : has kind.Entity (new_blocks b l o bs) ≡ true
  has_entities = subst (λ (rs : List Rec). has kind.Entity (made_anew kind.Entity rs before) ≡ true) (sym is_first) (has-some (made_anew kind.Entity (first ∷ others) before) first others (records_law.anew_same kind.Entity (first ∷ others) before all_first))

  -- read again, too
  same_bytes : bytes_of (new_blocks b (new_lists b l o) o (numbered 1 (new_blocks b l o bs))) ≡ bytes_of (new_blocks b l o bs)
  same_bytes =
      ap bytes_of (same_blocks (numbered 1 (new_blocks b l o bs)))
      ∙ ap joined (numbers_law.anew_same_lines kind.Entity entities (new_blocks b l o bs) (numbered 1 (new_blocks b l o bs)) has_entities (numbers_law.bare_numbered 1 (new_blocks b l o bs)))
      ∙ ap bytes_of anew_same

  typed_again : typed s (numbered 1 (new_blocks b l o bs)) ≡ Ok (new_lists b l o)
  typed_again = typing_law.numbers s (new_blocks b l o bs) (numbered 1 (new_blocks b l o bs)) (new_lists b l o) (numbers_law.bare_numbered 1 (new_blocks b l o bs)) new_typed

  abbrev answer : Regenerated s
  answer = record { text = bytes_of (new_blocks b l o bs); report = (outcome b l o).members }

  blocks_again : regen_blocks b (numbered 1 (new_blocks b l o bs)) ≡ Ok answer
  blocks_again =
      rw (typed_again, sound.again)
      (ap (λ (bytes : List ℕ). Ok (record { text = bytes; report = (outcome b (new_lists b l o) o).members })) same_bytes
      ∙ ap (λ (st : State s). Ok (record { text = bytes_of (new_blocks b l o bs); report = st.members })) same_outcome)

  pub again : regen b (bytes_of (new_blocks b l o bs)) ≡ Ok answer
  again = rw (read_again_law.lines (new_blocks b l o bs) new_text, blocks_again) refl

  pub all_again : BlocksAgain b bs l o
  all_again = record {
    is_text = new_text;
    typed = new_typed;
    outline = sound.again;
    blocks = same_blocks (new_blocks b l o bs) ∙ anew_same;
    lists = ap (λ (gs : List (Group s)). record l { groups = gs; params = with_params (outcome b (new_lists b l o) o).numbers.params (with_params kept.params l.params) }) same_groups
        ∙ ap (λ (st : State s). record l { groups = with_lists o.lists l.groups; params = with_params st.numbers.params (with_params kept.params l.params) }) same_outcome
        ∙ ap (λ (ps : List (ParamValue s)). record l { groups = with_lists o.lists l.groups; params = ps }) (set_params_law.same s kept.params (with_params kept.params l.params) (stored-each s (with_params kept.params l.params) kept.params stored));
    outcome = same_outcome;
    stored = all_kept;
  }

ok_is : {A E : Type 0} (x y : A) → ◌≡◌ {A = Result A E} (Ok x) (Ok y) → x ≡ y
ok_is x y e = cc

pub regen_again_law : RegenAgainLaw
regen_again_law s scale b text bs l o read ty out sound r e =
    let first : regen b text ≡ Ok (record { text = bytes_of (new_blocks b l o bs); report = (outcome b l o).members }) = rw (read, ty, out) refl in
    let is : record { text = bytes_of (new_blocks b l o bs); report = (outcome b l o).members } ≡ r = ok_is _ r (sym first ∙ e) in
    subst (λ (x : Regenerated s). regen b x.text ≡ Ok x) is (again s scale b bs l o ty sound (text_sound text bs read))

pub blocks_again_law : BlocksAgainLaw
blocks_again_law s scale b bs l o text ty out sound = all_again s scale b bs l o ty sound text
