-- Group after group: what each leaves over the works of the model, and the fold of them.
use Rattle.std.proofs.Common.{◌≡◌, ◌≢◌, inl, inr, ℕ, ◌+◌, ◌<◌, ◌≤◌, List, [], ◌∷◌, length, map, get_or, drop, Bool, true, false, nat_eq, Option, Some, None, Bor, refl, sym, ap, ◌∙◌, subst, arith}
use Rattle.std.specs.Prelude.{pos, if◌then◌else◌}
use Rattle.std.specs.List.{All, IsDistinct, filter}
use Rattle.std.specs.Option.{option_copied}
use Rattle.std.proofs.lemmas.Bool.{cases_Bool}
use Rattle.std.proofs.lemmas.List.{at_drop_all, at_drop_more, drop_all, drop_more}
use Rattle.sk_num.specs.Scale.{IsScale}
use Rattle.sk_types.specs.declared.entity.Numbers.{Numbers}
use Rattle.sk_types.specs.declared.entity.Outline.{Outline}
use Rattle.sk_types.specs.declared.entity.ParamValue.{ParamValue}
use Rattle.sk_types.specs.declared.group.Group.{Group}
use Rattle.sk_types.specs.declared.handle.GroupId.{GroupId}
use Rattle.sk_types.specs.Lookups.{RiseBy, act_handle, value_handle}
use Rattle.sk_types.specs.Params.{unknown_params}
use Rattle.sk_model.specs.Chain.{seen_in}
use Rattle.sk_model.specs.Checked.{AreChecked}
use Rattle.sk_model.specs.Typed.{Typed}
use Rattle.sk_solve.specs.declared.report.Listed.{Listed}
use Rattle.sk_chain.specs.Laws.{IsFound, IsOutlineOf}
use Rattle.sk_chain.specs.Lookups.{group_at}
use Rattle.sk_regen.specs.Works.{Works}
use Rattle.sk_regen.specs.Below.{model_works}
use Rattle.sk_regen.specs.FoldLaws.{Each}
use Rattle.sk_regen.specs.Ground.{BoxesSound, HasAll, IsGround, group_works}
use Rattle.sk_regen.specs.GroupWorks.{or_none, params_of, is_one_of, start_of, bad_frame_of, seen_of, acts_of, all_acts, first_numbers, works}
use Rattle.sk_regen.specs.Regeneration.{Left, State, left_by, left_as, left_over, taken, folded, is_listed, at_references}
use Rattle.sk_regen.proofs.Placed.{id_of}
use Rattle.sk_regen.proofs.Folded.{ids_started}
use Rattle.sk_regen.proofs.Owned.{left_ids}
use Rattle.sk_regen.proofs.Ready.{params-rise, acts-rise, rise-same}
use Rattle.sk_regen.proofs.Overs.{own-values-stand}
use Rattle.sk_regen.proofs.SoundNumbers.{acts_rise}
use Rattle.sk_regen.proofs.SoundOwn.{handles_some, handles_differ}

-- ---- the group with a handle

module _ {s : ℕ} (gs : List (Group s)) (h : GroupId) where
  abbrev id_in : Option (Group s) → GroupId
  id_in None = h
  id_in (Some x) = x.id

  pub found-same : (g : Group s) → IsFound gs h → group_at h.0 gs ≡ Some g → g.id ≡ h
  found-same g is e = ap id_in (sym e ∙ is.found) ∙ is.same

  pub found-there : (all : List (Group s)) (r : Option (Bor (Group s))) (x : Bor (Group s)) → all ≡ gs → option_copied r ≡ group_at h.0 all → r ≡ Some x → group_at h.0 gs ≡ Some x.now
  found-there all r x a e is = ap (group_at h.0) (sym a) ∙ sym e ∙ ap option_copied is

-- ---- over the model's works, and over the group's own

module _ {s : ℕ} (m : Typed s) (o : Outline s) where
  abbrev works_at : Option (Group s) → Works s
  works_at x = record {
    own = λ h. or_none [] (params_of o.entities) x;
    is_unknown = λ h. or_none (λ p. false) (λ g. is_one_of (unknown_params m.constraints o.entities g)) x;
    start = λ n h. or_none (λ p. pos 0) (start_of m.requests o.entities n) x;
    bad_frame = λ n h. or_none None (bad_frame_of o.entities n.acts) x;
    seen = λ n h. or_none (λ fixed y. None) (seen_of o.entities m.constraints n) x;
    acts = λ n h. or_none (λ ps. []) (acts_of o.entities m.constraints n) x;
    first = first_numbers m.groups o.entities m.constraints;
  }

  model-left : (g : Group s) (stored : List (ParamValue s)) (dirty : List GroupId) (before : List (Listed s)) (n : Numbers s) → group_at g.id.0 m.groups ≡ Some g →
      left_over (model_works m o) stored dirty before n g.id ≡ left_over (group_works m o g) stored dirty before n g.id
  unfolding works
  model-left g stored dirty before n e = ap (λ (x : Option (Group s)). left_over (works_at x) stored dirty before n g.id) e

  model-sound : (g : Group s) (n : Numbers s) (left : Left s) → group_at g.id.0 m.groups ≡ Some g → BoxesSound (group_works m o g) n g.id left → BoxesSound (model_works m o) n g.id left
  unfolding works
  model-sound g n left e h = subst (λ (x : Option (Group s)). BoxesSound (works_at x) n g.id left) (sym e) h

  pub take-sound : (dirty : List GroupId) (before : List (Listed s)) (n : Numbers s) (left : Left s) (h : GroupId) (g : Group s) → IsFound m.groups h → group_at h.0 m.groups ≡ Some g →
      left ≡ left_over (group_works m o g) m.params dirty before n g.id → (is_listed dirty g.id ≡ true → BoxesSound (group_works m o g) n g.id left) →
      is_listed dirty h ≡ true → BoxesSound (model_works m o) n h (left_over (model_works m o) m.params dirty before n h)
  take-sound dirty before n left h g is there l sound listed =
      let same : g.id ≡ h = found-same m.groups h g is there in
      let its : group_at g.id.0 m.groups ≡ Some g = subst (λ (k : GroupId). group_at k.0 m.groups ≡ Some g) (sym same) there in
      subst (λ (k : GroupId). BoxesSound (model_works m o) n k (left_over (model_works m o) m.params dirty before n k)) same
      (subst (λ (x : Left s). BoxesSound (model_works m o) n g.id x) (l ∙ sym (model-left g m.params dirty before n its))
      (model-sound g n left its (sound (subst (λ (k : GroupId). is_listed dirty k ≡ true) (sym same) listed))))

  pub take-is : (dirty : List GroupId) (before : List (Listed s)) (st end : State s) (now : Numbers s) (left : Left s) (h : GroupId) (g : Group s) → IsFound m.groups h → group_at h.0 m.groups ≡ Some g →
      left ≡ left_over (group_works m o g) m.params dirty before st.numbers g.id → now ≡ st.numbers → end ≡ taken (record { numbers = now; members = st.members }) left →
      end ≡ taken st (left_over (model_works m o) m.params dirty before st.numbers h)
  take-is dirty before st end now left h g is there l e t =
      let same : g.id ≡ h = found-same m.groups h g is there in
      let its : group_at g.id.0 m.groups ≡ Some g = subst (λ (k : GroupId). group_at k.0 m.groups ≡ Some g) (sym same) there in
      t ∙ ap (λ (n : Numbers s). taken (record { numbers = n; members = st.members }) left) e
      ∙ ap (taken st) (l ∙ sym (model-left g m.params dirty before st.numbers its) ∙ ap (left_over (model_works m o) m.params dirty before st.numbers) same)

  abbrev state_of : Numbers s → List (Listed s) → State s
  state_of n members = record { numbers = n; members = members }

  pub references-are : (n : Numbers s) (members : List (Listed s)) → n ≡ first_numbers m.groups o.entities m.constraints → members ≡ [] → state_of n members ≡ at_references (model_works m o)
  unfolding works
  references-are n members e f = ap (λ (k : Numbers s). state_of k members) e ∙ ap (state_of (first_numbers m.groups o.entities m.constraints)) f

  pub its-ground : (n : Numbers s) (h : GroupId) (g : Group s) → AreChecked m → IsOutlineOf m o → HasAll m o n → IsFound m.groups h → group_at h.0 m.groups ≡ Some g → IsGround m o n g
  its-ground n h g checked outline whole is there = record {
    checked = checked;
    outline = outline;
    there = subst (λ (k : GroupId). group_at k.0 m.groups ≡ Some g) (sym (found-same m.groups h g is there)) there;
    whole = whole;
  }

-- ---- what a group leaves may be taken

over-ids : {s : ℕ} (w : Works s) (stored : List (ParamValue s)) (dirty : List GroupId) (before : List (Listed s)) (n : Numbers s) (h : GroupId) → map id_of (left_over w stored dirty before n h).params ≡ w.own h
over-ids {s} w stored dirty before n h = by (is_listed dirty h)
  where
    by : (t : Bool) → map id_of (if t then left_by w stored n h else left_as w stored before n h).params ≡ w.own h
    by true = left_ids w stored n h
    by false = ids_started s w stored n h (w.own h)

module _ {s : ℕ} (m : Typed s) (o : Outline s) (n : Numbers s) (g : Group s) (is : IsGround m o n g) where
  abbrev MayTake : Left s → Numbers s → Type 0
  MayTake left now = RiseBy value_handle now.params × (RiseBy act_handle now.acts × All (λ (p : ParamValue s). seen_in p.id.0 (map value_handle now.params) ≡ true) left.params)

  pub may-take : (dirty : List GroupId) (before : List (Listed s)) (left : Left s) (now : Numbers s) → left ≡ left_over (group_works m o g) m.params dirty before n g.id → now ≡ n → MayTake left now
  may-take dirty before left now l e =
      let own : map id_of left.params ≡ params_of o.entities g = ap (λ (x : Left s). map id_of x.params) l ∙ over-ids (group_works m o g) m.params dirty before n g.id in
      subst (MayTake left) (sym e) (params-rise m o n g is, (acts-rise m o n g is, own-values-stand m o n g is left.params own))

-- ---- one group after the other

module _ {s : ℕ} (left : Numbers s → GroupId → Left s) (order : List GroupId) (first : State s) where
  -- what is left of the order, over the state so far, gives the whole
  abbrev pub FoldAt : State s → ℕ → Type 0
  FoldAt st i = folded left (drop i order) st ≡ folded left order first

  pub fold-more : (st now : State s) (i : ℕ) (d : GroupId) → i < length order → now ≡ taken st (left st.numbers (get_or order i d)) → FoldAt st i → FoldAt now (i + 1)
  fold-more st now i d inside e f = ap (folded left (drop (i + 1) order)) e ∙ sym (at_drop_more (λ (gs : List GroupId). folded left gs st) order i d inside) ∙ f

  pub fold-all : (st : State s) (i : ℕ) → length order ≤ i → FoldAt st i → st ≡ folded left order first
  fold-all st i past f = sym (at_drop_all (λ (gs : List GroupId). folded left gs st) order i past) ∙ f

  module _ (P : Numbers s → GroupId → Left s → Type 0) where
    -- what holds of each of the rest, over the state so far, makes it hold of all
    abbrev pub EachAt : State s → ℕ → Type 0
    EachAt st i = Each left P (drop i order) st → Each left P order first

    pub each-first : EachAt first 0
    each-first e = e

    pub each-more : (st now : State s) (i : ℕ) (d : GroupId) → i < length order → now ≡ taken st (left st.numbers (get_or order i d)) → P st.numbers (get_or order i d) (left st.numbers (get_or order i d)) → EachAt st i → EachAt now (i + 1)
    each-more st now i d inside e p f rest =
        f (subst (λ (gs : List GroupId). Each left P gs st) (sym (drop_more order i d inside)) (p, subst (Each left P (drop (i + 1) order)) e rest))

    pub each-all : (st : State s) (i : ℕ) → length order ≤ i → EachAt st i → Each left P order first
    each-all st i past f = f (subst (λ (gs : List GroupId). Each left P gs st) (sym (drop_all i order past)) tt)

module _ (t : GroupId → Bool) (order : List GroupId) (start : ℕ) where
  -- the steps so far, and those to come
  abbrev pub CountAt : ℕ → ℕ → Type 0
  CountAt steps i = steps + length (filter t (drop i order)) ≡ start + length (filter t order)

  pub count-none : CountAt start 0
  count-none = refl

  one-more : (g : GroupId) (gs : List GroupId) → length (filter t (g ∷ gs)) ≡ (if t g then 1 else 0) + length (filter t gs)
  one-more g gs = elim (cases_Bool (t g)) [ inl y ↦ rw y (omega arith) | inr n ↦ rw n (omega arith) ]

  add : (steps now b more rest total : ℕ) → now ≡ steps + b → more ≡ b + rest → steps + more ≡ total → now + rest ≡ total
  add steps now b more rest total e f h = omega (arith, e, f, h)

  pub count-more : (steps now i : ℕ) (d : GroupId) → i < length order → now ≡ steps + (if t (get_or order i d) then 1 else 0) → CountAt steps i → CountAt now (i + 1)
  count-more steps now i d inside e f =
      add steps now (if t (get_or order i d) then 1 else 0) (length (filter t (drop i order))) (length (filter t (drop (i + 1) order))) (start + length (filter t order)) e
      (at_drop_more (λ (gs : List GroupId). length (filter t gs)) order i d inside ∙ one-more (get_or order i d) (drop (i + 1) order)) f

  nothing-left : (steps rest total : ℕ) → rest ≡ 0 → steps + rest ≡ total → steps ≡ total
  nothing-left steps rest total e f = omega (arith, e, f)

  pub count-all : (steps i : ℕ) → length order ≤ i → CountAt steps i → steps ≡ start + length (filter t order)
  count-all steps i past f =
      nothing-left steps (length (filter t (drop i order))) (start + length (filter t order)) (at_drop_all (λ (gs : List GroupId). length (filter t gs)) order i past) f

-- ---- what is put into the model

module _ {s : ℕ} (scale : IsScale s) (m : Typed s) (o : Outline s) (n : Numbers s) (checked : AreChecked m) (outline : IsOutlineOf m o) (whole : HasAll m o n) where
  all-most : All (λ (g : Group s). g.id.0 ≤ 32767) m.groups
  all-most k d inside = (checked.groups k d inside).most

  pub whole-some : All (λ (p : ParamValue s). p.id.0 ≢ 0) n.params
  whole-some = handles_some scale m.groups o.entities checked.groups_differ all-most outline.own_rise outline.own_within n.params whole.params

  pub whole-differ : IsDistinct nat_eq (map value_handle n.params)
  whole-differ = handles_differ scale m.groups o.entities checked.groups_differ all-most outline.own_rise outline.own_within n.params whole.params

  pub whole-rise : RiseBy act_handle n.acts
  whole-rise = rise-same act_handle (all_acts o.entities) n.acts whole.acts (acts_rise o.entities outline.rise)
