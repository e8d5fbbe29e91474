-- Regeneration once more, and over a list.
use Rattle.std.proofs.Common.{◌≡◌, inl, inr, ℕ, List, [], ◌∷◌, length, map, Bool, true, false, nat_eq, Option, Some, None, refl, sym, ap, ◌∙◌, subst}
use Rattle.std.specs.Prelude.{ℤ, unwrap_or}
use Rattle.std.specs.List.{filter}
use Rattle.sk_expr.specs.Seen.{Seen}
use Rattle.sk_krawczyk.specs.Answers.{names_at}
use Rattle.sk_types.specs.declared.entity.Act.{Act}
use Rattle.std.proofs.lemmas.Bool.{cases_Bool, eqb-true}
use Rattle.sk_types.specs.declared.handle.GroupId.{GroupId}
use Rattle.sk_types.specs.declared.handle.ParamId.{ParamId}
use Rattle.sk_types.specs.declared.entity.ParamValue.{ParamValue}
use Rattle.sk_types.specs.declared.entity.Numbers.{Numbers}
use Rattle.sk_geom.specs.declared.fault.FrameFault.{FrameFault}
use Rattle.sk_solve.specs.Held.{result_by}
use Rattle.sk_solve.specs.Search.{Found, search, verdict_over}
use Rattle.sk_solve.specs.Searched.{search_law}
use Rattle.sk_types.specs.Lookups.{value_of}
use Rattle.sk_solve.specs.declared.report.Listed.{Listed}
use Rattle.sk_regen.specs.Works.{Works}
use Rattle.sk_regen.specs.Regeneration.{started_at, started, point_of, fixed_of, placed, unless_bad, unknowns, visit, names, found, Left, left_at, member, came_out, left_by, State, joined, taken, folded, at_references, regenerated, is_listed, left_over, regenerated_over}
use Rattle.sk_regen.specs.FoldLaws.{AllStored, Each, FoldAgainLaw, StandsAs, OverLaw, Owners, AgreeOutside, SameStored, SameStarts, SameGroup, OwnParams, OwnActs, LeavesOwn, SameOutside, DirtyLaw}
use Rattle.sk_regen.proofs.Among.{funext}
use Rattle.sk_regen.proofs.Placed.{id_of, ids_placed, fixed_placed, point_placed, placed_twice}
use Rattle.sk_regen.proofs.Joined.{NoParam, NoAct, value_alike, act_alike, value_other, act_other}

module _ (s : ℕ) (w : Works s) where
  -- a group whose kept values are stored starts from them
  pub starts : (now : List (ParamValue s)) (n : Numbers s) (g : GroupId) (ids : List ParamId) (ps : List (ParamValue s)) → map id_of ps ≡ ids → AllStored now ps → map (started_at w now n g) ids ≡ ps
  starts now n g ids [] e all = ap (map (started_at w now n g)) (sym e)
  starts now n g ids (p ∷ ps) e all =
      ap (map (started_at w now n g)) (sym e)
      ∙ ap (λ (o : Option ℤ). record { id = p.id; value = unwrap_or o (w.start n g p.id) } ∷ map (started_at w now n g) (map id_of ps)) all.0
      ∙ ap (λ l. p ∷ l) (starts now n g (map id_of ps) ps refl all.1)

  pub ids_started : (stored : List (ParamValue s)) (n : Numbers s) (g : GroupId) (ids : List ParamId) → map id_of (map (started_at w stored n g) ids) ≡ ids
  ids_started stored n g [] = refl
  ids_started stored n g (p ∷ ps) = ap (λ l. p ∷ l) (ids_started stored n g ps)

  -- the kept point of a group has as many numbers as its start
  pub found_length : (n : Numbers s) (g : GroupId) (ps : List (ParamValue s)) → length (found w n g ps).point ≡ length (point_of (w.is_unknown g) ps)
  found_length n g ps = by_frame (w.bad_frame n g)
    where
      by_frame : (o : Option FrameFault) → length (unless_bad o (point_of (w.is_unknown g) ps) (search (visit w n g (fixed_of (w.is_unknown g) ps)) (point_of (w.is_unknown g) ps))).point ≡ length (point_of (w.is_unknown g) ps)
      by_frame None = search_law.length (visit w n g (fixed_of (w.is_unknown g) ps)) (point_of (w.is_unknown g) ps)
      by_frame (Some v) = refl

  -- a group that stands where it was kept comes out the same
  found_again : (n : Numbers s) (g : GroupId) (ps : List (ParamValue s)) → found w n g (placed (w.is_unknown g) ps (found w n g ps).point) ≡ found w n g ps
  found_again n g ps =
      let t : ParamId → Bool = w.is_unknown g in
      let x : List ℤ = (found w n g ps).point in
      ap (λ (fs : List (ParamValue s)). unless_bad (w.bad_frame n g) (point_of t (placed t ps x)) (search (visit w n g fs) (point_of t (placed t ps x)))) (fixed_placed s t ps x)
      ∙ ap (λ (y : List ℤ). unless_bad (w.bad_frame n g) y (search (visit w n g (fixed_of t ps)) y)) (point_placed s t ps x (found_length n g ps))
      ∙ by_frame (w.bad_frame n g)
    where
      by_frame : (o : Option FrameFault) →
          (let r : Found = unless_bad o (point_of (w.is_unknown g) ps) (search (visit w n g (fixed_of (w.is_unknown g) ps)) (point_of (w.is_unknown g) ps)) in
          unless_bad o r.point (search (visit w n g (fixed_of (w.is_unknown g) ps)) r.point) ≡ r)
      by_frame None = search_law.again (visit w n g (fixed_of (w.is_unknown g) ps)) (point_of (w.is_unknown g) ps)
      by_frame (Some v) = refl

  left_again : (before now : List (ParamValue s)) (n : Numbers s) (g : GroupId) → AllStored now (left_by w before n g).params → left_by w now n g ≡ left_by w before n g
  left_again before now n g all =
      let t : ParamId → Bool = w.is_unknown g in
      let ps : List (ParamValue s) = started w before n g in
      let r : Found = found w n g ps in
      let stands : started w now n g ≡ placed t ps r.point = starts now n g (w.own g) (placed t ps r.point) (ids_placed s t ps r.point ∙ ids_started before n g (w.own g)) all in
      ap (λ (qs : List (ParamValue s)). came_out w n g qs (found w n g qs)) stands
      ∙ ap (λ (f : Found). came_out w n g (placed t ps r.point) f) (found_again n g ps)
      ∙ ap (λ (fs : List (ParamValue s)). left_at w n g (member w n g fs r ∷ []) (placed t (placed t ps r.point) r.point)) (fixed_placed s t ps r.point)
      ∙ ap (λ (qs : List (ParamValue s)). left_at w n g (member w n g (fixed_of t ps) r ∷ []) qs) (placed_twice s t ps r.point)

  pub fold_again : (before now : List (ParamValue s)) (order : List GroupId) (st : State s)
      → Each (left_by w before) (λ n g x. AllStored now x.params) order st
      → folded (left_by w now) order st ≡ folded (left_by w before) order st
  fold_again before now [] st all = refl
  fold_again before now (g ∷ gs) st all =
      ap (λ (x : Left s). folded (left_by w now) gs (taken st x)) (left_again before now st.numbers g all.0)
      ∙ fold_again before now gs (taken st (left_by w before st.numbers g)) all.1

  -- ---- over a list

  over_one : (stored : List (ParamValue s)) (dirty : List GroupId) (before : List (Listed s)) (n : Numbers s) (g : GroupId)
      → (is_listed dirty g ≡ false → StandsAs w stored before n g (left_by w stored n g)) → left_over w stored dirty before n g ≡ left_by w stored n g
  over_one stored dirty before n g stands = elim (cases_Bool (is_listed dirty g)) [
    | inl y ↦ rw y refl
    | inr out ↦ rw out (ap (λ (ms : List (Listed s)). left_at w n g ms (started w stored n g)) (stands out).member ∙ ap (λ (qs : List (ParamValue s)). left_at w n g (left_by w stored n g).members qs) (stands out).params)
  ]

  pub fold_over : (stored : List (ParamValue s)) (dirty : List GroupId) (before : List (Listed s)) (order : List GroupId) (st : State s)
      → Each (left_by w stored) (λ n g x. is_listed dirty g ≡ false → StandsAs w stored before n g x) order st
      → folded (left_over w stored dirty before) order st ≡ folded (left_by w stored) order st
  fold_over stored dirty before [] st all = refl
  fold_over stored dirty before (g ∷ gs) st all =
      ap (λ (x : Left s). folded (left_over w stored dirty before) gs (taken st x)) (over_one stored dirty before st.numbers g all.0)
      ∙ fold_over stored dirty before gs (taken st (left_by w stored st.numbers g)) all.1

-- ---- after an edit

module _ (s : ℕ) (own : Owners) (dirty : List GroupId) where
  agree_same : (n m : Numbers s) (x : Left s) → AgreeOutside dirty own n m → AgreeOutside dirty own (joined n x) (joined m x)
  agree_same n m x is = record {
    params = λ h out. value_alike h x.params m.params n.params (is.params h out);
    acts = λ h out. act_alike h x.acts m.acts n.acts (is.acts h out);
  }

  -- a group of the list leaves nothing of a group outside it
  other_param : (g : GroupId) (h k : ℕ) → own.of_param k ≡ g → is_listed dirty g ≡ true → is_listed dirty (own.of_param h) ≡ false → nat_eq h k ≡ false
  other_param g h k o t f = elim (cases_Bool (nat_eq h k)) [
    | inl y ↦ (let same : h ≡ k = eqb-true h k y in let e : true ≡ false = sym t ∙ ap (is_listed dirty) (sym o) ∙ ap (λ (j : ℕ). is_listed dirty (own.of_param j)) (sym same) ∙ f in cc e)
    | inr z ↦ z
  ]

  other_entity : (g : GroupId) (h k : ℕ) → own.of_entity k ≡ g → is_listed dirty g ≡ true → is_listed dirty (own.of_entity h) ≡ false → nat_eq h k ≡ false
  other_entity g h k o t f = elim (cases_Bool (nat_eq h k)) [
    | inl y ↦ (let same : h ≡ k = eqb-true h k y in let e : true ≡ false = sym t ∙ ap (is_listed dirty) (sym o) ∙ ap (λ (j : ℕ). is_listed dirty (own.of_entity j)) (sym same) ∙ f in cc e)
    | inr z ↦ z
  ]

  none_of_params : (g : GroupId) (h : ℕ) (ps : List (ParamValue s)) → OwnParams own g ps → is_listed dirty g ≡ true → is_listed dirty (own.of_param h) ≡ false → NoParam h ps
  none_of_params g h [] o t f = tt
  none_of_params g h (p ∷ ps) o t f = (other_param g h p.id.0 o.0 t f, none_of_params g h ps o.1 t f)

  none_of_acts : (g : GroupId) (h : ℕ) (xs : List (Act s)) → OwnActs own g xs → is_listed dirty g ≡ true → is_listed dirty (own.of_entity h) ≡ false → NoAct h xs
  none_of_acts g h [] o t f = tt
  none_of_acts g h (x ∷ xs) o t f = (other_entity g h x.entity.0 o.0 t f, none_of_acts g h xs o.1 t f)

  agree_listed : (n m : Numbers s) (g : GroupId) (x y : Left s) → AgreeOutside dirty own n m → is_listed dirty g ≡ true
      → OwnParams own g x.params → OwnParams own g y.params → OwnActs own g x.acts → OwnActs own g y.acts → AgreeOutside dirty own (joined n x) (joined m y)
  agree_listed n m g x y is t px py ax ay = record {
    params = λ h out. value_other h y.params m.params (none_of_params g h y.params py t out) ∙ is.params h out ∙ sym (value_other h x.params n.params (none_of_params g h x.params px t out));
    acts = λ h out. act_other h y.acts m.acts (none_of_acts g h y.acts ay t out) ∙ is.acts h out ∙ sym (act_other h x.acts n.acts (none_of_acts g h x.acts ax t out));
  }

-- a group that depends on nothing that differs comes out the same
module _ (s : ℕ) (w v : Works s) (before now : List (ParamValue s)) (n m : Numbers s) (g : GroupId) (same : SameGroup w v before now n m g) where
  starts_same : (ids : List ParamId) → SameStored before now ids → SameStarts (w.start n g) (v.start m g) ids → map (started_at v now m g) ids ≡ map (started_at w before n g) ids
  starts_same [] e f = refl
  starts_same (p ∷ ps) e f =
      ap (λ (z : ℤ). record { id = p; value = z } ∷ map (started_at v now m g) ps) (ap (λ (o : Option ℤ). unwrap_or o (v.start m g p)) e.0 ∙ ap (λ (z : ℤ). unwrap_or (value_of p.0 before) z) f.0)
      ∙ ap (λ l. started_at w before n g p ∷ l) (starts_same ps e.1 f.1)

  pub started_same : started v now m g ≡ started w before n g
  started_same = ap (map (started_at v now m g)) same.own ∙ starts_same (w.own g) same.stored same.start

  unknown_same : v.is_unknown g ≡ w.is_unknown g
  unknown_same = funext (v.is_unknown g) (w.is_unknown g) same.unknown

  unknowns_same : unknowns v g ≡ unknowns w g
  unknowns_same = ap (λ (t : ParamId → Bool). filter t (v.own g)) unknown_same ∙ ap (filter (w.is_unknown g)) same.own

  seen_same : (fixed : List (ParamValue s)) → v.seen m g fixed ≡ w.seen n g fixed
  seen_same fixed = funext (v.seen m g fixed) (w.seen n g fixed) (same.seen fixed)

  found_same : (ps : List (ParamValue s)) → found v m g ps ≡ found w n g ps
  found_same ps =
      ap (λ (t : ParamId → Bool). unless_bad (v.bad_frame m g) (point_of t ps) (verdict_over s (length (unknowns v g)) (v.seen m g (fixed_of t ps)) (point_of t ps))) unknown_same
      ∙ ap (λ (o : Option FrameFault). unless_bad o (point_of (w.is_unknown g) ps) (verdict_over s (length (unknowns v g)) (v.seen m g (fixed_of (w.is_unknown g) ps)) (point_of (w.is_unknown g) ps))) same.frame
      ∙ ap (λ (ids : List ParamId). unless_bad (w.bad_frame n g) (point_of (w.is_unknown g) ps) (verdict_over s (length ids) (v.seen m g (fixed_of (w.is_unknown g) ps)) (point_of (w.is_unknown g) ps))) unknowns_same
      ∙ ap (λ (at : List ℤ → Option Seen). unless_bad (w.bad_frame n g) (point_of (w.is_unknown g) ps) (verdict_over s (length (unknowns w g)) at (point_of (w.is_unknown g) ps))) (seen_same (fixed_of (w.is_unknown g) ps))

  came_same : (ps : List (ParamValue s)) (r : Found) → came_out v m g ps r ≡ came_out w n g ps r
  came_same ps r =
      ap (λ (t : ParamId → Bool). left_at v m g (member v m g (fixed_of t ps) r ∷ []) (placed t ps r.point)) unknown_same
      ∙ ap (λ (ids : List ParamId). left_at v m g (record { group = g; params = ids; result = result_by (names v m g (fixed_of (w.is_unknown g) ps)) r } ∷ []) (placed (w.is_unknown g) ps r.point)) unknowns_same
      ∙ ap (λ (at : List ℤ → Option Seen). left_at v m g (record { group = g; params = unknowns w g; result = result_by (λ x. names_at (at x)) r } ∷ []) (placed (w.is_unknown g) ps r.point)) (seen_same (fixed_of (w.is_unknown g) ps))
      ∙ ap (λ (acts : List (Act s)). record { members = member w n g (fixed_of (w.is_unknown g) ps) r ∷ []; params = placed (w.is_unknown g) ps r.point; acts = acts }) (same.acts (placed (w.is_unknown g) ps r.point))

  pub left_same : left_by v now m g ≡ left_by w before n g
  left_same =
      ap (λ (ps : List (ParamValue s)). came_out v m g ps (found v m g ps)) started_same
      ∙ ap (λ (r : Found). came_out v m g (started w before n g) r) (found_same (started w before n g))
      ∙ came_same (started w before n g) (found w n g (started w before n g))

module _ (s : ℕ) (own : Owners) (w v : Works s) (before now : List (ParamValue s)) (dirty : List GroupId) (report : List (Listed s)) (same : SameOutside own w v before now dirty) where
  own_left : (u : Works s) (stored : List (ParamValue s)) (n : Numbers s) (g : GroupId) → LeavesOwn own u → OwnParams own g (left_by u stored n g).params
  own_left u stored n g is = is.params g (left_by u stored n g).params (ids_placed s (u.is_unknown g) (started u stored n g) (found u n g (started u stored n g)).point ∙ ids_started s u stored n g (u.own g))

  stands : (n m : Numbers s) (g : GroupId) → AgreeOutside dirty own n m → StandsAs w before report n g (left_by w before n g) → is_listed dirty g ≡ false → StandsAs v now report m g (left_by v now m g)
  stands n m g agree is out =
      let e = same.group n m g agree out in
      record {
        member = is.member ∙ ap (λ (x : Left s). x.members) (sym (left_same s w v before now n m g e));
        params = started_same s w v before now n m g e ∙ is.params ∙ ap (λ (x : Left s). x.params) (sym (left_same s w v before now n m g e));
      }

  agrees : (n m : Numbers s) (g : GroupId) → AgreeOutside dirty own n m → AgreeOutside dirty own (joined n (left_by w before n g)) (joined m (left_by v now m g))
  agrees n m g agree = elim (cases_Bool (is_listed dirty g)) [
    | inl y ↦ agree_listed s own dirty n m g (left_by w before n g) (left_by v now m g) agree y (own_left w before n g same.left_before) (own_left v now m g same.left_now)
        (same.left_before.acts n g (left_by w before n g).params) (same.left_now.acts m g (left_by v now m g).params)
    | inr out ↦ subst (λ (x : Left s). AgreeOutside dirty own (joined n (left_by w before n g)) (joined m x)) (sym (left_same s w v before now n m g (same.group n m g agree out))) (agree_same s own dirty n m (left_by w before n g) agree)
  ]

  all_stand : (order : List GroupId) (st now_st : State s) → AgreeOutside dirty own st.numbers now_st.numbers → Each (left_by w before) (StandsAs w before report) order st
      → Each (left_by v now) (λ n g x. is_listed dirty g ≡ false → StandsAs v now report n g x) order now_st
  all_stand [] st now_st agree all = tt
  all_stand (g ∷ gs) st now_st agree all = (
    stands st.numbers now_st.numbers g agree all.0,
    all_stand gs (taken st (left_by w before st.numbers g)) (taken now_st (left_by v now now_st.numbers g)) (agrees st.numbers now_st.numbers g agree) all.1,
  )

  pub dirty_full : (order : List GroupId) → Each (left_by w before) (StandsAs w before report) order (at_references w) → regenerated_over v now dirty report order ≡ regenerated v now order
  dirty_full order all = fold_over s v now dirty report order (at_references v) (all_stand order (at_references w) (at_references v) same.first all)

pub fold_again_law : FoldAgainLaw
fold_again_law s w before now order st all = fold_again s w before now order st all

pub over_law : OverLaw
over_law s w stored dirty before order st all = fold_over s w stored dirty before order st all

pub dirty_law : DirtyLaw
dirty_law s own w v before now dirty report order same all = dirty_full s own w v before now dirty report same order all
