-- Models that are alike outside a list give each group outside it the same result.
use Rattle.std.proofs.Common.{◌≡◌, inl, inr, ℕ, List, [], ◌∷◌, map, Bool, true, false, Option, Some, None, refl, sym, ap, ◌∙◌, subst}
use Rattle.std.specs.Prelude.{◌==◌, pos, if◌then◌else◌}
use Rattle.std.specs.List.{AllByRecursion, filter, flat_map}
use Rattle.std.proofs.lemmas.Bool.{cases_Bool, eqb-true}
use Rattle.sk_types.specs.declared.handle.GroupId.{GroupId}
use Rattle.sk_types.specs.declared.handle.Maker.{Maker}
use Rattle.sk_types.specs.declared.handle.ParamId.{ParamId}
use Rattle.sk_types.specs.declared.entity.Act.{Act}
use Rattle.sk_types.specs.declared.entity.Entity.{Entity}
use Rattle.sk_types.specs.declared.entity.Numbers.{Numbers}
use Rattle.sk_types.specs.declared.entity.Outline.{Outline}
use Rattle.sk_types.specs.declared.entity.ParamValue.{ParamValue}
use Rattle.sk_types.specs.declared.group.Group.{Group}
use Rattle.sk_types.specs.Handles.{maker_of}
use Rattle.sk_types.specs.Kinds.{is_distance, is_face, is_normal, is_point}
use Rattle.sk_types.specs.Lookups.{act_at, value_of}
use Rattle.sk_types.specs.declared.request.Request.{Request}
use Rattle.sk_types.specs.Params.{free_params, group_params, own_params, unknown_params}
use Rattle.sk_expr.specs.Seen.{Seen}
use Rattle.sk_geom.specs.Sources.{Source}
use Rattle.sk_model.specs.Changes.{with_params}
use Rattle.sk_model.specs.Typed.{Typed}
use Rattle.sk_chain.specs.Lookups.{group_at}
use Rattle.sk_chain.proofs.Segments.{all_behind}
use Rattle.sk_chain.proofs.Standing.{found_is, found_own}
use Rattle.sk_system.specs.GroupSystem.{act_of, acts_at, group_source, group_system, start_at}
use Rattle.sk_system.specs.OwnRows.{OwnNumbers, own_numbers}
use Rattle.sk_regen.specs.Below.{model_works}
use Rattle.sk_regen.specs.FoldLaws.{AgreeOutside, LeavesOwn, OwnActs, OwnParams, Owners, SameGroup, SameOutside, SameStarts, SameStored}
use Rattle.sk_regen.specs.GroupWorks.{acts_of, all_acts, all_params, bad_frame_of, blank, first_group, first_numbers, in_group, is_one_of, or_none, params_of, ready, reference, reference_acts, references, seen_of, start_of, system_of, works}
use Rattle.sk_regen.specs.Likeness.{AlikeLaw, IsWhole, ReadsOutside, SameButFor, kept, owner_by, owners}
use Rattle.sk_regen.specs.Regeneration.{fixed_of, is_listed, point_of, with_acts}
use Rattle.sk_regen.proofs.AlikeGroups.{acts_same, bad_same, group_same, own_same, seen_same, start_same, unknowns_same}
use Rattle.sk_regen.proofs.AlikeNumbers.{are_before, are_now, blank_agree, other_handle}
use Rattle.sk_regen.proofs.Grounds.{ids-reference}
use Rattle.sk_regen.proofs.Joined.{NoAct, NoParam, act_alike, act_other, value_alike, value_other}
use Rattle.sk_regen.proofs.Outside.{EntityOwned, HasOwn, OwnsAll, entities_owned, group_owned, params_owned, same_group}

either : {A : Type 0} (P : A → Type 0) (t : Bool) (x y : A) → P x → P y → P (if t then x else y)
either P true x y h k = h
either P false x y h k = k

cons_head : {X : Type 0} {x y : X} {xs ys : List X} → x ∷ xs ≡ y ∷ ys → x ≡ y
cons_head e = cc e

cons_tail : {X : Type 0} {x y : X} {xs ys : List X} → x ∷ xs ≡ y ∷ ys → xs ≡ ys
cons_tail e = cc e

-- ---- what a group leaves is its own

module _ {s : ℕ} (before now : List Request) (q : Typed s) (u : Outline s) (is : IsWhole q u) (a : OwnsAll (owner_by before now) q.requests q.groups) where
  abbrev own : Maker → GroupId
  own = owner_by before now

  abbrev ow : Owners
  ow = owners before now

  abbrev OwnedBy : GroupId → List ParamId → Type 0
  OwnedBy g ps = AllByRecursion (λ (i : ParamId). own (maker_of i.0) ≡ g) ps

  drawn_own : (g : Group s) (es : List (Entity s)) → AllByRecursion (HasOwn own q u is a) es → OwnedBy g.id (flat_map (free_params []) (filter (λ e. e.group.0 == g.id.0) es))
  drawn_own g [] h = tt
  drawn_own g (e ∷ es) h = elim (cases_Bool (e.group.0 == g.id.0)) [
    | inl t ↦ (let same : e.group ≡ g.id = same_group e.group g.id (eqb-true e.group.0 g.id.0 t) in
        rw t (all_behind (λ (i : ParamId). own (maker_of i.0) ≡ g.id) (own_params e) (flat_map (free_params []) (filter (λ e. e.group.0 == g.id.0) es)) (subst (λ (i : GroupId). OwnedBy i (own_params e)) same h.0) (drawn_own g es h.1)))
    | inr f ↦ rw f (drawn_own g es h.1)
  ]

  params_own : (g : Group s) → OwnedBy g.id (params_of u.entities g)
  params_own g =
      all_behind (λ (i : ParamId). own (maker_of i.0) ≡ g.id) (flat_map (free_params []) (filter (λ e. e.group.0 == g.id.0) u.entities)) (group_params g)
      (drawn_own g u.entities (params_owned own q u is a)) (group_owned own q u is a g)

  ids_by : (g : GroupId) (x : Option (Group s)) → group_at g.0 q.groups ≡ x → OwnedBy g (or_none [] (params_of u.entities) x)
  ids_by g None e = tt
  ids_by g (Some h) e = subst (λ (i : GroupId). OwnedBy i (params_of u.entities h)) (sym (same_group g h.id (found_is g.0 q.groups h e))) (params_own h)

  pub ids_own : (g : GroupId) → OwnedBy g (in_group q.groups [] (params_of u.entities) g)
  ids_own g = ids_by g (group_at g.0 q.groups) refl

  to_params : (g : GroupId) (ps : List (ParamValue s)) (ids : List ParamId) → map (λ (p : ParamValue s). p.id) ps ≡ ids → OwnedBy g ids → OwnParams ow g ps
  to_params g [] ids e h = tt
  to_params g (p ∷ ps) [] e h = cc e
  to_params g (p ∷ ps) (i ∷ ids) e h = (ap (λ (j : ParamId). own (maker_of j.0)) (cons_head e) ∙ h.0, to_params g ps ids (cons_tail e) h.1)

  -- ---- readings

  abbrev NumbersOf : GroupId → List OwnNumbers → Type 0
  NumbersOf g ns = AllByRecursion (λ (x : OwnNumbers). own (maker_of x.entity.0) ≡ g) ns

  one_own : (o : Source s) (g : GroupId) (e : Entity s) → own (maker_of e.id.0) ≡ g → NumbersOf g (own_numbers o e)
  unfolding own_numbers
  one_own o g e h =
      either (NumbersOf g) (is_point e.kind) _ _ (h, tt)
      (either (NumbersOf g) (is_normal e.kind) _ _ (h, tt)
      (either (NumbersOf g) (is_distance e.kind) _ _ (h, tt)
      (either (NumbersOf g) (is_face e.kind) _ _ (h, tt) tt)))

  numbers_own : (o : Source s) (g : GroupId) (es : List (Entity s)) → AllByRecursion (EntityOwned own q u is a) es → NumbersOf g (flat_map (own_numbers o) (filter (λ e. e.group.0 == g.0) es))
  numbers_own o g [] h = tt
  numbers_own o g (e ∷ es) h = elim (cases_Bool (e.group.0 == g.0)) [
    | inl t ↦ (let here = one_own o g e (h.0 ∙ same_group e.group g (eqb-true e.group.0 g.0 t)) in
        rw t (all_behind (λ (x : OwnNumbers). own (maker_of x.entity.0) ≡ g) (own_numbers o e) (flat_map (own_numbers o) (filter (λ e. e.group.0 == g.0) es)) here (numbers_own o g es h.1)))
    | inr f ↦ rw f (numbers_own o g es h.1)
  ]

  to_acts : (g : GroupId) (seen : Seen) (ns : List OwnNumbers) → NumbersOf g ns → OwnActs ow g (map (act_of {s = s} seen) ns)
  to_acts g seen [] h = tt
  to_acts g seen (x ∷ ns) h = (h.0, to_acts g seen ns h.1)

  acts_own : (n : Numbers s) (g : Group s) (ps : List (ParamValue s)) → OwnActs ow g.id (acts_of u.entities q.constraints n g ps)
  unfolding acts_of acts_at group_system
  acts_own n g ps =
      let t = is_one_of (unknown_params q.constraints u.entities g) in
      let so_far = ready u.entities n g (fixed_of t ps) in
      let y = system_of u.entities q.constraints n g (fixed_of t ps) in
      to_acts g.id (start_at y (point_of t ps)) y.numbers (numbers_own (group_source g u.entities q.constraints so_far) g.id u.entities (entities_owned own q u is a))

  acts_by : (n : Numbers s) (g : GroupId) (ps : List (ParamValue s)) (x : Option (Group s)) → group_at g.0 q.groups ≡ x → OwnActs ow g (or_none (λ ps. []) (acts_of u.entities q.constraints n) x ps)
  acts_by n g ps None e = tt
  acts_by n g ps (Some h) e = subst (λ (i : GroupId). OwnActs ow i (acts_of u.entities q.constraints n h ps)) (sym (same_group g h.id (found_is g.0 q.groups h e))) (acts_own n h ps)

  pub leaves_own : LeavesOwn ow (model_works q u)
  unfolding works
  leaves_own = record {
    params = λ g ps e. to_params g ps (in_group q.groups [] (params_of u.entities) g) e (ids_own g);
    acts = λ n g ps. acts_by n g ps (group_at g.0 q.groups) refl;
  }

  -- ---- group 1

  references_by : (x : Option (Group s)) → map (λ (p : ParamValue s). p.id) (or_none [] (λ (g : Group s). map (reference s) (params_of u.entities g)) x) ≡ or_none [] (params_of u.entities) x
  references_by None = refl
  references_by (Some g) = ids-reference s (params_of u.entities g)

  pub references_own : OwnParams ow first_group (references q.groups u.entities)
  unfolding references
  references_own = to_params first_group _ (in_group q.groups [] (params_of u.entities) first_group) (references_by (group_at 1 q.groups)) (ids_own first_group)

  reference_acts_by : (x : Option (Group s)) → group_at 1 q.groups ≡ x → OwnActs ow first_group (or_none [] (λ (g : Group s). acts_of u.entities q.constraints (blank q.groups u.entities) g (references q.groups u.entities)) x)
  reference_acts_by None e = tt
  reference_acts_by (Some h) e =
      subst (λ (i : GroupId). OwnActs ow i (acts_of u.entities q.constraints (blank q.groups u.entities) h (references q.groups u.entities))) (sym (same_group first_group h.id (found_is 1 q.groups h e)))
      (acts_own (blank q.groups u.entities) h (references q.groups u.entities))

  pub reference_acts_own : OwnActs ow first_group (reference_acts q.groups u.entities q.constraints)
  reference_acts_own = reference_acts_by (group_at 1 q.groups) refl

-- ---- both models

module _ {s : ℕ} (dirty : List GroupId) (l : Typed s) (o : Outline s) (m : Typed s) (p : Outline s) (before : IsWhole l o) (now : IsWhole m p) (like : SameButFor dirty l o m p) (reads : ReadsOutside dirty (kept dirty l.requests m.requests) m p) where
  abbrev by : Maker → GroupId
  by = owner_by l.requests m.requests

  abbrev all : Owners
  all = owners l.requests m.requests

  abbrev was : OwnsAll by l.requests l.groups
  was = are_before dirty l o m p before now like

  abbrev is_now : OwnsAll by m.requests m.groups
  is_now = are_now dirty l o m p before now like

  abbrev Outer : Group s → Type 0
  Outer x = (group_at x.id.0 m.groups ≡ Some x) × (is_listed dirty x.id ≡ false)

  outer : (g : GroupId) → is_listed dirty g ≡ false → (x : Group s) → group_at g.0 m.groups ≡ Some x → Outer x
  outer g out x e = (found_own g.0 m.groups x e, ap (is_listed dirty) (sym (same_group g x.id (found_is g.0 m.groups x e))) ∙ out)

  -- what is taken of a group outside the list
  in_same : {T : Type 0} (none : T) (f h : Group s → T) (g : GroupId) → is_listed dirty g ≡ false → ((x : Group s) → Outer x → f x ≡ h x) → in_group m.groups none f g ≡ in_group l.groups none h g
  in_same {T} none f h g out same = from (group_at g.0 m.groups) refl ∙ ap (or_none none h) (group_same dirty l o m p before now like g out)
    where
      from : (x : Option (Group s)) → group_at g.0 m.groups ≡ x → or_none none f x ≡ or_none none h x
      from None e = refl
      from (Some x) e = same x (outer g out x e)

  in_same_at : {A T : Type 0} (none : A → T) (f h : Group s → A → T) (g : GroupId) (y : A) → is_listed dirty g ≡ false → ((x : Group s) → Outer x → f x y ≡ h x y) → in_group m.groups none f g y ≡ in_group l.groups none h g y
  in_same_at none f h g y out same = from (group_at g.0 m.groups) refl ∙ ap (λ (x : Option (Group s)). or_none none h x y) (group_same dirty l o m p before now like g out)
    where
      from : (x : Option (Group s)) → group_at g.0 m.groups ≡ x → or_none none f x y ≡ or_none none h x y
      from None e = refl
      from (Some x) e = same x (outer g out x e)

  -- ---- a group

  module _ (n k : Numbers s) (agree : AgreeOutside dirty all n k) (g : GroupId) (out : is_listed dirty g ≡ false) where
    stored_same : (ids : List ParamId) → AllByRecursion (λ (i : ParamId). by (maker_of i.0) ≡ g) ids → SameStored l.params m.params ids
    stored_same [] h = tt
    stored_same (i ∷ ids) h = (like.params i.0 (ap (is_listed dirty) h.0 ∙ out), stored_same ids h.1)

    starts_at : (i : ParamId) → by (maker_of i.0) ≡ g → in_group m.groups (λ p. pos 0) (start_of m.requests p.entities k) g i ≡ in_group l.groups (λ p. pos 0) (start_of l.requests o.entities n) g i
    unfolding start_of
    starts_at i h =
        in_same_at (λ p. pos 0) (start_of m.requests p.entities k) (start_of l.requests o.entities n) g i out
        (λ x e. start_same dirty l o m p before now like x e.1 reads e.0 n k agree (maker_of i.0) (ap (is_listed dirty) h ∙ out))

    starts_same : (ids : List ParamId) → AllByRecursion (λ (i : ParamId). by (maker_of i.0) ≡ g) ids
        → SameStarts (in_group l.groups (λ p. pos 0) (start_of l.requests o.entities n) g) (in_group m.groups (λ p. pos 0) (start_of m.requests p.entities k) g) ids
    starts_same [] h = tt
    starts_same (i ∷ ids) h = (starts_at i h.0, starts_same ids h.1)

    pub group_alike : SameGroup (model_works l o) (model_works m p) l.params m.params n k g
    unfolding works
    group_alike = record {
      own = in_same [] (params_of p.entities) (params_of o.entities) g out (λ x e. own_same dirty l o m p before now like x e.1);
      unknown = λ i. in_same_at (λ p. false) (λ x. is_one_of (unknown_of m p x)) (λ x. is_one_of (unknown_of l o x)) g i out (λ x e. ap (λ us. is_one_of us i) (unknowns_same dirty l o m p before now like x e.1));
      stored = stored_same _ (ids_own l.requests m.requests l o before was g);
      start = starts_same _ (ids_own l.requests m.requests l o before was g);
      frame = in_same None (bad_frame_of p.entities k.acts) (bad_frame_of o.entities n.acts) g out (λ x e. bad_same dirty l o m p before now like x e.1 reads e.0 n k agree);
      seen = λ fixed y. ap (λ f. f y) (in_same_at (λ fixed x. None) (seen_of p.entities m.constraints k) (seen_of o.entities l.constraints n) g fixed out
          (λ x e i z. seen_same dirty l o m p before now like x e.1 reads e.0 n k agree fixed z i));
      acts = λ ps. in_same_at (λ ps. []) (acts_of p.entities m.constraints k) (acts_of o.entities l.constraints n) g ps out (λ x e. acts_same dirty l o m p before now like x e.1 reads e.0 n k agree ps);
    }
      where
        unknown_of : (q : Typed s) (u : Outline s) (x : Group s) → List ParamId
        unknown_of q u x = unknown_params q.constraints u.entities x

  -- ---- before any group is regenerated

  no_param : (h : ℕ) → is_listed dirty (by (maker_of h)) ≡ false → is_listed dirty first_group ≡ true → (ps : List (ParamValue s)) → OwnParams all first_group ps → NoParam h ps
  no_param h out t [] a = tt
  no_param h out t (x ∷ ps) a = (other_handle dirty by h out x.id.0 first_group a.0 t, no_param h out t ps a.1)

  no_act : (h : ℕ) → is_listed dirty (by (maker_of h)) ≡ false → is_listed dirty first_group ≡ true → (xs : List (Act s)) → OwnActs all first_group xs → NoAct h xs
  no_act h out t [] a = tt
  no_act h out t (x ∷ xs) a = (other_handle dirty by h out x.entity.0 first_group a.0 t, no_act h out t xs a.1)

  abbrev blanks : AgreeOutside dirty all (blank l.groups o.entities) (blank m.groups p.entities)
  blanks = blank_agree dirty l o m p before now like

  references_same : is_listed dirty first_group ≡ false → references m.groups p.entities ≡ references l.groups o.entities
  unfolding references
  references_same out =
      in_same [] (λ (x : Group s). map (reference s) (params_of p.entities x)) (λ (x : Group s). map (reference s) (params_of o.entities x)) first_group out
      (λ x e. ap (map (reference s)) (own_same dirty l o m p before now like x e.1))

  reference_acts_same : is_listed dirty first_group ≡ false → reference_acts m.groups p.entities m.constraints ≡ reference_acts l.groups o.entities l.constraints
  reference_acts_same out =
      in_same [] (λ (x : Group s). acts_of p.entities m.constraints (blank m.groups p.entities) x (references m.groups p.entities)) (λ (x : Group s). acts_of o.entities l.constraints (blank l.groups o.entities) x (references l.groups o.entities)) first_group out
      (λ x e.
      acts_same dirty l o m p before now like x e.1 reads e.0 (blank l.groups o.entities) (blank m.groups p.entities) blanks (references m.groups p.entities)
      ∙ ap (acts_of o.entities l.constraints (blank l.groups o.entities) x) (references_same out))

  first_param : (h : ℕ) → is_listed dirty (by (maker_of h)) ≡ false → value_of h (with_params (references m.groups p.entities) (all_params m.groups p.entities)) ≡ value_of h (with_params (references l.groups o.entities) (all_params l.groups o.entities))
  first_param h out = elim (cases_Bool (is_listed dirty first_group)) [
    | inl t ↦
        value_other h (references m.groups p.entities) (all_params m.groups p.entities) (no_param h out t (references m.groups p.entities) (references_own l.requests m.requests m p now is_now))
        ∙ blanks.params h out
        ∙ sym (value_other h (references l.groups o.entities) (all_params l.groups o.entities) (no_param h out t (references l.groups o.entities) (references_own l.requests m.requests l o before was)))
    | inr f ↦
        ap (λ (qs : List (ParamValue s)). value_of h (with_params qs (all_params m.groups p.entities))) (references_same f)
        ∙ value_alike h (references l.groups o.entities) (all_params m.groups p.entities) (all_params l.groups o.entities) (blanks.params h out)
  ]

  first_act : (h : ℕ) → is_listed dirty (by (maker_of h)) ≡ false → act_at h (with_acts (reference_acts m.groups p.entities m.constraints) (all_acts p.entities)) ≡ act_at h (with_acts (reference_acts l.groups o.entities l.constraints) (all_acts o.entities))
  first_act h out = elim (cases_Bool (is_listed dirty first_group)) [
    | inl t ↦
        act_other h (reference_acts m.groups p.entities m.constraints) (all_acts p.entities) (no_act h out t (reference_acts m.groups p.entities m.constraints) (reference_acts_own l.requests m.requests m p now is_now))
        ∙ blanks.acts h out
        ∙ sym (act_other h (reference_acts l.groups o.entities l.constraints) (all_acts o.entities) (no_act h out t (reference_acts l.groups o.entities l.constraints) (reference_acts_own l.requests m.requests l o before was)))
    | inr f ↦
        ap (λ (xs : List (Act s)). act_at h (with_acts xs (all_acts p.entities))) (reference_acts_same f)
        ∙ act_alike h (reference_acts l.groups o.entities l.constraints) (all_acts p.entities) (all_acts o.entities) (blanks.acts h out)
  ]

  first_alike : AgreeOutside dirty all (model_works l o).first (model_works m p).first
  unfolding works first_numbers
  first_alike = record { params = first_param; acts = first_act }

  pub works_alike : SameOutside all (model_works l o) (model_works m p) l.params m.params dirty
  works_alike = record {
    first = first_alike;
    group = λ n k g agree out. group_alike n k agree g out;
    left_before = leaves_own l.requests m.requests l o before was;
    left_now = leaves_own l.requests m.requests m p now is_now;
  }

pub alike_law : AlikeLaw
alike_law s dirty l o m p before now like reads = works_alike dirty l o m p before now like reads
