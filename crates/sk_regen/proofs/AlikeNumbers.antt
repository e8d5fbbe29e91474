-- Before any group is regenerated, models that are alike outside a list have the same numbers there.
use Rattle.std.proofs.Common.{◌≡◌, inl, inr, ℕ, List, [], ◌∷◌, ◌++◌, map, Bool, true, false, Option, Some, None, refl, sym, ap, ◌∙◌}
use Rattle.std.specs.Prelude.{◌==◌, ◌||◌, ℤ, pos, if◌then◌else◌}
use Rattle.std.specs.List.{AllByRecursion, flat_map, fold, list_any}
use Rattle.std.proofs.lemmas.Bool.{cases_Bool, eqb-true}
use Rattle.sk_types.specs.declared.handle.GroupId.{GroupId}
use Rattle.sk_types.specs.declared.handle.Maker.{Maker}
use Rattle.sk_types.specs.declared.handle.ParamId.{ParamId}
use Rattle.sk_types.specs.declared.entity.Act.{Act}
use Rattle.sk_types.specs.declared.entity.Entity.{Entity}
use Rattle.sk_types.specs.declared.entity.Outline.{Outline}
use Rattle.sk_types.specs.declared.entity.ParamValue.{ParamValue}
use Rattle.sk_types.specs.declared.group.Group.{Group}
use Rattle.sk_types.specs.Handles.{maker_of}
use Rattle.sk_types.specs.Lookups.{act_at, value_of}
use Rattle.sk_types.specs.Params.{group_params, own_params}
use Rattle.sk_copy.specs.Order.{in_order, put_in}
use Rattle.sk_model.specs.Typed.{Typed}
use Rattle.sk_chain.proofs.InOrder.{all_in_order}
use Rattle.sk_regen.specs.FoldLaws.{AgreeOutside}
use Rattle.sk_regen.specs.GroupWorks.{all_acts, all_params, blank, no_act, nought, param_before, stands}
use Rattle.sk_regen.specs.Likeness.{IsWhole, SameButFor, outside, owner_by, owners}
use Rattle.sk_regen.specs.Regeneration.{is_listed}
use Rattle.sk_regen.proofs.Outside.{OwnsAll, entities_owned, group_owned, owned_before, owned_now, params_owned}

-- ---- values that are all 0

abbrev zero_if : Bool → Option ℤ
zero_if true = Some (pos 0)
zero_if false = None

abbrev among : ℕ → List ParamId → Bool
among h ps = list_any (λ (p : ParamId). h == p.0) ps

or_false : (a : Bool) → a ≡ (a || false)
or_false true = refl
or_false false = refl

swapped : (a b c : Bool) → (b || (a || c)) ≡ (a || (b || c))
swapped true true c = refl
swapped true false c = refl
swapped false true c = refl
swapped false false c = refl

turned : (a b c : Bool) → ((a || b) || c) ≡ (b || (a || c))
turned true true c = refl
turned true false c = refl
turned false true c = refl
turned false false c = refl

module _ (s : ℕ) (h : ℕ) where
  abbrev IsZero : ParamValue s → Type 0
  IsZero q = q.value ≡ pos 0

  abbrev stands_in : List (ParamValue s) → Bool
  stands_in zs = list_any (λ (q : ParamValue s). h == q.id.0) zs

  value_is : (zs : List (ParamValue s)) → AllByRecursion IsZero zs → value_of h zs ≡ zero_if (stands_in zs)
  value_is [] a = refl
  value_is (z ∷ zs) a = elim (cases_Bool (h == z.id.0)) [
    | inl t ↦ rw t (ap Some a.0)
    | inr f ↦ rw f (value_is zs a.1)
  ]

  stands_put : (x : ParamValue s) (ys : List (ParamValue s)) → stands_in (put_in param_before x ys) ≡ stands_in (x ∷ ys)
  stands_put x [] = refl
  stands_put x (y ∷ ys) = elim (cases_Bool (param_before x y)) [
    | inl t ↦ rw t refl
    | inr f ↦ rw f (ap (λ (b : Bool). (h == y.id.0) || b) (stands_put x ys) ∙ swapped (h == x.id.0) (h == y.id.0) (stands_in ys))
  ]

  stands_onto : (ys xs : List (ParamValue s)) → stands_in (fold (λ zs x. put_in param_before x zs) ys xs) ≡ (stands_in ys || stands_in xs)
  stands_onto ys [] = or_false (stands_in ys)
  stands_onto ys (x ∷ xs) = stands_onto (put_in param_before x ys) xs ∙ ap (λ (b : Bool). b || stands_in xs) (stands_put x ys) ∙ turned (h == x.id.0) (stands_in ys) (stands_in xs)

  stands_ordered : (xs : List (ParamValue s)) → stands_in (in_order param_before xs) ≡ stands_in xs
  unfolding in_order
  stands_ordered xs = stands_onto [] xs

  stands_noughts : (ps : List ParamId) → stands_in (map (nought {s = s}) ps) ≡ among h ps
  stands_noughts [] = refl
  stands_noughts (p ∷ ps) = ap (λ (b : Bool). (h == p.0) || b) (stands_noughts ps)

  zeros : (ps : List ParamId) → AllByRecursion IsZero (map (nought {s = s}) ps)
  zeros [] = tt
  zeros (p ∷ ps) = (refl, zeros ps)

  value_all : (gs : List (Group s)) (es : List (Entity s)) → value_of h (all_params gs es) ≡ zero_if (among h (flat_map own_params es ++ flat_map group_params gs))
  value_all gs es =
      let ps = flat_map own_params es ++ flat_map group_params gs in
      value_is (all_params gs es) (all_in_order IsZero param_before (map nought ps) (zeros ps))
      ∙ ap zero_if (stands_ordered (map nought ps) ∙ stands_noughts ps)

among_append : (h : ℕ) (xs ys : List ParamId) → among h (xs ++ ys) ≡ (among h xs || among h ys)
among_append h [] ys = refl
among_append h (x ∷ xs) ys = elim (cases_Bool (h == x.0)) [ inl t ↦ rw t refl | inr f ↦ rw f (among_append h xs ys) ]

-- ---- what is outside a list

module _ (dirty : List GroupId) (own : Maker → GroupId) (h : ℕ) (out : is_listed dirty (own (maker_of h)) ≡ false) where
  pub other_handle : (k : ℕ) (g : GroupId) → own (maker_of k) ≡ g → is_listed dirty g ≡ true → (h == k) ≡ false
  other_handle k g is t = elim (cases_Bool (h == k)) [
    | inl y ↦ (let no : true ≡ false = sym t ∙ ap (is_listed dirty) (sym is) ∙ ap (λ (j : ℕ). is_listed dirty (own (maker_of j))) (sym (eqb-true h k y)) ∙ out in cc no)
    | inr f ↦ f
  ]

  abbrev Owned : GroupId → List ParamId → Type 0
  Owned g ps = AllByRecursion (λ (p : ParamId). own (maker_of p.0) ≡ g) ps

  none_among : (g : GroupId) → is_listed dirty g ≡ true → (ps : List ParamId) → Owned g ps → among h ps ≡ false
  none_among g t [] a = refl
  none_among g t (p ∷ ps) a = rw (other_handle p.0 g a.0 t) (none_among g t ps a.1)

  among_outside : {T : Type 0} (f : T → List ParamId) (group : T → GroupId) (xs : List T) → AllByRecursion (λ x. Owned (group x) (f x)) xs → among h (flat_map f (outside dirty group xs)) ≡ among h (flat_map f xs)
  among_outside f group [] a = refl
  among_outside f group (x ∷ xs) a =
      let rest = among_outside f group xs a.1 in
      elim (cases_Bool (is_listed dirty (group x))) [
        | inl t ↦ (let none = none_among (group x) t (f x) a.0 in
            rw t (rest ∙ sym (among_append h (f x) (flat_map f xs) ∙ ap (λ (b : Bool). b || among h (flat_map f xs)) none)))
        | inr n ↦ rw n (among_append h (f x) (flat_map f (outside dirty group xs)) ∙ ap (λ (b : Bool). among h (f x) || b) rest ∙ sym (among_append h (f x) (flat_map f xs)))
      ]

  act_outside : {s : ℕ} (es : List (Entity s)) → AllByRecursion (λ (e : Entity s). own (maker_of e.id.0) ≡ e.group) es → act_at h (all_acts (outside dirty (λ (e : Entity s). e.group) es)) ≡ act_at h (all_acts es)
  act_outside [] a = refl
  act_outside {s} (e ∷ es) a =
      let rest = act_outside es a.1 in
      elim (cases_Bool (is_listed dirty e.group)) [
        | inl t ↦ rw t (elim (cases_Bool (stands e)) [
          | inl u ↦ (let off = other_handle e.id.0 e.group a.0 t in rw (u, off) rest)
          | inr v ↦ rw v rest
        ])
        | inr n ↦ rw n (elim (cases_Bool (stands e)) [
          | inl u ↦ rw u (ap (λ (o : Option (Act s)). if h == e.id.0 then Some (no_act e) else o) rest)
          | inr v ↦ rw v rest
        ])
      ]

module _ {s : ℕ} (dirty : List GroupId) (l : Typed s) (o : Outline s) (m : Typed s) (p : Outline s) (before : IsWhole l o) (now : IsWhole m p) (like : SameButFor dirty l o m p) where
  abbrev own : Maker → GroupId
  own = owner_by l.requests m.requests

  pub are_now : OwnsAll own m.requests m.groups
  are_now = owned_now l.requests m.requests m.groups

  pub are_before : OwnsAll own l.requests l.groups
  are_before = owned_before l.requests m.requests l.groups like.stay

  groups_own : (q : Typed s) (u : Outline s) (is : IsWhole q u) (a : OwnsAll own q.requests q.groups) (gs : List (Group s)) → AllByRecursion (λ (g : Group s). AllByRecursion (λ (i : ParamId). own (maker_of i.0) ≡ g.id) (group_params g)) gs
  groups_own q u is a [] = tt
  groups_own q u is a (g ∷ gs) = (group_owned own q u is a g, groups_own q u is a gs)

  module _ (h : ℕ) (out : is_listed dirty (own (maker_of h)) ≡ false) where
    of_entities : among h (flat_map own_params p.entities) ≡ among h (flat_map own_params o.entities)
    of_entities =
        sym (among_outside dirty own h out own_params (λ (e : Entity s). e.group) p.entities (params_owned own m p now are_now))
        ∙ ap (λ (es : List (Entity s)). among h (flat_map own_params es)) like.entities
        ∙ among_outside dirty own h out own_params (λ (e : Entity s). e.group) o.entities (params_owned own l o before are_before)

    of_groups : among h (flat_map group_params m.groups) ≡ among h (flat_map group_params l.groups)
    of_groups =
        sym (among_outside dirty own h out group_params (λ (g : Group s). g.id) m.groups (groups_own m p now are_now m.groups))
        ∙ ap (λ (gs : List (Group s)). among h (flat_map group_params gs)) like.groups
        ∙ among_outside dirty own h out group_params (λ (g : Group s). g.id) l.groups (groups_own l o before are_before l.groups)

    of_all : among h (flat_map own_params p.entities ++ flat_map group_params m.groups) ≡ among h (flat_map own_params o.entities ++ flat_map group_params l.groups)
    of_all =
        among_append h (flat_map own_params p.entities) (flat_map group_params m.groups)
        ∙ (λ i. of_entities i || of_groups i)
        ∙ sym (among_append h (flat_map own_params o.entities) (flat_map group_params l.groups))

    values_alike : value_of h (all_params m.groups p.entities) ≡ value_of h (all_params l.groups o.entities)
    values_alike = value_all s h m.groups p.entities ∙ ap zero_if of_all ∙ sym (value_all s h l.groups o.entities)

    acts_alike : act_at h (all_acts p.entities) ≡ act_at h (all_acts o.entities)
    acts_alike =
        sym (act_outside dirty own h out p.entities (entities_owned own m p now are_now))
        ∙ ap (λ (es : List (Entity s)). act_at h (all_acts es)) like.entities
        ∙ act_outside dirty own h out o.entities (entities_owned own l o before are_before)

  pub blank_agree : AgreeOutside dirty (owners l.requests m.requests) (blank l.groups o.entities) (blank m.groups p.entities)
  blank_agree = record { params = values_alike; acts = acts_alike }
