-- Group 1 comes first.
use Rattle.std.proofs.Common.{◌≡◌, inl, inr, ℕ, suc, ◌<◌, List, [], ◌∷◌, Bool, true, false, nat_eq, Option, Some, None, is_some, refl, sym, ap, ◌∙◌, arith}
use Rattle.std.specs.Prelude.{◌==◌}
use Rattle.std.specs.Option.{option_map}
use Rattle.std.specs.List.{AllByRecursion, fold, list_any}
use Rattle.std.proofs.lemmas.Bool.{cases_Bool, eq-eqb, eqb-true, lt-ltb}
use Rattle.sk_types.specs.declared.handle.GroupId.{GroupId}
use Rattle.sk_types.specs.declared.group.Group.{Group}
use Rattle.sk_copy.specs.Order.{in_order, put_in}
use Rattle.sk_model.specs.Typed.{is_first_group}
use Rattle.sk_chain.specs.Lookups.{place_in}
use Rattle.sk_chain.specs.Order.{comes_before, group_order, groups_in_order, ids_of}
use Rattle.sk_chain.specs.Outlines.{is_later}
use Rattle.sk_chain.proofs.InOrder.{all_put}
use Rattle.sk_chain.proofs.Noting.{place_listed}
use Rattle.sk_chain.proofs.Places.{place_cons}
use Rattle.sk_regen.specs.Regeneration.{is_listed}

by_place : (f : GroupId) (rest : List GroupId) (x : GroupId) → f.0 ≡ 1 → is_listed (f ∷ rest) x ≡ true → is_later (place_in x.0 (f ∷ rest)) (place_in 1 (f ∷ rest)) ≡ false → x.0 ≡ 1
by_place f rest x one listed early = elim (cases_Bool (nat_eq x.0 f.0)) [
  | inl t ↦ eqb-true x.0 f.0 t ∙ one
  | inr off ↦
      let here : nat_eq 1 f.0 ≡ true = eq-eqb 1 f.0 (sym one) in
      let first : place_in 1 (f ∷ rest) ≡ Some 0 = place_cons 1 f rest ∙ rw here refl in
      let later : place_in x.0 (f ∷ rest) ≡ option_map suc (place_in x.0 rest) = place_cons x.0 f rest ∙ rw off refl in
      let there : is_some (place_in x.0 rest) ≡ true = place_listed x.0 rest ∙ (rw off at listed) in
      by_rest (place_in x.0 rest) there (rw (later, first) at early)
]
  where
    by_rest : (o : Option ℕ) → is_some o ≡ true → is_later (option_map suc o) (Some 0) ≡ false → x.0 ≡ 1
    by_rest None t e = cc t
    by_rest (Some i) t e = (let l : 0 < suc i = omega arith in let no : true ≡ false = sym (lt-ltb 0 (suc i) l) ∙ e in cc no)

module _ {s : ℕ} where
  pub record HeadIs (ys : List (Group s)) : Type 0 where
    pub first : Group s
    pub others : List (Group s)
    pub whole : ys ≡ first ∷ others
    pub one : first.id.0 ≡ 1

  abbrev is_one : Group s → Bool
  is_one g = g.id.0 == 1

  abbrev NotOne : Group s → Type 0
  NotOne g = is_one g ≡ false

  head_of : {x y : Group s} {xs ys : List (Group s)} → x ∷ xs ≡ y ∷ ys → x ≡ y
  head_of e = cc e

  head_put : (x : Group s) (ys : List (Group s)) → HeadIs ys → HeadIs (put_in comes_before x ys)
  head_put x [] h = cc h.whole
  head_put x (y ∷ ys) h =
      let is : y.id.0 ≡ 1 = ap (λ (g : Group s). g.id.0) (head_of h.whole) ∙ h.one in
      let t : (y.id.0 == 1) ≡ true = eq-eqb y.id.0 1 is in
      let behind : put_in comes_before x (y ∷ ys) ≡ y ∷ put_in comes_before x ys = rw t refl in
      record { first = y; others = put_in comes_before x ys; whole = behind; one = is }

  new_head : (x : Group s) (ys : List (Group s)) → is_one x ≡ true → AllByRecursion NotOne ys → HeadIs (put_in comes_before x ys)
  new_head x [] t a = record { first = x; others = []; whole = refl; one = eqb-true x.id.0 1 t }
  new_head x (y ∷ ys) t a =
      let off = a.0 in
      let before : put_in comes_before x (y ∷ ys) ≡ x ∷ y ∷ ys = rw (off, t) refl in
      record { first = x; others = y ∷ ys; whole = before; one = eqb-true x.id.0 1 t }

  head_onto : (ys xs : List (Group s)) → HeadIs ys → HeadIs (fold (λ zs x. put_in comes_before x zs) ys xs)
  head_onto ys [] h = h
  head_onto ys (x ∷ xs) h = head_onto (put_in comes_before x ys) xs (head_put x ys h)

  first_onto : (ys xs : List (Group s)) → AllByRecursion NotOne ys → list_any is_one xs ≡ true → HeadIs (fold (λ zs x. put_in comes_before x zs) ys xs)
  first_onto ys [] a e = cc e
  first_onto ys (x ∷ xs) a e = elim (cases_Bool (is_one x)) [
    | inl t ↦ head_onto (put_in comes_before x ys) xs (new_head x ys t a)
    | inr f ↦ first_onto (put_in comes_before x ys) xs (all_put NotOne comes_before x ys f a) (rw f at e)
  ]

  first_head : (gs : List (Group s)) → list_any is_one gs ≡ true → HeadIs (groups_in_order gs)
  unfolding in_order
  first_head gs e = first_onto [] gs tt e

  any_one : (gs : List (Group s)) → list_any is_first_group gs ≡ true → list_any is_one gs ≡ true
  any_one [] e = cc e
  any_one (g ∷ gs) e = elim (cases_Bool (is_one g)) [
    | inl t ↦ rw t refl
    | inr f ↦ rw f (any_one gs (rw f at e))
  ]

  -- what isn't behind group 1 in group order is group 1
  pub first_alone : (gs : List (Group s)) → list_any is_first_group gs ≡ true → (x : GroupId) → is_listed (group_order gs) x ≡ true → is_later (place_in x.0 (group_order gs)) (place_in 1 (group_order gs)) ≡ false → x.0 ≡ 1
  first_alone gs e x listed early =
      let h = first_head gs (any_one gs e) in
      let order : group_order gs ≡ h.first.id ∷ ids_of h.others = ap ids_of h.whole in
      by_place h.first.id (ids_of h.others) x h.one
      (ap (λ (ids : List GroupId). is_listed ids x) (sym order) ∙ listed)
      (ap (λ (ids : List GroupId). is_later (place_in x.0 ids) (place_in 1 ids)) (sym order) ∙ early)
