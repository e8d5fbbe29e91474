-- Numbers with those that a group leaves.
use Rattle.std.proofs.Common.{◌≡◌, inl, inr, ℕ, List, [], ◌∷◌, map, true, false, nat_eq, Option, Some, None, refl, sym, ap, ◌∙◌}
use Rattle.std.specs.Prelude.{ℤ, if◌then◌else◌}
use Rattle.std.specs.Option.{option_or}
use Rattle.std.specs.List.{IsDistinct}
use Rattle.std.proofs.lemmas.Bool.{cases_Bool, eqb-true, eq-eqb}
use Rattle.sk_types.specs.declared.entity.ParamValue.{ParamValue}
use Rattle.sk_types.specs.declared.entity.Act.{Act}
use Rattle.sk_types.specs.Lookups.{value_handle, value_of, act_at}
use Rattle.sk_model.specs.Changes.{with_params}
use Rattle.sk_model.specs.TypingLaws.{set_params_law}
use Rattle.sk_regen.specs.Regeneration.{with_act, with_acts}

module _ {s : ℕ} where
  -- none of them has the handle
  abbrev pub NoParam : ℕ → List (ParamValue s) → Type 0
  NoParam h [] = Unit {0}
  NoParam h (p ∷ ps) = (nat_eq h p.id.0 ≡ false) × NoParam h ps

  abbrev pub NoAct : ℕ → List (Act s) → Type 0
  NoAct h [] = Unit {0}
  NoAct h (a ∷ rest) = (nat_eq h a.entity.0 ≡ false) × NoAct h rest

  -- ---- one parameter

  one_distinct : (q : ParamValue s) → IsDistinct nat_eq (map value_handle (q ∷ []))
  unfolding IsDistinct
  one_distinct q = search

  value_after : (h : ℕ) (q : ParamValue s) (ps : List (ParamValue s)) → value_of h (with_params (q ∷ []) ps) ≡ option_or (value_of h (q ∷ [])) (value_of h ps)
  value_after h q ps = set_params_law.values s h (q ∷ []) ps (one_distinct q)

  -- what a handle has after a change depends on what it had alone
  pub value_alike : (h : ℕ) (qs ps rs : List (ParamValue s)) → value_of h ps ≡ value_of h rs → value_of h (with_params qs ps) ≡ value_of h (with_params qs rs)
  value_alike h [] ps rs e = e
  value_alike h (q ∷ qs) ps rs e =
      value_alike h qs (with_params (q ∷ []) ps) (with_params (q ∷ []) rs)
      (value_after h q ps ∙ ap (λ (o : Option ℤ). option_or (value_of h (q ∷ [])) o) e ∙ sym (value_after h q rs))

  pub value_other : (h : ℕ) (qs ps : List (ParamValue s)) → NoParam h qs → value_of h (with_params qs ps) ≡ value_of h ps
  value_other h [] ps none = refl
  value_other h (q ∷ qs) ps none = value_other h qs (with_params (q ∷ []) ps) none.1 ∙ value_after h q ps ∙ rw none.0 refl

  -- ---- one act

  abbrev put : Act s → ℕ → Option (Act s) → Option (Act s)
  put a h None = None
  put a h (Some b) = if nat_eq h a.entity.0 then Some a else Some b

  act_after : (h : ℕ) (a : Act s) (acts : List (Act s)) → act_at h (with_act a acts) ≡ put a h (act_at h acts)
  act_after h a [] = refl
  act_after h a (b ∷ rest) = elim (cases_Bool (nat_eq a.entity.0 b.entity.0)) [
    | inl same ↦ (let e : a.entity.0 ≡ b.entity.0 = eqb-true a.entity.0 b.entity.0 same in elim (cases_Bool (nat_eq h b.entity.0)) [
      | inl y ↦ (let f : nat_eq h a.entity.0 ≡ true = rw e y in rw (same, y, f) refl)
      | inr z ↦ (let f : nat_eq h a.entity.0 ≡ false = rw e z in rw (same, z, f) (kept h a rest f))
    ])
    | inr apart ↦ elim (cases_Bool (nat_eq h b.entity.0)) [
      | inl y ↦ (let f : nat_eq h a.entity.0 ≡ false = differs h a.entity.0 b.entity.0 y apart in rw (apart, y) (rw f refl))
      | inr z ↦ rw (apart, z) (act_after h a rest)
    ]
  ]
    where
      differs : (h k j : ℕ) → nat_eq h j ≡ true → nat_eq k j ≡ false → nat_eq h k ≡ false
      differs h k j y apart = elim (cases_Bool (nat_eq h k)) [
        | inl t ↦ (let e : k ≡ j = sym (eqb-true h k t) ∙ eqb-true h j y in let no : nat_eq k j ≡ true = eq-eqb k j e in cc (no, apart))
        | inr f ↦ f
      ]

      other : (h : ℕ) (a : Act s) (o : Option (Act s)) → nat_eq h a.entity.0 ≡ false → o ≡ put a h o
      other h a None f = refl
      other h a (Some b) f = rw f refl

      kept : (h : ℕ) (a : Act s) (rest : List (Act s)) → nat_eq h a.entity.0 ≡ false → act_at h rest ≡ put a h (act_at h rest)
      kept h a rest f = other h a (act_at h rest) f

  pub act_alike : (h : ℕ) (xs cs ds : List (Act s)) → act_at h cs ≡ act_at h ds → act_at h (with_acts xs cs) ≡ act_at h (with_acts xs ds)
  act_alike h [] cs ds e = e
  act_alike h (x ∷ xs) cs ds e = act_alike h xs (with_act x cs) (with_act x ds) (act_after h x cs ∙ ap (put x h) e ∙ sym (act_after h x ds))

  unput : (h : ℕ) (a : Act s) (o : Option (Act s)) → nat_eq h a.entity.0 ≡ false → put a h o ≡ o
  unput h a None f = refl
  unput h a (Some b) f = rw f refl

  pub act_other : (h : ℕ) (xs cs : List (Act s)) → NoAct h xs → act_at h (with_acts xs cs) ≡ act_at h cs
  act_other h [] cs none = refl
  act_other h (x ∷ xs) cs none = act_other h xs (with_act x cs) none.1 ∙ act_after h x cs ∙ unput h x (act_at h cs) none.0
