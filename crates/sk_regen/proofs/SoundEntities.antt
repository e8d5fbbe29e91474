-- The outline of every text has an entity: the first reference workplane draws some.
use Rattle.std.proofs.Common.{◌≡◌, inl, inr, ℕ, List, [], ◌∷◌, true, false, Option, Some, None, Ok, refl, subst}
use Rattle.std.specs.Prelude.{◌==◌, ◌&&◌, not}
use Rattle.std.specs.Option.{option_map, option_or}
use Rattle.std.specs.List.{All, AllByRecursion, Contains, list_any}
use Rattle.std.proofs.lemmas.Bool.{cases_Bool}
use Rattle.std.proofs.lemmas.List.Elements.{All-contains, All-head, All-nil, recursion_from_All}
use Rattle.sk_num.specs.PaddedLaws.{both_true}
use Rattle.sk_types.specs.declared.entity.Entity.{Entity}
use Rattle.sk_types.specs.declared.entity.Outline.{Outline}
use Rattle.sk_types.specs.declared.request.Request.{Request}
use Rattle.sk_types.specs.declared.request_kind.TheConstants as request_kind
use Rattle.sk_records.specs.declared.kinds.Kind.TheVariants as kind
use Rattle.sk_records.specs.Blocks.{Block, records}
use Rattle.sk_entity.specs.Requests.{request_entities}
use Rattle.sk_model.specs.declared.faults.ModelFault.{ModelFault}
use Rattle.sk_model.specs.declared.faults.ModelFault.TheVariants.{NoSuch}
use Rattle.sk_model.specs.Typed.{Typed, constraints_of, fault_if, groups_of, is_first_group, is_reference, missing_of, params_of, requests_of, typed, whole_fault}
use Rattle.sk_model.specs.TypingLaws.Chains.{ok_inj, then_parts}
use Rattle.sk_chain.specs.Laws.{IsOutlineOf}
use Rattle.sk_chain.proofs.EachMade.{unless_passed}
use Rattle.sk_regen.specs.NewTextLaws.{HasEntity}

-- ---- what typing leaves

or_none : (o p : Option ModelFault) → option_or o p ≡ None → (o ≡ None) × (p ≡ None)
or_none None p e = (refl, e)
or_none (Some f) p e = cc

none_missing : (o : Option ℕ) → option_map (NoSuch 1) o ≡ None → o ≡ None
none_missing None e = refl
none_missing (Some n) e = cc

first_stands : (ns : List ℕ) (rs : List Request) → missing_of (1 ∷ ns) rs ≡ None → list_any (is_reference 1) rs ≡ true
first_stands ns rs e = elim (cases_Bool (list_any (is_reference 1) rs)) [
  | inl t ↦ t
  | inr f ↦ (let no : Some 1 ≡ None = rw f at e in cc no)
]

module _ {s : ℕ} (bs : List Block) (l : Typed s) where
  abbrev Passes : Type 0
  Passes = whole_fault s l.groups l.requests l.constraints ≡ None

  whole_passes : typed s bs ≡ Ok l → Passes
  unfolding typed
  whole_passes e =
      then_parts {P = Passes} (groups_of s (records kind.Group bs)) _ l e (λ gs g e1.
      then_parts {P = Passes} (params_of s (records kind.Param bs)) _ l e1 (λ ps p e2.
      then_parts {P = Passes} (requests_of (records kind.Request bs)) _ l e2 (λ rs r e3.
      then_parts {P = Passes} (constraints_of s (records kind.Constraint bs)) _ l e3 (λ cs c e4.
      (let a = unless_passed (whole_fault s gs rs cs) _ l e4 in
      subst (λ (m : Typed s). whole_fault s m.groups m.requests m.constraints ≡ None) (ok_inj a.1) a.0)))))

  reference_stands : Passes → list_any (is_reference 1) l.requests ≡ true
  unfolding whole_fault
  reference_stands e =
      let groups = or_none (fault_if (not (list_any is_first_group l.groups)) (NoSuch 1 1)) _ e in
      let requests = or_none (option_map (NoSuch 1) (missing_of (1 ∷ 2 ∷ 3 ∷ []) l.requests)) _ groups.1 in
      first_stands (2 ∷ 3 ∷ []) l.requests (none_missing (missing_of (1 ∷ 2 ∷ 3 ∷ []) l.requests) requests.0)

-- ---- what the reference draws

abbrev HasOne : {X : Type 0} → List X → Type 0
HasOne [] = false ≡ true
HasOne (x ∷ xs) = Unit {0}

plane_draws : (s : ℕ) (r : Request) → (r.kind == request_kind.WORKPLANE) ≡ true → HasOne (request_entities s r)
unfolding request_entities
plane_draws s r t = elim (cases_Bool (r.kind == request_kind.DATUM_POINT)) [ inl u ↦ rw u tt | inr f ↦ rw (f, t) tt ]

module _ {s : ℕ} where
  contains_some : (es : List (Entity s)) (x : Entity s) → Contains es x → HasEntity es
  contains_some [] x c = All-contains (λ (e : Entity s). HasEntity {s = s} []) [] x (All-nil (λ (e : Entity s). HasEntity {s = s} [])) c
  contains_some (e ∷ es) x c = record { first = e; others = es; is = refl }

  drawn_some : (es xs : List (Entity s)) → HasOne xs → All (Contains es) xs → HasEntity es
  drawn_some es [] h a = cc h
  drawn_some es (x ∷ xs) h a = contains_some es x (All-head (Contains es) x xs a)

  reference_draws : (es : List (Entity s)) (rs : List Request) → list_any (is_reference 1) rs ≡ true → AllByRecursion (λ (r : Request). All (Contains es) (request_entities s r)) rs → HasEntity es
  reference_draws es [] e a = cc e
  reference_draws es (r ∷ rs) e a = elim (cases_Bool (is_reference 1 r)) [
    | inl t ↦
        let named = both_true (r.id.0 == 1) ((r.kind == request_kind.WORKPLANE) && (r.group.0 == 1)) t in
        let both = both_true (r.kind == request_kind.WORKPLANE) (r.group.0 == 1) named.1 in
        drawn_some es (request_entities s r) (plane_draws s r both.0) a.0
    | inr f ↦ reference_draws es rs (rw f at e) a.1
  ]

pub has_entity : {s : ℕ} (bs : List Block) (l : Typed s) (o : Outline s) → typed s bs ≡ Ok l → IsOutlineOf l o → HasEntity o.entities
has_entity {s} bs l o ty is =
    reference_draws o.entities l.requests (reference_stands bs l (whole_passes bs l ty))
    (recursion_from_All (λ (r : Request). All (Contains o.entities) (request_entities s r)) l.requests is.drawn)
