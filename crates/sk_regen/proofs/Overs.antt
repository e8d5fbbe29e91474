-- A group's system over the numbers so far, which are put back.
use Rattle.std.proofs.Common.{◌≡◌, inl, inr, ℕ, suc, List, [], ◌∷◌, length, map, Bool, true, false, nat_eq, Some, None, refl, sym, ap, ◌∙◌, subst}
use Rattle.std.specs.Prelude.{ℤ, if◌then◌else◌}
use Rattle.std.specs.List.{All, AllByRecursion, IsDistinct, filter}
use Rattle.std.specs.List.Sorted.{IsStrictlySortedBy}
use Rattle.std.specs.Ordering.{nat_cmp}
use Rattle.std.proofs.lemmas.Bool.{cases_Bool}
use Rattle.std.proofs.lemmas.List.Elements.{All-from_recursion, recursion_from_All}
use Rattle.std.proofs.lemmas.Map.Keys.{IsDistinct-head, IsDistinct-tail, IsDistinct-cons}
use Rattle.sk_types.specs.declared.constraint.Constraint.{Constraint}
use Rattle.sk_types.specs.declared.entity.Act.{Act}
use Rattle.sk_types.specs.declared.entity.Entity.{Entity}
use Rattle.sk_types.specs.declared.entity.Numbers.{Numbers}
use Rattle.sk_types.specs.declared.entity.Outline.{Outline}
use Rattle.sk_types.specs.declared.entity.ParamValue.{ParamValue}
use Rattle.sk_types.specs.declared.group.Group.{Group}
use Rattle.sk_types.specs.declared.handle.ParamId.{ParamId}
use Rattle.sk_types.specs.Lookups.{RiseBy, act_at, param_handle, value_handle}
use Rattle.sk_types.specs.Params.{unknown_params}
use Rattle.sk_model.specs.Chain.{seen_in}
use Rattle.sk_model.specs.Typed.{Typed}
use Rattle.sk_system.specs.GroupSystem.{GroupSystem, group_system, acts_at}
use Rattle.sk_regen.specs.Ground.{IsGround, stands_among}
use Rattle.sk_regen.specs.GroupWorks.{params_of, is_one_of, own_normal, framed, frame_of, quaternion_in, system_of, acts_of}
use Rattle.sk_regen.specs.Regeneration.{point_of, fixed_of, with_act}
use Rattle.sk_regen.proofs.Placed.{id_of}
use Rattle.sk_regen.proofs.Among.{unknowns-are}
use Rattle.sk_regen.proofs.Ready.{own-rise, own-stand}
use Rattle.sk_regen.proofs.Restoring.{act-stays, act-put-back, act-not-there, act-found}
use Rattle.sk_chain.proofs.Apart.{sorted_distinct}

-- ---- the group's own normal

module _ {s : ℕ} (es : List (Entity s)) (acts : List (Act s)) (g : Group s) where
  abbrev along : Act s
  along = record { entity = own_normal g; values = quaternion_in s (frame_of es acts g) }

  back-by : (t : Bool) (a : Act s) → act_at (own_normal g).0 acts ≡ Some a → with_act a (if t then with_act along acts else acts) ≡ acts
  back-by true a e = let is = act-found (own_normal g).0 acts a e in act-put-back a along acts (sym is) (subst (λ (n : ℕ). act_at n acts ≡ Some a) (sym is) e)
  back-by false a e = let is = act-found (own_normal g).0 acts a e in act-stays a acts (subst (λ (n : ℕ). act_at n acts ≡ Some a) (sym is) e)

  none-by : (t : Bool) → act_at (own_normal g).0 acts ≡ None → (if t then with_act along acts else acts) ≡ acts
  none-by true e = act-not-there along acts e
  none-by false e = refl

  pub frame-back : (now last : List (Act s)) (a : Act s) → act_at (own_normal g).0 acts ≡ Some a → now ≡ framed es acts g → last ≡ with_act a now → last ≡ acts
  frame-back now last a e f h = h ∙ ap (with_act a) f ∙ back-by g.by_lines a e

  pub frame-none : (now : List (Act s)) → act_at (own_normal g).0 acts ≡ None → now ≡ framed es acts g → now ≡ acts
  frame-none now e f = f ∙ none-by g.by_lines e

-- ---- parameters among others

pub same-numbers : {s : ℕ} (ps qs : List (ParamValue s)) (xs ys : List (Act s)) → ps ≡ qs → xs ≡ ys → Path (Numbers s) (record { params = ps; acts = xs }) (record { params = qs; acts = ys })
same-numbers ps qs xs ys e f = ap (λ (l : List (ParamValue _)). record { params = l; acts = xs }) e ∙ ap (λ (l : List (Act _)). record { params = qs; acts = l }) f

module _ {s : ℕ} where
  abbrev Seen : List ℕ → ParamValue s → Type 0
  Seen ids p = seen_in p.id.0 ids ≡ true

  back-stand : (ids : List ℕ) (ps qs : List (ParamValue s)) → AllByRecursion (Seen ids) qs → AllByRecursion (Seen ids) (map (stands_among ps) qs)
  back-stand ids ps [] a = tt
  back-stand ids ps (q ∷ qs) a = (a.0, back-stand ids ps qs a.1)

  pub stand-back : (ids now : List ℕ) (ps qs last : List (ParamValue s)) → now ≡ ids → last ≡ map (stands_among ps) qs → All (Seen ids) qs → All (Seen now) last
  stand-back ids now ps qs last e f a =
      subst (λ (l : List (ParamValue s)). All (Seen now) l) (sym f) (All-from_recursion (Seen now) (map (stands_among ps) qs) (subst (λ (l : List ℕ). AllByRecursion (Seen l) (map (stands_among ps) qs)) (sym e) (back-stand ids ps qs (recursion_from_All (Seen ids) qs a))))

  fixed-has : (P : ParamValue s → Type 0) (t : ParamId → Bool) (ps : List (ParamValue s)) → AllByRecursion P ps → AllByRecursion P (fixed_of t ps)
  fixed-has P t [] a = tt
  fixed-has P t (p ∷ ps) a = elim (cases_Bool (t p.id)) [
    | inl y ↦ rw y (fixed-has P t ps a.1)
    | inr n ↦ rw n (a.0, fixed-has P t ps a.1)
  ]

  to-values : (P : ℕ → Type 0) (ps : List (ParamValue s)) → AllByRecursion P (map value_handle ps) → AllByRecursion (λ (p : ParamValue s). P p.id.0) ps
  to-values P [] a = tt
  to-values P (p ∷ ps) a = (a.0, to-values P ps a.1)

  from-values : (P : ℕ → Type 0) (ps : List (ParamValue s)) → AllByRecursion (λ (p : ParamValue s). P p.id.0) ps → AllByRecursion P (map value_handle ps)
  from-values P [] a = tt
  from-values P (p ∷ ps) a = (a.0, from-values P ps a.1)

  fixed-apart : (t : ParamId → Bool) (ps : List (ParamValue s)) → IsDistinct nat_eq (map value_handle ps) → IsDistinct nat_eq (map value_handle (fixed_of t ps))
  fixed-apart t [] d = d
  fixed-apart t (p ∷ ps) d = elim (cases_Bool (t p.id)) [
    | inl y ↦ rw y (fixed-apart t ps (IsDistinct-tail nat_eq p.id.0 (map value_handle ps) d))
    | inr n ↦ (let head = IsDistinct-head nat_eq p.id.0 (map value_handle ps) d in
        rw n (IsDistinct-cons nat_eq p.id.0 (map value_handle (fixed_of t ps))
        (from-values (λ k. nat_eq p.id.0 k ≡ false) (fixed_of t ps) (fixed-has (λ (q : ParamValue s). nat_eq p.id.0 q.id.0 ≡ false) t ps (to-values (λ k. nat_eq p.id.0 k ≡ false) ps head)))
        (fixed-apart t ps (IsDistinct-tail nat_eq p.id.0 (map value_handle ps) d))))
  ]

  pub values-ids : (ps : List (ParamValue s)) → map value_handle ps ≡ map param_handle (map id_of ps)
  values-ids [] = refl
  values-ids (p ∷ ps) = ap (λ (l : List ℕ). p.id.0 ∷ l) (values-ids ps)

  point-long : (t : ParamId → Bool) (ps : List (ParamValue s)) → length (point_of t ps) ≡ length (filter t (map id_of ps))
  point-long t [] = refl
  point-long t (p ∷ ps) = elim (cases_Bool (t p.id)) [
    | inl y ↦ rw y (ap suc (point-long t ps))
    | inr n ↦ rw n (point-long t ps)
  ]

  by-ids : (ids : List ℕ) (ps : List (ParamValue s)) → AllByRecursion (λ (p : ParamId). seen_in p.0 ids ≡ true) (map id_of ps) → AllByRecursion (Seen ids) ps
  by-ids ids [] a = tt
  by-ids ids (p ∷ ps) a = (a.0, by-ids ids ps a.1)

-- ---- the parameters of a group

module _ {s : ℕ} (m : Typed s) (o : Outline s) (n : Numbers s) (g : Group s) (is : IsGround m o n g) (ps : List (ParamValue s)) (own : map id_of ps ≡ params_of o.entities g) where
  pub own-values-rise : RiseBy value_handle ps
  own-values-rise = subst (λ (ids : List ℕ). IsStrictlySortedBy nat_cmp ids) (sym (values-ids ps ∙ ap (map param_handle) own)) (own-rise m o n g is)

  pub own-values-stand : All (Seen (map value_handle n.params)) ps
  own-values-stand = All-from_recursion (Seen (map value_handle n.params)) ps (by-ids (map value_handle n.params) ps
      (subst (λ (l : List ParamId). AllByRecursion (λ (p : ParamId). seen_in p.0 (map value_handle n.params) ≡ true) l) (sym own)
      (recursion_from_All (λ (p : ParamId). seen_in p.0 (map value_handle n.params) ≡ true) (params_of o.entities g) (own-stand m o n g is))))

  pub fixed-stand : (t : ParamId → Bool) (fixed : List (ParamValue s)) → fixed ≡ fixed_of t ps → All (Seen (map value_handle n.params)) fixed
  fixed-stand t fixed e = subst (λ (l : List (ParamValue s)). All (Seen (map value_handle n.params)) l) (sym e)
      (All-from_recursion (Seen (map value_handle n.params)) (fixed_of t ps) (fixed-has (Seen (map value_handle n.params)) t ps (recursion_from_All (Seen (map value_handle n.params)) ps own-values-stand)))

  pub fixed-differ : (t : ParamId → Bool) (fixed : List (ParamValue s)) → fixed ≡ fixed_of t ps → IsDistinct nat_eq (map value_handle fixed)
  fixed-differ t fixed e = subst (λ (l : List (ParamValue s)). IsDistinct nat_eq (map value_handle l)) (sym e) (fixed-apart t ps (sorted_distinct (map value_handle ps) own-values-rise))

  pub unknown-ones : filter (is_one_of (unknown_params m.constraints o.entities g)) (params_of o.entities g) ≡ unknown_params m.constraints o.entities g
  unknown-ones = unknowns-are m.constraints o.entities g (sorted_distinct (map param_handle (params_of o.entities g)) (own-rise m o n g is))

  pub point-fits : (us : List ParamId) (point : List ℤ) → us ≡ unknown_params m.constraints o.entities g → point ≡ point_of (is_one_of us) ps → length point ≡ length (unknown_params m.constraints o.entities g)
  point-fits us point e f =
      ap length f ∙ ap (λ (u : List ParamId). length (point_of (is_one_of u) ps)) e ∙ point-long (is_one_of (unknown_params m.constraints o.entities g)) ps
      ∙ ap (λ (l : List ParamId). length (filter (is_one_of (unknown_params m.constraints o.entities g)) l)) own ∙ ap length unknown-ones

module _ {s : ℕ} (es : List (Entity s)) (cs : List (Constraint s)) (n : Numbers s) (g : Group s) where
  pub system-unknowns : (fixed : List (ParamValue s)) → (system_of es cs n g fixed).unknowns ≡ unknown_params cs es g
  unfolding group_system
  system-unknowns fixed = refl

  pub acts-are : (us : List ParamId) (ps fixed : List (ParamValue s)) (point : List ℤ) (y : GroupSystem) (made : List (Act s)) → us ≡ unknown_params cs es g → fixed ≡ fixed_of (is_one_of us) ps → point ≡ point_of (is_one_of us) ps →
      y ≡ system_of es cs n g fixed → made ≡ acts_at y point → made ≡ acts_of es cs n g ps
  unfolding acts_of
  acts-are us ps fixed point y made u f p e h =
      h ∙ ap (λ (z : GroupSystem). acts_at z point) e
      ∙ ap (λ (x : List ℤ). acts_at (system_of es cs n g fixed) x) p
      ∙ ap (λ (l : List (ParamValue s)). acts_at (system_of es cs n g l) (point_of (is_one_of us) ps)) f
      ∙ ap (λ (v : List ParamId). acts_at (system_of es cs n g (fixed_of (is_one_of v) ps)) (point_of (is_one_of v) ps)) u
