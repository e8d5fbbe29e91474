-- Some of the parameters of some entities stand by rising handle where all do.
use Rattle.std.proofs.Common.{◌≡◌, inl, inr, ℕ, zero, suc, ◌+◌, ◌<◌, ◌≤◌, ◌^◌, List, [], ◌∷◌, ◌++◌, map, Bool, sym, subst, arith}
use Rattle.std.specs.Prelude.{◌==◌}
use Rattle.std.specs.List.{AllByRecursion, filter, flat_map}
use Rattle.std.specs.List.Sorted.{IsStrictlySortedBy}
use Rattle.std.specs.Ordering.{nat_cmp}
use Rattle.std.specs.declared.cmp.Ordering.TheVariants.{Less}
use Rattle.std.proofs.lemmas.Bool.{cases_Bool}
use Rattle.std.proofs.lemmas.List.{map-append}
use Rattle.sk_types.specs.declared.constraint.Constraint.{Constraint}
use Rattle.sk_types.specs.declared.entity.Entity.{Entity}
use Rattle.sk_types.specs.declared.group.Group.{Group}
use Rattle.sk_types.specs.declared.group.GroupKind.{GroupKind}
use Rattle.sk_types.specs.declared.group.GroupKind.TheVariants.{Space, Plane, Extrude, Translate, Linked}
use Rattle.sk_types.specs.Handles.{item_of_group}
use Rattle.sk_types.specs.Lists.{each_below}
use Rattle.sk_types.specs.Lookups.{RiseBy, param_handle}
use Rattle.sk_types.specs.Params.{free_params, group_count, group_params, is_fixed, own_params, unknown_params}
use Rattle.sk_chain.proofs.Segments.{IsSegment, IsWithin, all_behind, joined, no_segment, single, wider}

module _ {s : ℕ} (cs : List (Constraint s)) (p : Entity s → Bool) where
  abbrev owned : List (Entity s) → List ℕ
  owned es = map param_handle (flat_map own_params es)

  abbrev free : List (Entity s) → List ℕ
  free es = map param_handle (flat_map (free_params cs) (filter p es))

  owned_cons : (e : Entity s) (es : List (Entity s)) → owned (e ∷ es) ≡ map param_handle (own_params e) ++ owned es
  owned_cons e es = map-append param_handle (own_params e) (flat_map own_params es)

  -- what is free of one more is nothing more, or all that it has
  free_cons : (P : List ℕ → Type 0) (e : Entity s) (es : List (Entity s)) → P (free es) → P (map param_handle (own_params e) ++ free es) → P (free (e ∷ es))
  free_cons P e es none all = elim (cases_Bool (p e)) [
    | inl t ↦ elim (cases_Bool (is_fixed cs e)) [
      | inl u ↦ rw (t, u) none
      | inr u ↦ rw (t, u) (subst P (sym (map-append param_handle (own_params e) (flat_map (free_params cs) (filter p es)))) all)
    ]
    | inr f ↦ rw f none
  ]

  front : (P : ℕ → Type 0) (fs bs : List ℕ) → AllByRecursion P (fs ++ bs) → AllByRecursion P fs
  front P [] bs k = tt
  front P (a ∷ fs) bs k = (k.0, front P fs bs k.1)

  back : (P : ℕ → Type 0) (fs bs : List ℕ) → AllByRecursion P (fs ++ bs) → AllByRecursion P bs
  back P [] bs k = k
  back P (a ∷ fs) bs k = back P fs bs k.1

  pub free_all : (P : ℕ → Type 0) (es : List (Entity s)) → AllByRecursion P (owned es) → AllByRecursion P (free es)
  free_all P [] h = tt
  free_all P (e ∷ es) h =
      let both = subst (AllByRecursion P) (owned_cons e es) h in
      let rest = free_all P es (back P (map param_handle (own_params e)) (owned es) both) in
      free_cons (AllByRecursion P) e es rest (all_behind P (map param_handle (own_params e)) (free es) (front P (map param_handle (own_params e)) (owned es) both) rest)

  onto_free : (fs : List ℕ) (es : List (Entity s)) → IsStrictlySortedBy nat_cmp (fs ++ owned es) → IsStrictlySortedBy nat_cmp (free es) → IsStrictlySortedBy nat_cmp (fs ++ free es)
  unfolding IsStrictlySortedBy
  onto_free [] es h k = k
  onto_free (a ∷ fs) es h k =
      (all_behind (λ j. nat_cmp a j ≡ Less) fs (free es) (front (λ j. nat_cmp a j ≡ Less) fs (owned es) h.0) (free_all (λ j. nat_cmp a j ≡ Less) es (back (λ j. nat_cmp a j ≡ Less) fs (owned es) h.0)), onto_free fs es h.1 k)

  behind : (fs bs : List ℕ) → IsStrictlySortedBy nat_cmp (fs ++ bs) → IsStrictlySortedBy nat_cmp bs
  unfolding IsStrictlySortedBy
  behind [] bs h = h
  behind (a ∷ fs) bs h = behind fs bs h.1

  pub free_rise : (es : List (Entity s)) → IsStrictlySortedBy nat_cmp (owned es) → IsStrictlySortedBy nat_cmp (free es)
  unfolding IsStrictlySortedBy
  free_rise [] h = tt
  free_rise (e ∷ es) h =
      let both = subst (IsStrictlySortedBy nat_cmp) (owned_cons e es) h in
      let rest = free_rise es (behind (map param_handle (own_params e)) (owned es) both) in
      free_cons (IsStrictlySortedBy nat_cmp) e es rest (onto_free (map param_handle (own_params e)) es both rest)

-- ---- a group's own

module _ (g : ℕ) where
  below_segment : (n : ℕ) → IsSegment (item_of_group g 0) (item_of_group g 0 + n) (map param_handle (each_below n (λ i. record { 0 = item_of_group g i })))
  below_segment zero = no_segment (item_of_group g 0) (item_of_group g 0 + 0)
  below_segment (suc n) =
      subst (IsSegment (item_of_group g 0) (item_of_group g 0 + suc n)) (sym (map-append param_handle (each_below n (λ i. record { 0 = item_of_group g i })) (record { 0 = item_of_group g n } ∷ [])))
      (joined (item_of_group g 0) (item_of_group g 0 + n) (item_of_group g 0 + suc n) (map param_handle (each_below n (λ i. record { 0 = item_of_group g i }))) (item_of_group g n ∷ []) (omega arith) (omega arith) (below_segment n)
      (single (item_of_group g n) (item_of_group g 0 + n) (item_of_group g 0 + suc n) (omega arith) (omega arith)))

few_params : (k : GroupKind) → group_count k ≤ 7
few_params Space = omega arith
few_params Plane = omega arith
few_params Extrude = omega arith
few_params Translate = omega arith
few_params Linked = omega arith

group_segment : {s : ℕ} (g : Group s) → g.id.0 ≤ 32767 → IsSegment (2 ^ 31) (2 ^ 32) (map param_handle (group_params g))
group_segment g l = let few = few_params g.kind in
    wider (item_of_group g.id.0 0) (item_of_group g.id.0 0 + group_count g.kind) (2 ^ 31) (2 ^ 32) (map param_handle (group_params g)) (omega arith) (omega (arith, l, few)) (below_segment g.id.0 (group_count g.kind))

pub unknown_rise : {s : ℕ} (cs : List (Constraint s)) (es : List (Entity s)) (g : Group s) → g.id.0 ≤ 32767 → RiseBy param_handle (flat_map own_params es) → AllByRecursion (λ k. (65536 ≤ k) × (k < 2 ^ 31)) (map param_handle (flat_map own_params es)) → RiseBy param_handle (unknown_params cs es g)
unknown_rise {s} cs es g l rise low =
    let mine : Entity s → Bool = λ e. e.group.0 == g.id.0 in
    let own : IsSegment 65536 (2 ^ 31) (map param_handle (flat_map (free_params cs) (filter mine es))) = record { rise = free_rise cs mine es rise; within = free_all cs mine (IsWithin 65536 (2 ^ 31)) es low } in
    subst (IsStrictlySortedBy nat_cmp) (sym (map-append param_handle (flat_map (free_params cs) (filter mine es)) (group_params g)))
    (joined 65536 (2 ^ 31) (2 ^ 32) (map param_handle (flat_map (free_params cs) (filter mine es))) (map param_handle (group_params g)) (omega arith) (omega arith) own (group_segment g l)).rise
