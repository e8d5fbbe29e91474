-- The parameters before any group is regenerated may be set, each once; no two groups have one in common.
use Rattle.std.proofs.Common.{◌≡◌, ◌≢◌, inl, inr, ℕ, zero, suc, ◌+◌, ◌*◌, ◌<◌, ◌≤◌, ◌^◌, List, [], ◌∷◌, ◌++◌, map, Bool, true, false, nat_eq, nat_lt, Option, Some, None, refl, sym, ap, ◌∙◌, subst, arith}
use Rattle.std.specs.Prelude.{◌==◌, ◌-◌, ◌/◌, get_or, if◌then◌else◌, ℤ, pos, neg_ℤ}
use Rattle.std.specs.List.{All, AllByRecursion, IsDistinct, filter, flat_map}
use Rattle.std.proofs.lemmas.Bool.{cases_Bool, eq-eqb, eqb-true, lt-ltb}
use Rattle.std.proofs.lemmas.Bool.Decides.{nat_tests}
use Rattle.std.proofs.lemmas.Int.{ints}
use Rattle.std.proofs.lemmas.List.{map-append}
use Rattle.std.proofs.lemmas.List.Elements.{All-from_recursion, recursion_from_All}
use Rattle.std.proofs.lemmas.Map.Keys.{IsDistinct-head, IsDistinct-tail}
use Rattle.sk_num.specs.Limit.{IsInLimit}
use Rattle.sk_num.specs.Scale.{IsScale}
use Rattle.sk_types.specs.declared.handle.GroupId.{GroupId}
use Rattle.sk_types.specs.declared.handle.Maker.{Maker}
use Rattle.sk_types.specs.declared.handle.Maker.TheVariants.{OfRequest, OfGroup}
use Rattle.sk_types.specs.declared.handle.ParamId.{ParamId}
use Rattle.sk_types.specs.declared.constraint.Constraint.{Constraint}
use Rattle.sk_types.specs.declared.entity.Entity.{Entity}
use Rattle.sk_types.specs.declared.entity.Outline.{Outline}
use Rattle.sk_types.specs.declared.entity.ParamValue.{ParamValue}
use Rattle.sk_types.specs.declared.group.Group.{Group}
use Rattle.sk_types.specs.declared.request.Request.{Request}
use Rattle.sk_types.specs.Handles.{maker_of}
use Rattle.sk_types.specs.Lookups.{RiseBy, param_handle, value_handle}
use Rattle.sk_types.specs.Params.{group_params, own_params}
use Rattle.sk_model.specs.Chain.{seen_in}
use Rattle.sk_model.specs.Changes.{with_param, with_params}
use Rattle.sk_model.specs.Settable.{IsSettable}
use Rattle.sk_model.specs.Typed.{group_handle}
use Rattle.sk_chain.specs.Known.{place_handle}
use Rattle.sk_chain.specs.Lookups.{group_at}
use Rattle.sk_chain.proofs.Apart.{Differs, distinct_append, sorted_distinct}
use Rattle.sk_chain.proofs.InOrder.{all_in_order}
use Rattle.sk_chain.proofs.Segments.{IsWithin, all_behind, all_weaker}
use Rattle.sk_chain.proofs.Standing.{found_holds, found_is}
use Rattle.sk_regen.specs.GroupWorks.{all_params, first_numbers, in_group, nought, or_none, param_before, params_of, reference, reference_by, reference_quaternions, references, works}
use Rattle.sk_regen.specs.NewTextLaws.{OwnsParams}
use Rattle.sk_regen.proofs.Owned.{Stand, handles_stay, stand-all}
use Rattle.sk_regen.proofs.Placed.{id_of}
use Rattle.sk_regen.proofs.SoundNumbers.{AllSeen, StandsAmong, each_seen, filter_seen, group_block, of_all, own_among, own_rise, params_rise, seen_self, segment_of}
use Rattle.sk_regen.proofs.SoundStarts.{in_if, power_fits, zero_fits}

-- ---- values that may be set

numbers_at : {A : Type 0} (P : A → Type 0) (xs : List A) (i : ℕ) (d : A) → AllByRecursion P xs → P d → P (get_or xs i d)
numbers_at P [] i d a h = h
numbers_at P (x ∷ xs) zero d a h = a.0
numbers_at P (x ∷ xs) (suc i) d a h = numbers_at P xs i d a.1 h

module _ {s : ℕ} (scale : IsScale s) where
  half_fits : IsInLimit (pos (2 ^ (s - 1)))
  half_fits = power_fits s (s - 1) scale (omega arith)

  minus_fits : IsInLimit (neg_ℤ (pos (2 ^ (s - 1))))
  minus_fits = let h = half_fits in omega (arith, ints, h)

  planes_fit : AllByRecursion (AllByRecursion IsInLimit) (reference_quaternions s)
  planes_fit =
      let one = power_fits s s scale (omega arith) in
      ((one, (zero_fits, (zero_fits, (zero_fits, tt)))), ((half_fits, (half_fits, (half_fits, (half_fits, tt)))), ((half_fits, (minus_fits, (minus_fits, (minus_fits, tt)))), tt)))

  by_maker_fits : (m : Maker) → IsInLimit (reference_by s m)
  by_maker_fits (OfRequest r i) =
      in_if (nat_lt i 32) (pos 0) (get_or (get_or (reference_quaternions s) (r.0 - 1) []) (i - 32) (pos 0)) zero_fits
      (numbers_at IsInLimit (get_or (reference_quaternions s) (r.0 - 1) []) (i - 32) (pos 0) (numbers_at (AllByRecursion IsInLimit) (reference_quaternions s) (r.0 - 1) [] planes_fit tt) zero_fits)
  by_maker_fits (OfGroup g i) = zero_fits

module _ {s : ℕ} where
  put_settable : (id : ℕ) (v : ℤ) (ps : List (ParamValue s)) → id ≢ 0 → id < 2 ^ 32 → IsInLimit v → AllByRecursion IsSettable ps → AllByRecursion IsSettable (with_param id v ps)
  put_settable id v [] some small fits a = (record { some = some; handle = small; value = fits }, tt)
  put_settable id v (p ∷ ps) some small fits a = elim (cases_Bool (nat_eq id p.id.0)) [
    | inl t ↦ rw t ((record { some = a.0.some; handle = a.0.handle; value = fits }, a.1))
    | inr f ↦ rw f ((a.0, put_settable id v ps some small fits a.1))
  ]

  set_settable : (qs ps : List (ParamValue s)) → AllByRecursion IsSettable qs → AllByRecursion IsSettable ps → AllByRecursion IsSettable (with_params qs ps)
  set_settable [] ps a b = b
  set_settable (q ∷ qs) ps a b = set_settable qs (with_param q.id.0 q.value ps) a.1 (put_settable q.id.0 q.value ps a.0.some a.0.handle a.0.value b)

-- ---- handles

nothing_distinct : IsDistinct nat_eq []
unfolding IsDistinct
nothing_distinct = tt

-- a handle of a parameter
abbrev IsParam : ParamId → Type 0
IsParam p = (p.0 ≢ 0) × (p.0 < 2 ^ 32)

mapped_params : (P : ℕ → Type 0) (ps : List ParamId) → AllByRecursion P (map param_handle ps) → AllByRecursion (λ (p : ParamId). P p.0) ps
mapped_params P [] h = tt
mapped_params P (p ∷ ps) h = (h.0, mapped_params P ps h.1)

own_param : (p : ParamId) → (65536 ≤ p.0) × (p.0 < 2 ^ 31) → IsParam p
own_param p w = let low = w.0 in let high = w.1 in (λ e. absurd (omega (arith, e, low)), omega (arith, high))

group_param : (g : ℕ) (p : ParamId) → g ≤ 32767 → IsWithin ((32768 + g) * 65536) ((32768 + g) * 65536 + 65536) p.0 → IsParam p
group_param g p most w = let low = w.0 in let high = w.1 in (λ e. absurd (omega (arith, e, low)), omega (arith, high, most))

module _ {s : ℕ} where
  groups_params : (gs : List (Group s)) → AllByRecursion (λ (g : Group s). g.id.0 ≤ 32767) gs → AllByRecursion IsParam (flat_map group_params gs)
  groups_params [] m = tt
  groups_params (g ∷ gs) m =
      all_behind IsParam (group_params g) (flat_map group_params gs)
      (all_weaker (λ (p : ParamId). IsWithin (segment_of g * 65536) (segment_of g * 65536 + 65536) p.0) IsParam (group_params g) (λ p w. group_param g.id.0 p m.0 w)
      (mapped_params (IsWithin (segment_of g * 65536) (segment_of g * 65536 + 65536)) (group_params g) (group_block g).within))
      (groups_params gs m.1)

noughts_settable : (s : ℕ) (ps : List ParamId) → AllByRecursion IsParam ps → AllByRecursion IsSettable (map (nought {s = s}) ps)
noughts_settable s [] a = tt
noughts_settable s (p ∷ ps) a = (record { some = a.0.0; handle = a.0.1; value = zero_fits }, noughts_settable s ps a.1)

references_settable : (s : ℕ) → IsScale s → (ps : List ParamId) → AllByRecursion IsParam ps → AllByRecursion IsSettable (map (reference s) ps)
references_settable s scale [] a = tt
references_settable s scale (p ∷ ps) a = (record { some = a.0.0; handle = a.0.1; value = by_maker_fits scale (maker_of p.0) }, references_settable s scale ps a.1)

references_ids : (s : ℕ) (ps : List ParamId) → map id_of (map (reference s) ps) ≡ ps
references_ids s [] = refl
references_ids s (p ∷ ps) = ap (λ l. p ∷ l) (references_ids s ps)

-- ---- which group a parameter is of

-- that of the first entity that has it
abbrev drawn_owner : {s : ℕ} → List (Entity s) → ℕ → ℕ
drawn_owner [] k = 0
drawn_owner (e ∷ es) k = if seen_in k (map param_handle (own_params e)) then e.group.0 else drawn_owner es k

abbrev pub owner_of : {s : ℕ} → List (Entity s) → ℕ → ℕ
owner_of es k = if nat_lt k (2 ^ 31) then drawn_owner es k else (k - 2 ^ 31) / 65536

unseen : (k : ℕ) (ms : List ℕ) → AllByRecursion (λ m. nat_eq k m ≡ false) ms → seen_in k ms ≡ false
unseen k [] d = refl
unseen k (m ∷ ms) d = rw d.0 (unseen k ms d.1)

back_of : {X : Type 0} (P : X → Type 0) (xs ys : List X) → AllByRecursion P (xs ++ ys) → AllByRecursion P ys
back_of P [] ys h = h
back_of P (x ∷ xs) ys h = back_of P xs ys h.1

-- what stands behind doesn't stand in front
only_behind : (k : ℕ) (xs ys : List ℕ) → IsDistinct nat_eq (xs ++ ys) → seen_in k ys ≡ true → seen_in k xs ≡ false
only_behind k [] ys d e = refl
only_behind k (x ∷ xs) ys d e = elim (cases_Bool (nat_eq k x)) [
  | inl t ↦
      let is : k ≡ x = eqb-true k x t in
      let none : seen_in x ys ≡ false = unseen x ys (back_of (λ y. nat_eq x y ≡ false) xs ys (IsDistinct-head nat_eq x (xs ++ ys) d)) in
      let no : true ≡ false = sym e ∙ ap (λ j. seen_in j ys) is ∙ none in cc no
  | inr f ↦ rw f (only_behind k xs ys (IsDistinct-tail nat_eq x (xs ++ ys) d) e)
]

behind_distinct : (xs ys : List ℕ) → IsDistinct nat_eq (xs ++ ys) → IsDistinct nat_eq ys
behind_distinct [] ys d = d
behind_distinct (x ∷ xs) ys d = behind_distinct xs ys (IsDistinct-tail nat_eq x (xs ++ ys) d)

both_all : {X : Type 0} (P Q : X → Type 0) (xs : List X) → AllByRecursion P xs → AllByRecursion Q xs → AllByRecursion (λ x. P x × Q x) xs
both_all P Q [] a b = tt
both_all P Q (x ∷ xs) a b = ((a.0, b.0), both_all P Q xs a.1 b.1)

module _ {s : ℕ} (n : ℕ) where
  abbrev is_of : Entity s → Bool
  is_of e = e.group.0 == n

  -- the entities of a group have what is theirs
  drawn_own : (es : List (Entity s)) → IsDistinct nat_eq (map param_handle (flat_map own_params es)) → AllByRecursion (λ (p : ParamId). drawn_owner es p.0 ≡ n) (flat_map own_params (filter is_of es))
  drawn_own [] d = tt
  drawn_own (e ∷ es) d =
      let apart : IsDistinct nat_eq (map param_handle (own_params e) ++ map param_handle (flat_map own_params es)) = subst (IsDistinct nat_eq) (map-append param_handle (own_params e) (flat_map own_params es)) d in
      let rest = drawn_own es (behind_distinct (map param_handle (own_params e)) (map param_handle (flat_map own_params es)) apart) in
      let there : AllSeen (map param_handle (flat_map own_params es)) (flat_map own_params (filter is_of es)) = filter_seen own_params (map param_handle (flat_map own_params es)) is_of es (each_seen own_params es) in
      let later : AllByRecursion (λ (p : ParamId). drawn_owner (e ∷ es) p.0 ≡ n) (flat_map own_params (filter is_of es)) =
      all_weaker (λ (p : ParamId). (drawn_owner es p.0 ≡ n) × (seen_in p.0 (map param_handle (flat_map own_params es)) ≡ true)) (λ (p : ParamId). drawn_owner (e ∷ es) p.0 ≡ n) (flat_map own_params (filter is_of es))
      (λ p b. after p b.0 (only_behind p.0 (map param_handle (own_params e)) (map param_handle (flat_map own_params es)) apart b.1))
      (both_all (λ (p : ParamId). drawn_owner es p.0 ≡ n) (λ (p : ParamId). seen_in p.0 (map param_handle (flat_map own_params es)) ≡ true) (flat_map own_params (filter is_of es)) rest there) in
      elim (cases_Bool (nat_eq e.group.0 n)) [
        | inl t ↦ rw t (all_behind (λ (p : ParamId). drawn_owner (e ∷ es) p.0 ≡ n) (own_params e) (flat_map own_params (filter is_of es))
            (all_weaker (λ (p : ParamId). seen_in p.0 (map param_handle (own_params e)) ≡ true) (λ (p : ParamId). drawn_owner (e ∷ es) p.0 ≡ n) (own_params e) (λ p u. here p (eqb-true e.group.0 n t) u) (seen_self (own_params e))) later)
        | inr f ↦ rw f later
      ]
    where
      here : (p : ParamId) → e.group.0 ≡ n → seen_in p.0 (map param_handle (own_params e)) ≡ true → drawn_owner (e ∷ es) p.0 ≡ n
      here p is u = rw u is

      after : (p : ParamId) → drawn_owner es p.0 ≡ n → seen_in p.0 (map param_handle (own_params e)) ≡ false → drawn_owner (e ∷ es) p.0 ≡ n
      after p is u = rw u is

low_owner : {s : ℕ} (es : List (Entity s)) (k n : ℕ) → k < 2 ^ 31 → drawn_owner es k ≡ n → owner_of es k ≡ n
low_owner es k n l e = rw (lt-ltb k (2 ^ 31) l) e

high_owner : {s : ℕ} (es : List (Entity s)) (k n : ℕ) → IsWithin ((32768 + n) * 65536) ((32768 + n) * 65536 + 65536) k → owner_of es k ≡ n
high_owner es k n w =
    let low = w.0 in
    let high = w.1 in
    let off : nat_lt k (2 ^ 31) ≡ false = grind (arith, nat_tests, low) in
    rw off (omega (arith, low, high))

module _ {s : ℕ} (es : List (Entity s)) (rise : RiseBy param_handle (flat_map own_params es)) (within : All (λ (p : ParamId). (65536 ≤ p.0) × (p.0 < 2 ^ 31)) (flat_map own_params es)) where
  all_low : AllByRecursion (λ (p : ParamId). (65536 ≤ p.0) × (p.0 < 2 ^ 31)) (flat_map own_params es)
  all_low = recursion_from_All (λ (p : ParamId). (65536 ≤ p.0) × (p.0 < 2 ^ 31)) (flat_map own_params es) within

  filter_all : {T : Type 0} (f : T → List ParamId) (P : ParamId → Type 0) (t : T → Bool) (ts : List T) → AllByRecursion P (flat_map f ts) → AllByRecursion P (flat_map f (filter t ts))
  filter_all f P t [] a = tt
  filter_all f P t (x ∷ ts) a = elim (cases_Bool (t x)) [
    | inl y ↦ rw y (all_behind P (f x) (flat_map f (filter t ts)) (front (f x) (flat_map f ts) a) (filter_all f P t ts (back_of P (f x) (flat_map f ts) a)))
    | inr n ↦ rw n (filter_all f P t ts (back_of P (f x) (flat_map f ts) a))
  ]
    where
      front : (xs ys : List ParamId) → AllByRecursion P (xs ++ ys) → AllByRecursion P xs
      front [] ys h = tt
      front (p ∷ xs) ys h = (h.0, front xs ys h.1)

  -- What a group has of its own is of that group.
  pub own_is : (g : Group s) → AllByRecursion (λ (p : ParamId). owner_of es p.0 ≡ g.id.0) (params_of es g)
  own_is g =
      let drawn : List ParamId = flat_map own_params (filter (λ (e : Entity s). e.group.0 == g.id.0) es) in
      all_behind (λ (p : ParamId). owner_of es p.0 ≡ g.id.0) drawn (group_params g)
      (all_weaker (λ (p : ParamId). ((65536 ≤ p.0) × (p.0 < 2 ^ 31)) × (drawn_owner es p.0 ≡ g.id.0)) (λ (p : ParamId). owner_of es p.0 ≡ g.id.0) drawn (λ p b. low_owner es p.0 g.id.0 b.0.1 b.1)
      (both_all (λ (p : ParamId). (65536 ≤ p.0) × (p.0 < 2 ^ 31)) (λ (p : ParamId). drawn_owner es p.0 ≡ g.id.0) drawn
      (filter_all own_params (λ (p : ParamId). (65536 ≤ p.0) × (p.0 < 2 ^ 31)) (λ (e : Entity s). e.group.0 == g.id.0) es all_low)
      (drawn_own g.id.0 es (sorted_distinct (map param_handle (flat_map own_params es)) rise))))
      (all_weaker (λ (p : ParamId). IsWithin (segment_of g * 65536) (segment_of g * 65536 + 65536) p.0) (λ (p : ParamId). owner_of es p.0 ≡ g.id.0) (group_params g) (λ p w. high_owner es p.0 g.id.0 w)
      (mapped_params (IsWithin (segment_of g * 65536) (segment_of g * 65536 + 65536)) (group_params g) (group_block g).within))

-- ---- the groups of a model

module _ {s : ℕ} (scale : IsScale s) (gs : List (Group s)) (es : List (Entity s)) (apart : IsDistinct nat_eq (map group_handle gs)) (most : All (λ (g : Group s). g.id.0 ≤ 32767) gs) (rise : RiseBy param_handle (flat_map own_params es)) (within : All (λ (p : ParamId). (65536 ≤ p.0) × (p.0 < 2 ^ 31)) (flat_map own_params es)) where
  all_most : AllByRecursion (λ (g : Group s). g.id.0 ≤ 32767) gs
  all_most = recursion_from_All (λ (g : Group s). g.id.0 ≤ 32767) gs most

  are_params : AllByRecursion IsParam (of_all gs es)
  are_params =
      all_behind IsParam (flat_map own_params es) (flat_map group_params gs)
      (all_weaker (λ (p : ParamId). (65536 ≤ p.0) × (p.0 < 2 ^ 31)) IsParam (flat_map own_params es) own_param (all_low es rise within))
      (groups_params gs all_most)

  all_settable : AllByRecursion IsSettable (all_params gs es)
  all_settable = all_in_order IsSettable param_before (map (nought {s = s}) (of_all gs es)) (noughts_settable s (of_all gs es) are_params)

  own_params_are : (g : Group s) → g.id.0 ≤ 32767 → AllByRecursion IsParam (params_of es g)
  own_params_are g m =
      all_behind IsParam (flat_map own_params (filter (λ (e : Entity s). e.group.0 == g.id.0) es)) (group_params g)
      (all_weaker (λ (p : ParamId). (65536 ≤ p.0) × (p.0 < 2 ^ 31)) IsParam (flat_map own_params (filter (λ (e : Entity s). e.group.0 == g.id.0) es)) own_param
      (filter_all es rise within own_params (λ (p : ParamId). (65536 ≤ p.0) × (p.0 < 2 ^ 31)) (λ (e : Entity s). e.group.0 == g.id.0) es (all_low es rise within)))
      (all_weaker (λ (p : ParamId). IsWithin (segment_of g * 65536) (segment_of g * 65536 + 65536) p.0) IsParam (group_params g) (λ p w. group_param g.id.0 p m w)
      (mapped_params (IsWithin (segment_of g * 65536) (segment_of g * 65536 + 65536)) (group_params g) (group_block g).within))

  -- ---- with those of group 1

  abbrev all_handles : List ℕ
  all_handles = map value_handle (all_params gs es)

  among_all : (h : Group s) (n : ℕ) → group_at n gs ≡ Some h → StandsAmong gs es h
  among_all h n e = found_holds (StandsAmong gs es) n gs h (own_among gs es) e

  with_references : (o : Option (Group s)) → group_at 1 gs ≡ o → let qs = or_none [] (λ (g : Group s). map (reference s) (params_of es g)) o in
      AllByRecursion IsSettable qs × (map value_handle (with_params qs (all_params gs es)) ≡ all_handles)
  with_references None e = (tt, refl)
  with_references (Some h) e = (
    references_settable s scale (params_of es h) (own_params_are h (found_holds (λ (g : Group s). g.id.0 ≤ 32767) 1 gs h most e)),
    handles_stay (map (reference s) (params_of es h)) (all_params gs es)
        (subst (Stand all_handles) (sym (references_ids s (params_of es h))) (stand-all all_handles (params_of es h) (among_all h 1 e))),
  )

  reference_parts : AllByRecursion IsSettable (references gs es) × (map value_handle (with_params (references gs es) (all_params gs es)) ≡ all_handles)
  unfolding references
  reference_parts = with_references (group_at 1 gs) refl

  pub first_handles : (cs : List (Constraint s)) → map value_handle (first_numbers gs es cs).params ≡ all_handles
  unfolding first_numbers
  first_handles cs = reference_parts.1

  pub first_settable : (cs : List (Constraint s)) → All IsSettable (first_numbers gs es cs).params
  unfolding first_numbers
  first_settable cs = All-from_recursion IsSettable (with_params (references gs es) (all_params gs es)) (set_settable (references gs es) (all_params gs es) reference_parts.0 all_settable)

  -- Numbers with these handles: none is 0, and no two are the same.
  pub handles_some : (ps : List (ParamValue s)) → map value_handle ps ≡ all_handles → All (λ (p : ParamValue s). p.id.0 ≢ 0) ps
  handles_some ps same = All-from_recursion (λ (p : ParamValue s). p.id.0 ≢ 0) ps (back ps (subst (AllByRecursion (λ k. k ≢ 0)) (sym same) (to (all_params gs es) all_settable)))
    where
      to : (qs : List (ParamValue s)) → AllByRecursion IsSettable qs → AllByRecursion (λ k. k ≢ 0) (map value_handle qs)
      to [] a = tt
      to (q ∷ qs) a = (a.0.some, to qs a.1)

      back : (qs : List (ParamValue s)) → AllByRecursion (λ k. k ≢ 0) (map value_handle qs) → AllByRecursion (λ (p : ParamValue s). p.id.0 ≢ 0) qs
      back [] a = tt
      back (q ∷ qs) a = (a.0, back qs a.1)

  pub handles_differ : (ps : List (ParamValue s)) → map value_handle ps ≡ all_handles → IsDistinct nat_eq (map value_handle ps)
  handles_differ ps same = subst (IsDistinct nat_eq) (sym same) (sorted_distinct all_handles (params_rise gs es apart rise within))

  first_differ : (cs : List (Constraint s)) → IsDistinct nat_eq (map value_handle (first_numbers gs es cs).params)
  first_differ cs = handles_differ (first_numbers gs es cs).params (first_handles cs)

  -- ---- of each group

  abbrev own_of : GroupId → List ParamId
  own_of g = in_group gs [] (params_of es) g

  among_one : (cs : List (Constraint s)) (o : Option (Group s)) (g : GroupId) → group_at g.0 gs ≡ o → All (λ (p : ParamId). seen_in p.0 (map value_handle (first_numbers gs es cs).params) ≡ true) (or_none [] (params_of es) o)
  among_one cs None g e = All-from_recursion (λ (p : ParamId). seen_in p.0 (map value_handle (first_numbers gs es cs).params) ≡ true) [] tt
  among_one cs (Some h) g e = subst (λ (ids : List ℕ). All (λ (p : ParamId). seen_in p.0 ids ≡ true) (params_of es h)) (sym (first_handles cs)) (among_all h g.0 e)

  all_among : (cs : List (Constraint s)) (order : List GroupId) → AllByRecursion (λ (g : GroupId). All (λ (p : ParamId). seen_in p.0 (map value_handle (first_numbers gs es cs).params) ≡ true) (own_of g)) order
  all_among cs [] = tt
  all_among cs (g ∷ order) = (among_one cs (group_at g.0 gs) g refl, all_among cs order)

  of_one : (o : Option (Group s)) (g : GroupId) → group_at g.0 gs ≡ o → AllByRecursion (λ (p : ParamId). owner_of es p.0 ≡ g.0) (or_none [] (params_of es) o)
  of_one None g e = tt
  of_one (Some h) g e = subst (λ (n : ℕ). AllByRecursion (λ (p : ParamId). owner_of es p.0 ≡ n) (params_of es h)) (sym (found_is g.0 gs h e)) (own_is es rise within h)

  -- what the groups of an order have is of each
  pub own_of_each : (g : GroupId) → AllByRecursion (λ (p : ParamId). owner_of es p.0 ≡ g.0) (own_of g)
  own_of_each g = of_one (group_at g.0 gs) g refl

  rise_one : (o : Option (Group s)) (g : GroupId) → group_at g.0 gs ≡ o → IsDistinct nat_eq (map param_handle (or_none [] (params_of es) o))
  rise_one None g e = nothing_distinct
  rise_one (Some h) g e = sorted_distinct (map param_handle (params_of es h)) (own_rise es rise within h (found_holds (λ (g : Group s). g.id.0 ≤ 32767) g.0 gs h most e))

  other_handles : (k n : ℕ) (g : GroupId) → owner_of es k ≡ n → nat_eq n g.0 ≡ false → Differs (map param_handle (own_of g)) k
  other_handles k n g is off = to_map (own_of g) (own_of_each g)
    where
      to_map : (ps : List ParamId) → AllByRecursion (λ (p : ParamId). owner_of es p.0 ≡ g.0) ps → Differs (map param_handle ps) k
      to_map [] a = tt
      to_map (p ∷ ps) a = (
        elim (cases_Bool (nat_eq k p.0)) [
          | inl t ↦ (let same : n ≡ g.0 = sym is ∙ ap (owner_of es) (eqb-true k p.0 t) ∙ a.0 in let no : true ≡ false = sym (eq-eqb n g.0 same) ∙ off in cc no)
          | inr f ↦ f
        ],
        to_map ps a.1,
      )

  others_differ : (k n : ℕ) (order : List GroupId) → owner_of es k ≡ n → AllByRecursion (λ m. nat_eq n m ≡ false) (map place_handle order) → Differs (map param_handle (flat_map own_of order)) k
  others_differ k n [] is off = tt
  others_differ k n (g ∷ order) is off =
      subst (λ (ks : List ℕ). Differs ks k) (sym (map-append param_handle (own_of g) (flat_map own_of order)))
      (all_behind (λ j. nat_eq k j ≡ false) (map param_handle (own_of g)) (map param_handle (flat_map own_of order)) (other_handles k n g is off.0) (others_differ k n order is off.1))

  pub own_apart : (order : List GroupId) → IsDistinct nat_eq (map place_handle order) → IsDistinct nat_eq (map param_handle (flat_map own_of order))
  own_apart [] d = d
  own_apart (g ∷ order) d =
      subst (IsDistinct nat_eq) (sym (map-append param_handle (own_of g) (flat_map own_of order)))
      (distinct_append (map param_handle (own_of g)) (map param_handle (flat_map own_of order)) (rise_one (group_at g.0 gs) g refl) (own_apart order (IsDistinct-tail nat_eq g.0 (map place_handle order) d))
      (from_ids (own_of g) (all_weaker (λ (p : ParamId). owner_of es p.0 ≡ g.0) (λ (p : ParamId). Differs (map param_handle (flat_map own_of order)) p.0) (own_of g)
      (λ p is. others_differ p.0 g.0 order is (IsDistinct-head nat_eq g.0 (map place_handle order) d)) (own_of_each g))))
    where
      from_ids : (ps : List ParamId) → AllByRecursion (λ (p : ParamId). Differs (map param_handle (flat_map own_of order)) p.0) ps → AllByRecursion (Differs (map param_handle (flat_map own_of order))) (map param_handle ps)
      from_ids [] a = tt
      from_ids (p ∷ ps) a = (a.0, from_ids ps a.1)

  -- All of it, of the works of a model with these groups and entities.
  pub owns_params : (rs : List Request) (cs : List (Constraint s)) (o : Outline s) (order : List GroupId) → o.entities ≡ es → IsDistinct nat_eq (map place_handle order) → OwnsParams (works gs rs cs o) order
  unfolding works
  owns_params rs cs o order is d =
      let whole : OwnsParams (works gs rs cs (record { order = o.order; entities = es })) order = record {
        settable = first_settable cs;
        differ = first_differ cs;
        among = All-from_recursion (λ (g : GroupId). All (λ (p : ParamId). seen_in p.0 (map value_handle (first_numbers gs es cs).params) ≡ true) (own_of g)) order (all_among cs order);
        apart = own_apart order d;
      } in
      subst (λ (xs : List (Entity s)). OwnsParams (works gs rs cs (record { order = o.order; entities = xs })) order) (sym is) whole
