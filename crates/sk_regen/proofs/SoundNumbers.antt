-- The numbers of a model before any group is regenerated: they rise by handle, and what each group has of its own stands among them.
use Rattle.std.proofs.Common.{◌≡◌, ◌⊎◌, inl, inr, ℕ, zero, suc, ◌+◌, ◌*◌, ◌<◌, ◌≤◌, ◌^◌, List, [], ◌∷◌, ◌++◌, map, Bool, true, false, nat_eq, refl, sym, ap, ◌∙◌, subst, arith, append-nil}
use Rattle.std.specs.Prelude.{◌==◌}
use Rattle.std.specs.List.{All, AllByRecursion, IsDistinct, filter, flat_map, fold}
use Rattle.std.specs.List.Sorted.{IsStrictlySortedBy}
use Rattle.std.specs.Ordering.{nat_cmp}
use Rattle.std.specs.declared.cmp.Ordering.TheVariants.{Less}
use Rattle.std.proofs.lemmas.Bool.{cases_Bool, eq-eqb}
use Rattle.std.proofs.lemmas.Bool.Decides.{nat_tests}
use Rattle.std.proofs.lemmas.List.{map-append}
use Rattle.std.proofs.lemmas.List.Elements.{All-from_recursion, recursion_from_All}
use Rattle.sk_types.specs.declared.handle.ParamId.{ParamId}
use Rattle.sk_types.specs.declared.constraint.Constraint.{Constraint}
use Rattle.sk_types.specs.declared.entity.Entity.{Entity}
use Rattle.sk_types.specs.declared.group.Group.{Group}
use Rattle.sk_types.specs.declared.group.GroupKind.{GroupKind}
use Rattle.sk_types.specs.declared.group.GroupKind.TheVariants.{Space, Plane, Extrude, Translate, Linked}
use Rattle.sk_types.specs.Handles.{item_of_group}
use Rattle.sk_types.specs.Lists.{each_below}
use Rattle.sk_types.specs.Lookups.{Rise, RiseBy, act_handle, entity_handle, param_handle, value_handle}
use Rattle.sk_types.specs.Params.{group_count, group_params, own_params, unknown_params}
use Rattle.sk_copy.specs.Order.{in_order, put_in}
use Rattle.sk_copy.proofs.Apartness.{in_order_rises}
use Rattle.sk_model.specs.Chain.{seen_in}
use Rattle.sk_model.specs.Typed.{group_handle}
use Rattle.sk_chain.proofs.Apart.{Differs, IsBlock, blocks_distinct, distinct_append, sorted_distinct}
use Rattle.sk_chain.proofs.Segments.{IsSegment, IsWithin, all_behind, all_weaker, joined, no_segment, single, wider}
use Rattle.sk_chain.proofs.Sublists.{unknown_rise}
use Rattle.sk_regen.specs.GroupWorks.{all_acts, all_params, no_act, nought, param_before, params_of, stands}

-- ---- where numbers stand

seen_cons : (n m : ℕ) (ms : List ℕ) → seen_in n ms ≡ true → seen_in n (m ∷ ms) ≡ true
seen_cons n m ms e = elim (cases_Bool (nat_eq n m)) [ inl t ↦ rw t refl | inr f ↦ rw f e ]

seen_here : (n m : ℕ) (ms : List ℕ) → nat_eq n m ≡ true → seen_in n (m ∷ ms) ≡ true
seen_here n m ms t = rw t refl

seen_front : (n : ℕ) (xs ys : List ℕ) → seen_in n xs ≡ true → seen_in n (xs ++ ys) ≡ true
seen_front n [] ys e = cc
seen_front n (x ∷ xs) ys e = elim (cases_Bool (nat_eq n x)) [ inl t ↦ rw t refl | inr f ↦ rw f (seen_front n xs ys (rw f at e)) ]

seen_back : (n : ℕ) (xs ys : List ℕ) → seen_in n ys ≡ true → seen_in n (xs ++ ys) ≡ true
seen_back n [] ys e = e
seen_back n (x ∷ xs) ys e = seen_cons n x (xs ++ ys) (seen_back n xs ys e)

seen_either : (n : ℕ) (xs ys : List ℕ) → seen_in n (xs ++ ys) ≡ true → (seen_in n xs ≡ true) ⊎ (seen_in n ys ≡ true)
seen_either n [] ys e = inr e
seen_either n (x ∷ xs) ys e = elim (cases_Bool (nat_eq n x)) [
  | inl t ↦ inl (rw t refl)
  | inr f ↦ elim (seen_either n xs ys (rw f at e)) [ inl a ↦ inl (rw f a) | inr b ↦ inr b ]
]

-- what is put in order stands there
module _ {X : Type 0} (handle : X → ℕ) (before : X → X → Bool) where
  seen_put : (n : ℕ) (x : X) (ys : List X) → seen_in n (handle x ∷ map handle ys) ≡ true → seen_in n (map handle (put_in before x ys)) ≡ true
  seen_put n x [] e = e
  seen_put n x (y ∷ ys) e = elim (cases_Bool (before x y)) [
    | inl t ↦ rw t e
    | inr f ↦ rw f (elim (cases_Bool (nat_eq n (handle y))) [
      | inl u ↦ seen_here n (handle y) (map handle (put_in before x ys)) u
      | inr u ↦ seen_cons n (handle y) (map handle (put_in before x ys)) (seen_put n x ys (elim (cases_Bool (nat_eq n (handle x))) [
        | inl v ↦ seen_here n (handle x) (map handle ys) v
        | inr v ↦ seen_cons n (handle x) (map handle ys) (rw (v, u) at e)
      ]))
    ])
  ]

  seen_onto : (n : ℕ) (ys xs : List X) → seen_in n (map handle ys ++ map handle xs) ≡ true → seen_in n (map handle (fold (λ zs x. put_in before x zs) ys xs)) ≡ true
  seen_onto n ys [] e = rw (append-nil (map handle ys)) at e
  seen_onto n ys (x ∷ xs) e = seen_onto n (put_in before x ys) xs (elim (seen_either n (map handle ys) (handle x ∷ map handle xs) e) [
    | inl a ↦ seen_front n (map handle (put_in before x ys)) (map handle xs) (seen_put n x ys (seen_cons n (handle x) (map handle ys) a))
    | inr b ↦ elim (cases_Bool (nat_eq n (handle x))) [
      | inl t ↦ seen_front n (map handle (put_in before x ys)) (map handle xs) (seen_put n x ys (seen_here n (handle x) (map handle ys) t))
      | inr f ↦ seen_back n (map handle (put_in before x ys)) (map handle xs) (rw f at b)
    ]
  ])

  seen_ordered : (n : ℕ) (xs : List X) → seen_in n (map handle xs) ≡ true → seen_in n (map handle (in_order before xs)) ≡ true
  unfolding in_order
  seen_ordered n xs e = seen_onto n [] xs e

-- ---- parameters that stand among handles

abbrev pub AllSeen : List ℕ → List ParamId → Type 0
AllSeen ids ps = AllByRecursion (λ (p : ParamId). seen_in p.0 ids ≡ true) ps

seen_more : (ids more : List ℕ) (ps : List ParamId) → AllSeen ids ps → AllSeen (ids ++ more) ps
seen_more ids more ps a = all_weaker (λ (p : ParamId). seen_in p.0 ids ≡ true) (λ (p : ParamId). seen_in p.0 (ids ++ more) ≡ true) ps (λ p e. seen_front p.0 ids more e) a

seen_after : (front ids : List ℕ) (ps : List ParamId) → AllSeen ids ps → AllSeen (front ++ ids) ps
seen_after front ids ps a = all_weaker (λ (p : ParamId). seen_in p.0 ids ≡ true) (λ (p : ParamId). seen_in p.0 (front ++ ids) ≡ true) ps (λ p e. seen_back p.0 front ids e) a

pub seen_self : (ps : List ParamId) → AllSeen (map param_handle ps) ps
seen_self [] = tt
seen_self (p ∷ ps) = (
  seen_here p.0 p.0 (map param_handle ps) (eq-eqb p.0 p.0 refl),
  all_weaker (λ (q : ParamId). seen_in q.0 (map param_handle ps) ≡ true) (λ (q : ParamId). seen_in q.0 (p.0 ∷ map param_handle ps) ≡ true) ps (λ q e. seen_cons q.0 p.0 (map param_handle ps) e) (seen_self ps),
)

module _ {T : Type 0} (f : T → List ParamId) where
  abbrev flat : List T → List ℕ
  flat ts = map param_handle (flat_map f ts)

  flat_cons : (t : T) (ts : List T) → map param_handle (f t) ++ flat ts ≡ flat (t ∷ ts)
  flat_cons t ts = sym (map-append param_handle (f t) (flat_map f ts))

  pub each_seen : (ts : List T) → AllByRecursion (λ t. AllSeen (flat ts) (f t)) ts
  each_seen [] = tt
  each_seen (t ∷ ts) = (
    subst (λ (ids : List ℕ). AllSeen ids (f t)) (flat_cons t ts) (seen_more (map param_handle (f t)) (flat ts) (f t) (seen_self (f t))),
    all_weaker (λ u. AllSeen (flat ts) (f u)) (λ u. AllSeen (flat (t ∷ ts)) (f u)) ts (λ u a. subst (λ (ids : List ℕ). AllSeen ids (f u)) (flat_cons t ts) (seen_after (map param_handle (f t)) (flat ts) (f u) a)) (each_seen ts),
  )

  pub filter_seen : (ids : List ℕ) (p : T → Bool) (ts : List T) → AllByRecursion (λ t. AllSeen ids (f t)) ts → AllSeen ids (flat_map f (filter p ts))
  filter_seen ids p [] a = tt
  filter_seen ids p (t ∷ ts) a = elim (cases_Bool (p t)) [
    | inl y ↦ rw y (all_behind (λ (q : ParamId). seen_in q.0 ids ≡ true) (f t) (flat_map f (filter p ts)) a.0 (filter_seen ids p ts a.1))
    | inr n ↦ rw n (filter_seen ids p ts a.1)
  ]

-- ---- the handles of parameters at 0

nought_handles : (s : ℕ) (ps : List ParamId) → map value_handle (map (nought {s = s}) ps) ≡ map param_handle ps
nought_handles s [] = refl
nought_handles s (p ∷ ps) = ap (λ ks. p.0 ∷ ks) (nought_handles s ps)

to_handles : (P : ℕ → Type 0) (ps : List ParamId) → AllByRecursion (λ (p : ParamId). P p.0) ps → AllByRecursion P (map param_handle ps)
to_handles P [] h = tt
to_handles P (p ∷ ps) h = (h.0, to_handles P ps h.1)

-- ---- a group's own

few_of_kind : (k : GroupKind) → group_count k ≤ 7
few_of_kind Space = omega arith
few_of_kind Plane = omega arith
few_of_kind Extrude = omega arith
few_of_kind Translate = omega arith
few_of_kind Linked = omega arith

-- the number of a group's segment of handles
abbrev pub segment_of : {s : ℕ} → Group s → ℕ
segment_of g = 32768 + g.id.0

module _ (g : ℕ) where
  items : (n : ℕ) → IsSegment (item_of_group g 0) (item_of_group g 0 + n) (map param_handle (each_below n (λ i. record { 0 = item_of_group g i })))
  items zero = no_segment (item_of_group g 0) (item_of_group g 0 + 0)
  items (suc n) =
      subst (IsSegment (item_of_group g 0) (item_of_group g 0 + suc n)) (sym (map-append param_handle (each_below n (λ i. record { 0 = item_of_group g i })) (record { 0 = item_of_group g n } ∷ [])))
      (joined (item_of_group g 0) (item_of_group g 0 + n) (item_of_group g 0 + suc n) (map param_handle (each_below n (λ i. record { 0 = item_of_group g i }))) (item_of_group g n ∷ []) (omega arith) (omega arith) (items n)
      (single (item_of_group g n) (item_of_group g 0 + n) (item_of_group g 0 + suc n) (omega arith) (omega arith)))

pub group_block : {s : ℕ} (g : Group s) → IsBlock (segment_of g) (map param_handle (group_params g))
group_block g = let few = few_of_kind g.kind in
    wider (item_of_group g.id.0 0) (item_of_group g.id.0 0 + group_count g.kind) (segment_of g * 65536) (segment_of g * 65536 + 65536) (map param_handle (group_params g)) (omega arith) (omega (arith, few)) (items g.id.0 (group_count g.kind))

module _ {s : ℕ} where
  blocks : (gs : List (Group s)) → AllByRecursion (λ (g : Group s). IsBlock (segment_of g) (map param_handle (group_params g))) gs
  blocks [] = tt
  blocks (g ∷ gs) = (group_block g, blocks gs)

  shifted_differ : (n : ℕ) (gs : List (Group s)) → AllByRecursion (λ k. nat_eq n k ≡ false) (map group_handle gs) → AllByRecursion (λ k. nat_eq (32768 + n) k ≡ false) (map segment_of gs)
  shifted_differ n [] d = tt
  shifted_differ n (g ∷ gs) d = (let e = d.0 in grind (arith, nat_tests, e), shifted_differ n gs d.1)

  shifted_distinct : (gs : List (Group s)) → IsDistinct nat_eq (map group_handle gs) → IsDistinct nat_eq (map segment_of gs)
  unfolding IsDistinct
  shifted_distinct [] d = tt
  shifted_distinct (g ∷ gs) d = (shifted_differ g.id.0 gs d.0, shifted_distinct gs d.1)

  groups_high : (gs : List (Group s)) → AllByRecursion (λ k. 2 ^ 31 ≤ k) (map param_handle (flat_map group_params gs))
  groups_high [] = tt
  groups_high (g ∷ gs) =
      subst (AllByRecursion (λ k. 2 ^ 31 ≤ k)) (sym (map-append param_handle (group_params g) (flat_map group_params gs)))
      (all_behind (λ k. 2 ^ 31 ≤ k) (map param_handle (group_params g)) (map param_handle (flat_map group_params gs))
      (all_weaker (IsWithin (segment_of g * 65536) (segment_of g * 65536 + 65536)) (λ k. 2 ^ 31 ≤ k) (map param_handle (group_params g)) (λ k w. let low = w.0 in omega (arith, low)) (group_block g).within)
      (groups_high gs))

low_differs : (xs ys : List ℕ) → AllByRecursion (λ k. k < 2 ^ 31) xs → AllByRecursion (λ k. 2 ^ 31 ≤ k) ys → AllByRecursion (Differs ys) xs
low_differs xs ys low high = all_weaker (λ k. k < 2 ^ 31) (Differs ys) xs (λ x l. all_weaker (λ k. 2 ^ 31 ≤ k) (λ y. nat_eq x y ≡ false) ys (λ y m. grind (arith, nat_tests, l, m)) high) low

-- ---- all parameters

module _ {s : ℕ} (gs : List (Group s)) (es : List (Entity s)) where
  abbrev pub of_all : List ParamId
  of_all = flat_map own_params es ++ flat_map group_params gs

  abbrev handles_of_all : List ℕ
  handles_of_all = map param_handle (flat_map own_params es) ++ map param_handle (flat_map group_params gs)

  handles_are : handles_of_all ≡ map value_handle (map (nought {s = s}) of_all)
  handles_are = sym (map-append param_handle (flat_map own_params es) (flat_map group_params gs)) ∙ sym (nought_handles s of_all)

  handles_differ : IsDistinct nat_eq (map group_handle gs) → RiseBy param_handle (flat_map own_params es) → All (λ (p : ParamId). (65536 ≤ p.0) × (p.0 < 2 ^ 31)) (flat_map own_params es) → IsDistinct nat_eq handles_of_all
  handles_differ apart rise within =
      distinct_append (map param_handle (flat_map own_params es)) (map param_handle (flat_map group_params gs))
      (sorted_distinct (map param_handle (flat_map own_params es)) rise)
      (blocks_distinct group_params segment_of param_handle gs (shifted_distinct gs apart) (blocks gs))
      (low_differs (map param_handle (flat_map own_params es)) (map param_handle (flat_map group_params gs))
      (to_handles (λ k. k < 2 ^ 31) (flat_map own_params es) (all_weaker (λ (p : ParamId). (65536 ≤ p.0) × (p.0 < 2 ^ 31)) (λ (p : ParamId). p.0 < 2 ^ 31) (flat_map own_params es) (λ p w. w.1) (recursion_from_All (λ (p : ParamId). (65536 ≤ p.0) × (p.0 < 2 ^ 31)) (flat_map own_params es) within)))
      (groups_high gs))

  -- They rise.
  pub params_rise : IsDistinct nat_eq (map group_handle gs) → RiseBy param_handle (flat_map own_params es) → All (λ (p : ParamId). (65536 ≤ p.0) × (p.0 < 2 ^ 31)) (flat_map own_params es) → RiseBy value_handle (all_params gs es)
  params_rise apart rise within = in_order_rises value_handle (map (nought {s = s}) of_all) (subst (IsDistinct nat_eq) handles_are (handles_differ apart rise within))

  all_seen : (ps : List ParamId) → AllSeen handles_of_all ps → AllSeen (map value_handle (all_params gs es)) ps
  all_seen ps a = all_weaker (λ (p : ParamId). seen_in p.0 handles_of_all ≡ true) (λ (p : ParamId). seen_in p.0 (map value_handle (all_params gs es)) ≡ true) ps
      (λ p e. seen_ordered value_handle param_before p.0 (map (nought {s = s}) of_all) (subst (λ (ids : List ℕ). seen_in p.0 ids ≡ true) handles_are e)) a

  own_seen : (g : Group s) → AllSeen (map param_handle (flat_map group_params gs)) (group_params g) → AllSeen handles_of_all (params_of es g)
  own_seen g a =
      let mine : Entity s → Bool = λ e. e.group.0 == g.id.0 in
      let of_entities : AllSeen (map param_handle (flat_map own_params es)) (flat_map own_params (filter mine es)) = filter_seen own_params (map param_handle (flat_map own_params es)) mine es (each_seen own_params es) in
      all_behind (λ (p : ParamId). seen_in p.0 handles_of_all ≡ true) (flat_map own_params (filter mine es)) (group_params g)
      (seen_more (map param_handle (flat_map own_params es)) (map param_handle (flat_map group_params gs)) (flat_map own_params (filter mine es)) of_entities)
      (seen_after (map param_handle (flat_map own_params es)) (map param_handle (flat_map group_params gs)) (group_params g) a)

  abbrev pub StandsAmong : Group s → Type 0
  StandsAmong g = All (λ (p : ParamId). seen_in p.0 (map value_handle (all_params gs es)) ≡ true) (params_of es g)

  -- What each group has of its own stands among them.
  pub own_among : All StandsAmong gs
  own_among = All-from_recursion StandsAmong gs (all_weaker (λ (g : Group s). AllSeen (map param_handle (flat_map group_params gs)) (group_params g)) StandsAmong gs
      (λ g a. All-from_recursion (λ (p : ParamId). seen_in p.0 (map value_handle (all_params gs es)) ≡ true) (params_of es g) (all_seen (params_of es g) (own_seen g a))) (each_seen group_params gs))

-- ---- the parameters of one group

module _ {s : ℕ} (es : List (Entity s)) (rise : RiseBy param_handle (flat_map own_params es)) (within : All (λ (p : ParamId). (65536 ≤ p.0) × (p.0 < 2 ^ 31)) (flat_map own_params es)) (g : Group s) (most : g.id.0 ≤ 32767) where
  pub unknowns_rise : (cs : List (Constraint s)) → RiseBy param_handle (unknown_params cs es g)
  unknowns_rise cs = unknown_rise cs es g most rise (to_handles (λ k. (65536 ≤ k) × (k < 2 ^ 31)) (flat_map own_params es) (recursion_from_All (λ (p : ParamId). (65536 ≤ p.0) × (p.0 < 2 ^ 31)) (flat_map own_params es) within))

  pub own_rise : RiseBy param_handle (params_of es g)
  own_rise = unknowns_rise []

-- ---- the numbers of entities

module _ {s : ℕ} where
  act_handles : (es : List (Entity s)) → map act_handle (map no_act es) ≡ map entity_handle es
  act_handles [] = refl
  act_handles (e ∷ es) = ap (λ ks. e.id.0 ∷ ks) (act_handles es)

  less_filter : (k : ℕ) (es : List (Entity s)) → AllByRecursion (λ j. nat_cmp k j ≡ Less) (map entity_handle es) → AllByRecursion (λ j. nat_cmp k j ≡ Less) (map entity_handle (filter stands es))
  less_filter k [] h = tt
  less_filter k (e ∷ es) h = elim (cases_Bool (stands e)) [ inl t ↦ rw t ((h.0, less_filter k es h.1)) | inr f ↦ rw f (less_filter k es h.1) ]

  rise_filter : (es : List (Entity s)) → Rise es → Rise (filter stands es)
  unfolding IsStrictlySortedBy
  rise_filter [] h = tt
  rise_filter (e ∷ es) h = elim (cases_Bool (stands e)) [ inl t ↦ rw t ((less_filter e.id.0 es h.0, rise_filter es h.1)) | inr f ↦ rw f (rise_filter es h.1) ]

  pub acts_rise : (es : List (Entity s)) → Rise es → RiseBy act_handle (all_acts es)
  acts_rise es rise = subst (IsStrictlySortedBy nat_cmp) (sym (act_handles (filter stands es))) (rise_filter es rise)
