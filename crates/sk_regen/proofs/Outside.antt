-- Lists without the things of some groups, and whose a handle is.
use Rattle.std.proofs.Common.{◌≡◌, inl, inr, ℕ, ◌+◌, ◌-◌, ◌*◌, ◌/◌, ◌%◌, ◌<◌, ◌≤◌, ◌^◌, List, [], ◌∷◌, map, Bool, true, false, nat_lt, Option, Some, None, refl, sym, ap, ◌∙◌, subst, arith}
use Rattle.std.specs.Prelude.{◌==◌, unwrap_or, if◌then◌else◌}
use Rattle.std.specs.Option.{option_map, option_or}
use Rattle.std.specs.List.{All, AllByRecursion, filter, find, flat_map}
use Rattle.std.proofs.lemmas.Bool.{cases_Bool, lt-ltb, le-ltb}
use Rattle.std.proofs.lemmas.List.{map-append}
use Rattle.std.proofs.lemmas.List.Elements.{All-contains, All-from_recursion, All-head, All-tail, recursion_from_All}
use Rattle.sk_types.specs.declared.handle.GroupId.{GroupId}
use Rattle.sk_types.specs.declared.handle.Maker.{Maker}
use Rattle.sk_types.specs.declared.handle.Maker.TheVariants.{OfRequest, OfGroup}
use Rattle.sk_types.specs.declared.handle.ParamId.{ParamId}
use Rattle.sk_types.specs.declared.handle.RequestId.{RequestId}
use Rattle.sk_types.specs.declared.entity.Entity.{Entity}
use Rattle.sk_types.specs.declared.entity.Outline.{Outline}
use Rattle.sk_types.specs.declared.group.Group.{Group}
use Rattle.sk_types.specs.declared.request.Request.{Request}
use Rattle.sk_types.specs.Handles.{item_of_group, maker_of}
use Rattle.sk_types.specs.Lookups.{param_handle}
use Rattle.sk_types.specs.Params.{group_params, own_params}
use Rattle.sk_entity.specs.Requests.{request_entities}
use Rattle.sk_model.specs.Checked.{IsCheckedRequest}
use Rattle.sk_model.specs.Typed.{Typed}
use Rattle.sk_chain.specs.Known.{IsDrawn}
use Rattle.sk_chain.specs.Laws.{LeadsBack}
use Rattle.sk_chain.specs.Lookups.{group_at}
use Rattle.sk_chain.specs.Made.{group_by}
use Rattle.sk_chain.proofs.Drawn.{IsPart, request_part}
use Rattle.sk_chain.proofs.Segments.{IsWithin, all_back, all_front, all_weaker}
use Rattle.sk_chain.proofs.Standing.{found_is}
use Rattle.sk_regen.specs.Likeness.{IsWhole, group_of, nobody, owner_by, request_at}
use Rattle.sk_regen.proofs.SoundNumbers.{group_block, segment_of}

-- ---- lists

module _ {X : Type 0} (p q : X → Bool) where
  abbrev pub Within : List X → Type 0
  Within xs = AllByRecursion (λ x. p x ≡ true → q x ≡ true) xs

  not_passed : (x : X) → (p x ≡ true → q x ≡ true) → q x ≡ false → p x ≡ false
  not_passed x h f = elim (cases_Bool (p x)) [
    | inl t ↦ (let no : true ≡ false = sym (h t) ∙ f in cc no)
    | inr g ↦ g
  ]

  pub filter_within : (xs : List X) → Within xs → filter p (filter q xs) ≡ filter p xs
  filter_within [] h = refl
  filter_within (x ∷ xs) h = elim (cases_Bool (q x)) [
    | inl t ↦ rw t (ap (λ (l : List X). if p x then x ∷ l else l) (filter_within xs h.1))
    | inr f ↦ (let off : p x ≡ false = not_passed x h.0 f in rw (f, off) (filter_within xs h.1))
  ]

  pub find_within : (xs : List X) → Within xs → find p (filter q xs) ≡ find p xs
  find_within [] h = refl
  find_within (x ∷ xs) h = elim (cases_Bool (q x)) [
    | inl t ↦ rw t (ap (λ (o : Option X). if p x then Some x else o) (find_within xs h.1))
    | inr f ↦ (let off : p x ≡ false = not_passed x h.0 f in rw (f, off) (find_within xs h.1))
  ]

  pub find_kept : (xs : List X) (x : X) → find p xs ≡ Some x → q x ≡ true → find p (filter q xs) ≡ Some x
  find_kept [] x e k = cc e
  find_kept (y ∷ ys) x e k = elim (cases_Bool (p y)) [
    | inl t ↦ (let some : Some y ≡ Some x = rw t at e in let is : y ≡ x = cc some in let here : q y ≡ true = ap q is ∙ k in rw (here, t) some)
    | inr f ↦ (let rest = find_kept ys x (rw f at e) k in elim (cases_Bool (q y)) [ inl t ↦ rw (t, f) rest | inr g ↦ rw g rest ])
  ]

  pub find_none : (xs : List X) → find p xs ≡ None → find p (filter q xs) ≡ None
  find_none [] e = refl
  find_none (y ∷ ys) e = elim (cases_Bool (p y)) [
    | inl t ↦ (let no : Some y ≡ None = rw t at e in cc no)
    | inr f ↦ (let rest = find_none ys (rw f at e) in elim (cases_Bool (q y)) [ inl t ↦ rw (t, f) rest | inr g ↦ rw g rest ])
  ]

-- ---- the makers of handles

pub of_request : (r n : ℕ) → r ≤ 32767 → r * 65536 ≤ n → n < r * 65536 + 65536 → maker_of n ≡ OfRequest (record { 0 = r }) (n % 65536)
of_request r n few low high =
    let below : nat_lt n (2 ^ 31) ≡ true = lt-ltb n (2 ^ 31) (omega (arith, few, high)) in
    let is : n / 65536 ≡ r = omega (arith, low, high) in
    rw (below, is) refl

pub of_group : (g n : ℕ) → item_of_group g 0 ≤ n → n ≤ item_of_group g 65535 → maker_of n ≡ OfGroup (record { 0 = g }) (n % 65536)
of_group g n low high =
    let above : nat_lt n (2 ^ 31) ≡ false = le-ltb n (2 ^ 31) (omega (arith, low)) in
    let is : (n - 2 ^ 31) / 65536 ≡ g = omega (arith, low, high) in
    rw (above, is) refl

pub same_group : (g h : GroupId) → g.0 ≡ h.0 → g ≡ h
same_group g h e = ap (λ n. let x : GroupId = record { 0 = n } in x) e

-- ---- owners of both models

-- owners that are those of a model with these requests and groups
pub record OwnsAll {s : ℕ} (own : Maker → GroupId) (rs : List Request) (gs : List (Group s)) : Type 0 where
  pub request : (r : RequestId) (i : ℕ) (q : Request) → request_at r.0 rs ≡ Some q → own (OfRequest r i) ≡ q.group
  pub group : (g : GroupId) (i : ℕ) → own (OfGroup g i) ≡ g
  pub home : (k : Maker) (g : GroupId) → group_by rs gs k ≡ Some g → own k ≡ g

module _ {s : ℕ} (own : Maker → GroupId) (rs : List Request) (gs : List (Group s)) (request : (r : RequestId) (i : ℕ) (q : Request) → request_at r.0 rs ≡ Some q → own (OfRequest r i) ≡ q.group) (group : (g : GroupId) (i : ℕ) → own (OfGroup g i) ≡ g) where
  all_owned : OwnsAll own rs gs
  all_owned = record { request = request; group = group; home = home }
    where
      home : (k : Maker) (g : GroupId) → group_by rs gs k ≡ Some g → own k ≡ g
      home (OfRequest r i) g e = by (request_at r.0 rs) refl e
        where
          by : (o : Option Request) → request_at r.0 rs ≡ o → option_map (λ (q : Request). q.group) o ≡ Some g → own (OfRequest r i) ≡ g
          by None is h = cc h
          by (Some q) is h = request r i q is ∙ cc h
      home (OfGroup k i) g e = by (group_at k.0 gs) refl e
        where
          by : (o : Option (Group s)) → group_at k.0 gs ≡ o → option_map (λ (h : Group s). h.id) o ≡ Some g → own (OfGroup k i) ≡ g
          by None is h = cc h
          by (Some x) is h = let same : x.id ≡ g = cc h in group k i ∙ same_group k x.id (found_is k.0 gs x is) ∙ same

module _ (before now : List Request) where
  abbrev pub Stay : Type 0
  Stay = (n : ℕ) (q r : Request) → request_at n before ≡ Some q → request_at n now ≡ Some r → r.group ≡ q.group

  pub owned_now : {s : ℕ} (gs : List (Group s)) → OwnsAll (owner_by before now) now gs
  owned_now gs = all_owned (owner_by before now) now gs (λ r i q e. rw e refl) (λ g i. refl)

  pub owned_before : {s : ℕ} (gs : List (Group s)) → Stay → OwnsAll (owner_by before now) before gs
  owned_before gs stay = all_owned (owner_by before now) before gs request (λ g i. refl)
    where
      request : (r : RequestId) (i : ℕ) (q : Request) → request_at r.0 before ≡ Some q → owner_by before now (OfRequest r i) ≡ q.group
      request r i q e = by (request_at r.0 now) refl
        where
          by : (o : Option Request) → request_at r.0 now ≡ o → unwrap_or (option_or (group_of o) (group_of (request_at r.0 before))) nobody ≡ q.group
          by None is = rw e refl
          by (Some p) is = stay r.0 q p e is

-- ---- what entities and groups have

module _ {s : ℕ} (own : Maker → GroupId) (m : Typed s) (o : Outline s) (whole : IsWhole m o) (owned : OwnsAll own m.requests m.groups) where
  abbrev pub EntityOwned : Entity s → Type 0
  EntityOwned e = own (maker_of e.id.0) ≡ e.group

  pub entities_owned : AllByRecursion EntityOwned o.entities
  entities_owned = all_weaker (LeadsBack m) EntityOwned o.entities (λ e h. owned.home (maker_of e.id.0) e.group h.home) (recursion_from_All (LeadsBack m) o.entities whole.outline.homes)

  abbrev pub ParamsOwned : GroupId → List ParamId → Type 0
  ParamsOwned g ps = AllByRecursion (λ (p : ParamId). own (maker_of p.0) ≡ g) ps

  found_checked : (n : ℕ) (qs : List Request) (r : Request) → All IsCheckedRequest qs → find (λ (q : Request). n == q.id.0) qs ≡ Some r → IsCheckedRequest r
  found_checked n [] r a h = cc h
  found_checked n (q ∷ qs) r a h = elim (cases_Bool (n == q.id.0)) [
    | inl t ↦ (let some : Some q ≡ Some r = rw t at h in let is : q ≡ r = cc some in subst IsCheckedRequest is (All-head IsCheckedRequest q qs a))
    | inr f ↦ found_checked n qs r (All-tail IsCheckedRequest q qs a) (rw f at h)
  ]

  module _ (e : Entity s) (d : IsDrawn m.requests e) where
    abbrev In : ℕ → Type 0
    In k = IsWithin (d.request.id.0 * 65536 + 0) (d.request.id.0 * 65536 + 65536) k

    abbrev Block : Entity s → Type 0
    Block x = AllByRecursion In (map param_handle (own_params x))

    each_block : (es : List (Entity s)) → AllByRecursion In (map param_handle (flat_map own_params es)) → AllByRecursion Block es
    each_block [] h = tt
    each_block (x ∷ es) h =
        let both = subst (AllByRecursion In) (map-append param_handle (own_params x) (flat_map own_params es)) h in
        (all_front In (map param_handle (own_params x)) (map param_handle (flat_map own_params es)) both, each_block es (all_back In (map param_handle (own_params x)) (map param_handle (flat_map own_params es)) both))

    from_block : (ps : List ParamId) → e.group ≡ d.request.group → d.request.id.0 ≤ 32767 → AllByRecursion In (map param_handle ps) → ParamsOwned e.group ps
    from_block [] is few h = tt
    from_block (p ∷ ps) is few h =
        let low = h.0.0 in
        (ap own (of_request d.request.id.0 p.0 few (omega (arith, low)) h.0.1) ∙ owned.request d.request.id (p.0 % 65536) d.request d.there ∙ sym is, from_block ps is few h.1)

    drawn_params : ParamsOwned e.group (own_params e)
    drawn_params =
        let q = d.request in
        let known = found_checked q.id.0 m.requests q whole.checked.requests d.there in
        let part : IsPart s q 0 65536 0 65536 (request_entities s q) = request_part s q known.extra in
        let its = All-contains (λ (x : Entity s). (x.group ≡ q.group) × (x.kind ≤ 65535)) (request_entities s q) e (All-from_recursion (λ (x : Entity s). (x.group ≡ q.group) × (x.kind ≤ 65535)) (request_entities s q) part.known) d.draws in
        let within = All-contains Block (request_entities s q) e (All-from_recursion Block (request_entities s q) (each_block (request_entities s q) part.params_rise.within)) d.draws in
        from_block (own_params e) its.0 known.most within

  entity_params : (e : Entity s) → LeadsBack m e → ParamsOwned e.group (own_params e)
  entity_params e h = elim h.own [
    | inl none ↦ subst (ParamsOwned e.group) (sym none) tt
    | inr drawn ↦ drawn_params e drawn
  ]

  abbrev pub HasOwn : Entity s → Type 0
  HasOwn e = ParamsOwned e.group (own_params e)

  pub params_owned : AllByRecursion HasOwn o.entities
  params_owned = all_weaker (LeadsBack m) HasOwn o.entities entity_params (recursion_from_All (LeadsBack m) o.entities whole.outline.homes)

  -- an item of a group is the group's
  pub item_owned : (g : GroupId) (n : ℕ) → item_of_group g.0 0 ≤ n → n ≤ item_of_group g.0 65535 → own (maker_of n) ≡ g
  item_owned g n low high = ap own (of_group g.0 n low high) ∙ owned.group g (n % 65536)

  pub group_owned : (g : Group s) → ParamsOwned g.id (group_params g)
  group_owned g = from (group_params g) (group_block g).within
    where
      from : (ps : List ParamId) → AllByRecursion (IsWithin (segment_of g * 65536) (segment_of g * 65536 + 65536)) (map param_handle ps) → ParamsOwned g.id ps
      from [] h = tt
      from (p ∷ ps) h = let low = h.0.0 in let high = h.0.1 in (item_owned g.id p.0 (omega (arith, low)) (omega (arith, high)), from ps h.1)
