-- What holds of an outline: from the groups that are made, and from the faults that aren't there.
use Rattle.std.proofs.Common.{◌≡◌, ◌≢◌, ◌⊎◌, inl, inr, ℕ, ◌≤◌, ◌<◌, ◌^◌, List, [], ◌∷◌, ◌++◌, length, get_or, map, Bool, true, false, nat_eq, nat_lt, Option, Some, None, Ok, Err, refl, sym, ap, ◌∙◌, subst, arith}
use Rattle.std.specs.Prelude.{◌==◌, not, if◌then◌else◌}
use Rattle.std.specs.Option.{is_none, option_or}
use Rattle.std.specs.List.{All, AllByRecursion, Contains, IsDistinct, flat_map}
use Rattle.std.proofs.lemmas.Bool.{cases_Bool, eqb-true, ltb-false, ne_eqb}
use Rattle.std.proofs.lemmas.Grind.{flat_map-append}
use Rattle.std.proofs.lemmas.List.{length-map}
use Rattle.std.proofs.lemmas.List.Elements.{All-contains_itself, All-from_recursion, All-map, All-weaker, recursion_from_All}
use Rattle.sk_types.specs.declared.handle.EntityId.{EntityId}
use Rattle.sk_types.specs.declared.handle.GroupId.{GroupId}
use Rattle.sk_types.specs.declared.handle.ParamId.{ParamId}
use Rattle.sk_types.specs.declared.constraint.Constraint.{Constraint}
use Rattle.sk_types.specs.declared.constraint.Need.{Need}
use Rattle.sk_types.specs.declared.constraint.PartKind.{PartKind}
use Rattle.sk_types.specs.declared.constraint.PartKind.TheVariants.{Point, Workplane, Line}
use Rattle.sk_types.specs.declared.entity.Entity.{Entity}
use Rattle.sk_types.specs.declared.entity.Outline.{Outline}
use Rattle.sk_types.specs.declared.group.Group.{Group}
use Rattle.sk_types.specs.declared.group.GroupKind.{GroupKind}
use Rattle.sk_types.specs.declared.group.GroupKind.TheVariants.{Space, Plane, Extrude, Translate, Linked}
use Rattle.sk_types.specs.declared.request.Request.{Request}
use Rattle.sk_types.specs.Handles.{maker_of}
use Rattle.sk_types.specs.Lookups.{Rise, entity_at, entity_handle, param_handle}
use Rattle.sk_types.specs.Needs.{needs_of, part_takes}
use Rattle.sk_types.specs.Params.{own_params}
use Rattle.sk_types.specs.Parts.{HasParts, stands_for}
use Rattle.sk_types.specs.Sizes.{rows_of, unknowns_of}
use Rattle.sk_entity.specs.Requests.{request_entities}
use Rattle.sk_copy.specs.Order.{by_handle}
use Rattle.sk_model.specs.declared.faults.ModelFault.{ModelFault}
use Rattle.sk_model.specs.declared.faults.ModelFault.TheVariants.{Ahead, BadValue, NoMemory, NoSuch, TooMany}
use Rattle.sk_model.specs.declared.faults.What.TheVariants as what
use Rattle.sk_model.specs.declared.remap.GroupList.{GroupList}
use Rattle.sk_model.specs.Chain.{seen_in}
use Rattle.sk_model.specs.Changes.{list_handle}
use Rattle.sk_model.specs.Checked.{AreChecked, IsCheckedGroup}
use Rattle.sk_model.specs.Settable.{HasSources, IsGroupList}
use Rattle.sk_model.specs.Typed.{Typed, fault_if, group_handle}
use Rattle.sk_model.specs.TypingLaws.Chains.{ok_inj, then_parts}
use Rattle.sk_link.specs.declared.parts.Part.{Part}
use Rattle.sk_chain.specs.declared.made.Made.{Made}
use Rattle.sk_chain.specs.Known.{AllOwn, IsDrawn, IsHome, IsOwn, IsReadPart, place_handle}
use Rattle.sk_chain.specs.Laws.{HasNamed, HasNamedBy, IsFound, IsOutlined, IsOutlineOf, IsSmallGroup, IsThere, LeadsBack, OutlineLaw}
use Rattle.sk_chain.specs.Lookups.{group_at, place_in}
use Rattle.sk_chain.specs.Made.{all_made, drawn_in, earlier_fault, group_by, lines_fault, made_fault, made_from, moved_fault, names_by, names_fault, plane_fault, source_fault, unmade_fault}
use Rattle.sk_chain.specs.Order.{comes_before, group_order, groups_in_order}
use Rattle.sk_chain.specs.Outlines.{Outlined, constraint_fault, constraint_group_fault, entities_fault, first_fault, found_fault, groups_fault, groups_made, is_later, lists_of, need_fault, outline_over, outlined, request_fault, request_group_fault, size_fault, workplane_fault}
use Rattle.sk_chain.proofs.AllDrawn.{all_drawn, is_in, listed_if, made_drawn}
use Rattle.sk_chain.proofs.Apart.{all_found, sorted_distinct}
use Rattle.sk_chain.proofs.EachMade.{AllOwned, IsMadeIn, each_made, few_from, ids_from, own_of, owned_from, sources_of, unless_passed}
use Rattle.sk_chain.proofs.Homes.{entities_rise}
use Rattle.sk_chain.proofs.InOrder.{all_in_order, all_of_order}
use Rattle.sk_chain.proofs.Orders.{in_order_length, order_distinct}
use Rattle.sk_chain.proofs.Owns.{owns_low, owns_low_each, owns_rise}
use Rattle.sk_chain.proofs.Segments.{all_back, all_behind, all_front, all_weaker}
use Rattle.sk_chain.proofs.Standing.{each_found}
use Rattle.sk_chain.proofs.Sublists.{unknown_rise}

or_none : (o p : Option ModelFault) → option_or o p ≡ None → (o ≡ None) × (p ≡ None)
or_none None p e = (refl, e)
or_none (Some f) p e = cc

not_fault : (t : Bool) (f : ModelFault) → fault_if t f ≡ None → t ≡ false
not_fault true f e = cc
not_fault false f e = refl

not_true : (t : Bool) → not t ≡ false → t ≡ true
not_true true e = refl
not_true false e = cc

no_faults : {T : Type 0} (fault : T → Option ModelFault) (xs : List T) → first_fault fault xs ≡ None → AllByRecursion (λ x. fault x ≡ None) xs
no_faults fault [] h = tt
no_faults fault (x ∷ xs) h = let both = or_none (fault x) (first_fault fault xs) h in (both.0, no_faults fault xs both.1)

-- ---- what is needed is there

module _ {s : ℕ} (order : List GroupId) (es : List (Entity s)) (id : ℕ) (g : GroupId) where
  found_there : (target : EntityId) (part : PartKind) (o : Option (Entity s)) → found_fault order id g target part o ≡ None → stands_for o part ≡ true
  found_there target part None e = cc e
  found_there target part (Some x) e = elim (cases_Bool (is_later (place_in x.group.0 order) (place_in g.0 order))) [
    | inl t ↦ (let no : Some (Ahead id target.0) ≡ None = rw t at e in cc no)
    | inr f ↦ not_true (part_takes part x.kind) (not_fault (not (part_takes part x.kind)) (BadValue id) (rw f at e))
  ]

  need_there : (n : Need) → need_fault order es id g n ≡ None → IsThere es n.entity n.part
  need_there n e = elim (cases_Bool (n.entity.0 == 0)) [
    | inl t ↦ (let no : Some (BadValue id) ≡ None = rw t at e in cc no)
    | inr f ↦ found_there n.entity n.part (entity_at n.entity.0 es) (rw f at e)
  ]

has_parts : {s : ℕ} (order : List GroupId) (es : List (Entity s)) (c : Constraint s) → constraint_fault order es c ≡ None → HasParts es c
has_parts order es c e =
    let needs = needs_of c.kind c.points c.entities in
    let fault = need_fault order es c.id.0 c.group in
    let none = (or_none (workplane_fault order es c.id.0 c.group c.workplane) (first_fault fault needs) e).1 in
    All-from_recursion (λ (n : Need). IsThere es n.entity n.part) needs (all_weaker (λ (n : Need). fault n ≡ None) (λ (n : Need). IsThere es n.entity n.part) needs (need_there order es c.id.0 c.group) (no_faults fault needs none))

-- ---- the whole

handles_of_groups : {s : ℕ} (made : List (Made s)) → map (λ (m : Made s). m.group.0) made ≡ map place_handle (map (λ (m : Made s). m.group) made)
handles_of_groups [] = refl
handles_of_groups (m ∷ ms) = ap (λ ks. m.group.0 ∷ ks) (handles_of_groups ms)

handles_of_lists : {s : ℕ} (made : List (Made s)) → map list_handle (lists_of made) ≡ map (λ (m : Made s). m.group.0) made
handles_of_lists [] = refl
handles_of_lists (m ∷ ms) = ap (λ ks. m.group.0 ∷ ks) (handles_of_lists ms)

seen_found : {s : ℕ} (n : ℕ) (gs : List (Group s)) (g : Group s) → group_at n gs ≡ Some g → seen_in n (map group_handle gs) ≡ true
seen_found n [] g h = cc h
seen_found n (x ∷ xs) g h = elim (cases_Bool (nat_eq n x.id.0)) [
  | inl t ↦ rw t refl
  | inr f ↦ rw f (seen_found n xs g (rw f at h))
]

module _ {s : ℕ} (m : Typed s) (parts : List (Part s)) (checked : AreChecked m) (made : List (Made s)) (done : groups_made parts m ≡ Ok made) (own : AllOwn m.requests m.groups made) where
  from_nothing : made_from m.requests m.groups parts [] (groups_in_order m.groups) ≡ Ok made
  unfolding groups_made
  from_nothing = done

  ids : map (λ (x : Made s). x.group) made ≡ group_order m.groups
  ids = ids_from m.requests m.groups parts [] (groups_in_order m.groups) made from_nothing

  pub made_differ : IsDistinct nat_eq (map (λ (x : Made s). x.group.0) made)
  made_differ = subst (IsDistinct nat_eq) (sym (handles_of_groups made ∙ ap (map place_handle) ids)) (order_distinct m.groups checked.groups_differ)

  abbrev entities : List (Entity s)
  entities = by_handle (all_made made)

  pub made_rise : Rise entities
  made_rise = entities_rise m.requests m.groups made own made_differ

  pub lists_differ : IsDistinct nat_eq (map list_handle (lists_of made))
  lists_differ = subst (IsDistinct nat_eq) (sym (handles_of_lists made)) made_differ

  list_fits : (x : Made s) → IsOwn m.requests m.groups x → IsGroupList m.groups (record { group = x.group; entries = x.list })
  list_fits x o = record { group = seen_found x.group.0 m.groups o.group.0 o.group.1; list = o.list }

  pub lists_fit : All (IsGroupList m.groups) (lists_of made)
  lists_fit = All-map (IsGroupList m.groups) (λ (x : Made s). record { group = x.group; entries = x.list }) made (All-weaker (IsOwn m.requests m.groups) (λ x. IsGroupList m.groups (record { group = x.group; entries = x.list })) list_fits made own)

  few_entities : length entities ≤ 200000
  few_entities =
      let few = few_from m.requests m.groups parts [] (groups_in_order m.groups) made (omega arith) from_nothing in
      let same = in_order_length (λ (d : Entity s) (e : Entity s). nat_lt d.id.0 e.id.0) (all_made made) in
      omega (arith, few, same)

  led_back : (g : GroupId) (e : Entity s) → IsHome m.requests m.groups g e → LeadsBack m e
  led_back g e h = subst (λ (x : GroupId). IsHome m.requests m.groups x e) (sym h.group) h

  all_home : (ms : List (Made s)) → AllByRecursion (IsOwn m.requests m.groups) ms → AllByRecursion (LeadsBack m) (all_made ms)
  all_home [] h = tt
  all_home (x ∷ ms) h =
      all_behind (LeadsBack m) x.entities (all_made ms) (recursion_from_All (LeadsBack m) x.entities (All-weaker (IsHome m.requests m.groups x.group) (LeadsBack m) (led_back x.group) x.entities h.0.homes)) (all_home ms h.1)

  homes : AllByRecursion (LeadsBack m) entities
  homes = all_in_order (LeadsBack m) (λ (d : Entity s) (e : Entity s). nat_lt d.id.0 e.id.0) (all_made made) (all_home made (recursion_from_All (IsOwn m.requests m.groups) made own))

  owning : (es : List (Entity s)) → AllByRecursion (LeadsBack m) es → AllByRecursion (λ e. (own_params e ≡ []) ⊎ IsDrawn m.requests e) es
  owning [] h = tt
  owning (e ∷ es) h = (h.0.own, owning es h.1)

  low : AllByRecursion (λ k. (65536 ≤ k) × (k < 2 ^ 31)) (map param_handle (flat_map own_params entities))
  low = owns_low m.requests checked.requests entities (owning entities homes)

  from_handles : (P : ℕ → Type 0) (ps : List ParamId) → AllByRecursion P (map param_handle ps) → AllByRecursion (λ (p : ParamId). P p.0) ps
  from_handles P [] h = tt
  from_handles P (p ∷ ps) h = (h.0, from_handles P ps h.1)

  fits_each : (es : List (Entity s)) → AllByRecursion (λ e. AllByRecursion (λ k. (65536 ≤ k) × (k < 2 ^ 31)) (map param_handle (own_params e))) es → AllByRecursion (λ e. All (λ (p : ParamId). p.0 < 2 ^ 32) (own_params e)) es
  fits_each [] h = tt
  fits_each (e ∷ es) h =
      (All-weaker (λ (p : ParamId). (65536 ≤ p.0) × (p.0 < 2 ^ 31)) (λ (p : ParamId). p.0 < 2 ^ 32) (λ p b. let l = b.1 in omega (arith, l)) (own_params e) (All-from_recursion (λ (p : ParamId). (65536 ≤ p.0) × (p.0 < 2 ^ 31)) (own_params e) (from_handles (λ k. (65536 ≤ k) × (k < 2 ^ 31)) (own_params e) h.0)), fits_each es h.1)

  -- ---- what groups name

  abbrev IsAt : Entity s → Type 0
  IsAt e = entity_at e.id.0 entities ≡ Some e

  each_at : AllByRecursion IsAt (all_made made)
  each_at = all_of_order IsAt (λ (d : Entity s) (e : Entity s). nat_lt d.id.0 e.id.0) (all_made made) (all_found entity_handle entities (sorted_distinct (map entity_handle entities) made_rise))

  found_at : (n : ℕ) (es : List (Entity s)) (e : Entity s) → AllByRecursion IsAt es → entity_at n es ≡ Some e → entity_at n entities ≡ Some e
  found_at n [] e h p = cc p
  found_at n (x ∷ xs) e h p = elim (cases_Bool (n == x.id.0)) [
    | inl t ↦ (let some : Some x ≡ Some e = rw t at p in ap (λ i. entity_at i entities) (eqb-true n x.id.0 t) ∙ h.0 ∙ some)
    | inr f ↦ found_at n xs e h.1 (rw f at p)
  ]

  module _ (before : List (Made s)) (at : AllByRecursion IsAt (all_made before)) (g : Group s) where
    there_from : (n : ℕ) (part : PartKind) (unmade : ModelFault) (o : Option (Entity s)) → entity_at n (all_made before) ≡ o → made_fault unmade g.id part o ≡ None → stands_for (entity_at n entities) part ≡ true
    there_from n part unmade None p h = cc h
    there_from n part unmade (Some e) p h =
        ap (λ (o : Option (Entity s)). stands_for o part) (found_at n (all_made before) e at p) ∙ not_true (part_takes part e.kind) (not_fault (not (part_takes part e.kind)) (BadValue g.id.0) h)

    there : (target : EntityId) (part : PartKind) → earlier_fault m.requests m.groups before g target part ≡ None → IsThere entities target part
    there target part h = there_from target.0 part (unmade_fault before g.id target (group_by m.requests m.groups (maker_of target.0))) (entity_at target.0 (all_made before)) refl h

    lines_there : lines_fault m.requests m.groups before g ≡ None → IsThere entities g.entity_b Line × IsThere entities g.entity_c Line
    lines_there h =
        let both = or_none (earlier_fault m.requests m.groups before g g.entity_b Line) (earlier_fault m.requests m.groups before g g.entity_c Line) h in
        (there g.entity_b Line both.0, there g.entity_c Line both.1)

    plane_there : plane_fault m.requests m.groups before g ≡ None → HasNamedBy Plane entities g
    plane_there h =
        let both = or_none (earlier_fault m.requests m.groups before g g.origin Point) (if g.by_lines then lines_fault m.requests m.groups before g else None) h in
        (there g.origin Point both.0, λ t. lines_there (rw t at both.1))

    moved_there : moved_fault m.requests m.groups before g ≡ None → g.entity_b.0 ≢ 0 → IsThere entities g.entity_b Workplane
    moved_there h some =
        let both = or_none (source_fault m.groups before g) (if g.entity_b.0 == 0 then None else earlier_fault m.requests m.groups before g g.entity_b Workplane) h in
        let no : (g.entity_b.0 == 0) ≡ false = ne_eqb g.entity_b.0 0 some in
        there g.entity_b Workplane (rw no at both.1)

    named_by : (k : GroupKind) → names_by k m.requests m.groups before g ≡ None → HasNamedBy k entities g
    named_by Space h = tt
    named_by Plane h = plane_there h
    named_by Extrude h = moved_there h
    named_by Translate h = moved_there h
    named_by Linked h = tt

    has_named : names_fault m.requests m.groups before g ≡ None → HasNamed entities g
    unfolding names_fault
    has_named h = named_by g.kind h

  abbrev IsMadeHere : Group s → Type 0
  IsMadeHere g = IsMadeIn m.requests m.groups parts made g

  parted : (g : Group s) (h : IsMadeHere g) → all_made made ≡ all_made h.before ++ (h.one.entities ++ all_made h.later)
  parted g h = ap all_made h.whole ∙ flat_map-append (λ (x : Made s). x.entities) h.before (h.one ∷ h.later)

  named_in : (g : Group s) → IsMadeHere g → HasNamed entities g
  named_in g h = has_named h.before (all_front IsAt (all_made h.before) (h.one.entities ++ all_made h.later) (subst (AllByRecursion IsAt) (parted g h) each_at)) g h.names

  each : AllByRecursion IsMadeHere (groups_in_order m.groups)
  each = each_made m.requests m.groups parts [] (groups_in_order m.groups) made from_nothing

  named : All (HasNamed entities) m.groups
  named = All-from_recursion (HasNamed entities) m.groups (all_of_order (HasNamed entities) comes_before m.groups (all_weaker IsMadeHere (HasNamed entities) (groups_in_order m.groups) named_in each))

  -- ---- what requests draw

  abbrev Among : Entity s → Type 0
  Among e = Contains entities e

  all_among : AllByRecursion Among (all_made made)
  all_among = all_of_order Among (λ (d : Entity s) (e : Entity s). nat_lt d.id.0 e.id.0) (all_made made) (recursion_from_All Among entities (All-contains_itself entities))

  drawn_by : (g : Group s) → IsMadeHere g → AllByRecursion Among (drawn_in s g.id.0 m.requests)
  drawn_by g h =
      let rest = all_back Among (all_made h.before) (h.one.entities ++ all_made h.later) (subst (AllByRecursion Among) (parted g h) all_among) in
      made_drawn Among m.requests parts h.before g h.one h.makes (all_front Among h.one.entities (all_made h.later) rest)

  placed : groups_fault m (group_order m.groups) ≡ None → All (λ (r : Request). is_in (group_order m.groups) r.group.0 ≡ true) m.requests
  unfolding groups_fault
  placed e =
      let order = group_order m.groups in
      let none = no_faults (request_group_fault order) m.requests (or_none (first_fault (request_group_fault order) m.requests) (first_fault (constraint_group_fault order) m.constraints) e).0 in
      All-from_recursion (λ (r : Request). is_in order r.group.0 ≡ true) m.requests (all_weaker (λ (r : Request). request_group_fault order r ≡ None) (λ (r : Request). is_in order r.group.0 ≡ true) m.requests
      (λ r h. listed_if r.group.0 order (not_fault (is_none (place_in r.group.0 order)) (NoSuch r.id.0 r.group.0) h)) none)

  drawn : groups_fault m (group_order m.groups) ≡ None → All (λ (r : Request). All Among (request_entities s r)) m.requests
  drawn e = all_drawn Among m.requests (groups_in_order m.groups) (all_weaker IsMadeHere (λ (g : Group s). AllByRecursion Among (drawn_in s g.id.0 m.requests)) (groups_in_order m.groups) drawn_by each) (placed e)

  -- ---- the order

  found : All (IsFound m.groups) (group_order m.groups)
  found =
      let ids = All-weaker (λ (g : Group s). group_at g.id.0 m.groups ≡ Some g) (λ (g : Group s). IsFound m.groups g.id) (λ g e. record { group = g; found = e; same = refl }) (groups_in_order m.groups) (each_found m.groups checked.groups_differ) in
      All-map (IsFound m.groups) (λ (g : Group s). g.id) (groups_in_order m.groups) ids

  -- ---- sizes

  small : (g : Group s) → IsCheckedGroup g → size_fault m.constraints entities g ≡ None → IsSmallGroup m entities g
  small g known h =
      let both = or_none (fault_if (nat_lt 400 (unknowns_of m.constraints entities g)) (TooMany what.Unknowns)) (fault_if (nat_lt 400 (rows_of m.constraints entities g)) (TooMany what.Rows)) h in
      record {
        unknowns = ltb-false 400 (unknowns_of m.constraints entities g) (not_fault (nat_lt 400 (unknowns_of m.constraints entities g)) (TooMany what.Unknowns) both.0);
        rows = ltb-false 400 (rows_of m.constraints entities g) (not_fault (nat_lt 400 (rows_of m.constraints entities g)) (TooMany what.Rows) both.1);
        params_rise = unknown_rise m.constraints entities g known.most (owns_rise m.requests checked.requests entities (owning entities homes) made_rise) low;
      }

  pub holds : (o : Outline s) → o.order ≡ group_order m.groups → o.entities ≡ entities → groups_fault m (group_order m.groups) ≡ None → entities_fault m (group_order m.groups) entities ≡ None → IsOutlineOf m o
  unfolding entities_fault
  holds o p q none e =
      let first = or_none (first_fault (request_fault (group_order m.groups) entities) m.requests) _ e in
      let parted = or_none (first_fault (constraint_fault (group_order m.groups) entities) m.constraints) _ first.1 in
      let sized = All-from_recursion (λ (g : Group s). size_fault m.constraints entities g ≡ None) m.groups (all_of_order (λ (g : Group s). size_fault m.constraints entities g ≡ None) comes_before m.groups (no_faults (size_fault m.constraints entities) (groups_in_order m.groups) parted.1)) in
      let needed = All-from_recursion (HasParts entities) m.constraints (all_weaker (λ (c : Constraint s). constraint_fault (group_order m.groups) entities c ≡ None) (HasParts entities) m.constraints (has_parts (group_order m.groups) entities) (no_faults (constraint_fault (group_order m.groups) entities) m.constraints parted.0)) in
      let known = checked.groups in
      let whole : IsOutlineOf m (record { order = group_order m.groups; entities = entities }) = record {
        order = refl;
        groups_differ = order_distinct m.groups checked.groups_differ;
        few_groups = (let few = checked.few in let long = length-map (groups_in_order m.groups) (λ (g : Group s). g.id) in let same = in_order_length comes_before m.groups in omega (arith, few, long, same));
        found = found;
        rise = made_rise;
        few = few_entities;
        homes = All-from_recursion (LeadsBack m) entities homes;
        drawn = drawn none;
        own_rise = owns_rise m.requests checked.requests entities (owning entities homes) made_rise;
        own_within = All-from_recursion (λ (x : ParamId). (65536 ≤ x.0) × (x.0 < 2 ^ 31)) (flat_map own_params entities) (from_handles (λ k. (65536 ≤ k) × (k < 2 ^ 31)) (flat_map own_params entities) low);
        own_fit = All-from_recursion (λ (x : Entity s). All (λ (y : ParamId). y.0 < 2 ^ 32) (own_params x)) entities (fits_each entities (owns_low_each m.requests checked.requests entities (owning entities homes)));
        named = named;
        parts = needed;
        groups_small = λ k d l. small (get_or m.groups k d) (known k d l) (sized k d l);
      } in
      let is : record { order = group_order m.groups; entities = entities } ≡ o = outline_is o (sym p) (sym q) in
      subst (IsOutlineOf m) is whole
    where
      outline_is : (o : Outline s) → group_order m.groups ≡ o.order → entities ≡ o.entities → ◌≡◌ {A = Outline s} (record { order = group_order m.groups; entities = entities }) o
      outline_is o p q = ap (λ (ids : List GroupId). let x : Outline s = record { order = ids; entities = entities } in x) p ∙ ap (λ (es : List (Entity s)). let x : Outline s = record { order = o.order; entities = es } in x) q

  over_parts : (o : Outlined s) → outline_over m made ≡ Ok o → (entities_fault m (group_order m.groups) entities ≡ None) × (o.outline.order ≡ group_order m.groups) × (o.outline.entities ≡ entities) × (o.lists ≡ lists_of made)
  over_parts o e =
      let a = unless_passed (entities_fault m (group_order m.groups) entities) _ o e in
      let is : o ≡ record { outline = record { order = group_order m.groups; entities = entities }; lists = lists_of made } = sym (ok_inj a.1) in
      (a.0, ap (λ (p : Outlined s). p.outline.order) is, ap (λ (p : Outlined s). p.outline.entities) is, ap (λ (p : Outlined s). p.lists) is)

  pub over_holds : groups_fault m (group_order m.groups) ≡ None → (o : Outlined s) → outline_over m made ≡ Ok o → IsOutlineOf m o.outline
  over_holds none o e = let p = over_parts o e in holds o.outline p.1 p.2 none p.0

  pub over_fits : (o : Outlined s) → outline_over m made ≡ Ok o → All (IsGroupList m.groups) o.lists
  over_fits o e = let p = over_parts o e in subst (All (IsGroupList m.groups)) (sym p.3) lists_fit

  pub over_sources : All (λ x. HasSources x.list) made → (o : Outlined s) → outline_over m made ≡ Ok o → All (λ (x : GroupList). HasSources x.entries) o.lists
  over_sources h o e =
      let p = over_parts o e in
      subst (All (λ (x : GroupList). HasSources x.entries)) (sym p.3) (All-map (λ (x : GroupList). HasSources x.entries) (λ (x : Made s). record { group = x.group; entries = x.list }) made h)

  pub over_differs : (o : Outlined s) → outline_over m made ≡ Ok o → IsDistinct nat_eq (map list_handle o.lists)
  over_differs o e = let p = over_parts o e in subst (λ (xs : List GroupList). IsDistinct nat_eq (map list_handle xs)) (sym p.3) lists_differ

-- ---- the law

all_owned : {s : ℕ} (parts : List (Part s)) (m : Typed s) → AreChecked m → All IsReadPart parts → (made : List (Made s)) → groups_made parts m ≡ Ok made → AllOwned m.requests m.groups made
unfolding groups_made
all_owned {s} parts m checked read made done =
    owned_from m.requests m.groups checked.requests checked.requests_differ parts read [] (groups_in_order m.groups) made tt
    (recursion_from_All (λ (g : Group s). group_at g.id.0 m.groups ≡ Some g) (groups_in_order m.groups) (each_found m.groups checked.groups_differ))
    (all_in_order IsCheckedGroup comes_before m.groups (recursion_from_All IsCheckedGroup m.groups checked.groups)) done

pub outline_law : OutlineLaw
unfolding outlined
outline_law s parts m o checked read e =
    let a = unless_passed (groups_fault m (group_order m.groups)) _ o e in
    then_parts {P = IsOutlined m o} (groups_made parts m) (outline_over m) o a.1 (λ made done over.
    (let owned = all_owned parts m checked read made done in
    let own = own_of m.requests m.groups made owned in
    let sources = sources_of m.requests m.groups made owned in
    record {
      outline = over_holds m parts checked made done own a.0 o over;
      lists = over_fits m parts checked made done own o over;
      sources = over_sources m parts checked made done own sources o over;
      differ = over_differs m parts checked made done own o over;
    }))

-- ---- the first fault

module _ {s : ℕ} (m : Typed s) (parts : List (Part s)) (order : List GroupId) (o : order ≡ group_order m.groups) where
  pub fault_first : (f : ModelFault) → groups_fault m order ≡ Some f → outlined parts m ≡ Err f
  unfolding outlined
  fault_first f e = let first : groups_fault m (group_order m.groups) ≡ Some f = ap (groups_fault m) (sym o) ∙ e in rw first refl

  module _ (none : groups_fault m order ≡ None) where
    pub first_none : groups_fault m (group_order m.groups) ≡ None
    first_none = ap (groups_fault m) (sym o) ∙ none

    pub fault_made : (f : ModelFault) → (f ≡ NoMemory) ⊎ (groups_made parts m ≡ Err f) → (f ≡ NoMemory) ⊎ (outlined parts m ≡ Err f)
    unfolding outlined
    fault_made f (inl n) = inl n
    fault_made f (inr e) = inr (rw (first_none, e) refl)

    pub fault_over : (made : List (Made s)) (f : ModelFault) → groups_made parts m ≡ Ok made → (f ≡ NoMemory) ⊎ (outline_over m made ≡ Err f) → (f ≡ NoMemory) ⊎ (outlined parts m ≡ Err f)
    unfolding outlined
    fault_over made f done (inl n) = inl n
    fault_over made f done (inr e) = inr (rw (first_none, done) e)

    pub all_passed : (made : List (Made s)) (x : Outlined s) → groups_made parts m ≡ Ok made → outline_over m made ≡ Ok x → outlined parts m ≡ Ok x
    unfolding outlined
    all_passed made x done e = rw (first_none, done) e
