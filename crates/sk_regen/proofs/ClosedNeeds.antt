-- What is needed outside a list that is closed under dependence is outside it.
use Rattle.std.proofs.Common.{◌≡◌, ◌≢◌, inl, inr, ℕ, List, [], ◌∷◌, Bool, true, false, Option, Some, None, Ok, refl, sym, ap, ◌∙◌, subst, arith}
use Rattle.std.specs.Prelude.{◌==◌, ◌&&◌, ◌||◌, not, is_none, if◌then◌else◌}
use Rattle.std.specs.List.{All, AllByRecursion, list_any}
use Rattle.std.proofs.lemmas.Bool.{cases_Bool, eq-eqb, eqb-true}
use Rattle.std.proofs.lemmas.List.Elements.{All-from_recursion, recursion_from_All}
use Rattle.sk_types.specs.declared.handle.EntityId.{EntityId}
use Rattle.sk_types.specs.declared.handle.GroupId.{GroupId}
use Rattle.sk_types.specs.declared.handle.Maker.{Maker}
use Rattle.sk_types.specs.declared.constraint.Constraint.{Constraint}
use Rattle.sk_types.specs.declared.constraint.Need.{Need}
use Rattle.sk_types.specs.declared.constraint.PartKind.{PartKind}
use Rattle.sk_types.specs.declared.constraint.PartKind.TheVariants.{Line, Workplane}
use Rattle.sk_types.specs.declared.entity.Entity.{Entity}
use Rattle.sk_types.specs.declared.group.Group.{Group}
use Rattle.sk_types.specs.declared.group.GroupKind.{GroupKind}
use Rattle.sk_types.specs.declared.group.GroupKind.TheVariants.{Space, Plane, Extrude, Translate, Linked}
use Rattle.sk_types.specs.Handles.{maker_of}
use Rattle.sk_types.specs.Lookups.{entity_at}
use Rattle.sk_types.specs.Needs.{needs_of, part_takes}
use Rattle.sk_types.specs.Parts.{HasParts, stands_for}
use Rattle.sk_copy.specs.Order.{by_handle}
use Rattle.sk_model.specs.declared.faults.ModelFault.{ModelFault}
use Rattle.sk_model.specs.declared.faults.ModelFault.TheVariants.{Ahead, BadValue, NoSuch}
use Rattle.sk_model.specs.Checked.{AreChecked, IsCheckedGroup, IsCheckedRequest}
use Rattle.sk_model.specs.Typed.{Typed}
use Rattle.sk_model.specs.TypingLaws.Chains.{ok_inj, then_parts}
use Rattle.sk_link.specs.declared.parts.Part.{Part}
use Rattle.sk_chain.specs.Dependence.{constraint_leans, depends, group_leans, is_needed, is_at, request_leans}
use Rattle.sk_chain.specs.Laws.{HasNamed, HasNamedBy, IsFound, IsThere}
use Rattle.sk_chain.specs.Lookups.{place_in}
use Rattle.sk_chain.specs.Made.{all_made}
use Rattle.sk_chain.specs.Order.{comes_before, group_order, groups_in_order, ids_of}
use Rattle.sk_chain.specs.Outlines.{Outlined, constraint_fault, constraint_group_fault, entities_fault, first_fault, found_fault, groups_fault, is_later, groups_made, need_fault, outline_over, outlined, request_fault, request_group_fault, workplane_fault}
use Rattle.sk_chain.proofs.AllDrawn.{listed_if}
use Rattle.sk_chain.proofs.EachMade.{unless_passed}
use Rattle.sk_chain.proofs.InOrder.{all_of_order}
use Rattle.sk_chain.proofs.Segments.{all_behind, all_weaker}
use Rattle.sk_chain.proofs.Standing.{found_holds}
use Rattle.sk_system.specs.LookupLaws.{IsRead, NamesRead, Reads}
use Rattle.sk_system.specs.OutlineLaws.{NeededRead}
use Rattle.sk_regen.specs.Likeness.{IsDirtyList, IsWhole, ReadsOutside, group_reads, kept, nobody, owner_by, plane_of}
use Rattle.sk_regen.specs.Regeneration.{is_listed}
use Rattle.sk_regen.proofs.AlikeGroups.{fails, none_at}
use Rattle.sk_regen.proofs.Outside.{EntityOwned, OwnsAll, entities_owned, owned_now, same_group}
use Rattle.sk_regen.proofs.SoundFull.{self_listed}
use Rattle.sk_regen.proofs.TypedGroups.{FirstInSpace, LinesInPlane, NotInFirst, TypedGroups, no_fault, or_none}

-- ---- what an outline was asked

pub no_faults : {T : Type 0} (fault : T → Option ModelFault) (xs : List T) → first_fault fault xs ≡ None → AllByRecursion (λ x. fault x ≡ None) xs
no_faults fault [] h = tt
no_faults fault (x ∷ xs) h = let both = or_none (fault x) (first_fault fault xs) h in (both.0, no_faults fault xs both.1)

-- no workplane, or one that is there
abbrev HasPlane : {s : ℕ} → List (Entity s) → Constraint s → Type 0
HasPlane es c = (c.workplane.0 == 0) ≡ false → stands_for (entity_at c.workplane.0 es) Workplane ≡ true

not_false : (t : Bool) → not t ≡ false → t ≡ true
not_false true e = refl
not_false false e = cc e

found_there : {s : ℕ} (order : List GroupId) (id : ℕ) (g : GroupId) (target : EntityId) (part : PartKind) (o : Option (Entity s)) → found_fault order id g target part o ≡ None → stands_for o part ≡ true
found_there order id g target part None e = cc e
found_there order id g target part (Some x) e = elim (cases_Bool (is_later (place_in x.group.0 order) (place_in g.0 order))) [
  | inl t ↦ (let no : Some (Ahead id target.0) ≡ None = rw t at e in cc no)
  | inr f ↦ not_false (part_takes part x.kind) (no_fault (not (part_takes part x.kind)) (BadValue id) (rw f at e))
]

module _ {s : ℕ} (parts : List (Part s)) (m : Typed s) (p : Outlined s) (out : outlined parts m ≡ Ok p) where
  abbrev pub order : List GroupId
  order = group_order m.groups

  abbrev pub Passed : Type 0
  Passed = (groups_fault m order ≡ None) × (entities_fault m order p.outline.entities ≡ None)

  pub passed : Passed
  unfolding outlined
  passed =
      let a = unless_passed (groups_fault m order) _ p out in
      then_parts {P = Passed} (groups_made parts m) (outline_over m) p a.1 (λ made done over.
      (let b = unless_passed (entities_fault m order (by_handle (all_made made))) _ p over in
      let is : record { outline = record { order = order; entities = by_handle (all_made made) }; lists = _ } ≡ p = ok_inj b.1 in
      (a.0, ap (λ (q : Outlined s). entities_fault m order q.outline.entities) (sym is) ∙ b.0)))

  pub constraints_placed : AllByRecursion (λ (c : Constraint s). is_listed order c.group ≡ true) m.constraints
  unfolding groups_fault
  constraints_placed =
      all_weaker (λ (c : Constraint s). constraint_group_fault order c ≡ None) (λ (c : Constraint s). is_listed order c.group ≡ true) m.constraints
      (λ c e. listed_if c.group.0 order (no_fault (is_none (place_in c.group.0 order)) (NoSuch c.id.0 c.group.0) e))
      (no_faults (constraint_group_fault order) m.constraints (or_none (first_fault (request_group_fault order) m.requests) (first_fault (constraint_group_fault order) m.constraints) passed.0).1)

  pub planes : AllByRecursion (HasPlane p.outline.entities) m.constraints
  unfolding entities_fault
  planes =
      all_weaker (λ (c : Constraint s). constraint_fault order p.outline.entities c ≡ None) (HasPlane p.outline.entities) m.constraints from
      (no_faults (constraint_fault order p.outline.entities) m.constraints
      (or_none (first_fault (constraint_fault order p.outline.entities) m.constraints) _ (or_none (first_fault (request_fault order p.outline.entities) m.requests) _ passed.1).1).0)
    where
      from : (c : Constraint s) → constraint_fault order p.outline.entities c ≡ None → HasPlane p.outline.entities c
      from c e some =
          let none = (or_none (workplane_fault order p.outline.entities c.id.0 c.group c.workplane) (first_fault (need_fault order p.outline.entities c.id.0 c.group) (needs_of c.kind c.points c.entities)) e).0 in
          let there : found_fault order c.id.0 c.group c.workplane Workplane (entity_at c.workplane.0 p.outline.entities) ≡ None = rw some at none in
          found_there order c.id.0 c.group c.workplane Workplane (entity_at c.workplane.0 p.outline.entities) there

-- ---- what is found

pub found_entity : {s : ℕ} (P : Entity s → Type 0) (n : ℕ) (es : List (Entity s)) (e : Entity s) → AllByRecursion P es → entity_at n es ≡ Some e → P e × (n ≡ e.id.0)
found_entity P n [] e a h = cc h
found_entity {s} P n (x ∷ xs) e a h = elim (cases_Bool (n == x.id.0)) [
  | inl t ↦ (let some : Some x ≡ Some e = rw t at h in let is : x ≡ e = cc some in (subst P is a.0, eqb-true n x.id.0 t ∙ ap (λ (y : Entity s). y.id.0) is))
  | inr f ↦ found_entity P n xs e a.1 (rw f at h)
]

pub and_both : (a b : Bool) → a ≡ true → b ≡ true → (a && b) ≡ true
and_both true b e h = h
and_both false b e h = cc e

pub or_left : (a b : Bool) → a ≡ true → (a || b) ≡ true
or_left true b e = refl
or_left false b e = cc e

pub or_second : (a b : Bool) → b ≡ true → (a || b) ≡ true
or_second true b e = refl
or_second false b e = e

pub self_is : (n : ℕ) → (n == n) ≡ true
self_is n = eq-eqb n n refl

module _ {s : ℕ} (l : Typed s) (m : Typed s) (p : Outlined s) (whole : IsWhole m p.outline) (checked : AreChecked l) (facts : TypedGroups m) (dirty : List GroupId) (is : IsDirtyList m p.outline dirty) where
  abbrev es : List (Entity s)
  es = p.outline.entities

  abbrev r : Reads
  r = kept dirty l.requests m.requests

  abbrev own : Maker → GroupId
  own = owner_by l.requests m.requests

  abbrev owned : OwnsAll own m.requests m.groups
  owned = owned_now l.requests m.requests m.groups

  some : is_listed dirty nobody ≡ false
  some = elim (cases_Bool (is_listed dirty nobody)) [
    | inl t ↦ no_zero p.outline.order (recursion_from_All (IsFound m.groups) p.outline.order whole.outline.found) (is.among nobody t)
    | inr f ↦ f
  ]
    where
      no_zero : (gs : List GroupId) → AllByRecursion (IsFound m.groups) gs → is_listed gs nobody ≡ true → is_listed dirty nobody ≡ false
      no_zero [] a e = cc e
      no_zero (g ∷ gs) a e = elim (cases_Bool (0 == g.0)) [
        | inl t ↦
            let zero : 0 ≡ g.0 = eqb-true 0 g.0 t in
            let least = (found_holds IsCheckedGroup g.0 m.groups a.0.group whole.checked.groups a.0.found).least in
            let same = ap (λ (i : GroupId). i.0) a.0.same in
            absurd (omega (arith, zero, least, same))
        | inr f ↦ no_zero gs a.1 (rw f at e)
      ]

  pub zero_read : r.entities 0 ≡ true
  zero_read =
      let a = none_at m.requests (recursion_from_All IsCheckedRequest m.requests whole.checked.requests) in
      let b = none_at l.requests (recursion_from_All IsCheckedRequest l.requests checked.requests) in
      rw (a, b) (fails (is_listed dirty nobody) some)

  pub read_none : (n : EntityId) → n.0 ≡ 0 → IsRead r n
  read_none n e = subst (λ (h : ℕ). r.entities h ≡ true) (sym e) zero_read

  -- what a group outside the list leans on is outside
  module _ (g : GroupId) (out : is_listed dirty g ≡ false) (placed : is_listed p.outline.order g ≡ true) (later : (g.0 == 1) ≡ false) where
    pub outside_of : (h : GroupId) → ((g.0 == h.0) ≡ false → depends m es g h ≡ true) → is_listed dirty h ≡ false
    outside_of h leans = elim (cases_Bool (is_listed dirty h)) [
      | inr f ↦ f
      | inl t ↦ elim (cases_Bool (g.0 == h.0)) [
        | inl same ↦ (let no : true ≡ false = sym t ∙ ap (is_listed dirty) (sym (same_group g h (eqb-true g.0 h.0 same))) ∙ out in cc no)
        | inr apart ↦ (let no : true ≡ false = sym (is.closed g h placed (leans apart) t) ∙ out in cc no)
      ]
    ]

    pub there_read : (n : EntityId) (e : Entity s) → entity_at n.0 es ≡ Some e → ((g.0 == e.group.0) ≡ false → depends m es g e.group ≡ true) → IsRead r n
    there_read n e at leans =
        let here = found_entity (EntityOwned own m p.outline whole owned) n.0 es e (entities_owned own m p.outline whole owned) at in
        let whose : own (maker_of n.0) ≡ e.group = ap (λ (h : ℕ). own (maker_of h)) here.1 ∙ here.0 in
        fails (is_listed dirty (own (maker_of n.0))) (ap (is_listed dirty) whose ∙ outside_of e.group leans)

    pub part_read : (n : EntityId) (part : PartKind) (o : Option (Entity s)) → entity_at n.0 es ≡ o → stands_for o part ≡ true → ((e : Entity s) → entity_at n.0 es ≡ Some e → (g.0 == e.group.0) ≡ false → depends m es g e.group ≡ true) → IsRead r n
    part_read n part None at e leans = cc e
    part_read n part (Some x) at e leans = there_read n x at (leans x at)

    pub may : (h : GroupId) → (g.0 == h.0) ≡ false → (not (g.0 == h.0) && not (g.0 == 1)) ≡ true
    may h apart = rw (apart, later) refl

    pub at_self : (n : EntityId) (e : Entity s) → entity_at n.0 es ≡ Some e → is_at es e.group n ≡ true
    at_self n e at = rw at (self_is e.group.0)

  -- ---- constraints

  module _ (c : Constraint s) (out : is_listed dirty c.group ≡ false) (placed : is_listed p.outline.order c.group ≡ true) (later : (c.group.0 == 1) ≡ false)
      (any : (h : GroupId) → constraint_leans es c.group h c ≡ true → list_any (constraint_leans es c.group h) m.constraints ≡ true) where
    leans_by : (h : GroupId) → (is_at es h c.workplane || list_any (is_needed es h) (needs_of c.kind c.points c.entities)) ≡ true → (c.group.0 == h.0) ≡ false → depends m es c.group h ≡ true
    unfolding depends
    leans_by h e apart =
        and_both (not (c.group.0 == h.0) && not (c.group.0 == 1)) _ (may c.group out placed later h apart)
        (or_second (list_any (group_leans es c.group h) m.groups) _
        (or_second (list_any (request_leans es c.group h) m.requests) _
        (any h (and_both (c.group.0 == c.group.0) _ (self_is c.group.0) e))))

    needs_read : (ns : List Need) → AllByRecursion (λ (n : Need). stands_for (entity_at n.entity.0 es) n.part ≡ true) ns
        → AllByRecursion (λ (n : Need). (h : GroupId) → is_needed es h n ≡ true → list_any (is_needed es h) (needs_of c.kind c.points c.entities) ≡ true) ns → AllByRecursion (λ (n : Need). IsRead r n.entity) ns
    needs_read [] a b = tt
    needs_read (n ∷ ns) a b = (
      part_read c.group out placed later n.entity n.part (entity_at n.entity.0 es) refl a.0
          (λ e at apart. leans_by e.group (or_second (is_at es e.group c.workplane) _ (b.0 e.group (at_self c.group out placed later n.entity e at))) apart),
      needs_read ns a.1 b.1,
    )

    all_needed : (ns : List Need) → AllByRecursion (λ (n : Need). (h : GroupId) → is_needed es h n ≡ true → list_any (is_needed es h) ns ≡ true) ns
    all_needed [] = tt
    all_needed (n ∷ ns) = (
      (λ h t. or_left (is_needed es h n) (list_any (is_needed es h) ns) t),
      all_weaker (λ (k : Need). (h : GroupId) → is_needed es h k ≡ true → list_any (is_needed es h) ns ≡ true) (λ (k : Need). (h : GroupId) → is_needed es h k ≡ true → list_any (is_needed es h) (n ∷ ns) ≡ true) ns
          (λ k f h t. or_second (is_needed es h n) (list_any (is_needed es h) ns) (f h t)) (all_needed ns),
    )

    plane_read : HasPlane es c → IsRead r c.workplane
    plane_read plane = elim (cases_Bool (c.workplane.0 == 0)) [
      | inl t ↦ read_none c.workplane (eqb-true c.workplane.0 0 t)
      | inr f ↦ part_read c.group out placed later c.workplane Workplane (entity_at c.workplane.0 es) refl (plane f)
          (λ e at apart. leans_by e.group (or_left (is_at es e.group c.workplane) _ (at_self c.group out placed later c.workplane e at)) apart)
    ]

    constraint_read : HasParts es c → HasPlane es c → NeededRead r c
    constraint_read there plane =
        let ns = needs_of c.kind c.points c.entities in
        record {
          needs = All-from_recursion (λ (n : Need). IsRead r n.entity) ns
              (needs_read ns (recursion_from_All (λ (n : Need). stands_for (entity_at n.entity.0 es) n.part ≡ true) ns there) (all_needed ns));
          workplane = plane_read plane;
        }

  -- ---- groups

  module _ (g : Group s) (out : is_listed dirty g.id ≡ false) (placed : is_listed p.outline.order g.id ≡ true) (any : (h : GroupId) → group_leans es g.id h g ≡ true → list_any (group_leans es g.id h) m.groups ≡ true) (first : FirstInSpace g) where
    -- a group of any other kind isn't group 1
    pub not_first : (k : GroupKind) → g.kind ≡ k → (k ≡ Space → ◌≡◌ {A = Bool} true false) → (g.id.0 == 1) ≡ false
    not_first k is other = elim (cases_Bool (g.id.0 == 1)) [
      | inl t ↦ (let no = other (sym is ∙ first (eqb-true g.id.0 1 t)) in cc no)
      | inr f ↦ f
    ]

    pub named_read : (later : (g.id.0 == 1) ≡ false) (n : EntityId) (part : PartKind) → ((h : GroupId) → is_at es h n ≡ true → list_any (is_at es h) (g.origin ∷ g.entity_b ∷ g.entity_c ∷ []) ≡ true) → IsThere es n part → IsRead r n
    unfolding depends
    named_read later n part among there =
        part_read g.id out placed later n part (entity_at n.0 es) refl there
        (λ e at apart.
        and_both (not (g.id.0 == e.group.0) && not (g.id.0 == 1)) _ (may g.id out placed later e.group apart)
        (or_left (list_any (group_leans es g.id e.group) m.groups) _
        (any e.group (and_both (g.id.0 == g.id.0) _ (self_is g.id.0) (or_second (g.source.0 == e.group.0) _ (among e.group (at_self g.id out placed later n e at)))))))

    second : (h : GroupId) → is_at es h g.entity_b ≡ true → list_any (is_at es h) (g.origin ∷ g.entity_b ∷ g.entity_c ∷ []) ≡ true
    second h t = or_second (is_at es h g.origin) _ (or_left (is_at es h g.entity_b) _ t)

    third : (h : GroupId) → is_at es h g.entity_c ≡ true → list_any (is_at es h) (g.origin ∷ g.entity_b ∷ g.entity_c ∷ []) ≡ true
    third h t = or_second (is_at es h g.origin) _ (or_second (is_at es h g.entity_b) _ (or_left (is_at es h g.entity_c) _ t))

    pub moved_read : (g.id.0 == 1) ≡ false → (g.entity_b.0 ≢ 0 → IsThere es g.entity_b Workplane) → IsRead r g.entity_b
    moved_read later there = elim (cases_Bool (g.entity_b.0 == 0)) [
      | inl t ↦ read_none g.entity_b (eqb-true g.entity_b.0 0 t)
      | inr f ↦ named_read later g.entity_b Workplane second (there (λ e. (let no : true ≡ false = sym (eq-eqb g.entity_b.0 0 e) ∙ f in cc no)))
    ]

    plane_of_read : (k : GroupKind) → g.kind ≡ k → HasNamedBy k es g → AllByRecursion (IsRead r) (plane_of k g.entity_b)
    plane_of_read Space is h = tt
    plane_of_read Plane is h = tt
    plane_of_read Extrude is h = (moved_read (not_first Extrude is (λ e. cc e)) h, tt)
    plane_of_read Translate is h = (moved_read (not_first Translate is (λ e. cc e)) h, tt)
    plane_of_read Linked is h = tt

    lines_read : g.by_lines ≡ true → g.kind ≡ Plane → HasNamedBy Plane es g → AllByRecursion (IsRead r) (g.entity_b ∷ g.entity_c ∷ [])
    lines_read t is h =
        let later = not_first Plane is (λ e. cc e) in
        let both = h.1 t in
        (named_read later g.entity_b Line second both.0, (named_read later g.entity_c Line third both.1, tt))

    by_lines_read : LinesInPlane g → HasNamed es g → AllByRecursion (IsRead r) (if g.by_lines then g.entity_b ∷ g.entity_c ∷ [] else [])
    by_lines_read planes h = elim (cases_Bool g.by_lines) [
      | inl t ↦ rw t (lines_read t (planes t) (subst (λ (k : GroupKind). HasNamedBy k es g) (planes t) h))
      | inr f ↦ rw f tt
    ]

    group_read : LinesInPlane g → HasNamed es g → All (IsRead r) (group_reads g)
    group_read planes h =
        All-from_recursion (IsRead r) (group_reads g)
        (all_behind (IsRead r) (plane_of g.kind g.entity_b) (if g.by_lines then g.entity_b ∷ g.entity_c ∷ [] else []) (plane_of_read g.kind refl h) (by_lines_read planes h))

  -- ---- all of them

  abbrev pub AnyGroup : List (Group s) → Group s → Type 0
  AnyGroup gs g = (h : GroupId) → group_leans es g.id h g ≡ true → list_any (group_leans es g.id h) gs ≡ true

  pub any_group : (gs : List (Group s)) → AllByRecursion (AnyGroup gs) gs
  any_group [] = tt
  any_group (g ∷ gs) = (
    (λ h t. or_left (group_leans es g.id h g) (list_any (group_leans es g.id h) gs) t),
    all_weaker (AnyGroup gs) (AnyGroup (g ∷ gs)) gs (λ d f h t. or_second (group_leans es d.id h g) (list_any (group_leans es d.id h) gs) (f h t)) (any_group gs),
  )

  pub ids_listed : (gs : List (Group s)) → AllByRecursion (λ (i : GroupId). is_listed p.outline.order i ≡ true) (ids_of gs) → AllByRecursion (λ (g : Group s). is_listed p.outline.order g.id ≡ true) gs
  ids_listed [] a = tt
  ids_listed (g ∷ gs) a = (a.0, ids_listed gs a.1)

  pub groups_placed : AllByRecursion (λ (g : Group s). is_listed p.outline.order g.id ≡ true) m.groups
  groups_placed =
      all_of_order (λ (g : Group s). is_listed p.outline.order g.id ≡ true) comes_before m.groups
      (ids_listed (groups_in_order m.groups) (subst (AllByRecursion (λ (i : GroupId). is_listed p.outline.order i ≡ true)) whole.outline.order (self_listed p.outline.order)))

  module _ (placed : AllByRecursion (λ (c : Constraint s). is_listed p.outline.order c.group ≡ true) m.constraints) (planes : AllByRecursion (HasPlane es) m.constraints) where
    abbrev AnyConstraint : List (Constraint s) → Constraint s → Type 0
    AnyConstraint cs c = (h : GroupId) → constraint_leans es c.group h c ≡ true → list_any (constraint_leans es c.group h) cs ≡ true

    any_constraint : (cs : List (Constraint s)) → AllByRecursion (AnyConstraint cs) cs
    any_constraint [] = tt
    any_constraint (c ∷ cs) = (
      (λ h t. or_left (constraint_leans es c.group h c) (list_any (constraint_leans es c.group h) cs) t),
      all_weaker (AnyConstraint cs) (AnyConstraint (c ∷ cs)) cs (λ d f h t. or_second (constraint_leans es d.group h c) (list_any (constraint_leans es d.group h) cs) (f h t)) (any_constraint cs),
    )

    abbrev ConstraintRead : Constraint s → Type 0
    ConstraintRead c = is_listed dirty c.group ≡ false → NeededRead r c

    all_constraints : (cs : List (Constraint s)) → AllByRecursion (λ (c : Constraint s). is_listed p.outline.order c.group ≡ true) cs → AllByRecursion (HasPlane es) cs → AllByRecursion (NotInFirst {s = s}) cs → AllByRecursion (HasParts es) cs → AllByRecursion (AnyConstraint m.constraints) cs
        → AllByRecursion ConstraintRead cs
    all_constraints [] a b d e f = tt
    all_constraints (c ∷ cs) a b d e f = ((λ out. constraint_read c out a.0 d.0 f.0 e.0 b.0), all_constraints cs a.1 b.1 d.1 e.1 f.1)

    abbrev GroupRead : Group s → Type 0
    GroupRead g = is_listed dirty g.id ≡ false → All (IsRead r) (group_reads g)

    all_groups : (gs : List (Group s)) → AllByRecursion (λ (g : Group s). is_listed p.outline.order g.id ≡ true) gs → AllByRecursion (FirstInSpace {s = s}) gs → AllByRecursion (LinesInPlane {s = s}) gs → AllByRecursion (HasNamed es) gs → AllByRecursion (AnyGroup m.groups) gs → AllByRecursion GroupRead gs
    all_groups [] a b d e f = tt
    all_groups (g ∷ gs) a b d e f = ((λ out. group_read g out a.0 f.0 b.0 d.0 e.0), all_groups gs a.1 b.1 d.1 e.1 f.1)

    pub reads_outside : All (λ (e : Entity s). is_listed dirty e.group ≡ false → NamesRead r e) es → ReadsOutside dirty r m p.outline
    reads_outside names = record {
      some = some;
      groups = All-from_recursion GroupRead m.groups
          (all_groups m.groups groups_placed facts.first facts.lines (recursion_from_All (HasNamed es) m.groups whole.outline.named) (any_group m.groups));
      constraints = All-from_recursion ConstraintRead m.constraints
          (all_constraints m.constraints placed planes facts.constraints (recursion_from_All (HasParts es) m.constraints whole.outline.parts) (any_constraint m.constraints));
      entities = names;
    }
