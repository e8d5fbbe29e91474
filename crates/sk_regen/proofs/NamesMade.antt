-- No entity of a group outside a list that is closed under dependence names something of a group of it.
use Rattle.std.proofs.Common.{◌≡◌, inl, inr, ℕ, ◌-◌, ◌/◌, ◌^◌, List, [], ◌∷◌, ◌++◌, true, false, nat_lt, Some, Result, Ok, Err, refl, sym, ap, ◌∙◌, subst, arith}
use Rattle.std.specs.Prelude.{◌==◌, ◌&&◌, not}
use Rattle.std.specs.List.{All, AllByRecursion, list_any}
use Rattle.std.proofs.lemmas.Bool.{cases_Bool, eqb-true, ltb-true}
use Rattle.std.proofs.lemmas.List.Elements.{All-from_recursion, All-head, All-tail, recursion_from_All}
use Rattle.sk_types.specs.declared.handle.GroupId.{GroupId}
use Rattle.sk_types.specs.declared.handle.Maker.{Maker}
use Rattle.sk_types.specs.declared.constraint.PartKind.TheVariants.{Point}
use Rattle.sk_types.specs.declared.constraint.Constraint.{Constraint}
use Rattle.sk_types.specs.declared.entity.Entity.{Entity}
use Rattle.sk_types.specs.declared.group.Group.{Group}
use Rattle.sk_types.specs.declared.group.GroupKind.{GroupKind}
use Rattle.sk_types.specs.declared.group.GroupKind.TheVariants.{Space, Plane, Extrude, Translate, Linked}
use Rattle.sk_types.specs.declared.request.Request.{Request}
use Rattle.sk_types.specs.Handles.{item_of_group, maker_of}
use Rattle.sk_copy.specs.declared.fault.CopyFault.{CopyFault}
use Rattle.sk_copy.specs.Copies.{Copies, copies, normal_by}
use Rattle.sk_copy.specs.Order.{by_handle}
use Rattle.sk_model.specs.Checked.{AreChecked, IsCheckedGroup, IsCheckedRequest}
use Rattle.sk_model.specs.Typed.{Typed, request_handle}
use Rattle.sk_model.specs.TypingLaws.{typing_law}
use Rattle.sk_model.specs.TypingLaws.Chains.{ok_inj, then_parts}
use Rattle.sk_link.specs.declared.parts.Part.{Part}
use Rattle.sk_chain.specs.Dependence.{depends, group_leans, is_at}
use Rattle.sk_chain.specs.Known.{AllOwn, IsHome, IsOwn, IsReadPart}
use Rattle.sk_chain.specs.Laws.{HasNamed, HasNamedBy, IsOutlineOf}
use Rattle.sk_chain.specs.Lookups.{group_at}
use Rattle.sk_chain.specs.Made.{all_made, copied_by, drawn_in, made_by, made_from, made_in, made_with, one_made}
use Rattle.sk_chain.specs.Order.{comes_before, group_order, groups_in_order}
use Rattle.sk_chain.specs.Outlines.{Outlined, entities_fault, groups_fault, groups_made, outline_over, outlined}
use Rattle.sk_chain.proofs.Apart.{all_found}
use Rattle.sk_chain.proofs.EachMade.{AllOwned, IsMore, one_more, own_of, owned_from, unless_passed}
use Rattle.sk_chain.proofs.InOrder.{all_in_order}
use Rattle.sk_chain.proofs.Outlining.{outline_law}
use Rattle.sk_chain.proofs.Segments.{all_back, all_behind, all_front, all_weaker}
use Rattle.sk_system.specs.LookupLaws.{IsRead, NamesRead, Reads}
use Rattle.sk_regen.specs.Likeness.{ClosedLaw, IsDirtyList, IsWhole, kept, owner_by, request_at}
use Rattle.sk_regen.specs.Regeneration.{is_listed}
use Rattle.sk_regen.proofs.AlikeGroups.{fails}
use Rattle.sk_regen.proofs.ClosedNeeds.{AnyGroup, and_both, any_group, constraints_placed, groups_placed, may, moved_read, named_read, not_first, or_left, outside_of, planes, reads_outside, self_is, zero_read}
use Rattle.sk_regen.proofs.NamesCopied.{CopyReads, CopySource, copies_named, high_group, low_request}
use Rattle.sk_regen.proofs.NamesDrawn.{any_request, drawn_named, request_planes, requests_placed}
use Rattle.sk_regen.proofs.Outside.{OwnsAll, item_owned, owned_now, same_group}
use Rattle.sk_regen.proofs.TypedGroups.{FirstInSpace, TypedGroups, typed_groups}

module _ {s : ℕ} (l : Typed s) (m : Typed s) (p : Outlined s) (whole : IsWhole m p.outline) (checked : AreChecked l) (facts : TypedGroups m) (dirty : List GroupId) (is : IsDirtyList m p.outline dirty) where
  abbrev es : List (Entity s)
  es = p.outline.entities

  abbrev r : Reads
  r = kept dirty l.requests m.requests

  abbrev own : Maker → GroupId
  own = owner_by l.requests m.requests

  abbrev owned : OwnsAll own m.requests m.groups
  owned = owned_now l.requests m.requests m.groups

  -- what is known of a group of the model
  pub record GroupFacts (g : Group s) : Type 0 where
    pub there : group_at g.id.0 m.groups ≡ Some g
    pub known : IsCheckedGroup g
    pub placed : is_listed p.outline.order g.id ≡ true
    pub any : AnyGroup l m p whole checked facts dirty is m.groups g
    pub first : FirstInSpace g
    pub named : HasNamed es g

  normal_owner : (h : ℕ) → own (maker_of (normal_by (maker_of h)).0) ≡ own (maker_of h)
  normal_owner h = elim (cases_Bool (nat_lt h (2 ^ 31))) [
    | inl t ↦ rw t (ap own (low_request h (ltb-true h (2 ^ 31) t)))
    | inr f ↦ rw f (ap own (high_group ((h - 2 ^ 31) / 65536)))
  ]

  module _ (g : Group s) (f : GroupFacts g) (out : is_listed dirty g.id ≡ false) where
    copy_reads : CopyReads r g
    copy_reads = record {
      nothing = zero_read l m p whole checked facts dirty is;
      item = λ i few. ap (λ (j : GroupId). not (is_listed dirty j)) (item_owned own m p.outline whole owned g.id (item_of_group g.id.0 i) (omega arith) (omega (arith, few))) ∙ fails (is_listed dirty g.id) out;
      normal = λ h k. ap (λ (j : GroupId). not (is_listed dirty j)) (normal_owner h) ∙ k;
    }

    origin_read : g.kind ≡ Plane → HasNamedBy Plane es g → IsRead r g.origin
    origin_read k h =
        named_read l m p whole checked facts dirty is g out f.placed f.any f.first (not_first l m p whole checked facts dirty is g out f.placed f.any f.first Plane k (λ e. cc e)) g.origin Point
        (λ j t. or_left (is_at es j g.origin) (list_any (is_at es j) (g.entity_b ∷ g.entity_c ∷ [])) t) h.0

    -- its source is outside too
    source_outside : (g.id.0 == 1) ≡ false → is_listed dirty g.source ≡ false
    unfolding depends
    source_outside later =
        outside_of l m p whole checked facts dirty is g.id out f.placed later g.source (λ apart.
        and_both (not (g.id.0 == g.source.0) && not (g.id.0 == 1)) _ (may l m p whole checked facts dirty is g.id out f.placed later g.source apart)
        (or_left (list_any (group_leans es g.id g.source) m.groups) _
        (f.any g.source (and_both (g.id.0 == g.id.0) _ (self_is g.id.0) (or_left (g.source.0 == g.source.0) _ (self_is g.source.0))))))

    home_read : (i : GroupId) (e : Entity s) → is_listed dirty i ≡ false → IsHome m.requests m.groups i e → IsRead r e.id
    home_read i e off h = fails (is_listed dirty (own (maker_of e.id.0))) (ap (is_listed dirty) (owned.home (maker_of e.id.0) i h.home) ∙ off)

    sources_read : is_listed dirty g.source ≡ false → (made : List _) → AllOwn m.requests m.groups made → AllByRecursion (λ (e : Entity s). IsRead r e.id) (made_in g.source.0 made)
    sources_read off [] a = tt
    sources_read off (x ∷ made) a = elim (cases_Bool (g.source.0 == x.group.0)) [
      | inl t ↦
          let same : g.source ≡ x.group = same_group g.source x.group (eqb-true g.source.0 x.group.0 t) in
          rw t (all_weaker (IsHome m.requests m.groups x.group) (λ (e : Entity s). IsRead r e.id) x.entities (λ e h. home_read x.group e (ap (is_listed dirty) (sym same) ∙ off) h)
          (recursion_from_All (IsHome m.requests m.groups x.group) x.entities (All-head (IsOwn m.requests m.groups) x made a).homes))
      | inr n ↦ rw n (sources_read off made (All-tail (IsOwn m.requests m.groups) x made a))
    ]

    copy_source : (parts : List (Part s)) (made : List _) → AllOwn m.requests m.groups made → (k : GroupKind) → g.kind ≡ k → HasNamedBy k es g → CopySource r g (copied_by k parts made g) k
    copy_source parts made a Space k h = tt
    copy_source parts made a Plane k h = origin_read k h
    copy_source parts made a Extrude k h =
        let later = not_first l m p whole checked facts dirty is g out f.placed f.any f.first Extrude k (λ e. cc e) in
        (moved_read l m p whole checked facts dirty is g out f.placed f.any f.first later h, sources_read (source_outside later) made a)
    copy_source parts made a Translate k h =
        let later = not_first l m p whole checked facts dirty is g out f.placed f.any f.first Translate k (λ e. cc e) in
        sources_read (source_outside later) made a
    copy_source parts made a Linked k h = tt

  -- ---- all that is made

  abbrev Named : Entity s → Type 0
  Named e = is_listed dirty e.group ≡ false → NamesRead r e

  module _ (parts : List (Part s)) (read : All IsReadPart parts) (out : outlined parts m ≡ Ok p) where
    found : AllByRecursion (λ (q : Request). request_at q.id.0 m.requests ≡ Some q) m.requests
    found = all_found request_handle m.requests whole.checked.requests_differ

    placed : AllByRecursion (λ (q : Request). is_listed p.outline.order q.group ≡ true) m.requests
    placed = subst (λ (gs : List GroupId). AllByRecursion (λ (q : Request). is_listed gs q.group ≡ true) m.requests) (sym whole.outline.order) (requests_placed parts m p out)

    drawn_of : (g : GroupId) → is_listed dirty g ≡ false → AllByRecursion (NamesRead {s = s} r) (drawn_in s g.0 m.requests)
    drawn_of g off =
        drawn_named l m p whole checked facts dirty is g off m.requests (recursion_from_All IsCheckedRequest m.requests whole.checked.requests) found placed
        (any_request l m p whole checked facts dirty is m.requests) (request_planes parts m p out)

    module _ (g : Group s) (f : GroupFacts g) where
      with_copies : (made : List _) → AllOwn m.requests m.groups made → (res : Result (Copies s) CopyFault) (x : _) → copies g g.remap (copied_by g.kind parts made g) ≡ res → made_with g.id (drawn_in s g.id.0 m.requests) res ≡ Ok x → is_listed dirty g.id ≡ false → AllByRecursion (NamesRead {s = s} r) x.entities
      with_copies made a (Err e) x at h off = cc h
      with_copies made a (Ok c) x at h off =
          let same : record { group = g.id; list = c.list; entities = by_handle (drawn_in s g.id.0 m.requests ++ c.entities) } ≡ x = ok_inj h in
          subst (λ y. AllByRecursion (NamesRead {s = s} r) y.entities) same
          (all_in_order (NamesRead {s = s} r) (λ d y. nat_lt d.id.0 y.id.0) (drawn_in s g.id.0 m.requests ++ c.entities)
          (all_behind (NamesRead {s = s} r) (drawn_in s g.id.0 m.requests) c.entities (drawn_of g.id off)
          (copies_named r g (copy_reads g f off) (copied_by g.kind parts made g) c f.known.entries (copy_source g f off parts made a g.kind refl f.named) at)))

      group_with : (res : Result (Copies s) CopyFault) (x : _) → made_with g.id (drawn_in s g.id.0 m.requests) res ≡ Ok x → x.group ≡ g.id
      group_with (Err e) x h = cc h
      group_with (Ok c) x h = ap (λ y. y.group) (sym (ok_inj h))

      one_named : (made : List _) → AllOwn m.requests m.groups made → (x : _) → made_by m.requests parts made g ≡ Ok x → IsOwn m.requests m.groups x → AllByRecursion Named x.entities
      unfolding made_by
      one_named made a x h o = elim (cases_Bool (is_listed dirty g.id)) [
        | inr off ↦ all_weaker (NamesRead {s = s} r) Named x.entities (λ e n k. n) (with_copies made a (copies g g.remap (copied_by g.kind parts made g)) x refl h off)
        | inl t ↦ all_weaker (IsHome m.requests m.groups x.group) Named x.entities (λ e i k. (let no : true ≡ false = sym t ∙ ap (is_listed dirty) (sym (i.group ∙ group_with (copies g g.remap (copied_by g.kind parts made g)) x h)) ∙ k in cc no))
            (recursion_from_All (IsHome m.requests m.groups x.group) x.entities o.homes)
      ]

    last_own : (made : List _) (x : _) → AllOwned m.requests m.groups (made ++ x ∷ []) → IsOwn m.requests m.groups x
    last_own [] x a = a.0.0
    last_own (y ∷ made) x a = last_own made x a.1

    all_more : (made : List _) (x : _) → AllByRecursion Named (all_made made) → AllByRecursion Named (all_made (x ∷ [])) → AllByRecursion Named (all_made (made ++ x ∷ []))
    all_more [] x n k = k
    all_more (y ∷ made) x n k =
        all_behind Named y.entities (all_made (made ++ x ∷ [])) (all_front Named y.entities (all_made made) n) (all_more made x (all_back Named y.entities (all_made made) n) k)

    named_from : (made : List _) (gs : List (Group s)) (more : List _) → AllOwned m.requests m.groups made → AllByRecursion Named (all_made made) → AllByRecursion GroupFacts gs → made_from m.requests m.groups parts made gs ≡ Ok more → AllByRecursion Named (all_made more)
    named_from made [] more h n f e = subst (λ ms. AllByRecursion Named (all_made ms)) (ok_inj e) n
    named_from made (g ∷ gs) more h n f e = then_parts {P = AllByRecursion Named (all_made more)} (one_made m.requests m.groups parts made g) (λ ms. made_from m.requests m.groups parts ms gs) more e (λ ms one rest.
        (let step : IsMore m.requests m.groups parts made g ms = one_more m.requests m.groups parts made g ms one in
        let just : made_from m.requests m.groups parts made (g ∷ []) ≡ Ok ms = rw one refl in
        let all : AllOwned m.requests m.groups ms = owned_from m.requests m.groups whole.checked.requests whole.checked.requests_differ parts read made (g ∷ []) ms h (f.0.there, tt) (f.0.known, tt) just in
        let own_one = last_own made step.one (subst (AllOwned m.requests m.groups) step.whole all) in
        let here = one_named g f.0 made (own_of m.requests m.groups made h) step.one step.makes own_one in
        let both = all_more made step.one n (all_behind Named step.one.entities [] here tt) in
        named_from ms gs more all (subst (λ xs. AllByRecursion Named (all_made xs)) (sym step.whole) both) f.1 rest))

    group_facts : AllByRecursion GroupFacts m.groups
    group_facts =
        gather m.groups (all_found (λ (g : Group s). g.id.0) m.groups whole.checked.groups_differ) (recursion_from_All IsCheckedGroup m.groups whole.checked.groups) (groups_placed l m p whole checked facts dirty is)
        (any_group l m p whole checked facts dirty is m.groups) facts.first (recursion_from_All (HasNamed es) m.groups whole.outline.named)
      where
        gather : (gs : List (Group s)) → AllByRecursion (λ (g : Group s). group_at g.id.0 m.groups ≡ Some g) gs → AllByRecursion IsCheckedGroup gs → AllByRecursion (λ (g : Group s). is_listed p.outline.order g.id ≡ true) gs
            → AllByRecursion (AnyGroup l m p whole checked facts dirty is m.groups) gs → AllByRecursion (FirstInSpace {s = s}) gs → AllByRecursion (HasNamed es) gs → AllByRecursion GroupFacts gs
        gather [] a b c d e f = tt
        gather (g ∷ gs) a b c d e f = (record { there = a.0; known = b.0; placed = c.0; any = d.0; first = e.0; named = f.0 }, gather gs a.1 b.1 c.1 d.1 e.1 f.1)

    pub entities_named : All Named es
    unfolding outlined groups_made
    entities_named =
        let a = unless_passed (groups_fault m (group_order m.groups)) _ p out in
        then_parts {P = All Named es} (groups_made parts m) (outline_over m) p a.1 (λ made done over.
        (let b = unless_passed (entities_fault m (group_order m.groups) (by_handle (all_made made))) _ p over in
        let same : record { outline = record { order = group_order m.groups; entities = by_handle (all_made made) }; lists = _ } ≡ p = ok_inj b.1 in
        let named = named_from [] (groups_in_order m.groups) made tt tt (all_in_order GroupFacts comes_before m.groups group_facts) done in
        All-from_recursion Named es (subst (λ (q : Outlined s). AllByRecursion Named q.outline.entities) same (all_in_order Named (λ d e. nat_lt d.id.0 e.id.0) (all_made made) named))))

pub closed_law : ClosedLaw
closed_law s parts read bs m p ty out l dirty checked is =
    let known : AreChecked m = typing_law.leaves s bs m ty in
    let outline : IsOutlineOf m p.outline = (outline_law s parts m p known read out).outline in
    let whole : IsWhole m p.outline = record { checked = known; outline = outline } in
    let facts = typed_groups s bs m ty in
    let placed = subst (λ (gs : List GroupId). AllByRecursion (λ (c : Constraint s). is_listed gs c.group ≡ true) m.constraints) (sym outline.order) (constraints_placed parts m p out) in
    reads_outside l m p whole checked facts dirty is placed (planes parts m p out) (entities_named l m p whole checked facts dirty is parts read out)
