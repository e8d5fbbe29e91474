-- What requests outside a list draw names nothing of a group of it.
use Rattle.std.proofs.Common.{◌≡◌, inl, inr, ℕ, zero, suc, ◌+◌, ◌*◌, ◌%◌, ◌<◌, ◌≤◌, List, [], ◌∷◌, ◌++◌, Bool, true, false, Option, Some, None, Ok, refl, sym, ap, ◌∙◌, arith}
use Rattle.std.specs.Prelude.{◌==◌, ◌&&◌, not, if◌then◌else◌}
use Rattle.std.specs.List.{AllByRecursion, filter, flat_map, list_any}
use Rattle.std.proofs.lemmas.Bool.{cases_Bool, eqb-true}
use Rattle.std.proofs.lemmas.List.Elements.{All-from_recursion, All-nil}
use Rattle.sk_types.specs.declared.handle.EntityId.{EntityId}
use Rattle.sk_types.specs.declared.handle.GroupId.{GroupId}
use Rattle.sk_types.specs.declared.handle.Maker.{Maker}
use Rattle.sk_types.specs.declared.entity.Entity.{Entity}
use Rattle.sk_types.specs.declared.entity.Numbering.{Numbering}
use Rattle.sk_types.specs.declared.entity.Numbering.TheVariants.{Own, Nothing}
use Rattle.sk_types.specs.declared.entity_kind.TheConstants as entity_kind
use Rattle.sk_types.specs.declared.constraint.PartKind.TheVariants.{Workplane}
use Rattle.sk_types.specs.declared.request.Request.{Request}
use Rattle.sk_types.specs.declared.request_kind.TheConstants as request_kind
use Rattle.sk_types.specs.Handles.{maker_of, none}
use Rattle.sk_types.specs.Lists.{each_below, only_if}
use Rattle.sk_types.specs.Lookups.{entity_at}
use Rattle.sk_entity.specs.Requests.{bare, curve_of, distance_of, entity_item, in_plane, normal_of, param_item, point_kind, point_of, request_entities, shape, shape_of, shaped_entities}
use Rattle.sk_model.specs.declared.faults.ModelFault.TheVariants.{Ahead, NoSuch}
use Rattle.sk_model.specs.Checked.{AreChecked, IsCheckedRequest}
use Rattle.sk_model.specs.Typed.{Typed}
use Rattle.sk_link.specs.declared.parts.Part.{Part}
use Rattle.sk_chain.specs.Dependence.{depends, group_leans, request_leans}
use Rattle.sk_chain.specs.Lookups.{place_in}
use Rattle.sk_chain.specs.Order.{group_order}
use Rattle.sk_chain.specs.Outlines.{Outlined, constraint_group_fault, entities_fault, first_fault, found_fault, groups_fault, is_later, outlined, request_fault, request_group_fault}
use Rattle.sk_chain.proofs.AllDrawn.{listed_if}
use Rattle.sk_chain.proofs.Segments.{all_behind, all_weaker}
use Rattle.sk_system.specs.LookupLaws.{FourRead, IsRead, NamesRead, NumbersRead, Reads}
use Rattle.sk_regen.specs.Likeness.{IsDirtyList, IsWhole, kept, owner_by, request_at}
use Rattle.sk_regen.specs.Regeneration.{is_listed}
use Rattle.sk_regen.proofs.AlikeGroups.{fails}
use Rattle.sk_regen.proofs.ClosedNeeds.{and_both, at_self, found_entity, may, no_faults, or_left, or_second, passed, read_none, self_is, there_read, zero_read}
use Rattle.sk_regen.proofs.FirstGroup.{first_alone}
use Rattle.sk_regen.proofs.Outside.{EntityOwned, OwnsAll, entities_owned, of_request, owned_now, same_group}
use Rattle.sk_regen.proofs.TypedGroups.{TypedGroups, no_fault, or_none}

-- ---- what an outline was asked of requests

-- no workplane, or one that is there and isn't ahead
pub record FitsIn {s : ℕ} (order : List GroupId) (es : List (Entity s)) (q : Request) : Type 0 where
  pub entity : Entity s
  pub there : entity_at q.workplane.0 es ≡ Some entity
  pub early : is_later (place_in entity.group.0 order) (place_in q.group.0 order) ≡ false

abbrev pub HasPlane : {s : ℕ} → List GroupId → List (Entity s) → Request → Type 0
HasPlane order es q = (q.workplane.0 == 0) ≡ false → FitsIn order es q

module _ {s : ℕ} (parts : List (Part s)) (m : Typed s) (p : Outlined s) (out : outlined parts m ≡ Ok p) where
  pub requests_placed : AllByRecursion (λ (q : Request). is_listed (group_order m.groups) q.group ≡ true) m.requests
  unfolding groups_fault
  requests_placed =
      all_weaker (λ (q : Request). request_group_fault (group_order m.groups) q ≡ None) (λ (q : Request). is_listed (group_order m.groups) q.group ≡ true) m.requests
      (λ q e. listed_if q.group.0 (group_order m.groups) (no_fault _ (NoSuch q.id.0 q.group.0) e))
      (no_faults (request_group_fault (group_order m.groups)) m.requests (or_none (first_fault (request_group_fault (group_order m.groups)) m.requests) (first_fault (constraint_group_fault (group_order m.groups)) m.constraints) (passed parts m p out).0).0)

  pub request_planes : AllByRecursion (HasPlane (group_order m.groups) p.outline.entities) m.requests
  unfolding entities_fault
  request_planes =
      all_weaker (λ (q : Request). request_fault (group_order m.groups) p.outline.entities q ≡ None) (HasPlane (group_order m.groups) p.outline.entities) m.requests from
      (no_faults (request_fault (group_order m.groups) p.outline.entities) m.requests (or_none (first_fault (request_fault (group_order m.groups) p.outline.entities) m.requests) _ (passed parts m p out).1).0)
    where
      by : (q : Request) (o : Option (Entity s)) → entity_at q.workplane.0 p.outline.entities ≡ o → found_fault (group_order m.groups) q.id.0 q.group q.workplane Workplane o ≡ None → FitsIn (group_order m.groups) p.outline.entities q
      by q None at e = cc e
      by q (Some x) at e = elim (cases_Bool (is_later (place_in x.group.0 (group_order m.groups)) (place_in q.group.0 (group_order m.groups)))) [
        | inl t ↦ (let no : Some (Ahead q.id.0 q.workplane.0) ≡ None = rw t at e in cc no)
        | inr f ↦ record { entity = x; there = at; early = f }
      ]

      from : (q : Request) → request_fault (group_order m.groups) p.outline.entities q ≡ None → HasPlane (group_order m.groups) p.outline.entities q
      from q e some =
          let there : found_fault (group_order m.groups) q.id.0 q.group q.workplane Workplane (entity_at q.workplane.0 p.outline.entities) ≡ None = rw some at e in
          by q (entity_at q.workplane.0 p.outline.entities) refl there

either : {A : Type 0} (P : A → Type 0) (t : Bool) (x y : A) → P x → P y → P (if t then x else y)
either P true x y h k = h
either P false x y h k = k

each_under : {A : Type 0} (P : A → Type 0) (f : ℕ → A) (n most : ℕ) → n ≤ most → ((i : ℕ) → i < most → P (f i)) → AllByRecursion P (each_below n f)
each_under P f zero most l h = tt
each_under P f (suc n) most l h = all_behind P (each_below n f) (f n ∷ []) (each_under P f n most (omega (arith, l)) h) (h n (omega (arith, l)), tt)

only_all : {A : Type 0} (P : A → Type 0) (t : Bool) (xs : List A) → AllByRecursion P xs → AllByRecursion P (only_if t xs)
only_all P true xs h = h
only_all P false xs h = tt

module _ {s : ℕ} (l : Typed s) (m : Typed s) (p : Outlined s) (whole : IsWhole m p.outline) (checked : AreChecked l) (facts : TypedGroups m) (dirty : List GroupId) (is : IsDirtyList m p.outline dirty) where
  abbrev es : List (Entity s)
  es = p.outline.entities

  abbrev r : Reads
  r = kept dirty l.requests m.requests

  abbrev own : Maker → GroupId
  own = owner_by l.requests m.requests

  abbrev owned : OwnsAll own m.requests m.groups
  owned = owned_now l.requests m.requests m.groups

  none_read : IsRead r none
  none_read = zero_read l m p whole checked facts dirty is

  module _ (q : Request) (known : IsCheckedRequest q) (there : request_at q.id.0 m.requests ≡ Some q) (out : is_listed dirty q.group ≡ false) where
    item_read : (n : ℕ) → q.id.0 * 65536 ≤ n → n < q.id.0 * 65536 + 65536 → r.entities n ≡ true
    item_read n low high =
        let whose = ap own (of_request q.id.0 n known.most low high) ∙ owned.request q.id (n % 65536) q there in
        ap (λ (g : GroupId). not (is_listed dirty g)) whose ∙ fails (is_listed dirty q.group) out

    params_read : (i : ℕ) → i ≤ 65532 → FourRead r (param_item q i).0
    params_read i few = (
      item_read (param_item q i).0 (omega arith) (omega (arith, few)),
      item_read ((param_item q i).0 + 1) (omega arith) (omega (arith, few)),
      item_read ((param_item q i).0 + 2) (omega arith) (omega (arith, few)),
      item_read ((param_item q i).0 + 3) (omega arith) (omega (arith, few)),
    )

    entity_read : (i : ℕ) → i ≤ 65535 → IsRead r (entity_item q i)
    entity_read i few = item_read (entity_item q i).0 (omega arith) (omega (arith, few))

    plane_read : (placed : is_listed p.outline.order q.group ≡ true) (any : (h : GroupId) → request_leans es q.group h q ≡ true → list_any (request_leans es q.group h) m.requests ≡ true) → HasPlane (group_order m.groups) es q → IsRead r q.workplane
    unfolding depends
    plane_read placed any plane = elim (cases_Bool (q.workplane.0 == 0)) [
      | inl t ↦ read_none l m p whole checked facts dirty is q.workplane (eqb-true q.workplane.0 0 t)
      | inr f ↦ by_group (plane f)
    ]
      where
        by_group : FitsIn (group_order m.groups) es q → IsRead r q.workplane
        by_group fit = elim (cases_Bool (q.group.0 == 1)) [
          | inr later ↦ there_read l m p whole checked facts dirty is q.group out placed later q.workplane fit.entity fit.there (λ apart.
              and_both (not (q.group.0 == fit.entity.group.0) && not (q.group.0 == 1)) _ (may l m p whole checked facts dirty is q.group out placed later fit.entity.group apart)
              (or_second (list_any (group_leans es q.group fit.entity.group) m.groups) _
              (or_left (list_any (request_leans es q.group fit.entity.group) m.requests) _
              (any fit.entity.group (and_both (q.group.0 == q.group.0) _ (self_is q.group.0) (at_self l m p whole checked facts dirty is q.group out placed later q.workplane fit.entity fit.there))))))
          | inl one ↦
              let here = found_entity (EntityOwned own m p.outline whole owned) q.workplane.0 es fit.entity (entities_owned own m p.outline whole owned) fit.there in
              let whose : own (maker_of q.workplane.0) ≡ fit.entity.group = ap (λ (h : ℕ). own (maker_of h)) here.1 ∙ here.0 in
              fails (is_listed dirty (own (maker_of q.workplane.0))) (ap (is_listed dirty) whose ∙ first (eqb-true q.group.0 1 one))
        ]
          where
            first : q.group.0 ≡ 1 → is_listed dirty fit.entity.group ≡ false
            first one = elim (cases_Bool (is_listed dirty fit.entity.group)) [
              | inr f ↦ f
              | inl t ↦
                  let listed = ap (λ (ids : List GroupId). is_listed ids fit.entity.group) (sym whole.outline.order) ∙ is.among fit.entity.group t in
                  let early = ap (λ (n : ℕ). is_later (place_in fit.entity.group.0 (group_order m.groups)) (place_in n (group_order m.groups))) (sym one) ∙ fit.early in
                  let same : fit.entity.group ≡ q.group = same_group fit.entity.group q.group (first_alone m.groups facts.there fit.entity.group listed early ∙ sym one) in
                  let no : true ≡ false = sym t ∙ ap (is_listed dirty) same ∙ out in cc no
            ]

    module _ (plane : IsRead r q.workplane) where
      bare_named : (i kind : ℕ) (c : Bool) (n : Numbering s) → NumbersRead r n → NamesRead r (bare s q i kind c n)
      bare_named i kind c n h = record { points = All-nil (IsRead r); normal = none_read; distance = none_read; workplane = plane; numbers = h }

      named_if : (t : Bool) (e : EntityId) → IsRead r e → IsRead r (if t then e else none)
      named_if t e h = either (IsRead r) t e none h none_read

      curve_named : (kind points : ℕ) (has_normal has_distance : Bool) → points ≤ 12 → NamesRead r (curve_of s q (shape kind points has_normal has_distance))
      curve_named kind points has_normal has_distance few = record {
        points = All-from_recursion (IsRead r) (each_below points (λ i. entity_item q (i + 1))) (each_under (IsRead r) (λ i. entity_item q (i + 1)) points 12 few (λ i l. entity_read (i + 1) (omega (arith, l))));
        normal = named_if has_normal (entity_item q 32) (entity_read 32 (omega arith));
        distance = named_if has_distance (entity_item q 64) (entity_read 64 (omega arith));
        workplane = plane;
        numbers = tt;
      }

      point_named : (i : ℕ) → i < 12 → NamesRead r (point_of s q i)
      point_named i few = bare_named (i + 1) (point_kind q) false (Own (param_item q (16 + 3 * i))) (params_read (16 + 3 * i) (omega (arith, few)))

      normal_named : NamesRead r (normal_of s q)
      normal_named =
          either (NamesRead r) (in_plane q) (bare s q 32 entity_kind.NORMAL_IN_WORKPLANE false Nothing) (bare s q 32 entity_kind.NORMAL_IN_SPACE false (Own (param_item q 32)))
          (bare_named 32 entity_kind.NORMAL_IN_WORKPLANE false Nothing tt) (bare_named 32 entity_kind.NORMAL_IN_SPACE false (Own (param_item q 32)) (params_read 32 (omega arith)))

      shaped_named : (kind points : ℕ) (has_normal has_distance : Bool) → points ≤ 12 → AllByRecursion (NamesRead {s = s} r) (shaped_entities s q (Some (shape kind points has_normal has_distance)))
      shaped_named kind points has_normal has_distance few = (
        curve_named kind points has_normal has_distance few,
        all_behind (NamesRead r) (each_below points (point_of s q) ++ only_if has_normal (normal_of s q ∷ [])) (only_if has_distance (distance_of s q ∷ []))
            (all_behind (NamesRead r) (each_below points (point_of s q)) (only_if has_normal (normal_of s q ∷ [])) (each_under (NamesRead r) (point_of s q) points 12 few point_named)
            (only_all (NamesRead r) has_normal (normal_of s q ∷ []) (normal_named, tt)))
            (only_all (NamesRead r) has_distance (distance_of s q ∷ []) (bare_named 64 entity_kind.DISTANCE false (Own (param_item q 64)) (params_read 64 (omega arith)), tt)),
      )

      all_shaped : AllByRecursion (NamesRead {s = s} r) (shaped_entities s q (shape_of q))
      all_shaped =
          let extra = known.extra in
          either (λ o. AllByRecursion (NamesRead {s = s} r) (shaped_entities s q o)) (q.kind == request_kind.WORKPLANE) (Some (shape entity_kind.WORKPLANE 1 true false)) _ (shaped_named entity_kind.WORKPLANE 1 true false (omega arith))
          (either (λ o. AllByRecursion (NamesRead {s = s} r) (shaped_entities s q o)) (q.kind == request_kind.LINE) (Some (shape entity_kind.LINE 2 false false)) _ (shaped_named entity_kind.LINE 2 false false (omega arith))
          (either (λ o. AllByRecursion (NamesRead {s = s} r) (shaped_entities s q o)) (q.kind == request_kind.CUBIC) (Some (shape entity_kind.CUBIC (4 + q.extra) false false)) _ (shaped_named entity_kind.CUBIC (4 + q.extra) false false (omega (arith, extra)))
          (either (λ o. AllByRecursion (NamesRead {s = s} r) (shaped_entities s q o)) (q.kind == request_kind.CIRCLE) (Some (shape entity_kind.CIRCLE 1 true true)) _ (shaped_named entity_kind.CIRCLE 1 true true (omega arith))
          (either (λ o. AllByRecursion (NamesRead {s = s} r) (shaped_entities s q o)) (q.kind == request_kind.ARC) (Some (shape entity_kind.ARC 3 true false)) None (shaped_named entity_kind.ARC 3 true false (omega arith)) tt))))

      request_named : AllByRecursion (NamesRead {s = s} r) (request_entities s q)
      unfolding request_entities
      request_named =
          either (AllByRecursion (NamesRead {s = s} r)) (q.kind == request_kind.DATUM_POINT) (bare s q 0 (point_kind q) q.construction (Own (param_item q 16)) ∷ []) (shaped_entities s q (shape_of q))
          (bare_named 0 (point_kind q) q.construction (Own (param_item q 16)) (params_read 16 (omega arith)), tt) all_shaped

  -- ---- all requests of a group

  abbrev pub AnyRequest : List Request → Request → Type 0
  AnyRequest qs q = (h : GroupId) → request_leans es q.group h q ≡ true → list_any (request_leans es q.group h) qs ≡ true

  pub any_request : (qs : List Request) → AllByRecursion (AnyRequest qs) qs
  any_request [] = tt
  any_request (q ∷ qs) = (
    (λ h t. or_left (request_leans es q.group h q) (list_any (request_leans es q.group h) qs) t),
    all_weaker (AnyRequest qs) (AnyRequest (q ∷ qs)) qs (λ d f h t. or_second (request_leans es d.group h q) (list_any (request_leans es d.group h) qs) (f h t)) (any_request qs),
  )

  pub drawn_named : (g : GroupId) → is_listed dirty g ≡ false → (qs : List Request) → AllByRecursion IsCheckedRequest qs → AllByRecursion (λ (q : Request). request_at q.id.0 m.requests ≡ Some q) qs
      → AllByRecursion (λ (q : Request). is_listed p.outline.order q.group ≡ true) qs → AllByRecursion (AnyRequest m.requests) qs → AllByRecursion (HasPlane (group_order m.groups) es) qs
      → AllByRecursion (NamesRead {s = s} r) (flat_map (request_entities s) (filter (λ (q : Request). q.group.0 == g.0) qs))
  drawn_named g out [] a b c d e = tt
  drawn_named g out (q ∷ qs) a b c d e = elim (cases_Bool (q.group.0 == g.0)) [
    | inl t ↦
        let off : is_listed dirty q.group ≡ false = ap (is_listed dirty) (same_group q.group g (eqb-true q.group.0 g.0 t)) ∙ out in
        let here = request_named q a.0 b.0 off (plane_read q a.0 b.0 off c.0 d.0 e.0) in
        rw t (all_behind (NamesRead r) (request_entities s q) (flat_map (request_entities s) (filter (λ (q : Request). q.group.0 == g.0) qs)) here (drawn_named g out qs a.1 b.1 c.1 d.1 e.1))
    | inr f ↦ rw f (drawn_named g out qs a.1 b.1 c.1 d.1 e.1)
  ]
