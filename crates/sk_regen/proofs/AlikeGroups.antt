-- A group outside the list has the same result over numbers that agree outside it.
use Rattle.std.proofs.Common.{◌≡◌, inl, inr, ℕ, ◌+◌, ◌≤◌, List, [], ◌∷◌, ◌++◌, get_or, map, Bool, true, false, nat_eq, Option, Some, None, refl, sym, ap, ◌∙◌, subst, arith}
use Rattle.std.specs.Prelude.{◌==◌, ◌-ℤ◌, ℤ, pos, not, unwrap_or, Result, if◌then◌else◌}
use Rattle.std.specs.Option.{option_or}
use Rattle.std.specs.List.{All, AllByRecursion, filter, find}
use Rattle.std.proofs.lemmas.Bool.{cases_Bool, eqb-true}
use Rattle.std.proofs.lemmas.List.Elements.{All-from_recursion, All-head, All-tail, recursion_from_All}
use Rattle.sk_num.specs.Limit.{grid_of}
use Rattle.sk_types.specs.declared.handle.EntityId.{EntityId}
use Rattle.sk_types.specs.declared.handle.GroupId.{GroupId}
use Rattle.sk_types.specs.declared.handle.Maker.{Maker}
use Rattle.sk_types.specs.declared.handle.Maker.TheVariants.{OfRequest, OfGroup}
use Rattle.sk_types.specs.declared.handle.ParamId.{ParamId}
use Rattle.sk_types.specs.declared.constraint.Constraint.{Constraint}
use Rattle.sk_types.specs.declared.entity.Act.{Act}
use Rattle.sk_types.specs.declared.entity.Entity.{Entity}
use Rattle.sk_types.specs.declared.entity.Numbers.{Numbers}
use Rattle.sk_types.specs.declared.entity.Outline.{Outline}
use Rattle.sk_types.specs.declared.entity.ParamValue.{ParamValue}
use Rattle.sk_types.specs.declared.group.Group.{Group}
use Rattle.sk_types.specs.declared.group.GroupKind.{GroupKind}
use Rattle.sk_types.specs.declared.group.GroupKind.TheVariants.{Space, Plane, Extrude, Translate, Linked}
use Rattle.sk_types.specs.declared.request.Request.{Request}
use Rattle.sk_types.specs.Handles.{item_of_group, maker_of}
use Rattle.sk_types.specs.Lookups.{act_at, entity_at, value_of}
use Rattle.sk_types.specs.Needs.{named}
use Rattle.sk_types.specs.Params.{unknown_params}
use Rattle.sk_geom.specs.declared.fault.FrameFault.{FrameFault}
use Rattle.sk_geom.specs.LineFrame.{all_of, line_frame, then_frame, within}
use Rattle.sk_geom.specs.Sources.{values_or_zeros}
use Rattle.sk_model.specs.Checked.{IsCheckedRequest}
use Rattle.sk_model.specs.Typed.{Typed}
use Rattle.sk_chain.specs.Lookups.{group_at}
use Rattle.sk_chain.proofs.Segments.{all_weaker}
use Rattle.sk_chain.proofs.Standing.{found_holds}
use Rattle.sk_system.specs.GroupSystem.{acts_at, own_constraints, seen_at}
use Rattle.sk_system.specs.LookupLaws.{FourRead, IsRead, NamesRead, Reads}
use Rattle.sk_system.specs.OutlineLaws.{HoldsNeeds, NeededRead, PlaneRead, SameReads}
use Rattle.sk_system.proofs.AlikeEntities.{IfRead, IsAlike, Pair, found, frame-same, in_place}
use Rattle.sk_system.proofs.AlikeParts.{branch}
use Rattle.sk_system.proofs.AlikeSystems.{outlines_law, unknown-same}
use Rattle.sk_regen.specs.FoldLaws.{AgreeOutside}
use Rattle.sk_regen.specs.GroupWorks.{acts_of, along, bad_frame_of, component_reading, drawn_start, fault_in, frame_of, framed, group_start, is_one_of, normal_reading, numbers_source, own_normal, quaternion_in, ready, seen_of, start_by, system_of, vector_of}
use Rattle.sk_regen.specs.Likeness.{IsWhole, ReadsOutside, SameButFor, group_of, group_reads, kept, nobody, owner_by, owners, plane_of, request_at}
use Rattle.sk_regen.specs.Regeneration.{fixed_of, is_listed, point_of, with_acts}
use Rattle.sk_regen.proofs.AlikeNumbers.{are_before, are_now}
use Rattle.sk_regen.proofs.Joined.{act_alike, value_alike}
use Rattle.sk_regen.proofs.Outside.{EntityOwned, Within, entities_owned, filter_within, find_kept, find_none, find_within, item_owned, same_group}

passes : (b : Bool) → not b ≡ true → b ≡ false
passes true e = cc e
passes false e = refl

pub fails : (b : Bool) → b ≡ false → not b ≡ true
fails true e = cc e
fails false e = refl

each : {X : Type 0} (P : X → Type 0) → ((x : X) → P x) → (xs : List X) → AllByRecursion P xs
each P h [] = tt
each P h (x ∷ xs) = (h x, each P h xs)

-- the same of one of two
branch_in : {A B : Type 0} (f : A → B) (t : Bool) (a b c d : A) → (t ≡ true → f a ≡ f c) → (t ≡ false → f b ≡ f d) → f (if t then a else b) ≡ f (if t then c else d)
branch_in f true a b c d h k = h refl
branch_in f false a b c d h k = k refl

filter_holds : {X : Type 0} (P Q : X → Type 0) (t : X → Bool) (xs : List X) → ((x : X) → P x → t x ≡ true → Q x) → AllByRecursion P xs → AllByRecursion Q (filter t xs)
filter_holds P Q t [] h a = tt
filter_holds P Q t (x ∷ xs) h a = elim (cases_Bool (t x)) [
  | inl y ↦ rw y ((h x a.0 y, filter_holds P Q t xs h a.1))
  | inr n ↦ rw n (filter_holds P Q t xs h a.1)
]

both_hold : {X : Type 0} (P Q R : X → Type 0) (xs : List X) → ((x : X) → P x → Q x → R x) → AllByRecursion P xs → AllByRecursion Q xs → AllByRecursion R xs
both_hold P Q R [] h a b = tt
both_hold P Q R (x ∷ xs) h a b = (h x a.0 b.0, both_hold P Q R xs h a.1 b.1)

pub none_at : (rs : List Request) → AllByRecursion IsCheckedRequest rs → request_at 0 rs ≡ None
none_at [] a = refl
none_at (r ∷ rs) a = elim (cases_Bool (0 == r.id.0)) [
  | inl t ↦ (let is : 0 ≡ r.id.0 = eqb-true 0 r.id.0 t in let least = a.0.least in absurd (omega (arith, is, least)))
  | inr f ↦ rw f (none_at rs a.1)
]

plane_read : (r : Reads) (k : GroupKind) (w : EntityId) (rest : List EntityId) → All (IsRead r) (plane_of k w ++ rest) → PlaneRead r k w
plane_read r Space w rest h = tt
plane_read r Plane w rest h = tt
plane_read r Extrude w rest h = All-head (IsRead r) w rest h
plane_read r Translate w rest h = All-head (IsRead r) w rest h
plane_read r Linked w rest h = tt

two_read : (r : Reads) (k : GroupKind) (w u v : EntityId) → All (IsRead r) (plane_of k w ++ (u ∷ v ∷ [])) → IsRead r u × IsRead r v
two_read r Space w u v h = (All-head (IsRead r) u (v ∷ []) h, All-head (IsRead r) v [] (All-tail (IsRead r) u (v ∷ []) h))
two_read r Plane w u v h = (All-head (IsRead r) u (v ∷ []) h, All-head (IsRead r) v [] (All-tail (IsRead r) u (v ∷ []) h))
two_read r Extrude w u v h = let k = All-tail (IsRead r) w (u ∷ v ∷ []) h in (All-head (IsRead r) u (v ∷ []) k, All-head (IsRead r) v [] (All-tail (IsRead r) u (v ∷ []) k))
two_read r Translate w u v h = let k = All-tail (IsRead r) w (u ∷ v ∷ []) h in (All-head (IsRead r) u (v ∷ []) k, All-head (IsRead r) v [] (All-tail (IsRead r) u (v ∷ []) k))
two_read r Linked w u v h = (All-head (IsRead r) u (v ∷ []) h, All-head (IsRead r) v [] (All-tail (IsRead r) u (v ∷ []) h))

module _ {s : ℕ} (dirty : List GroupId) (l : Typed s) (o : Outline s) (m : Typed s) (p : Outline s) (before : IsWhole l o) (now : IsWhole m p) (like : SameButFor dirty l o m p) where
  abbrev own : Maker → GroupId
  own = owner_by l.requests m.requests

  abbrev r : Reads
  r = kept dirty l.requests m.requests

  abbrev is_out : GroupId → Bool
  is_out g = not (is_listed dirty g)

  -- ---- look-ups

  entity_same : (h : ℕ) → r.entities h ≡ true → entity_at h p.entities ≡ entity_at h o.entities
  entity_same h k =
      let t : Entity s → Bool = λ e. h == e.id.0 in
      let q : Entity s → Bool = λ e. is_out e.group in
      sym (find_within t q p.entities (there p.entities (entities_owned own m p now (are_now dirty l o m p before now like))))
      ∙ ap (find t) like.entities
      ∙ find_within t q o.entities (there o.entities (entities_owned own l o before (are_before dirty l o m p before now like)))
    where
      there : (es : List (Entity s)) → AllByRecursion (λ (e : Entity s). own (maker_of e.id.0) ≡ e.group) es → Within (λ (e : Entity s). h == e.id.0) (λ (e : Entity s). is_out e.group) es
      there es a =
          all_weaker (λ (e : Entity s). own (maker_of e.id.0) ≡ e.group) (λ (e : Entity s). (h == e.id.0) ≡ true → is_out e.group ≡ true) es
          (λ e is t. subst (λ (g : GroupId). is_out g ≡ true) (ap (λ (j : ℕ). own (maker_of j)) (eqb-true h e.id.0 t) ∙ is) k) a

  pub group_same : (g : GroupId) → is_listed dirty g ≡ false → group_at g.0 m.groups ≡ group_at g.0 l.groups
  group_same g out =
      let t : Group s → Bool = λ x. nat_eq g.0 x.id.0 in
      let q : Group s → Bool = λ x. is_out x.id in
      sym (find_within t q m.groups (there m.groups)) ∙ ap (find t) like.groups ∙ find_within t q l.groups (there l.groups)
    where
      there : (gs : List (Group s)) → Within (λ (x : Group s). nat_eq g.0 x.id.0) (λ (x : Group s). is_out x.id) gs
      there gs = each (λ (x : Group s). nat_eq g.0 x.id.0 ≡ true → is_out x.id ≡ true) (λ x t. subst (λ (i : GroupId). is_out i ≡ true) (same_group g x.id (eqb-true g.0 x.id.0 t)) (fails (is_listed dirty g) out)) gs

  -- the request that a handle leads to
  module _ (n : ℕ) where
    abbrev numbered : Request → Bool
    numbered q = n == q.id.0

    abbrev outer : Request → Bool
    outer q = is_out q.group

    kept_in : (rs : List Request) (q : Request) → request_at n rs ≡ Some q → is_listed dirty q.group ≡ false → find numbered (filter outer rs) ≡ Some q
    kept_in rs q e f = find_kept numbered outer rs q e (fails (is_listed dirty q.group) f)

    request_by : is_listed dirty (unwrap_or (option_or (group_of (request_at n m.requests)) (group_of (request_at n l.requests))) nobody) ≡ false
        → (a b : Option Request) → request_at n m.requests ≡ a → request_at n l.requests ≡ b → request_at n m.requests ≡ request_at n l.requests
    request_by out None None e f = e ∙ sym f
    request_by out None (Some q) e f =
        let off : is_listed dirty q.group ≡ false = rw (e, f) at out in
        let no : None ≡ Some q = sym (find_none numbered outer m.requests e) ∙ ap (find numbered) like.requests ∙ kept_in l.requests q f off in cc no
    request_by out (Some q) None e f =
        let off : is_listed dirty q.group ≡ false = rw e at out in
        let no : Some q ≡ None = sym (kept_in m.requests q e off) ∙ ap (find numbered) like.requests ∙ find_none numbered outer l.requests f in cc no
    request_by out (Some q) (Some b) e f =
        let off : is_listed dirty q.group ≡ false = rw e at out in
        let off2 : is_listed dirty b.group ≡ false = ap (is_listed dirty) (sym (like.stay n b q f e)) ∙ off in
        e ∙ sym (kept_in m.requests q e off) ∙ ap (find numbered) like.requests ∙ kept_in l.requests b f off2 ∙ sym f

    request_same : is_listed dirty (unwrap_or (option_or (group_of (request_at n m.requests)) (group_of (request_at n l.requests))) nobody) ≡ false → request_at n m.requests ≡ request_at n l.requests
    request_same out = request_by out (request_at n m.requests) (request_at n l.requests) refl refl

  -- ---- one group

  module _ (g : Group s) (out : is_listed dirty g.id ≡ false) where
    of_mine : (i : GroupId) → (i.0 == g.id.0) ≡ true → is_out i ≡ true
    of_mine i t = subst (λ (j : GroupId). is_out j ≡ true) (sym (same_group i g.id (eqb-true i.0 g.id.0 t))) (fails (is_listed dirty g.id) out)

    abbrev mine : Entity s → Bool
    mine e = e.group.0 == g.id.0

    pub entities_same : filter mine p.entities ≡ filter mine o.entities
    entities_same =
        let q : Entity s → Bool = λ e. is_out e.group in
        sym (filter_within mine q p.entities (each (λ (e : Entity s). mine e ≡ true → q e ≡ true) (λ e t. of_mine e.group t) p.entities))
        ∙ ap (filter mine) like.entities
        ∙ filter_within mine q o.entities (each (λ (e : Entity s). mine e ≡ true → q e ≡ true) (λ e t. of_mine e.group t) o.entities)

    pub constraints_same : own_constraints g m.constraints ≡ own_constraints g l.constraints
    constraints_same =
        let t : Constraint s → Bool = λ c. c.group.0 == g.id.0 in
        let q : Constraint s → Bool = λ c. is_out c.group in
        sym (filter_within t q m.constraints (each (λ (c : Constraint s). t c ≡ true → q c ≡ true) (λ c e. of_mine c.group e) m.constraints))
        ∙ ap (filter t) like.constraints
        ∙ filter_within t q l.constraints (each (λ (c : Constraint s). t c ≡ true → q c ≡ true) (λ c e. of_mine c.group e) l.constraints)

    pub unknowns_same : unknown_params m.constraints p.entities g ≡ unknown_params l.constraints o.entities g
    unknowns_same = unknown-same g p.entities m.constraints o.entities l.constraints entities_same constraints_same

    pub own_same : unknown_params [] p.entities g ≡ unknown_params [] o.entities g
    own_same = unknown-same g p.entities [] o.entities [] entities_same refl

    module _ (reads : ReadsOutside dirty r m p) (there : group_at g.id.0 m.groups ≡ Some g) where
      -- ---- what is read is outside

      zero_read : r.entities 0 ≡ true
      zero_read =
          let a = none_at m.requests (recursion_from_All IsCheckedRequest m.requests now.checked.requests) in
          let b = none_at l.requests (recursion_from_All IsCheckedRequest l.requests before.checked.requests) in
          rw (a, b) (fails (is_listed dirty nobody) reads.some)

      item_read : (n : ℕ) → item_of_group g.id.0 0 ≤ n → n ≤ item_of_group g.id.0 65535 → r.params n ≡ true
      item_read n low high = ap is_out (item_owned own m p now (are_now dirty l o m p before now like) g.id n low high) ∙ fails (is_listed dirty g.id) out

      four_read : (i : ℕ) → i ≤ 65532 → FourRead r (item_of_group g.id.0 i)
      four_read i few = (
        item_read (item_of_group g.id.0 i) (omega arith) (omega (arith, few)),
        item_read (item_of_group g.id.0 i + 1) (omega arith) (omega (arith, few)),
        item_read (item_of_group g.id.0 i + 2) (omega arith) (omega (arith, few)),
        item_read (item_of_group g.id.0 i + 3) (omega arith) (omega (arith, few)),
      )

      owned : AllByRecursion (EntityOwned own m p now (are_now dirty l o m p before now like)) p.entities
      owned = entities_owned own m p now (are_now dirty l o m p before now like)

      names_read : All (λ (e : Entity s). IsRead r e.id → NamesRead r e) p.entities
      names_read = All-from_recursion (λ (e : Entity s). IsRead r e.id → NamesRead r e) p.entities
          (both_hold (EntityOwned own m p now (are_now dirty l o m p before now like)) (λ (e : Entity s). is_listed dirty e.group ≡ false → NamesRead r e) (λ (e : Entity s). IsRead r e.id → NamesRead r e) p.entities
          (λ e is h k. h (passes (is_listed dirty e.group) (subst (λ (i : GroupId). is_out i ≡ true) is k)))
          owned (recursion_from_All (λ (e : Entity s). is_listed dirty e.group ≡ false → NamesRead r e) p.entities reads.entities))

      group_read : All (IsRead r) (group_reads g)
      group_read = found_holds (λ (x : Group s). is_listed dirty x.id ≡ false → All (IsRead r) (group_reads x)) g.id.0 m.groups g reads.groups there out

      holds : HoldsNeeds r g p.entities m.constraints
      holds = record {
        nothing = zero_read;
        vector = four_read 0 (omega arith);
        quaternion = four_read 3 (omega arith);
        workplane = plane_read r g.kind g.entity_b (if g.by_lines then g.entity_b ∷ g.entity_c ∷ [] else []) group_read;
        own = All-from_recursion (λ (e : Entity s). IsRead r e.id) (filter mine p.entities)
            (filter_holds (EntityOwned own m p now (are_now dirty l o m p before now like)) (λ (e : Entity s). IsRead r e.id) mine p.entities (λ e is t. ap is_out is ∙ of_mine e.group t) owned);
        constraints = All-from_recursion (NeededRead {s = s} r) (own_constraints g m.constraints)
            (filter_holds (λ (c : Constraint s). is_listed dirty c.group ≡ false → NeededRead r c) (NeededRead {s = s} r) (λ (c : Constraint s). c.group.0 == g.id.0) m.constraints
            (λ c h t. h (passes (is_listed dirty c.group) (of_mine c.group t))) (recursion_from_All (λ (c : Constraint s). is_listed dirty c.group ≡ false → NeededRead r c) m.constraints reads.constraints));
        names = names_read;
      }

      same_reads : SameReads r g p.entities m.constraints o.entities l.constraints
      same_reads = record {
        own = entities_same;
        constraints = constraints_same;
        there = entity_same;
      }

      -- ---- over numbers that agree

      module _ (n k : Numbers s) (agree : AgreeOutside dirty (owners l.requests m.requests) n k) where
        abbrev pair : List ParamId → Pair s
        pair us = record { reads = r; group = g.id; entities = p.entities; others = o.entities; unknowns = us; first = k; second = n }

        value_same : (h : ℕ) → r.params h ≡ true → value_of h k.params ≡ value_of h n.params
        value_same h e = agree.params h (passes (is_listed dirty (own (maker_of h))) e)

        act_same : (h : ℕ) → r.entities h ≡ true → act_at h k.acts ≡ act_at h n.acts
        act_same h e = agree.acts h (passes (is_listed dirty (own (maker_of h))) e)

        alike : IsAlike (pair [])
        alike = record { nothing = zero_read; vector = four_read 0 (omega arith); quaternion = four_read 3 (omega arith); names = names_read; there = entity_same; alike = record { values = λ h e none. value_same h e; acts = act_same } }

        -- ---- the frame

        vector_same : (e : Option (Entity s)) → IfRead r e → vector_of k.acts e ≡ vector_of n.acts e
        vector_same None h = refl
        vector_same (Some e) h =
            let a = act_same (named e.points 0).0 (in_place (pair []) alike e.points 0 h.names.points) in
            let b = act_same (named e.points 1).0 (in_place (pair []) alike e.points 1 h.names.points) in
            λ i. all_of (map (λ (j : ℕ). grid_of (get_or (values_or_zeros (a i)) j (pos 0) -ℤ get_or (values_or_zeros (b i)) j (pos 0))) (0 ∷ 1 ∷ 2 ∷ []))

        line_same : (e : EntityId) → IsRead r e → vector_of k.acts (entity_at e.0 p.entities) ≡ vector_of n.acts (entity_at e.0 o.entities)
        line_same e h = vector_same (entity_at e.0 p.entities) (found (pair []) alike e h) ∙ ap (vector_of n.acts) (entity_same e.0 h)

        frame_same : g.by_lines ≡ true → frame_of p.entities k.acts g ≡ frame_of o.entities n.acts g
        unfolding frame_of
        frame_same t =
            let both = two_read r g.kind g.entity_b g.entity_b g.entity_c (rw t at group_read) in
            let b = line_same g.entity_b both.0 in
            let c = line_same g.entity_c both.1 in
            λ i. then_frame (λ u. then_frame (λ v. line_frame s u v g.swap_uv g.negate_u g.negate_v) (within (c i))) (within (b i))

        pub bad_same : bad_frame_of p.entities k.acts g ≡ bad_frame_of o.entities n.acts g
        bad_same = branch g.by_lines (fault_in (frame_of p.entities k.acts g)) None (fault_in (frame_of o.entities n.acts g)) None (λ t. ap fault_in (frame_same t)) (λ f. refl)

        framed_same : (h : ℕ) → r.entities h ≡ true → act_at h (framed p.entities k.acts g) ≡ act_at h (framed o.entities n.acts g)
        framed_same h e =
            branch_in (act_at h) g.by_lines (with_acts (at (frame_of p.entities k.acts g) ∷ []) k.acts) k.acts (with_acts (at (frame_of o.entities n.acts g) ∷ []) n.acts) n.acts
            (λ t. act_alike h (at (frame_of p.entities k.acts g) ∷ []) k.acts n.acts (act_same h e) ∙ ap (λ f. act_at h (with_acts (at f ∷ []) n.acts)) (frame_same t))
            (λ f. act_same h e)
          where
            at : Result (List ℤ) FrameFault → Act s
            at f = record { entity = own_normal g; values = quaternion_in s f }

        -- ---- the system

        pub system_same : (fixed : List (ParamValue s)) → system_of p.entities m.constraints k g fixed ≡ system_of o.entities l.constraints n g fixed
        system_same fixed =
            outlines_law s r g p.entities m.constraints o.entities l.constraints (ready p.entities k g fixed) (ready o.entities n g fixed) holds same_reads
            (record { values = λ h e none. value_alike h fixed k.params n.params (value_same h e); acts = framed_same })

        pub seen_same : (fixed : List (ParamValue s)) (x : List ℤ) → seen_of p.entities m.constraints k g fixed x ≡ seen_of o.entities l.constraints n g fixed x
        unfolding seen_of
        seen_same fixed x = ap (λ y. seen_at s y x) (system_same fixed)

        pub acts_same : (ps : List (ParamValue s)) → acts_of p.entities m.constraints k g ps ≡ acts_of o.entities l.constraints n g ps
        unfolding acts_of
        acts_same ps =
            ap (λ (us : List ParamId). acts_at (system_of p.entities m.constraints k g (fixed_of (is_one_of us) ps)) (point_of (is_one_of us) ps)) unknowns_same
            ∙ ap (λ y. acts_at y (point_of (is_one_of (unknown_params l.constraints o.entities g)) ps)) (system_same (fixed_of (is_one_of (unknown_params l.constraints o.entities g)) ps))

        -- ---- where parameters start

        normal_same : (i : ℕ) (e : Option (Entity s)) → IfRead r e → normal_reading (numbers_source p.entities k g.id) i e ≡ normal_reading (numbers_source o.entities n g.id) i e
        normal_same i None h = refl
        normal_same i (Some w) h = let f = frame-same (pair []) alike w h in λ j. component_reading s i (f j).n

        along_same : (i : ℕ) → IsRead r g.entity_b → along p.entities k g i ≡ along o.entities n g i
        along_same i h =
            let a = normal_same i (entity_at g.entity_b.0 p.entities) (found (pair []) alike g.entity_b h) ∙ ap (normal_reading (numbers_source o.entities n g.id) i) (entity_same g.entity_b.0 h) in
            λ j. if g.entity_b.0 == 0 then pos 0 else a j

        kind_same : (c : GroupKind) (i : ℕ) → PlaneRead r c g.entity_b → group_start c p.entities k g i ≡ group_start c o.entities n g i
        kind_same Space i h = refl
        kind_same Plane i h = refl
        kind_same Extrude i h = along_same i h
        kind_same Translate i h = refl
        kind_same Linked i h = refl

        pub start_same : (c : Maker) → is_listed dirty (own c) ≡ false → start_by m.requests p.entities k g c ≡ start_by l.requests o.entities n g c
        start_same (OfRequest q i) off = ap (drawn_start s i) (request_same q.0 off)
        start_same (OfGroup q i) off = kind_same g.kind i holds.workplane
