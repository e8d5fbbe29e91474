-- Points, normals, distances and workplanes are the same trees over outlines and numbers that are alike where they are read.
use Rattle.std.proofs.Common.{◌≡◌, ℕ, zero, suc, ◌+◌, ℤ, pos, Bool, true, false, List, [], ◌∷◌, Option, Some, None, refl, ap, ◌∙◌, subst, unwrap_or}
use Rattle.std.specs.Prelude.{◌==◌, ◌&&◌, if◌then◌else◌}
use Rattle.std.specs.List.{All}
use Rattle.std.proofs.lemmas.Bool.{eqb-true}
use Rattle.std.proofs.lemmas.List.Elements.{All-head, All-tail}
use Rattle.sk_types.specs.declared.handle.EntityId.{EntityId}
use Rattle.sk_types.specs.declared.handle.GroupId.{GroupId}
use Rattle.sk_types.specs.declared.handle.ParamId.{ParamId}
use Rattle.sk_types.specs.declared.entity.Entity.{Entity}
use Rattle.sk_types.specs.declared.entity.Numbering.{Numbering}
use Rattle.sk_types.specs.declared.entity.Numbering.TheVariants.{Own, Moved, Copied, Placed, Nothing}
use Rattle.sk_types.specs.declared.entity.Numbers.{Numbers}
use Rattle.sk_types.specs.declared.entity_kind.TheConstants as entity_kind
use Rattle.sk_types.specs.Handles.{item_of_group}
use Rattle.sk_types.specs.Needs.{named}
use Rattle.sk_types.specs.Lookups.{entity_at, place_of}
use Rattle.sk_expr.specs.Poly.{Poly, number}
use Rattle.sk_expr.specs.Vectors.{vector_sum, scaled, scaled_by}
use Rattle.sk_geom.specs.Sources.{Source, unknown_or_number, param_tree, three_params, four_params, group_vector, group_quaternion, number_at, three_numbers, four_numbers, values_or_zeros, act_numbers}
use Rattle.sk_geom.specs.Quaternions.{quaternion_axes, quaternion_product}
use Rattle.sk_geom.specs.EntityTrees.{of_entity, whole_units, moved_point, turned_point, own_point, space_point, own_normal, space_normal, point_named, normal_named, frame, own_pair, point_in, drawn_point, point_tree, normal_tree, own_distance, distance_tree, projected, flat_tree}
use Rattle.sk_system.specs.LookupLaws.{Reads, IsRead, FourRead, NumbersRead, NamesRead, AreAlike}

-- two outlines and two lots of numbers for one group
pub record Pair (s : ℕ) : Type 0 where
  pub reads : Reads
  pub group : GroupId
  pub entities : List (Entity s)
  pub others : List (Entity s)
  pub unknowns : List ParamId
  pub first : Numbers s
  pub second : Numbers s

abbrev pub one : {s : ℕ} → Pair s → Source s
one x = record { entities = x.entities; params = x.first.params; acts = x.first.acts; unknowns = x.unknowns; group = x.group }

abbrev pub other : {s : ℕ} → Pair s → Source s
other x = record { entities = x.others; params = x.second.params; acts = x.second.acts; unknowns = x.unknowns; group = x.group }

abbrev pub NamesOf : {s : ℕ} → Reads → Entity s → Type 0
NamesOf r e = IsRead r e.id → NamesRead r e

pub record IsAlike {s : ℕ} (x : Pair s) : Type 0 where
  pub nothing : x.reads.entities 0 ≡ true
  pub vector : FourRead x.reads (item_of_group x.group.0 0)
  pub quaternion : FourRead x.reads (item_of_group x.group.0 3)
  pub names : All (NamesOf {s = s} x.reads) x.entities
  pub there : (h : ℕ) → x.reads.entities h ≡ true → entity_at h x.entities ≡ entity_at h x.others
  pub alike : AreAlike x.reads x.unknowns x.first x.second

-- ---- what a look-up finds is read, with all that it names

pub record EntityRead {s : ℕ} (r : Reads) (e : Entity s) : Type 0 where
  pub self : IsRead r e.id
  pub names : NamesRead r e

abbrev pub IfRead : {s : ℕ} → Reads → Option (Entity s) → Type 0
IfRead r None = Unit {0}
IfRead r (Some e) = EntityRead r e

picked : {s : ℕ} (r : Reads) (e : Entity s) (rest : Option (Entity s)) (h : ℕ) (t : Bool) → (h == e.id.0) ≡ t → r.entities h ≡ true → NamesOf r e → IfRead r rest → IfRead r (if t then Some e else rest)
picked r e rest h true t k f y = let q = subst (λ n. r.entities n ≡ true) (eqb-true h e.id.0 t) k in record { self = q; names = f q }
picked r e rest h false t k f y = y

looked : {s : ℕ} (r : Reads) (es : List (Entity s)) → All (NamesOf {s = s} r) es → (h : ℕ) → r.entities h ≡ true → IfRead r (entity_at h es)
looked r [] a h k = tt
looked {s} r (e ∷ es) a h k = picked r e (entity_at h es) h (h == e.id.0) refl k (All-head (NamesOf {s = s} r) e es a) (looked r es (All-tail (NamesOf {s = s} r) e es a) h k)

pub named-read : (r : Reads) → r.entities 0 ≡ true → (ps : List EntityId) (i : ℕ) → All (IsRead r) ps → IsRead r (named ps i)
named-read r z [] i a = z
named-read r z (p ∷ ps) zero a = All-head (IsRead r) p ps a
named-read r z (p ∷ ps) (suc i) a = named-read r z ps i (All-tail (IsRead r) p ps a)

pub of-there : {s : ℕ} (r : Reads) (none : List (Poly ℤ)) (f g : Entity s → List (Poly ℤ)) (e : Option (Entity s)) → ((e : Entity s) → EntityRead r e → f e ≡ g e) → IfRead r e → of_entity none f e ≡ of_entity none g e
of-there r none f g None h k = refl
of-there r none f g (Some e) h k = h e k

placed : (p : Option ℕ) (u v : Option ℤ) → (p ≡ None → u ≡ v) → unknown_or_number p (unwrap_or u (pos 0)) ≡ unknown_or_number p (unwrap_or v (pos 0))
placed (Some n) u v e = refl
placed None u v e = λ i. number (unwrap_or (e refl i) (pos 0))

module _ {s : ℕ} (x : Pair s) (a : IsAlike x) where
  abbrev r : Reads
  r = x.reads

  pub found : (e : EntityId) → IsRead r e → IfRead r (entity_at e.0 x.entities)
  found e k = looked r x.entities a.names e.0 k

  pub in_place : (ps : List EntityId) (i : ℕ) → All (IsRead r) ps → IsRead r (named ps i)
  in_place ps i k = named-read r a.nothing ps i k

  -- ---- parameters and numbers

  param-same : (h : ℕ) → r.params h ≡ true → param_tree (one x) h ≡ param_tree (other x) h
  unfolding param_tree
  param-same h k = placed (place_of h x.unknowns) _ _ (a.alike.values h k)

  three-same : (h : ℕ) → FourRead r h → three_params (one x) h ≡ three_params (other x) h
  unfolding three_params
  three-same h k = λ i. param-same h k.0 i ∷ param-same (h + 1) k.1 i ∷ param-same (h + 2) k.2 i ∷ []

  four-same : (h : ℕ) → FourRead r h → four_params (one x) h ≡ four_params (other x) h
  unfolding four_params
  four-same h k = λ i. param-same h k.0 i ∷ param-same (h + 1) k.1 i ∷ param-same (h + 2) k.2 i ∷ param-same (h + 3) k.3 i ∷ []

  pub vector-same : group_vector (one x) ≡ group_vector (other x)
  unfolding group_vector
  vector-same = three-same (item_of_group x.group.0 0) a.vector

  pub quaternion-same : group_quaternion (one x) ≡ group_quaternion (other x)
  unfolding group_quaternion
  quaternion-same = four-same (item_of_group x.group.0 3) a.quaternion

  pub act-same : (e : EntityId) → IsRead r e → act_numbers (one x) e ≡ act_numbers (other x) e
  unfolding act_numbers
  act-same e k = λ i. values_or_zeros (a.alike.acts e.0 k i)

  -- ---- points and normals

  moved-same : (from : EntityId) (k : ℤ) → IsRead r from → moved_point (one x) from k ≡ moved_point (other x) from k
  unfolding moved_point
  moved-same from k h = λ i. vector_sum (three_numbers (act-same from h i)) (scaled (number (whole_units s k)) (vector-same i))

  turned-same : (zs : List ℤ) → turned_point (one x) zs ≡ turned_point (other x) zs
  unfolding turned_point
  turned-same zs = λ i.
      let q = quaternion_axes s (quaternion-same i) in
      vector_sum (vector_sum (vector_sum (scaled_by q.u (number_at zs 0)) (scaled_by q.v (number_at zs 1))) (scaled_by q.n (number_at zs 2))) (vector-same i)

  own_point-same : (e : EntityId) (n : Numbering s) → IsRead r e → NumbersRead r n → own_point (one x) e n ≡ own_point (other x) e n
  own_point-same e (Own p) h k = three-same p.0 k
  own_point-same e (Moved from t) h k = moved-same from t k
  own_point-same e (Placed zs) h k = turned-same zs
  own_point-same e (Copied from) h k = λ i. three_numbers (act-same from k i)
  own_point-same e Nothing h k = λ i. three_numbers (act-same e h i)

  space_point-same : (e : Entity s) → EntityRead r e → space_point (one x) e ≡ space_point (other x) e
  unfolding space_point
  space_point-same e h = λ i. if e.group.0 == x.group.0 then own_point-same e.id e.numbers h.self h.names.numbers i else three_numbers (act-same e.id h.self i)

  turned_normal-same : (k : ℕ) (zs : List ℤ) → own_normal (one x) (record { 0 = 0 }) k (Placed zs) ≡ own_normal (other x) (record { 0 = 0 }) k (Placed zs)
  turned_normal-same k zs = λ i. if k == entity_kind.TURNED_NORMAL then quaternion_product (quaternion-same i) (four_numbers zs) else four_numbers zs

  own_normal-same : (e : EntityId) (k : ℕ) (n : Numbering s) → IsRead r e → NumbersRead r n → own_normal (one x) e k n ≡ own_normal (other x) e k n
  own_normal-same e k (Own p) h l = four-same p.0 l
  own_normal-same e k (Moved from t) h l = refl
  own_normal-same e k (Placed zs) h l = turned_normal-same k zs
  own_normal-same e k (Copied from) h l = λ i. four_numbers (act-same from l i)
  own_normal-same e k Nothing h l = λ i. four_numbers (act-same e h i)

  space_normal-same : (e : Entity s) → EntityRead r e → space_normal (one x) e ≡ space_normal (other x) e
  unfolding space_normal
  space_normal-same e h = λ i. if e.group.0 == x.group.0 then own_normal-same e.id e.kind e.numbers h.self h.names.numbers i else four_numbers (act-same e.id h.self i)

  -- ---- workplanes

  point_named-same : (e : EntityId) → IsRead r e → point_named (one x) e ≡ point_named (other x) e
  unfolding point_named
  point_named-same e k = of-there r (three_numbers []) (space_point (one x)) (space_point (other x)) (entity_at e.0 x.entities) space_point-same (found e k) ∙ ap (of_entity (three_numbers []) (space_point (other x))) (a.there e.0 k)

  normal_named-same : (e : EntityId) → IsRead r e → normal_named (one x) e ≡ normal_named (other x) e
  unfolding normal_named
  normal_named-same e k = of-there r (four_numbers []) (space_normal (one x)) (space_normal (other x)) (entity_at e.0 x.entities) space_normal-same (found e k) ∙ ap (of_entity (four_numbers []) (space_normal (other x))) (a.there e.0 k)

  pub frame-same : (w : Entity s) → EntityRead r w → frame (one x) w ≡ frame (other x) w
  unfolding frame
  frame-same w h = λ i.
      let q = quaternion_axes s (normal_named-same w.normal h.names.normal i) in
      record { origin = point_named-same (named w.points 0) (in_place w.points 0 h.names.points) i; u = q.u; v = q.v; n = q.n }

  -- ---- points, normals and distances of any kind

  pair-same : (n : Numbering s) → NumbersRead r n → own_pair (one x) n ≡ own_pair (other x) n
  pair-same (Own p) k = λ i. param-same p.0 k.0 i ∷ param-same (p.0 + 1) k.1 i ∷ []
  pair-same (Moved from t) k = refl
  pair-same (Placed zs) k = refl
  pair-same (Copied from) k = refl
  pair-same Nothing k = refl

  drawn-same : (e : Entity s) (w : Option (Entity s)) → EntityRead r e → IfRead r w → drawn_point (one x) e w ≡ drawn_point (other x) e w
  drawn-same e None h k = refl
  drawn-same e (Some w) h k = λ i. point_in (frame-same w k i) (pair-same e.numbers h.names.numbers i)

  drawn-there : (e : Entity s) → EntityRead r e → drawn_point (one x) e (entity_at e.workplane.0 x.entities) ≡ drawn_point (other x) e (entity_at e.workplane.0 x.others)
  drawn-there e h =
      let k = h.names.workplane in
      drawn-same e (entity_at e.workplane.0 x.entities) h (found e.workplane k) ∙ ap (drawn_point (other x) e) (a.there e.workplane.0 k)

  pub point-same : (e : Entity s) → EntityRead r e → point_tree (one x) e ≡ point_tree (other x) e
  unfolding point_tree
  point-same e h = λ i.
      if e.group.0 == x.group.0 && e.kind == entity_kind.POINT_IN_WORKPLANE then drawn-there e h i
      else space_point-same e h i

  drawn_normal-same : (w : Option (Entity s)) → IfRead r w → of_entity (four_numbers []) (λ w. normal_named (one x) w.normal) w ≡ of_entity (four_numbers []) (λ w. normal_named (other x) w.normal) w
  drawn_normal-same w k =
      of-there r (four_numbers []) (λ w. normal_named (one x) w.normal) (λ w. normal_named (other x) w.normal) w (λ w l. normal_named-same w.normal l.names.normal) k

  drawn_normal-there : (e : Entity s) → EntityRead r e → of_entity (four_numbers []) (λ w. normal_named (one x) w.normal) (entity_at e.workplane.0 x.entities) ≡ of_entity (four_numbers []) (λ w. normal_named (other x) w.normal) (entity_at e.workplane.0 x.others)
  drawn_normal-there e h =
      let k = h.names.workplane in
      drawn_normal-same (entity_at e.workplane.0 x.entities) (found e.workplane k) ∙ ap (of_entity (four_numbers []) (λ w. normal_named (other x) w.normal)) (a.there e.workplane.0 k)

  pub normal-same : (e : Entity s) → EntityRead r e → normal_tree (one x) e ≡ normal_tree (other x) e
  unfolding normal_tree
  normal-same e h = λ i.
      if e.group.0 == x.group.0 && e.kind == entity_kind.NORMAL_IN_WORKPLANE then drawn_normal-there e h i
      else space_normal-same e h i

  own_distance-same : (n : Numbering s) → NumbersRead r n → own_distance (one x) n ≡ own_distance (other x) n
  own_distance-same (Own p) k = param-same p.0 k.0
  own_distance-same (Moved from t) k = refl
  own_distance-same (Placed zs) k = refl
  own_distance-same (Copied from) k = λ i. number_at (act-same from k i) 0
  own_distance-same Nothing k = refl

  pub distance-same : (e : Entity s) → EntityRead r e → distance_tree (one x) e ≡ distance_tree (other x) e
  unfolding distance_tree
  distance-same e h = λ i. if e.group.0 == x.group.0 then own_distance-same e.numbers h.names.numbers i else number_at (act-same e.id h.self i) 0

  pub flat-same : (w e : Entity s) → EntityRead r w → EntityRead r e → flat_tree (one x) w e ≡ flat_tree (other x) w e
  unfolding flat_tree
  flat-same w e k h = λ i.
      if e.kind == entity_kind.POINT_IN_WORKPLANE && e.workplane.0 == w.id.0 then pair-same e.numbers h.names.numbers i else projected (frame-same w k i) (point-same e h i)
