-- Every place in a tree of an entity is that of an unknown of its source, and no cosine stands in it.
use Rattle.std.proofs.Common.{◌≡◌, ℕ, zero, suc, ◌+◌, ℤ, Bool, true, false, List, [], ◌∷◌, length, Option, Some, None, refl}
use Rattle.std.specs.Prelude.{◌==◌, ◌&&◌, All, if◌then◌else◌}
use Rattle.std.proofs.lemmas.List.Quantifiers.{position-Some}
use Rattle.std.proofs.lemmas.List.Elements.{All-cons, All-nil}
use Rattle.sk_types.specs.declared.handle.EntityId.{EntityId}
use Rattle.sk_types.specs.declared.handle.ParamId.{ParamId}
use Rattle.sk_types.specs.declared.entity.Entity.{Entity}
use Rattle.sk_types.specs.declared.entity.Numbering.{Numbering}
use Rattle.sk_types.specs.declared.entity.Numbering.TheVariants.{Own, Moved, Copied, Placed, Nothing}
use Rattle.sk_types.specs.declared.entity_kind.TheConstants as entity_kind
use Rattle.sk_types.specs.Needs.{named}
use Rattle.sk_types.specs.Lookups.{entity_at, place_of}
use Rattle.sk_expr.specs.Poly.{Poly, plus, times, IsInRange}
use Rattle.sk_expr.specs.Vectors.{component, vector_sum, vector_difference, scaled, scaled_by, dot, dot_onto}
use Rattle.sk_expr.specs.Parts.{NormalAxes, PlaneFrame}
use Rattle.sk_geom.specs.Sources.{Source, unknown_or_number, param_tree, three_params, four_params, group_vector, group_quaternion, three_numbers, four_numbers, act_numbers}
use Rattle.sk_geom.specs.Quaternions.{quaternion_axes, quaternion_product, twice}
use Rattle.sk_geom.specs.EntityTrees.{is_own, of_entity, moved_point, turned_point, own_point, space_point, own_normal, space_normal, point_named, normal_named, frame, own_pair, point_in, drawn_point, point_tree, normal_tree, own_distance, distance_tree, projected, flat_tree}

module _ (u c : ℕ) where
  -- each place in a list of polynomials is below u, or below c for cosines
  abbrev pub AreIn : List (Poly ℤ) → Type 0
  AreIn [] = Unit {0}
  AreIn (t ∷ ts) = IsInRange u c t × AreIn ts

  pub all-in : (ts : List (Poly ℤ)) → AreIn ts → All (IsInRange u c) ts
  all-in [] h = All-nil (IsInRange u c)
  all-in (t ∷ ts) h = All-cons (IsInRange u c) t ts h.0 (all-in ts h.1)

  -- ---- vectors

  component-in : (a : List (Poly ℤ)) (i : ℕ) → AreIn a → IsInRange u c (component a i)
  component-in [] i h = tt
  component-in (x ∷ xs) zero h = h.0
  component-in (x ∷ xs) (suc i) h = component-in xs i h.1

  sum-in : (a b : List (Poly ℤ)) → AreIn a → AreIn b → AreIn (vector_sum a b)
  unfolding vector_sum
  sum-in [] b h k = tt
  sum-in (x ∷ xs) [] h k = tt
  sum-in (x ∷ xs) (y ∷ ys) h k = ((h.0, k.0), sum-in xs ys h.1 k.1)

  difference-in : (a b : List (Poly ℤ)) → AreIn a → AreIn b → AreIn (vector_difference a b)
  unfolding vector_difference
  difference-in [] b h k = tt
  difference-in (x ∷ xs) [] h k = tt
  difference-in (x ∷ xs) (y ∷ ys) h k = ((h.0, k.0), difference-in xs ys h.1 k.1)

  scaled-in : (t : Poly ℤ) (a : List (Poly ℤ)) → IsInRange u c t → AreIn a → AreIn (scaled t a)
  unfolding scaled
  scaled-in t [] r h = tt
  scaled-in t (x ∷ xs) r h = ((r, h.0), scaled-in t xs r h.1)

  scaled_by-in : (a : List (Poly ℤ)) (t : Poly ℤ) → AreIn a → IsInRange u c t → AreIn (scaled_by a t)
  unfolding scaled_by
  scaled_by-in [] t h r = tt
  scaled_by-in (x ∷ xs) t h r = ((h.0, r), scaled_by-in xs t h.1 r)

  dot_onto-in : (t : Poly ℤ) (a b : List (Poly ℤ)) → IsInRange u c t → AreIn a → AreIn b → IsInRange u c (dot_onto t a b)
  dot_onto-in t [] b r h k = r
  dot_onto-in t (x ∷ xs) [] r h k = r
  dot_onto-in t (x ∷ xs) (y ∷ ys) r h k = dot_onto-in (plus t (times x y)) xs ys (r, (h.0, k.0)) h.1 k.1

  dot-in : (a b : List (Poly ℤ)) → AreIn a → AreIn b → IsInRange u c (dot a b)
  unfolding dot
  dot-in [] b h k = tt
  dot-in (x ∷ xs) [] h k = tt
  dot-in (x ∷ xs) (y ∷ ys) h k = dot_onto-in (times x y) xs ys (h.0, k.0) h.1 k.1

  -- ---- quaternions

  pub record AxesIn (a : NormalAxes) : Type 0 where
    pub first : AreIn a.u
    pub second : AreIn a.v
    pub across : AreIn a.n

  twice-in : (s : ℕ) (a b : Poly ℤ) → IsInRange u c a → IsInRange u c b → IsInRange u c (twice s a b)
  twice-in s a b h k = ((tt, h), k)

  axes-in : (s : ℕ) (q : List (Poly ℤ)) → AreIn q → AxesIn (quaternion_axes s q)
  unfolding quaternion_axes
  axes-in s q h =
      let w = component-in q 0 h in
      let x = component-in q 1 h in
      let y = component-in q 2 h in
      let z = component-in q 3 h in
      record {
        first = (((((w, w), (x, x)), (y, y)), (z, z)), ((((tt, w), z), ((tt, x), y)), ((((tt, x), z), ((tt, w), y)), tt)));
        second = ((((tt, x), y), ((tt, w), z)), (((((w, w), (x, x)), (y, y)), (z, z)), ((((tt, w), x), ((tt, y), z)), tt)));
        across = ((((tt, x), z), ((tt, w), y)), ((((tt, y), z), ((tt, w), x)), (((((w, w), (x, x)), (y, y)), (z, z)), tt)));
      }

  product-in : (p q : List (Poly ℤ)) → AreIn p → AreIn q → AreIn (quaternion_product p q)
  unfolding quaternion_product
  product-in p q h k =
      let w = component-in p 0 h in
      let x = component-in p 1 h in
      let y = component-in p 2 h in
      let z = component-in p 3 h in
      let a = component-in q 0 k in
      let b = component-in q 1 k in
      let e = component-in q 2 k in
      let d = component-in q 3 k in
      (((((w, a), (x, b)), (y, e)), (z, d)), (((((w, b), (x, a)), (y, d)), (z, e)), (((((w, e), (x, d)), (y, a)), (z, b)), (((((w, d), (x, e)), (y, b)), (z, a)), tt))))

-- ---- entities

module _ {s : ℕ} (o : Source s) where
  abbrev In : List (Poly ℤ) → Type 0
  In ts = AreIn (length o.unknowns) 0 ts

  abbrev Is : Poly ℤ → Type 0
  Is t = IsInRange (length o.unknowns) 0 t

  placed-in : (r : Option ℕ) (h : ℕ) (z : ℤ) → place_of h o.unknowns ≡ r → Is (unknown_or_number r z)
  placed-in None h z e = tt
  placed-in (Some i) h z e = (position-Some (λ (p : ParamId). h == p.0) o.unknowns i (record { 0 = 0 }) e).0

  param-in : (h : ℕ) → Is (param_tree o h)
  unfolding param_tree
  param-in h = placed-in (place_of h o.unknowns) h _ refl

  three-in : (h : ℕ) → In (three_params o h)
  unfolding three_params
  three-in h = (param-in h, (param-in (h + 1), (param-in (h + 2), tt)))

  four-in : (h : ℕ) → In (four_params o h)
  unfolding four_params
  four-in h = (param-in h, (param-in (h + 1), (param-in (h + 2), (param-in (h + 3), tt))))

  vector-in : In (group_vector o)
  unfolding group_vector
  vector-in = three-in _

  quaternion-in : In (group_quaternion o)
  unfolding group_quaternion
  quaternion-in = four-in _

  numbers-in : (zs : List ℤ) → In (three_numbers zs)
  numbers-in zs = (tt, (tt, (tt, tt)))

  four_numbers-in : (zs : List ℤ) → In (four_numbers zs)
  four_numbers-in zs = (tt, (tt, (tt, (tt, tt))))

  moved-in : (from : EntityId) (k : ℤ) → In (moved_point o from k)
  unfolding moved_point
  moved-in from k = sum-in _ _ _ _ (numbers-in (act_numbers o from)) (scaled-in _ _ _ _ tt vector-in)

  turned-in : (zs : List ℤ) → In (turned_point o zs)
  unfolding turned_point
  turned-in zs =
      let a = axes-in _ _ s (group_quaternion o) quaternion-in in
      sum-in _ _ _ _ (sum-in _ _ _ _ (sum-in _ _ _ _ (scaled_by-in _ _ _ _ a.first tt) (scaled_by-in _ _ _ _ a.second tt)) (scaled_by-in _ _ _ _ a.across tt)) vector-in

  own_point-in : (e : EntityId) (n : Numbering s) → In (own_point o e n)
  own_point-in e (Own p) = three-in p.0
  own_point-in e (Moved from k) = moved-in from k
  own_point-in e (Placed zs) = turned-in zs
  own_point-in e (Copied from) = numbers-in (act_numbers o from)
  own_point-in e Nothing = numbers-in (act_numbers o e)

  either-in : (t : Bool) (a b : List (Poly ℤ)) → In a → In b → In (if t then a else b)
  either-in true a b h k = h
  either-in false a b h k = k

  space_point-in : (e : Entity s) → In (space_point o e)
  unfolding space_point
  space_point-in e = either-in (is_own o e) _ _ (own_point-in e.id e.numbers) (numbers-in (act_numbers o e.id))

  own_normal-in : (e : EntityId) (k : ℕ) (n : Numbering s) → In (own_normal o e k n)
  own_normal-in e k (Own p) = four-in p.0
  own_normal-in e k (Moved from n) = four_numbers-in []
  own_normal-in e k (Placed zs) = either-in (k == entity_kind.TURNED_NORMAL) _ _ (product-in _ _ _ _ quaternion-in (four_numbers-in zs)) (four_numbers-in zs)
  own_normal-in e k (Copied from) = four_numbers-in (act_numbers o from)
  own_normal-in e k Nothing = four_numbers-in (act_numbers o e)

  space_normal-in : (e : Entity s) → In (space_normal o e)
  unfolding space_normal
  space_normal-in e = either-in (is_own o e) _ _ (own_normal-in e.id e.kind e.numbers) (four_numbers-in (act_numbers o e.id))

  of_entity-in : (none : List (Poly ℤ)) (f : Entity s → List (Poly ℤ)) (r : Option (Entity s)) → In none → ((e : Entity s) → In (f e)) → In (of_entity none f r)
  of_entity-in none f None h k = h
  of_entity-in none f (Some e) h k = k e

  point_named-in : (e : EntityId) → In (point_named o e)
  unfolding point_named
  point_named-in e = of_entity-in _ (space_point o) (entity_at e.0 o.entities) (numbers-in []) space_point-in

  normal_named-in : (e : EntityId) → In (normal_named o e)
  unfolding normal_named
  normal_named-in e = of_entity-in _ (space_normal o) (entity_at e.0 o.entities) (four_numbers-in []) space_normal-in

  pub record FrameIn (f : PlaneFrame) : Type 0 where
    pub origin : In f.origin
    pub u : In f.u
    pub v : In f.v
    pub n : In f.n

  pub frame-in : (w : Entity s) → FrameIn (frame o w)
  unfolding frame
  frame-in w =
      let a = axes-in _ _ s (normal_named o w.normal) (normal_named-in w.normal) in
      record { origin = point_named-in (named w.points 0); u = a.first; v = a.second; n = a.across }

  own_pair-in : (n : Numbering s) → In (own_pair o n)
  own_pair-in (Own p) = (param-in p.0, (param-in (p.0 + 1), tt))
  own_pair-in (Moved from k) = (tt, (tt, tt))
  own_pair-in (Placed zs) = (tt, (tt, tt))
  own_pair-in (Copied from) = (tt, (tt, tt))
  own_pair-in Nothing = (tt, (tt, tt))

  point_in-in : (f : PlaneFrame) (uv : List (Poly ℤ)) → FrameIn f → In uv → In (point_in f uv)
  unfolding point_in
  point_in-in f uv h k =
      sum-in _ _ _ _ (sum-in _ _ _ _ h.origin (scaled-in _ _ _ _ (component-in _ _ uv 0 k) h.u)) (scaled-in _ _ _ _ (component-in _ _ uv 1 k) h.v)

  drawn-in : (e : Entity s) (w : Option (Entity s)) → In (drawn_point o e w)
  drawn-in e None = numbers-in []
  drawn-in e (Some w) = point_in-in (frame o w) (own_pair o e.numbers) (frame-in w) (own_pair-in e.numbers)

  pub point-in : (e : Entity s) → In (point_tree o e)
  unfolding point_tree
  point-in e =
      either-in (is_own o e && e.kind == entity_kind.POINT_IN_WORKPLANE) _ _ (drawn-in e (entity_at e.workplane.0 o.entities)) (space_point-in e)

  pub normal-in : (e : Entity s) → In (normal_tree o e)
  unfolding normal_tree
  normal-in e =
      either-in (is_own o e && e.kind == entity_kind.NORMAL_IN_WORKPLANE) _ _
      (of_entity-in _ (λ w. normal_named o w.normal) (entity_at e.workplane.0 o.entities) (four_numbers-in []) (λ w. normal_named-in w.normal)) (space_normal-in e)

  own_distance-in : (n : Numbering s) → Is (own_distance o n)
  own_distance-in (Own p) = param-in p.0
  own_distance-in (Moved from n) = tt
  own_distance-in (Placed zs) = tt
  own_distance-in (Copied from) = tt
  own_distance-in Nothing = tt

  either-is : (t : Bool) (a b : Poly ℤ) → Is a → Is b → Is (if t then a else b)
  either-is true a b h k = h
  either-is false a b h k = k

  pub distance-in : (e : Entity s) → Is (distance_tree o e)
  unfolding distance_tree
  distance-in e = either-is (is_own o e) _ _ (own_distance-in e.numbers) tt

  projected-in : (f : PlaneFrame) (p : List (Poly ℤ)) → FrameIn f → In p → In (projected f p)
  unfolding projected
  projected-in f p h k =
      let d = difference-in _ _ p f.origin k h.origin in
      (dot-in _ _ _ _ d h.u, (dot-in _ _ _ _ d h.v, tt))

  pub flat-in : (w e : Entity s) → In (flat_tree o w e)
  unfolding flat_tree
  flat-in w e =
      either-in (e.kind == entity_kind.POINT_IN_WORKPLANE && e.workplane.0 == w.id.0) _ _ (own_pair-in e.numbers) (projected-in (frame o w) (point_tree o e) (frame-in w) (point-in e))

-- ---- the law

-- each place is that of an unknown, and there is no cosine
abbrev pub AllKnown : {s : ℕ} → Source s → List (Poly ℤ) → Type 0
AllKnown o ts = All (IsInRange (length o.unknowns) 0) ts

pub record RangeLaw : Type 0 where
  pub points : (s : ℕ) (o : Source s) (e : Entity s) → AllKnown o (point_tree o e)
  pub normals : (s : ℕ) (o : Source s) (e : Entity s) → AllKnown o (normal_tree o e)
  pub distances : (s : ℕ) (o : Source s) (e : Entity s) → IsInRange (length o.unknowns) 0 (distance_tree o e)
  pub flat_points : (s : ℕ) (o : Source s) (w e : Entity s) → AllKnown o (flat_tree o w e)
  pub origins : (s : ℕ) (o : Source s) (w : Entity s) → AllKnown o (frame o w).origin
  pub first_axes : (s : ℕ) (o : Source s) (w : Entity s) → AllKnown o (frame o w).u
  pub second_axes : (s : ℕ) (o : Source s) (w : Entity s) → AllKnown o (frame o w).v
  pub normal_axes : (s : ℕ) (o : Source s) (w : Entity s) → AllKnown o (frame o w).n
  pub vectors : (s : ℕ) (o : Source s) → AllKnown o (group_vector o)
  pub quaternions : (s : ℕ) (o : Source s) → AllKnown o (group_quaternion o)

pub range_law : RangeLaw
range_law = record {
  points = λ s o e. all-in _ _ _ (point-in o e);
  normals = λ s o e. all-in _ _ _ (normal-in o e);
  distances = λ s o e. distance-in o e;
  flat_points = λ s o w e. all-in _ _ _ (flat-in o w e);
  origins = λ s o w. all-in _ _ _ (frame-in o w).origin;
  first_axes = λ s o w. all-in _ _ _ (frame-in o w).u;
  second_axes = λ s o w. all-in _ _ _ (frame-in o w).v;
  normal_axes = λ s o w. all-in _ _ _ (frame-in o w).n;
  vectors = λ s o. all-in _ _ _ (vector-in o);
  quaternions = λ s o. all-in _ _ _ (quaternion-in o);
}
