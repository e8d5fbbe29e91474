-- The trees of entities are within bounds: every place is that of an unknown of their source, and no cosine stands in them.
use Rattle.std.proofs.Common.{◌≡◌, ℕ, ◌+◌, ◌*◌, ◌≤◌, ℤ, Bool, true, false, List, [], length, Option, Some, None, refl, arith}
use Rattle.std.specs.Prelude.{◌==◌, ◌&&◌, if◌then◌else◌}
use Rattle.std.proofs.lemmas.List.Quantifiers.{position-Some}
use Rattle.sk_types.specs.declared.handle.EntityId.{EntityId}
use Rattle.sk_types.specs.declared.handle.ParamId.{ParamId}
use Rattle.sk_types.specs.declared.entity.Entity.{Entity}
use Rattle.sk_types.specs.declared.entity.Numbering.{Numbering}
use Rattle.sk_types.specs.declared.entity.Numbering.TheVariants.{Own, Moved, Copied, Placed, Nothing}
use Rattle.sk_types.specs.declared.entity_kind.TheConstants as entity_kind
use Rattle.sk_types.specs.Needs.{named}
use Rattle.sk_types.specs.Lookups.{entity_at, place_of}
use Rattle.sk_expr.specs.Poly.{Poly, number}
use Rattle.sk_expr.specs.Vectors.{component, vector_sum, vector_difference, scaled}
use Rattle.sk_expr.specs.Parts.{NormalAxes, PlaneFrame}
use Rattle.sk_geom.specs.Sources.{Source, unknown_or_number, param_tree, three_params, four_params, group_vector, group_quaternion, number_at, three_numbers, four_numbers, act_numbers}
use Rattle.sk_geom.specs.Quaternions.{quaternion_axes, quaternion_product}
use Rattle.sk_geom.specs.EntityTrees.{is_own, of_entity, whole_units, moved_point, turned_point, own_point, space_point, own_normal, space_normal, point_named, normal_named, frame, own_pair, point_in, drawn_point, point_tree, normal_tree, own_distance, distance_tree, projected, flat_tree}
use Rattle.sk_system.specs.Fits.{IsWithin, AreWithin}
use Rattle.sk_system.proofs.Within.{IsVector, loosen-all, loosen-vector, component-in, sum-in, difference-in, scaled-in, scaled_by-in, dot-in}

module _ (u c : ℕ) where
  -- ---- quaternions

  product-in : (p q : List (Poly ℤ)) → AreWithin u c 1 p → AreWithin u c 1 q → AreWithin u c 15 (quaternion_product p q)
  unfolding quaternion_product
  product-in p q h k =
      let w = component-in u c 1 p 0 (omega arith) h in
      let x = component-in u c 1 p 1 (omega arith) h in
      let y = component-in u c 1 p 2 (omega arith) h in
      let z = component-in u c 1 p 3 (omega arith) h in
      let a = component-in u c 1 q 0 (omega arith) k in
      let b = component-in u c 1 q 1 (omega arith) k in
      let e = component-in u c 1 q 2 (omega arith) k in
      let d = component-in u c 1 q 3 (omega arith) k in
      let w' = w.1 in let x' = x.1 in let y' = y.1 in let z' = z.1 in let a' = a.1 in let b' = b.1 in let e' = e.1 in let d' = d.1 in (
        ((((((w.0, a.0), (x.0, b.0)), (y.0, e.0)), (z.0, d.0))), omega (arith, w', x', y', z', a', b', e', d')),
        (
          ((((((w.0, b.0), (x.0, a.0)), (y.0, d.0)), (z.0, e.0))), omega (arith, w', x', y', z', a', b', e', d')),
          (
            ((((((w.0, e.0), (x.0, d.0)), (y.0, a.0)), (z.0, b.0))), omega (arith, w', x', y', z', a', b', e', d')),
            (((((((w.0, d.0), (x.0, e.0)), (y.0, b.0)), (z.0, a.0))), omega (arith, w', x', y', z', a', b', e', d')), tt),
          ),
        ),
      )

  pub record AxesIn (n : ℕ) (a : NormalAxes) : Type 0 where
    pub first : IsVector u c n a.u
    pub second : IsVector u c n a.v
    pub across : IsVector u c n a.n

  pub axes-in : (s n : ℕ) (q : List (Poly ℤ)) → 1 ≤ n → AreWithin u c n q → AxesIn (8 * n + 7) (quaternion_axes s q)
  unfolding quaternion_axes
  axes-in s n q p h =
      let w = component-in u c n q 0 p h in
      let x = component-in u c n q 1 p h in
      let y = component-in u c n q 2 p h in
      let z = component-in u c n q 3 p h in
      let w' = w.1 in let x' = x.1 in let y' = y.1 in let z' = z.1 in
      let along : AreWithin u c (8 * n + 7) (quaternion_axes s q).u = (
        (((((w.0, w.0), (x.0, x.0)), (y.0, y.0)), (z.0, z.0)), omega (arith, w', x', y', z')),
        (
          (((((tt, w.0), z.0), ((tt, x.0), y.0))), omega (arith, w', x', y', z')),
          ((((((tt, x.0), z.0), ((tt, w.0), y.0))), omega (arith, w', x', y', z')), tt),
        ),
      ) in
      let up : AreWithin u c (8 * n + 7) (quaternion_axes s q).v = (
        ((((tt, x.0), y.0), ((tt, w.0), z.0)), omega (arith, w', x', y', z')),
        (
          (((((w.0, w.0), (x.0, x.0)), (y.0, y.0)), (z.0, z.0)), omega (arith, w', x', y', z')),
          ((((((tt, w.0), x.0), ((tt, y.0), z.0))), omega (arith, w', x', y', z')), tt),
        ),
      ) in
      let out : AreWithin u c (8 * n + 7) (quaternion_axes s q).n = (
        ((((tt, x.0), z.0), ((tt, w.0), y.0)), omega (arith, w', x', y', z')),
        (
          ((((tt, y.0), z.0), ((tt, w.0), x.0)), omega (arith, w', x', y', z')),
          ((((((w.0, w.0), (x.0, x.0)), (y.0, y.0)), (z.0, z.0)), omega (arith, w', x', y', z')), tt),
        ),
      ) in
      record {
        first = record { few = omega arith; within = along };
        second = record { few = omega arith; within = up };
        across = record { few = omega arith; within = out };
      }

-- ---- entities

module _ {s : ℕ} (o : Source s) where
  abbrev In : ℕ → List (Poly ℤ) → Type 0
  In n ts = AreWithin (length o.unknowns) 0 n ts

  abbrev Is : ℕ → Poly ℤ → Type 0
  Is n t = IsWithin (length o.unknowns) 0 n t

  abbrev Vec : ℕ → List (Poly ℤ) → Type 0
  Vec n a = IsVector (length o.unknowns) 0 n a

  placed-in : (r : Option ℕ) (h : ℕ) (z : ℤ) → place_of h o.unknowns ≡ r → Is 1 (unknown_or_number r z)
  placed-in None h z e = (tt, omega arith)
  placed-in (Some i) h z e = ((position-Some (λ (p : ParamId). h == p.0) o.unknowns i (record { 0 = 0 }) e).0, omega arith)

  param-in : (h : ℕ) → Is 1 (param_tree o h)
  unfolding param_tree
  param-in h = placed-in (place_of h o.unknowns) h _ refl

  three-in : (h : ℕ) → Vec 1 (three_params o h)
  unfolding three_params
  three-in h = record { few = omega arith; within = (param-in h, (param-in (h + 1), (param-in (h + 2), tt))) }

  four-in : (h : ℕ) → In 1 (four_params o h)
  unfolding four_params
  four-in h = (param-in h, (param-in (h + 1), (param-in (h + 2), (param-in (h + 3), tt))))

  pub vector-in : Vec 1 (group_vector o)
  unfolding group_vector
  vector-in = three-in _

  pub quaternion-in : In 1 (group_quaternion o)
  unfolding group_quaternion
  quaternion-in = four-in _

  number-in : (n : ℕ) (z : ℤ) → 1 ≤ n → Is n (number z)
  number-in n z l = (tt, l)

  pub numbers-in : (n : ℕ) (zs : List ℤ) → 1 ≤ n → Vec n (three_numbers zs)
  numbers-in n zs l = record { few = omega arith; within = ((tt, l), ((tt, l), ((tt, l), tt))) }

  pub four_numbers-in : (n : ℕ) (zs : List ℤ) → 1 ≤ n → In n (four_numbers zs)
  four_numbers-in n zs l = ((tt, l), ((tt, l), ((tt, l), ((tt, l), tt))))

  moved-in : (from : EntityId) (k : ℤ) → Vec 7 (moved_point o from k)
  unfolding moved_point
  moved-in from k =
      sum-in (length o.unknowns) 0 3 (three_numbers (act_numbers o from)) (scaled (number (whole_units s k)) (group_vector o)) (numbers-in 3 (act_numbers o from) (omega arith))
      (scaled-in (length o.unknowns) 0 1 (number (whole_units s k)) (group_vector o) (number-in 1 (whole_units s k) (omega arith)) vector-in)

  turned-in : (zs : List ℤ) → Vec 255 (turned_point o zs)
  unfolding turned_point
  turned-in zs =
      let n = length o.unknowns in
      let q = quaternion_axes s (group_quaternion o) in
      let a = axes-in n 0 s 1 (group_quaternion o) (omega arith) quaternion-in in
      let x = scaled_by-in n 0 15 q.u (number_at zs 0) a.first (tt, omega arith) in
      let y = scaled_by-in n 0 15 q.v (number_at zs 1) a.second (tt, omega arith) in
      let z = scaled_by-in n 0 15 q.n (number_at zs 2) a.across (tt, omega arith) in
      let xy = sum-in n 0 31 _ _ x y in
      let xyz = sum-in n 0 63 _ _ xy (loosen-vector n 0 31 63 _ (omega arith) z) in
      sum-in n 0 127 _ _ xyz (loosen-vector n 0 1 127 _ (omega arith) vector-in)

  own_point-in : (e : EntityId) (n : Numbering s) → Vec 255 (own_point o e n)
  own_point-in e (Own p) = loosen-vector (length o.unknowns) 0 1 255 _ (omega arith) (three-in p.0)
  own_point-in e (Moved from k) = loosen-vector (length o.unknowns) 0 7 255 _ (omega arith) (moved-in from k)
  own_point-in e (Placed zs) = turned-in zs
  own_point-in e (Copied from) = numbers-in 255 (act_numbers o from) (omega arith)
  own_point-in e Nothing = numbers-in 255 (act_numbers o e) (omega arith)

  either-vector : (n : ℕ) (t : Bool) (a b : List (Poly ℤ)) → Vec n a → Vec n b → Vec n (if t then a else b)
  either-vector n true a b h k = h
  either-vector n false a b h k = k

  either-in : (n : ℕ) (t : Bool) (a b : List (Poly ℤ)) → In n a → In n b → In n (if t then a else b)
  either-in n true a b h k = h
  either-in n false a b h k = k

  space_point-in : (e : Entity s) → Vec 255 (space_point o e)
  unfolding space_point
  space_point-in e = either-vector 255 (is_own o e) _ _ (own_point-in e.id e.numbers) (numbers-in 255 (act_numbers o e.id) (omega arith))

  own_normal-in : (e : EntityId) (k : ℕ) (n : Numbering s) → In 15 (own_normal o e k n)
  own_normal-in e k (Own p) = loosen-all (length o.unknowns) 0 1 15 _ (omega arith) (four-in p.0)
  own_normal-in e k (Moved from n) = four_numbers-in 15 [] (omega arith)
  own_normal-in e k (Placed zs) =
      either-in 15 (k == entity_kind.TURNED_NORMAL) _ _ (product-in (length o.unknowns) 0 _ _ quaternion-in (four_numbers-in 1 zs (omega arith))) (four_numbers-in 15 zs (omega arith))
  own_normal-in e k (Copied from) = four_numbers-in 15 (act_numbers o from) (omega arith)
  own_normal-in e k Nothing = four_numbers-in 15 (act_numbers o e) (omega arith)

  space_normal-in : (e : Entity s) → In 15 (space_normal o e)
  unfolding space_normal
  space_normal-in e = either-in 15 (is_own o e) _ _ (own_normal-in e.id e.kind e.numbers) (four_numbers-in 15 (act_numbers o e.id) (omega arith))

  vector-of_entity : (n : ℕ) (none : List (Poly ℤ)) (f : Entity s → List (Poly ℤ)) (r : Option (Entity s)) → Vec n none → ((e : Entity s) → Vec n (f e)) → Vec n (of_entity none f r)
  vector-of_entity n none f None h k = h
  vector-of_entity n none f (Some e) h k = k e

  in-of_entity : (n : ℕ) (none : List (Poly ℤ)) (f : Entity s → List (Poly ℤ)) (r : Option (Entity s)) → In n none → ((e : Entity s) → In n (f e)) → In n (of_entity none f r)
  in-of_entity n none f None h k = h
  in-of_entity n none f (Some e) h k = k e

  point_named-in : (e : EntityId) → Vec 255 (point_named o e)
  unfolding point_named
  point_named-in e = vector-of_entity 255 _ (space_point o) (entity_at e.0 o.entities) (numbers-in 255 [] (omega arith)) space_point-in

  normal_named-in : (e : EntityId) → In 15 (normal_named o e)
  unfolding normal_named
  normal_named-in e = in-of_entity 15 _ (space_normal o) (entity_at e.0 o.entities) (four_numbers-in 15 [] (omega arith)) space_normal-in

  pub record FrameIn (f : PlaneFrame) : Type 0 where
    pub origin : Vec 255 f.origin
    pub u : Vec 127 f.u
    pub v : Vec 127 f.v
    pub n : Vec 127 f.n

  pub frame-in : (w : Entity s) → FrameIn (frame o w)
  unfolding frame
  frame-in w =
      let a = axes-in (length o.unknowns) 0 s 15 (normal_named o w.normal) (omega arith) (normal_named-in w.normal) in
      record { origin = point_named-in (named w.points 0); u = a.first; v = a.second; n = a.across }

  own_pair-in : (n : Numbering s) → Vec 1 (own_pair o n)
  own_pair-in (Own p) = record { few = omega arith; within = (param-in p.0, (param-in (p.0 + 1), tt)) }
  own_pair-in (Moved from k) = record { few = omega arith; within = ((tt, omega arith), ((tt, omega arith), tt)) }
  own_pair-in (Placed zs) = record { few = omega arith; within = ((tt, omega arith), ((tt, omega arith), tt)) }
  own_pair-in (Copied from) = record { few = omega arith; within = ((tt, omega arith), ((tt, omega arith), tt)) }
  own_pair-in Nothing = record { few = omega arith; within = ((tt, omega arith), ((tt, omega arith), tt)) }

  point_in-in : (f : PlaneFrame) (uv : List (Poly ℤ)) → FrameIn f → Vec 1 uv → Vec 1023 (point_in f uv)
  unfolding point_in
  point_in-in f uv h k =
      let n = length o.unknowns in
      let a = component-in n 0 127 uv 0 (omega arith) (loosen-all n 0 1 127 uv (omega arith) k.within) in
      let b = component-in n 0 127 uv 1 (omega arith) (loosen-all n 0 1 127 uv (omega arith) k.within) in
      let x = scaled-in n 0 127 (component uv 0) f.u a h.u in
      let y = scaled-in n 0 127 (component uv 1) f.v b h.v in
      let first = sum-in n 0 255 f.origin (scaled (component uv 0) f.u) h.origin x in
      sum-in n 0 511 (vector_sum f.origin (scaled (component uv 0) f.u)) (scaled (component uv 1) f.v) first (loosen-vector n 0 255 511 _ (omega arith) y)

  drawn-in : (e : Entity s) (w : Option (Entity s)) → Vec 1023 (drawn_point o e w)
  drawn-in e None = numbers-in 1023 [] (omega arith)
  drawn-in e (Some w) = point_in-in (frame o w) (own_pair o e.numbers) (frame-in w) (own_pair-in e.numbers)

  pub point-in : (e : Entity s) → Vec 1023 (point_tree o e)
  unfolding point_tree
  point-in e =
      either-vector 1023 (is_own o e && e.kind == entity_kind.POINT_IN_WORKPLANE) _ _ (drawn-in e (entity_at e.workplane.0 o.entities))
      (loosen-vector (length o.unknowns) 0 255 1023 _ (omega arith) (space_point-in e))

  pub normal-in : (e : Entity s) → In 15 (normal_tree o e)
  unfolding normal_tree
  normal-in e =
      either-in 15 (is_own o e && e.kind == entity_kind.NORMAL_IN_WORKPLANE) _ _
      (in-of_entity 15 _ (λ w. normal_named o w.normal) (entity_at e.workplane.0 o.entities) (four_numbers-in 15 [] (omega arith)) (λ w. normal_named-in w.normal)) (space_normal-in e)

  own_distance-in : (n : Numbering s) → Is 1 (own_distance o n)
  own_distance-in (Own p) = param-in p.0
  own_distance-in (Moved from n) = (tt, omega arith)
  own_distance-in (Placed zs) = (tt, omega arith)
  own_distance-in (Copied from) = (tt, omega arith)
  own_distance-in Nothing = (tt, omega arith)

  either-is : (n : ℕ) (t : Bool) (a b : Poly ℤ) → Is n a → Is n b → Is n (if t then a else b)
  either-is n true a b h k = h
  either-is n false a b h k = k

  pub distance-in : (e : Entity s) → Is 1 (distance_tree o e)
  unfolding distance_tree
  distance-in e = either-is 1 (is_own o e) _ _ (own_distance-in e.numbers) (tt, omega arith)

  projected-in : (f : PlaneFrame) (p : List (Poly ℤ)) → FrameIn f → Vec 1023 p → Vec 12287 (projected f p)
  unfolding projected
  projected-in f p h k =
      let n = length o.unknowns in
      let d = difference-in n 0 1023 p f.origin k (loosen-vector n 0 255 1023 _ (omega arith) h.origin) in
      record {
        few = omega arith;
        within = (
          dot-in n 0 2047 (vector_difference p f.origin) f.u d (loosen-vector n 0 127 2047 _ (omega arith) h.u),
          (dot-in n 0 2047 (vector_difference p f.origin) f.v d (loosen-vector n 0 127 2047 _ (omega arith) h.v), tt),
        );
      }

  pub flat-in : (w e : Entity s) → Vec 12287 (flat_tree o w e)
  unfolding flat_tree
  flat-in w e =
      either-vector 12287 (e.kind == entity_kind.POINT_IN_WORKPLANE && e.workplane.0 == w.id.0) _ _
      (loosen-vector (length o.unknowns) 0 1 12287 _ (omega arith) (own_pair-in e.numbers)) (projected-in (frame o w) (point_tree o e) (frame-in w) (point-in e))
