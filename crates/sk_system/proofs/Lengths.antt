-- How many components vectors have: three in space, two in a workplane.
use Rattle.std.proofs.Common.{◌≡◌, ℕ, ℤ, Bool, true, false, List, [], ◌∷◌, length, Option, Some, None, refl, arith}
use Rattle.std.specs.Prelude.{◌==◌, ◌&&◌, if◌then◌else◌}
use Rattle.sk_types.specs.declared.handle.EntityId.{EntityId}
use Rattle.sk_types.specs.declared.entity.Entity.{Entity}
use Rattle.sk_types.specs.declared.entity.Numbering.{Numbering}
use Rattle.sk_types.specs.declared.entity.Numbering.TheVariants.{Own, Moved, Copied, Placed, Nothing}
use Rattle.sk_types.specs.declared.entity_kind.TheConstants as entity_kind
use Rattle.sk_types.specs.Lookups.{entity_at}
use Rattle.sk_types.specs.Needs.{named}
use Rattle.sk_expr.specs.Poly.{Poly, number}
use Rattle.sk_expr.specs.Vectors.{whole, component, vector_sum, vector_difference, scaled, scaled_by, about}
use Rattle.sk_geom.specs.Sources.{Source, three_params, four_params, four_numbers, group_vector, group_quaternion, number_at, three_numbers, act_numbers}
use Rattle.sk_geom.specs.Quaternions.{quaternion_axes, quaternion_product}
use Rattle.sk_geom.specs.EntityTrees.{is_own, of_entity, whole_units, moved_point, turned_point, own_point, space_point, own_normal, space_normal, normal_tree, point_named, normal_named, frame, own_pair, point_in, drawn_point, point_tree, projected, flat_tree}
use Rattle.sk_system.specs.ByHandle.{entity_by, point_by, both_there, flat_by}

pub sum-length : (n : ℕ) (a b : List (Poly ℤ)) → length a ≡ n → length b ≡ n → length (vector_sum a b) ≡ n
unfolding vector_sum
sum-length n [] b h k = h
sum-length n (x ∷ xs) [] h k = omega (arith, h, k)
sum-length n (x ∷ xs) (y ∷ ys) h k = let l = sum-length (length xs) xs ys refl (omega (arith, h, k)) in omega (arith, h, l)

pub difference-length : (n : ℕ) (a b : List (Poly ℤ)) → length a ≡ n → length b ≡ n → length (vector_difference a b) ≡ n
unfolding vector_difference
difference-length n [] b h k = h
difference-length n (x ∷ xs) [] h k = omega (arith, h, k)
difference-length n (x ∷ xs) (y ∷ ys) h k = let l = difference-length (length xs) xs ys refl (omega (arith, h, k)) in omega (arith, h, l)

pub scaled-length : (n : ℕ) (t : Poly ℤ) (a : List (Poly ℤ)) → length a ≡ n → length (scaled t a) ≡ n
unfolding scaled
scaled-length n t [] h = h
scaled-length n t (x ∷ xs) h = let l = scaled-length (length xs) t xs refl in omega (arith, h, l)

scaled_by-length : (n : ℕ) (a : List (Poly ℤ)) (t : Poly ℤ) → length a ≡ n → length (scaled_by a t) ≡ n
unfolding scaled_by
scaled_by-length n [] t h = h
scaled_by-length n (x ∷ xs) t h = let l = scaled_by-length (length xs) xs t refl in omega (arith, h, l)

pub about-length : (s n : ℕ) (p q m : List (Poly ℤ)) → length p ≡ n → length q ≡ n → length m ≡ n → length (about s p q m) ≡ n
about-length s n p q m h k l = difference-length n (vector_sum p q) (scaled (whole s 2) m) (sum-length n p q h k) (scaled-length n (whole s 2) m l)

-- ---- entities

module _ {s : ℕ} (o : Source s) where
  vector-three : length (group_vector o) ≡ 3
  unfolding group_vector three_params
  vector-three = refl

  params-three : (h : ℕ) → length (three_params o h) ≡ 3
  unfolding three_params
  params-three h = refl

  moved-three : (from : EntityId) (k : ℤ) → length (moved_point o from k) ≡ 3
  unfolding moved_point
  moved-three from k = sum-length 3 (three_numbers (act_numbers o from)) (scaled (number (whole_units s k)) (group_vector o)) refl (scaled-length 3 (number (whole_units s k)) (group_vector o) vector-three)

  turned-three : (zs : List ℤ) → length (turned_point o zs) ≡ 3
  unfolding turned_point quaternion_axes
  turned-three zs =
      let q = quaternion_axes s (group_quaternion o) in
      let x = scaled_by q.u (number_at zs 0) in
      let y = scaled_by q.v (number_at zs 1) in
      let z = scaled_by q.n (number_at zs 2) in
      sum-length 3 (vector_sum (vector_sum x y) z) (group_vector o)
      (sum-length 3 (vector_sum x y) z (sum-length 3 x y (scaled_by-length 3 q.u (number_at zs 0) refl) (scaled_by-length 3 q.v (number_at zs 1) refl)) (scaled_by-length 3 q.n (number_at zs 2) refl)) vector-three

  own-three : (e : EntityId) (n : Numbering s) → length (own_point o e n) ≡ 3
  own-three e (Own p) = params-three p.0
  own-three e (Moved from k) = moved-three from k
  own-three e (Placed zs) = turned-three zs
  own-three e (Copied from) = refl
  own-three e Nothing = refl

  either-length : (n : ℕ) (t : Bool) (a b : List (Poly ℤ)) → length a ≡ n → length b ≡ n → length (if t then a else b) ≡ n
  either-length n true a b h k = h
  either-length n false a b h k = k

  space-three : (e : Entity s) → length (space_point o e) ≡ 3
  unfolding space_point
  space-three e = either-length 3 (is_own o e) (own_point o e.id e.numbers) (three_numbers (act_numbers o e.id)) (own-three e.id e.numbers) refl

  there-three : (f : Entity s → List (Poly ℤ)) (r : Option (Entity s)) → ((e : Entity s) → length (f e) ≡ 3) → length (of_entity (three_numbers []) f r) ≡ 3
  there-three f None k = refl
  there-three f (Some e) k = k e

  named-three : (e : EntityId) → length (point_named o e) ≡ 3
  unfolding point_named
  named-three e = there-three (space_point o) (entity_at e.0 o.entities) space-three

  drawn-three : (e : Entity s) (w : Option (Entity s)) → length (drawn_point o e w) ≡ 3
  unfolding point_in frame quaternion_axes
  drawn-three e None = refl
  drawn-three e (Some w) =
      let f = frame o w in
      let uv = own_pair o e.numbers in
      let x = scaled (component uv 0) f.u in
      let y = scaled (component uv 1) f.v in
      sum-length 3 (vector_sum f.origin x) y (sum-length 3 f.origin x (named-three (named w.points 0)) (scaled-length 3 (component uv 0) f.u refl)) (scaled-length 3 (component uv 1) f.v refl)

  pub tree-three : (e : Entity s) → length (point_tree o e) ≡ 3
  unfolding point_tree
  tree-three e =
      either-length 3 (is_own o e && e.kind == entity_kind.POINT_IN_WORKPLANE) (drawn_point o e (entity_at e.workplane.0 o.entities)) (space_point o e) (drawn-three e (entity_at e.workplane.0 o.entities)) (space-three e)

  pub point-three : (e : EntityId) → length (point_by o e) ≡ 3
  unfolding point_by
  point-three e = there-three (point_tree o) (entity_by o e) tree-three

  pair-two : (n : Numbering s) → length (own_pair o n) ≡ 2
  pair-two (Own p) = refl
  pair-two (Moved from k) = refl
  pair-two (Placed zs) = refl
  pair-two (Copied from) = refl
  pair-two Nothing = refl

  flat-two : (w e : Entity s) → length (flat_tree o w e) ≡ 2
  unfolding flat_tree projected
  flat-two w e = either-length 2 (e.kind == entity_kind.POINT_IN_WORKPLANE && e.workplane.0 == w.id.0) (own_pair o e.numbers) (projected (frame o w) (point_tree o e)) (pair-two e.numbers) refl

  both-two : (w e : Option (Entity s)) → length (both_there o w e) ≡ 2
  both-two None e = refl
  both-two (Some w) None = refl
  both-two (Some w) (Some e) = flat-two w e

  pub flat_by-two : (w e : EntityId) → length (flat_by o w e) ≡ 2
  unfolding flat_by
  flat_by-two w e = both-two (entity_by o w) (entity_by o e)

  pub quaternion-four : length (group_quaternion o) ≡ 4
  unfolding group_quaternion four_params
  quaternion-four = refl

  params-four : (h : ℕ) → length (four_params o h) ≡ 4
  unfolding four_params
  params-four h = refl

  product-four : (p q : List (Poly ℤ)) → length (quaternion_product p q) ≡ 4
  unfolding quaternion_product
  product-four p q = refl

  own-four : (e : EntityId) (k : ℕ) (n : Numbering s) → length (own_normal o e k n) ≡ 4
  own-four e k (Own p) = params-four p.0
  own-four e k (Moved from n) = refl
  own-four e k (Placed zs) = either-length 4 (k == entity_kind.TURNED_NORMAL) (quaternion_product (group_quaternion o) (four_numbers zs)) (four_numbers zs) (product-four (group_quaternion o) (four_numbers zs)) refl
  own-four e k (Copied from) = refl
  own-four e k Nothing = refl

  space-four : (e : Entity s) → length (space_normal o e) ≡ 4
  unfolding space_normal
  space-four e = either-length 4 (is_own o e) (own_normal o e.id e.kind e.numbers) (four_numbers (act_numbers o e.id)) (own-four e.id e.kind e.numbers) refl

  there-four : (f : Entity s → List (Poly ℤ)) (r : Option (Entity s)) → ((e : Entity s) → length (f e) ≡ 4) → length (of_entity (four_numbers []) f r) ≡ 4
  there-four f None k = refl
  there-four f (Some e) k = k e

  named-four : (e : EntityId) → length (normal_named o e) ≡ 4
  unfolding normal_named
  named-four e = there-four (space_normal o) (entity_at e.0 o.entities) space-four

  pub normal-four : (e : Entity s) → length (normal_tree o e) ≡ 4
  unfolding normal_tree
  normal-four e =
      either-length 4 (is_own o e && e.kind == entity_kind.NORMAL_IN_WORKPLANE) (of_entity (four_numbers []) (λ w. normal_named o w.normal) (entity_at e.workplane.0 o.entities)) (space_normal o e)
      (there-four (λ w. normal_named o w.normal) (entity_at e.workplane.0 o.entities) (λ w. named-four w.normal)) (space-four e)
