-- Worked rows of trees and frames, by computation, with 16 units for 1.
use Rattle.std.specs.Prelude.{◌≡◌, ◌^◌, ℕ, ℤ, pos, negsuc, true, false, List, [], ◌∷◌, map, Option, Some, option_map, Result, Ok, Err, refl}
use Rattle.sk_num.specs.Ends.{point, mid}
use Rattle.sk_types.specs.declared.entity.Entity.{Entity}
use Rattle.sk_types.specs.declared.entity.Numbering.{Numbering}
use Rattle.sk_types.specs.declared.entity.Numbering.TheVariants.{Own, Moved, Placed, Nothing}
use Rattle.sk_types.specs.declared.entity.Act.{Act}
use Rattle.sk_expr.specs.Poly.{Poly, number, unknown}
use Rattle.sk_expr.specs.SpanValue.{span_value}
use Rattle.sk_expr.specs.Vectors.{vector_sum, vector_difference, scaled, scaled_by, dot}
use Rattle.sk_expr.specs.Readings.{floor_root}
use Rattle.sk_geom.specs.declared.fault.FrameFault.{FrameFault}
use Rattle.sk_geom.specs.declared.fault.FrameFault.TheVariants.{Degenerate, PastLimit}
use Rattle.sk_geom.specs.Sources.{Source, param_tree, three_params, four_params, group_vector, group_quaternion, act_numbers}
use Rattle.sk_geom.specs.Quaternions.{quaternion_axes, quaternion_product}
use Rattle.sk_geom.specs.EntityTrees.{space_point, space_normal, point_named, normal_named, moved_point, turned_point, frame, point_in, point_tree, normal_tree, projected, flat_tree}
use Rattle.sk_geom.specs.LineFrame.{line_frame, swapped_frame, turned_frame, quaternion_of, place_of_greatest, sum_at, quaternion_with, quaternion_parts, arranged, sum_over, difference_over, over_root, picked, first_greatest, later_greatest, last_greatest, first_sum, second_sum, third_sum, fourth_sum, turned, rounded_cross, rounded_minor, unit_of, divided, rounded_length}

-- what polynomials read at these unknowns
abbrev reads : List ℤ → List (Poly ℤ) → List (Option ℤ)
reads us ts = map (λ t. option_map mid (span_value 4 (map point us) [] t)) ts

abbrev three : ℤ → ℤ → ℤ → List (Option ℤ)
three x y z = Some x ∷ Some y ∷ Some z ∷ []

abbrev numbers : List ℤ → List (Poly ℤ)
numbers zs = map number zs

-- ---- quaternions

record Read : Type 0 where
  u : List (Option ℤ)
  v : List (Option ℤ)
  n : List (Option ℤ)

abbrev axes_read : List ℤ → Read
axes_read q = let a = quaternion_axes 4 (numbers q) in record { u = reads [] a.u; v = reads [] a.v; n = reads [] a.n }

-- XY by (1, 0, 0, 0)
xy-axes : axes_read (pos 16 ∷ pos 0 ∷ pos 0 ∷ pos 0 ∷ []) ≡ record {
  u = three (pos 16) (pos 0) (pos 0);
  v = three (pos 0) (pos 16) (pos 0);
  n = three (pos 0) (pos 0) (pos 16);
}
unfolding quaternion_axes span_value
xy-axes = refl

-- YZ by (1/2, 1/2, 1/2, 1/2)
yz-axes : axes_read (pos 8 ∷ pos 8 ∷ pos 8 ∷ pos 8 ∷ []) ≡ record {
  u = three (pos 0) (pos 16) (pos 0);
  v = three (pos 0) (pos 0) (pos 16);
  n = three (pos 16) (pos 0) (pos 0);
}
unfolding quaternion_axes span_value
yz-axes = refl

-- ZX by (1/2, -1/2, -1/2, -1/2)
zx-axes : axes_read (pos 8 ∷ negsuc 7 ∷ negsuc 7 ∷ negsuc 7 ∷ []) ≡ record {
  u = three (pos 0) (pos 0) (pos 16);
  v = three (pos 16) (pos 0) (pos 0);
  n = three (pos 0) (pos 16) (pos 0);
}
unfolding quaternion_axes span_value
zx-axes = refl

-- (1, 2, 3, 4), where each component of each axis is another
long-axes : axes_read (pos 16 ∷ pos 32 ∷ pos 48 ∷ pos 64 ∷ []) ≡ record {
  u = three (negsuc 319) (pos 320) (pos 160);
  v = three (pos 64) (negsuc 159) (pos 448);
  n = three (pos 352) (pos 320) (pos 64);
}
unfolding quaternion_axes span_value
long-axes = refl

abbrev product_read : List ℤ → List ℤ → List (Option ℤ)
product_read p q = reads [] (quaternion_product (numbers p) (numbers q))

-- times (1, 0, 0, 0) on either side is the other
one-times : product_read (pos 16 ∷ pos 0 ∷ pos 0 ∷ pos 0 ∷ []) (pos 3 ∷ negsuc 4 ∷ pos 7 ∷ pos 11 ∷ []) ≡ Some (pos 3) ∷ Some (negsuc 4) ∷ Some (pos 7) ∷ Some (pos 11) ∷ []
unfolding quaternion_product span_value
one-times = refl

times-one : product_read (pos 3 ∷ negsuc 4 ∷ pos 7 ∷ pos 11 ∷ []) (pos 16 ∷ pos 0 ∷ pos 0 ∷ pos 0 ∷ []) ≡ Some (pos 3) ∷ Some (negsuc 4) ∷ Some (pos 7) ∷ Some (pos 11) ∷ []
unfolding quaternion_product span_value
times-one = refl

-- (1, 2, 3, 4) (5, 6, 7, 8) is (-60, 12, 30, 24)
long-product : product_read (pos 16 ∷ pos 32 ∷ pos 48 ∷ pos 64 ∷ []) (pos 80 ∷ pos 96 ∷ pos 112 ∷ pos 128 ∷ []) ≡ Some (negsuc 959) ∷ Some (pos 192) ∷ Some (pos 480) ∷ Some (pos 384) ∷ []
unfolding quaternion_product span_value
long-product = refl

-- ---- entities: XY in group 1, and what a group 2 draws on it

abbrev entity : ℕ → ℕ → ℕ → List ℕ → ℕ → ℕ → Numbering 4 → Entity 4
entity id kind group points normal workplane numbers = record {
  id = record { 0 = id };
  kind = kind;
  group = record { 0 = group };
  construction = false;
  points = map (λ p. record { 0 = p }) points;
  normal = record { 0 = normal };
  distance = record { 0 = 0 };
  workplane = record { 0 = workplane };
  numbers = numbers;
}

abbrev xy : Entity 4
xy = entity 65536 10000 1 (65537 ∷ []) 65568 0 Nothing

-- a point in XY, request 4 of group 2
abbrev drawn : Entity 4
drawn = entity 262144 2001 2 [] 0 65536 (Own (record { 0 = 262160 }))

abbrev values : ℕ → ℤ → ℤ → ℤ → ℤ → Act 4
values id w x y z = record { entity = record { 0 = id }; values = w ∷ x ∷ y ∷ z ∷ [] }

-- a source of this group; what entity 262144 of an earlier group stands at is (5, 6, 7), from the parameters (8, 9)
abbrev source : ℕ → List ℕ → Source 4
source group unknowns = record {
  entities = xy ∷ entity 65537 2000 1 [] 0 0 (Own (record { 0 = 65552 })) ∷ entity 65568 3000 1 [] 0 0 (Own (record { 0 = 65568 })) ∷ drawn ∷ [];
  params = record { id = record { 0 = 262160 }; value = pos 128 } ∷ record { id = record { 0 = 262161 }; value = pos 144 } ∷ [];
  acts = values 65537 (pos 0) (pos 0) (pos 0) (pos 0) ∷ values 65568 (pos 16) (pos 0) (pos 0) (pos 0) ∷ values 262144 (pos 80) (pos 96) (pos 112) (pos 0) ∷ [];
  unknowns = map (λ h. record { 0 = h }) unknowns;
  group = record { 0 = group };
}

abbrev drawing : Source 4
drawing = source 2 (262160 ∷ 262161 ∷ [])

-- a point in XY at (2, 3) is (2, 3, 0)
drawn-at : reads (pos 32 ∷ pos 48 ∷ []) (point_tree drawing drawn) ≡ three (pos 32) (pos 48) (pos 0)
unfolding point_tree frame point_named normal_named space_point space_normal act_numbers quaternion_axes point_in vector_sum scaled param_tree span_value
drawn-at = refl

-- in XY it is its two parameters
drawn-flat : flat_tree drawing xy drawn ≡ unknown 0 ∷ unknown 1 ∷ []
unfolding flat_tree param_tree
drawn-flat = refl

-- for a later group it stands at its numbers, and in XY at its parameters' values
later-at : point_tree (source 3 []) drawn ≡ number (pos 80) ∷ number (pos 96) ∷ number (pos 112) ∷ []
unfolding point_tree space_point act_numbers
later-at = refl

later-flat : flat_tree (source 3 []) xy drawn ≡ number (pos 128) ∷ number (pos 144) ∷ []
unfolding flat_tree param_tree
later-flat = refl

-- a point in space goes to its first two coordinates
spatial-flat : reads (pos 1 ∷ pos 2 ∷ pos 3 ∷ []) (flat_tree (source 2 (327696 ∷ 327697 ∷ 327698 ∷ [])) xy (entity 327680 2000 2 [] 0 0 (Own (record { 0 = 327696 })))) ≡ Some (pos 1) ∷ Some (pos 2) ∷ []
unfolding flat_tree projected frame point_named normal_named space_point space_normal act_numbers quaternion_axes point_tree three_params param_tree vector_difference dot span_value
spatial-flat = refl

-- the own parameters of group 2 are 0 to 6 of its number: the vector t, and a quaternion
abbrev moving : Source 4
moving = source 2 (2147614720 ∷ 2147614721 ∷ 2147614722 ∷ 2147614723 ∷ 2147614724 ∷ 2147614725 ∷ 2147614726 ∷ [])

abbrev at_moving : List ℤ
at_moving = pos 1 ∷ pos 2 ∷ pos 3 ∷ pos 16 ∷ pos 32 ∷ pos 48 ∷ pos 64 ∷ []

-- moved by -2 times (1, 2, 3) units
moved-at : reads at_moving (point_tree moving (entity 2147614730 2010 2 [] 0 0 (Moved (record { 0 = 262144 }) (negsuc 1)))) ≡ three (pos 78) (pos 92) (pos 106)
unfolding point_tree space_point act_numbers moved_point group_vector three_params param_tree vector_sum scaled span_value
moved-at = refl

-- (1, 2, 3) turned by (1, 2, 3, 4) is U + 2 V + 3 N, (54, 60, 78), and then moved
turned-at : reads at_moving (point_tree moving (entity 2147614730 2011 2 [] 0 0 (Placed (pos 16 ∷ pos 32 ∷ pos 48 ∷ pos 0 ∷ [])))) ≡ three (pos 865) (pos 962) (pos 1251)
unfolding point_tree space_point turned_point group_quaternion group_vector three_params four_params param_tree quaternion_axes vector_sum scaled_by span_value
turned-at = refl

-- (1, 2, 3) not turned, and moved by (10, 0, 0), is (11, 2, 3)
linked-at : reads (pos 160 ∷ pos 0 ∷ pos 0 ∷ pos 16 ∷ pos 0 ∷ pos 0 ∷ pos 0 ∷ []) (point_tree moving (entity 2147614727 2011 2 [] 0 0 (Placed (pos 16 ∷ pos 32 ∷ pos 48 ∷ pos 0 ∷ [])))) ≡ three (pos 176) (pos 32) (pos 48)
unfolding point_tree space_point turned_point group_quaternion group_vector three_params four_params param_tree quaternion_axes vector_sum scaled_by span_value
linked-at = refl

-- the stored normal is turned by the group's quaternion, a copied one isn't
turned-normal : reads at_moving (normal_tree moving (entity 2147614730 3011 2 [] 0 0 (Placed (pos 80 ∷ pos 96 ∷ pos 112 ∷ pos 128 ∷ [])))) ≡ Some (negsuc 959) ∷ Some (pos 192) ∷ Some (pos 480) ∷ Some (pos 384) ∷ []
unfolding normal_tree space_normal group_quaternion four_params param_tree quaternion_product span_value
turned-normal = refl

copied-normal : normal_tree moving (entity 2147614721 3010 2 [] 0 0 (Placed (pos 80 ∷ pos 96 ∷ pos 112 ∷ pos 128 ∷ []))) ≡ numbers (pos 80 ∷ pos 96 ∷ pos 112 ∷ pos 128 ∷ [])
unfolding normal_tree space_normal
copied-normal = refl

-- ---- frames by two lines

abbrev along : ℤ → ℤ → ℤ → List ℤ
along x y z = x ∷ y ∷ z ∷ []

abbrev x_axis : List ℤ
x_axis = along (pos 160) (pos 0) (pos 0)

abbrev y_axis : List ℤ
y_axis = along (pos 0) (pos 80) (pos 0)

abbrev quaternion : ℤ → ℤ → ℤ → ℤ → Result (List ℤ) FrameFault
quaternion w x y z = Ok (w ∷ x ∷ y ∷ z ∷ [])

-- the first two axes; back along both, where the fourth sum is the greatest; YZ's axes, where all four sums are the same;
-- exchanged, where the second sum and the third are both 2: 22 sixteenths is its root, and the second is taken;
-- exchanged, and then the first one negated
frames :
    line_frame 4 x_axis y_axis false false false
    ∷ line_frame 4 (along (negsuc 159) (pos 0) (pos 0)) (along (pos 0) (negsuc 79) (pos 0)) false false false
    ∷ line_frame 4 y_axis (along (pos 0) (pos 0) (pos 48)) false false false
    ∷ line_frame 4 x_axis y_axis true false false
    ∷ line_frame 4 x_axis y_axis true true false
    ∷ []
    ≡ quaternion (pos 16) (pos 0) (pos 0) (pos 0)
    ∷ quaternion (pos 0) (pos 0) (pos 0) (pos 16)
    ∷ quaternion (pos 8) (pos 8) (pos 8) (pos 8)
    ∷ quaternion (pos 0) (pos 11) (pos 12) (pos 0)
    ∷ quaternion (pos 11) (pos 0) (pos 0) (negsuc 11)
    ∷ []
unfolding line_frame swapped_frame turned_frame quaternion_of place_of_greatest sum_at quaternion_with quaternion_parts arranged sum_over difference_over over_root picked first_greatest later_greatest last_greatest first_sum second_sum third_sum fourth_sum turned rounded_cross rounded_minor unit_of divided rounded_length floor_root
frames = refl

-- a line along the other, and one with no length; a length past the limit, which counts before the other line's
faults :
    line_frame 4 x_axis (along (negsuc 79) (pos 0) (pos 0)) false false false
    ∷ line_frame 4 (along (pos 0) (pos 0) (pos 0)) y_axis false false false
    ∷ line_frame 4 (along (pos (2 ^ 62)) (pos (2 ^ 62)) (pos 0)) (along (pos 0) (pos 0) (pos 0)) false false false
    ∷ []
    ≡ Err Degenerate ∷ Err Degenerate ∷ Err PastLimit ∷ []
unfolding line_frame swapped_frame turned_frame quaternion_of place_of_greatest sum_at quaternion_with quaternion_parts arranged sum_over difference_over over_root picked first_greatest later_greatest last_greatest first_sum second_sum third_sum fourth_sum turned rounded_cross rounded_minor unit_of divided rounded_length floor_root
faults = refl
