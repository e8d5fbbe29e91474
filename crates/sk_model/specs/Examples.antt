-- Worked rows of entity records, by computation.
use Rattle.std.specs.Prelude.{◌≡◌, refl, ◌^◌, ◌*◌, ◌-◌, ℕ, ℤ, pos, negsuc, List, [], ◌∷◌, codes, Bool, true, false}
use Rattle.std.specs.Fmt.{digits}
use Rattle.sk_num.specs.Numerals.{padded}
use Rattle.sk_num.specs.Decimals.{decimal_text}
use Rattle.sk_num.specs.Spelling.{quantity_text}
use Rattle.sk_types.specs.declared.handle.EntityId.{EntityId}
use Rattle.sk_types.specs.declared.entity.Entity.{Entity}
use Rattle.sk_types.specs.declared.entity.Act.{Act}
use Rattle.sk_types.specs.declared.entity.Numbering.TheVariants.{Nothing}
use Rattle.sk_types.specs.declared.entity_kind.TheConstants as entity_kind
use Rattle.sk_records.specs.Blocks.{with_tails}
use Rattle.sk_records.specs.Written.{bytes_of}
use Rattle.sk_model.specs.EntityRecords.{handle_pairs, quantity_pairs, point_key, name_pairs, act_numbers, number_pairs, entity_pairs, entity_records}

abbrev one : ℕ
one = 2 ^ 36

abbrev id : ℕ → EntityId
id n = record { 0 = n }

abbrev named : ℕ → ℕ → Bool → List EntityId → ℕ → ℕ → ℕ → Entity 36
named h kind construction points normal distance workplane = record {
  id = id h;
  kind = kind;
  group = record { 0 = 2 };
  construction = construction;
  points = points;
  normal = id normal;
  distance = id distance;
  workplane = id workplane;
  numbers = Nothing;
}

abbrev plain : ℕ → ℕ → Entity 36
plain h kind = named h kind false [] 0 0 0

abbrev act : ℕ → ℤ → ℤ → ℤ → ℤ → Act 36
act h a b c d = record { entity = id h; values = a ∷ b ∷ c ∷ d ∷ [] }

abbrev text_of : List (Act 36) → Entity 36 → List ℕ
text_of acts e = bytes_of (with_tails (entity_records acts (e ∷ [])))

-- a point for construction at (3, 0, -1/2): the line of y is left out, that of construction isn't; the numbers of another
-- entity that stand before don't count
pub point_record : text_of (act 262143 (pos one) (pos one) (pos one) (pos 0) ∷ act 262144 (pos (3 * one)) (pos 0) (negsuc (2 ^ 35 - 1)) (pos 0) ∷ []) (named 262144 entity_kind.POINT_IN_SPACE true [] 0 0 0)
    ≡ codes "Entity.h.v=00040000\nEntity.type=2000\nEntity.construction=1\nEntity.actPoint.x=3.00000000000000000000\nEntity.actPoint.z=-0.50000000000000000000\nEntity.actVisible=1\nAddEntity\n\n"
unfolding padded digits quantity_text decimal_text handle_pairs quantity_pairs point_key name_pairs act_numbers number_pairs entity_pairs
point_record = refl

-- the normal of the first reference workplane
pub normal_record : text_of (act 65568 (pos one) (pos 0) (pos 0) (pos 0) ∷ []) (plain 65568 entity_kind.NORMAL_IN_SPACE)
    ≡ codes "Entity.h.v=00010020\nEntity.type=3000\nEntity.construction=0\nEntity.actNormal.w=1.00000000000000000000\nEntity.actVisible=1\nAddEntity\n\n"
unfolding padded digits quantity_text decimal_text handle_pairs quantity_pairs point_key name_pairs act_numbers number_pairs entity_pairs
normal_record = refl

-- a circle's radius of 5/2
pub distance_record : text_of (act 327744 (pos (5 * 2 ^ 35)) (pos 0) (pos 0) (pos 0) ∷ []) (named 327744 entity_kind.DISTANCE false [] 0 0 65536)
    ≡ codes "Entity.h.v=00050040\nEntity.type=4000\nEntity.construction=0\nEntity.workplane.v=00010000\nEntity.actDistance=2.50000000000000000000\nEntity.actVisible=1\nAddEntity\n\n"
unfolding padded digits quantity_text decimal_text handle_pairs quantity_pairs point_key name_pairs act_numbers number_pairs entity_pairs
distance_record = refl

-- a circle names all three; curves have no numbers, whatever is given
pub circle_record : text_of (act 327680 (pos one) (pos one) (pos one) (pos one) ∷ []) (named 327680 entity_kind.CIRCLE true (id 327681 ∷ []) 327712 327744 65536)
    ≡ codes "Entity.h.v=00050000\nEntity.type=13000\nEntity.construction=1\nEntity.point[0].v=00050001\nEntity.normal.v=00050020\nEntity.distance.v=00050040\nEntity.workplane.v=00010000\nEntity.actVisible=1\nAddEntity\n\n"
unfolding padded digits quantity_text decimal_text handle_pairs quantity_pairs point_key name_pairs act_numbers number_pairs entity_pairs
circle_record = refl

-- two records, in the order of the entities: a line in a workplane, and an arc
pub curve_records : bytes_of (with_tails (entity_records [] (named 393216 entity_kind.LINE false (id 393217 ∷ id 393218 ∷ []) 0 0 65536 ∷ named 458752 entity_kind.ARC false (id 458753 ∷ id 458754 ∷ id 458755 ∷ []) 458784 0 65536 ∷ [])))
    ≡ codes "Entity.h.v=00060000\nEntity.type=11000\nEntity.construction=0\nEntity.point[0].v=00060001\nEntity.point[1].v=00060002\nEntity.workplane.v=00010000\nEntity.actVisible=1\nAddEntity\n\nEntity.h.v=00070000\nEntity.type=14000\nEntity.construction=0\nEntity.point[0].v=00070001\nEntity.point[1].v=00070002\nEntity.point[2].v=00070003\nEntity.normal.v=00070020\nEntity.workplane.v=00010000\nEntity.actVisible=1\nAddEntity\n\n"
unfolding padded digits quantity_text decimal_text handle_pairs quantity_pairs point_key name_pairs act_numbers number_pairs entity_pairs
curve_records = refl

-- a cubic with twelve points
pub cubic_record : text_of [] (named 524288 entity_kind.CUBIC false (id 524289 ∷ id 524290 ∷ id 524291 ∷ id 524292 ∷ id 524293 ∷ id 524294 ∷ id 524295 ∷ id 524296 ∷ id 524297 ∷ id 524298 ∷ id 524299 ∷ id 524300 ∷ []) 0 0 0)
    ≡ codes "Entity.h.v=00080000\nEntity.type=12000\nEntity.construction=0\nEntity.point[0].v=00080001\nEntity.point[1].v=00080002\nEntity.point[2].v=00080003\nEntity.point[3].v=00080004\nEntity.point[4].v=00080005\nEntity.point[5].v=00080006\nEntity.point[6].v=00080007\nEntity.point[7].v=00080008\nEntity.point[8].v=00080009\nEntity.point[9].v=0008000a\nEntity.point[10].v=0008000b\nEntity.point[11].v=0008000c\nEntity.actVisible=1\nAddEntity\n\n"
unfolding padded digits quantity_text decimal_text handle_pairs quantity_pairs point_key name_pairs act_numbers number_pairs entity_pairs
cubic_record = refl

-- a face at the end of an extrusion names the normal of its workplane; its numbers are 0 and its normal vector
pub end_face_record : text_of (act 2147680269 (pos 0) (pos 0) (pos 0) (pos one) ∷ []) (named 2147680269 entity_kind.FACE_BY_NORMAL false (id 2147680257 ∷ []) 2147614721 0 0)
    ≡ codes "Entity.h.v=8003000d\nEntity.type=5000\nEntity.construction=0\nEntity.point[0].v=80030001\nEntity.normal.v=80020001\nEntity.actNormal.vz=1.00000000000000000000\nEntity.actVisible=1\nAddEntity\n\n"
unfolding padded digits quantity_text decimal_text handle_pairs quantity_pairs point_key name_pairs act_numbers number_pairs entity_pairs
end_face_record = refl

-- a face at its side, whose normal vector is (0, -2, 2^-36)
pub side_face_record : text_of (act 2147680268 (pos 0) (pos 0) (negsuc (2 * one - 1)) (pos 1) ∷ []) (named 2147680268 entity_kind.FACE_BY_LINE false (id 2147680257 ∷ id 2147680258 ∷ []) 0 0 0)
    ≡ codes "Entity.h.v=8003000c\nEntity.type=5001\nEntity.construction=0\nEntity.point[0].v=80030001\nEntity.point[1].v=80030002\nEntity.actNormal.vy=-2.00000000000000000000\nEntity.actNormal.vz=0.00000000001455191523\nEntity.actVisible=1\nAddEntity\n\n"
unfolding padded digits quantity_text decimal_text handle_pairs quantity_pairs point_key name_pairs act_numbers number_pairs entity_pairs
side_face_record = refl

-- a linked part's point, copied to (11, 2, 3)
pub linked_record : text_of (act 2147811335 (pos (11 * one)) (pos (2 * one)) (pos (3 * one)) (pos 0) ∷ []) (plain 2147811335 entity_kind.TURNED_POINT)
    ≡ codes "Entity.h.v=80050007\nEntity.type=2011\nEntity.construction=0\nEntity.actPoint.x=11.00000000000000000000\nEntity.actPoint.y=2.00000000000000000000\nEntity.actPoint.z=3.00000000000000000000\nEntity.actVisible=1\nAddEntity\n\n"
unfolding padded digits quantity_text decimal_text handle_pairs quantity_pairs point_key name_pairs act_numbers number_pairs entity_pairs
linked_record = refl
