-- How many entities a request has.
use Rattle.std.proofs.Common.{◌≡◌, ℕ, zero, suc, ◌+◌, List, [], ◌∷◌, ◌++◌, length, Bool, true, false, Some, refl, ◌∙◌, arith}
use Rattle.std.specs.Prelude.{if◌then◌else◌}
use Rattle.std.proofs.lemmas.List.{length-append}
use Rattle.sk_types.specs.declared.request.Request.{Request}
use Rattle.sk_types.specs.declared.entity.Entity.{Entity}
use Rattle.sk_types.specs.Lists.{each_below, only_if}
use Rattle.sk_types.specs.ListLaws.{length-each_below}
use Rattle.sk_entity.specs.declared.shape.Shape.{Shape}
use Rattle.sk_entity.specs.Requests.{distance_of, normal_of, part_count, point_of, request_entities, shape_of, shaped_entities}
use Rattle.sk_types.specs.declared.request_kind.TheConstants as request_kind
use Rattle.sk_entity.proofs.OwnOfParts.{other}

behind : {s : ℕ} (n : ℕ) (ps : List (Entity s)) (a b : Bool) (x y : Entity s) → length ps ≡ n → 1 + n + (if a then 1 else 0) + (if b then 1 else 0) ≡ suc (length (ps ++ only_if a (x ∷ []) ++ only_if b (y ∷ [])))
behind n ps true true x y e = rw (length-append, length-append) (omega (arith, e))
behind n ps true false x y e = rw (length-append, length-append) (omega (arith, e))
behind n ps false true x y e = rw (length-append, length-append) (omega (arith, e))
behind n ps false false x y e = rw (length-append, length-append) (omega (arith, e))

length-shaped : (s : ℕ) (r : Request) (h : Shape) → part_count h ≡ length (shaped_entities s r (Some h))
length-shaped s r h = behind h.points (each_below h.points (point_of s r)) h.has_normal h.has_distance (normal_of s r) (distance_of s r) (length-each_below (point_of s r) h.points)

pub length-made : (s : ℕ) (r : Request) (h : Shape) (n : ℕ) → (r.kind ≡ request_kind.DATUM_POINT → ⊥) → Some h ≡ shape_of r → n ≡ part_count h → n ≡ length (request_entities s r)
unfolding request_entities
length-made s r h n k e c = c ∙ rw (length-shaped s r h, other r.kind k, ← e) refl
