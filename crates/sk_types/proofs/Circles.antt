-- The circles or arcs among the parts that a constraint needs.
use Rattle.std.proofs.Common.{◌≡◌, ℕ, ◌+◌, ◌≤◌, List, [], ◌∷◌, ◌++◌, length, take, map, Bool, true, false, cond, Option, Some, None, refl, sym, ◌∙◌, arith}
use Rattle.std.specs.Prelude.{◌==◌, ◌&&◌, count_by, if◌then◌else◌}
use Rattle.std.specs.List.{filter}
use Rattle.std.proofs.lemmas.List.{length-take, take_all}
use Rattle.std.proofs.lemmas.List.Sums.{count_by-le-length, sum_by-cons}
use Rattle.sk_types.specs.declared.entity.Entity.{Entity}
use Rattle.sk_types.specs.declared.constraint.Constraint.{Constraint}
use Rattle.sk_types.specs.Lookups.{entity_at}
use Rattle.sk_types.specs.Sizes.{is_arc, arcs_of}
use Rattle.sk_types.specs.declared.handle.EntityId.{EntityId}
use Rattle.sk_types.specs.declared.constraint.Need.{Need}
use Rattle.sk_types.specs.declared.constraint_kind.TheConstants as kind
use Rattle.sk_types.specs.declared.entity_kind.TheConstants as entity_kind
use Rattle.sk_types.specs.Lists.{is_among}
use Rattle.sk_types.specs.Needs.{part_takes, needs_of, named, filled_up, circles_of, circle_parts, two_points}

abbrev AtMostTwo : List Need → Type 0
AtMostTwo ns = length (filter (λ (n : Need). part_takes n.part entity_kind.ARC) ns) ≤ 2

either : (t : Bool) (a b : List Need) → AtMostTwo a → AtMostTwo b → AtMostTwo (if t then a else b)
either true a b h k = h
either false a b h k = k

pub few_circles : (k : ℕ) (ps es : List EntityId) → circle_parts k ps es ≤ 2
unfolding circles_of needs_of part_takes
few_circles k ps es =
    either (is_among k (kind.POINTS_COINCIDENT ∷ kind.POINT_POINT_DISTANCE ∷ kind.SYMMETRIC_HORIZONTAL ∷ kind.SYMMETRIC_VERTICAL ∷ [])) (two_points ps) _ (omega arith) (
    either (is_among k (kind.POINT_PLANE_DISTANCE ∷ kind.POINT_IN_PLANE ∷ [])) _ _ (omega arith) (
    either (is_among k (kind.POINT_LINE_DISTANCE ∷ kind.POINT_ON_LINE ∷ [])) _ _ (omega arith) (
    either (is_among k (kind.POINT_FACE_DISTANCE ∷ kind.POINT_ON_FACE ∷ [])) _ _ (omega arith) (
    either (k == kind.PROJECTED_DISTANCE) _ _ (omega arith) (
    either (is_among k (kind.EQUAL_LENGTHS ∷ kind.LENGTH_RATIO ∷ kind.LENGTH_DIFFERENCE ∷ [])) _ _ (omega arith) (
    either (k == kind.EQUAL_LENGTH_AND_DISTANCE) _ _ (omega arith) (
    either (k == kind.EQUAL_DISTANCES) _ _ (omega arith) (
    either (k == kind.EQUAL_ANGLES) _ _ (omega arith) (
    either (k == kind.SYMMETRIC) _ _ (omega arith) (
    either (k == kind.SYMMETRIC_LINE) _ _ (omega arith) (
    either (k == kind.AT_MIDPOINT) _ _ (either ((named ps 0).0 == 0) _ _ (omega arith) (omega arith)) (
    either (is_among k (kind.HORIZONTAL ∷ kind.VERTICAL ∷ [])) _ _ (either ((named es 0).0 == 0) _ _ (omega arith) (omega arith)) (
    either (k == kind.DIAMETER) _ _ (omega arith) (
    either (k == kind.POINT_ON_CIRCLE) _ _ (omega arith) (
    either (k == kind.SAME_ORIENTATION) _ _ (omega arith) (
    either (is_among k (kind.ANGLE ∷ kind.PARALLEL ∷ kind.PERPENDICULAR ∷ [])) _ _ (omega arith) (
    either (k == kind.ARC_LINE_TANGENT) _ _ (omega arith) (
    either (k == kind.CUBIC_LINE_TANGENT) _ _ (omega arith) (
    either (k == kind.CURVE_CURVE_TANGENT) _ _ (omega arith) (
    either (k == kind.EQUAL_RADII) _ _ (omega arith) (
    either (k == kind.WHERE_DRAGGED) _ _ (omega arith) (omega arith))))))))))))))))))))))

-- ---- counted over four places

-- whether there is a need, and it is such
abbrev pub is_there : (Need → Bool) → Option Need → Bool
is_there p None = false
is_there p (Some n) = p n

count_placed : (p : Need → Bool) (ns : List Need) → length ns ≤ 4 → count_by (is_there p) (filled_up ns) ≡ count_by p ns
count_placed p [] h = refl
count_placed p (a ∷ []) h = omega arith
count_placed p (a ∷ b ∷ []) h = omega arith
count_placed p (a ∷ b ∷ c ∷ []) h = omega arith
count_placed p (a ∷ b ∷ c ∷ d ∷ []) h = refl
count_placed p (a ∷ b ∷ c ∷ d ∷ e ∷ ns) h = absurd (omega arith)

both_step : {X : Type 0} (q : X → Bool) (t : Bool) (x : X) (ys : List X) (n : ℕ) → n ≡ count_by q ys → cond (t && q x) 1 0 + n ≡ count_by q (cond t (x ∷ ys) ys)
both_step q true x ys n e = rw e (sym (sum_by-cons (λ y. cond (q y) 1 0) x ys))
both_step q false x ys n e = omega (arith, e)

count_both : {X : Type 0} (p q : X → Bool) (xs : List X) → count_by (λ x. p x && q x) xs ≡ count_by q (filter p xs)
count_both p q [] = refl
count_both p q (x ∷ xs) = sum_by-cons (λ y. cond (p y && q y) 1 0) x xs ∙ both_step q (p x) x (filter p xs) (count_by (λ y. p y && q y) xs) (count_both p q xs)

-- ---- arcs among the needed circles or arcs

abbrev pub is_needed_arc : {s : ℕ} → List (Entity s) → Need → Bool
is_needed_arc es n = part_takes n.part entity_kind.ARC && is_arc (entity_at n.entity.0 es)

module _ {s : ℕ} (es : List (Entity s)) (c : Constraint s) (xs : List (Option Need)) (e : xs ≡ filled_up (needs_of c.kind c.points c.entities)) (few : length (needs_of c.kind c.points c.entities) ≤ 4) where
  counted : count_by (is_there (is_needed_arc es)) xs ≡ arcs_of es c
  unfolding circles_of
  counted = rw (e, count_placed (is_needed_arc es) (needs_of c.kind c.points c.entities) few) (count_both (λ (n : Need). part_takes n.part entity_kind.ARC) (λ (n : Need). is_arc (entity_at n.entity.0 es)) (needs_of c.kind c.points c.entities))

  four : length xs ≤ 4
  four = rw (e, length-take 4 (map Some (needs_of c.kind c.points c.entities) ++ None ∷ None ∷ None ∷ None ∷ [])) (omega arith)

  pub arcs_counted : (i a : ℕ) → 4 ≤ i → a ≡ count_by (is_there (is_needed_arc es)) (take i xs) → a ≡ arcs_of es c
  arcs_counted i a h k = let l : length xs ≤ i = omega (arith, four, h) in k ∙ rw (take_all i xs l) counted

pub few_arcs : {s : ℕ} (es : List (Entity s)) (c : Constraint s) → arcs_of es c ≤ circle_parts c.kind c.points c.entities
few_arcs es c = count_by-le-length (λ (n : Need). is_arc (entity_at n.entity.0 es)) (circles_of c.kind c.points c.entities)
