-- What a request draws: handles and parameters of its own that rise within its numbers.
use Rattle.std.proofs.Common.{◌≡◌, inl, inr, ℕ, zero, suc, ◌+◌, ◌*◌, ◌<◌, ◌≤◌, List, [], ◌∷◌, ◌++◌, map, Bool, true, false, Some, refl, ap, sym, ◌∙◌, subst, append_assoc, arith}
use Rattle.std.specs.Prelude.{◌==◌, if◌then◌else◌}
use Rattle.std.specs.List.{AllByRecursion, flat_map}
use Rattle.std.proofs.lemmas.Bool.{cases_Bool}
use Rattle.std.proofs.lemmas.Grind.{flat_map-append}
use Rattle.std.proofs.lemmas.List.{map-append}
use Rattle.sk_types.specs.declared.entity.Entity.{Entity}
use Rattle.sk_types.specs.declared.request.Request.{Request}
use Rattle.sk_types.specs.declared.entity_kind.TheConstants as entity_kind
use Rattle.sk_types.specs.declared.request_kind.TheConstants as request_kind
use Rattle.sk_types.specs.Lists.{each_below, only_if}
use Rattle.sk_types.specs.Lookups.{entity_handle, param_handle}
use Rattle.sk_types.specs.Params.{own_params}
use Rattle.sk_types.specs.declared.entity.Numbering.TheVariants.{Own}
use Rattle.sk_entity.specs.Requests.{bare, curve_of, distance_of, in_plane, normal_of, param_item, point_kind, point_of, request_entities, shape, shape_of, shaped_entities}
use Rattle.sk_chain.proofs.Segments.{IsSegment, all_behind, joined, no_segment, single, wider}

module _ (s : ℕ) (r : Request) where
  abbrev base : ℕ
  base = r.id.0 * 65536

  abbrev handles : List (Entity s) → List ℕ
  handles es = map entity_handle es

  abbrev params : List (Entity s) → List ℕ
  params es = map param_handle (flat_map own_params es)

  params_behind : (xs ys : List (Entity s)) → params (xs ++ ys) ≡ params xs ++ params ys
  params_behind xs ys = ap (map param_handle) (flat_map-append own_params xs ys) ∙ map-append param_handle (flat_map own_params xs) (flat_map own_params ys)

  -- what the request draws from some items on, and its parameters
  pub record IsPart (low high from to : ℕ) (es : List (Entity s)) : Type 0 where
    pub handles_rise : IsSegment (base + low) (base + high) (handles es)
    pub params_rise : IsSegment (base + from) (base + to) (params es)
    pub known : AllByRecursion (λ e. (e.group ≡ r.group) × (e.kind ≤ 65535)) es

  parts_joined : (low mid high from half to : ℕ) (xs ys : List (Entity s)) → low ≤ mid → mid ≤ high → from ≤ half → half ≤ to → IsPart low mid from half xs → IsPart mid high half to ys → IsPart low high from to (xs ++ ys)
  parts_joined low mid high from half to xs ys a b c d h k = record {
    handles_rise = subst (IsSegment (base + low) (base + high)) (sym (map-append entity_handle xs ys)) (joined (base + low) (base + mid) (base + high) (handles xs) (handles ys) (omega (arith, a)) (omega (arith, b)) h.handles_rise k.handles_rise);
    params_rise = subst (IsSegment (base + from) (base + to)) (sym (params_behind xs ys)) (joined (base + from) (base + half) (base + to) (params xs) (params ys) (omega (arith, c)) (omega (arith, d)) h.params_rise k.params_rise);
    known = all_behind (λ (e : Entity s). (e.group ≡ r.group) × (e.kind ≤ 65535)) xs ys h.known k.known;
  }

  part_wider : (low high from to a b c d : ℕ) (es : List (Entity s)) → a ≤ low → high ≤ b → c ≤ from → to ≤ d → IsPart low high from to es → IsPart a b c d es
  part_wider low high from to a b c d es p q t u h = record {
    handles_rise = wider (base + low) (base + high) (base + a) (base + b) (handles es) (omega (arith, p)) (omega (arith, q)) h.handles_rise;
    params_rise = wider (base + from) (base + to) (base + c) (base + d) (params es) (omega (arith, t)) (omega (arith, u)) h.params_rise;
    known = h.known;
  }

  no_part : (low high from to : ℕ) → IsPart low high from to []
  no_part low high from to = record { handles_rise = no_segment (base + low) (base + high); params_rise = no_segment (base + from) (base + to); known = tt }

  part_if : (t : Bool) (low high from to : ℕ) (es : List (Entity s)) → IsPart low high from to es → IsPart low high from to (only_if t es)
  part_if true low high from to es h = h
  part_if false low high from to es h = no_part low high from to

  -- numbers one behind the other
  two_from : (k high : ℕ) → k + 2 ≤ high → IsSegment k high (k ∷ (k + 1) ∷ [])
  two_from k high l = joined k (k + 1) high (k ∷ []) ((k + 1) ∷ []) (omega arith) (omega (arith, l)) (single k k (k + 1) (omega arith) (omega arith)) (single (k + 1) (k + 1) high (omega arith) (omega (arith, l)))

  three_from : (k high : ℕ) → k + 3 ≤ high → IsSegment k high (k ∷ (k + 1) ∷ (k + 2) ∷ [])
  three_from k high l = joined k (k + 2) high (k ∷ (k + 1) ∷ []) ((k + 2) ∷ []) (omega arith) (omega (arith, l)) (two_from k (k + 2) (omega arith)) (single (k + 2) (k + 2) high (omega arith) (omega (arith, l)))

  four_from : (k high : ℕ) → k + 4 ≤ high → IsSegment k high (k ∷ (k + 1) ∷ (k + 2) ∷ (k + 3) ∷ [])
  four_from k high l = joined k (k + 3) high (k ∷ (k + 1) ∷ (k + 2) ∷ []) ((k + 3) ∷ []) (omega arith) (omega (arith, l)) (three_from k (k + 3) (omega arith)) (single (k + 3) (k + 3) high (omega arith) (omega (arith, l)))

  zero_on : (k : ℕ) → k + 0 ≡ k
  zero_on k = omega arith

  -- an entity with parameters of its own from one on: two, three, or four
  pair_of : (e : Entity s) (k high : ℕ) → k + 2 ≤ high → map param_handle (own_params e) ≡ (k + 0) ∷ (k + 1) ∷ [] → IsSegment k high (map param_handle (own_params e))
  pair_of e k high l h = subst (IsSegment k high) (sym (h ∙ ap (λ j. j ∷ (k + 1) ∷ []) (zero_on k))) (two_from k high l)

  triple_of : (e : Entity s) (k high : ℕ) → k + 3 ≤ high → map param_handle (own_params e) ≡ (k + 0) ∷ (k + 1) ∷ (k + 2) ∷ [] → IsSegment k high (map param_handle (own_params e))
  triple_of e k high l h = subst (IsSegment k high) (sym (h ∙ ap (λ j. j ∷ (k + 1) ∷ (k + 2) ∷ []) (zero_on k))) (three_from k high l)

  append_none : {X : Type 0} (xs : List X) → xs ++ [] ≡ xs
  append_none [] = refl
  append_none (x ∷ xs) = ap (λ ys. x ∷ ys) (append_none xs)

  one_params : (e : Entity s) → params (e ∷ []) ≡ map param_handle (own_params e)
  one_params e = ap (map param_handle) (append_none (own_params e))

  -- one entity at an item
  one_part : (e : Entity s) (item high from to : ℕ) → entity_handle e ≡ base + item → item < high → e.group ≡ r.group → e.kind ≤ 65535 → IsSegment (base + from) (base + to) (map param_handle (own_params e)) → IsPart item high from to (e ∷ [])
  one_part e item high from to h l g k p = record {
    handles_rise = subst (λ n. IsSegment (base + item) (base + high) (n ∷ [])) (sym h) (single (base + item) (base + item) (base + high) (omega arith) (omega (arith, l)));
    params_rise = subst (IsSegment (base + from) (base + to)) (sym (one_params e)) p;
    known = ((g, k), tt);
  }

  point_params : (i item construction : ℕ) (c : Bool) (e : Entity s) → e ≡ bare s r item (point_kind r) c (Own (param_item r i)) → IsSegment (base + i) (base + (i + 3)) (map param_handle (own_params e))
  point_params i item construction c e is = elim (cases_Bool (in_plane r)) [
    | inl t ↦ subst (λ (x : Entity s). IsSegment (base + i) (base + (i + 3)) (map param_handle (own_params x))) (sym is) (pair_of (bare s r item (point_kind r) c (Own (param_item r i))) (base + i) (base + (i + 3)) (omega arith) (rw t refl))
    | inr f ↦ subst (λ (x : Entity s). IsSegment (base + i) (base + (i + 3)) (map param_handle (own_params x))) (sym is) (triple_of (bare s r item (point_kind r) c (Own (param_item r i))) (base + i) (base + (i + 3)) (omega arith) (rw f refl))
  ]

  point_small : point_kind r ≤ 65535
  point_small = elim (cases_Bool (in_plane r)) [ inl t ↦ rw t (omega arith) | inr f ↦ rw f (omega arith) ]

  datum_part : IsPart 0 1 16 19 (bare s r 0 (point_kind r) r.construction (Own (param_item r 16)) ∷ [])
  datum_part = one_part (bare s r 0 (point_kind r) r.construction (Own (param_item r 16))) 0 1 16 19 refl (omega arith) refl point_small (point_params 16 0 0 r.construction (bare s r 0 (point_kind r) r.construction (Own (param_item r 16))) refl)

  points_part : (n : ℕ) → IsPart 1 (1 + n) 16 (16 + 3 * n) (each_below n (point_of s r))
  points_part zero = no_part 1 (1 + 0) 16 (16 + 3 * 0)
  points_part (suc n) =
      parts_joined 1 (1 + n) (1 + suc n) 16 (16 + 3 * n) (16 + 3 * suc n) (each_below n (point_of s r)) (point_of s r n ∷ []) (omega arith) (omega arith) (omega arith) (omega arith) (points_part n)
      (part_wider (n + 1) (n + 2) (16 + 3 * n) ((16 + 3 * n) + 3) (1 + n) (1 + suc n) (16 + 3 * n) (16 + 3 * suc n) (point_of s r n ∷ []) (omega arith) (omega arith) (omega arith) (omega arith)
      (one_part (point_of s r n) (n + 1) (n + 2) (16 + 3 * n) ((16 + 3 * n) + 3) refl (omega arith) refl point_small (point_params (16 + 3 * n) (n + 1) 0 false (point_of s r n) refl)))

  normal_handle : entity_handle (normal_of s r) ≡ base + 32
  normal_handle = elim (cases_Bool (in_plane r)) [ inl t ↦ rw t refl | inr f ↦ rw f refl ]

  normal_group : (normal_of s r).group ≡ r.group
  normal_group = elim (cases_Bool (in_plane r)) [ inl t ↦ rw t refl | inr f ↦ rw f refl ]

  normal_small : (normal_of s r).kind ≤ 65535
  normal_small = elim (cases_Bool (in_plane r)) [ inl t ↦ rw t (omega arith) | inr f ↦ rw f (omega arith) ]

  four_own : IsSegment (base + 32) (base + 36) ((base + 32 + 0) ∷ (base + 32 + 1) ∷ (base + 32 + 2) ∷ (base + 32 + 3) ∷ [])
  four_own = subst (λ k. IsSegment (base + 32) (base + 36) (k ∷ (base + 32 + 1) ∷ (base + 32 + 2) ∷ (base + 32 + 3) ∷ [])) (sym (zero_on (base + 32))) (four_from (base + 32) (base + 36) (omega arith))

  normal_params : IsSegment (base + 32) (base + 36) (map param_handle (own_params (normal_of s r)))
  normal_params = elim (cases_Bool (in_plane r)) [ inl t ↦ rw t (no_segment (base + 32) (base + 36)) | inr f ↦ rw f four_own ]

  normal_part : IsPart 32 33 32 36 (normal_of s r ∷ [])
  normal_part = one_part (normal_of s r) 32 33 32 36 normal_handle (omega arith) normal_group normal_small normal_params

  distance_part : IsPart 64 65 64 65 (distance_of s r ∷ [])
  distance_part = one_part (distance_of s r) 64 65 64 65 refl (omega arith) refl (omega arith) (subst (λ k. IsSegment (base + 64) (base + 65) (k ∷ [])) (sym (zero_on (base + 64))) (single (base + 64) (base + 64) (base + 65) (omega arith) (omega arith)))

  curve_part : (entity n : ℕ) (a b : Bool) → entity ≤ 65535 → IsPart 0 1 0 16 (curve_of s r (shape entity n a b) ∷ [])
  curve_part entity n a b l = one_part (curve_of s r (shape entity n a b)) 0 1 0 16 refl (omega arith) refl l (no_segment (base + 0) (base + 16))

  distance_tail : (b : Bool) → IsPart 64 65536 64 65536 (only_if b (distance_of s r ∷ []))
  distance_tail b = part_wider 64 65 64 65 64 65536 64 65536 (only_if b (distance_of s r ∷ [])) (omega arith) (omega arith) (omega arith) (omega arith) (part_if b 64 65 64 65 (distance_of s r ∷ []) distance_part)

  normal_tail : (a b : Bool) → IsPart 32 65536 32 65536 (only_if a (normal_of s r ∷ []) ++ only_if b (distance_of s r ∷ []))
  normal_tail a b =
      parts_joined 32 64 65536 32 64 65536 (only_if a (normal_of s r ∷ [])) (only_if b (distance_of s r ∷ [])) (omega arith) (omega arith) (omega arith) (omega arith)
      (part_wider 32 33 32 36 32 64 32 64 (only_if a (normal_of s r ∷ [])) (omega arith) (omega arith) (omega arith) (omega arith) (part_if a 32 33 32 36 (normal_of s r ∷ []) normal_part))
      (distance_tail b)

  -- points, then a normal and a distance; the parameters of many points reach further, and there is no normal then
  behind_part : (n : ℕ) (a b : Bool) → n ≤ 12 → (a ≡ true → n ≤ 3) → IsPart 1 65536 16 65536 (each_below n (point_of s r) ++ (only_if a (normal_of s r ∷ []) ++ only_if b (distance_of s r ∷ [])))
  behind_part n true b l few =
      let k = few refl in
      parts_joined 1 32 65536 16 32 65536 (each_below n (point_of s r)) (only_if true (normal_of s r ∷ []) ++ only_if b (distance_of s r ∷ [])) (omega arith) (omega arith) (omega arith) (omega arith)
      (part_wider 1 (1 + n) 16 (16 + 3 * n) 1 32 16 32 (each_below n (point_of s r)) (omega arith) (omega (arith, k)) (omega arith) (omega (arith, k)) (points_part n)) (normal_tail true b)
  behind_part n false b l few =
      parts_joined 1 64 65536 16 64 65536 (each_below n (point_of s r)) (only_if false (normal_of s r ∷ []) ++ only_if b (distance_of s r ∷ [])) (omega arith) (omega arith) (omega arith) (omega arith)
      (part_wider 1 (1 + n) 16 (16 + 3 * n) 1 64 16 64 (each_below n (point_of s r)) (omega arith) (omega (arith, l)) (omega arith) (omega (arith, l)) (points_part n)) (distance_tail b)

  regroup : (n : ℕ) (a b : Bool) → each_below n (point_of s r) ++ only_if a (normal_of s r ∷ []) ++ only_if b (distance_of s r ∷ []) ≡ each_below n (point_of s r) ++ (only_if a (normal_of s r ∷ []) ++ only_if b (distance_of s r ∷ []))
  regroup n a b = append_assoc (each_below n (point_of s r)) (only_if a (normal_of s r ∷ [])) (only_if b (distance_of s r ∷ []))

  shaped_part : (entity n : ℕ) (a b : Bool) → entity ≤ 65535 → n ≤ 12 → (a ≡ true → n ≤ 3) → IsPart 0 65536 0 65536 (shaped_entities s r (Some (shape entity n a b)))
  shaped_part entity n a b k l few =
      parts_joined 0 1 65536 0 16 65536 (curve_of s r (shape entity n a b) ∷ []) (each_below n (point_of s r) ++ only_if a (normal_of s r ∷ []) ++ only_if b (distance_of s r ∷ [])) (omega arith) (omega arith) (omega arith) (omega arith) (curve_part entity n a b k)
      (subst (IsPart 1 65536 16 65536) (sym (regroup n a b)) (behind_part n a b l few))

  shape_if : {X : Type 0} (f : X → List (Entity s)) (t : Bool) (x y : X) → IsPart 0 65536 0 65536 (f x) → IsPart 0 65536 0 65536 (f y) → IsPart 0 65536 0 65536 (f (if t then x else y))
  shape_if f true x y h k = h
  shape_if f false x y h k = k

  shapes_part : r.extra ≤ 8 → IsPart 0 65536 0 65536 (shaped_entities s r (shape_of r))
  shapes_part l =
      shape_if (shaped_entities s r) (r.kind == request_kind.WORKPLANE) _ _ (shaped_part entity_kind.WORKPLANE 1 true false (omega arith) (omega arith) (λ t. omega arith)) (
      shape_if (shaped_entities s r) (r.kind == request_kind.LINE) _ _ (shaped_part entity_kind.LINE 2 false false (omega arith) (omega arith) (λ t. omega arith)) (
      shape_if (shaped_entities s r) (r.kind == request_kind.CUBIC) _ _ (shaped_part entity_kind.CUBIC (4 + r.extra) false false (omega arith) (omega (arith, l)) (λ t. absurd (cc t))) (
      shape_if (shaped_entities s r) (r.kind == request_kind.CIRCLE) _ _ (shaped_part entity_kind.CIRCLE 1 true true (omega arith) (omega arith) (λ t. omega arith)) (
      shape_if (shaped_entities s r) (r.kind == request_kind.ARC) _ _ (shaped_part entity_kind.ARC 3 true false (omega arith) (omega arith) (λ t. omega arith)) (no_part 0 65536 0 65536)))))

  part_either : (t : Bool) (xs ys : List (Entity s)) → IsPart 0 65536 0 65536 xs → IsPart 0 65536 0 65536 ys → IsPart 0 65536 0 65536 (if t then xs else ys)
  part_either true xs ys h k = h
  part_either false xs ys h k = k

  -- all of it
  pub request_part : r.extra ≤ 8 → IsPart 0 65536 0 65536 (request_entities s r)
  unfolding request_entities
  request_part l =
      part_either (r.kind == request_kind.DATUM_POINT) _ _ (part_wider 0 1 16 19 0 65536 0 65536 _ (omega arith) (omega arith) (omega arith) (omega arith) datum_part)
      (shapes_part l)
