-- The parameters of a request, part by part.
use Rattle.std.proofs.Common.{◌≡◌, ℕ, ◌+◌, List, [], ◌∷◌, ◌++◌, Some, false, refl, ◌∙◌, add-one, append-nil, arith}
use Rattle.std.specs.Prelude.{◌==◌}
use Rattle.std.proofs.lemmas.Bool.Decides.{nat_tests}
use Rattle.sk_types.specs.declared.request_kind.TheConstants as request_kind
use Rattle.std.specs.List.{flat_map}
use Rattle.std.proofs.lemmas.Grind.{flat_map-append}
use Rattle.sk_types.specs.declared.handle.ParamId.{ParamId}
use Rattle.sk_types.specs.declared.request.Request.{Request}
use Rattle.sk_types.specs.Lists.{each_below, only_if}
use Rattle.sk_types.specs.Params.{own_params}
use Rattle.sk_entity.specs.declared.shape.Shape.{Shape}
use Rattle.sk_entity.specs.Requests.{point_of, normal_of, distance_of, request_entities, request_params, shape_of}

pub other : (k : ℕ) → (k ≡ request_kind.DATUM_POINT → ⊥) → (k == request_kind.DATUM_POINT) ≡ false
other k h = grind (arith, nat_tests, h)

module _ (s : ℕ) (r : Request) where
  abbrev points_below : ℕ → List ParamId
  points_below n = flat_map own_params (each_below n (point_of s r))

  pub one_more : (n : ℕ) (ps ps' : List ParamId) → ps ≡ points_below n → ps' ≡ ps ++ own_params (point_of s r n) → ps' ≡ points_below (n + 1)
  one_more n ps ps' e h = h ∙ rw (e, add-one, flat_map-append, append-nil (own_params (point_of s r n))) refl

  pub of_point : (ps qs : List ParamId) → r.kind ≡ request_kind.DATUM_POINT → qs ≡ [] → ps ≡ qs ++ own_params (point_of s r 0) → ps ≡ request_params s r
  unfolding request_entities
  of_point ps qs k e h = h ∙ rw (e, k, append-nil (own_params (point_of s r 0))) refl

  pub of_shape : (h : Shape) (n : ℕ) (ps qs rs : List ParamId) → (r.kind ≡ request_kind.DATUM_POINT → ⊥) → Some h ≡ shape_of r → n ≡ h.points → ps ≡ points_below n → qs ≡ ps ++ flat_map own_params (only_if h.has_normal (normal_of s r ∷ [])) →
      rs ≡ qs ++ flat_map own_params (only_if h.has_distance (distance_of s r ∷ [])) → rs ≡ request_params s r
  unfolding request_entities
  of_shape h n ps qs rs k e l a b c =
      c ∙ rw (b, a, l, other r.kind k, ← e, flat_map-append, flat_map-append) refl
