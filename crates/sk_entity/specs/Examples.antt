-- The definitions on small inputs.
use Rattle.std.specs.Prelude.{◌≡◌, ℕ, ◌^◌, pos, true, List, [], ◌∷◌, map, refl}
use Rattle.sk_types.specs.declared.handle.ParamId.{ParamId}
use Rattle.sk_types.specs.declared.request.Request.{Request}
use Rattle.sk_types.specs.declared.entity.Entity.{Entity}
use Rattle.sk_entity.specs.Requests.{request_entities, request_params, start_value}

-- request 1 of this kind, in this workplane, with so many extra points
abbrev request : ℕ → ℕ → ℕ → Request
request kind workplane extra = record {
  id = record { 0 = 1 };
  kind = kind;
  group = record { 0 = 2 };
  workplane = record { 0 = workplane };
  construction = true;
  extra = extra;
}

-- items and kinds of its entities, and items of its parameters
abbrev entities : Request → List (ℕ × ℕ)
entities r = map (λ (e : Entity 36). (e.id.0, e.kind)) (request_entities 36 r)

abbrev params : Request → List ℕ
params r = map (λ (p : ParamId). p.0) (request_params 36 r)

-- a cubic in a workplane has four points and the extra ones; what has no known number has nothing
cubic : entities (request 300 196608 1) ≡ (65536, 12000) ∷ (65537, 2001) ∷ (65538, 2001) ∷ (65539, 2001) ∷ (65540, 2001) ∷ (65541, 2001) ∷ []
unfolding request_entities
cubic = refl

cubic_params : params (request 300 196608 0) ≡ 65552 ∷ 65553 ∷ 65555 ∷ 65556 ∷ 65558 ∷ 65559 ∷ 65561 ∷ 65562 ∷ []
unfolding request_entities
cubic_params = refl

unknown : entities (request 301 0 0) ≡ []
unfolding request_entities
unknown = refl

-- a circle in space: centre, normal and distance, each with its parameters; extra points are a cubic's alone
circle : entities (request 400 0 5) ≡ (65536, 13000) ∷ (65537, 2000) ∷ (65568, 3000) ∷ (65600, 4000) ∷ []
unfolding request_entities
circle = refl

circle_params : params (request 400 0 0) ≡ 65552 ∷ 65553 ∷ 65554 ∷ 65568 ∷ 65569 ∷ 65570 ∷ 65571 ∷ 65600 ∷ []
unfolding request_entities
circle_params = refl

-- parameter 32 is a normal's first number in a circle, and a point's in a cubic
starts : start_value 36 (request 400 0 0) 32 ∷ start_value 36 (request 400 0 0) 33 ∷ start_value 36 (request 400 196608 0) 32 ∷ start_value 36 (request 300 0 2) 32 ∷ [] ≡ pos (2 ^ 36) ∷ pos 0 ∷ pos 0 ∷ pos 0 ∷ []
starts = refl
