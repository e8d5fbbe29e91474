-- Look-ups by handle in lists whose handles rise.
use Rattle.std.specs.Prelude.{ℕ, ◌==◌, ℤ, List, [], ◌∷◌, map, Option, Some, None, if◌then◌else◌}
use Rattle.std.specs.List.{find, position}
use Rattle.std.specs.List.Sorted.{IsStrictlySortedBy}
use Rattle.std.specs.Ordering.{nat_cmp}
use Rattle.sk_types.specs.declared.handle.ParamId.{ParamId}
use Rattle.sk_types.specs.declared.entity.Entity.{Entity}
use Rattle.sk_types.specs.declared.entity.ParamValue.{ParamValue}
use Rattle.sk_types.specs.declared.entity.Act.{Act}

abbrev pub entity_handle : {s : ℕ} → Entity s → ℕ
entity_handle e = e.id.0

abbrev pub act_handle : {s : ℕ} → Act s → ℕ
act_handle a = a.entity.0

abbrev pub value_handle : {s : ℕ} → ParamValue s → ℕ
value_handle p = p.id.0

abbrev pub param_handle : ParamId → ℕ
param_handle p = p.0

-- each handle is below those behind it
abbrev pub RiseBy : {X : Type 0} → (X → ℕ) → List X → Type 0
RiseBy handle xs = IsStrictlySortedBy nat_cmp (map handle xs)

abbrev pub Rise : {s : ℕ} → List (Entity s) → Type 0
Rise es = RiseBy entity_handle es

-- the entity with the handle
abbrev pub entity_at : {s : ℕ} → ℕ → List (Entity s) → Option (Entity s)
entity_at n es = find (λ e. n == e.id.0) es

-- the numbers at which the entity with the handle stands
abbrev pub act_at : {s : ℕ} → ℕ → List (Act s) → Option (Act s)
act_at n acts = find (λ a. n == a.entity.0) acts

-- the value of the parameter with the handle
abbrev pub value_of : {s : ℕ} → ℕ → List (ParamValue s) → Option ℤ
value_of n [] = None
value_of n (p ∷ ps) = if n == p.id.0 then Some p.value else value_of n ps

-- the place of the parameter among others, from 0
abbrev pub place_of : ℕ → List ParamId → Option ℕ
place_of n ps = position (λ (p : ParamId). n == p.0) ps
