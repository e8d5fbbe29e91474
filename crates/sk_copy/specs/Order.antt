-- Things in order: each goes before the first that it comes before, and so behind those that tie with it.
use Rattle.std.specs.Prelude.{ℕ, nat_lt, List, [], ◌∷◌, Bool, if◌then◌else◌}
use Rattle.std.specs.List.{fold}
use Rattle.sk_types.specs.declared.entity.Entity.{Entity}

-- a thing in its place among things in order
abbrev pub put_in : {T : Type 0} → (T → T → Bool) → T → List T → List T
put_in before x [] = x ∷ []
put_in before x (y ∷ ys) = if before x y then x ∷ y ∷ ys else y ∷ put_in before x ys

unfoldable pub in_order : {T : Type 0} → (T → T → Bool) → List T → List T
in_order before xs = fold (λ ys x. put_in before x ys) [] xs

-- in rising handle order
abbrev pub by_handle : {s : ℕ} → List (Entity s) → List (Entity s)
by_handle es = in_order (λ d e. nat_lt d.id.0 e.id.0) es
