-- What is there for each of a list, or not at all.
use Rattle.std.specs.Prelude.{List, [], ◌∷◌, Option, Some, option_and_then, option_map}

abbrev pub cons_if : {A : Type 0} → Option A → Option (List A) → Option (List A)
cons_if x xs = option_and_then (λ y. option_map (λ ys. y ∷ ys) xs) x

-- f along a list, none where one is none
abbrev pub each_some : {A B : Type 0} → (A → Option B) → List A → Option (List B)
each_some f [] = Some []
each_some f (x ∷ xs) = cons_if (f x) (each_some f xs)
