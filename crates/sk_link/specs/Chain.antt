-- Steps one after another, up to the first that is refused.
use Rattle.std.specs.Prelude.{List, [], ◌∷◌, Result, Ok, Err}

abbrev pub then_of : {T U E : Type 0} → Result T E → (T → Result U E) → Result U E
then_of (Ok x) f = f x
then_of (Err e) f = Err e

-- the error as another one
abbrev pub with_err : {A E F : Type 0} → (E → F) → Result A E → Result A F
with_err f (Ok x) = Ok x
with_err f (Err e) = Err (f e)

-- f along a list, up to the first that is refused
abbrev pub each_ok : {A B E : Type 0} → (A → Result B E) → List A → Result (List B) E
each_ok f [] = Ok []
each_ok f (x ∷ xs) = then_of (f x) (λ y. then_of (each_ok f xs) (λ ys. Ok (y ∷ ys)))
