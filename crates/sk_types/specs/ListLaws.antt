-- Laws of short lists.
use Rattle.std.proofs.Common.{◌≡◌, ℕ, zero, suc, ◌+◌, List, [], ◌∷◌, length, refl, arith}
use Rattle.std.proofs.lemmas.List.{length-append}
use Rattle.sk_types.specs.Lists.{each_below}

-- below n there are n
pub length-each_below : {A : Type 0} (f : ℕ → A) (n : ℕ) → length (each_below n f) ≡ n
length-each_below f zero = refl
length-each_below f (suc n) = rw (length-append, length-each_below f n) (omega arith)
