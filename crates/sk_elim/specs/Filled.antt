-- A row less a multiple of the pivot's row, at those places alone where that isn't 0.
use Rattle.std.specs.Prelude.{ℕ, List, [], ◌∷◌, length, slice_set, ℤ, unsigned_abs, Option, Some, option_and_then, Bool, not, nat_eq}
use Rattle.std.specs.List.{filter, range_with_len}
use Rattle.sk_elim.specs.Elimination.{cell, cell_less}

abbrev pub is_filled : ℤ → Bool
is_filled a = not (nat_eq (unsigned_abs a) 0)

-- the places of a row where it isn't 0, in order
abbrev pub filled_places : List ℤ → List ℕ
filled_places ps = filter (λ k. is_filled (cell ps k)) (range_with_len 0 (length ps))

-- a row less f times the pivot's row at these places
abbrev pub less_at : ℕ → ℤ → List ℤ → List ℕ → List ℤ → Option (List ℤ)
less_at s f ps [] us = Some us
less_at s f ps (k ∷ ks) us = option_and_then (λ y. less_at s f ps ks (slice_set us k y)) (cell_less s f (cell us k) (cell ps k))
