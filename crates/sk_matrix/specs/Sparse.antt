-- A row of sums, to which multiples of a matrix's row are added at those columns alone whose cells aren't 0.
use Rattle.std.specs.Prelude.{ℕ, List, [], ◌∷◌, get_or, slice_set, pos, unsigned_abs, Option, Some, None, option_and_then, Bool, true, not, nat_eq, ◌&&◌}
use Rattle.std.specs.List.{filter, range_with_len}
use Rattle.sk_num.specs.Ends.{Ends, point, span_add, span_mul}
use Rattle.sk_matrix.specs.Matrix.{of_both}

abbrev pub is_nought : Ends → Bool
is_nought e = nat_eq (unsigned_abs e.lo) 0 && nat_eq (unsigned_abs e.hi) 0

abbrev pub is_nonzero : Option Ends → Bool
is_nonzero None = true
is_nonzero (Some e) = not (is_nought e)

-- the columns of a row of n cells that aren't 0, rising
abbrev pub nonzero_columns : ℕ → (ℕ → Option Ends) → List ℕ
nonzero_columns n row = filter (λ k. is_nonzero (row k)) (range_with_len 0 n)

abbrev pub sum_at : List Ends → ℕ → Ends
sum_at us k = get_or us k (point (pos 0))

-- x times the row's cell, added to the sum of each of the columns; none where a number passes the limit
abbrev pub added : ℕ → Ends → (ℕ → Option Ends) → List ℕ → List Ends → Option (List Ends)
added s x row [] us = Some us
added s x row (k ∷ ks) us =
    option_and_then (λ e. added s x row ks (slice_set us k e)) (of_both span_add (Some (sum_at us k)) (of_both (span_mul s) (Some x) (row k)))
