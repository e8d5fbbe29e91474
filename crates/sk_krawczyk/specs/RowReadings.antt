-- The values and slopes of a system's rows that the test reads, and how they are stored.
use Rattle.std.specs.Prelude.{ℕ, List, [], ◌∷◌, ◌++◌, map, get_or, ℤ, pos, Option}
use Rattle.sk_num.specs.Ends.{Ends}
use Rattle.sk_expr.specs.Poly.{Poly, number}
use Rattle.sk_expr.specs.SpanValue.{span_value, span_slope}
use Rattle.sk_expr.specs.SparseRows.{PlainSparse, span_beside}
use Rattle.sk_matrix.specs.Matrix.{dot, points}
use Rattle.sk_matrix.specs.Cells.{number_cell}

abbrev pub row_value : ℕ → List Ends → List Ends → List (Poly ℤ) → ℕ → Option Ends
row_value s over cosines rows r = span_value s over cosines (get_or rows r (number (pos 0)))

-- of the listed row i in the listed column j
abbrev pub row_slope : ℕ → List Ends → List Ends → List (Poly ℤ) → List ℕ → List ℕ → ℕ → ℕ → Option Ends
row_slope s over cosines rows listed columns i j = span_slope s over cosines (get_or columns j 0) (get_or rows (get_or listed i 0) (number (pos 0)))

-- Y F(x), a column of as many cells as Y has rows; m is the number of retained rows
abbrev pub newton_of : ℕ → List Ends → List Ends → List (Poly ℤ) → List ℕ → ℕ → List ℤ → ℕ → ℕ → Option Ends
newton_of s over cosines rows retained m y j k = dot s m (points (number_cell m y) j) (λ i. row_value s over cosines rows (get_or retained i 0))

-- the spans of each row beside all columns, one row after the other
abbrev pub dense_cells : List PlainSparse → List ℕ → List Ends
dense_cells [] ks = []
dense_cells (p ∷ ps) ks = map (span_beside p.columns p.spans) ks ++ dense_cells ps ks
