-- The square system of retained rows in solved columns, the radii of a box round the point, and the matrices over the box
-- (Krawczyk's operator, in Neumaier, Interval Methods for Systems of Equations, chapter 5). Numbers are counts of units.
use Rattle.std.specs.Prelude.{◌==◌, ℕ, zero, suc, ◌+◌, ◌*◌, ◌^◌, List, map, length, get_or, ℤ, pos, ◌+ℤ◌, ◌-ℤ◌, Option, nat_le, if◌then◌else◌}
use Rattle.std.specs.List.{enumerate_from}
use Rattle.sk_num.specs.Ends.{Ends, point, mag}
use Rattle.sk_expr.specs.Poly.{Poly, number}
use Rattle.sk_expr.specs.SpanValue.{span_value, span_slope}
use Rattle.sk_expr.specs.System.{SystemAt}
use Rattle.sk_elim.specs.Elimination.{Elimination}
use Rattle.sk_elim.specs.Result.{joined}
use Rattle.sk_matrix.specs.Cells.{number_cell}
use Rattle.sk_matrix.specs.Matrix.{dot, product, points, one_less}

-- as many solved columns as retained rows, and the approximate inverse of their matrix of slopes
pub record SquareSystem : Type 0 where
  pub centre : List ℤ
  pub cosines : List Ends
  pub size : ℕ
  pub column : ℕ → ℕ
  pub row : ℕ → Poly ℤ
  pub inverse : ℕ → ℕ → ℤ

-- held and solved columns, retained rows and suspects, and the approximate inverse of the slopes of retained rows in solved
-- columns, row by row
pub record Basis : Type 0 where
  pub held : List ℕ
  pub solved : List ℕ
  pub retained : List ℕ
  pub suspects : List ℕ
  pub inverse : List ℤ

abbrev pub basis_of : Elimination → Basis
basis_of e = record { held = e.held; solved = e.solved; retained = e.retained; suspects = e.suspects; inverse = joined e.inverse }

abbrev pub square_system : SystemAt → Basis → SquareSystem
square_system v b = record {
  centre = v.unknowns;
  cosines = v.cosines;
  size = length b.solved;
  column = λ j. get_or b.solved j 0;
  row = λ i. get_or v.rows (get_or b.retained i 0) (number (pos 0));
  inverse = number_cell (length b.solved) b.inverse;
}

-- F(x), and Y F(x): Newton's step, which is taken from the point
abbrev pub residual : ℕ → SquareSystem → ℕ → Option Ends
residual s q i = span_value s (map point q.centre) q.cosines (q.row i)

unfoldable pub newton_step : ℕ → SquareSystem → ℕ → Option Ends
newton_step s q j = dot s q.size (points q.inverse j) (residual s q)

-- the least e from 4 on with n at most 2^e, where n is at most 2^(4 + k)
abbrev pub least_exponent : ℕ → ℕ → ℕ
least_exponent zero n = 4
least_exponent (suc k) n = if nat_le n (2 ^ (4 + k)) then least_exponent k n else 5 + k

-- the radius of a column is 2^e units, the least power of two that is at least 16 units and at least twice both absolute ends of
-- the column's step; an end is at most 2^62 units, so an exponent from 4 to 64 is found
unfoldable pub radius_exponent : Ends → ℕ
radius_exponent e = least_exponent 60 (2 * mag e)

abbrev pub radius_of : Ends → ℕ
radius_of e = 2 ^ radius_exponent e

-- f j at the column of the place j, d at any other
abbrev pub at_column : {A : Type 0} → ℕ → (ℕ → ℕ) → (ℕ → A) → A → ℕ → A
at_column zero column f d c = d
at_column (suc m) column f d c = if column m == c then f m else at_column m column f d c

-- how far the box reaches in an unknown: the radius of a solved column, 0 in a held one
abbrev pub reach : SquareSystem → (ℕ → ℕ) → ℕ → ℕ
reach q radius c = at_column q.size q.column radius 0 c

abbrev pub box : SquareSystem → (ℕ → ℕ) → List Ends
box q radius = map (λ p. record { lo = p.1 -ℤ pos (reach q radius p.0); hi = p.1 +ℤ pos (reach q radius p.0) }) (enumerate_from 0 q.centre)

-- J(X), I - Y J(X) and I - J(X) Y
abbrev pub slope_over : ℕ → SquareSystem → (ℕ → ℕ) → ℕ → ℕ → Option Ends
slope_over s q radius i j = span_slope s (box q radius) q.cosines (q.column j) (q.row i)

abbrev pub left_rest : ℕ → SquareSystem → (ℕ → ℕ) → ℕ → ℕ → Option Ends
left_rest s q radius = one_less s (product s q.size (points q.inverse) (slope_over s q radius))

abbrev pub right_rest : ℕ → SquareSystem → (ℕ → ℕ) → ℕ → ℕ → Option Ends
right_rest s q radius = one_less s (product s q.size (slope_over s q radius) (points q.inverse))
