-- Rows of a system as plain data.
use Rattle.std.specs.Prelude.{ℕ, ℤ}
use Rattle.sk_expr.specs.Poly.{Poly}
use Rattle.sk_expr.specs.Trees.{poly_of}
use Rattle.sk_expr.specs.declared.row.Row.{Row}
use Rattle.sk_expr.specs.declared.row.RowName.{RowName}

-- a polynomial that is to be 0, with its name
pub record NamedRow : Type 0 where
  pub name : RowName
  pub tree : Poly ℤ

abbrev pub row_of : {s : ℕ} → Row s → NamedRow
row_of r = record { name = r.name; tree = poly_of r.tree }

abbrev pub row_poly : {s : ℕ} → Row s → Poly ℤ
row_poly r = poly_of r.tree
