-- The formula of a constraint: its auxiliaries, its cosines, and its relation rows.
use Rattle.std.specs.Prelude.{ℤ, Bool, List, [], ◌∷◌, ◌++◌, map, if◌then◌else◌}
use Rattle.sk_num.specs.Ends.{Ends}
use Rattle.sk_expr.specs.Poly.{Poly, minus, times}
use Rattle.sk_expr.specs.Vectors.{dot, squared, cross, flat_cross}

-- an unknown x with a row of its own: the length of a vector, x^2 - |a|^2, or the quotient of n and d, n - x d
pub data Auxiliary : Type 0 where
  length_of : List (Poly ℤ) → Auxiliary
  quotient_of : Poly ℤ → Poly ℤ → Auxiliary

abbrev pub own_row : Poly ℤ → Auxiliary → Poly ℤ
own_row x (length_of a) = minus (times x x) (squared a)
own_row x (quotient_of n d) = minus n (times x d)

-- relation rows: one; those of b without the one in whose place a reads greatest; of two the one that reads less
pub data Relation : Type 0 where
  row : Poly ℤ → Relation
  without_greatest : List (Poly ℤ) → List (Poly ℤ) → Relation
  lesser : Poly ℤ → Poly ℤ → Relation

pub record Formula : Type 0 where
  pub auxiliaries : List Auxiliary
  pub cosines : List Ends
  pub relations : List Relation

abbrev pub formula : List Auxiliary → List Relation → Formula
formula xs rs = record { auxiliaries = xs; cosines = []; relations = rs }

-- rows alone
abbrev pub rows_only : List (Poly ℤ) → Formula
rows_only ts = formula [] (map row ts)

-- a and b are parallel: in space two components of their cross product, without the one in whose place a reads greatest
unfoldable pub parallel : Bool → List (Poly ℤ) → List (Poly ℤ) → Formula
parallel flat a b = if flat then rows_only (flat_cross a b ∷ []) else formula [] (without_greatest a (cross a b) ∷ [])

-- a and b are at a right angle
unfoldable pub perpendicular : List (Poly ℤ) → List (Poly ℤ) → Formula
perpendicular a b = rows_only (dot a b ∷ [])

-- more of them, behind those that are there
abbrev pub then_auxiliaries : Formula → List Auxiliary → Formula
then_auxiliaries f xs = record f { auxiliaries = f.auxiliaries ++ xs }

abbrev pub then_cosine : Formula → Ends → Formula
then_cosine f e = record f { cosines = f.cosines ++ e ∷ [] }

abbrev pub then_relation : Formula → Relation → Formula
then_relation f r = record f { relations = f.relations ++ r ∷ [] }

abbrev pub then_rows : Formula → List (Poly ℤ) → Formula
then_rows f ts = record f { relations = f.relations ++ map row ts }
