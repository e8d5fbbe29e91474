-- The slopes of a row in the listed columns that occur in it.
use Rattle.std.specs.Prelude.{ℕ, ◌==◌, ℤ, pos, Bool, not, ◌&&◌, is_some, List, [], ◌∷◌, ◌++◌, length, Option, Some, None, option_map, if◌then◌else◌}
use Rattle.sk_num.specs.Ends.{Ends, point}
use Rattle.sk_num.specs.Each.{each_some}
use Rattle.sk_expr.specs.Poly.{Poly, occurs}
use Rattle.sk_expr.specs.SpanValue.{DualEnds, span_slope}
use Rattle.sk_expr.specs.ForwardSlopes.{picked}
use Rattle.sk_expr.specs.declared.sparse.SparseRow.{SparseRow}

pub record PlainSparse : Type 0 where
  pub columns : List ℕ
  pub spans : List Ends

abbrev pub sparse_of : List ℕ → List Ends → PlainSparse
sparse_of cs es = record { columns = cs; spans = es }

abbrev pub plain_sparse : {s : ℕ} → SparseRow s → PlainSparse
plain_sparse r = sparse_of r.columns r.spans

-- with a column and its span before the others
abbrev pub sparse_cons : ℕ → Ends → PlainSparse → PlainSparse
sparse_cons c e p = sparse_of (c ∷ p.columns) (e ∷ p.spans)

-- of the columns and their spans those that occur
abbrev pub occurring : Poly ℤ → List ℕ → List Ends → PlainSparse
occurring t [] es = sparse_of [] []
occurring t (c ∷ ks) [] = sparse_of [] []
occurring t (c ∷ ks) (e ∷ es) = if occurs c t then sparse_cons c e (occurring t ks es) else occurring t ks es

-- the listed columns that occur, in order, with the spans of the slopes there; None where a slope in a listed column passes the limit
abbrev pub sparse_slopes : ℕ → List Ends → List Ends → List ℕ → Poly ℤ → Option PlainSparse
sparse_slopes s us cs ks t = option_map (occurring t ks) (each_some (λ c. span_slope s us cs c t) ks)

-- columns beside their duals as columns and spans, None where one passes the limit
abbrev pub with_dual : ℕ → Option DualEnds → Option PlainSparse → Option PlainSparse
with_dual c None r = None
with_dual c (Some d) r = option_map (sparse_cons c d.slope) r

abbrev pub collected : List (ℕ × Option DualEnds) → Option PlainSparse
collected [] = Some (sparse_of [] [])
collected (p ∷ ps) = with_dual p.0 p.1 (collected ps)

-- the slopes of a row from the value and the duals of its root, where the listed columns rise or not
abbrev pub row_slopes : Option Ends → List (ℕ × Option DualEnds) → List ℕ → Bool → Option PlainSparse
row_slopes v ps ks rises = if not (is_some v) && not (length ks == 0) then None else collected (if rises then ps else picked ps ks)

-- the columns cs and spans es, and behind them those that are collected
abbrev pub collected_onto : List ℕ → List Ends → List (ℕ × Option DualEnds) → Option PlainSparse
collected_onto cs es ps = option_map (λ p. sparse_of (cs ++ p.columns) (es ++ p.spans)) (collected ps)

-- the span beside a column, 0 to 0 beside one that isn't there
abbrev pub span_beside : List ℕ → List Ends → ℕ → Ends
span_beside [] es c = point (pos 0)
span_beside (k ∷ ks) [] c = point (pos 0)
span_beside (k ∷ ks) (e ∷ es) c = if k == c then e else span_beside ks es c
