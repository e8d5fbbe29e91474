-- A system at a point as the code holds it, and when it can be tested.
use Rattle.std.specs.Prelude.{◌≡◌, ℕ, ◌+◌, ◌<◌, ◌≤◌, ℤ, List, [], ◌∷◌, map, length, take}
use Rattle.std.specs.List.{range_with_len}
use Rattle.sk_expr.specs.Poly.{Poly, IsInRange}
use Rattle.sk_expr.specs.System.{ForcedPivot, SystemAt}
use Rattle.sk_expr.specs.Rows.{NamedRow, row_of}
use Rattle.sk_expr.specs.Seen.{Seen, AreForced}
use Rattle.sk_expr.specs.Tapes.{plain_tape, root_trees, row_tree, IsTape}
use Rattle.sk_expr.specs.declared.row.Auxiliaries.{Auxiliaries}
use Rattle.sk_expr.specs.declared.row.RowName.{RowName}
use Rattle.sk_expr.specs.declared.visited.Forced.{Forced}
use Rattle.sk_expr.specs.declared.visited.Visited.{Visited}

abbrev pub pivot_of : Forced → ForcedPivot
pivot_of f = record { row = f.row; column = f.column; is_length = f.length }

-- names and polynomials of the same rows
abbrev pub named : List RowName → List (Poly ℤ) → List NamedRow
named [] ts = []
named (n ∷ ns) [] = []
named (n ∷ ns) (t ∷ ts) = record { name = n; tree = t } ∷ named ns ts

abbrev pub seen_of : {s : ℕ} → Visited s → Seen
seen_of v = record {
  unknowns = v.unknowns;
  rows = named v.rows (root_trees (plain_tape v.tape));
  cosines = v.cosines;
  forced = map pivot_of v.forced;
}

-- what is seen so far, while the rows are made
abbrev pub grown_of : {s : ℕ} → Auxiliaries s → Seen
grown_of {s} a = record {
  unknowns = a.unknowns;
  rows = map (row_of {s = s}) a.rows;
  cosines = a.cosines;
  forced = map pivot_of a.forced;
}

-- its rows are the trees of the tape's roots
abbrev pub system_of : {s : ℕ} → ℕ → Visited s → SystemAt
system_of params v = record {
  params = params;
  unknowns = v.unknowns;
  rows = root_trees (plain_tape v.tape);
  cosines = v.cosines;
  forced = map pivot_of v.forced;
}

-- the condition of the interval test: the tape has its form and one root for each name, every place is in range, there are
-- at most 65535 unknowns and as many rows, and the forced pairs fit
pub record IsTestable (params : ℕ) {s : ℕ} (v : Visited s) : Type 0 where
  pub tape : IsTape (plain_tape v.tape)
  pub one_each : length v.rows ≡ length v.tape.roots
  pub in_range : (r : ℕ) → r < length v.tape.roots → IsInRange (length v.unknowns) (length v.cosines) (row_tree (plain_tape v.tape) r)
  pub few_unknowns : length v.unknowns ≤ 65535
  pub few_rows : length v.rows ≤ 65535
  pub forced : AreForced params (length v.unknowns) (length v.rows) (map pivot_of v.forced)

-- the unknowns are a point's numbers, then the auxiliaries, and each of these has one forced pair, in order
pub record BeginsWith (point : List ℤ) {s : ℕ} (v : Visited s) : Type 0 where
  pub unknowns : take (length point) v.unknowns ≡ point
  pub many : length v.unknowns ≡ length point + length v.forced
  pub columns : map (λ f. f.column) v.forced ≡ range_with_len (length point) (length v.forced)
