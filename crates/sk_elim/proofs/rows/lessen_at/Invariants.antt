use Rattle.std.proofs.Common.{◌≡◌, ℕ, length, drop}
use Rattle.sk_num.specs.Limit.{IsInLimit}
use Rattle.sk_elim.specs.Elimination.{cell}
use Rattle.sk_elim.specs.Filled.{less_at}
use Rattle.sk_elim.proofs.rows.lessen_at.Given as goal

abbrev pub invariant-loop-i : goal.invariant-loop-i
invariant-loop-i g l = record {
  size : length l.row ≡ length l.pivot;
  within : (j : ℕ) → IsInLimit (cell l.row j);
  left : less_at g.row.S l.factor l.pivot (drop l.i l.places) l.row ≡ less_at g.row.S l.factor l.pivot l.places l.initial.row;
}
