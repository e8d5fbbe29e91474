use Rattle.std.proofs.Common.{◌≡◌, ◌<◌, ℕ, true, length, get_or}
use Rattle.sk_expr.specs.Marks.{is_marked}
use Rattle.sk_expr.proofs.tape.Tape.marks.Given as goal

abbrev pub invariant-loop-row : goal.invariant-loop-row
invariant-loop-row g l = record {
  long : length l.marks.items ≡ length l.self.nodes;
  rows : (k : ℕ) → k < l.row-index → is_marked l.marks.items (get_or l.self.roots (get_or l.rows k 0) 0) ≡ true;
}
