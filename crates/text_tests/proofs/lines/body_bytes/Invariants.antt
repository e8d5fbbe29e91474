use Rattle.std.proofs.Common.{◌≡◌, ◌+◌, length}
use Rattle.std.specs.List.{sum_by}
use Rattle.sk_text.specs.Lines.{PlacedLine, lines_of}
use Rattle.text_tests.proofs.lines.body_bytes.Given as goal

abbrev pub invariant-loop-line : goal.invariant-loop-line
invariant-loop-line l = l.total + sum_by (λ (p : PlacedLine). length p.line.body) l.line-iterator ≡ sum_by (λ (p : PlacedLine). length p.line.body) (lines_of l.text)
