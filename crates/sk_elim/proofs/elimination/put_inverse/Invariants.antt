use Rattle.std.proofs.Common.{◌≡◌, ◌++◌, drop}
use Rattle.std.specs.Prelude.{option_map}
use Rattle.sk_elim.specs.Elimination.{inverse_row}
use Rattle.sk_num.specs.Each.{each_some}
use Rattle.sk_elim.specs.Faults.{progress_of}
use Rattle.sk_elim.specs.Result.{joined}
use Rattle.sk_elim.proofs.elimination.put_inverse.Given as goal

abbrev pub invariant-loop-j : goal.invariant-loop-j
invariant-loop-j g l =
    option_map (λ yss. l.cells.items ++ joined yss) (each_some (inverse_row g.row.S l.columns (progress_of g.row.S l.w) l.retained) (drop l.j l.solved))
    ≡ option_map (λ yss. l.initial.cells.items ++ joined yss) (each_some (inverse_row g.row.S l.columns (progress_of g.row.S l.w) l.retained) l.solved)
