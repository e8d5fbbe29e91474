use Rattle.std.proofs.Common.{◌≡◌, ◌++◌, Ok}
use Rattle.sk_model.specs.Chain.{then_of}
use Rattle.sk_model.specs.Remap.{all_numbers}
use Rattle.sk_model.proofs.remap.all_numbers.Given as goal

abbrev pub invariant-loop-line : goal.invariant-loop-line
invariant-loop-line l = then_of (all_numbers l.line-iterator) (λ es. Ok (l.numbers.items ++ es)) ≡ all_numbers l.fn.lines
