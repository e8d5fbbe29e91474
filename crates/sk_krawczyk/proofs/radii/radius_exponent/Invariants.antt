use Rattle.std.proofs.Common.{◌≡◌, ◌≤◌, ◌+◌}
use Rattle.sk_krawczyk.specs.Box.{least_exponent}
use Rattle.sk_krawczyk.proofs.radii.radius_exponent.Given as goal

abbrev pub invariant-loop-k : goal.invariant-loop-k
invariant-loop-k g l = record { is : l.exponent ≡ least_exponent l.k l.need; least : 4 ≤ l.exponent; most : l.exponent ≤ 4 + l.k }
