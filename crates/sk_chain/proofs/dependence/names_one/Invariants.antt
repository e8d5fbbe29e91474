use Rattle.std.proofs.Common.{◌≡◌, drop}
use Rattle.std.specs.List.{list_any}
use Rattle.sk_chain.specs.Dependence.{is_at}
use Rattle.sk_chain.proofs.dependence.names_one.Given as goal

abbrev pub invariant-loop-named : goal.invariant-loop-named
invariant-loop-named g l = list_any (is_at l.entities l.earlier) (drop l.named-index l.names) ≡ list_any (is_at l.entities l.earlier) l.names
