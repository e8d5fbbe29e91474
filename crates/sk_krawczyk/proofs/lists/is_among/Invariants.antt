use Rattle.std.proofs.Common.{◌≡◌, drop}
use Rattle.sk_expr.specs.Columns.{is_among}
use Rattle.sk_krawczyk.proofs.lists.is_among.Given as goal

abbrev pub invariant-loop-k : goal.invariant-loop-k
invariant-loop-k l = is_among (drop l.k-index l.listed) l.c ≡ is_among l.listed l.c
