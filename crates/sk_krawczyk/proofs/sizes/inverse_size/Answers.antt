use Rattle.std.proofs.Common.{arith}
use Rattle.sk_krawczyk.proofs.sizes.inverse_size.Goals as goal

pub whole_up-requires-clause-small : goal.whole_up-requires-clause-small
whole_up-requires-clause-small g c = omega (arith, c.row_sums_plain.ensures.small)
