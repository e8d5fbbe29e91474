use Rattle.std.proofs.Common.{arith}
use Rattle.std.proofs.lemmas.Int.{ints}
use Rattle.sk_num.proofs.span.Span.greatest_product.Goals as goal

pub returns-clause-fits : goal.returns-clause-fits
returns-clause-fits g c = omega (arith, ints)
