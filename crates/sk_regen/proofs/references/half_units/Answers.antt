use Rattle.std.proofs.Common.{arith}
use Rattle.std.proofs.lemmas.Int.{ints}
use Rattle.sk_num.specs.Scale.{IsScale-bounds}
use Rattle.sk_regen.proofs.Halves.{small-half}
use Rattle.sk_regen.proofs.references.half_units.Goals as goal

pub overflow_sub-result : goal.overflow_sub-result
overflow_sub-result g c = let bounds = IsScale-bounds c.requires in omega (arith, bounds)

pub overflow_shl-result : goal.overflow_shl-result
overflow_shl-result g c = let bounds = IsScale-bounds c.requires in omega (arith, bounds)

pub returns : goal.returns
returns g c = let h = small-half g.row.S c.requires in omega (arith, ints, h)
