use Rattle.std.proofs.Common.{arith}
use Rattle.std.proofs.lemmas.Int.{ints}
use Rattle.sk_num.specs.Scale.{IsScale-bounds}
use Rattle.sk_krawczyk.proofs.radii.log_of.Goals as goal

pub overflow_cast-result : goal.overflow_cast-result
overflow_cast-result g c = omega (arith, ints, IsScale-bounds c.requires.scale, c.requires.least, c.requires.most)

pub overflow_cast-result-2 : goal.overflow_cast-result-2
overflow_cast-result-2 g c = omega (arith, ints, IsScale-bounds c.requires.scale, c.requires.least, c.requires.most)

pub overflow_sub-result : goal.overflow_sub-result
overflow_sub-result g c = omega (arith, ints, IsScale-bounds c.requires.scale, c.requires.least, c.requires.most)

pub overflow_cast-result-3 : goal.overflow_cast-result-3
overflow_cast-result-3 g c = omega (arith, ints, IsScale-bounds c.requires.scale, c.requires.least, c.requires.most)

pub returns : goal.returns
returns g c = omega (arith, ints, IsScale-bounds c.requires.scale, c.requires.least, c.requires.most)
