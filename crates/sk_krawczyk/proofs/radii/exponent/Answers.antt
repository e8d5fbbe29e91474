use Rattle.std.proofs.Common.{arith}
use Rattle.std.proofs.lemmas.Int.{ints}
use Rattle.sk_num.specs.Scale.{IsScale-bounds}
use Rattle.sk_krawczyk.proofs.radii.exponent.Goals as goal

pub overflow_cast-result : goal.overflow_cast-result
overflow_cast-result g c = omega (arith, ints, IsScale-bounds c.requires.scale, c.requires.form.least, c.requires.form.most)

pub overflow_cast-result-2 : goal.overflow_cast-result-2
overflow_cast-result-2 g c = omega (arith, ints, IsScale-bounds c.requires.scale, c.requires.form.least, c.requires.form.most)

pub overflow_add-result : goal.overflow_add-result
overflow_add-result g c = omega (arith, ints, IsScale-bounds c.requires.scale, c.requires.form.least, c.requires.form.most)

pub overflow_cast-result-3 : goal.overflow_cast-result-3
overflow_cast-result-3 g c = omega (arith, ints, IsScale-bounds c.requires.scale, c.requires.form.least, c.requires.form.most)

pub returns-clause-value : goal.returns-clause-value
returns-clause-value g c = omega (arith, ints, IsScale-bounds c.requires.scale, c.requires.form.least, c.requires.form.most)

pub returns-clause-small : goal.returns-clause-small
returns-clause-small g c = omega (arith, ints, IsScale-bounds c.requires.scale, c.requires.form.least, c.requires.form.most)
