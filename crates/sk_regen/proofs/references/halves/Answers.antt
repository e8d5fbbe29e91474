use Rattle.std.proofs.Common.{arith, to_z, of_z}
use Rattle.std.specs.Prelude.{pos, ◌-ℤ◌}
use Rattle.std.specs.Int.{w128}
use Rattle.std.proofs.lemmas.Int.{ints}
use Rattle.sk_regen.proofs.Halves.{small-half, half-read, minus-read}
use Rattle.sk_regen.proofs.references.halves.Goals as goal

pub returns-clause-half : goal.returns-clause-half
returns-clause-half g c =
    let h = small-half g.row.S c.requires in
    let is = c.half_units-half.ensures in
    half-read g.row.S c.requires (to_z w128 (of_z w128 c.half_units-half.result)) c.grid.result c.grid.ensures (omega (arith, ints, h, is))

pub returns-clause-minus : goal.returns-clause-minus
returns-clause-minus g c =
    let h = small-half g.row.S c.requires in
    let is = c.half_units-half.ensures in
    minus-read g.row.S c.requires (to_z w128 (of_z w128 (pos 0 -ℤ to_z w128 (of_z w128 c.half_units-half.result)))) c.grid-2.result c.grid-2.ensures (omega (arith, ints, h, is))
