use Rattle.std.proofs.Common.{◌≤◌, ◌^◌, arith, lit≤}
use Rattle.std.proofs.lemmas.Nat.{pow_pos}
use Rattle.std.proofs.Math.Nat.{pow-le-pow_right}
use Rattle.std.proofs.lemmas.Int.{ints}
use Rattle.sk_num.specs.Scale.{IsScale-bounds}
use Rattle.sk_num.proofs.grid.one.Goals as goal

pub overflow_shl-result : goal.overflow_shl-result
overflow_shl-result g c = omega (arith, IsScale-bounds c.requires)

pub returns-clause-value : goal.returns-clause-value
returns-clause-value g c =
    let h : 2 ^ g.row.S ≤ 2 ^ 44 = pow-le-pow_right (lit≤ tt) (IsScale-bounds c.requires).1 in omega (arith, ints, h)

pub returns-clause-small : goal.returns-clause-small
returns-clause-small g c = pow-le-pow_right (lit≤ tt) (IsScale-bounds c.requires).1

pub returns-clause-positive : goal.returns-clause-positive
returns-clause-positive g c = pow_pos g.row.S
