use Rattle.std.proofs.Common.{◌≤◌, ◌-◌, ◌^◌, arith, lit≤}
use Rattle.std.proofs.lemmas.Int.{ints}
use Rattle.std.proofs.lemmas.Nat.{pow_pos}
use Rattle.std.proofs.Math.Nat.{pow-le-pow_right}
use Rattle.sk_num.specs.Scale.{IsScale-bounds, IsScale-half}
use Rattle.sk_num.proofs.rounding.half.Goals as goal

pub overflow_sub-result : goal.overflow_sub-result
overflow_sub-result g c = omega (arith, IsScale-bounds c.requires)

pub overflow_shl-result : goal.overflow_shl-result
overflow_shl-result g c = omega (arith, IsScale-bounds c.requires)

pub returns-clause-value : goal.returns-clause-value
returns-clause-value g c =
    let b : g.row.S - 1 ≤ 43 = omega (arith, IsScale-bounds c.requires) in
    let h : 2 ^ (g.row.S - 1) ≤ 2 ^ 43 = pow-le-pow_right (lit≤ tt) b in
    omega (arith, ints, h, IsScale-half c.requires)

pub returns-clause-positive : goal.returns-clause-positive
returns-clause-positive g c =
    let b : g.row.S - 1 ≤ 43 = omega (arith, IsScale-bounds c.requires) in
    let h : 2 ^ (g.row.S - 1) ≤ 2 ^ 43 = pow-le-pow_right (lit≤ tt) b in
    omega (arith, ints, h, pow_pos (g.row.S - 1))

pub returns-clause-small : goal.returns-clause-small
returns-clause-small g c =
    let b : g.row.S - 1 ≤ 43 = omega (arith, IsScale-bounds c.requires) in
    let h : 2 ^ (g.row.S - 1) ≤ 2 ^ 43 = pow-le-pow_right (lit≤ tt) b in
    omega (arith, ints, h)
