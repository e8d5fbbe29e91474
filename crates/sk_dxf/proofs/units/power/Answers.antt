use Rattle.std.proofs.Common.{◌≤◌, ◌-◌, arith, lit≤}
use Rattle.std.proofs.lemmas.Nat.{one_shl}
use Rattle.std.proofs.Math.Nat.{pow-le-pow_right}
use Rattle.sk_num.specs.Scale.{IsScale-bounds}
use Rattle.sk_dxf.proofs.units.power.Goals as goal

pub overflow_sub-result : goal.overflow_sub-result
overflow_sub-result g c = omega (arith, IsScale-bounds c.requires.scale)

pub overflow_shl-result : goal.overflow_shl-result
overflow_shl-result g c = omega (arith, IsScale-bounds c.requires.scale)

pub returns-clause-value : goal.returns-clause-value
returns-clause-value g c = one_shl (g.row.S - c.args.below) 64 (omega (arith, IsScale-bounds c.requires.scale))

pub returns-clause-small : goal.returns-clause-small
returns-clause-small g c =
    let m : g.row.S - c.args.below ≤ 44 = omega (arith, IsScale-bounds c.requires.scale) in
    rw (returns-clause-value g c) (pow-le-pow_right (lit≤ tt) m)
