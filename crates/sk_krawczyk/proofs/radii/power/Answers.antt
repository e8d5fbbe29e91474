use Rattle.std.proofs.Common.{◌≤◌, ◌^◌, arith, lit≤}
use Rattle.std.proofs.Math.Nat.{pow-le-pow_right}
use Rattle.sk_krawczyk.proofs.radii.power.Goals as goal

pub overflow_shl-result : goal.overflow_shl-result
overflow_shl-result c = omega (arith, c.requires)

pub returns-clause-value : goal.returns-clause-value
returns-clause-value c =
    let h : 2 ^ c.args.exponent ≤ 2 ^ 34 = pow-le-pow_right (lit≤ tt) c.requires in omega arith

pub returns-clause-small : goal.returns-clause-small
returns-clause-small c =
    let h : 2 ^ c.args.exponent ≤ 2 ^ 34 = pow-le-pow_right (lit≤ tt) c.requires in omega arith
