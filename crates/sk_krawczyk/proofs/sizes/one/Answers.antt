use Rattle.std.proofs.Common.{◌≤◌, ◌^◌, arith, lit≤}
use Rattle.std.proofs.lemmas.Nat.{one_shl}
use Rattle.std.proofs.Math.Nat.{pow-le-pow_right}
use Rattle.sk_num.specs.Scale.{IsScale-bounds}
use Rattle.sk_krawczyk.proofs.sizes.one.Goals as goal

pub overflow_shl-result : goal.overflow_shl-result
overflow_shl-result g c = omega (arith, IsScale-bounds c.requires)

pub returns-clause-value : goal.returns-clause-value
returns-clause-value g c = one_shl g.row.S 128 (omega (arith, IsScale-bounds c.requires))

pub returns-clause-large : goal.returns-clause-large
returns-clause-large g c =
    let e = one_shl g.row.S 128 (omega (arith, IsScale-bounds c.requires)) in
    let h : 2 ^ 36 ≤ 2 ^ g.row.S = pow-le-pow_right (lit≤ tt) (IsScale-bounds c.requires).0 in
    omega (arith, h, e)

pub returns-clause-small : goal.returns-clause-small
returns-clause-small g c =
    let e = one_shl g.row.S 128 (omega (arith, IsScale-bounds c.requires)) in
    let h : 2 ^ g.row.S ≤ 2 ^ 44 = pow-le-pow_right (lit≤ tt) (IsScale-bounds c.requires).1 in
    omega (arith, h, e)
