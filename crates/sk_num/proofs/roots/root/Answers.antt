use Rattle.std.proofs.Common.{◌≡◌, arith, ◌≤◌, ◌^◌, pos, ◌*ℤ◌, subst}
use Rattle.std.specs.Prelude.{unsigned_abs}
use Rattle.std.proofs.lemmas.Int.{ints}
use Rattle.std.proofs.Math.IntN.{zero-*ℤ}
use Rattle.sk_num.specs.Whole.{*ℤ-le_pos}
use Rattle.sk_num.specs.Rounding.{IsRoot}
use Rattle.sk_num.proofs.RootLemmas.{root_is, root_small}
use Rattle.sk_num.proofs.roots.root.Goals as goal

pub small-requires : goal.small-requires
small-requires g c =
    let s : c.isqrt_floor-units.result ≤ 2 ^ 53 = root_small c.isqrt_floor-units.result (unsigned_abs c.scaled-square.result) (omega (arith, ints)) c.scaled-square.ensures.fits in
    omega (arith, ints, s)

pub returns : goal.returns
returns g c =
    let n = unsigned_abs c.scaled-square.result in
    let r = c.isqrt_floor-units.result in
    let one = pos (2 ^ g.row.S) in
    let from_zero = *ℤ-le_pos (2 ^ g.row.S) (pos 0) c.args.a c.requires.from_zero in
    let square : c.args.a *ℤ one ≡ pos n = omega (arith, ints, from_zero, zero-*ℤ one, c.scaled-square.ensures.value) in
    let units : pos r ≡ c.small.result = omega (arith, ints, root_small r n (omega (arith, ints)) c.scaled-square.ensures.fits) in
    subst (λ q. IsRoot g.row.S c.args.a q) units (root_is g.row.S c.args.a n r square (omega (arith, ints)) (omega (arith, ints)))
