use Rattle.std.proofs.Common.{◌≡◌, ◌≢◌, ◌≤◌, ◌-◌, ◌^◌, pos, ◌*ℤ◌, arith, lit≤, rules, subst, sym}
use Rattle.std.specs.Prelude.{IfSome}
use Rattle.std.proofs.lemmas.Int.{ints}
use Rattle.std.proofs.Math.Nat.{mul-le-mul_right, pow-le-pow_right}
use Rattle.sk_num.specs.Division.{IsNearest}
use Rattle.sk_num.specs.Rounding.{rounded_quotient}
use Rattle.sk_num.specs.SpellingLemmas.{kept-nearest}
use Rattle.sk_num.proofs.divisor.Divisor.quotient.Goals as goal

pub overflow_add-guess : goal.overflow_add-guess
overflow_add-guess g c =
    let b : c.self.inside.shift - 1 ≤ 91 = omega (arith, c.self.invariant.below) in
    let h : 2 ^ (c.self.inside.shift - 1) ≤ 2 ^ 91 = pow-le-pow_right (lit≤ tt) b in
    let a : c.unsigned_abs.result ≤ 2 ^ 62 = omega (arith, ints) in
    let j = mul-le-mul_right c.self.inside.reciprocal a in
    omega (arith, h, j)

pub returns-clause-nearest : goal.returns-clause-nearest
returns-clause-nearest g c =
    let v : c.signed_grid.result ≡ rounded_quotient g.row.S c.args.number c.args.self.now = search rules in
    let z : c.args.self.now ≢ pos 0 = search (rules, c.self.invariant.not_zero) in
    subst (λ o. IfSome o (IsNearest (c.args.number *ℤ pos (2 ^ g.row.S)) c.args.self.now)) (sym v) (kept-nearest (c.args.number *ℤ pos (2 ^ g.row.S)) c.args.self.now (omega (arith, ints, z)))
