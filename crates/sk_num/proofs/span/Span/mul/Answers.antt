use Rattle.std.proofs.Common.{◌≡◌, arith, rules, to_z, of_z}
use Rattle.std.specs.Int.{w128}
use Rattle.std.proofs.lemmas.Int.{ints}
use Rattle.sk_num.specs.Scale.{IsScale-bounds}
use Rattle.sk_num.specs.Ends.{span_mul}
use Rattle.sk_num.specs.EnclosedLemmas.{span_mul-encloses}
use Rattle.sk_num.proofs.EndsLemmas.{least-le-greatest, floor_at-le-ceil_at}
use Rattle.sk_num.proofs.span.Span.mul.Goals as goal

pub floor-lo-requires : goal.floor-lo-requires
floor-lo-requires g c = omega (arith, IsScale-bounds c.requires)

pub ceil-hi-requires-clause-small : goal.ceil-hi-requires-clause-small
ceil-hi-requires-clause-small g c = omega (arith, IsScale-bounds c.requires)

pub span_between-requires : goal.span_between-requires
span_between-requires g c =
    let l = least-le-greatest c.args.self.now c.args.o.now in
    let h = floor_at-le-ceil_at g.row.S (to_z w128 (of_z w128 c.product_ends-least.result.0)) (to_z w128 (of_z w128 c.product_ends-least.result.1)) (omega (arith, ints, l)) in
    omega (arith, ints, h)

pub returns-clause-encloses : goal.returns-clause-encloses
returns-clause-encloses g c =
    let ends : c.span_between.result ≡ span_mul g.row.S c.args.self.now c.args.o.now = search rules in
    span_mul-encloses g.row.S c.args.self.now c.args.o.now c.span_between.result ends
