use Rattle.std.proofs.Common.{◌≡◌, ◌^◌, pos, ◌+ℤ◌, ◌∙◌, arith, rules}
use Rattle.sk_num.specs.Division.{nearest, nearest-raised}
use Rattle.sk_num.specs.Rounding.{floor_at}
use Rattle.sk_num.specs.Scale.{IsScale-bounds}
use Rattle.sk_num.proofs.rounding.nearest_units.Goals as goal

pub floor-requires : goal.floor-requires
floor-requires g c = omega (arith, IsScale-bounds c.requires.scale)

pub returns : goal.returns
returns g c =
    let s : c.floor-sign.result ≡ floor_at 127 c.args.product = search rules in
    let f = nearest-raised c.args.product c.half.result c.floor-sign.result (2 ^ g.row.S) c.half.ensures.value c.half.ensures.positive (omega (arith, c.requires.fits)) s in
    let r : c.floor.result ≡ floor_at g.row.S (c.args.product +ℤ (c.half.result +ℤ c.floor-sign.result)) = search rules in
    let e : c.floor.result ≡ nearest c.args.product (pos (2 ^ g.row.S)) = r ∙ f in
    search (rules, e)
