use Rattle.std.proofs.Common.{◌≡◌, ℕ, ℤ, ◌≤◌, ◌^◌, pos, ◌*ℤ◌, arith, lit≤, rules}
use Rattle.std.specs.Prelude.{unsigned_abs}
use Rattle.std.proofs.lemmas.Int.{ints}
use Rattle.std.proofs.lemmas.Nat.{pow_pos}
use Rattle.std.proofs.Math.Nat.{pow-le-pow_right}
use Rattle.sk_num.specs.Division.{nearest, nearest-within}
use Rattle.sk_num.specs.Scale.{IsScale, IsScale-bounds}
use Rattle.sk_num.proofs.rounding.rmul_small.Goals as goal

product-within : (s : ℕ) (p : ℤ) → IsScale s → unsigned_abs p ≤ 2 ^ 96 → unsigned_abs (nearest p (pos (2 ^ s))) ≤ 2 ^ 60
product-within s p h l =
    let m : 2 ^ 36 ≤ 2 ^ s = pow-le-pow_right (lit≤ tt) (IsScale-bounds h).0 in
    nearest-within p (2 ^ s) (2 ^ 60) (pow_pos s) (omega (arith, l, m))

pub small-requires : goal.small-requires
small-requires g c =
    let e : c.nearest_units.result ≡ nearest (c.args.a *ℤ c.args.b) (pos (2 ^ g.row.S)) = search rules in
    let w : unsigned_abs c.nearest_units.result ≤ 2 ^ 60 = rw e (product-within g.row.S (c.args.a *ℤ c.args.b) c.requires.scale c.requires.small) in
    omega (arith, ints, w)

pub returns-clause-small : goal.returns-clause-small
returns-clause-small g c =
    let e : c.nearest_units.result ≡ nearest (c.args.a *ℤ c.args.b) (pos (2 ^ g.row.S)) = search rules in
    let w : unsigned_abs c.nearest_units.result ≤ 2 ^ 60 = rw e (product-within g.row.S (c.args.a *ℤ c.args.b) c.requires.scale c.requires.small) in
    omega (arith, ints, w)
