-- Whole numbers of times are exact: a moved point's is 1998 at most either way.
use Rattle.std.proofs.Common.{◌≡◌, ℕ, ◌*◌, ◌^◌, ◌≤◌, ℤ, pos, ◌*ℤ◌, arith}
use Rattle.std.specs.Prelude.{unsigned_abs, unwrap_or}
use Rattle.std.proofs.Math.Nat.{pow-le-pow_right, mul-le-mul}
use Rattle.std.proofs.Common.{lit≤}
use Rattle.std.proofs.lemmas.Int.{unsigned_abs-mul}
use Rattle.std.proofs.lemmas.Bool.Decides.{nat_tests}
use Rattle.sk_num.specs.Scale.{IsScale, IsScale-bounds}
use Rattle.sk_num.specs.Limit.{grid_of}
use Rattle.sk_geom.specs.EntityTrees.{whole_units}

in_limit : (z : ℤ) → unsigned_abs z ≤ 2 ^ 62 → unwrap_or (grid_of z) (pos 0) ≡ z
in_limit z h = grind (arith, nat_tests, h)

pub whole_units-exact : (s : ℕ) (k : ℤ) → IsScale s → unsigned_abs k ≤ 2 ^ 18 → whole_units s k ≡ k *ℤ pos (2 ^ s)
whole_units-exact s k h l =
    let p : 2 ^ s ≤ 2 ^ 44 = pow-le-pow_right (lit≤ tt) (IsScale-bounds h).1 in
    let q : unsigned_abs k * 2 ^ s ≤ 2 ^ 18 * 2 ^ 44 = mul-le-mul l p in
    in_limit (k *ℤ pos (2 ^ s)) (rw (unsigned_abs-mul k (pos (2 ^ s))) (omega (arith, q)))

abbrev pub TimesLaw : Type 0
TimesLaw = (s : ℕ) (k : ℤ) → IsScale s → unsigned_abs k ≤ 2 ^ 18 → whole_units s k ≡ k *ℤ pos (2 ^ s)
