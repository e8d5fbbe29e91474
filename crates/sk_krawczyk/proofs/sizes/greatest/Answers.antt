use Rattle.std.proofs.Common.{◌≡◌, ◌<◌, ◌+◌, ℕ, max, map, drop, ap, length, ◌≤◌, ◌-◌, ◌^◌, arith, lit≤, pos, ◌∙◌}
use Rattle.std.proofs.Math.Nat.{pow-le-pow_right}
use Rattle.sk_num.specs.Scale.{IsScale-bounds}
use Rattle.std.specs.Prelude.{unsigned_abs}
use Rattle.sk_krawczyk.specs.IntervalTest.{greatest}
use Rattle.sk_krawczyk.proofs.SizeLemmas.{greatest-more}
use Rattle.sk_krawczyk.proofs.sizes.greatest.Goals as goal

pub loop-j-preserved : goal.loop-j-preserved
loop-j-preserved g c =
    let b : g.row.S - 10 ≤ 34 = omega (arith, IsScale-bounds c.requires.scale) in
    let p : 2 ^ (g.row.S - 10) ≤ 2 ^ 34 = pow-le-pow_right (lit≤ tt) b in
    let inside : c.loop-j.j < length c.args.radii.now = omega (arith, c.loop-j-test.true, ap length c.as_slice-j-end.ensures) in
    let h = c.requires.small c.loop-j.j (pos 0) inside in
    let m : c.max-top.result ≡ max c.size_at.result c.loop-j.top = omega arith in
    record {
      value = ap (λ (k : ℕ). max k (greatest (map unsigned_abs (drop (c.loop-j.j + 1) c.args.radii.now)))) m ∙ greatest-more c.args.radii.now c.loop-j.j c.size_at.result c.loop-j.top inside c.size_at.ensures.value ∙ c.loop-j.invariant.value;
      small = omega (arith, p, h, c.size_at.ensures.value, c.loop-j.invariant.small);
    }
