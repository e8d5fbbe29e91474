use Rattle.std.proofs.Common.{◌≡◌, ◌<◌, ◌+◌, ℕ, map, drop, ap, length, arith, pos, ◌∙◌}
use Rattle.std.specs.Prelude.{min, unsigned_abs}
use Rattle.sk_krawczyk.specs.IntervalTest.{least}
use Rattle.sk_krawczyk.proofs.SizeLemmas.{least-more}
use Rattle.sk_krawczyk.proofs.sizes.least.Goals as goal

pub loop-j-preserved : goal.loop-j-preserved
loop-j-preserved g c =
    let inside : c.loop-j.j < length c.args.radii.now = omega (arith, c.loop-j-test.true, ap length c.as_slice-j-end.ensures) in
    let h = c.requires.positive c.loop-j.j (pos 0) inside in
    let m : c.min-low.result ≡ min c.loop-j.low c.size_at.result = omega arith in
    record {
      value = ap (λ (k : ℕ). least k (map unsigned_abs (drop (c.loop-j.j + 1) c.args.radii.now))) m ∙ least-more c.args.radii.now c.loop-j.j c.size_at.result c.loop-j.low inside c.size_at.ensures.value ∙ c.loop-j.invariant.value;
      positive = omega (arith, h, c.size_at.ensures.value, c.loop-j.invariant.positive);
    }
