use Rattle.std.proofs.Common.{rules, ◌≡◌, ◌^◌, pos, ◌≤ℤ◌}
use Rattle.sk_num.specs.Limit.{grid_of}
use Rattle.sk_geom.specs.LineFrame.{sum_at}
use Rattle.sk_geom.specs.LineFrameLaws.{greatest_sum-from_one, grid_of-if}
use Rattle.sk_geom.proofs.line_frame.greatest_sum.Goals as goal

pub returns-clause-from_one : goal.returns-clause-from_one
returns-clause-from_one g c =
    let s = g.row.S in
    let a = c.args in
    let e : c.of_wide.result ≡ grid_of (sum_at s a.k a.x a.y a.z) = search rules in
    let l : pos (2 ^ s) ≤ℤ sum_at s a.k a.x a.y a.z = rw c.requires.greatest (greatest_sum-from_one s a.x a.y a.z) in
    rw e (grid_of-if (sum_at s a.k a.x a.y a.z) (λ sum. pos (2 ^ s) ≤ℤ sum) l)
