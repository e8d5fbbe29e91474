use Rattle.std.proofs.Common.{◌≡◌, ◌*◌, get_or, pos}
use Rattle.std.specs.Prelude.{nat_le, slice_get, unsigned_abs}
use Rattle.sk_matrix.specs.Matrix.{mag_or, all_to}
use Rattle.sk_krawczyk.proofs.boxes.is_step_small.Given as goal

abbrev pub invariant-loop-j : goal.invariant-loop-j
invariant-loop-j g l = l.is_small ≡ all_to l.j (λ j. nat_le (2 * mag_or (slice_get l.step j)) (unsigned_abs (get_or l.radii j (pos 0))))
