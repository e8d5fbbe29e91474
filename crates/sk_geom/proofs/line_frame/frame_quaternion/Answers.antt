use Rattle.sk_geom.specs.LineFrameLaws.{degenerate-exactly}
use Rattle.sk_geom.proofs.line_frame.frame_quaternion.Goals as goal

pub returns-clause-degenerate : goal.returns-clause-degenerate
returns-clause-degenerate g c =
    let a = c.args in
    rw c.line_frame.ensures (degenerate-exactly g.row.S a.u a.v a.swap a.negate_u a.negate_v)
