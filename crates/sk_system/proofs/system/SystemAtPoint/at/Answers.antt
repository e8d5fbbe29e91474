use Rattle.std.proofs.Common.{arith}
use Rattle.sk_expr.specs.Visits.{grown_of}
use Rattle.sk_system.specs.SystemViews.{system_of}
use Rattle.sk_system.proofs.Visits.{visit-seen}
use Rattle.sk_system.proofs.system.SystemAtPoint.at.Goals as goal

pub visited-requires : goal.visited-requires
visited-requires g c = (
  omega arith,
  (
    omega arith,
    (
      omega arith,
      visit-seen g.row.S (system_of {s = g.row.S} c.args.self.now) c.args.point.now (grown_of {s = g.row.S} c.in_ok-seen.seen) c.args.self.now.fits c.requires.point c.in_ok-seen.ensures,
    ),
  ),
)
