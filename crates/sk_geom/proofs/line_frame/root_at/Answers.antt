use Rattle.std.proofs.Common.{rules, ◌≡◌}
use Rattle.sk_geom.specs.LineFrame.{root_at}
use Rattle.sk_geom.specs.LineFrameLaws.{root-from_one}
use Rattle.sk_geom.proofs.line_frame.root_at.Goals as goal

pub returns-clause-from_one : goal.returns-clause-from_one
returns-clause-from_one g c =
    let e : c.of_wide.result ≡ root_at g.row.S c.args.z = search rules in
    rw e (root-from_one g.row.S c.args.z c.requires.scale (search rules) c.requires.from_one)
