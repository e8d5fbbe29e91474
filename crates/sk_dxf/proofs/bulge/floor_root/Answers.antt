use Rattle.sk_expr.specs.RootLaws.{floor_root-is}
use Rattle.sk_dxf.proofs.bulge.floor_root.Goals as goal

pub returns : goal.returns
returns c = floor_root-is c.args.n c.isqrt_floor.result c.requires c.isqrt_floor.ensures.below c.isqrt_floor.ensures.above
