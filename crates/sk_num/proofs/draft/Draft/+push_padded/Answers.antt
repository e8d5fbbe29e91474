use Rattle.std.proofs.Common.{◌-◌, ◌/◌, length, ap, arith, length-append}
use Rattle.sk_num.specs.Numerals.{padded}
use Rattle.sk_num.specs.PaddedLaws.{length-padded}
use Rattle.sk_num.proofs.draft.Draft.+push_padded.Goals as goal

pub push-requires : goal.push-requires
push-requires t c =
    omega (arith, ap length c.push_padded.ensures, length-append c.args.self.now (padded c.args.base (c.args.width - 1) (c.args.n / c.args.base)), length-padded c.args.base (c.args.width - 1) (c.args.n / c.args.base))
