use Rattle.sk_chain.proofs.Folds.{many}
use Rattle.sk_chain.proofs.made.are_many.Goals as goal

pub returns-then-more-count : goal.returns-then-more-count
returns-then-more-count g c =
    many c.args.made.now c.loop-one.one-index c.loop-one.count c.one-item.result c.as_slice-more.result.now c.loop-one-test.true c.one-item.is c.as_slice-more.ensures c.loop-one.invariant.count c.loop-one.invariant.few c.if-more-count.true
