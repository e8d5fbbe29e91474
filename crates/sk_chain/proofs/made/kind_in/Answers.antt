use Rattle.std.proofs.Common.{◌∙◌, ap}
use Rattle.sk_types.specs.Lookups.{entity_at}
use Rattle.sk_chain.proofs.Folds.{kind_here, kind_later}
use Rattle.sk_chain.proofs.made.kind_in.Goals as goal

pub returns-in-Some : goal.returns-in-Some
returns-in-Some g c = kind_here c.args.made.now c.loop-one.one-index c.one-item.result c.loop-one-test.true c.one-item.is c.args.id.0 c.in-Some.entity.now (c.in-Some.ensures ∙ ap (entity_at c.args.id.0) c.as_slice.ensures) c.loop-one.invariant

pub loop-one-preserved : goal.loop-one-preserved
loop-one-preserved g c = kind_later c.args.made.now c.loop-one.one-index c.one-item.result c.loop-one-test.true c.one-item.is c.args.id.0 (c.in-None.ensures ∙ ap (entity_at c.args.id.0) c.as_slice.ensures) c.loop-one.invariant
