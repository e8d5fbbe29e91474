use Rattle.std.proofs.Common.{sym, ◌∙◌}
use Rattle.sk_entity.proofs.Parts.{length-made}
use Rattle.sk_entity.proofs.entities.entity_count.Goals as goal

pub returns-in-Some-clause-count : goal.returns-in-Some-clause-count
returns-in-Some-clause-count c = λ s. length-made s c.args.r.now c.in-Some.shape c.count_of.result c.if-r-eq-DATUM_POINT.false (sym c.in-Some.is ∙ c.shape_of.ensures.shape) c.count_of.ensures.count
