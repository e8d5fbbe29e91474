use Rattle.sk_model.specs.TypingLaws.{typing_law}
use Rattle.sk_model.proofs.model.Model.constraints.Goals as goal

pub returns-clause-checked : goal.returns-clause-checked
returns-clause-checked g c = rw (← c.self.view_is) (typing_law.leaves g.row.S c.self.inside.book _ c.self.invariant.0)
