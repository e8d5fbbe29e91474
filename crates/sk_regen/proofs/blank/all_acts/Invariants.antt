use Rattle.sk_regen.specs.GroupWorks.{all_acts}
use Rattle.sk_regen.proofs.Noughts.{act_if, acts-gives}
use Rattle.sk_regen.proofs.Pushing.{PushedAt}
use Rattle.sk_regen.proofs.blank.all_acts.Given as goal

abbrev pub invariant-loop-entity : goal.invariant-loop-entity
invariant-loop-entity g l = PushedAt all_acts act_if acts-gives l.entities (all_acts l.entities) l.acts.items l.entity-index
