use Rattle.sk_model.specs.TypingLaws.EntityTexts.{records_given}
use Rattle.sk_model.proofs.ModelSet.{anew_blocks, anew_typed_after}
use Rattle.sk_model.proofs.model.Model.set_entities.Goals as goal

pub set_entities-requires : goal.set_entities-requires
set_entities-requires g c = record { given = rw (c.deref.ensures.value, c.in_ok-text.ensures.text) (records_given c.requires.scale _ _ c.in_ok-text.ensures.writable) }

pub invariant_of-self : goal.invariant_of-self
invariant_of-self g c = (
  anew_typed_after c.set_entities.result c.self.inside.book c.set_entities.new.self _ c.self.invariant.0 c.as_slice-2.result.now c.as_slice.result.now
      (anew_blocks c.set_entities.result c.self.inside.book c.set_entities.new.self c.requires.scale _ _ c.in_ok-text.ensures.writable _ _ c.deref.ensures.value c.in_ok-text.ensures.text c.set_entities.ensures.ok) c.set_entities.ensures.err,
  record { of_groups = c.self.invariant.1.of_groups; of_params = c.self.invariant.1.of_params },
)

pub returns-clause-blocks : goal.returns-clause-blocks
returns-clause-blocks g c =
    rw (← c.self.view_is, ← c.as_slice.ensures, ← c.as_slice-2.ensures)
    (anew_blocks c.set_entities.result c.self.inside.book c.set_entities.new.self c.requires.scale _ _ c.in_ok-text.ensures.writable _ _ c.deref.ensures.value c.in_ok-text.ensures.text c.set_entities.ensures.ok)
