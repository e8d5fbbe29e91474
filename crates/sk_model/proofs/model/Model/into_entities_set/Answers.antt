use Rattle.std.proofs.Common.{Ok}
use Rattle.std.specs.Prelude.{Result}
use Rattle.sk_model.specs.TypingLaws.EntityTexts.{records_given}
use Rattle.sk_model.proofs.ModelSet.{anew_blocks, anew_typed_after}
use Rattle.sk_model.proofs.model.Model.into_entities_set.Goals as goal

pub into_entities_set-requires : goal.into_entities_set-requires
into_entities_set-requires g c = record { given = rw (c.deref.ensures.value, c.in_ok-text.ensures.text) (records_given c.requires.scale _ _ c.in_ok-text.ensures.writable) }

pub invariant_of-result : goal.invariant_of-result
invariant_of-result g c =
    let made : Result (Unit {0}) (Unit {0}) = Ok tt in (
      anew_typed_after made c.self.inside.book c.in_ok-book.book _ c.self.invariant.0 c.as_slice-2.result.now c.as_slice.result.now
          (anew_blocks made c.self.inside.book c.in_ok-book.book c.requires.scale _ _ c.in_ok-text.ensures.writable _ _ c.deref.ensures.value c.in_ok-text.ensures.text c.in_ok-book.ensures) tt,
      record { of_groups = c.self.invariant.1.of_groups; of_params = c.self.invariant.1.of_params },
    )

pub returns-clause-blocks : goal.returns-clause-blocks
returns-clause-blocks g c =
    let made : Result (Unit {0}) (Unit {0}) = Ok tt in
    rw (← c.self.view_is, ← c.as_slice.ensures, ← c.as_slice-2.ensures)
    (anew_blocks made c.self.inside.book c.in_ok-book.book c.requires.scale _ _ c.in_ok-text.ensures.writable _ _ c.deref.ensures.value c.in_ok-text.ensures.text c.in_ok-book.ensures)
