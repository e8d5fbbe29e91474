use Rattle.sk_model.specs.WrittenLines.{IsEntryText}
use Rattle.sk_model.proofs.ManySteps.{all_more}
use Rattle.sk_model.proofs.ListWritten.{fed_step, fed_end}
use Rattle.sk_model.proofs.writing.list_text.Goals as goal

pub loop-entry-preserved : goal.loop-entry-preserved
loop-entry-preserved c = record {
  text = fed_step _ _ _ _ _ c.loop-entry-test.true c.loop-entry.invariant.text c.in_ok-push_entry.ensures.line;
  all = all_more IsEntryText _ _ _ c.loop-entry-test.true c.loop-entry.invariant.all c.in_ok-push_entry.ensures.form;
}

pub returns : goal.returns
returns c = fed_end _ _ _ _ c.loop-entry-test.false c.loop-entry.invariant.text c.loop-entry.invariant.all c.in_ok-extend_from_slice.ensures.items
