use Rattle.sk_model.specs.TypingLaws.ListTexts.{entry_is}
use Rattle.sk_model.proofs.ListWritten.{entry_written}
use Rattle.sk_model.proofs.writing.push_entry.Goals as goal

pub returns : goal.returns
returns c = record {
  line = entry_written (record { number = c.args.number; source = record { 0 = c.args.source }; copy = c.args.copy }) _ _ _ _ _ _ _ _ _ c.handle_text.ensures.text c.in_ok-extend_from_slice.ensures.items c.in_ok-push_decimal.ensures c.in_ok-push.ensures.items c.in_ok-extend_from_slice-2.ensures.items c.in_ok-push-2.ensures.items c.in_ok-push_decimal-2.ensures c.in_ok-push-3.ensures.items;
  form = entry_is (record { number = c.args.number; source = record { 0 = c.args.source }; copy = c.args.copy }) c.ranges.number.fits c.ranges.source.fits c.ranges.copy.fits;
}
