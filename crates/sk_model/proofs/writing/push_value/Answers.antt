use Rattle.sk_model.proofs.PairLines.{one_line}
use Rattle.sk_model.proofs.writing.push_value.Goals as goal

pub returns : goal.returns
returns c = one_line _ _ _ _ _ _ _ c.in_ok-extend_from_slice.ensures.items c.in_ok-push.ensures.items c.in_ok-extend_from_slice-2.ensures.items c.in_ok-push-2.ensures.items
