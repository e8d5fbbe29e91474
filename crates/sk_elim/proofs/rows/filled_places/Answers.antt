use Rattle.std.proofs.Common.{◌∙◌, ap}
use Rattle.sk_elim.specs.Elimination.{cell}
use Rattle.sk_elim.specs.Filled.{is_filled}
use Rattle.sk_elim.proofs.FinishLemmas.{kept-more}
use Rattle.sk_elim.proofs.rows.filled_places.Goals as goal

pub loop-place-preserved : goal.loop-place-preserved
loop-place-preserved g c = kept-more (λ k. is_filled (cell c.args.row.now k)) c.loop-place.place _ c.loop-place.places.items c.keep_if.new.places.items c.loop-place.invariant (c.is_filled.ensures ∙ ap is_filled c.at.ensures.value) c.in-Ok.ensures
