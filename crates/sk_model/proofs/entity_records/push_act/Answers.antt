use Rattle.std.proofs.Common.{sym, ◌∙◌}
use Rattle.sk_model.proofs.PairLines.{no_pairs}
use Rattle.sk_model.proofs.entity_records.push_act.Goals as goal

pub returns-in-None-clause-lines : goal.returns-in-None-clause-lines
returns-in-None-clause-lines g c = rw (sym c.act_at.ensures ∙ c.in-None.is) (no_pairs c.args.out.now.items)
