use Rattle.sk_link.proofs.LastCounts.{last_counts}
use Rattle.sk_link.proofs.part.law_last_counts.Goals as goal

pub returns : goal.returns
returns c = last_counts
