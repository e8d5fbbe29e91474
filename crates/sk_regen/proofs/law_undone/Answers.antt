use Rattle.sk_regen.proofs.Sessions.{undone_law}
use Rattle.sk_regen.proofs.law_undone.Goals as goal

pub returns : goal.returns
returns c = undone_law
