use Rattle.sk_undo.proofs.AgreedLemmas.{change_law_proof}
use Rattle.sk_undo.proofs.laws.change_law.Goals as goal

pub returns : goal.returns
returns c = change_law_proof
