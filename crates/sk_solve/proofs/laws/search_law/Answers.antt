use Rattle.sk_solve.specs.Searched.{search_law}
use Rattle.sk_solve.proofs.laws.search_law.Goals as goal

pub returns : goal.returns
returns c = search_law
