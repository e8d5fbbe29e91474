use Rattle.sk_num.specs.SpellingLaws.{quantity-read_back}
use Rattle.sk_num.proofs.spelling.quantity_law.Goals as goal

pub returns : goal.returns
returns c = quantity-read_back
