use Rattle.sk_copy.proofs.Apartness.{made_items, made_rise}
use Rattle.sk_copy.proofs.law_made.Goals as goal

pub returns : goal.returns
returns c = record {
  rise = λ g list es c few l r h e. made_rise g list es c few l r h e;
  items = λ g list es c l e. made_items g list es c l e;
}
