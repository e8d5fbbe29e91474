use Rattle.sk_cubic.proofs.CurveLemmas.{components-start, components-last, components-between, components-reversed}
use Rattle.sk_cubic.proofs.laws.curve_law.Goals as goal

pub returns : goal.returns
returns c = record {
  start = λ n p q r s l. components-start n p q r s l.0 l.1 l.2 l.3;
  last = λ n p q r s l. components-last n p q r s l.0 l.1 l.2 l.3;
  hull = λ i p q r s h. components-between i p q r s h;
  reversed = λ i p q r s h. components-reversed i p q r s h;
}
