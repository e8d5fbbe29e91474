use Rattle.sk_num.specs.Sums.{sum_to_exchange, sum_to_assoc, unsigned_abs-sum_to, row-le_weights, unit_row-at, term-le-top_to, top_to-le}
use Rattle.sk_num.proofs.whole_laws.sum_laws.Goals as goal

pub returns : goal.returns
returns c = record {
  exchanged = sum_to_exchange;
  grouped = sum_to_assoc;
  triangle = unsigned_abs-sum_to;
  weighted = row-le_weights;
  picked = unit_row-at;
  top_above = term-le-top_to;
  top_least = top_to-le;
}
