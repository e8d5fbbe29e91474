use Rattle.sk_chain.proofs.Counted.{zeros_count}
use Rattle.sk_chain.proofs.sizes.Counts.zeros.Goals as goal

pub returns : goal.returns
returns c = zeros_count c.args.places.now.keys c.len.result c.in_ok-by_place.by_place.items c.len.ensures.len (c.in_ok-by_place.ensures.items_if_clones_equal (λ y e. e))
