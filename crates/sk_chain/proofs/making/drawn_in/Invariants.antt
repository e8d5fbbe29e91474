use Rattle.std.proofs.Common.{◌≡◌, take}
use Rattle.sk_chain.specs.Made.{drawn_in}
use Rattle.sk_chain.proofs.making.drawn_in.Given as goal

abbrev pub invariant-loop-request : goal.invariant-loop-request
invariant-loop-request g l = l.drawn.items ≡ drawn_in g.row.S l.group.0 (take l.request-index l.requests)
