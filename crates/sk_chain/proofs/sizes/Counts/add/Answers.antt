use Rattle.std.proofs.Common.{sym, ◌∙◌}
use Rattle.sk_chain.proofs.Counted.{added_at, added_absent}
use Rattle.sk_chain.proofs.sizes.Counts.add.Goals as goal

pub returns-in-Some-clause-counts : goal.returns-in-Some-clause-counts
returns-in-Some-clause-counts c = rw c.more.ensures (added_at c.args.places.now.keys c.args.group.0 c.in-Some.place c.args.count c.index.result.now c.args.self.now.by_place.items c.requires.distinct (sym c.place_in.ensures ∙ c.in-Some.is) c.requires.counts c.index.ensures)

pub returns-in_default-clause-counts : goal.returns-in_default-clause-counts
returns-in_default-clause-counts c = added_absent c.args.places.now.keys c.args.group.0 c.args.count c.args.self.now.by_place.items (sym c.place_in.ensures ∙ c.in_default.is) c.requires.counts
