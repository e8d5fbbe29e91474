use Rattle.sk_records.proofs.reading.step.Goals as goal

pub returns-in-Some-list-clause-moves : goal.returns-in-Some-list-clause-moves
returns-in-Some-list-clause-moves c = rw (c.in-Some.is, c.in-Some-list.is) (c.within.ensures.moves c.args.items.now.items)
