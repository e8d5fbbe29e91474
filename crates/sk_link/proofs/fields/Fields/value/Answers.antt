use Rattle.std.proofs.Common.{None}
use Rattle.sk_records.specs.Answers.{rows_in}
use Rattle.sk_link.proofs.KeyPlaces.{at_place}
use Rattle.sk_link.proofs.fields.Fields.value.Goals as goal

pub value_at-requires-clause-found : goal.value_at-requires-clause-found
value_at-requires-clause-found c = rw (c.self.invariant.1, c.place.ensures.place, c.bytes.ensures) (at_place (rows_in c.self.inside.rec c.self.inside.book.now) c.args.key None)
