use Rattle.std.proofs.Common.{◌≡◌, Some, rules}
use Rattle.sk_num.specs.Ends.{Ends, span_add}
use Rattle.sk_num.specs.EnclosedLemmas.{span_add-encloses}
use Rattle.sk_num.proofs.span.Span.add.Goals as goal

pub returns-clause-encloses : goal.returns-clause-encloses
returns-clause-encloses g c =
    let sum : Ends = record { lo = c.in_ok-lo.lo; hi = c.in_ok-hi.hi } in
    let ends : Some sum ≡ span_add c.args.self.now c.args.o.now = search rules in
    span_add-encloses g.row.S c.args.self.now c.args.o.now (Some sum) ends
