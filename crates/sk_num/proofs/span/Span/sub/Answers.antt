use Rattle.std.proofs.Common.{◌≡◌, Some, rules}
use Rattle.sk_num.specs.Ends.{Ends, span_sub}
use Rattle.sk_num.specs.EnclosedLemmas.{span_sub-encloses}
use Rattle.sk_num.proofs.span.Span.sub.Goals as goal

pub returns-clause-encloses : goal.returns-clause-encloses
returns-clause-encloses g c =
    let difference : Ends = record { lo = c.in_ok-lo.lo; hi = c.in_ok-hi.hi } in
    let ends : Some difference ≡ span_sub c.args.self.now c.args.o.now = search rules in
    span_sub-encloses g.row.S c.args.self.now c.args.o.now (Some difference) ends
