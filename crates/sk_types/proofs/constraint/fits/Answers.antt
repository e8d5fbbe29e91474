use Rattle.std.proofs.Common.{◌∙◌, Some, None}
use Rattle.sk_types.specs.Needs.{needs_of}
use Rattle.sk_types.proofs.Filled.{fits-at}
use Rattle.sk_types.proofs.constraint.fits.Goals as goal

pub returns-in-Some : goal.returns-in-Some
returns-in-Some g c =
    let k = c.args.c.now in
    let n = c.needs-needs.ensures in
    c.takes.ensures
    ∙ fits-at c.needs-needs.result (needs_of k.kind k.points k.entities) c.args.place c.from.result c.args.entity (Some c.in-Some.need) n.parts c.from.ensures c.requires.there n.few c.in-Some.is

pub returns-in-None : goal.returns-in-None
returns-in-None g c =
    let k = c.args.c.now in
    let n = c.needs-needs.ensures in
    fits-at c.needs-needs.result (needs_of k.kind k.points k.entities) c.args.place c.from.result c.args.entity None n.parts c.from.ensures c.requires.there n.few c.in-None.is
