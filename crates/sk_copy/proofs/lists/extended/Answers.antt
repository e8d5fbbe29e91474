use Rattle.std.proofs.Common.{List, sym, ◌∙◌, ap}
use Rattle.std.proofs.lemmas.Result.{err_from_is_err_and}
use Rattle.sk_types.specs.Copies.{CopyKey}
use Rattle.sk_copy.specs.Extended.{extended}
use Rattle.sk_copy.specs.Wanted.{wanted, wanted_as}
use Rattle.sk_copy.proofs.Listing.{part_done, part_refused}
use Rattle.sk_copy.proofs.lists.extended.Goals as goal

pub returns-in_err-listing-2-clause-full : goal.returns-in_err-listing-2-clause-full
returns-in_err-listing-2-clause-full g c =
    let p = err_from_is_err_and c.from_residual-in_err-listing-2.result c.from_residual-in_err-listing-2.ensures.1 in
    rw (p.1, p.2) (part_refused (wanted_as c.args.group.now.kind c.args.group.now c.args.source.now) c.args.source.now c.loop-entity.entity-index c.entity-item.result c.loop-entity-test.true c.loop-entity.listing
    (extended (wanted c.args.group.now c.args.source.now) c.args.list.now) c.loop-entity.invariant _ c.deref-in-loop-entity.result.now c.entity-item.result (c.deref-in-loop-entity.ensures.value ∙ c.in_ok-keys.ensures) c.entity-item.is c.in_err-listing-2.ensures.full)

pub loop-entity-preserved : goal.loop-entity-preserved
loop-entity-preserved g c =
    let of_one = wanted_as c.args.group.now.kind c.args.group.now c.args.source.now in
    part_done of_one c.args.source.now c.loop-entity.entity-index c.entity-item.result c.loop-entity-test.true c.loop-entity.listing
    (extended (wanted c.args.group.now c.args.source.now) c.args.list.now) c.loop-entity.invariant c.in_ok-listing-2.listing
    (ap (λ (cs : List CopyKey). extended cs c.loop-entity.listing) (sym (c.deref-in-loop-entity.ensures.value ∙ c.in_ok-keys.ensures ∙ ap of_one c.entity-item.is)) ∙ c.in_ok-listing-2.ensures.done)
