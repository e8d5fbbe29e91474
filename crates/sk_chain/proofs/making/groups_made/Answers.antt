use Rattle.std.proofs.Common.{arith}
use Rattle.std.proofs.lemmas.Result.{err_from_is_err_and}
use Rattle.sk_chain.proofs.Standing.{not_absent, found_there, found_known, next_done, fault_kept}
use Rattle.sk_chain.proofs.making.groups_made.Goals as goal

pub loop-id-preserved-in-None : goal.loop-id-preserved-in-None
loop-id-preserved-in-None g c =
    not_absent c.args.model.now.lists c.args.parts.now c.groups-groups.ensures.checked c.args.order.now c.requires.order c.loop-id.id-index c.loop-id-test.true c.groups-groups.result.now c.groups-groups.ensures.groups c.in-None.ensures

pub one_made-requires : goal.one_made-requires
one_made-requires g c =
    let m = c.args.model.now.lists in
    let checked = c.groups-groups.ensures.checked in
    let there = found_there m c.args.parts.now checked c.args.order.now c.requires.order c.loop-id.id-index c.loop-id-test.true c.groups-groups.result.now c.groups-groups.ensures.groups c.in-Some.group.now c.in-Some.ensures in
    let known = found_known m c.args.parts.now checked c.args.order.now c.requires.order c.loop-id.id-index c.loop-id-test.true c.groups-groups.result.now c.groups-groups.ensures.groups c.in-Some.group.now c.in-Some.ensures in
    (omega arith, (omega arith, (omega arith, (c.requires.scale, (rw c.requests-requests.ensures.requests checked.requests, (rw c.requests-requests.ensures.requests checked.requests_differ, (there, (known, rw (c.requests-requests.ensures.requests, c.groups-groups.ensures.groups) c.loop-id.invariant.own))))))))

pub returns-in_err-made-clause-value : goal.returns-in_err-made-clause-value
returns-in_err-made-clause-value g c =
    let p = err_from_is_err_and c.from_residual.result c.from_residual.ensures.1 in
    rw (p.1, p.2) (fault_kept c.args.model.now.lists c.args.parts.now c.groups-groups.ensures.checked c.args.order.now c.requires.order c.loop-id.id-index c.loop-id-test.true c.groups-groups.result.now c.groups-groups.ensures.groups c.in-Some.group.now c.in-Some.ensures
    c.requests-requests.result.now c.requests-requests.ensures.requests c.loop-id.made.items c.loop-id.invariant.done _ c.in_err-made.ensures.value)

pub loop-id-preserved : goal.loop-id-preserved
loop-id-preserved g c = record {
  done = next_done c.args.model.now.lists c.args.parts.now c.groups-groups.ensures.checked c.args.order.now c.requires.order c.loop-id.id-index c.loop-id-test.true c.groups-groups.result.now c.groups-groups.ensures.groups c.in-Some.group.now c.in-Some.ensures
      c.requests-requests.result.now c.requests-requests.ensures.requests c.loop-id.made.items c.loop-id.invariant.done c.in_ok-made.made.items c.in_ok-made.ensures.value;
  own = rw (c.requests-requests.ensures.requests, c.groups-groups.ensures.groups) at c.in_ok-made.ensures.own;
}
