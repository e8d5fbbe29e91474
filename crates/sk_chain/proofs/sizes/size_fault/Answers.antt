use Rattle.std.proofs.Common.{◌∙◌, arith}
use Rattle.sk_chain.specs.Order.{groups_in_order}
use Rattle.sk_chain.specs.Outlines.{size_fault}
use Rattle.sk_chain.proofs.Counted.{counts_length, in_groups, unknowns_at, rows_at, none_at}
use Rattle.sk_chain.proofs.Faults.{fault_behind, fault_found, fault_none}
use Rattle.sk_chain.proofs.sizes.size_fault.Goals as goal

pub returns-then-count-gt-MOST : goal.returns-then-count-gt-MOST
returns-then-count-gt-MOST g c =
    let cs = c.args.constraints.now in
    let es = c.args.entities.now in
    let gs = c.args.groups.now in
    let h = c.deref-count-items.ensures.value ∙ c.in_ok-counts.ensures in
    let i = c.loop-count.count-index in
    fault_found (size_fault cs es) (groups_in_order gs) i _ _ (in_groups cs es gs c.args.places.now.keys c.deref-count-items.result.now c.requires.groups c.requires.places h i c.loop-count-test.true) c.loop-count.invariant _
    (unknowns_at cs es gs c.args.places.now.keys c.deref-count-items.result.now c.requires.groups c.requires.places h i _ c.loop-count-test.true c.if-count-gt-MOST.true)

pub returns-then-count-gt-MOST-2 : goal.returns-then-count-gt-MOST-2
returns-then-count-gt-MOST-2 g c =
    let cs = c.args.constraints.now in
    let es = c.args.entities.now in
    let gs = c.args.groups.now in
    let h = c.deref-count-items.ensures.value ∙ c.in_ok-counts.ensures in
    let i = c.loop-count.count-index in
    fault_found (size_fault cs es) (groups_in_order gs) i _ _ (in_groups cs es gs c.args.places.now.keys c.deref-count-items.result.now c.requires.groups c.requires.places h i c.loop-count-test.true) c.loop-count.invariant _
    (rows_at cs es gs c.args.places.now.keys c.deref-count-items.result.now c.requires.groups c.requires.places h i _ c.loop-count-test.true c.if-count-gt-MOST.false c.if-count-gt-MOST-2.true)

pub loop-count-preserved : goal.loop-count-preserved
loop-count-preserved g c =
    let cs = c.args.constraints.now in
    let es = c.args.entities.now in
    let gs = c.args.groups.now in
    let h = c.deref-count-items.ensures.value ∙ c.in_ok-counts.ensures in
    let i = c.loop-count.count-index in
    fault_none (size_fault cs es) (groups_in_order gs) i _ _ (in_groups cs es gs c.args.places.now.keys c.deref-count-items.result.now c.requires.groups c.requires.places h i c.loop-count-test.true) c.loop-count.invariant
    (none_at cs es gs c.args.places.now.keys c.deref-count-items.result.now c.requires.groups c.requires.places h i _ c.loop-count-test.true c.if-count-gt-MOST.false c.if-count-gt-MOST-2.false)

pub returns : goal.returns
returns g c =
    let cs = c.args.constraints.now in
    let es = c.args.entities.now in
    let gs = c.args.groups.now in
    let whole = counts_length cs es gs c.args.places.now.keys c.deref-count-items.result.now c.requires.groups c.requires.places (c.deref-count-items.ensures.value ∙ c.in_ok-counts.ensures) in
    fault_behind (size_fault cs es) (groups_in_order gs) c.loop-count.count-index _ (omega (arith, whole, c.loop-count-test.false)) c.loop-count.invariant
