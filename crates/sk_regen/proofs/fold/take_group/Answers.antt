use Rattle.std.proofs.Common.{lit≤}
use Rattle.sk_regen.proofs.Foldings.{found-there, its-ground, take-is, take-sound, may-take}
use Rattle.sk_regen.proofs.fold.take_group.Goals as goal

pub take-requires : goal.take-requires
take-requires g c =
    let m = c.args.ground.now.model.now.lists in
    let o = c.args.ground.now.outline.now in
    let n = c.args.state.now.numbers in
    let group = c.in-Some.group.now in
    let there = found-there m.groups c.args.group c.groups.result.now c.group_at.result c.in-Some.group c.groups.ensures.groups c.group_at.ensures c.in-Some.is in
    let is = its-ground m o n c.args.group group c.requires.checked c.requires.outline c.requires.whole c.requires.there there in
    (lit≤ tt, (lit≤ tt, may-take m o n group is c.args.dirty.now c.args.before.now c.in_ok-left.left c.left_over.new.numbers c.in_ok-left.ensures.value c.in_ok-left.ensures.numbers))

pub returns-clause-value : goal.returns-clause-value
returns-clause-value g c =
    let m = c.args.ground.now.model.now.lists in
    let there = found-there m.groups c.args.group c.groups.result.now c.group_at.result c.in-Some.group c.groups.ensures.groups c.group_at.ensures c.in-Some.is in
    take-is m c.args.ground.now.outline.now c.args.dirty.now c.args.before.now c.args.state.now c.take.new.self c.left_over.new.numbers c.in_ok-left.left c.args.group c.in-Some.group.now c.requires.there there
    c.in_ok-left.ensures.value c.in_ok-left.ensures.numbers c.in_ok-take.ensures.value

pub returns-clause-sound : goal.returns-clause-sound
returns-clause-sound g c =
    let m = c.args.ground.now.model.now.lists in
    let there = found-there m.groups c.args.group c.groups.result.now c.group_at.result c.in-Some.group c.groups.ensures.groups c.group_at.ensures c.in-Some.is in
    take-sound m c.args.ground.now.outline.now c.args.dirty.now c.args.before.now c.args.state.now.numbers c.in_ok-left.left c.args.group c.in-Some.group.now c.requires.there there c.in_ok-left.ensures.value c.in_ok-left.ensures.sound
