use Rattle.std.proofs.Common.{◌∙◌, lit≤}
use Rattle.sk_regen.proofs.Grounds.{ids-started}
use Rattle.sk_regen.proofs.Ready.{most}
use Rattle.sk_regen.proofs.solving.left_as.Goals as goal

pub unknowns_in-requires : goal.unknowns_in-requires
unknowns_in-requires g c = (lit≤ tt, (lit≤ tt, (c.requires.places, (c.requires.ground.outline.own_fit, most _ _ _ _ c.requires.ground))))

pub acts_over-requires : goal.acts_over-requires
acts_over-requires g c =
    let unknowns = c.deref.ensures.value ∙ c.in_ok-unknowns.ensures in
    let own = ids-started c.args.ground.now.model.now.lists c.args.ground.now.outline.now c.args.numbers.now c.args.group.now c.deref-2.result.now (c.deref-2.ensures.value ∙ c.in_ok-params.ensures) in
    (lit≤ tt, (lit≤ tt, (lit≤ tt, (lit≤ tt, (lit≤ tt, (c.requires.scale, (c.requires.places, (c.requires.ground, (unknowns, own)))))))))
