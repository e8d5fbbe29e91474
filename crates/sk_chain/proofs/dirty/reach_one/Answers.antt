use Rattle.std.proofs.Common.{inl, inr, is_some, sym, ap, ◌∙◌}
use Rattle.sk_chain.proofs.Reaching.{reaches_one, reaches_absent}
use Rattle.sk_chain.proofs.dirty.reach_one.Goals.{else-may_depend-via-then-may_depend+else-is_some, else-may_depend-via-else-may_depend}
use Rattle.sk_chain.proofs.dirty.reach_one.Goals as goal

pub returns-in_ok-insert : goal.returns-in_ok-insert
returns-in_ok-insert c =
    reaches_one c.args.places.now.keys c.args.later c.args.group c.args.dirty.now.keys _ (sym c.may_depend.ensures ∙ c.if-may_depend.true) (sym (c.is_some.ensures ∙ ap is_some c.place_in.ensures) ∙ c.if-is_some.true) c.in_ok-insert.ensures.keys

pub returns-else-may_depend : goal.returns-else-may_depend
returns-else-may_depend c = elim c.else-may_depend.branch [
  | else-may_depend-via-then-may_depend+else-is_some w ↦ reaches_absent c.args.places.now.keys c.args.later c.args.group c.args.dirty.now.keys (inr (sym (w.is_some.ensures ∙ ap is_some w.place_in.ensures) ∙ w.if-is_some.false))
  | else-may_depend-via-else-may_depend w ↦ reaches_absent c.args.places.now.keys c.args.later c.args.group c.args.dirty.now.keys (inl (sym c.may_depend.ensures ∙ w.if-may_depend.false))
]
