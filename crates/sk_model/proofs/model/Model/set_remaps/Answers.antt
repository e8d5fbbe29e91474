use Rattle.std.proofs.Common.{arith, ◌∙◌, sym}
use Rattle.sk_model.proofs.ModelSet.{group_count, group_lists, lists_typed_after, lists_handles}
use Rattle.sk_model.proofs.model.Model.set_remaps.Goals as goal

pub put_lists-requires : goal.put_lists-requires
put_lists-requires g c = (omega arith, (c.self.invariant.1.of_groups, (group_count g.row.S c.self.inside.book _ c.self.invariant.0, (group_lists c.self.inside.group_handles.keys c.self.inside.groups.items c.args.lists.items c.self.invariant.1.of_groups (rw (← c.self.view_is) at c.requires.lists), c.requires.distinct))))

pub invariant_of-self : goal.invariant_of-self
invariant_of-self g c = (
  lists_typed_after c.put_lists.result c.self.inside.book c.put_lists.new.book _ c.self.invariant.0 c.args.lists.items c.put_lists.new.groups.items (rw (← c.self.view_is) at c.requires.lists) c.requires.distinct c.put_lists.ensures.sources c.put_lists.ensures.book c.put_lists.ensures.err_book c.put_lists.ensures.groups c.put_lists.ensures.err_groups,
  record { of_groups = c.self.invariant.1.of_groups ∙ sym (lists_handles c.put_lists.result c.args.lists.items c.self.inside.groups.items c.put_lists.new.groups.items c.put_lists.ensures.groups c.put_lists.ensures.err_groups); of_params = c.self.invariant.1.of_params },
)
