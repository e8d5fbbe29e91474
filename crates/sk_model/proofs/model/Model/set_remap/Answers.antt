use Rattle.std.proofs.Common.{arith, sym, ◌∙◌}
use Rattle.sk_model.proofs.ModelSet.{group_there, list_typed_after}
use Rattle.sk_model.proofs.model.Model.set_remap.Goals as goal

pub put_list-requires : goal.put_list-requires
put_list-requires g c =
    let at = rw c.self.invariant.1.of_groups at (sym c.get_index_of.ensures.index ∙ c.unwrap-place.ensures) in
    (omega arith, (at, (group_there g.row.S c.args.g.0 c.unwrap-place.result c.self.inside.book _ c.self.invariant.0 at, c.requires.list)))

pub invariant_of-self : goal.invariant_of-self
invariant_of-self g c = (
  list_typed_after c.put_list.result c.self.inside.book c.put_list.new.book _ c.self.invariant.0 c.args.g.0 c.args.list.now c.put_list.new.groups.items c.requires.list c.put_list.ensures.sources c.put_list.ensures.book c.put_list.ensures.err_book c.put_list.ensures.groups c.put_list.ensures.err_groups,
  record { of_groups = c.self.invariant.1.of_groups ∙ sym c.put_list.ensures.handles; of_params = c.self.invariant.1.of_params },
)
