use Rattle.std.proofs.Common.{◌≡◌, map, true}
use Rattle.std.specs.List.{All}
use Rattle.std.specs.Vec.Iter.{into_iter_items}
use Rattle.sk_model.specs.declared.remap.GroupList.{GroupList}
use Rattle.sk_model.specs.Chain.{seen_in}
use Rattle.sk_model.specs.Typed.{group_handle}
use Rattle.sk_model.specs.Changes.{with_lists}
use Rattle.sk_model.proofs.changes.set_lists.Given as goal

abbrev pub invariant-loop-list : goal.invariant-loop-list
invariant-loop-list g l = record {
  lists : with_lists (into_iter_items l.list-iterator) l.groups ≡ with_lists l.fn.lists.items l.initial.groups;
  handles : l.handles.keys ≡ map group_handle l.groups;
  exist : All (λ (x : GroupList). seen_in x.group.0 l.handles.keys ≡ true) (into_iter_items l.list-iterator);
}
