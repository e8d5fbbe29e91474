use Rattle.std.proofs.Common.{◌∙◌}
use Rattle.sk_model.proofs.ModelSet.{groups_handles}
use Rattle.sk_model.proofs.Places.{group_placed, list_placed}
use Rattle.sk_model.proofs.ListsSteps.{text_sources}
use Rattle.sk_model.proofs.changes.put_list.Goals as goal

pub returns-clause-book : goal.returns-clause-book
returns-clause-book g c = list_placed c.args.id c.args.place c.args.list.now c.args.groups.now.items _ _ c.args.book.now _ c.requires.place c.in_ok-lines.ensures c.deref.ensures.value c.in_ok-set_map.ensures.ok

pub returns-clause-groups : goal.returns-clause-groups
returns-clause-groups g c = group_placed c.args.id c.args.place c.args.list.now _ _ _ c.args.groups.now.items c.requires.place c.index_mut.ensures.value (c.of.ensures ∙ c.in_ok-items.ensures.items)

pub returns-clause-handles : goal.returns-clause-handles
returns-clause-handles g c = groups_handles c.args.id c.args.list.now c.args.groups.now.items _ (returns-clause-groups g c)

pub returns-clause-sources : goal.returns-clause-sources
returns-clause-sources g c = text_sources c.args.list.now _ c.in_ok-lines.ensures
