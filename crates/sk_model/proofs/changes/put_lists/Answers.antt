use Rattle.sk_model.proofs.ListsSteps.{made_exist, made_changed}
use Rattle.sk_model.proofs.changes.put_lists.Goals as goal

pub change-requires-clause-exist : goal.change-requires-clause-exist
change-requires-clause-exist g c =
    made_exist c.args.groups.now.items c.deref.result.now c.args.handles.now.keys c.args.book.now c.args.lists.items c.deref-2.result.now c.in_ok-changes.changes c.in_ok-changes.ensures.changes c.deref.ensures.value c.deref-2.ensures.value c.requires.handles c.requires.count c.requires.exist

pub returns-clause-book : goal.returns-clause-book
returns-clause-book g c =
    made_changed c.args.groups.now.items c.deref.result.now c.args.lists.items c.deref-2.result.now c.args.book.now c.change.new.self c.in_ok-changes.changes c.requires.distinct c.in_ok-changes.ensures.changes c.deref.ensures.value c.deref-2.ensures.value c.in_ok-change.ensures.ok
