use Rattle.std.proofs.Common.{◌≡◌, take}
use Rattle.std.specs.List.{All}
use Rattle.sk_records.specs.declared.kinds.Kind.TheVariants as kind
use Rattle.sk_model.specs.declared.remap.GroupList.{GroupList}
use Rattle.sk_model.specs.Changes.{grown, list_changes}
use Rattle.sk_model.specs.Settable.{HasSources}
use Rattle.sk_model.proofs.changes.changes_of_lists.Given as goal

abbrev pub invariant-loop-list : goal.invariant-loop-list
invariant-loop-list g l = record {
  changes : l.changes ≡ record { kind = kind.Group; list = list_changes l.groups (take l.list-index l.lists) };
  sources : All (λ (x : GroupList). HasSources x.entries) (grown l.groups (take l.list-index l.lists));
}
