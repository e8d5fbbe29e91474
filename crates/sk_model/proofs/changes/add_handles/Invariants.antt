use Rattle.std.proofs.Common.{◌≡◌, ◌++◌, map, take}
use Rattle.sk_types.specs.Lookups.{value_handle}
use Rattle.sk_model.proofs.changes.add_handles.Given as goal

abbrev pub invariant-loop-param : goal.invariant-loop-param
invariant-loop-param g l = l.handles.keys ≡ l.initial.handles.keys ++ map value_handle (take l.param-index l.added)
