use Rattle.std.proofs.Common.{◌≡◌, map, take}
use Rattle.sk_types.specs.Lookups.{value_handle}
use Rattle.sk_model.specs.Changes.{with_params}
use Rattle.sk_model.proofs.changes.set_values.Given as goal

abbrev pub invariant-loop-param : goal.invariant-loop-param
invariant-loop-param g l = record {
  params : l.params ≡ with_params (take l.param-index l.values) l.initial.params;
  handles : l.handles.keys ≡ map value_handle l.params;
}
