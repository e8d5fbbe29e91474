use Rattle.std.proofs.Common.{◌≡◌, ◌<◌, ◌^◌, map, take}
use Rattle.std.specs.List.{All}
use Rattle.sk_num.specs.Limit.{IsInLimit}
use Rattle.sk_types.specs.declared.entity.ParamValue.{ParamValue}
use Rattle.sk_records.specs.declared.kinds.Kind.TheVariants as kind
use Rattle.sk_records.specs.Blocks.{with_tails}
use Rattle.sk_records.specs.Written.{bytes_of}
use Rattle.sk_model.specs.Changes.{new_record, absent, value_changes}
use Rattle.sk_model.proofs.changes.param_changes.Given as goal

abbrev pub invariant-loop-param : goal.invariant-loop-param
invariant-loop-param g l = record {
  changes : l.set.changes ≡ record { kind = kind.Param; list = value_changes l.params (take l.param-index l.values) };
  lines : l.set.lines.items ≡ bytes_of (with_tails (map new_record (absent l.params (take l.param-index l.values))));
  added : l.set.added.items ≡ absent l.params (take l.param-index l.values);
  fits : All (λ (p : ParamValue g.row.S). IsInLimit p.value) (take l.param-index l.values);
  small : All (λ (p : ParamValue g.row.S). p.id.0 < 2 ^ 32) (take l.param-index l.values);
}
