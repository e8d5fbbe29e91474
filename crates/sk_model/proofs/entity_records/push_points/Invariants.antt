use Rattle.std.proofs.Common.{◌≡◌, ◌++◌, take}
use Rattle.sk_model.specs.EntityRecords.{point_pairs}
use Rattle.sk_model.specs.WrittenLines.{pair_bytes}
use Rattle.sk_model.proofs.entity_records.push_points.Given as goal

abbrev pub invariant-loop-place : goal.invariant-loop-place
invariant-loop-place l = l.out.items ≡ l.fn.out.items ++ pair_bytes (point_pairs 0 (take l.place l.points))
