use Rattle.std.proofs.Common.{◌≡◌, take}
use Rattle.std.specs.List.{All}
use Rattle.sk_records.specs.Blocks.{with_tails}
use Rattle.sk_records.specs.Written.{bytes_of}
use Rattle.sk_model.specs.EntityRecords.{entity_records}
use Rattle.sk_model.specs.Settable.{IsWritable}
use Rattle.sk_model.proofs.entity_records.entity_text.Given as goal

abbrev pub invariant-loop-entity : goal.invariant-loop-entity
invariant-loop-entity g l = record {
  text : l.out.items ≡ bytes_of (with_tails (entity_records l.acts (take l.entity-index l.entities)));
  writable : All (IsWritable l.acts) (take l.entity-index l.entities);
}
