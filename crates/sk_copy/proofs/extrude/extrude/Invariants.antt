use Rattle.std.proofs.Common.{◌≡◌, ◌++◌, take}
use Rattle.std.specs.List.{flat_map}
use Rattle.sk_copy.specs.Known.{number_at}
use Rattle.sk_copy.specs.Copies.{end_faces, extrude_as, first_point}
use Rattle.sk_copy.proofs.extrude.extrude.Given as goal

abbrev pub invariant-loop-entity : goal.invariant-loop-entity
invariant-loop-entity g l = l.made.items ≡ end_faces l.group (number_at l.numbers) (first_point l.source) ++ flat_map (extrude_as l.group (number_at l.numbers)) (take l.entity-index l.source)
