use Rattle.std.proofs.Common.{◌≡◌, drop}
use Rattle.sk_records.specs.Classes.{after_run}
use Rattle.sk_records.specs.Holding.Parts.{part_test}
use Rattle.sk_records.proofs.classes.after_run.Given as goal

abbrev pub invariant-loop-i : goal.invariant-loop-i
invariant-loop-i l = after_run (part_test l.part) (drop l.i l.body) ≡ after_run (part_test l.part) l.body
