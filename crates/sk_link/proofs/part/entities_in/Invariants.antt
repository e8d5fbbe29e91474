use Rattle.std.proofs.Common.{◌≡◌, [], drop}
use Rattle.sk_records.specs.declared.kinds.Kind.TheVariants as kind
use Rattle.sk_records.specs.Blocks.{records}
use Rattle.sk_link.specs.Stored.{stored}
use Rattle.sk_link.proofs.Tried.{LeftOf}
use Rattle.sk_link.proofs.part.entities_in.Given as goal

-- What is left, put behind what is kept, is the whole.
abbrev pub invariant-loop-place : goal.invariant-loop-place
invariant-loop-place g l = LeftOf (stored g.row.S) l.counted.entries (drop l.place (records kind.Entity l.book)) ≡ LeftOf (stored g.row.S) [] (records kind.Entity l.book)
