use Rattle.std.proofs.Common.{◌≡◌, drop}
use Rattle.sk_link.specs.Parts.{entities_of}
use Rattle.sk_link.proofs.parts.entities_of.Given as goal

abbrev pub invariant-loop-part : goal.invariant-loop-part
invariant-loop-part g l = entities_of l.group (drop l.part-index l.parts) ≡ entities_of l.group l.parts
