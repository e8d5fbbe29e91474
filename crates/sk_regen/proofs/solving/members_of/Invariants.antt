use Rattle.std.proofs.Common.{◌≡◌, ◌++◌, drop}
use Rattle.sk_regen.specs.Regeneration.{members_of}
use Rattle.sk_regen.proofs.solving.members_of.Given as goal

abbrev pub invariant-loop-listed : goal.invariant-loop-listed
invariant-loop-listed g l = l.members.items ++ members_of l.group (drop l.listed-index l.before) ≡ members_of l.group l.before
