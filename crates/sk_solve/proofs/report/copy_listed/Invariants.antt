use Rattle.std.proofs.Common.{◌≡◌, take}
use Rattle.sk_solve.proofs.report.copy_listed.Given as goal

abbrev pub invariant-loop-listed : goal.invariant-loop-listed
invariant-loop-listed g l = l.copies.items ≡ take l.listed-index l.groups
