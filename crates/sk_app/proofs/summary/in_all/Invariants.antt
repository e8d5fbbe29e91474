use Rattle.std.proofs.Common.{◌≡◌, ◌≤◌, ◌*◌, take}
use Rattle.std.specs.Prelude.{◌^◌}
use Rattle.sk_app.specs.Lent.{size_in}
use Rattle.sk_app.specs.Summary.{in_all}
use Rattle.sk_app.proofs.summary.in_all.Given as goal

abbrev pub invariant-loop-listed : goal.invariant-loop-listed
invariant-loop-listed g l = record {
  sum : l.sum ≡ in_all (size_in l.size) (take l.listed-index l.groups);
  most : l.sum ≤ l.listed-index * 2 ^ 64;
}
