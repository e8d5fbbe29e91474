use Rattle.std.proofs.Common.{◌≡◌, ℕ}
use Rattle.std.specs.List.{flat_map}
use Rattle.sk_types.specs.Lists.{each_below}
use Rattle.sk_types.specs.Params.{own_params}
use Rattle.sk_entity.specs.Requests.{point_of}
use Rattle.sk_entity.proofs.params.request_params.Given as goal

abbrev pub invariant-loop-i : goal.invariant-loop-i
invariant-loop-i l = (s : ℕ) → l.params.items ≡ flat_map own_params (each_below l.i (point_of s l.r))
