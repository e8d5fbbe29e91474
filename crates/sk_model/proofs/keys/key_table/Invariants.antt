use Rattle.std.proofs.Common.{◌≡◌, ℕ, List, map, take}
use Rattle.std.specs.Borrow.{Bor}
use Rattle.sk_model.specs.Keys.{key_bytes}
use Rattle.sk_model.proofs.keys.key_table.Given as goal

abbrev pub invariant-loop-key : goal.invariant-loop-key
invariant-loop-key l = map (λ (k : Bor (List ℕ)). k.now) l.table.items ≡ map key_bytes (take l.key-index l.key-items)
