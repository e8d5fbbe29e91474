use Rattle.std.proofs.lemmas.Int.{to_z-of_z}
use Rattle.sk_types.proofs.Unknown.{unknown}
use Rattle.sk_types.proofs.standing.constraint_standing.Goals as goal

pub returns-in_default-clause-standing : goal.returns-in_default-clause-standing
returns-in_default-clause-standing c = unknown c.args.n (λ h. c.in_default.ensures (rw (to_z-of_z _ _ c.ranges.n) h))
