-- Want of memory isn't a number past the limit.
use Rattle.std.proofs.Common.{◌≡◌, sym, ◌∙◌}
use Rattle.sk_expr.specs.declared.fault.VisitFault.{VisitFault}
use Rattle.sk_expr.specs.declared.fault.VisitFault.TheVariants.{PastLimit, NoMemory}

pub no-past : (e : VisitFault) → e ≡ NoMemory → e ≡ PastLimit → ⊥
no-past e h p = let q = sym h ∙ p in cc
