use Rattle.std.proofs.Common.{List, sym, ◌∙◌, arith, subst}
use Rattle.sk_types.specs.declared.entity.Entity.{Entity}
use Rattle.sk_types.specs.Lookups.{Rise}
use Rattle.sk_chain.proofs.chain.outline_over.Goals as goal

pub entities_fault-requires : goal.entities_fault-requires
entities_fault-requires g c =
    (omega arith, (omega arith, (c.requires.places, subst (λ (es : List (Entity g.row.S)). Rise es) (sym (c.deref.ensures.value ∙ c.in_ok-entities.ensures.entities)) c.requires.rise)))
