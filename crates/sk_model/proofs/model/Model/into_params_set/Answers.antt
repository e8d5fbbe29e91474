use Rattle.std.proofs.Common.{Ok, arith}
use Rattle.std.specs.Prelude.{Result}
use Rattle.sk_model.specs.TypingLaws.TypedParts.{param_count}
use Rattle.sk_model.proofs.ModelSet.{params_typed_after}
use Rattle.sk_model.proofs.model.Model.into_params_set.Goals as goal

pub with_params_put-requires : goal.with_params_put-requires
with_params_put-requires g c = (omega arith, (c.requires.scale, (c.self.invariant.1.of_params, (param_count g.row.S c.self.inside.book _ c.self.invariant.0, c.requires.distinct))))

pub invariant_of-result : goal.invariant_of-result
invariant_of-result g c =
    let made : Result (Unit {0}) (Unit {0}) = Ok tt in (
      params_typed_after made c.self.inside.book c.in_ok-book.book _ c.self.invariant.0 c.requires.scale c.args.values.now c.with_params_put.new.params.items c.requires.some c.in_ok-book.ensures.small c.in_ok-book.ensures.fits c.in_ok-book.ensures.book tt c.in_ok-book.ensures.params tt,
      record { of_groups = c.self.invariant.1.of_groups; of_params = c.in_ok-book.ensures.handles },
    )
