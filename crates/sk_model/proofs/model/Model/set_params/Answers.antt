use Rattle.std.proofs.Common.{arith}
use Rattle.sk_model.specs.TypingLaws.TypedParts.{param_count}
use Rattle.sk_model.proofs.ModelSet.{handles_after, params_typed_after}
use Rattle.sk_model.proofs.model.Model.set_params.Goals as goal

pub put_params-requires : goal.put_params-requires
put_params-requires g c = (omega arith, (c.requires.scale, (c.self.invariant.1.of_params, (param_count g.row.S c.self.inside.book _ c.self.invariant.0, c.requires.distinct))))

pub invariant_of-self : goal.invariant_of-self
invariant_of-self g c = (
  params_typed_after c.put_params.result c.self.inside.book c.put_params.new.book _ c.self.invariant.0 c.requires.scale c.args.values.now c.put_params.new.params.items c.requires.some c.put_params.ensures.small c.put_params.ensures.fits c.put_params.ensures.book c.put_params.ensures.err_book c.put_params.ensures.params c.put_params.ensures.err_params,
  record { of_groups = c.self.invariant.1.of_groups; of_params = handles_after c.put_params.result c.self.inside.param_handles.keys c.put_params.new.handles.keys c.self.inside.params.items c.put_params.new.params.items c.self.invariant.1.of_params c.put_params.ensures.handles c.put_params.ensures.err_handles c.put_params.ensures.err_params },
)
