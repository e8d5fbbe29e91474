use Rattle.std.proofs.Common.{sym, ◌∙◌}
use Rattle.sk_model.specs.TypingLaws.Lookups.{value_found, value_missing}
use Rattle.sk_model.proofs.model.Model.param.Goals as goal

pub returns-in_err-place : goal.returns-in_err-place
returns-in_err-place g c =
    rw (← c.self.view_is, c.from_residual.ensures) (value_missing c.args.p.0 c.self.inside.params.items c.self.inside.param_handles.keys c.self.invariant.1.of_params (sym c.get_index_of.ensures.index ∙ c.in_err-place.was))

pub returns : goal.returns
returns g c =
    rw (← c.self.view_is, c.index.ensures) (value_found c.args.p.0 c.in_ok-place.place c.index.result.now c.self.inside.params.items c.self.inside.param_handles.keys c.self.invariant.1.of_params (sym c.get_index_of.ensures.index ∙ c.in_ok-place.was))
