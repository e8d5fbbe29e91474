use Rattle.std.proofs.Common.{ap, arith}
use Rattle.sk_model.specs.Typed.{Typed}
use Rattle.sk_model.proofs.Outcomes.{on_ok}
use Rattle.sk_model.proofs.ModelSet.{one_distinct, one_some, values_after}
use Rattle.sk_model.proofs.model.Model.set_param.Goals as goal

pub set_params-requires : goal.set_params-requires
set_params-requires g c = (omega arith, (omega arith, (c.requires.scale, (one_some (record { id = c.args.p; value = c.args.v }) c.requires.some, one_distinct c.args.p.0))))

pub returns-clause-values : goal.returns-clause-values
returns-clause-values g c =
    values_after c.set_params.result c.args.p.0 c.args.v c.args.self.now.lists.params c.set_params.new.self.lists.params (on_ok c.set_params.result (λ e. ap (λ (l : Typed g.row.S). l.params) e) c.set_params.ensures.lists)
