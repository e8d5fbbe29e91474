use Rattle.std.proofs.Common.{◌-◌, ◌^◌, arith, ap, ◌∙◌}
use Rattle.std.specs.Prelude.{nat_le}
use Rattle.sk_num.specs.Scale.{IsScale-bounds}
use Rattle.sk_krawczyk.proofs.RadiusLemmas.{pow-leb}
use Rattle.sk_krawczyk.proofs.radii.is_near.Goals as goal

pub overflow_sub-result : goal.overflow_sub-result
overflow_sub-result g c = omega (arith, IsScale-bounds c.requires)

pub returns : goal.returns
returns g c = pow-leb c.radius_exponent.result (g.row.S - 10) ∙ ap (λ e. nat_le (2 ^ e) (2 ^ (g.row.S - 10))) c.radius_exponent.ensures.value
