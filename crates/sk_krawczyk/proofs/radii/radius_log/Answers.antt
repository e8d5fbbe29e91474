use Rattle.std.proofs.Common.{◌≡◌, ◌-◌, ◌^◌, arith, ap, ◌∙◌, true, to_z, of_z, pos, ◌+ℤ◌}
use Rattle.std.specs.Int.{w8}
use Rattle.std.specs.Prelude.{nat_le}
use Rattle.std.proofs.lemmas.Int.{ints}
use Rattle.sk_num.specs.Scale.{IsScale-bounds}
use Rattle.sk_krawczyk.proofs.RadiusLemmas.{pow-small, reach-is}
use Rattle.sk_krawczyk.proofs.radii.radius_log.Goals as goal

pub log_of-requires : goal.log_of-requires
log_of-requires g c =
    let near : nat_le (2 ^ c.radius_exponent.result) (2 ^ (g.row.S - 10)) ≡ true = ap (λ e. nat_le (2 ^ e) (2 ^ (g.row.S - 10))) c.radius_exponent.ensures.value ∙ c.requires.near in
    let h = pow-small c.radius_exponent.result (g.row.S - 10) near in
    record { scale = c.requires.scale; least = c.radius_exponent.ensures.least; most = omega (arith, h, IsScale-bounds c.requires.scale) }

pub returns-clause-value : goal.returns-clause-value
returns-clause-value g c = reach-is (to_z w8 (of_z w8 c.log_of.result) +ℤ pos g.row.S) c.radius_exponent.result (omega (arith, ints, c.log_of.ensures)) ∙ ap (λ e. 2 ^ e) c.radius_exponent.ensures.value

pub returns-clause-form : goal.returns-clause-form
returns-clause-form g c =
    let near : nat_le (2 ^ c.radius_exponent.result) (2 ^ (g.row.S - 10)) ≡ true = ap (λ e. nat_le (2 ^ e) (2 ^ (g.row.S - 10))) c.radius_exponent.ensures.value ∙ c.requires.near in
    let h = pow-small c.radius_exponent.result (g.row.S - 10) near in
    record {
      least = omega (arith, ints, c.log_of.ensures, c.radius_exponent.ensures.least);
      most = omega (arith, ints, c.log_of.ensures, h, IsScale-bounds c.requires.scale);
    }
