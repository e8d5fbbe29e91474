use Rattle.std.proofs.Common.{rules, ◌^◌, pos, ◌*ℤ◌, subst, sym, ◌≡◌}
use Rattle.std.specs.Prelude.{IfSome}
use Rattle.std.proofs.lemmas.Nat.{pow_pos}
use Rattle.sk_num.specs.Division.{IsNearest}
use Rattle.sk_num.specs.Rounding.{rounded_product}
use Rattle.sk_num.specs.SpellingLemmas.{kept-nearest}
use Rattle.sk_num.proofs.rounding.rmul.Goals as goal

pub returns-clause-nearest : goal.returns-clause-nearest
returns-clause-nearest g c =
    let v : c.of_wide.result ≡ rounded_product g.row.S c.args.a c.args.b = search rules in
    subst (λ o. IfSome o (IsNearest (c.args.a *ℤ c.args.b) (pos (2 ^ g.row.S)))) (sym v) (kept-nearest (c.args.a *ℤ c.args.b) (pos (2 ^ g.row.S)) (pow_pos g.row.S))
