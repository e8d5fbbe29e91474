use Rattle.std.proofs.Common.{ap, sym, ◌∙◌, pos, ◌*ℤ◌, ◌^◌, Some, subst}
use Rattle.std.specs.Prelude.{IfSome}
use Rattle.sk_num.specs.declared.decimal.Decimal.{Decimal}
use Rattle.sk_num.specs.Decimals.{decimal_text}
use Rattle.std.proofs.lemmas.Nat.{pow_pos}
use Rattle.sk_num.specs.Division.{nearest, nearest_is, IsNearest}
use Rattle.sk_num.specs.Spelling.{quantity_of, quantity_text, read_as, in_grid, units_of, numerator}
use Rattle.sk_num.specs.SpellingLemmas.{units-back, decimal_at-is, in_grid-known, numerator-from}
use Rattle.sk_num.proofs.spelling.quantity_text.Goals as goal

pub returns-clause-text : goal.returns-clause-text
unfolding quantity_text
returns-clause-text g c = c.decimal_text-len.ensures.text ∙ ap decimal_text (c.nearest_decimal-d.ensures.value ∙ sym (decimal_at-is g.row.S c.args.g c.requires))

pub returns-clause-read_back : goal.returns-clause-read_back
unfolding quantity_of
returns-clause-read_back g c =
    let d = c.nearest_decimal-d.ensures in
    let z = c.args.g in
    ap (read_as g.row.S) (c.decimal_text-len.ensures.read_back d.decimals)
    ∙ ap (λ (e : Decimal). in_grid (units_of g.row.S e)) d.value
    ∙ ap in_grid (units-back g.row.S z c.requires)
    ∙ in_grid-known z d.fits

pub returns-clause-nearest : goal.returns-clause-nearest
returns-clause-nearest g c =
    let d = c.nearest_decimal-d.ensures in
    let n = nearest (c.args.g *ℤ pos (10 ^ 20)) (pos (2 ^ g.row.S)) in
    let e = d.value ∙ sym (decimal_at-is g.row.S c.args.g c.requires) in
    subst (λ o. IfSome o (λ (w : Decimal). IsNearest (c.args.g *ℤ pos (10 ^ 20)) (pos (2 ^ g.row.S)) (numerator w)))
    (sym (c.decimal_text-len.ensures.read_back d.decimals ∙ ap Some e))
    (subst (IsNearest (c.args.g *ℤ pos (10 ^ 20)) (pos (2 ^ g.row.S))) (sym (numerator-from n))
    (nearest_is (c.args.g *ℤ pos (10 ^ 20)) (pos (2 ^ g.row.S)) (pow_pos g.row.S)))
