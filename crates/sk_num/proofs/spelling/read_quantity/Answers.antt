use Rattle.std.proofs.Common.{rules, ap, sym, ◌∙◌, subst, pos, ◌≡◌, ◌*ℤ◌, ◌^◌}
use Rattle.std.specs.Prelude.{IfSome, IfOk}
use Rattle.std.specs.Option.{ok_or}
use Rattle.sk_num.specs.Decimals.{decimal_of}
use Rattle.sk_num.specs.Division.{signed, IsNearest}
use Rattle.sk_num.specs.declared.fault.NumFault.TheVariants.{OutOfGrid}
use Rattle.sk_num.specs.Limit.{grid_of}
use Rattle.sk_num.specs.DecimalUnits.{magnitude_at}
use Rattle.sk_num.specs.Spelling.{quantity_of, numerator}
use Rattle.sk_num.specs.declared.decimal.Decimal.{Decimal}
use Rattle.sk_num.specs.SpellingLemmas.{in_grid-is, quantity-read, quantity-nearest}
use Rattle.sk_num.proofs.spelling.read_quantity.Goals as goal

pub returns-clause-value : goal.returns-clause-value
unfolding quantity_of
returns-clause-value g c =
    let d = c.in_ok-d.d in
    c.ok_or-2.ensures.value
    ∙ ap (λ o. ok_or o OutOfGrid) (c.signed_grid.ensures ∙ ap (λ m. grid_of (signed d.negative m)) c.rounded_units-magnitude.ensures)
    ∙ in_grid-is (signed d.negative (magnitude_at g.row.S d))
    ∙ quantity-read g.row.S (decimal_of c.args.t.now) d c.requires (sym c.read_decimal.ensures.number ∙ c.in_ok-d.ensures.ok_part)

pub returns-clause-nearest : goal.returns-clause-nearest
returns-clause-nearest g c =
    subst (λ o. IfSome (decimal_of c.args.t.now) (λ (d : Decimal). IfOk o (IsNearest (numerator d *ℤ pos (2 ^ g.row.S)) (pos (10 ^ 20)))))
    (sym (returns-clause-value g c)) (quantity-nearest g.row.S c.args.t.now)

pub returns-in_err-d-clause-nearest : goal.returns-in_err-d-clause-nearest
unfolding quantity_of
returns-in_err-d-clause-nearest g c =
    let v : c.from_residual.result ≡ quantity_of g.row.S c.args.t.now = search rules in
    subst (λ o. IfSome (decimal_of c.args.t.now) (λ (d : Decimal). IfOk o (IsNearest (numerator d *ℤ pos (2 ^ g.row.S)) (pos (10 ^ 20)))))
    (sym v) (quantity-nearest g.row.S c.args.t.now)
