-- A step of the loop that adds constraints.
use Rattle.std.proofs.Common.{◌≡◌, ℕ, ◌+◌, ◌≤◌, ◌<◌, List, ◌∷◌, length, map, drop, get_or, Option, Some, sym, ap, ◌∙◌, subst, arith}
use Rattle.std.specs.Prelude.{option_and_then}
use Rattle.std.proofs.lemmas.List.{drop_more}
use Rattle.std.proofs.lemmas.List.Sums.{sum_by-cons}
use Rattle.sk_expr.specs.Seen.{Seen}
use Rattle.sk_system.specs.Fits.{FormulasFit}
use Rattle.sk_system.specs.Formulas.{NamedFormula}
use Rattle.sk_system.specs.Sizes.{formula_rows, auxiliaries_in, cosines_in, rows_in}
use Rattle.sk_system.specs.GroupSystem.{add_formula, add_formulas}
use Rattle.sk_system.specs.Views.{formula_view}
use Rattle.sk_system.specs.declared.formulas.NamedFormula.{NamedFormula as KeptFormula}
use Rattle.sk_system.proofs.Visits.{formula-grown}

pub left-more : {s : ℕ} (fs : List (KeptFormula s)) (i : ℕ) (f d : KeptFormula s) → i < length fs → f ≡ get_or fs i d →
    map (formula_view {s = s}) (drop i fs) ≡ formula_view f ∷ map (formula_view {s = s}) (drop (i + 1) fs)
left-more {s} fs i f d l e =
    ap (λ (gs : List (KeptFormula s)). map (formula_view {s = s}) gs) (drop_more fs i d l) ∙ ap (λ (g : KeptFormula s). formula_view g ∷ map (formula_view {s = s}) (drop (i + 1) fs)) (sym e)

-- what is left to be added fits, and gives what is given in the end
pub record IsLeft (s : ℕ) (fs : List NamedFormula) (seen : Seen) (last : Option Seen) : Type 0 where
  pub rest : add_formulas s fs seen ≡ last
  pub fit : FormulasFit (length seen.unknowns) (length seen.cosines) fs
  pub unknowns : length seen.unknowns + auxiliaries_in fs ≤ 400
  pub rows : length seen.rows + rows_in fs ≤ 400
  pub cosines : length seen.cosines + cosines_in fs ≤ 400

one-left : (s : ℕ) (f : NamedFormula) (fs : List NamedFormula) (old new : Seen) (last : Option Seen) → IsLeft s (f ∷ fs) old last → add_formula s f old ≡ Some new → IsLeft s fs new last
one-left s f fs old new last h a =
    let x = formula-grown s f old new h.fit.0 a in
    let xu = x.unknowns in
    let xr = x.rows in
    let xc = x.cosines in
    let a' = sum_by-cons (λ (g : NamedFormula). length g.formula.auxiliaries) f fs in
    let r' = sum_by-cons (λ (g : NamedFormula). formula_rows g.formula) f fs in
    let c' = sum_by-cons (λ (g : NamedFormula). length g.formula.cosines) f fs in
    let hu = h.unknowns in
    let hr = h.rows in
    let hc = h.cosines in
    record {
      rest = sym (ap (option_and_then (add_formulas s fs)) a) ∙ h.rest;
      fit = subst (λ n. FormulasFit n (length new.cosines) fs) (sym xu) (subst (λ n. FormulasFit (length old.unknowns + length f.formula.auxiliaries) n fs) (sym xc) h.fit.1);
      unknowns = omega (arith, xu, a', hu);
      rows = omega (arith, xr, r', hr);
      cosines = omega (arith, xc, c', hc);
    }

pub left-step : (s : ℕ) (f : NamedFormula) (fs gs : List NamedFormula) (old new : Seen) (last : Option Seen) → gs ≡ f ∷ fs → IsLeft s gs old last → add_formula s f old ≡ Some new → IsLeft s fs new last
left-step s f fs gs old new last e h a = one-left s f fs old new last (subst (λ (gs : List NamedFormula). IsLeft s gs old last) e h) a
