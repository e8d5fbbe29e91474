use Rattle.std.proofs.Common.{◌+◌, drop, map, arith}
use Rattle.std.proofs.lemmas.List.{length-map}
use Rattle.sk_expr.specs.Rows.{row_of}
use Rattle.sk_expr.specs.Visits.{grown_of}
use Rattle.sk_system.specs.GroupSystem.{add_formulas}
use Rattle.sk_system.specs.Views.{formula_view}
use Rattle.sk_system.proofs.Steps.{left-more, left-step}
use Rattle.sk_system.proofs.visit.add_formulas.Goals as goal

pub loop-f-preserved : goal.loop-f-preserved
loop-f-preserved g c =
    let s = g.row.S in
    let fs = c.args.formulas.now in
    let i = c.loop-f.f-index in
    let h = c.loop-f.invariant in
    let hr = h.rows in
    let m = length-map c.loop-f.seen.rows (row_of {s = s}) in
    let n = length-map c.add_formula.new.seen.rows (row_of {s = s}) in
    let x = left-step s (formula_view {s = s} c.f-item.result) (map (formula_view {s = s}) (drop (i + 1) fs)) (map (formula_view {s = s}) (drop i fs))
    (grown_of {s = s} c.loop-f.seen) (grown_of {s = s} c.add_formula.new.seen) (add_formulas s (map (formula_view {s = s}) fs) (grown_of {s = s} c.args.seen.now))
    (left-more fs i c.f-item.result _ c.loop-f-test.true c.f-item.is)
    (record { rest = h.rest; fit = h.fit; unknowns = h.unknowns; rows = omega (arith, hr, m); cosines = h.cosines })
    c.in_ok-add_formula.ensures.follows in
    let xr = x.rows in
    record { rest = x.rest; fit = x.fit; unknowns = x.unknowns; rows = omega (arith, xr, n); cosines = x.cosines }
