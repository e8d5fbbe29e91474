-- The system of a known group is as large as the outline counts.
use Rattle.std.proofs.Common.{length, sym, subst, arith}
use Rattle.std.specs.List.{list_all}
use Rattle.sk_system.specs.Fits.{FormulasFit}
use Rattle.sk_system.specs.GroupSystem.{group_source, own_constraints, group_system, start_at, add_formulas, is_within, seen_at}
use Rattle.sk_system.specs.SizeLaws.{SizesLaw}
use Rattle.sk_system.proofs.Visits.{if-some, start-seen, formulas-seen}
use Rattle.sk_system.proofs.Made.{summed, own-long, known-fits}

pub sizes_law : SizesLaw
unfolding seen_at group_system
sizes_law s g es cs numbers xs seen h e k =
    let y = group_system g es cs numbers in
    let o = group_source g es cs numbers in
    let fit = known-fits g es cs numbers h in
    let a = if-some (list_all (is_within s (start_at y xs)) y.numbers) (add_formulas s y.formulas (start_at y xs)) seen k in
    let f : FormulasFit (length xs) 0 y.formulas = subst (λ n. FormulasFit n 0 y.formulas) (sym e) fit.formulas in
    let x = formulas-seen s xs y.formulas (start_at y xs) seen (start-seen y xs fit e) f a in
    let t = summed o (length o.unknowns) 0 (own_constraints g cs) h.constraints in
    let l = own-long o g in
    let xu = x.unknowns in
    let xr = x.rows in
    let ta = t.auxiliaries in
    let tr = t.rows in
    record { unknowns = omega (arith, xu, ta, e); rows = omega (arith, xr, tr, l) }
