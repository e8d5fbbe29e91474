use Rattle.std.proofs.Common.{◌≡◌, ◌<◌, ◌^◌, List, length, map, arith, ap, sym, ◌∙◌, subst, refl, ℤ}
use Rattle.std.specs.List.{sum_by}
use Rattle.std.proofs.lemmas.List.{length-map}
use Rattle.sk_expr.specs.declared.row.Row.{Row}
use Rattle.sk_expr.specs.declared.row.RowName.{RowName}
use Rattle.sk_expr.specs.declared.visited.Visited.{Visited}
use Rattle.sk_expr.specs.Poly.{Poly, nodes_in}
use Rattle.sk_expr.specs.Rows.{NamedRow, row_poly, row_of}
use Rattle.sk_expr.specs.Seen.{Seen}
use Rattle.sk_expr.specs.Tapes.{plain_tape, root_trees}
use Rattle.sk_expr.specs.Visits.{pivot_of, named}
use Rattle.sk_system.proofs.Testable.{small-rows, named-rows-of, visit-testable, visit-begins}
use Rattle.sk_system.proofs.visit.visited.Goals as goal

pub from_rows-requires : goal.from_rows-requires
from_rows-requires g c = (
  omega arith,
  (
    omega arith,
    subst (λ (rs : List (Row g.row.S)). sum_by (λ (r : Row g.row.S). nodes_in (row_poly r)) rs < 2 ^ 31) (sym c.as_slice.ensures) (small-rows c.args.point.now c.args.seen c.requires.visit),
  ),
)

pub returns-clause-seen : goal.returns-clause-seen
returns-clause-seen g c =
    let a = c.args.seen in
    let names : c.of.result ≡ map (λ (r : Row g.row.S). r.name) a.rows = c.of.ensures ∙ c.in_ok-names.ensures ∙ ap (λ (rs : List (Row g.row.S)). map (λ (r : Row g.row.S). r.name) rs) c.as_slice-2.ensures in
    let trees : root_trees (plain_tape c.in_ok-tape.tape) ≡ map (row_poly {s = g.row.S}) a.rows = c.in_ok-tape.ensures.trees ∙ ap (λ (rs : List (Row g.row.S)). map (row_poly {s = g.row.S}) rs) c.as_slice.ensures in
    let rows : named c.of.result (root_trees (plain_tape c.in_ok-tape.tape)) ≡ map (row_of {s = g.row.S}) a.rows =
    ap (λ (ns : List RowName). named ns (root_trees (plain_tape c.in_ok-tape.tape))) names ∙ ap (λ (ts : List (Poly ℤ)). named (map (λ (r : Row g.row.S). r.name) a.rows) ts) trees ∙ named-rows-of a.rows in
    ap (λ (rs : List NamedRow). let o : Seen = record { unknowns = a.unknowns; rows = rs; cosines = a.cosines; forced = map pivot_of a.forced } in o) rows

pub returns-clause-testable : goal.returns-clause-testable
returns-clause-testable g c =
    let a = c.args.seen in
    let v : Visited g.row.S = record { unknowns = a.unknowns; rows = c.of.result; tape = c.in_ok-tape.tape; cosines = a.cosines; forced = a.forced } in
    let names : c.of.result ≡ map (λ (r : Row g.row.S). r.name) a.rows = c.of.ensures ∙ c.in_ok-names.ensures ∙ ap (λ (rs : List (Row g.row.S)). map (λ (r : Row g.row.S). r.name) rs) c.as_slice-2.ensures in
    let trees : root_trees (plain_tape c.in_ok-tape.tape) ≡ map (row_poly {s = g.row.S}) a.rows = c.in_ok-tape.ensures.trees ∙ ap (λ (rs : List (Row g.row.S)). map (row_poly {s = g.row.S}) rs) c.as_slice.ensures in
    visit-testable c.args.point.now a v c.requires.visit refl refl refl c.in_ok-tape.ensures.form trees (c.in_ok-tape.ensures.count ∙ ap (λ (rs : List (Row g.row.S)). length rs) c.as_slice.ensures)
    (ap (λ (ns : List RowName). length ns) names ∙ length-map a.rows (λ (r : Row g.row.S). r.name))

pub returns-clause-begins : goal.returns-clause-begins
returns-clause-begins g c =
    let a = c.args.seen in
    let v : Visited g.row.S = record { unknowns = a.unknowns; rows = c.of.result; tape = c.in_ok-tape.tape; cosines = a.cosines; forced = a.forced } in
    visit-begins c.args.point.now a v c.requires.visit refl refl refl
