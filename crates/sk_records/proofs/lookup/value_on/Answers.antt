use Rattle.std.proofs.Common.{arith, ap, sym, ◌∙◌}
use Rattle.std.proofs.lemmas.List.{length-map}
use Rattle.std.proofs.Math.ListN.{get_or-map}
use Rattle.sk_records.specs.declared.rows.Row as held
use Rattle.sk_records.specs.Rows.{value_in}
use Rattle.sk_records.specs.Holding.Held.{row_at, rows_at}
use Rattle.sk_records.proofs.RowsSet.{place_below}
use Rattle.sk_records.proofs.FoundLemmas.{value_none, value_some}
use Rattle.sk_records.proofs.lookup.value_on.Goals as goal

pub offset_bounds-rows-at : goal.offset_bounds-rows-at
offset_bounds-rows-at c =
    let rows = rows_at c.args.text.now c.args.rows.now in
    omega (arith, place_below c.args.key.now rows c.in-Some.at (sym c.requires.found ∙ c.in-Some.is), length-map c.args.rows.now (row_at c.args.text.now))

pub bounds-rows-at : goal.bounds-rows-at
bounds-rows-at c =
    let rows = rows_at c.args.text.now c.args.rows.now in
    omega (arith, place_below c.args.key.now rows c.in-Some.at (sym c.requires.found ∙ c.in-Some.is), length-map c.args.rows.now (row_at c.args.text.now))

pub value_in-requires : goal.value_in-requires
value_in-requires c =
    let rows = rows_at c.args.text.now c.args.rows.now in
    let d : held.Row = record { start = 0; body_end = 0; mark = record { code = 0 } } in
    c.requires.within c.in-Some.at d (omega (arith, place_below c.args.key.now rows c.in-Some.at (sym c.requires.found ∙ c.in-Some.is), length-map c.args.rows.now (row_at c.args.text.now)))

pub returns-in-Some : goal.returns-in-Some
returns-in-Some c =
    let text = c.args.text.now in
    let rows = rows_at text c.args.rows.now in
    let d : held.Row = record { start = 0; body_end = 0; mark = record { code = 0 } } in
    c.value_in.ensures
    ∙ sym (value_some c.args.key.now rows c.in-Some.at (row_at text d) (sym c.requires.found ∙ c.in-Some.is) ∙ ap (value_in c.args.key.now) (get_or-map (row_at text) c.args.rows.now c.in-Some.at d))

pub returns-in-None : goal.returns-in-None
returns-in-None c = sym (value_none c.args.key.now (rows_at c.args.text.now c.args.rows.now) (sym c.requires.found ∙ c.in-None.is))
