use Rattle.std.proofs.Common.{List, ap, ◌∙◌}
use Rattle.sk_records.specs.Rows.{Row, with_map}
use Rattle.sk_records.specs.Given.{given_list}
use Rattle.sk_records.specs.Holding.Held.{rows_at}
use Rattle.sk_records.proofs.Growth.{rows_same, rows_grow}
use Rattle.sk_records.proofs.ListSet.{list_at, list_within}
use Rattle.sk_records.proofs.changes.set_row_list.Goals as goal

pub returns-clause-ok : goal.returns-clause-ok
returns-clause-ok c =
    let new = c.push_list.new.text.items in
    let old = c.args.text.now.items in
    let rows = c.args.rows.now.items in
    let made = rw (c.deref.ensures.value, c.deref-2.ensures.value) at c.in_ok-changed.ensures in
    ap (rows_at new) made ∙ list_at new c.in_ok-new.new.items rows
    ∙ ap (λ (l : List Row). with_map l (rows_at new rows)) c.in_ok-new.ensures.rows
    ∙ ap (with_map (given_list c.args.given.now)) (rows_same old new rows c.in_ok-new.ensures.grown c.requires.within)

pub returns-clause-within : goal.returns-clause-within
returns-clause-within c =
    let new = c.push_list.new.text.items in
    let made = rw (c.deref.ensures.value, c.deref-2.ensures.value) at c.in_ok-changed.ensures in
    rw made (list_within new c.in_ok-new.new.items c.args.rows.now.items c.in_ok-new.ensures.within (rows_grow c.args.text.now.items new c.args.rows.now.items c.in_ok-new.ensures.grown c.requires.within))
