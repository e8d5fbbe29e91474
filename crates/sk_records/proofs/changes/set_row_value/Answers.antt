use Rattle.std.proofs.Common.{◌≡◌, ◌<◌, [], ◌∷◌, ◌++◌, set, length, Some, None, arith, ap, sym, ◌∙◌, refl, subst}
use Rattle.std.specs.List.{All}
use Rattle.std.proofs.lemmas.List.{length-map}
use Rattle.std.proofs.lemmas.List.Elements.{All-push, All-set}
use Rattle.sk_records.specs.declared.rows.Span.{Span}
use Rattle.sk_records.specs.declared.rows.Row as held
use Rattle.sk_records.specs.Rows.{Plain, last_place}
use Rattle.sk_records.specs.Holding.Marks.{mark_role, mark_number}
use Rattle.sk_records.specs.Holding.Held.{row_of, rows_at, row_at, RowWithin}
use Rattle.sk_records.proofs.Growth.{rows_grow}
use Rattle.sk_records.proofs.RowsSet.{place_below, row_within, rows_set, rows_pushed}
use Rattle.sk_records.proofs.changes.set_row_value.Goals as goal

pub index-row-requires : goal.index-row-requires
index-row-requires c =
    let text = c.args.text.now.items in
    let rows = c.args.rows.now.items in
    let place : last_place c.args.key.now (rows_at text rows) ≡ Some c.in-Some.at = rw (c.deref.ensures.value, c.deref-2.ensures.value) at (sym c.in-Some.ensures) in
    omega (arith, place_below c.args.key.now (rows_at text rows) c.in-Some.at place, length-map rows (row_at text))

pub push_changed-requires : goal.push_changed-requires
push_changed-requires c =
    let text = c.args.text.now.items in
    let rows = c.args.rows.now.items in
    let place : last_place c.args.key.now (rows_at text rows) ≡ Some c.in-Some.at = rw (c.deref.ensures.value, c.deref-2.ensures.value) at (sym c.in-Some.ensures) in
    let lt : c.in-Some.at < length rows = omega (arith, place_below c.args.key.now (rows_at text rows) c.in-Some.at place, length-map rows (row_at text)) in
    record { within = rw c.index-row.ensures (c.requires.within c.in-Some.at c.index-row.result.now lt) }

pub index_mut-requires : goal.index_mut-requires
index_mut-requires c =
    let text = c.args.text.now.items in
    let rows = c.args.rows.now.items in
    let place : last_place c.args.key.now (rows_at text rows) ≡ Some c.in-Some.at = rw (c.deref.ensures.value, c.deref-2.ensures.value) at (sym c.in-Some.ensures) in
    omega (arith, place_below c.args.key.now (rows_at text rows) c.in-Some.at place, length-map rows (row_at text))

pub returns-in_ok-span-in-Some-clause-ok : goal.returns-in_ok-span-in-Some-clause-ok
returns-in_ok-span-in-Some-clause-ok c =
    let text = c.args.text.now.items in
    let rows = c.args.rows.now.items in
    let place : last_place c.args.key.now (rows_at text rows) ≡ Some c.in-Some.at = rw (c.deref.ensures.value, c.deref-2.ensures.value) at (sym c.in-Some.ensures) in
    let r : held.Row = c.index-row.result.now in
    let made : c.of.result ≡ row_of c.in_ok-span-in-Some.span (mark_role r.mark) (mark_number r.mark) = c.of.ensures ∙ rw (c.role.ensures, c.number.ensures.number) refl in
    ap (λ (x : held.Row). rows_at c.push_changed.new.text.items (set rows c.in-Some.at x)) made
    ∙ rows_set text c.push_changed.new.text.items rows c.in-Some.at c.index-row.result.now c.in_ok-span-in-Some.span c.args.key.now c.args.value.now c.in_ok-span-in-Some.ensures.grown c.requires.within c.index-row.ensures c.in_ok-span-in-Some.ensures.within c.in_ok-span-in-Some.ensures.line place

pub returns-in_ok-span-in-Some-clause-within : goal.returns-in_ok-span-in-Some-clause-within
returns-in_ok-span-in-Some-clause-within c =
    let old = c.args.text.now.items in
    let new = c.push_changed.new.text.items in
    let rows = c.args.rows.now.items in
    let span : Span = c.in_ok-span-in-Some.span in
    let within : RowWithin new c.of.result = subst (RowWithin new) (sym c.of.ensures) (row_within new span c.role.result c.number.result c.in_ok-span-in-Some.ensures.within) in
    All-set (RowWithin new) rows c.in-Some.at c.of.result within (rows_grow old new rows c.in_ok-span-in-Some.ensures.grown c.requires.within)

pub returns-in_ok-push-in-None-clause-within : goal.returns-in_ok-push-in-None-clause-within
returns-in_ok-push-in-None-clause-within c =
    let old = c.args.text.now.items in
    let new = c.push_added.new.text.items in
    let rows = c.args.rows.now.items in
    let span : Span = c.in_ok-span-in-None.span in
    let within : RowWithin new c.of-in-None.result = subst (RowWithin new) (sym c.of-in-None.ensures) (row_within new span Plain 0 c.in_ok-span-in-None.ensures.within) in
    subst (All (RowWithin new)) (sym c.in_ok-push-in-None.ensures.items) (All-push (RowWithin new) rows c.of-in-None.result (rows_grow old new rows c.in_ok-span-in-None.ensures.grown c.requires.within) within)

pub returns-in_ok-push-in-None-clause-ok : goal.returns-in_ok-push-in-None-clause-ok
returns-in_ok-push-in-None-clause-ok c =
    let text = c.args.text.now.items in
    let rows = c.args.rows.now.items in
    let place : last_place c.args.key.now (rows_at text rows) ≡ None = rw (c.deref.ensures.value, c.deref-2.ensures.value) at (sym c.in-None.ensures) in
    ap (rows_at c.push_added.new.text.items) (c.in_ok-push-in-None.ensures.items ∙ ap (λ (x : held.Row). rows ++ x ∷ []) c.of-in-None.ensures)
    ∙ rows_pushed text c.push_added.new.text.items rows c.in_ok-span-in-None.span c.args.key.now c.args.value.now c.in_ok-span-in-None.ensures.grown c.requires.within c.in_ok-span-in-None.ensures.within c.in_ok-span-in-None.ensures.line place
