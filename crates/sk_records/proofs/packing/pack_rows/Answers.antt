use Rattle.std.proofs.Common.{ap, sym, ◌∙◌, arith, subst}
use Rattle.std.specs.List.{All}
use Rattle.std.proofs.lemmas.List.{take_all}
use Rattle.std.proofs.lemmas.List.Elements.{All-nil}
use Rattle.sk_records.specs.declared.rows.Row as held
use Rattle.sk_records.specs.Holding.Held.{rows_at, RowWithin}
use Rattle.sk_records.proofs.Growth.{grown_none, grown_then}
use Rattle.sk_records.proofs.PackLemmas.{rows_packed, rows_packed_within}
use Rattle.sk_records.proofs.packing.pack_rows.Goals as goal

pub loop-row-init : goal.loop-row-init
loop-row-init c = record {
  rows = ap (rows_at c.args.out.now.items) c.in_ok-packed.ensures.items;
  within = subst (All (RowWithin c.args.out.now.items)) (sym c.in_ok-packed.ensures.items) (All-nil (RowWithin c.args.out.now.items));
  grown = grown_none c.args.out.now.items;
}

pub returns-in_err-made-clause-grown : goal.returns-in_err-made-clause-grown
returns-in_err-made-clause-grown c = grown_then c.args.out.now.items c.loop-row.out.items c.pack_row.new.out.items c.loop-row.invariant.grown c.pack_row.ensures.grown

pub loop-row-preserved : goal.loop-row-preserved
loop-row-preserved c =
    let text = c.args.text.now in
    let old = c.loop-row.out.items in
    let new = c.pack_row.new.out.items in
    let rows = c.args.rows.now in
    let i = c.loop-row.row-index in
    let made = c.loop-row.packed.items in
    let x = c.in_ok-made.made in
    let d : held.Row = record { start = 0; body_end = 0; mark = record { code = 0 } } in
    let inv = c.loop-row.invariant in
    record {
      rows = ap (rows_at new) c.in_ok-push.ensures.items ∙ rows_packed text old new rows i made d x c.loop-row-test.true c.pack_row.ensures.grown c.in_ok-made.ensures.row inv.within inv.rows;
      within = subst (All (RowWithin new)) (sym c.in_ok-push.ensures.items) (rows_packed_within text old new rows i made d x c.loop-row-test.true c.pack_row.ensures.grown c.in_ok-made.ensures.row inv.within c.in_ok-made.ensures.within);
      grown = grown_then c.args.out.now.items old new inv.grown c.pack_row.ensures.grown;
    }

pub returns-clause-rows : goal.returns-clause-rows
returns-clause-rows c =
    let rows = c.args.rows.now in
    c.loop-row.invariant.rows ∙ ap (rows_at c.args.text.now) (take_all c.loop-row.row-index rows (omega arith))
