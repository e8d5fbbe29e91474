use Rattle.std.proofs.Common.{◌≤◌, length, arith, ap, sym, ◌∙◌}
use Rattle.sk_num.specs.Ends.{point}
use Rattle.sk_krawczyk.proofs.ReadLemmas.{beside-none}
use Rattle.sk_krawczyk.proofs.rows.beside.Goals as goal

pub returns-in-None : goal.returns-in-None
returns-in-None g c =
    let row = c.args.row.now in
    let h : length row.spans ≤ c.loop-i.i = omega (arith, c.in-None.ensures, ap length c.as_slice-spans.ensures) in
    c.of_grid.ensures ∙ ap point c.zero.ensures ∙ sym (beside-none row.columns row.spans c.loop-i.i c.args.column h) ∙ c.loop-i.invariant
