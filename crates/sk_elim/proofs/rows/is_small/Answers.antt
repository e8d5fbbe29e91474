use Rattle.std.proofs.Common.{arith, ◌≤◌, ◌*◌, ◌^◌}
use Rattle.std.specs.Prelude.{unsigned_abs}
use Rattle.sk_elim.specs.Elimination.{greatest_cell}
use Rattle.sk_elim.proofs.RowLemmas.{product-greatest}
use Rattle.sk_elim.proofs.rows.is_small.Goals as goal

pub returns-clause-small : goal.returns-clause-small
returns-clause-small g c t k =
    let m : unsigned_abs c.args.factor * greatest_cell c.args.row.now ≤ 2 ^ 96 = search (arith, t) in
    omega (arith, m, product-greatest c.args.factor c.args.row.now k)
