use Rattle.std.proofs.Common.{◌++◌, ℕ, ap, ◌∙◌, arith}
use Rattle.sk_records.specs.Holding.Held.{bytes_at}
use Rattle.sk_records.proofs.PackLemmas.{moved_row_at}
use Rattle.sk_records.proofs.packing.pack_row.Goals as goal

pub returns-clause-row : goal.returns-clause-row
returns-clause-row c =
    moved_row_at c.args.out.now.items c.args.text.now c.extend_from_slice.new.self.items c.args.row c.len-start.result
    (c.in_ok-extend_from_slice.ensures.items ∙ ap (λ (n : ℕ). c.args.out.now.items ++ bytes_at c.args.text.now c.args.row.start n) c.end.ensures) c.requires (omega arith)
