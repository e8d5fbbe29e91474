use Rattle.std.proofs.Common.{ℕ, Option, ap, ◌∙◌}
use Rattle.std.specs.Prelude.{unwrap_or}
use Rattle.std.specs.Map.{lookup}
use Rattle.sk_types.specs.Copies.{same_copy}
use Rattle.sk_copy.proofs.Listing.{number_more}
use Rattle.sk_copy.proofs.numbers.Numbers.of.Goals as goal

pub loop-entry-preserved : goal.loop-entry-preserved
loop-entry-preserved c = λ q.
    ap (λ (o : Option ℕ). unwrap_or o 0) (c.in_ok-insert.ensures.updates.0 q)
    ∙ number_more c.args.list.now c.loop-entry.entry-index (record { number = 0; source = record { 0 = 0 }; copy = 0 }) q (lookup (same_copy q) c.loop-entry.by_copy.entries) c.loop-entry-test.true (c.loop-entry.invariant q)
