use Rattle.std.proofs.Common.{◌≡◌, ℕ, ◌-◌, length, arith, ap, ◌∙◌, set}
use Rattle.sk_records.specs.declared.items.Item.TheVariants.{Lines}
use Rattle.sk_records.specs.Holding.Held.{blocks_at, IsJoined}
use Rattle.sk_records.proofs.HeldLines.{blocks_joined, blocks_alone}
use Rattle.sk_records.proofs.items.push_line.Goals as goal

pub returns-in-Some-clause-ok : goal.returns-in-Some-clause-ok
returns-in-Some-clause-ok c =
    let text = c.args.text.now in
    let items = c.args.items.now.items in
    let n : c.len-last.result ≡ length items = omega arith in
    let joined : IsJoined text items c.args.span.start c.in-Some.start = rw c.deref.ensures.value at c.in-Some.ensures in
    ap (λ (k : ℕ). blocks_at text (set items (k - 1) (Lines (record { start = c.in-Some.start; end = c.args.span.end })))) n
    ∙ blocks_joined text items c.in-Some.start c.args.span joined c.requires.within c.requires.line

pub returns-in_ok-push-in-None-clause-ok : goal.returns-in_ok-push-in-None-clause-ok
returns-in_ok-push-in-None-clause-ok c = rw c.in_ok-push-in-None.ensures.items (blocks_alone c.args.text.now c.args.items.now.items c.args.span c.requires.within c.requires.line)
