use Rattle.std.proofs.Common.{◌≡◌, List, ℕ, subst}
use Rattle.std.specs.Prelude.{IfOk}
use Rattle.sk_undo.specs.Changes.{replaced}
use Rattle.sk_undo.proofs.AgreedLemmas.{each-earlier}
use Rattle.sk_undo.proofs.entry.Entry.earlier_text.Goals as goal

pub returns-clause-earlier : goal.returns-clause-earlier
returns-clause-earlier c =
    let e = c.args.self.now in
    let text = c.args.later.now in
    each-earlier e text c.with_stretch.result (subst (λ (middle : List ℕ). IfOk c.with_stretch.result (λ t. t.items ≡ replaced e.front e.back middle text)) c.as_slice.ensures c.with_stretch.ensures)
