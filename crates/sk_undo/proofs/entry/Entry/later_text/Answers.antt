use Rattle.std.proofs.Common.{◌≡◌, List, ℕ, subst}
use Rattle.std.specs.Prelude.{IfOk}
use Rattle.sk_undo.specs.Changes.{replaced}
use Rattle.sk_undo.proofs.AgreedLemmas.{each-later}
use Rattle.sk_undo.proofs.entry.Entry.later_text.Goals as goal

pub returns-clause-later : goal.returns-clause-later
returns-clause-later c =
    let e = c.args.self.now in
    let text = c.args.earlier.now in
    each-later e text c.with_stretch.result (subst (λ (middle : List ℕ). IfOk c.with_stretch.result (λ t. t.items ≡ replaced e.front e.back middle text)) c.as_slice.ensures c.with_stretch.ensures)
