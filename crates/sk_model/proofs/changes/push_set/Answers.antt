use Rattle.std.proofs.Common.{sym, ◌∙◌, [], ◌∷◌}
use Rattle.sk_model.specs.Changes.{value_changes}
use Rattle.sk_model.proofs.Outcomes.{on_ok, always}
use Rattle.sk_model.proofs.ManySteps.{none_more, new_absent, new_unchanged, not_absent, same_unchanged, other_pushed, lines_new, lines_same, added_same}
use Rattle.sk_model.proofs.changes.push_set.Goals as goal

pub returns-in_default-clause-changes : goal.returns-in_default-clause-changes
returns-in_default-clause-changes g c =
    none_more c.args.set.now.changes (value_changes c.args.params.now (c.args.param ∷ [])) c.requires.kind (new_unchanged c.args.params.now c.args.param (rw c.requires.handles at (sym c.get_index_of.ensures.index ∙ c.in_default.is)))

pub returns-in_default-clause-lines : goal.returns-in_default-clause-lines
returns-in_default-clause-lines g c =
    lines_new c.args.params.now c.args.param _ _ (new_absent c.args.params.now c.args.param (rw c.requires.handles at (sym c.get_index_of.ensures.index ∙ c.in_default.is))) c.in_ok-push_param.ensures.lines

pub returns-in_default-clause-added : goal.returns-in_default-clause-added
returns-in_default-clause-added g c = rw (new_absent c.args.params.now c.args.param (rw c.requires.handles at (sym c.get_index_of.ensures.index ∙ c.in_default.is))) c.in_ok-push.ensures.items

pub returns-then-is_same-clause-changes : goal.returns-then-is_same-clause-changes
returns-then-is_same-clause-changes g c =
    none_more c.args.set.now.changes (value_changes c.args.params.now (c.args.param ∷ [])) c.requires.kind
    (same_unchanged c.args.params.now c.args.param c.in-Some.place c.index-params-place.result (rw c.requires.handles at (sym c.get_index_of.ensures.index ∙ c.in-Some.is))
    (sym c.is_same.ensures.value ∙ c.if-is_same.true))

pub returns-then-is_same-clause-lines : goal.returns-then-is_same-clause-lines
returns-then-is_same-clause-lines g c =
    lines_same c.args.params.now c.args.param _ (not_absent c.args.params.now c.args.param c.in-Some.place c.index-params-place.result (rw c.requires.handles at (sym c.get_index_of.ensures.index ∙ c.in-Some.is)))

pub returns-then-is_same-clause-added : goal.returns-then-is_same-clause-added
returns-then-is_same-clause-added g c =
    added_same c.args.params.now c.args.param _ (not_absent c.args.params.now c.args.param c.in-Some.place c.index-params-place.result (rw c.requires.handles at (sym c.get_index_of.ensures.index ∙ c.in-Some.is)))

pub returns-clause-changes : goal.returns-clause-changes
returns-clause-changes g c =
    on_ok c.push_change.result
    (other_pushed c.args.params.now c.args.param c.in-Some.place c.index-params-place.result (rw c.requires.handles at (sym c.get_index_of.ensures.index ∙ c.in-Some.is)) c.args.set.now.changes c.push_change.new.changes
    (sym c.is_same.ensures.value ∙ c.if-is_same.false))
    c.push_change.ensures

pub returns-clause-lines : goal.returns-clause-lines
returns-clause-lines g c =
    always c.push_change.result (lines_same c.args.params.now c.args.param _ (not_absent c.args.params.now c.args.param c.in-Some.place c.index-params-place.result (rw c.requires.handles at (sym c.get_index_of.ensures.index ∙ c.in-Some.is))))

pub returns-clause-added : goal.returns-clause-added
returns-clause-added g c =
    always c.push_change.result (added_same c.args.params.now c.args.param _ (not_absent c.args.params.now c.args.param c.in-Some.place c.index-params-place.result (rw c.requires.handles at (sym c.get_index_of.ensures.index ∙ c.in-Some.is))))
