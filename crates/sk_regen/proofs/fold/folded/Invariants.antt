use Rattle.std.proofs.Common.{◌≡◌, true}
use Rattle.sk_regen.specs.Below.{model_works}
use Rattle.sk_regen.specs.Ground.{BoxesSound, HasAll}
use Rattle.sk_regen.specs.Regeneration.{left_over, is_listed, at_references}
use Rattle.sk_regen.proofs.Foldings.{FoldAt, EachAt, CountAt}
use Rattle.sk_regen.proofs.fold.folded.Given as goal

abbrev pub invariant-loop-group : goal.invariant-loop-group
invariant-loop-group g l =
    let m = l.ground.model.now.lists in
    let o = l.ground.outline.now in
    record {
      fold : FoldAt (left_over (model_works m o) m.params l.dirty l.before) l.order (at_references (model_works m o)) l.state l.group-index;
      whole : HasAll m o l.state.numbers;
      sound : EachAt (left_over (model_works m o) m.params l.dirty l.before) l.order (at_references (model_works m o)) (λ n h x. is_listed l.dirty h ≡ true → BoxesSound (model_works m o) n h x) l.state l.group-index;
      count : CountAt (is_listed l.dirty) l.order l.initial.steps l.steps l.group-index;
    }
