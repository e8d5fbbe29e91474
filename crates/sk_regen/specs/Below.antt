-- Regeneration over linked parts: what stands below it, for a model of a text.
use Rattle.std.specs.Prelude.{◌≡◌, ℕ, List, [], true, Result}
use Rattle.sk_types.specs.declared.entity.Outline.{Outline}
use Rattle.sk_types.specs.declared.handle.GroupId.{GroupId}
use Rattle.sk_model.specs.Typed.{Typed}
use Rattle.sk_solve.specs.declared.report.Listed.{Listed}
use Rattle.sk_regen.specs.Works.{Works}
use Rattle.sk_regen.specs.FoldLaws.{Each}
use Rattle.sk_regen.specs.Ground.{BoxesSound}
use Rattle.sk_regen.specs.Regeneration.{State, at_references, is_listed, left_over, regenerated_over}
use Rattle.sk_types.specs.declared.constraint.Constraint.{Constraint}
use Rattle.sk_types.specs.declared.group.Group.{Group}
use Rattle.sk_types.specs.declared.request.Request.{Request}
use Rattle.sk_link.specs.declared.parts.Part.{Part}
use Rattle.sk_chain.specs.Outlines.{Outlined, outlined}
use Rattle.sk_model.specs.declared.faults.ModelFault.{ModelFault}
use Rattle.sk_regen.specs.NewText.{Below, reported}
use Rattle.sk_regen.specs.GroupWorks.{works}

-- no parameter is looked at
abbrev pub outline_of : {s : ℕ} → List (Part s) → List (Group s) → List Request → List (Constraint s) → Result (Outlined s) ModelFault
outline_of parts gs rs cs = outlined parts (record { groups = gs; params = []; requests = rs; constraints = cs })

unfoldable pub below : {s : ℕ} → List (Part s) → Below s
below parts = record { outline_of = outline_of parts; works = works }

-- ---- regeneration of a model whose lists are extended

abbrev pub model_works : {s : ℕ} → Typed s → Outline s → Works s
model_works m o = works m.groups m.requests m.constraints o

-- over a list of groups and an earlier report
abbrev pub over_dirty : {s : ℕ} → Typed s → Outline s → List GroupId → List (Listed s) → State s
over_dirty m o dirty before = regenerated_over (model_works m o) m.params dirty before (reported o)

-- each box that a group of the list gets is sound, for the group's system over the numbers before it
abbrev pub BoxesOver : {s : ℕ} → Typed s → Outline s → List GroupId → List (Listed s) → List GroupId → Type 0
BoxesOver m o dirty before order =
    Each (left_over (model_works m o) m.params dirty before) (λ n g x. is_listed dirty g ≡ true → BoxesSound (model_works m o) n g x) order (at_references (model_works m o))
