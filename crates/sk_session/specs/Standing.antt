-- What a session keeps: its present text is its own regeneration.
use Rattle.std.specs.Prelude.{◌≡◌, ℕ, List, Ok}
use Rattle.std.specs.List.{All}
use Rattle.sk_types.specs.declared.entity.Outline.{Outline}
use Rattle.sk_types.specs.declared.entity.ParamValue.{ParamValue}
use Rattle.sk_types.specs.declared.handle.GroupId.{GroupId}
use Rattle.sk_types.specs.Lookups.{RiseBy, act_handle}
use Rattle.sk_model.specs.declared.remap.GroupList.{GroupList}
use Rattle.sk_model.specs.Changes.{lists_set}
use Rattle.sk_model.specs.Models.{Modelled}
use Rattle.sk_model.specs.Typed.{Typed}
use Rattle.sk_link.specs.declared.parts.Part.{Part}
use Rattle.sk_chain.specs.Known.{IsReadPart}
use Rattle.sk_chain.specs.Laws.{IsOutlineOf}
use Rattle.sk_chain.specs.Outlines.{Outlined, outlined, relisted}
use Rattle.sk_regen.specs.Below.{below, model_works}
use Rattle.sk_regen.specs.FoldLaws.{Each}
use Rattle.sk_regen.specs.Ground.{BoxesSound}
use Rattle.sk_regen.specs.NewText.{order_of, outcome, reported, works_of}
use Rattle.sk_regen.specs.NewTextLaws.{IsFixed}
use Rattle.sk_regen.specs.Regeneration.{at_references, left_by, regenerated}
use Rattle.sk_regen.specs.declared.state.State.{State}
use Rattle.sk_regen.specs.Works.{Works}
use Rattle.sk_session.specs.Opening.{Present}

-- the session's outline with the remap lists of its groups
abbrev pub outlined_by : {s : ℕ} → Present s → List GroupList → Outlined s
outlined_by p lists = record { outline = p.outline; lists = lists }

-- Its parts were read. Regenerated, the present text is itself, byte for byte, with the report and the numbers.
pub record IsStanding {s : ℕ} (p : Present s) : Type 0 where
  pub read : All IsReadPart p.parts
  pub lists : List GroupList
  pub fixed : IsFixed (below p.parts) p.model.blocks p.model.lists (outlined_by p lists) p.report
  pub numbers : p.numbers ≡ (outcome (below p.parts) p.model.lists (outlined_by p lists)).numbers
  pub outline : IsOutlineOf p.model.lists p.outline
  pub acts : RiseBy act_handle p.numbers.acts

-- Each box that a group gets, one group after the other, is sound, for the group's system over the numbers before it.
abbrev pub EachSound : {s : ℕ} → Works s → List (ParamValue s) → List GroupId → Type 0
EachSound w stored order = Each (left_by w stored) (BoxesSound w) order (at_references w)

-- So it is in full regeneration.
abbrev pub AreSound : {s : ℕ} → List (Part s) → Typed s → Outlined s → Type 0
AreSound parts l o = EachSound (works_of (below parts) l o) l.params (order_of o)

-- ---- between two steps of opening

-- the model has the remap lists of its outline
pub record IsExtended {s : ℕ} (parts : List (Part s)) (before now : Modelled s) (o : Outline s) : Type 0 where
  pub lists : List GroupList
  pub outlined : outlined parts before.lists ≡ Ok (record { outline = o; lists = lists })
  pub blocks : now.blocks ≡ lists_set lists before.lists.groups before.blocks
  pub relisted : now.lists ≡ relisted lists before.lists
  pub outline : IsOutlineOf now.lists o

-- every group of such a model is regenerated
abbrev pub all_of : {s : ℕ} → Typed s → Outline s → State s
all_of m o = regenerated (model_works m o) m.params (reported o)

abbrev pub AllSound : {s : ℕ} → Typed s → Outline s → Type 0
AllSound m o = EachSound (model_works m o) m.params (reported o)
