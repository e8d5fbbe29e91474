-- What holds of regeneration over linked parts that were read, of every text that is accepted.
use Rattle.std.specs.Prelude.{◌≡◌, ℕ, List, Ok}
use Rattle.std.specs.List.{All}
use Rattle.sk_num.specs.Scale.{IsScale}
use Rattle.sk_types.specs.declared.entity.ParamValue.{ParamValue}
use Rattle.sk_types.specs.declared.group.Group.{Group}
use Rattle.sk_types.specs.declared.handle.GroupId.{GroupId}
use Rattle.sk_records.specs.Blocks.{Block}
use Rattle.sk_records.specs.Written.{IsText, bytes_of, numbered}
use Rattle.sk_model.specs.Changes.{with_lists}
use Rattle.sk_model.specs.Typed.{Typed, typed}
use Rattle.sk_link.specs.declared.parts.Part.{Part}
use Rattle.sk_link.specs.Parts.{parts_of}
use Rattle.sk_link.specs.Replies.{Reply}
use Rattle.sk_chain.specs.Known.{IsReadPart}
use Rattle.sk_chain.specs.Outlines.{Outlined, outlined}
use Rattle.sk_solve.specs.declared.report.Listed.{Listed}
use Rattle.sk_regen.specs.Works.{Works}
use Rattle.sk_regen.specs.Regeneration.{left_by, at_references, regenerated, regenerated_over}
use Rattle.sk_regen.specs.FoldLaws.{Each, StandsAs, Owners, SameOutside}
use Rattle.sk_regen.specs.NewText.{order_of, works_of, outcome, new_blocks, new_lists, Regenerated, regen}
use Rattle.sk_regen.specs.NewTextLaws.{IsSound, BlocksAgain, IsFixed}
use Rattle.sk_regen.specs.GroupWorks.{works}
use Rattle.sk_regen.specs.Below.{below}

-- Regeneration over the list of all groups is full regeneration, whatever the earlier report: of any works, and of a model whose
-- remap lists have been extended.
pub record FullLaw : Type 0 where
  pub fold : (s : ℕ) (w : Works s) (stored : List (ParamValue s)) (before : List (Listed s)) (order : List GroupId)
      → regenerated_over w stored order before order ≡ regenerated w stored order
  pub model : (s : ℕ) (parts : List (Part s)) (l : Typed s) (o : Outlined s) (before : List (Listed s))
      → regenerated_over (works (with_lists o.lists l.groups) l.requests l.constraints o.outline) l.params (order_of o) before (order_of o) ≡ outcome (below parts) l o

-- Parts that were read from what a folder gave are as regeneration needs them.
abbrev pub ReadLaw : Type 0
ReadLaw = (s : ℕ) (gs : List (Group s)) (replies : List Reply) (parts : List (Part s)) → parts_of s gs replies ≡ Ok parts → All IsReadPart parts

-- What stands below regeneration is sound.
abbrev pub SoundLaw : Type 0
SoundLaw = (s : ℕ) → IsScale s → (parts : List (Part s)) → All IsReadPart parts → (bs : List Block) (l : Typed s) (o : Outlined s)
    → typed s bs ≡ Ok l → outlined parts l ≡ Ok o → IsSound (below parts) l o

-- Regeneration of a regenerated text gives that text and the same report.
abbrev pub RegenLaw : Type 0
RegenLaw = (s : ℕ) → IsScale s → (parts : List (Part s)) → All IsReadPart parts → (text : List ℕ) (r : Regenerated s)
    → regen (below parts) text ≡ Ok r → regen (below parts) r.text ≡ Ok r

-- The same of the blocks of a model, without reading again: every kept value stands in the new text.
abbrev pub ModelLaw : Type 0
ModelLaw = (s : ℕ) → IsScale s → (parts : List (Part s)) → All IsReadPart parts → (bs : List Block) (l : Typed s) (o : Outlined s)
    → IsText bs → typed s bs ≡ Ok l → outlined parts l ≡ Ok o → BlocksAgain (below parts) bs l o

-- What a session holds between its calls. What regeneration makes is its own regeneration; so is what is read again of it; and
-- regenerated it is itself, with the report. Each group stands where it is left, and its member is in the report. After an edit
-- its dirty set, regenerated over the report, is full regeneration of the edited text.
pub record SessionLaw : Type 0 where
  pub made : (s : ℕ) → IsScale s → (parts : List (Part s)) → All IsReadPart parts → (bs : List Block) (l : Typed s) (o : Outlined s)
      → IsText bs → typed s bs ≡ Ok l → outlined parts l ≡ Ok o
      → IsFixed (below parts) (new_blocks (below parts) l o bs) (new_lists (below parts) l o) o (outcome (below parts) l o).members
  pub read : (s : ℕ) (parts : List (Part s)) (bs : List Block) (l : Typed s) (o : Outlined s) (report : List (Listed s))
      → IsFixed (below parts) bs l o report → IsFixed (below parts) (numbered 1 bs) l o report
  pub again : (s : ℕ) (parts : List (Part s)) (bs : List Block) (l : Typed s) (o : Outlined s) (report : List (Listed s))
      → IsFixed (below parts) bs l o report → regen (below parts) (bytes_of bs) ≡ Ok (record { text = bytes_of bs; report = report })
  pub settled : (s : ℕ) (parts : List (Part s)) → All IsReadPart parts → (bs : List Block) (l : Typed s) (o : Outlined s) (report : List (Listed s))
      → IsFixed (below parts) bs l o report
      → Each (left_by (works_of (below parts) l o) l.params) (StandsAs (works_of (below parts) l o) l.params report) (order_of o) (at_references (works_of (below parts) l o))
  pub edited : (s : ℕ) (parts : List (Part s)) → All IsReadPart parts → (bs : List Block) (l : Typed s) (o : Outlined s) (report : List (Listed s)) (m : Typed s) (p : Outlined s) (own : Owners) (dirty : List GroupId)
      → IsFixed (below parts) bs l o report
      → order_of p ≡ order_of o → SameOutside own (works_of (below parts) l o) (works_of (below parts) m p) l.params m.params dirty
      → regenerated_over (works_of (below parts) m p) m.params dirty report (order_of p) ≡ outcome (below parts) m p
