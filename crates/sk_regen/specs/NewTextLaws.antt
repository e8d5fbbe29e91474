-- What holds of a regenerated text.
use Rattle.std.specs.Prelude.{◌≡◌, ℕ, nat_eq, List, [], ◌∷◌, true, false, Ok, map, flat_map}
use Rattle.std.specs.List.{All, IsDistinct}
use Rattle.sk_text.specs.Lines.{lines_in}
use Rattle.sk_num.specs.Limit.{IsInLimit}
use Rattle.sk_num.specs.Scale.{IsScale}
use Rattle.sk_types.specs.declared.handle.GroupId.{GroupId}
use Rattle.sk_types.specs.declared.handle.ParamId.{ParamId}
use Rattle.sk_types.specs.declared.entity.Entity.{Entity}
use Rattle.sk_types.specs.declared.entity.Numbers.{Numbers}
use Rattle.sk_types.specs.Lookups.{param_handle, value_handle}
use Rattle.sk_records.specs.declared.kinds.Kind.TheVariants as kind
use Rattle.sk_records.specs.Blocks.{Block, has, made_anew}
use Rattle.sk_records.specs.Laws.{IsGiven}
use Rattle.sk_records.specs.Reading.{read_lines}
use Rattle.sk_records.specs.Written.{IsText, bytes_of, numbered}
use Rattle.sk_model.specs.declared.remap.GroupList.{GroupList}
use Rattle.sk_model.specs.Changes.{grew, with_lists, list_handle}
use Rattle.sk_model.specs.Chain.{seen_in}
use Rattle.sk_model.specs.EntityRecords.{entity_records}
use Rattle.sk_model.specs.Settable.{IsSettable, IsGroupList, HasSources}
use Rattle.sk_model.specs.Typed.{Typed, typed}
use Rattle.sk_chain.specs.Outlines.{Outlined}
use Rattle.sk_solve.specs.declared.report.Listed.{Listed}
use Rattle.sk_regen.specs.Works.{Works}
use Rattle.sk_regen.specs.Regeneration.{is_listed, left_by, at_references, regenerated_over}
use Rattle.sk_regen.specs.FoldLaws.{AllStored, Each, StandsAs, Owners, SameOutside}
use Rattle.sk_regen.specs.NewText.{Below, order_of, works_of, outcome, new_blocks, new_lists, Regenerated, regen}

-- ---- what regeneration asks of the crates below

-- each list may be set, once
pub record AreLists {s : ℕ} (l : Typed s) (o : Outlined s) : Type 0 where
  pub each : All (IsGroupList l.groups) o.lists
  pub sources : All (λ (x : GroupList). HasSources x.entries) o.lists
  pub differ : IsDistinct nat_eq (map list_handle o.lists)

-- The parameters of the groups stand among those before any is regenerated, which may be set; no two groups have one in common.
pub record OwnsParams {s : ℕ} (w : Works s) (order : List GroupId) : Type 0 where
  pub settable : All IsSettable w.first.params
  pub differ : IsDistinct nat_eq (map value_handle w.first.params)
  pub among : All (λ (g : GroupId). All (λ (p : ParamId). seen_in p.0 (map value_handle w.first.params) ≡ true) (w.own g)) order
  pub apart : IsDistinct nat_eq (map param_handle (flat_map w.own order))

-- parameters start within the limit
abbrev pub StartsInLimit : {s : ℕ} → Works s → Type 0
StartsInLimit {s} w = (n : Numbers s) (g : GroupId) (p : ParamId) → IsInLimit (w.start n g p)

pub record HasEntity {s : ℕ} (es : List (Entity s)) : Type 0 where
  pub first : Entity s
  pub others : List (Entity s)
  pub is : es ≡ first ∷ others

pub record IsSound {s : ℕ} (b : Below s) (l : Typed s) (o : Outlined s) : Type 0 where
  -- lists that were extended aren't extended again: the same entities, the same lists
  pub again : b.outline_of (with_lists o.lists l.groups) l.requests l.constraints ≡ Ok o
  pub lists : AreLists l o
  pub params : OwnsParams (works_of b l o) (order_of o)
  pub starts : StartsInLimit (works_of b l o)
  pub some : HasEntity o.outline.entities
  pub given : IsGiven kind.Entity (entity_records (outcome b l o).numbers.acts o.outline.entities)

-- ---- once more

-- Regeneration of the regenerated text gives that text and the same report.
abbrev pub RegenAgainLaw : Type 0
RegenAgainLaw = (s : ℕ) → IsScale s → (b : Below s) (text : List ℕ) (bs : List Block) (l : Typed s) (o : Outlined s)
    → read_lines (lines_in text) ≡ Ok bs → typed s bs ≡ Ok l → b.outline_of l.groups l.requests l.constraints ≡ Ok o → IsSound b l o
    → (r : Regenerated s) → regen b text ≡ Ok r → regen b r.text ≡ Ok r

-- The same without reading again: the regenerated text is typed as the model with its lists, and regenerated again it is the same
-- blocks, and the same numbers and report. Every kept value stands in it.
pub record BlocksAgain {s : ℕ} (b : Below s) (bs : List Block) (l : Typed s) (o : Outlined s) : Type 0 where
  pub is_text : IsText (new_blocks b l o bs)
  pub typed : typed s (new_blocks b l o bs) ≡ Ok (new_lists b l o)
  pub outline : b.outline_of (new_lists b l o).groups (new_lists b l o).requests (new_lists b l o).constraints ≡ Ok o
  pub blocks : new_blocks b (new_lists b l o) o (new_blocks b l o bs) ≡ new_blocks b l o bs
  pub lists : new_lists b (new_lists b l o) o ≡ new_lists b l o
  pub outcome : outcome b (new_lists b l o) o ≡ outcome b l o
  pub stored : Each (left_by (works_of b l o) l.params) (λ n g x. AllStored (new_lists b l o).params x.params) (order_of o) (at_references (works_of b l o))

abbrev pub BlocksAgainLaw : Type 0
BlocksAgainLaw = (s : ℕ) → IsScale s → (b : Below s) (bs : List Block) (l : Typed s) (o : Outlined s)
    → IsText bs → typed s bs ≡ Ok l → b.outline_of l.groups l.requests l.constraints ≡ Ok o → IsSound b l o → BlocksAgain b bs l o

-- ---- what a session holds between its calls

-- A text that is its own regeneration, with its report: no list grows, every value is stored as it is kept, and its entity records
-- made anew are the same bytes. (Not the same blocks: lines that were read have numbers, those that are made anew have none.)
pub record IsFixed {s : ℕ} (b : Below s) (bs : List Block) (l : Typed s) (o : Outlined s) (report : List (Listed s)) : Type 0 where
  pub is_text : IsText bs
  pub typed : typed s bs ≡ Ok l
  pub outline : b.outline_of l.groups l.requests l.constraints ≡ Ok o
  pub lists : All (λ (x : GroupList). grew x l.groups ≡ false) o.lists
  pub own : OwnsParams (works_of b l o) (order_of o)
  pub params : AllStored l.params (outcome b l o).numbers.params
  pub some : has kind.Entity bs ≡ true
  pub entities : bytes_of (made_anew kind.Entity (entity_records (outcome b l o).numbers.acts o.outline.entities) bs) ≡ bytes_of bs
  pub members : report ≡ (outcome b l o).members

-- What regeneration makes is one; one that is read again is one; and its regeneration is itself and the report.
pub record FixedLaw : Type 0 where
  pub made : (s : ℕ) → IsScale s → (b : Below s) (bs : List Block) (l : Typed s) (o : Outlined s) → IsText bs → typed s bs ≡ Ok l → b.outline_of l.groups l.requests l.constraints ≡ Ok o → IsSound b l o
      → IsFixed b (new_blocks b l o bs) (new_lists b l o) o (outcome b l o).members
  pub read : (s : ℕ) (b : Below s) (bs : List Block) (l : Typed s) (o : Outlined s) (report : List (Listed s)) → IsFixed b bs l o report → IsFixed b (numbered 1 bs) l o report
  pub again : (s : ℕ) (b : Below s) (bs : List Block) (l : Typed s) (o : Outlined s) (report : List (Listed s)) → IsFixed b bs l o report → regen b (bytes_of bs) ≡ Ok (record { text = bytes_of bs; report = report })

-- no group twice
abbrev pub AllDiffer : List GroupId → Type 0
AllDiffer [] = Unit {0}
AllDiffer (g ∷ gs) = (is_listed gs g ≡ false) × AllDiffer gs

-- In such a text each group stands where it is left, and its member is in the report.
abbrev pub SettledLaw : Type 0
SettledLaw = (s : ℕ) (b : Below s) (bs : List Block) (l : Typed s) (o : Outlined s) (report : List (Listed s))
    → IsFixed b bs l o report → AllDiffer (order_of o)
    → Each (left_by (works_of b l o) l.params) (StandsAs (works_of b l o) l.params report) (order_of o) (at_references (works_of b l o))

-- An edit of such a text, its dirty set regenerated over the report: that is full regeneration of the edited text.
abbrev pub EditedLaw : Type 0
EditedLaw = (s : ℕ) (b : Below s) (bs : List Block) (l : Typed s) (o : Outlined s) (report : List (Listed s)) (m : Typed s) (p : Outlined s) (own : Owners) (dirty : List GroupId)
    → IsFixed b bs l o report → AllDiffer (order_of o)
    → order_of p ≡ order_of o → SameOutside own (works_of b l o) (works_of b m p) l.params m.params dirty
    → regenerated_over (works_of b m p) m.params dirty report (order_of p) ≡ outcome b m p
