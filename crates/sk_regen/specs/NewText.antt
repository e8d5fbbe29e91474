-- Regeneration of a text: the new text and the report (SolveSpace's file format).
use Rattle.std.specs.Prelude.{ℕ, ◌==◌, List, Bool, not, Result, Ok, Err}
use Rattle.std.specs.List.{filter}
use Rattle.sk_text.specs.Lines.{lines_in}
use Rattle.sk_types.specs.declared.handle.GroupId.{GroupId}
use Rattle.sk_types.specs.declared.group.Group.{Group}
use Rattle.sk_types.specs.declared.request.Request.{Request}
use Rattle.sk_types.specs.declared.constraint.Constraint.{Constraint}
use Rattle.sk_types.specs.declared.entity.Outline.{Outline}
use Rattle.sk_types.specs.declared.entity.Numbers.{Numbers}
use Rattle.sk_records.specs.declared.faults.ReadFault.{ReadFault}
use Rattle.sk_records.specs.declared.kinds.Kind.TheVariants as kind
use Rattle.sk_records.specs.Blocks.{Block, made_anew}
use Rattle.sk_records.specs.Reading.{read_lines}
use Rattle.sk_records.specs.Written.{bytes_of}
use Rattle.sk_model.specs.declared.faults.ModelFault.{ModelFault}
use Rattle.sk_chain.specs.Outlines.{Outlined}
use Rattle.sk_model.specs.Chain.{then_of}
use Rattle.sk_model.specs.Changes.{with_lists, lists_set, with_params, params_set}
use Rattle.sk_model.specs.EntityRecords.{entity_records}
use Rattle.sk_model.specs.Typed.{Typed, typed}
use Rattle.sk_solve.specs.declared.report.Listed.{Listed}
use Rattle.sk_regen.specs.Works.{Works}
use Rattle.sk_regen.specs.Regeneration.{State, regenerated}

-- What stands below: the outline over some parts, and each group's works. Neither looks at a stored parameter.
pub record Below (s : ℕ) : Type 0 where
  pub outline_of : List (Group s) → List Request → List (Constraint s) → Result (Outlined s) ModelFault
  pub works : List (Group s) → List Request → List (Constraint s) → Outline s → Works s

-- all groups but group 1, in group order
abbrev pub is_reported : GroupId → Bool
is_reported g = not (g.0 == 1)

abbrev pub reported : {s : ℕ} → Outline s → List GroupId
reported o = filter is_reported o.order

abbrev pub order_of : {s : ℕ} → Outlined s → List GroupId
order_of o = reported o.outline

-- the groups have their extended lists when they are regenerated
abbrev pub works_of : {s : ℕ} → Below s → Typed s → Outlined s → Works s
works_of b l o = b.works (with_lists o.lists l.groups) l.requests l.constraints o.outline

abbrev pub outcome : {s : ℕ} → Below s → Typed s → Outlined s → State s
outcome b l o = regenerated (works_of b l o) l.params (order_of o)

-- ---- the new text

-- remap lists, then parameters, then entity records
abbrev pub text_with : {s : ℕ} → Numbers s → Typed s → Outline s → List Block → List Block
text_with n m o bs = made_anew kind.Entity (entity_records n.acts o.entities) (params_set n.params m.params bs)

abbrev pub blocks_with : {s : ℕ} → Numbers s → Typed s → Outlined s → List Block → List Block
blocks_with n l o bs = text_with n l o.outline (lists_set o.lists l.groups bs)

abbrev pub lists_with : {s : ℕ} → Numbers s → Typed s → Outlined s → Typed s
lists_with n l o = record l { groups = with_lists o.lists l.groups; params = with_params n.params l.params }

abbrev pub new_blocks : {s : ℕ} → Below s → Typed s → Outlined s → List Block → List Block
new_blocks b l o bs = blocks_with (outcome b l o).numbers l o bs

abbrev pub new_lists : {s : ℕ} → Below s → Typed s → Outlined s → Typed s
new_lists b l o = lists_with (outcome b l o).numbers l o

-- ---- regeneration

pub record Regenerated (s : ℕ) : Type 0 where
  pub text : List ℕ
  pub report : List (Listed s)

abbrev pub regen_blocks : {s : ℕ} → Below s → List Block → Result (Regenerated s) ModelFault
regen_blocks {s} b bs =
    then_of (typed s bs) (λ l.
    then_of (b.outline_of l.groups l.requests l.constraints) (λ o.
    Ok (record { text = bytes_of (new_blocks b l o bs); report = (outcome b l o).members })))

pub data Refused : Type 0 where
  Unread : ReadFault → Refused
  Untyped : ModelFault → Refused

abbrev pub of_typed : {s : ℕ} → Result (Regenerated s) ModelFault → Result (Regenerated s) Refused
of_typed (Ok r) = Ok r
of_typed (Err e) = Err (Untyped e)

abbrev pub of_read : {s : ℕ} → (List Block → Result (Regenerated s) ModelFault) → Result (List Block) ReadFault → Result (Regenerated s) Refused
of_read f (Ok bs) = of_typed (f bs)
of_read f (Err e) = Err (Unread e)

-- the text and the report of a text, whatever its size; or why it isn't accepted
abbrev pub regen : {s : ℕ} → Below s → List ℕ → Result (Regenerated s) Refused
regen b text = of_read (regen_blocks b) (read_lines (lines_in text))
