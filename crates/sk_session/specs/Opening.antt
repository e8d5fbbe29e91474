-- How a model is opened: its text is read and typed, the parts of its linked groups are read, its entities are outlined, and every
-- group is regenerated.
use Rattle.std.specs.Prelude.{ℕ, List, Bool, Result, Ok, Err}
use Rattle.std.specs.List.{filter, filter_map}
use Rattle.sk_types.specs.declared.entity.Numbers.{Numbers}
use Rattle.sk_types.specs.declared.entity.Outline.{Outline}
use Rattle.sk_types.specs.declared.group.Group.{Group}
use Rattle.sk_types.specs.declared.handle.GroupId.{GroupId}
use Rattle.sk_records.specs.declared.faults.ReadFault.{ReadFault}
use Rattle.sk_records.specs.declared.faults.ReadFault.TheVariants as text
use Rattle.sk_records.specs.Reading.{read_text}
use Rattle.sk_link.specs.declared.parts.Part.{Part}
use Rattle.sk_link.specs.Chain.{then_of, with_err}
use Rattle.sk_model.specs.declared.faults.ModelFault.{ModelFault}
use Rattle.sk_model.specs.declared.faults.ModelFault.TheVariants as model
use Rattle.sk_model.specs.Models.{Modelled}
use Rattle.sk_model.specs.Typed.{Typed, is_linked_kind, typed}
use Rattle.sk_chain.specs.Lookups.{group_at}
use Rattle.sk_chain.specs.Order.{group_order}
use Rattle.sk_chain.specs.Outlines.{Outlined, outlined}
use Rattle.sk_solve.specs.declared.report.Listed.{Listed}
use Rattle.sk_regen.specs.Below.{below}
use Rattle.sk_regen.specs.NewText.{order_of, outcome, new_blocks, new_lists}
use Rattle.sk_session.specs.declared.fault.TextFault.{TextFault}
use Rattle.sk_session.specs.declared.fault.TextFault.TheVariants.{Unread, Untyped, NoMemory}

-- ---- faults, of which want of memory is none

unfoldable pub of_text : ReadFault → TextFault
of_text text.NoMemory = NoMemory
of_text text.TooLarge = Unread text.TooLarge
of_text text.BadHeader = Unread text.BadHeader
of_text (text.BadLine n) = Unread (text.BadLine n)
of_text (text.OpenMap n) = Unread (text.OpenMap n)
of_text (text.OpenRecord n) = Unread (text.OpenRecord n)

unfoldable pub of_model : ModelFault → TextFault
of_model model.NoMemory = NoMemory
of_model (model.NumberAt n) = Untyped (model.NumberAt n)
of_model (model.DuplicateHandle h) = Untyped (model.DuplicateHandle h)
of_model (model.UnknownKind h n) = Untyped (model.UnknownKind h n)
of_model (model.LeftOut h r) = Untyped (model.LeftOut h r)
of_model (model.NoSuch h t) = Untyped (model.NoSuch h t)
of_model (model.Ahead h t) = Untyped (model.Ahead h t)
of_model (model.BadValue h) = Untyped (model.BadValue h)
of_model (model.TooMany w) = Untyped (model.TooMany w)

-- ---- from a text to a model and its parts

-- the blocks of a text with what they have as a typed model, or its first fault
unfoldable pub model_of : (s : ℕ) → List ℕ → Result (Modelled s) TextFault
model_of s text =
    then_of (with_err Unread (read_text text)) (λ bs.
    then_of (with_err Untyped (typed s bs)) (λ l.
    Ok (record { blocks = bs; lists = l })))

-- the typed lists that a call answers
abbrev pub lists_in : {s : ℕ} → Result (Modelled s) TextFault → Result (Typed s) TextFault
lists_in (Ok m) = Ok m.lists
lists_in (Err e) = Err e

abbrev pub is_linked : {s : ℕ} → Group s → Bool
is_linked g = is_linked_kind g.kind

-- in group order
abbrev pub linked_groups : {s : ℕ} → List (Group s) → List (Group s)
linked_groups gs = filter_map (λ (g : GroupId). group_at g.0 (filter is_linked gs)) (group_order gs)

-- ---- what a session holds

-- The linked parts; the blocks of the present text with what they have as a typed model; the outline and the numbers of its
-- entities; how the groups came out; and which ones were regenerated last.
pub record Present (s : ℕ) : Type 0 where
  pub parts : List (Part s)
  pub model : Modelled s
  pub outline : Outline s
  pub numbers : Numbers s
  pub report : List (Listed s)
  pub last : List GroupId

-- what full regeneration of a model leaves, over its parts and its outline
unfoldable pub regenerated_all : {s : ℕ} → List (Part s) → Modelled s → Outlined s → Present s
regenerated_all parts m o = record {
  parts = parts;
  model = record { blocks = new_blocks (below parts) m.lists o m.blocks; lists = new_lists (below parts) m.lists o };
  outline = o.outline;
  numbers = (outcome (below parts) m.lists o).numbers;
  report = (outcome (below parts) m.lists o).members;
  last = order_of o;
}

unfoldable pub opened_over : {s : ℕ} → List (Part s) → Modelled s → Result (Present s) ModelFault
opened_over parts m = then_of (outlined parts m.lists) (λ o. Ok (regenerated_all parts m o))
