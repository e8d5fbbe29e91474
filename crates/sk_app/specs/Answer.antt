-- What the program answers, for its words and for what it reads.
use Rattle.std.specs.Prelude.{ℕ, List, [], ◌∷◌, ◌++◌, map, length, Option, Some, None, Result, Ok, Err, Bool, true, false}
use Rattle.std.specs.List.{list_all}
use Rattle.std.specs.Option.{ok_or}
use Rattle.sk_types.specs.declared.group.Group.{Group}
use Rattle.sk_files.specs.Files.{Files, held}
use Rattle.sk_records.specs.Written.{bytes_of}
use Rattle.sk_model.specs.Models.{Modelled}
use Rattle.sk_link.specs.declared.fault.PartFault.{PartFault}
use Rattle.sk_link.specs.declared.parts.Part.{Part}
use Rattle.sk_link.specs.Chain.{then_of, with_err}
use Rattle.sk_link.specs.Parts.{parts_of, parts_in}
use Rattle.sk_link.specs.Replies.{Reply, Broke, NoFile, Gave, found}
use Rattle.sk_chain.specs.Outlines.{Outlined, outlined}
use Rattle.sk_solve.specs.declared.report.Listed.{Listed}
use Rattle.sk_gen.specs.MadeModel.{made}
use Rattle.sk_dxf.specs.Drawing.{drawing}
use Rattle.sk_report.specs.ReportText.{is_certified, group_text, last_line}
use Rattle.sk_session.specs.Opening.{Present, linked_groups, model_of, regenerated_all}
use Rattle.sk_session.specs.Standing.{AreSound}
use Rattle.sk_app.specs.declared.status.Status.{Status}
use Rattle.sk_app.specs.declared.status.Status.TheVariants.{Done, NotAll}
use Rattle.sk_app.specs.Command.{Command, Report, Regen, Draw, Make, Asked, asked_of}
use Rattle.sk_app.specs.Fault.{Fault, BadWords, BadModel, Absent, Unread, NoGroup, fault_status, part_fault, model_fault}
use Rattle.sk_app.specs.FaultText.{fault_line, fault_text}
use Rattle.sk_app.specs.Summary.{made_line}

-- ---- what is read

-- What a command reads of the folder: the file with a name, and the parts of linked groups.
pub record Reads : Type 0 where
  pub file : List ℕ → Reply
  pub parts : (s : ℕ) → List (Group s) → Result (List (Part s)) PartFault

-- what the folder gave: for the model's name, and for the name of each linked part in turn
pub record Given : Type 0 where
  pub model : Reply
  pub parts : List Reply

abbrev pub given : Given → Reads
given g = record { file = λ name. g.model; parts = λ s gs. parts_of s gs g.parts }

-- what files give where the folder doesn't fail
abbrev pub from_files : Files → Reads
from_files files = record { file = λ name. found (held files name); parts = λ s gs. parts_in s files gs }

abbrev pub file_of : List ℕ → Reply → Result (List ℕ) Fault
file_of name Broke = Err (Unread name)
file_of name NoFile = Err (Absent name)
file_of name (Gave bytes) = Ok bytes

-- The text of a model is read, or made; a count of lines that makes none is no command.
abbrev pub text_for : (List ℕ → Reply) → Command → Result (List ℕ) Fault
text_for file (Report model) = file_of model (file model)
text_for file (Regen model out) = file_of model (file model)
text_for file (Draw model group out) = file_of model (file model)
text_for file (Make n out) = with_err (λ e. BadWords) (made n)

-- ---- a model that is accepted

-- its blocks with what they have as a typed model, the linked parts, and the outline of its entities
pub record Accepted (s : ℕ) : Type 0 where
  pub model : Modelled s
  pub parts : List (Part s)
  pub outlined : Outlined s

-- over its parts
unfoldable pub accepted_with : {s : ℕ} → Modelled s → List (Part s) → Result (Accepted s) Fault
accepted_with m parts =
    then_of (with_err BadModel (outlined parts m.lists)) (λ o.
    Ok (record { model = m; parts = parts; outlined = o }))

-- where the parts of groups are read so
unfoldable pub accepted_over : {s : ℕ} → (List (Group s) → Result (List (Part s)) PartFault) → Modelled s → Result (Accepted s) Fault
accepted_over parts m = then_of (with_err (part_fault m.lists.groups) (parts (linked_groups m.lists.groups))) (accepted_with m)

-- the model of a text, or the first fault
unfoldable pub accepted : (s : ℕ) → (List (Group s) → Result (List (Part s)) PartFault) → List ℕ → Result (Accepted s) Fault
accepted s parts text = then_of (with_err model_fault (model_of s text)) (accepted_over parts)

-- every group of it is regenerated, in one step each
abbrev pub present_of : {s : ℕ} → Accepted s → Present s
present_of a = regenerated_all a.parts a.model a.outlined

-- what a command is carried out on
pub record Opened : Type 0 where
  pub asked : Asked
  pub accepted : Accepted asked.scale

abbrev pub commanded : List (List ℕ) → Result Asked Fault
commanded words = ok_or (asked_of words) BadWords

abbrev pub opened_at : Asked → List ℕ → Reads → Result Opened Fault
opened_at asked text r = then_of (accepted asked.scale (r.parts asked.scale) text) (λ a. Ok (record { asked = asked; accepted = a }))

unfoldable pub opened_for : Reads → Asked → Result Opened Fault
opened_for r asked = then_of (text_for r.file asked.command) (λ text. opened_at asked text r)

unfoldable pub opened : Reads → List (List ℕ) → Result Opened Fault
opened r words = then_of (commanded words) (opened_for r)

-- each box that a group of it gets is sound
abbrev pub IsSoundModel : {s : ℕ} → Accepted s → Type 0
IsSoundModel a = AreSound a.parts a.model.lists a.outlined

abbrev pub steps_of : Result Opened Fault → ℕ
steps_of (Ok o) = length (present_of o.accepted).last
steps_of (Err f) = 0

-- ---- what is done

-- the pieces in order; whether each listed group is certified; the file that is written behind them, by its name
pub record Work : Type 0 where
  pub pieces : List (List ℕ)
  pub all : Bool
  pub file : Option (List ℕ × List ℕ)

-- a block for each group, then how many of them are certified
abbrev pub report_pieces : {s : ℕ} → List (Listed s) → List (List ℕ)
report_pieces ls = map group_text ls ++ last_line (record { groups = ls }) ∷ []

abbrev pub are_certified : {s : ℕ} → List (Listed s) → Bool
are_certified ls = list_all (λ l. is_certified l.result.verdict) ls

abbrev pub reported : {s : ℕ} → Present s → Option (List ℕ × List ℕ) → Work
reported p file = record { pieces = report_pieces p.report; all = are_certified p.report; file = file }

abbrev pub drawn : {s : ℕ} → Present s → List ℕ → ℕ → Option (List ℕ) → Result Work Fault
drawn p out group None = Err (NoGroup group)
drawn p out group (Some text) = Ok (reported p (Some (out, text)))

abbrev pub work_for : {s : ℕ} → Command → Present s → Result Work Fault
work_for (Report model) p = Ok (reported p None)
work_for (Regen model out) p = Ok (reported p (Some (out, bytes_of p.model.blocks)))
work_for (Draw model group out) p = drawn p out group (drawing p.model.lists.groups p.outline.entities p.numbers.acts (record { 0 = group }))
work_for (Make n out) p = Ok (record { pieces = made_line n p.report ∷ []; all = are_certified p.report; file = Some (out, bytes_of p.model.blocks) })

abbrev pub work_of : Opened → Result Work Fault
work_of o = work_for o.asked.command (present_of o.accepted)

-- ---- the answer

-- the pieces in order; the status; the file that is written then
pub record Answer : Type 0 where
  pub pieces : List (List ℕ)
  pub status : Status
  pub file : Option (List ℕ × List ℕ)

abbrev pub done_status : Bool → Status
done_status true = Done
done_status false = NotAll

abbrev pub answered : Result Work Fault → Answer
answered (Ok w) = record { pieces = w.pieces; status = done_status w.all; file = w.file }
answered (Err f) = record { pieces = fault_line (fault_text f) ∷ []; status = fault_status f; file = None }

-- what is done, or the first fault
abbrev pub work_on : Result Opened Fault → Result Work Fault
work_on o = then_of o work_of

abbrev pub answer_on : Result Opened Fault → Answer
answer_on o = answered (work_on o)
