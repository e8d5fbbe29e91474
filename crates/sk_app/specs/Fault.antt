-- Why a command isn't carried out: the first fault of its words, of the model, or of a linked part.
use Rattle.std.specs.Prelude.{ℕ, List, [], Option, Some, None}
use Rattle.sk_types.specs.declared.group.Group.{Group}
use Rattle.sk_types.specs.declared.handle.GroupId.{GroupId}
use Rattle.sk_records.specs.declared.faults.ReadFault.{ReadFault}
use Rattle.sk_records.specs.declared.faults.ReadFault.TheVariants as text
use Rattle.sk_link.specs.declared.fault.PartFault.{PartFault}
use Rattle.sk_link.specs.declared.fault.PartFault.TheVariants.{PartAbsent, PartRead, PartText, PartNumber, NoMemory}
use Rattle.sk_model.specs.declared.faults.ModelFault.{ModelFault}
use Rattle.sk_chain.specs.Lookups.{group_at}
use Rattle.sk_session.specs.declared.fault.TextFault.{TextFault}
use Rattle.sk_session.specs.declared.fault.TextFault.TheVariants as model
use Rattle.sk_app.specs.declared.status.Status.{Status}
use Rattle.sk_app.specs.declared.status.Status.TheVariants as status

-- names are those of files
pub data Fault : Type 0 where
  BadWords : Fault
  BadText : ReadFault → Fault
  BadModel : ModelFault → Fault
  BadPart : List ℕ → ReadFault → Fault
  BadPartNumber : List ℕ → ℕ → Fault
  Absent : List ℕ → Fault
  Unread : List ℕ → Fault
  NoGroup : ℕ → Fault

abbrev pub fault_status : Fault → Status
fault_status BadWords = status.Words
fault_status (BadText f) = status.Model
fault_status (BadModel f) = status.Model
fault_status (BadPart name f) = status.Model
fault_status (BadPartNumber name n) = status.Model
fault_status (Absent name) = status.Absent
fault_status (Unread name) = status.Unread
fault_status (NoGroup h) = status.Group

-- the name of a group's part
abbrev pub name_in : {s : ℕ} → Option (Group s) → List ℕ
name_in None = []
name_in (Some g) = g.part

abbrev pub part_name : {s : ℕ} → List (Group s) → GroupId → List ℕ
part_name gs g = name_in (group_at g.0 gs)

-- a fault of a group's part is told by the part's name; want of memory is no fault of a part
unfoldable pub part_fault : {s : ℕ} → List (Group s) → PartFault → Fault
part_fault gs (PartAbsent g) = Absent (part_name gs g)
part_fault gs (PartRead g) = Unread (part_name gs g)
part_fault gs (PartText g f) = BadPart (part_name gs g) f
part_fault gs (PartNumber g n) = BadPartNumber (part_name gs g) n
part_fault gs NoMemory = BadText text.NoMemory

-- a fault of the model's own text; nor is want of memory one of these
unfoldable pub model_fault : TextFault → Fault
model_fault (model.Unread f) = BadText f
model_fault (model.Untyped f) = BadModel f
model_fault model.NoMemory = BadText text.NoMemory
