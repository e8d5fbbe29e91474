-- How a run may end, and when each status comes.
use Rattle.std.specs.Prelude.{◌≡◌, ◌+◌, ◌⊎◌, ℕ, List, [], ◌∷◌, ◌++◌, length, Bool, Option, Some, None, ⊤, take, flat_map, codes, Result, Ok, Err, IfOk}
use Rattle.sk_files.specs.Files.{Files, KeepsOthers, WritesFile}
use Rattle.sk_files.specs.Outcome.{Rose}
use Rattle.sk_files.specs.Taken.{Takes, TakesPrefix}
use Rattle.sk_model.specs.Models.{Modelled}
use Rattle.sk_types.specs.declared.group.Group.{Group as ModelGroup}
use Rattle.sk_types.specs.declared.handle.GroupId.{GroupId}
use Rattle.sk_link.specs.declared.fault.PartFault.TheVariants.{PartRead}
use Rattle.sk_link.specs.Parts.{parts_of, names_of}
use Rattle.sk_link.specs.Replies.{Reply, IsReply, AreReplies}
use Rattle.sk_session.specs.Opening.{linked_groups, model_of}
use Rattle.sk_app.specs.declared.status.Status.{Status}
use Rattle.sk_app.specs.declared.status.Status.TheVariants.{Done, NotAll, Words, Model, Absent, Unread, Group}
use Rattle.sk_app.specs.declared.status.End.{End}
use Rattle.sk_app.specs.declared.status.End.TheVariants.{Full, WriteFailed, SinkFailed, NoMemory}
use Rattle.sk_app.specs.Command.{Asked, asked_of, model_name}
use Rattle.sk_app.specs.Fault.{Fault, fault_status}
use Rattle.sk_app.specs.FaultText.{fault_line}
use Rattle.sk_app.specs.Answer.{Answer, Given, Opened, Work, given, from_files, text_for, opened, present_of, IsSoundModel, steps_of, work_of, work_on, answer_on}

-- ---- statuses as numbers

abbrev pub status_code : Status → ℕ
status_code Done = 0
status_code NotAll = 10
status_code Words = 1
status_code Model = 2
status_code Absent = 3
status_code Unread = 4
status_code Group = 9

abbrev pub code_of : End → ℕ
code_of (Full status) = status_code status
code_of WriteFailed = 5
code_of SinkFailed = 6
code_of NoMemory = 7

-- ---- what the folder gave

-- for the model that a command reads
abbrev pub IsModelReply : Option Files → Type 0 → Option (List ℕ) → Reply → Type 0
IsModelReply told rose None reply = ⊤
IsModelReply told rose (Some name) reply = IsReply told name rose reply

-- for the parts of groups, in turn; a read is told to have failed only where it was counted
pub record ArePartsRead {s : ℕ} (told : Option Files) (rose : Type 0) (gs : List (ModelGroup s)) (replies : List Reply) : Type 0 where
  pub are : AreReplies told rose (names_of gs) replies
  pub unread : (g : GroupId) → parts_of s gs replies ≡ Err (PartRead g) → rose

-- Words that are no command read nothing. Parts are read where the model's own text has no fault.
pub record IsGiven (told : Option Files) (rose : Type 0) (asked : Asked) (g : Given) : Type 0 where
  pub model : IsModelReply told rose (model_name asked.command) g.model
  pub parts : (text : List ℕ) (m : Modelled asked.scale) → text_for (given g).file asked.command ≡ Ok text → model_of asked.scale text ≡ Ok m
      → ArePartsRead told rose (linked_groups m.lists.groups) g.parts

abbrev pub IsGivenFor : Option Files → Type 0 → Option Asked → Given → Type 0
IsGivenFor told rose None g = ⊤
IsGivenFor told rose (Some asked) g = IsGiven told rose asked g

-- ---- what a run leaves

-- the bytes of pieces, one after another
abbrev pub joined : List (List ℕ) → List ℕ
joined pieces = flat_map (λ (piece : List ℕ). piece) pieces

abbrev pub memory_line : List (List ℕ)
memory_line = fault_line (codes "memory") ∷ []

-- the line on a write that failed
abbrev pub failed_line : List ℕ → List (List ℕ)
failed_line name = fault_line (codes "write " ++ name) ∷ []

abbrev pub write_line : Option (List ℕ × List ℕ) → List (List ℕ)
write_line None = []
write_line (Some file) = failed_line file.0

-- the file is written, where there is one, and no other changes
abbrev pub AreWritten : Option Files → Option Files → Option (List ℕ × List ℕ) → Type 0
AreWritten before now None = now ≡ before
AreWritten before now (Some file) = WritesFile before now file.0 file.1

-- there is a file, which may hold anything, and no other changes
abbrev pub AreOthersKept : Option Files → Option Files → Option (List ℕ × List ℕ) → Type 0
AreOthersKept before now None = ⊥
AreOthersKept before now (Some file) = KeepsOthers before now file.0

-- all files stay; or the folder failed, at the write
abbrev pub AreKept : Option Files → Option Files → Type 0 → Option (List ℕ × List ℕ) → Type 0
AreKept before now rose file = (now ≡ before) ⊎ (rose × AreOthersKept before now file)

-- All pieces, perhaps with the line on a write that failed; or some whole ones, and then the line on want of memory.
abbrev pub IsReached : Answer → List (List ℕ) → Type 0
IsReached answer all =
    (all ≡ answer.pieces) ⊎ ((all ≡ answer.pieces ++ write_line answer.file) ⊎ ((n : ℕ) × (all ≡ take n answer.pieces ++ memory_line)))

-- A first part of what was reached was taken.
pub record IsCut (answer : Answer) (before now : Option (List ℕ)) : Type 0 where
  pub all : List (List ℕ)
  pub reached : IsReached answer all
  pub taken : TakesPrefix before now (joined all)

-- Some whole pieces were taken.
abbrev pub TakesWhole : Option (List ℕ) → Option (List ℕ) → List (List ℕ) → Type 0
TakesWhole before now pieces = (count : ℕ) × Takes before now (joined (take count pieces))

-- The line on want of memory was taken, or nothing.
abbrev pub TakesLine : Option (List ℕ) → Option (List ℕ) → Type 0
TakesLine before now = Takes before now [] ⊎ Takes before now (joined memory_line)

-- Some whole pieces were taken, then the line on want of memory, if its own put didn't want memory too.
pub record IsShort (pieces : List (List ℕ)) (before now : Option (List ℕ)) : Type 0 where
  pub count : ℕ
  pub taken : Takes before now (joined (take count pieces)) ⊎ Takes before now (joined (take count pieces ++ memory_line))

-- What a run changes: what the sink took, the files, the counter of steps, and the counts of faults of folder and sink.
pub record Run : Type 0 where
  pub taken_before : Option (List ℕ)
  pub taken : Option (List ℕ)
  pub files_before : Option Files
  pub files : Option Files
  pub steps_before : ℕ
  pub steps : ℕ
  pub folder_before : ℕ
  pub folder : ℕ
  pub sink_before : ℕ
  pub sink : ℕ

abbrev pub run_over : Option (List ℕ) → Option (List ℕ) → Option Files → Option Files → ℕ → ℕ → ℕ → ℕ → ℕ → ℕ → Run
run_over taken_before taken files_before files steps_before steps folder_before folder sink_before sink = record {
  taken_before = taken_before;
  taken = taken;
  files_before = files_before;
  files = files;
  steps_before = steps_before;
  steps = steps;
  folder_before = folder_before;
  folder = folder;
  sink_before = sink_before;
  sink = sink;
}

abbrev pub FolderRose : Run → Type 0
FolderRose r = Rose r.folder_before r.folder

abbrev pub SinkRose : Run → Type 0
SinkRose r = Rose r.sink_before r.sink

abbrev pub Ends : Answer → Run → End → Type 0
-- all pieces are taken, then the file is written
Ends answer r (Full status) = (status ≡ answer.status) × Takes r.taken_before r.taken (joined answer.pieces) × AreWritten r.files_before r.files answer.file
-- all pieces are taken, and the line on the write, where the folder's count rose
Ends answer r WriteFailed = FolderRose r × Takes r.taken_before r.taken (joined (answer.pieces ++ write_line answer.file)) × AreOthersKept r.files_before r.files answer.file
-- cut short by the sink, whose count rose
Ends answer r SinkFailed = SinkRose r × IsCut answer r.taken_before r.taken × AreKept r.files_before r.files (FolderRose r) answer.file
-- cut short by want of memory
Ends answer r NoMemory = IsShort answer.pieces r.taken_before r.taken × AreKept r.files_before r.files (FolderRose r) answer.file

-- the end of a run all of whose pieces are taken before
abbrev pub Finishes : Answer → Run → End → Type 0
Finishes answer r (Full status) = (status ≡ answer.status) × (r.taken ≡ r.taken_before) × AreWritten r.files_before r.files answer.file
Finishes answer r WriteFailed = FolderRose r × Takes r.taken_before r.taken (joined (write_line answer.file)) × AreOthersKept r.files_before r.files answer.file
Finishes answer r SinkFailed =
    SinkRose r × (TakesPrefix r.taken_before r.taken (joined (write_line answer.file)) ⊎ TakesPrefix r.taken_before r.taken (joined memory_line))
    × AreKept r.files_before r.files (FolderRose r) answer.file
Finishes answer r NoMemory = TakesLine r.taken_before r.taken × AreKept r.files_before r.files (FolderRose r) answer.file

-- a run that isn't cut short has regenerated all groups of the model, in one step each
abbrev pub TakesSteps : ℕ → Run → End → Type 0
TakesSteps count r (Full status) = r.steps ≡ r.steps_before + count
TakesSteps count r WriteFailed = r.steps ≡ r.steps_before + count
TakesSteps count r SinkFailed = ⊤
TakesSteps count r NoMemory = ⊤

-- and each box that a group got is sound
abbrev pub AreBoxesSound : Result Opened Fault → End → Type 0
AreBoxesSound o (Full status) = IfOk o (λ o. IsSoundModel o.accepted)
AreBoxesSound o WriteFailed = IfOk o (λ o. IsSoundModel o.accepted)
AreBoxesSound o SinkFailed = ⊤
AreBoxesSound o NoMemory = ⊤

-- The folder gave what it gave, and the run ended on the answer to it.
pub record IsAnswered (words : List (List ℕ)) (r : Run) (end : End) : Type 0 where
  pub from : Given
  pub is : IsGivenFor r.files_before (FolderRose r) (asked_of words) from
  pub ends : Ends (answer_on (opened (given from) words)) r end
  pub steps : TakesSteps (steps_of (opened (given from) words)) r end
  pub sound : AreBoxesSound (opened (given from) words) end

-- Memory was wanted before the first put: the line that tells it was taken, or a first part of it where the sink failed.
abbrev pub nothing : Answer
nothing = record { pieces = []; status = Done; file = None }

pub record IsWanting (r : Run) (end : End) : Type 0 where
  pub end_is : (end ≡ SinkFailed) ⊎ (end ≡ NoMemory)
  pub ends : Ends nothing r end

abbrev pub RunsTo : List (List ℕ) → Run → End → Type 0
RunsTo words r end = IsAnswered words r end ⊎ IsWanting r end

-- ---- when each status comes, over files that are told

abbrev pub opened_in : Files → List (List ℕ) → Result Opened Fault
opened_in files words = opened (from_files files) words

-- the first fault has the status
pub record Refuses (files : Files) (words : List (List ℕ)) (status : Status) : Type 0 where
  pub fault : Fault
  pub first : work_on (opened_in files words) ≡ Err fault
  pub same : fault_status fault ≡ status

-- All is done: the pieces are taken, the file is written, and the groups are regenerated. It tells whether all are certified.
pub record Does (files : Files) (words : List (List ℕ)) (all : Bool) (r : Run) : Type 0 where
  pub opened : Opened
  pub work : Work
  pub accepted : opened_in files words ≡ Ok opened
  pub done : work_of opened ≡ Ok work
  pub certified : work.all ≡ all
  pub taken : Takes r.taken_before r.taken (joined work.pieces)
  pub written : AreWritten (Some files) r.files work.file
  pub steps : r.steps ≡ r.steps_before + length (present_of opened.accepted).last

-- The status is the answer's, with all of its pieces taken and its file written; or memory was wanted.
abbrev pub Completes : Answer → Run → ℕ → Type 0
Completes answer r status =
    ((status ≡ status_code answer.status) × Takes r.taken_before r.taken (joined answer.pieces) × AreWritten r.files_before r.files answer.file) ⊎ (status ≡ 7)
