-- What is lent or held by the code, as the definitions see it.
use Rattle.std.specs.Prelude.{◌≡◌, ◌≢◌, ℕ, List, map, length, ⊤, Bool, true, false, Option, Some, None, Result, Ok, Err}
use Rattle.std.specs.Borrow.{Bor}
use Rattle.std.specs.Option.{option_map}
use Rattle.std.specs.declared.vec.Vec.{Vec}
use Rattle.sk_types.specs.declared.group.Group.{Group}
use Rattle.sk_krawczyk.specs.declared.certificate.Certificate.{Certificate}
use Rattle.sk_link.specs.declared.fault.PartFault.{PartFault}
use Rattle.sk_link.specs.declared.fault.PartFault.TheVariants as part
use Rattle.sk_app.specs.declared.command.Asked.{Asked as LentAsked}
use Rattle.sk_app.specs.declared.command.Command.{Command as LentCommand}
use Rattle.sk_app.specs.declared.command.Command.TheVariants as lent
use Rattle.sk_app.specs.declared.fault.Fault.{Fault as LentFault}
use Rattle.sk_app.specs.declared.fault.Fault.TheVariants as fault
use Rattle.sk_app.specs.declared.fault.Stop.{Stop}
use Rattle.sk_app.specs.declared.fault.Stop.TheVariants.{Refused, NoMemory}
use Rattle.sk_app.specs.declared.prepared.OutFile.{OutFile}
use Rattle.sk_app.specs.declared.prepared.Prepared.{Prepared}
use Rattle.sk_app.specs.declared.summary.Size.{Size}
use Rattle.sk_app.specs.declared.summary.Size.TheVariants.{Unknowns, Retained, Held}
use Rattle.sk_app.specs.Command.{Command, Report, Regen, Draw, Make, Asked}
use Rattle.sk_app.specs.Fault.{Fault, BadWords, BadText, BadModel, BadPart, BadPartNumber, Absent, Unread, NoGroup, part_fault}
use Rattle.sk_app.specs.Answer.{Answer, answered}

-- ---- words and commands

abbrev pub words_of : List (Bor (List ℕ)) → List (List ℕ)
words_of words = map (λ (t : Bor (List ℕ)). t.now) words

abbrev pub command : LentCommand → Command
command (lent.Report model) = Report model.now
command (lent.Regen model out) = Regen model.now out.now
command (lent.Draw model group out) = Draw model.now group.0 out.now
command (lent.Make lines out) = Make lines out.now

abbrev pub scale_of : Bool → ℕ
scale_of true = 44
scale_of false = 36

abbrev pub asked : LentAsked → Asked
asked a = record { scale = scale_of a.fine; command = command a.command }

-- ---- faults

abbrev pub fault_of : LentFault → Fault
fault_of fault.Words = BadWords
fault_of (fault.Text f) = BadText f
fault_of (fault.Model f) = BadModel f
fault_of (fault.Part name f) = BadPart name.now f
fault_of (fault.PartNumber name n) = BadPartNumber name.now n
fault_of (fault.Absent name) = Absent name.now
fault_of (fault.Unread name) = Unread name.now
fault_of (fault.Group h) = NoGroup h

-- The answer is the given one, unless memory was wanted.
abbrev pub IsAnswer : {A : Type 0} → Result A Stop → Result A Fault → Type 0
IsAnswer (Ok x) answer = answer ≡ Ok x
IsAnswer (Err (Refused f)) answer = answer ≡ Err (fault_of f)
IsAnswer (Err NoMemory) answer = ⊤

-- a fault of a part, or want of memory
abbrev pub IsPartStop : {s : ℕ} → List (Group s) → PartFault → Stop → Type 0
IsPartStop gs e (Refused f) = (fault_of f ≡ part_fault gs e) × (e ≢ part.NoMemory)
IsPartStop gs e NoMemory = e ≡ part.NoMemory

-- what is put for a stop that isn't want of memory
abbrev pub IsStop : Stop → Answer → Type 0
IsStop (Refused f) answer = answer ≡ answered (Err (fault_of f))
IsStop NoMemory answer = ⊥

-- the vector's items in the place of the vector
abbrev pub items_in : {T A E : Type 0} → Result (Vec T A) E → Result (List T) E
items_in (Ok v) = Ok v.items
items_in (Err e) = Err e

abbrev pub drawn_in : {T A : Type 0} → Option (Vec T A) → Option (List T)
drawn_in None = None
drawn_in (Some v) = Some v.items

-- ---- what is prepared

abbrev pub texts : {A : Type 0} → List (Vec ℕ A) → List (List ℕ)
texts {A} pieces = map (λ (v : Vec ℕ A). v.items) pieces

abbrev pub file_in : OutFile → List ℕ × List ℕ
file_in f = (f.name.now, f.bytes.items)

abbrev pub shown : Prepared → Answer
shown p = record { pieces = texts p.pieces.items; status = p.status; file = option_map file_in p.file }

-- a size of a certificate
abbrev pub size_in : {s : ℕ} → Size → Certificate s → ℕ
size_in Unknowns k = length k.centre
size_in Retained k = length k.retained
size_in Held k = length k.held
