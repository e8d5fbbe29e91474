-- Commands, faults, summaries and answers on small inputs, by computation.
use Rattle.std.specs.Prelude.{◌≡◌, refl, ℕ, pos, negsuc, ◌*◌, ◌^◌, List, [], ◌∷◌, ◌++◌, map, Option, Some, None, codes}
use Rattle.std.specs.Fmt.{digits}
use Rattle.sk_num.specs.Numerals.{padded}
use Rattle.sk_num.specs.Spelling.{handle_of, whole_of}
use Rattle.sk_text.specs.Lines.{end_len}
use Rattle.sk_records.specs.declared.faults.ReadFault.TheVariants as text
use Rattle.sk_records.specs.Classes.{class_of, closed_kind, is_surface, value_kind}
use Rattle.sk_types.specs.Standings.{group_standing, request_standing}
use Rattle.sk_entity.specs.Requests.{request_entities}
use Rattle.sk_copy.specs.Copies.{copies}
use Rattle.sk_copy.specs.Order.{in_order}
use Rattle.sk_model.specs.declared.faults.ModelFault.TheVariants as model
use Rattle.sk_model.specs.declared.faults.Reason.TheVariants as reason
use Rattle.sk_model.specs.declared.faults.What.TheVariants as what
use Rattle.sk_model.specs.Fields.{flag_under, handle_under, quantity_under, text_under, whole_under}
use Rattle.sk_model.specs.Groups.{accepted_kind, group_keys, group_of}
use Rattle.sk_model.specs.Keys.{key_bytes}
use Rattle.sk_model.specs.Requests.{request_of}
use Rattle.sk_model.specs.Typed.{typed, whole_fault}
use Rattle.sk_chain.specs.Made.{made_by, names_fault}
use Rattle.sk_chain.specs.Outlines.{entities_fault, groups_fault, groups_made, outlined}
use Rattle.sk_krawczyk.specs.declared.certificate.Certificate.{Certificate}
use Rattle.sk_solve.specs.declared.result.Verdict.{Verdict}
use Rattle.sk_solve.specs.declared.result.Verdict.TheVariants.{Certified, Unsolved}
use Rattle.sk_solve.specs.declared.report.Listed.{Listed}
use Rattle.sk_regen.specs.Below.{below}
use Rattle.sk_report.specs.ReportText.{last_line}
use Rattle.sk_session.specs.Opening.{model_of, regenerated_all}
use Rattle.sk_app.specs.declared.status.Status.TheVariants.{Absent as AbsentFile, Done, Words}
use Rattle.sk_app.specs.Command.{Asked, Command, Draw, Make, Regen, Report, asked_of, count_of}
use Rattle.sk_app.specs.Fault.{Absent, BadModel, BadPart, BadPartNumber, BadText, BadWords, Fault, NoGroup, Unread}
use Rattle.sk_app.specs.FaultText.{fault_line, fault_text, model_fault_text, read_fault_text, reason_text, what_text}
use Rattle.sk_app.specs.Summary.{made_line}
use Rattle.sk_app.specs.Answer.{accepted, accepted_over, accepted_with, answer_on, from_files, opened, opened_for}

-- ---- words

abbrev m : List ℕ
m = codes "m.slvs"

abbrev o : List ℕ
o = codes "o.slvs"

abbrev plain : Command → Option Asked
plain command = Some (record { scale = 36; command = command })

pub commands :
    (asked_of (codes "report" ∷ m ∷ []) ≡ plain (Report m))
    × (asked_of (codes "regen" ∷ m ∷ o ∷ []) ≡ plain (Regen m o))
    × (asked_of (codes "dxf" ∷ m ∷ codes "80030001" ∷ o ∷ []) ≡ plain (Draw m 2147680257 o))
    × (asked_of (codes "make" ∷ codes "90" ∷ o ∷ []) ≡ plain (Make 90 o))
unfolding handle_of digits count_of
commands = (refl, refl, refl, refl)

-- `fine` is a word of its own before a command, once; elsewhere it is a name
pub fine-words :
    (asked_of (codes "fine" ∷ codes "report" ∷ codes "fine" ∷ []) ≡ Some (record { scale = 44; command = Report (codes "fine") }))
    × (asked_of (codes "fine" ∷ codes "fine" ∷ codes "report" ∷ m ∷ []) ≡ None)
    × (asked_of (codes "report" ∷ codes "fine" ∷ m ∷ []) ≡ None)
    × (asked_of (codes "fine" ∷ []) ≡ None)
fine-words = (refl, refl, refl, refl)

pub no-commands :
    (asked_of [] ≡ None)
    × (asked_of (codes "report" ∷ []) ≡ None)
    × (asked_of (codes "report" ∷ m ∷ o ∷ []) ≡ None)
    × (asked_of (codes "Report" ∷ m ∷ []) ≡ None)
    × (asked_of (codes "dxf" ∷ m ∷ codes "sketch" ∷ o ∷ []) ≡ None)
unfolding handle_of
no-commands = (refl, refl, refl, refl, refl)

-- from 1 to 90, without a leading zero
pub counts : map count_of (codes "0" ∷ codes "1" ∷ codes "01" ∷ codes "90" ∷ codes "91" ∷ codes "" ∷ []) ≡ None ∷ Some 1 ∷ None ∷ Some 90 ∷ None ∷ None ∷ []
unfolding digits count_of
counts = refl

-- ---- fault lines

abbrev told : Fault → List ℕ
told f = fault_line (fault_text f)

pub of-files :
    (told BadWords ≡ codes "fault words\n")
    × (told (Absent m) ≡ codes "fault absent m.slvs\n")
    × (told (Unread m) ≡ codes "fault read m.slvs\n")
    × (told (NoGroup 2147680257) ≡ codes "fault group 80030001\n")
unfolding padded fault_text
of-files = (refl, refl, refl, refl)

pub of-texts :
    (told (BadText text.TooLarge) ≡ codes "fault model too large\n")
    × (told (BadText text.BadHeader) ≡ codes "fault model bad header\n")
    × (told (BadText (text.BadLine 90)) ≡ codes "fault model bad line 90\n")
    × (told (BadText (text.OpenMap 11)) ≡ codes "fault model open map 11\n")
    × (told (BadText (text.OpenRecord 4)) ≡ codes "fault model open record 4\n")
    × (told (BadPart (codes "part.slvs") (text.BadLine 7)) ≡ codes "fault part part.slvs bad line 7\n")
    × (told (BadPartNumber (codes "part.slvs") 6) ≡ codes "fault part part.slvs number at 6\n")
unfolding digits read_fault_text fault_text
of-texts = (refl, refl, refl, refl, refl, refl, refl)

pub of-models :
    (told (BadModel (model.NumberAt 14)) ≡ codes "fault model number at 14\n")
    × (told (BadModel (model.DuplicateHandle 4)) ≡ codes "fault model duplicate 00000004\n")
    × (told (BadModel (model.UnknownKind 4 (negsuc 98))) ≡ codes "fault model unknown kind 00000004 -99\n")
    × (told (BadModel (model.LeftOut 4 reason.SpaceArc)) ≡ codes "fault model left out 00000004 space-arc\n")
    × (told (BadModel (model.NoSuch 1 393216)) ≡ codes "fault model no such 00000001 00060000\n")
    × (told (BadModel (model.Ahead 4 2147680256)) ≡ codes "fault model ahead 00000004 80030000\n")
    × (told (BadModel (model.BadValue 1)) ≡ codes "fault model bad value 00000001\n")
    × (told (BadModel (model.TooMany what.Unknowns)) ≡ codes "fault model too many unknowns\n")
unfolding digits padded reason_text what_text model_fault_text fault_text
of-models = (refl, refl, refl, refl, refl, refl, refl, refl)

-- ---- the line on a made model: of two groups one is certified, with three unknowns, of which two are solved

abbrev box : Certificate 36
box = record {
  radius_logs = negsuc 31 ∷ negsuc 31 ∷ [];
  bound = 4;
  spread = 16;
  centre = pos 0 ∷ pos 0 ∷ pos (5 * 2 ^ 36) ∷ [];
  held = 2 ∷ [];
  solved = 0 ∷ 1 ∷ [];
  retained = 0 ∷ 1 ∷ [];
  suspects = [];
  inverse = record { rows = 2; cols = 2; cells = [] };
}

abbrev listed : ℕ → Verdict → Option (Certificate 36) → Listed 36
listed group verdict certificate = record { group = record { 0 = group }; params = []; result = record { verdict = verdict; point = []; certificate = certificate } }

pub one-of-two : made_line 7 (listed 2 Certified (Some box) ∷ listed 3 Unsolved None ∷ []) ≡ codes "made 7 groups 2 certified 1 unknowns 3 retained 2 free 1\n"
unfolding digits made_line
one-of-two = refl

-- ---- whole answers, over a folder that holds one model

-- group 1 with its three workplanes
abbrev references : List ℕ
references =
    177 ∷ 178 ∷ 179 ∷ codes "SolveSpaceREVa\nGroup.h.v=1\nGroup.type=5000\nAddGroup\n"
    ++ (codes "Request.h.v=1\nRequest.type=100\nRequest.group.v=1\nAddRequest\n"
    ++ (codes "Request.h.v=2\nRequest.type=100\nRequest.group.v=1\nAddRequest\n"
    ++ codes "Request.h.v=3\nRequest.type=100\nRequest.group.v=1\nAddRequest\n"))

-- no group but the first is reported
pub no-groups : answer_on (opened (from_files ((m, references) ∷ [])) (codes "report" ∷ m ∷ [])) ≡ record { pieces = codes "certified 0 of 0\n" ∷ []; status = Done; file = None }
unfolding digits end_len class_of closed_kind value_kind is_surface handle_of whole_of key_bytes handle_under whole_under quantity_under flag_under text_under group_standing request_standing accepted_kind group_keys group_of request_of whole_fault typed in_order request_entities copies made_by names_fault entities_fault groups_fault groups_made outlined below model_of regenerated_all last_line accepted_with accepted_over accepted opened_for opened
no-groups = refl

pub no-model : answer_on (opened (from_files ((m, references) ∷ [])) (codes "report" ∷ o ∷ [])) ≡ record { pieces = codes "fault absent o.slvs\n" ∷ []; status = AbsentFile; file = None }
unfolding fault_text opened_for opened
no-model = refl

pub no-words : answer_on (opened (from_files []) (codes "report" ∷ [])) ≡ record { pieces = codes "fault words\n" ∷ []; status = Words; file = None }
unfolding fault_text opened
no-words = refl
