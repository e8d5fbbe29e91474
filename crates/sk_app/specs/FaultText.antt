-- Why a command isn't carried out, in words.
use Rattle.std.specs.Prelude.{ℕ, List, [], ◌++◌, codes}
use Rattle.std.specs.Fmt.{decimal, signed_decimal}
use Rattle.sk_records.specs.declared.faults.ReadFault.{ReadFault}
use Rattle.sk_records.specs.declared.faults.ReadFault.TheVariants as text
use Rattle.sk_model.specs.declared.faults.ModelFault.{ModelFault}
use Rattle.sk_model.specs.declared.faults.ModelFault.TheVariants as model
use Rattle.sk_model.specs.declared.faults.Reason.{Reason}
use Rattle.sk_model.specs.declared.faults.Reason.TheVariants as reason
use Rattle.sk_model.specs.declared.faults.What.{What}
use Rattle.sk_model.specs.declared.faults.What.TheVariants as what
use Rattle.sk_report.specs.ReportText.{line, handle, spaced_handle}
use Rattle.sk_app.specs.Fault.{Fault, BadWords, BadText, BadModel, BadPart, BadPartNumber, Absent, Unread, NoGroup}

-- lines and counts are decimal, handles have eight digits; want of memory isn't told here
unfoldable pub read_fault_text : ReadFault → List ℕ
read_fault_text text.TooLarge = codes "too large"
read_fault_text text.BadHeader = codes "bad header"
read_fault_text (text.BadLine n) = codes "bad line " ++ decimal n
read_fault_text (text.OpenMap n) = codes "open map " ++ decimal n
read_fault_text (text.OpenRecord n) = codes "open record " ++ decimal n
read_fault_text text.NoMemory = []

unfoldable pub reason_text : Reason → List ℕ
reason_text reason.Group = codes "group"
reason_text reason.Request = codes "request"
reason_text reason.Constraint = codes "constraint"
reason_text reason.Relaxed = codes "relaxed"
reason_text reason.ReferenceDims = codes "reference-dims"
reason_text reason.References = codes "references"
reason_text reason.Scale = codes "scale"
reason_text reason.SpaceArc = codes "space-arc"
reason_text reason.NestedWorkplane = codes "nested-workplane"

unfoldable pub what_text : What → List ℕ
what_text what.Groups = codes "groups"
what_text what.Links = codes "links"
what_text what.Entities = codes "entities"
what_text what.Remap = codes "remap"
what_text what.Unknowns = codes "unknowns"
what_text what.Rows = codes "rows"

unfoldable pub model_fault_text : ModelFault → List ℕ
model_fault_text (model.NumberAt n) = codes "number at " ++ decimal n
model_fault_text (model.DuplicateHandle h) = codes "duplicate " ++ handle h
model_fault_text (model.UnknownKind h n) = codes "unknown kind " ++ handle h ++ codes " " ++ signed_decimal n
model_fault_text (model.LeftOut h r) = codes "left out " ++ handle h ++ codes " " ++ reason_text r
model_fault_text (model.NoSuch h t) = codes "no such " ++ handle h ++ spaced_handle t
model_fault_text (model.Ahead h t) = codes "ahead " ++ handle h ++ spaced_handle t
model_fault_text (model.BadValue h) = codes "bad value " ++ handle h
model_fault_text (model.TooMany w) = codes "too many " ++ what_text w
model_fault_text model.NoMemory = []

unfoldable pub fault_text : Fault → List ℕ
fault_text BadWords = codes "words"
fault_text (BadText f) = codes "model " ++ read_fault_text f
fault_text (BadModel f) = codes "model " ++ model_fault_text f
fault_text (BadPart name f) = codes "part " ++ name ++ codes " " ++ read_fault_text f
fault_text (BadPartNumber name n) = codes "part " ++ name ++ codes " number at " ++ decimal n
fault_text (Absent name) = codes "absent " ++ name
fault_text (Unread name) = codes "read " ++ name
fault_text (NoGroup h) = codes "group " ++ handle h

abbrev pub fault_line : List ℕ → List ℕ
fault_line text = line (codes "fault " ++ text)
