-- The fault of a group, for what its part is refused.
use Rattle.sk_types.specs.declared.handle.GroupId.{GroupId}
use Rattle.sk_records.specs.declared.faults.ReadFault.{ReadFault}
use Rattle.sk_records.specs.declared.faults.ReadFault.TheVariants as text
use Rattle.sk_link.specs.declared.fault.PartFault.{PartFault}
use Rattle.sk_link.specs.declared.fault.PartFault.TheVariants as part
use Rattle.sk_link.specs.declared.fault.Refusal.{Refusal}
use Rattle.sk_link.specs.declared.fault.Refusal.TheVariants.{Text, Number, NoMemory}

abbrev pub fault_at : GroupId → Refusal → PartFault
fault_at g (Text f) = part.PartText g f
fault_at g (Number n) = part.PartNumber g n
fault_at g NoMemory = part.NoMemory

-- a fault of a text, or want of memory while it was read
abbrev pub refusal_of : ReadFault → Refusal
refusal_of text.TooLarge = Text text.TooLarge
refusal_of text.BadHeader = Text text.BadHeader
refusal_of (text.BadLine n) = Text (text.BadLine n)
refusal_of (text.OpenMap n) = Text (text.OpenMap n)
refusal_of (text.OpenRecord n) = Text (text.OpenRecord n)
refusal_of text.NoMemory = NoMemory
