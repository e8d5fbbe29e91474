-- The parts of linked groups, over what the folder gave.
use Rattle.std.specs.Prelude.{◌≡◌, ℕ, ◌==◌, List, [], ◌∷◌, ◌++◌, map, Option, Some, ⊤, Result, Ok, Err, if◌then◌else◌}
use Rattle.sk_files.specs.Files.{Files, OnTold}
use Rattle.sk_types.specs.declared.handle.GroupId.{GroupId}
use Rattle.sk_types.specs.declared.entity.Entity.{Entity}
use Rattle.sk_types.specs.declared.group.Group.{Group}
use Rattle.sk_records.specs.Answers.{IsAnswer}
use Rattle.sk_link.specs.declared.fault.PartFault.{PartFault}
use Rattle.sk_link.specs.declared.fault.PartFault.TheVariants.{PartAbsent, PartRead, PartText, PartNumber, NoMemory}
use Rattle.sk_link.specs.declared.parts.Part.{Part}
use Rattle.sk_link.specs.Chain.{then_of, with_err}
use Rattle.sk_link.specs.Faults.{fault_at}
use Rattle.sk_link.specs.Part.{part_in}
use Rattle.sk_link.specs.Replies.{Reply, Broke, NoFile, Gave, IsReply, AreReplies, replies_in}

-- the names of the groups' parts
abbrev pub names_of : {s : ℕ} → List (Group s) → List (List ℕ)
names_of gs = map (λ g. g.part) gs

-- the entities of a group's part, or why there are none
abbrev pub part_of : (s : ℕ) → GroupId → Reply → Result (List (Entity s)) PartFault
part_of s g Broke = Err (PartRead g)
part_of s g NoFile = Err (PartAbsent g)
part_of s g (Gave text) = with_err (fault_at g) (part_in s text)

-- The parts of the groups, or the first fault: each group has its own reply.
abbrev pub parts_of : (s : ℕ) → List (Group s) → List Reply → Result (List (Part s)) PartFault
parts_of s [] replies = Ok []
parts_of s (g ∷ gs) [] = Ok []
parts_of s (g ∷ gs) (r ∷ rs) =
    then_of (part_of s g.id r) (λ es.
    then_of (parts_of s gs rs) (λ ps.
    Ok (record { group = g.id; entities = es } ∷ ps)))

-- the entities of a group's part; a group that isn't there has none
abbrev pub entities_of : {s : ℕ} → GroupId → List (Part s) → List (Entity s)
entities_of g [] = []
entities_of g (p ∷ ps) = if g.0 == p.group.0 then p.entities else entities_of g ps

-- the parts over files, or the first fault
abbrev pub parts_in : (s : ℕ) → Files → List (Group s) → Result (List (Part s)) PartFault
parts_in s files gs = parts_of s gs (replies_in files (names_of gs))

-- The folder gave some replies, and the result is what is defined over them, or want of memory.
pub record Reads (s : ℕ) (told : Option Files) (rose : Type 0) (gs : List (Group s)) (result : Result (List (Part s)) PartFault) : Type 0 where
  pub replies : List Reply
  pub given : AreReplies told rose (names_of gs) replies
  pub answer : IsAnswer NoMemory result (parts_of s gs replies)

-- The group is of the list, and where files are told no group before it has a fault.
pub record IsReached (s : ℕ) (told : Option Files) (gs : List (Group s)) (g : GroupId) : Type 0 where
  pub front : List (Group s)
  pub group : Group s
  pub back : List (Group s)
  pub whole : gs ≡ front ++ group ∷ back
  pub same : group.id ≡ g
  pub before : OnTold told (λ files. (ps : List (Part s)) × (parts_in s files front ≡ Ok ps))

-- Over files that are told the result is the defined one; the folder failed only where its count rose, at a group that was
-- reached; only want of memory is free.
abbrev pub IsTheFirst : (s : ℕ) → Files → Type 0 → List (Group s) → Result (List (Part s)) PartFault → Type 0
IsTheFirst s files rose gs (Ok ps) = parts_in s files gs ≡ Ok ps
IsTheFirst s files rose gs (Err (PartAbsent g)) = parts_in s files gs ≡ Err (PartAbsent g)
IsTheFirst s files rose gs (Err (PartRead g)) = rose × IsReached s (Some files) gs g
IsTheFirst s files rose gs (Err (PartText g f)) = parts_in s files gs ≡ Err (PartText g f)
IsTheFirst s files rose gs (Err (PartNumber g n)) = parts_in s files gs ≡ Err (PartNumber g n)
IsTheFirst s files rose gs (Err NoMemory) = ⊤

-- The folder gave some reply for the group's part, and the result is what is defined over it, or want of memory.
pub record ReadsOne (s : ℕ) (told : Option Files) (rose : Type 0) (g : Group s) (result : Result (List (Entity s)) PartFault) : Type 0 where
  pub reply : Reply
  pub given : IsReply told g.part rose reply
  pub answer : IsAnswer NoMemory result (part_of s g.id reply)
