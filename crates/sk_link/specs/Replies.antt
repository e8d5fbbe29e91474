-- What a folder gave for the names that were read, one behind the other.
use Rattle.std.specs.Prelude.{◌≡◌, ℕ, List, [], ◌∷◌, map, Option, Some, None, ⊤}
use Rattle.sk_files.specs.Files.{Files, held}

-- what the folder gave for a name: it failed, or it has no such file, or the bytes
pub data Reply : Type 0 where
  Broke : Reply
  NoFile : Reply
  Gave : List ℕ → Reply

-- The folder gave this for the name: where files are told, what is held; and it broke only where its count rose.
abbrev pub IsReply : Option Files → List ℕ → Type 0 → Reply → Type 0
IsReply told name rose Broke = rose
IsReply None name rose NoFile = ⊤
IsReply (Some files) name rose NoFile = held files name ≡ None
IsReply None name rose (Gave bytes) = ⊤
IsReply (Some files) name rose (Gave bytes) = held files name ≡ Some bytes

-- One reply for each name, in order, also where two names are the same. What isn't read any more may be any that the folder
-- could have given.
abbrev pub AreReplies : Option Files → Type 0 → List (List ℕ) → List Reply → Type 0
AreReplies told rose [] replies = replies ≡ []
AreReplies told rose (name ∷ names) [] = ⊥
AreReplies told rose (name ∷ names) (reply ∷ replies) = IsReply told name rose reply × AreReplies told rose names replies

abbrev pub found : Option (List ℕ) → Reply
found None = NoFile
found (Some bytes) = Gave bytes

-- what files give where the folder doesn't fail
abbrev pub replies_in : Files → List (List ℕ) → List Reply
replies_in files names = map (λ (name : List ℕ). found (held files name)) names
