-- A count that rose in a part of a run rose in the run.
use Rattle.std.proofs.Common.{ℕ, List, [], ◌∷◌, Option, Some, None}
use Rattle.sk_files.specs.Files.{Files}
use Rattle.sk_types.specs.declared.group.Group.{Group}
use Rattle.sk_link.specs.Parts.{names_of}
use Rattle.sk_link.specs.Replies.{Reply, Broke, NoFile, Gave, IsReply, AreReplies}
use Rattle.sk_session.specs.Opening.{linked_groups}
use Rattle.sk_app.specs.Command.{Asked, Command, model_name}
use Rattle.sk_app.specs.Answer.{Answer, Given}
use Rattle.sk_app.specs.Ends.{ArePartsRead, IsGiven, IsGivenFor, IsModelReply}
use Rattle.sk_app.specs.Prepares.{PreparesText}

module _ (told : Option Files) (part whole : Type 0) (rises : part → whole) where
  reply_risen : (o : Option Files) (name : List ℕ) (r : Reply) → IsReply o name part r → IsReply o name whole r
  reply_risen None name Broke is = rises is
  reply_risen None name NoFile is = tt
  reply_risen None name (Gave bytes) is = tt
  reply_risen (Some files) name Broke is = rises is
  reply_risen (Some files) name NoFile is = is
  reply_risen (Some files) name (Gave bytes) is = is

  replies_risen : (names : List (List ℕ)) (rs : List Reply) → AreReplies told part names rs → AreReplies told whole names rs
  replies_risen [] rs are = are
  replies_risen (name ∷ names) [] are = are
  replies_risen (name ∷ names) (r ∷ rs) are = (reply_risen told name r are.0, replies_risen names rs are.1)

  parts_risen : {s : ℕ} (gs : List (Group s)) (rs : List Reply) → ArePartsRead told part gs rs → ArePartsRead told whole gs rs
  parts_risen gs rs read = record { are = replies_risen (names_of gs) rs read.are; unread = λ g e. rises (read.unread g e) }

  pub model_risen : (name : Option (List ℕ)) (r : Reply) → IsModelReply told part name r → IsModelReply told whole name r
  model_risen None r is = tt
  model_risen (Some name) r is = reply_risen told name r is

  pub text_risen : (s : ℕ) (command : Command) (text : List ℕ) (answer : Answer) (before now : ℕ) → PreparesText s told part command text answer before now → PreparesText s told whole command text answer before now
  text_risen s command text answer before now p = record {
    replies = p.replies;
    are = λ m e. parts_risen (linked_groups m.lists.groups) p.replies (p.are m e);
    same = p.same;
    steps = p.steps;
    sound = p.sound;
  }

  given_risen : (asked : Asked) (from : Given) → IsGiven told part asked from → IsGiven told whole asked from
  given_risen asked from is = record {
    model = model_risen (model_name asked.command) from.model is.model;
    parts = λ text m e h. parts_risen (linked_groups m.lists.groups) from.parts (is.parts text m e h);
  }

  pub words_risen : (o : Option Asked) (from : Given) → IsGivenFor told part o from → IsGivenFor told whole o from
  words_risen None from is = tt
  words_risen (Some asked) from is = given_risen asked from is
