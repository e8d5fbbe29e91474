-- What is prepared for a command, over what the folder gave.
use Rattle.std.specs.Prelude.{◌≡◌, ◌+◌, ℕ, List, length, Option, Result, Ok, Err, IfOk}
use Rattle.sk_files.specs.Files.{Files}
use Rattle.sk_link.specs.Chain.{then_of}
use Rattle.sk_link.specs.Parts.{parts_of}
use Rattle.sk_link.specs.Replies.{Reply, IsReply}
use Rattle.sk_model.specs.Models.{Modelled}
use Rattle.sk_session.specs.Opening.{linked_groups, model_of}
use Rattle.sk_app.specs.declared.fault.Stop.{Stop}
use Rattle.sk_app.specs.Command.{Command, Asked, asked_of, model_name}
use Rattle.sk_app.specs.Fault.{Fault}
use Rattle.sk_app.specs.Answer.{Answer, Accepted, Given, Work, given, file_of, text_for, accepted, accepted_over, present_of, IsSoundModel, opened_for, opened, steps_of, work_for, answered, answer_on}
use Rattle.sk_app.specs.Ends.{ArePartsRead, IsModelReply, IsGiven, IsGivenFor}
use Rattle.sk_app.specs.Lent.{IsAnswer}

abbrev pub worked : {s : ℕ} → Command → Result (Accepted s) Fault → Result Work Fault
worked command a = then_of a (λ a. work_for command (present_of a))

abbrev pub steps_over : {s : ℕ} → Result (Accepted s) Fault → ℕ
steps_over (Ok a) = length (present_of a).last
steps_over (Err f) = 0

-- the file with a name is read
pub record ReadsFile (told : Option Files) (rose : Type 0) (name : List ℕ) (result : Result (List ℕ) Stop) : Type 0 where
  pub reply : Reply
  pub is : IsReply told name rose reply
  pub text : IsAnswer result (file_of name reply)

pub record ReadsText (told : Option Files) (rose : Type 0) (command : Command) (result : Result (List ℕ) Stop) : Type 0 where
  pub reply : Reply
  pub is : IsModelReply told rose (model_name command) reply
  pub text : IsAnswer result (text_for (λ name. reply) command)

-- The answer of a command on a model, over the replies for its parts; before and now are the counts of steps.
pub record PreparesModel {s : ℕ} (told : Option Files) (rose : Type 0) (command : Command) (m : Modelled s) (answer : Answer) (before now : ℕ) : Type 0 where
  pub replies : List Reply
  pub are : ArePartsRead told rose (linked_groups m.lists.groups) replies
  pub same : answer ≡ answered (worked command (accepted_over (λ gs. parts_of s gs replies) m))
  pub steps : now ≡ before + steps_over (accepted_over (λ gs. parts_of s gs replies) m)
  pub sound : IfOk (accepted_over (λ gs. parts_of s gs replies) m) IsSoundModel

pub record PreparesText (s : ℕ) (told : Option Files) (rose : Type 0) (command : Command) (text : List ℕ) (answer : Answer) (before now : ℕ) : Type 0 where
  pub replies : List Reply
  pub are : (m : Modelled s) → model_of s text ≡ Ok m → ArePartsRead told rose (linked_groups m.lists.groups) replies
  pub same : answer ≡ answered (worked command (accepted s (λ gs. parts_of s gs replies) text))
  pub steps : now ≡ before + steps_over (accepted s (λ gs. parts_of s gs replies) text)
  pub sound : IfOk (accepted s (λ gs. parts_of s gs replies) text) IsSoundModel

pub record PreparesFor (told : Option Files) (rose : Type 0) (asked : Asked) (answer : Answer) (before now : ℕ) : Type 0 where
  pub from : Given
  pub is : IsGiven told rose asked from
  pub same : answer ≡ answer_on (opened_for (given from) asked)
  pub steps : now ≡ before + steps_of (opened_for (given from) asked)
  pub sound : IfOk (opened_for (given from) asked) (λ o. IsSoundModel o.accepted)

pub record Prepares (words : List (List ℕ)) (told : Option Files) (rose : Type 0) (answer : Answer) (before now : ℕ) : Type 0 where
  pub from : Given
  pub is : IsGivenFor told rose (asked_of words) from
  pub same : answer ≡ answer_on (opened (given from) words)
  pub steps : now ≡ before + steps_of (opened (given from) words)
  pub sound : IfOk (opened (given from) words) (λ o. IsSoundModel o.accepted)
