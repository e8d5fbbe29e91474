-- A read is told to have failed only where the folder counted it.
use Rattle.std.proofs.Common.{◌≡◌, ℕ, List, Bool, true, false, Option, Some, None, Result, Ok, Err, refl, sym, ap, ◌∙◌}
use Rattle.std.specs.Option.{ok_or}
use Rattle.sk_files.specs.Files.{Files}
use Rattle.sk_types.specs.declared.handle.GroupId.{GroupId}
use Rattle.sk_model.specs.Models.{Modelled}
use Rattle.sk_model.specs.declared.faults.ModelFault.{ModelFault}
use Rattle.sk_gen.specs.declared.fault.MakeFault.{MakeFault}
use Rattle.sk_gen.specs.MadeModel.{made}
use Rattle.sk_link.specs.declared.fault.PartFault.{PartFault}
use Rattle.sk_link.specs.declared.fault.PartFault.TheVariants as part
use Rattle.sk_link.specs.declared.parts.Part.{Part}
use Rattle.sk_link.specs.Chain.{then_of, with_err}
use Rattle.sk_link.specs.Parts.{parts_of}
use Rattle.sk_link.specs.Replies.{Reply, Broke, NoFile, Gave, IsReply}
use Rattle.sk_chain.specs.Outlines.{Outlined, outlined}
use Rattle.sk_session.specs.declared.fault.TextFault.{TextFault}
use Rattle.sk_session.specs.declared.fault.TextFault.TheVariants as fault
use Rattle.sk_session.specs.Opening.{Present, linked_groups, model_of}
use Rattle.sk_dxf.specs.Drawing.{drawing}
use Rattle.sk_app.specs.Command.{Command, Report, Regen, Draw, Make, Asked, asked_of, model_name}
use Rattle.sk_app.specs.declared.status.Status.{Status}
use Rattle.sk_app.specs.declared.status.Status.TheVariants as status
use Rattle.sk_app.specs.Fault.{Fault, BadWords, BadText, BadModel, BadPart, BadPartNumber, Absent, Unread, NoGroup, model_fault, part_fault}
use Rattle.sk_app.specs.Answer.{Accepted, Given, Opened, given, text_for, accepted, accepted_over, accepted_with, answer_on, answered, are_certified, done_status, drawn, opened_at, opened_for, opened, present_of, work_for}
use Rattle.sk_app.specs.Ends.{ArePartsRead, IsGiven, IsGivenFor, IsModelReply}

err_is : {A E : Type 0} (x y : E) → Path (Result A E) (Err x) (Err y) → x ≡ y
err_is x y e = cc

broke : (told : Option Files) (name : List ℕ) (rose : Type 0) → IsReply told name rose Broke → rose
broke None name rose is = is
broke (Some files) name rose is = is

-- ---- a model that is opened

module _ (s : ℕ) (told : Option Files) (rose : Type 0) (replies : List Reply) (name : List ℕ) where
  outline_read : (m : Modelled s) (ps : List (Part s)) → accepted_with m ps ≡ Err (Unread name) → ⊥
  unfolding accepted_with
  outline_read m ps e = by (outlined ps m.lists) e
    where
      by : (o : Result (Outlined s) ModelFault) → then_of {U = Accepted s} (with_err BadModel o) (λ o. Ok (record { model = m; parts = ps; outlined = o })) ≡ Err (Unread name) → ⊥
      by (Ok o) e = cc
      by (Err f) e = cc

  over_rose : (m : Modelled s) → ArePartsRead told rose (linked_groups m.lists.groups) replies → accepted_over (λ gs. parts_of s gs replies) m ≡ Err (Unread name) → rose
  unfolding accepted_over part_fault
  over_rose m are e = by (parts_of s (linked_groups m.lists.groups) replies) are.unread e
    where
      by : (r : Result (List (Part s)) PartFault) → ((h : GroupId) → r ≡ Err (part.PartRead h) → rose) → then_of (with_err (part_fault m.lists.groups) r) (accepted_with m) ≡ Err (Unread name) → rose
      by (Ok ps) read e = absurd (outline_read m ps e)
      by (Err (part.PartRead h)) read e = read h refl
      by (Err (part.PartAbsent h)) read e = absurd cc
      by (Err (part.PartText h f)) read e = absurd cc
      by (Err (part.PartNumber h n)) read e = absurd cc
      by (Err part.NoMemory) read e = absurd cc

  accepted_rose : (text : List ℕ) → ((m : Modelled s) → model_of s text ≡ Ok m → ArePartsRead told rose (linked_groups m.lists.groups) replies) →
      accepted s (λ gs. parts_of s gs replies) text ≡ Err (Unread name) → rose
  unfolding accepted model_fault
  accepted_rose text are e = by (model_of s text) are e
    where
      by : (r : Result (Modelled s) TextFault) → ((m : Modelled s) → r ≡ Ok m → ArePartsRead told rose (linked_groups m.lists.groups) replies) →
          then_of (with_err model_fault r) (accepted_over (λ gs. parts_of s gs replies)) ≡ Err (Unread name) → rose
      by (Ok m) are e = over_rose m (are m refl) e
      by (Err (fault.Unread f)) are e = absurd cc
      by (Err (fault.Untyped f)) are e = absurd cc
      by (Err fault.NoMemory) are e = absurd cc

-- ---- the text

text_rose : (told : Option Files) (rose : Type 0) (reply : Reply) (command : Command) (name : List ℕ) → IsModelReply told rose (model_name command) reply →
    text_for (λ name. reply) command ≡ Err (Unread name) → rose
text_rose told rose Broke (Report model) name is e = broke told model rose is
text_rose told rose NoFile (Report model) name is e = absurd cc
text_rose told rose (Gave text) (Report model) name is e = absurd cc
text_rose told rose Broke (Regen model out) name is e = broke told model rose is
text_rose told rose NoFile (Regen model out) name is e = absurd cc
text_rose told rose (Gave text) (Regen model out) name is e = absurd cc
text_rose told rose Broke (Draw model group out) name is e = broke told model rose is
text_rose told rose NoFile (Draw model group out) name is e = absurd cc
text_rose told rose (Gave text) (Draw model group out) name is e = absurd cc
text_rose told rose reply (Make n out) name is e = absurd (by (made n) e)
  where
    by : (r : Result (List ℕ) MakeFault) → with_err (λ e. BadWords) r ≡ Err (Unread name) → ⊥
    by (Ok t) e = cc
    by (Err f) e = cc

-- ---- the run

module _ (told : Option Files) (rose : Type 0) (from : Given) (name : List ℕ) where
  opened_rose : (asked : Asked) → IsGiven told rose asked from → opened_for (given from) asked ≡ Err (Unread name) → rose
  unfolding opened_for
  opened_rose asked is e = by (text_for (given from).file asked.command) (text_rose told rose from.model asked.command name is.model) (λ text h m k. is.parts text m h k) e
    where
      at : (text : List ℕ) (a : Result (Accepted asked.scale) Fault) → (a ≡ Err (Unread name) → rose) → then_of {U = Opened} a (λ a. Ok (record { asked = asked; accepted = a })) ≡ Err (Unread name) → rose
      at text (Ok a) rest e = absurd cc
      at text (Err f) rest e = rest (ap Err (err_is f (Unread name) e))

      by : (x : Result (List ℕ) Fault) → (x ≡ Err (Unread name) → rose) →
          ((text : List ℕ) → x ≡ Ok text → (m : Modelled asked.scale) → model_of asked.scale text ≡ Ok m → ArePartsRead told rose (linked_groups m.lists.groups) from.parts) →
          then_of x (λ text. opened_at asked text (given from)) ≡ Err (Unread name) → rose
      by (Ok text) read are e = at text (accepted asked.scale ((given from).parts asked.scale) text) (accepted_rose asked.scale told rose from.parts name text (λ m k. are text refl m k)) e
      by (Err f) read are e = read (ap Err (err_is f (Unread name) e))

  words_rose : (o : Option Asked) → IsGivenFor told rose o from → then_of (ok_or o BadWords) (opened_for (given from)) ≡ Err (Unread name) → rose
  words_rose None is e = absurd cc
  words_rose (Some asked) is e = opened_rose asked is e

-- ---- the status

not_done : (b : Bool) → status.Unread ≡ done_status b → ⊥
not_done true e = cc
not_done false e = cc

-- what is done with a model reads nothing
work_read : (a : Opened) (st : Status) → st ≡ (answer_on (Ok a)).status → st ≡ status.Unread → ⊥
work_read a st e h = by a.asked.command (present_of a.accepted) (sym h ∙ e)
  where
    drawing_read : {s : ℕ} (p : Present s) (out : List ℕ) (group : ℕ) (o : Option (List ℕ)) → status.Unread ≡ (answered (drawn p out group o)).status → ⊥
    drawing_read p out group None e = cc
    drawing_read p out group (Some text) e = not_done (are_certified p.report) e

    by : {s : ℕ} (command : Command) (p : Present s) → status.Unread ≡ (answered (work_for command p)).status → ⊥
    by (Report model) p e = not_done (are_certified p.report) e
    by (Regen model out) p e = not_done (are_certified p.report) e
    by (Draw model group out) p e = drawing_read p out group (drawing p.model.lists.groups p.outline.entities p.numbers.acts (record { 0 = group })) e
    by (Make n out) p e = not_done (are_certified p.report) e

pub unread_rose : (told : Option Files) (rose : Type 0) (from : Given) (words : List (List ℕ)) → IsGivenFor told rose (asked_of words) from →
    (o : Result Opened Fault) → opened (given from) words ≡ o → status.Unread ≡ (answer_on o).status → rose
unfolding opened
unread_rose told rose from words is (Ok a) h e = absurd (work_read a status.Unread e refl)
unread_rose told rose from words is (Err (Unread name)) h e = words_rose told rose from name (asked_of words) is h
unread_rose told rose from words is (Err BadWords) h e = absurd cc
unread_rose told rose from words is (Err (BadText f)) h e = absurd cc
unread_rose told rose from words is (Err (BadModel f)) h e = absurd cc
unread_rose told rose from words is (Err (BadPart name f)) h e = absurd cc
unread_rose told rose from words is (Err (BadPartNumber name n)) h e = absurd cc
unread_rose told rose from words is (Err (Absent name)) h e = absurd cc
unread_rose told rose from words is (Err (NoGroup group)) h e = absurd cc
