-- What is prepared for a command, step by step.
use Rattle.std.proofs.Common.{◌≡◌, ◌≢◌, inl, inr, ℕ, ◌+◌, List, [], length, Option, Some, None, Result, Ok, Err, refl, sym, ap, ◌∙◌, subst, arith}
use Rattle.std.specs.Prelude.{IfOk, OnOk}
use Rattle.sk_files.specs.Files.{Files}
use Rattle.sk_types.specs.declared.group.Group.{Group}
use Rattle.sk_types.specs.declared.handle.GroupId.{GroupId}
use Rattle.sk_records.specs.declared.faults.ReadFault.{ReadFault}
use Rattle.sk_records.specs.Answers.{IsFault}
use Rattle.sk_model.specs.declared.faults.ModelFault.{ModelFault}
use Rattle.sk_model.specs.Models.{Modelled}
use Rattle.sk_link.specs.declared.fault.PartFault.{PartFault}
use Rattle.sk_link.specs.declared.fault.PartFault.TheVariants as part
use Rattle.sk_link.specs.declared.parts.Part.{Part}
use Rattle.sk_link.specs.Chain.{then_of, with_err}
use Rattle.sk_link.specs.Parts.{Reads, parts_of}
use Rattle.sk_link.specs.Replies.{Reply, NoFile}
use Rattle.sk_chain.specs.Outlines.{Outlined, outlined}
use Rattle.sk_session.specs.declared.fault.TextFault.{TextFault}
use Rattle.sk_session.specs.declared.fault.TextFault.TheVariants as fault
use Rattle.sk_session.specs.Opening.{Present, linked_groups, model_of, opened_over, regenerated_all}
use Rattle.sk_session.specs.Standing.{AreSound}
use Rattle.sk_app.specs.Command.{Command, Asked, asked_of, model_name}
use Rattle.sk_app.specs.Fault.{Fault, BadWords, BadText, BadModel, model_fault, part_fault}
use Rattle.sk_app.specs.Answer.{Accepted, Answer, Given, Opened, IsSoundModel, accepted, accepted_over, accepted_with, answered, answer_on, given, opened, opened_at, opened_for, steps_of, text_for, work_for, work_on}
use Rattle.sk_app.specs.Ends.{ArePartsRead, AreBoxesSound, Ends, FolderRose, IsAnswered, IsModelReply, Run, TakesSteps}
use Rattle.sk_app.specs.Lent.{fault_of, IsPartStop, IsStop}
use Rattle.sk_app.specs.Prepares.{worked, steps_over, ReadsText, PreparesModel, PreparesText, PreparesFor, Prepares}
use Rattle.sk_app.specs.declared.fault.Stop.{Stop}
use Rattle.sk_app.specs.declared.fault.Stop.TheVariants.{Refused, NoMemory}
use Rattle.sk_app.specs.declared.status.End.{End}
use Rattle.sk_app.specs.declared.status.End.TheVariants.{Full, WriteFailed, SinkFailed, NoMemory as Wanting}
use Rattle.sk_app.proofs.Risen.{model_risen, text_risen, words_risen}

ok_is : {A E : Type 0} (x y : A) → Path (Result A E) (Ok x) (Ok y) → x ≡ y
ok_is x y e = cc

-- ---- over the parts

module _ {s : ℕ} (command : Command) (m : Modelled s) (parts : List (Part s)) where
  abbrev whole : Outlined s → Accepted s
  whole o = record { model = m; parts = parts; outlined = o }

  pub over_same : (p : Present s) → opened_over parts m ≡ Ok p → worked command (accepted_with m parts) ≡ work_for command p
  unfolding opened_over accepted_with
  over_same p e = by (outlined parts m.lists) e
    where
      by : (o : Result (Outlined s) ModelFault) → then_of o (λ o. Ok (regenerated_all parts m o)) ≡ Ok p → worked command (then_of (with_err BadModel o) (λ o. Ok (whole o))) ≡ work_for command p
      by (Ok o) e = ap (work_for command) (ok_is (regenerated_all parts m o) p e)
      by (Err f) e = absurd cc

  pub over_steps : (p : Present s) → opened_over parts m ≡ Ok p → steps_over (accepted_with m parts) ≡ length p.last
  unfolding opened_over accepted_with
  over_steps p e = by (outlined parts m.lists) e
    where
      by : (o : Result (Outlined s) ModelFault) → then_of o (λ o. Ok (regenerated_all parts m o)) ≡ Ok p → steps_over (then_of (with_err BadModel o) (λ o. Ok (whole o))) ≡ length p.last
      by (Ok o) e = ap (λ (q : Present s). length q.last) (ok_is (regenerated_all parts m o) p e)
      by (Err f) e = absurd cc

  pub over_refused : (f : ModelFault) → opened_over parts m ≡ Err f → accepted_with m parts ≡ Err (BadModel f)
  unfolding opened_over accepted_with
  over_refused f e = by (outlined parts m.lists) e
    where
      err_is : (x y : ModelFault) → Path (Result (Present s) ModelFault) (Err x) (Err y) → x ≡ y
      err_is x y e = cc

      by : (o : Result (Outlined s) ModelFault) → then_of o (λ o. Ok (regenerated_all parts m o)) ≡ Err f → then_of (with_err BadModel o) (λ o. Ok (whole o)) ≡ Err (BadModel f)
      by (Ok o) e = absurd cc
      by (Err h) e = ap (λ (x : ModelFault). Err (BadModel x)) (err_is h f e)

  pub over_sound : ((o : Outlined s) → outlined parts m.lists ≡ Ok o → AreSound parts m.lists o) → IfOk (accepted_with m parts) IsSoundModel
  unfolding accepted_with
  over_sound sound = by (outlined parts m.lists) sound
    where
      by : (r : Result (Outlined s) ModelFault) → ((o : Outlined s) → r ≡ Ok o → AreSound parts m.lists o) → IfOk (then_of (with_err BadModel r) (λ o. Ok (whole o))) IsSoundModel
      by (Ok o) sound = sound o refl
      by (Err f) sound = tt

-- ---- over the model

module _ {s : ℕ} (told : Option Files) (rose : Type 0) (command : Command) (m : Modelled s) (answer : Answer) (before now : ℕ) where
  over_read : (replies : List Reply) (parts : List (Part s)) → parts_of s (linked_groups m.lists.groups) replies ≡ Ok parts → accepted_over (λ gs. parts_of s gs replies) m ≡ accepted_with m parts
  unfolding accepted_over
  over_read replies parts e = ap (λ ps. then_of (with_err (part_fault m.lists.groups) ps) (accepted_with m)) e

  pub model_done : (parts : List (Part s)) → Reads s told rose (linked_groups m.lists.groups) (Ok parts) → answer ≡ answered (worked command (accepted_with m parts)) →
      now ≡ before + steps_over (accepted_with m parts) → IfOk (accepted_with m parts) IsSoundModel → PreparesModel told rose command m answer before now
  model_done parts reads same steps sound =
      let e = over_read reads.replies parts reads.answer in
      record {
        replies = reads.replies;
        are = record { are = reads.given; unread = λ g h. absurd (neither (sym reads.answer ∙ h)) };
        same = same ∙ ap (λ (a : Result (Accepted s) Fault). answered (worked command a)) (sym e);
        steps = steps ∙ ap (λ (a : Result (Accepted s) Fault). before + steps_over a) (sym e);
        sound = subst (λ (a : Result (Accepted s) Fault). IfOk a IsSoundModel) (sym e) sound;
      }
    where
      neither : {ps : List (Part s)} {f : PartFault} → Ok ps ≡ Err f → ⊥
      neither e = cc

  pub model_refused : (f : PartFault) (fault : Fault) → ((g : GroupId) → f ≡ part.PartRead g → rose) → Reads s told rose (linked_groups m.lists.groups) (Err f) → fault ≡ part_fault m.lists.groups f → f ≢ part.NoMemory →
      answer ≡ answered (Err fault) → now ≡ before → PreparesModel told rose command m answer before now
  unfolding accepted_over
  model_refused f fault unread reads is other same still = by reads.answer
    where
      err_is : (x y : PartFault) → Path (Result (List (Part s)) PartFault) (Err x) (Err y) → x ≡ y
      err_is x y e = cc

      by : IsFault part.NoMemory f (parts_of s (linked_groups m.lists.groups) reads.replies) → PreparesModel told rose command m answer before now
      by (inl e) = absurd (other e)
      by (inr e) =
          let a : accepted_over (λ gs. parts_of s gs reads.replies) m ≡ Err fault =
          ap (λ ps. then_of (with_err (part_fault m.lists.groups) ps) (accepted_with m)) e ∙ ap Err (sym is) in
          record {
            replies = reads.replies;
            are = record { are = reads.given; unread = λ g h. unread g (err_is f (part.PartRead g) (sym e ∙ h)) };
            same = same ∙ ap (λ (a : Result (Accepted s) Fault). answered (worked command a)) (sym a);
            steps = subst (λ (a : Result (Accepted s) Fault). now ≡ before + steps_over a) (sym a) (omega (arith, still));
            sound = subst (λ (a : Result (Accepted s) Fault). IfOk a IsSoundModel) (sym a) tt;
          }

-- ---- over the text

module _ (s : ℕ) (told : Option Files) (rose : Type 0) (command : Command) (text : List ℕ) (answer : Answer) (before now : ℕ) where
  abbrev by_model : (List (Group s) → Result (List (Part s)) PartFault) → Result (Modelled s) TextFault → Result (Accepted s) Fault
  by_model parts r = then_of (with_err model_fault r) (accepted_over parts)

  is_by_model : (parts : List (Group s) → Result (List (Part s)) PartFault) → accepted s parts text ≡ by_model parts (model_of s text)
  unfolding accepted
  is_by_model parts = refl

  pub text_done : (m : Modelled s) → model_of s text ≡ Ok m → PreparesModel told rose command m answer before now → PreparesText s told rose command text answer before now
  text_done m e done =
      let parts : List (Group s) → Result (List (Part s)) PartFault = λ gs. parts_of s gs done.replies in
      let a : accepted s parts text ≡ accepted_over parts m = is_by_model parts ∙ ap (by_model parts) e in
      record {
        replies = done.replies;
        are = λ n h. subst (λ (k : Modelled s). ArePartsRead told rose (linked_groups k.lists.groups) done.replies) (ok_is m n (sym e ∙ h)) done.are;
        same = done.same ∙ ap (λ (a : Result (Accepted s) Fault). answered (worked command a)) (sym a);
        steps = done.steps ∙ ap (λ (a : Result (Accepted s) Fault). before + steps_over a) (sym a);
        sound = subst (λ (a : Result (Accepted s) Fault). IfOk a IsSoundModel) (sym a) done.sound;
      }

  text_refused : (f : TextFault) (why : Fault) → model_of s text ≡ Err f → model_fault f ≡ why → answer ≡ answered (Err why) → now ≡ before → PreparesText s told rose command text answer before now
  text_refused f why e is same still =
      let parts : List (Group s) → Result (List (Part s)) PartFault = λ gs. parts_of s gs [] in
      let a : accepted s parts text ≡ Err why = is_by_model parts ∙ ap (by_model parts) e ∙ ap Err is in
      record {
        replies = [];
        are = λ n h. absurd (neither (sym e ∙ h));
        same = same ∙ ap (λ (a : Result (Accepted s) Fault). answered (worked command a)) (sym a);
        steps = subst (λ (a : Result (Accepted s) Fault). now ≡ before + steps_over a) (sym a) (omega (arith, still));
        sound = subst (λ (a : Result (Accepted s) Fault). IfOk a IsSoundModel) (sym a) tt;
      }
    where
      neither : {n : Modelled s} → Err f ≡ Ok n → ⊥
      neither e = cc

  pub text_unread : (f : ReadFault) → IsFault fault.NoMemory (fault.Unread f) (model_of s text) → answer ≡ answered (Err (BadText f)) → now ≡ before → PreparesText s told rose command text answer before now
  unfolding model_fault
  text_unread f (inl e) same still = absurd cc
  text_unread f (inr e) same still = text_refused (fault.Unread f) (BadText f) e refl same still

  pub text_untyped : (f : ModelFault) → IsFault fault.NoMemory (fault.Untyped f) (model_of s text) → answer ≡ answered (Err (BadModel f)) → now ≡ before → PreparesText s told rose command text answer before now
  unfolding model_fault
  text_untyped f (inl e) same still = absurd cc
  text_untyped f (inr e) same still = text_refused (fault.Untyped f) (BadModel f) e refl same still

-- ---- at a scale

module _ (told : Option Files) (rose : Type 0) (asked : Asked) (answer : Answer) (before now : ℕ) where
  record_work : (a : Result (Accepted asked.scale) Fault) → work_on (then_of a (λ a. Ok (record { asked = asked; accepted = a }))) ≡ worked asked.command a
  record_work (Ok a) = refl
  record_work (Err f) = refl

  record_steps : (a : Result (Accepted asked.scale) Fault) → steps_of (then_of a (λ a. Ok (record { asked = asked; accepted = a }))) ≡ steps_over a
  record_steps (Ok a) = refl
  record_steps (Err f) = refl

  record_sound : (a : Result (Accepted asked.scale) Fault) → IfOk a IsSoundModel → IfOk (then_of a (λ a. Ok (record { asked = asked; accepted = a }))) (λ (o : Opened). IsSoundModel o.accepted)
  record_sound (Ok a) h = h
  record_sound (Err f) h = tt

  pub for_done : (reply : Reply) (text : List ℕ) → IsModelReply told rose (model_name asked.command) reply → text_for (λ name. reply) asked.command ≡ Ok text →
      PreparesText asked.scale told rose asked.command text answer before now → PreparesFor told rose asked answer before now
  unfolding opened_for
  for_done reply text is e done =
      let a : Result (Accepted asked.scale) Fault = accepted asked.scale (λ gs. parts_of asked.scale gs done.replies) text in
      let from : Given = record { model = reply; parts = done.replies } in
      let o : opened_for (given from) asked ≡ then_of a (λ a. Ok (record { asked = asked; accepted = a })) = ap (λ x. then_of x (λ text. opened_at asked text (given from))) e in
      record {
        from = from;
        is = record {
          model = is;
          parts = λ other m h k. done.are m (subst (λ (t : List ℕ). model_of asked.scale t ≡ Ok m) (sym (ok_is text other (sym e ∙ h))) k);
        };
        same = done.same ∙ ap answered (sym (record_work a)) ∙ ap answer_on (sym o);
        steps = done.steps ∙ ap (λ (n : ℕ). before + n) (sym (record_steps a)) ∙ ap (λ (x : Result Opened Fault). before + steps_of x) (sym o);
        sound = subst (λ (x : Result Opened Fault). IfOk x (λ (o : Opened). IsSoundModel o.accepted)) (sym o) (record_sound a done.sound);
      }

  pub for_refused : (reply : Reply) (fault : Fault) → IsModelReply told rose (model_name asked.command) reply → text_for (λ name. reply) asked.command ≡ Err fault →
      answer ≡ answered (Err fault) → now ≡ before → PreparesFor told rose asked answer before now
  unfolding opened_for
  for_refused reply fault is e same still =
      let from : Given = record { model = reply; parts = [] } in
      let o : opened_for (given from) asked ≡ Err fault = ap (λ x. then_of x (λ text. opened_at asked text (given from))) e in
      record {
        from = from;
        is = record { model = is; parts = λ other m h k. absurd (neither (sym e ∙ h)) };
        same = same ∙ ap answer_on (sym o);
        steps = subst (λ (x : Result Opened Fault). now ≡ before + steps_of x) (sym o) (omega (arith, still));
        sound = subst (λ (x : Result Opened Fault). IfOk x (λ (o : Opened). IsSoundModel o.accepted)) (sym o) tt;
      }
    where
      neither : {t : List ℕ} → Err fault ≡ Ok t → ⊥
      neither e = cc

-- ---- for the words

module _ (words : List (List ℕ)) (told : Option Files) (rose : Type 0) (answer : Answer) (before now : ℕ) where
  pub words_done : (asked : Asked) → asked_of words ≡ Some asked → PreparesFor told rose asked answer before now → Prepares words told rose answer before now
  unfolding opened
  words_done asked e done = record {
    from = done.from;
    is = rw e done.is;
    same = rw e done.same;
    steps = rw e done.steps;
    sound = rw e done.sound;
  }

  pub words_refused : asked_of words ≡ None → answer ≡ answered (Err BadWords) → now ≡ before → Prepares words told rose answer before now
  unfolding opened
  words_refused e same still = record {
    from = record { model = NoFile; parts = [] };
    is = rw e tt;
    same = rw e same;
    steps = rw e (omega (arith, still));
    sound = rw e tt;
  }

-- ---- answers of the code

pub always : {T E P : Type 0} (r : Result T E) → P → OnOk r P
always (Ok x) p = p
always (Err e) p = tt

pub on_ok : {T E P : Type 0} {Q : T → Type 0} (r : Result T E) → ((x : T) → Q x → P) → IfOk r Q → OnOk r P
on_ok (Ok x) f h = f x h
on_ok (Err e) f h = tt

pub with_facts : {T E A B : Type 0} {P Q : T → Type 0} (r : Result T E) → ((x : T) → P x → A → B → Q x) → IfOk r P → OnOk r A → OnOk r B → IfOk r Q
with_facts (Ok x) f p a b = f x p a b
with_facts (Err e) f p a b = tt

-- a part that isn't read
pub part_stopped : {s : ℕ} (told : Option Files) (rose : Type 0) (command : Command) (m : Modelled s) (answer : Answer) (n : ℕ) (gs : List (Group s)) (f : PartFault) (stop : Stop) →
    gs ≡ m.lists.groups → Reads s told rose (linked_groups m.lists.groups) (Err f) → ((g : GroupId) → f ≡ part.PartRead g → rose) → IsPartStop gs f stop → IsStop stop answer → PreparesModel told rose command m answer n n
part_stopped told rose command m answer n gs f (Refused why) e reads unread (is, other) same =
    model_refused told rose command m answer n n f (fault_of why) unread reads (is ∙ ap (λ hs. part_fault hs f) e) other same refl
part_stopped told rose command m answer n gs f NoMemory e reads unread is same = absurd same

-- a text that isn't there
pub text_stopped : (told : Option Files) (part whole : Type 0) → (part → whole) → (asked : Asked) (answer : Answer) (n : ℕ) (stop : Stop) →
    ReadsText told part asked.command (Err stop) → IsStop stop answer → PreparesFor told whole asked answer n n
text_stopped told part whole rises asked answer n (Refused why) reads same =
    for_refused told whole asked answer n n reads.reply (fault_of why) (model_risen told part whole rises (model_name asked.command) reads.reply reads.is) reads.text same refl
text_stopped told part whole rises asked answer n NoMemory reads same = absurd same

pub text_read : (told : Option Files) (first second whole : Type 0) → (first → whole) → (second → whole) → (asked : Asked) (answer : Answer) (before now : ℕ) (text : List ℕ) →
    ReadsText told first asked.command (Ok text) → PreparesText asked.scale told second asked.command text answer before now → PreparesFor told whole asked answer before now
text_read told first second whole rises later asked answer before now text reads done =
    for_done told whole asked answer before now reads.reply text (model_risen told first whole rises (model_name asked.command) reads.reply reads.is) reads.text
    (text_risen told second whole later asked.scale asked.command text answer before now done)

-- ---- the run

module _ (words : List (List ℕ)) (r : Run) (rose : Type 0) (rises : rose → FolderRose r) (answer : Answer) (p : Prepares words r.files_before rose answer r.steps_before r.steps) where
  steps_taken : (end : End) → TakesSteps (steps_of (opened (given p.from) words)) r end
  steps_taken (Full status) = p.steps
  steps_taken WriteFailed = p.steps
  steps_taken SinkFailed = tt
  steps_taken Wanting = tt

  boxes_sound : (end : End) → AreBoxesSound (opened (given p.from) words) end
  boxes_sound (Full status) = p.sound
  boxes_sound WriteFailed = p.sound
  boxes_sound SinkFailed = tt
  boxes_sound Wanting = tt

  pub answered_so : (end : End) → Ends answer r end → IsAnswered words r end
  answered_so end ends = record {
    from = p.from;
    is = words_risen r.files_before rose (FolderRose r) rises (asked_of words) p.from p.is;
    ends = subst (λ (a : Answer). Ends a r end) p.same ends;
    steps = steps_taken end;
    sound = boxes_sound end;
  }
