-- Why a run ended as it did.
use Rattle.std.proofs.Common.{◌≡◌, ◌⊎◌, inl, inr, ℕ, ◌+◌, List, Option, Some, None, Result, Ok, Err, Bool, true, false, refl, sym, ap, ◌∙◌, subst}
use Rattle.sk_files.specs.Files.{Files, OnTold}
use Rattle.sk_files.specs.Taken.{Takes}
use Rattle.sk_app.specs.declared.status.Status.{Status}
use Rattle.sk_app.specs.declared.status.Status.TheVariants as status
use Rattle.sk_app.specs.declared.status.End.{End}
use Rattle.sk_app.specs.declared.status.End.TheVariants.{Full, WriteFailed, SinkFailed, NoMemory}
use Rattle.sk_app.specs.Command.{asked_of}
use Rattle.sk_app.specs.Fault.{Fault, BadWords, BadText, BadModel, BadPart, BadPartNumber, Absent, Unread, NoGroup, fault_status}
use Rattle.sk_app.specs.Answer.{Opened, Work, steps_of, done_status, answered, work_of, work_on, answer_on, given, opened}
use Rattle.sk_app.specs.Ends.{IsGivenFor, AreBoxesSound, AreWritten, Completes, Does, Ends, FolderRose, IsAnswered, IsWanting, Refuses, Run, RunsTo, SinkRose, TakesSteps, code_of, joined, opened_in, status_code}
use Rattle.sk_app.proofs.Told.{opened_told}
use Rattle.sk_app.proofs.Unread.{unread_rose}

-- ---- what a status says of the work

abbrev is_done : Status → Bool
is_done status.Done = true
is_done status.NotAll = true
is_done status.Words = false
is_done status.Model = false
is_done status.Absent = false
is_done status.Unread = false
is_done status.Group = false

never_done : (f : Fault) → is_done (fault_status f) ≡ false
never_done BadWords = refl
never_done (BadText f) = refl
never_done (BadModel f) = refl
never_done (BadPart name f) = refl
never_done (BadPartNumber name n) = refl
never_done (Absent name) = refl
never_done (Unread name) = refl
never_done (NoGroup h) = refl

done_is : (b : Bool) → is_done (done_status b) ≡ true
done_is true = refl
done_is false = refl

-- whether all groups are certified
abbrev is_all : Status → Bool
is_all status.Done = true
is_all status.NotAll = false
is_all status.Words = false
is_all status.Model = false
is_all status.Absent = false
is_all status.Unread = false
is_all status.Group = false

all_is : (b : Bool) → is_all (done_status b) ≡ b
all_is true = refl
all_is false = refl

off : (b : Bool) → b ≡ true → b ≡ false → ⊥
off true h k = absurd cc
off false h k = absurd cc

done_work : (st : Status) (w : Result Work Fault) → st ≡ (answered w).status → is_done st ≡ true → (work : Work) × (w ≡ Ok work) × (work.all ≡ is_all st)
done_work st (Ok work) e h = (work, refl, sym (all_is work.all) ∙ ap is_all (sym e))
done_work st (Err f) e h = absurd (off (is_done st) h (ap is_done e ∙ never_done f))

refused_work : (st : Status) (w : Result Work Fault) → st ≡ (answered w).status → is_done st ≡ false → (f : Fault) × (w ≡ Err f) × (fault_status f ≡ st)
refused_work st (Ok work) e h = absurd (off (is_done st) (ap is_done e ∙ done_is work.all) h)
refused_work st (Err f) e h = (f, refl, sym e)

work_opened : (o : Result Opened Fault) (work : Work) → work_on o ≡ Ok work → (a : Opened) × (o ≡ Ok a) × (work_of a ≡ Ok work)
work_opened (Ok a) work e = (a, refl, e)
work_opened (Err f) work e = absurd cc

-- ---- a run over files that are told

-- the run's answer is that of the files; or the folder failed at a read
pub record IsToldRun (files : Files) (words : List (List ℕ)) (r : Run) (end : End) : Type 0 where
  pub ends : Ends (answer_on (opened_in files words)) r end
  pub steps : TakesSteps (steps_of (opened_in files words)) r end
  pub sound : AreBoxesSound (opened_in files words) end

pub record IsUnreadRun (r : Run) (end : End) : Type 0 where
  pub rose : FolderRose r
  pub name : List ℕ
  pub ends : Ends (answered (Err (Unread name))) r end

pub told_run : (files : Files) (words : List (List ℕ)) (r : Run) (end : End) → r.files_before ≡ Some files → IsAnswered words r end → IsToldRun files words r end ⊎ IsUnreadRun r end
told_run files words r end told run =
    elim (opened_told files (FolderRose r) run.from words (subst (λ (o : Option Files). IsGivenFor o (FolderRose r) (asked_of words) run.from) told run.is)) [
      | inl e ↦ inl (record {
        ends = subst (λ (o : Result Opened Fault). Ends (answer_on o) r end) e run.ends;
        steps = subst (λ (o : Result Opened Fault). TakesSteps (steps_of o) r end) e run.steps;
        sound = subst (λ (o : Result Opened Fault). AreBoxesSound o end) e run.sound;
      })
      | inr (name, rose, e) ↦ inr (record { rose = rose; name = name; ends = subst (λ (o : Result Opened Fault). Ends (answer_on o) r end) e run.ends })
    ]

pub on_told : (P : Files → Type 0) (told : Option Files) → ((files : Files) → told ≡ Some files → P files) → OnTold told P
on_told P None h = tt
on_told P (Some files) h = h files refl

-- ---- from a status to the end

end_done : (end : End) → code_of end ≡ 0 → end ≡ Full status.Done
end_done (Full status.Done) e = refl
end_done (Full status.NotAll) e = absurd cc
end_done (Full status.Words) e = absurd cc
end_done (Full status.Model) e = absurd cc
end_done (Full status.Absent) e = absurd cc
end_done (Full status.Unread) e = absurd cc
end_done (Full status.Group) e = absurd cc
end_done WriteFailed e = absurd cc
end_done SinkFailed e = absurd cc
end_done NoMemory e = absurd cc

end_notall : (end : End) → code_of end ≡ 10 → end ≡ Full status.NotAll
end_notall (Full status.Done) e = absurd cc
end_notall (Full status.NotAll) e = refl
end_notall (Full status.Words) e = absurd cc
end_notall (Full status.Model) e = absurd cc
end_notall (Full status.Absent) e = absurd cc
end_notall (Full status.Unread) e = absurd cc
end_notall (Full status.Group) e = absurd cc
end_notall WriteFailed e = absurd cc
end_notall SinkFailed e = absurd cc
end_notall NoMemory e = absurd cc

end_words : (end : End) → code_of end ≡ 1 → end ≡ Full status.Words
end_words (Full status.Done) e = absurd cc
end_words (Full status.NotAll) e = absurd cc
end_words (Full status.Words) e = refl
end_words (Full status.Model) e = absurd cc
end_words (Full status.Absent) e = absurd cc
end_words (Full status.Unread) e = absurd cc
end_words (Full status.Group) e = absurd cc
end_words WriteFailed e = absurd cc
end_words SinkFailed e = absurd cc
end_words NoMemory e = absurd cc

end_model : (end : End) → code_of end ≡ 2 → end ≡ Full status.Model
end_model (Full status.Done) e = absurd cc
end_model (Full status.NotAll) e = absurd cc
end_model (Full status.Words) e = absurd cc
end_model (Full status.Model) e = refl
end_model (Full status.Absent) e = absurd cc
end_model (Full status.Unread) e = absurd cc
end_model (Full status.Group) e = absurd cc
end_model WriteFailed e = absurd cc
end_model SinkFailed e = absurd cc
end_model NoMemory e = absurd cc

end_absent : (end : End) → code_of end ≡ 3 → end ≡ Full status.Absent
end_absent (Full status.Done) e = absurd cc
end_absent (Full status.NotAll) e = absurd cc
end_absent (Full status.Words) e = absurd cc
end_absent (Full status.Model) e = absurd cc
end_absent (Full status.Absent) e = refl
end_absent (Full status.Unread) e = absurd cc
end_absent (Full status.Group) e = absurd cc
end_absent WriteFailed e = absurd cc
end_absent SinkFailed e = absurd cc
end_absent NoMemory e = absurd cc

end_unread : (end : End) → code_of end ≡ 4 → end ≡ Full status.Unread
end_unread (Full status.Done) e = absurd cc
end_unread (Full status.NotAll) e = absurd cc
end_unread (Full status.Words) e = absurd cc
end_unread (Full status.Model) e = absurd cc
end_unread (Full status.Absent) e = absurd cc
end_unread (Full status.Unread) e = refl
end_unread (Full status.Group) e = absurd cc
end_unread WriteFailed e = absurd cc
end_unread SinkFailed e = absurd cc
end_unread NoMemory e = absurd cc

end_group : (end : End) → code_of end ≡ 9 → end ≡ Full status.Group
end_group (Full status.Done) e = absurd cc
end_group (Full status.NotAll) e = absurd cc
end_group (Full status.Words) e = absurd cc
end_group (Full status.Model) e = absurd cc
end_group (Full status.Absent) e = absurd cc
end_group (Full status.Unread) e = absurd cc
end_group (Full status.Group) e = refl
end_group WriteFailed e = absurd cc
end_group SinkFailed e = absurd cc
end_group NoMemory e = absurd cc

end_write : (end : End) → code_of end ≡ 5 → end ≡ WriteFailed
end_write (Full status.Done) e = absurd cc
end_write (Full status.NotAll) e = absurd cc
end_write (Full status.Words) e = absurd cc
end_write (Full status.Model) e = absurd cc
end_write (Full status.Absent) e = absurd cc
end_write (Full status.Unread) e = absurd cc
end_write (Full status.Group) e = absurd cc
end_write WriteFailed e = refl
end_write SinkFailed e = absurd cc
end_write NoMemory e = absurd cc

end_sink : (end : End) → code_of end ≡ 6 → end ≡ SinkFailed
end_sink (Full status.Done) e = absurd cc
end_sink (Full status.NotAll) e = absurd cc
end_sink (Full status.Words) e = absurd cc
end_sink (Full status.Model) e = absurd cc
end_sink (Full status.Absent) e = absurd cc
end_sink (Full status.Unread) e = absurd cc
end_sink (Full status.Group) e = absurd cc
end_sink WriteFailed e = absurd cc
end_sink SinkFailed e = refl
end_sink NoMemory e = absurd cc

-- ---- when each status comes

module _ (words : List (List ℕ)) (r : Run) where
  does : (files : Files) (st : Status) → r.files_before ≡ Some files → is_done st ≡ true → IsAnswered words r (Full st) → Does files words (is_all st) r
  does files st told h run = elim (told_run files words r (Full st) told run) [
    | inl k ↦
        let (work, w, all) = done_work st (work_on (opened_in files words)) k.ends.0 h in
        let (a, o, d) = work_opened (opened_in files words) work w in
        record {
          opened = a;
          work = work;
          accepted = o;
          done = d;
          certified = all;
          taken = subst (λ (x : Result Work Fault). Takes r.taken_before r.taken (joined (answered x).pieces)) w k.ends.1;
          written = subst (λ (b : Option Files). AreWritten b r.files work.file) told (subst (λ (x : Result Work Fault). AreWritten r.files_before r.files (answered x).file) w k.ends.2);
          steps = subst (λ (x : Result Opened Fault). r.steps ≡ r.steps_before + steps_of x) o k.steps;
        }
    | inr k ↦ absurd (off (is_done st) h (ap is_done k.ends.0))
  ]

  refuses : (files : Files) (st : Status) → r.files_before ≡ Some files → is_done st ≡ false → (status.Unread ≡ st → ⊥) → IsAnswered words r (Full st) → Refuses files words st
  refuses files st told h n run = elim (told_run files words r (Full st) told run) [
    | inl k ↦ (let (f, w, same) = refused_work st (work_on (opened_in files words)) k.ends.0 h in record { fault = f; first = w; same = same })
    | inr k ↦ absurd (n (sym k.ends.0))
  ]

  at_end : (st : Status) (end : End) → end ≡ Full st → IsAnswered words r end → IsAnswered words r (Full st)
  at_end st end e run = subst (IsAnswered words r) e run

  not_full : (st : Status) (end : End) → end ≡ Full st → IsWanting r end → ⊥
  not_full st end e wants = by (subst (λ (x : End). (x ≡ SinkFailed) ⊎ (x ≡ NoMemory)) e wants.end_is)
    where
      by : (Full st ≡ SinkFailed) ⊎ (Full st ≡ NoMemory) → ⊥
      by (inl e) = cc
      by (inr e) = cc

  -- a run with a status of its own was answered
  full : (st : Status) (end : End) → end ≡ Full st → RunsTo words r end → IsAnswered words r (Full st)
  full st end e (inl run) = at_end st end e run
  full st end e (inr wants) = absurd (not_full st end e wants)

  module _ (end : End) (run : RunsTo words r end) where
    pub done_cause : code_of end ≡ 0 → OnTold r.files_before (λ files. Does files words true r)
    done_cause e = on_told (λ files. Does files words true r) r.files_before (λ files told. does files status.Done told refl (full status.Done end (end_done end e) run))

    pub not_all_cause : code_of end ≡ 10 → OnTold r.files_before (λ files. Does files words false r)
    not_all_cause e = on_told (λ files. Does files words false r) r.files_before (λ files told. does files status.NotAll told refl (full status.NotAll end (end_notall end e) run))

    pub words_cause : code_of end ≡ 1 → OnTold r.files_before (λ files. Refuses files words status.Words)
    words_cause e = on_told (λ files. Refuses files words status.Words) r.files_before (λ files told. refuses files status.Words told refl (λ h. cc) (full status.Words end (end_words end e) run))

    pub model_cause : code_of end ≡ 2 → OnTold r.files_before (λ files. Refuses files words status.Model)
    model_cause e = on_told (λ files. Refuses files words status.Model) r.files_before (λ files told. refuses files status.Model told refl (λ h. cc) (full status.Model end (end_model end e) run))

    pub absent_cause : code_of end ≡ 3 → OnTold r.files_before (λ files. Refuses files words status.Absent)
    absent_cause e = on_told (λ files. Refuses files words status.Absent) r.files_before (λ files told. refuses files status.Absent told refl (λ h. cc) (full status.Absent end (end_absent end e) run))

    pub group_cause : code_of end ≡ 9 → OnTold r.files_before (λ files. Refuses files words status.Group)
    group_cause e = on_told (λ files. Refuses files words status.Group) r.files_before (λ files told. refuses files status.Group told refl (λ h. cc) (full status.Group end (end_group end e) run))

    pub unread_cause : code_of end ≡ 4 → FolderRose r
    unread_cause e =
        let run = full status.Unread end (end_unread end e) run in
        unread_rose r.files_before (FolderRose r) run.from words run.is (opened (given run.from) words) refl run.ends.0

  unwritten : (end : End) → end ≡ WriteFailed → RunsTo words r end → FolderRose r
  unwritten end e (inl run) = (subst (IsAnswered words r) e run).ends.0
  unwritten end e (inr wants) = absurd (by (subst (λ (x : End). (x ≡ SinkFailed) ⊎ (x ≡ NoMemory)) e wants.end_is))
    where
      by : (WriteFailed ≡ SinkFailed) ⊎ (WriteFailed ≡ NoMemory) → ⊥
      by (inl e) = cc
      by (inr e) = cc

  sink_failed : (end : End) → end ≡ SinkFailed → RunsTo words r end → SinkRose r
  sink_failed end e (inl run) = (subst (IsAnswered words r) e run).ends.0
  sink_failed end e (inr wants) = (subst (IsWanting r) e wants).ends.0

  pub unwritten_cause : (end : End) → RunsTo words r end → code_of end ≡ 5 → FolderRose r
  unwritten_cause end run e = unwritten end (end_write end e) run

  pub sink_cause : (end : End) → RunsTo words r end → code_of end ≡ 6 → SinkRose r
  sink_cause end run e = sink_failed end (end_sink end e) run

  -- ---- where neither count rose

  complete_by : (files : Files) (end : End) → r.files_before ≡ Some files → RunsTo words r end → (FolderRose r → ⊥) → (SinkRose r → ⊥) → Completes (answer_on (opened_in files words)) r (code_of end)
  complete_by files (Full st) told run folder sink = elim (told_run files words r (Full st) told (full st (Full st) refl run)) [
    | inl k ↦ inl (ap status_code k.ends.0, k.ends.1, k.ends.2)
    | inr k ↦ absurd (folder k.rose)
  ]
  complete_by files WriteFailed told run folder sink = absurd (folder (unwritten WriteFailed refl run))
  complete_by files SinkFailed told run folder sink = absurd (sink (sink_failed SinkFailed refl run))
  complete_by files NoMemory told run folder sink = inr refl

  pub complete_cause : (end : End) → RunsTo words r end → OnTold r.files_before (λ files. (FolderRose r → ⊥) → (SinkRose r → ⊥) → Completes (answer_on (opened_in files words)) r (code_of end))
  complete_cause end run =
      on_told (λ files. (FolderRose r → ⊥) → (SinkRose r → ⊥) → Completes (answer_on (opened_in files words)) r (code_of end)) r.files_before (λ files told. complete_by files end told run)
