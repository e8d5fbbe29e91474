-- What a run tells of the groups of its model.
use Rattle.std.proofs.Common.{◌≡◌, ◌⊎◌, inl, inr, ℕ, List, [], ◌∷◌, ◌++◌, map, Bool, true, false, Option, Some, None, Result, Ok, Err, refl, sym, ap, ◌∙◌, append-nil, subst}
use Rattle.std.specs.Prelude.{codes, if◌then◌else◌}
use Rattle.std.specs.List.{All}
use Rattle.std.specs.Option.{ok_or}
use Rattle.std.specs.Str.{bytes_eq}
use Rattle.std.proofs.lemmas.Bool.{cases_Bool}
use Rattle.std.proofs.lemmas.Grind.{flat_map-append}
use Rattle.sk_num.specs.Scale.{IsScale, IsScale-36, IsScale-44}
use Rattle.sk_files.specs.Files.{Files, OnTold}
use Rattle.sk_files.specs.Taken.{Takes}
use Rattle.sk_records.specs.Laws.ReadSound.{text_sound}
use Rattle.sk_records.specs.Reading.{read_text}
use Rattle.sk_records.specs.Written.{IsText}
use Rattle.sk_types.specs.declared.group.Group.{Group}
use Rattle.sk_model.specs.Models.{Modelled}
use Rattle.sk_model.specs.Typed.{typed}
use Rattle.sk_link.specs.declared.fault.PartFault.{PartFault}
use Rattle.sk_link.specs.declared.parts.Part.{Part}
use Rattle.sk_link.specs.Chain.{then_of, with_err}
use Rattle.sk_link.specs.Parts.{names_of}
use Rattle.sk_link.specs.Replies.{replies_in}
use Rattle.sk_chain.specs.Known.{IsReadPart}
use Rattle.sk_chain.specs.Outlines.{outlined}
use Rattle.sk_dxf.specs.Drawing.{drawing}
use Rattle.sk_regen.specs.CertifiedLaws.{ComesOutLaw}
use Rattle.sk_regen.specs.SoundLaws.{ModelLaw, ReadLaw}
use Rattle.sk_report.specs.Block.{Block, printed}
use Rattle.sk_session.specs.declared.fault.TextFault.TheVariants.{Unread, Untyped}
use Rattle.sk_session.specs.Opening.{Present, linked_groups, model_of}
use Rattle.sk_app.specs.declared.status.End.{End}
use Rattle.sk_app.specs.declared.status.End.TheVariants.{Full, WriteFailed, SinkFailed, NoMemory}
use Rattle.sk_app.specs.Answer.{Accepted, IsSoundModel, Opened, Reads, Work, accepted, accepted_over, accepted_with, answer_on, answered, are_certified, commanded, done_status, drawn, from_files, opened, opened_at, opened_for, present_of, report_pieces, text_for, work_for, work_of}
use Rattle.sk_app.proofs.Blocks.{all_said, report_said, some_said, text_said}
use Rattle.sk_app.proofs.Causes.{on_told, told_run}
use Rattle.sk_app.specs.Command.{Asked, Command, Draw, Make, Regen, Report, asked_of, at_scale, command_of}
use Rattle.sk_app.specs.Ends.{AreBoxesSound, Ends, IsAnswered, Run, RunsTo, code_of, joined, opened_in, status_code, write_line}
use Rattle.sk_app.specs.Fault.{Fault, BadWords, BadText, BadModel, BadPart, BadPartNumber, Absent, NoGroup, fault_status, model_fault, part_fault}
use Rattle.sk_app.specs.Fault as fault
use Rattle.sk_app.specs.Headline.{AreBlocks, Headline, IsReported, is_reporting}

-- ---- what an accepted model holds

same_ok : {A E : Type 0} {x y : A} → (let r : Result A E = Ok x in r) ≡ Ok y → x ≡ y
same_ok h = cc

then_ok : {T U E : Type 0} (x : Result T E) (f : T → Result U E) (y : U) → then_of x f ≡ Ok y → (t : T) × (x ≡ Ok t) × (f t ≡ Ok y)
then_ok (Ok t) f y e = (t, refl, e)
then_ok (Err h) f y e = absurd (cc e)

err_ok : {A E F : Type 0} (f : E → F) (x : Result A E) (a : A) → with_err f x ≡ Ok a → x ≡ Ok a
err_ok f (Ok b) a e = ap (λ (c : _). Ok c) (same_ok e)
err_ok f (Err h) a e = absurd (cc e)

chosen : {A E : Type 0} (b : Bool) (x : Result A E) (h : E) (a : A) → (if b then x else Err h) ≡ Ok a → x ≡ Ok a
chosen true x h a e = e
chosen false x h a e = absurd (cc e)

-- its blocks are those of a text, with what they have as a typed model; its parts were read, and it is outlined over them
record IsAccepted {s : ℕ} (parts : List (Group s) → Result (List (Part s)) PartFault) (a : Accepted s) : Type 0 where
  text : IsText a.model.blocks
  is : typed s a.model.blocks ≡ Ok a.model.lists
  given : parts (linked_groups a.model.lists.groups) ≡ Ok a.parts
  outline : outlined a.parts a.model.lists ≡ Ok a.outlined

-- the blocks of a text
record IsModelled {s : ℕ} (m : Modelled s) : Type 0 where
  text : IsText m.blocks
  is : typed s m.blocks ≡ Ok m.lists

modelled : (s : ℕ) (text : List ℕ) (m : Modelled s) → model_of s text ≡ Ok m → IsModelled m
unfolding model_of
modelled s text m e =
    let (bs, read, rest) = then_ok (with_err Unread (read_text text)) (λ bs. then_of (with_err Untyped (typed s bs)) (λ l. Ok (record { blocks = bs; lists = l }))) m e in
    let (l, is, last) = then_ok (with_err Untyped (typed s bs)) (λ l. Ok (record { blocks = bs; lists = l })) m rest in
    subst IsModelled (same_ok last) (record {
      text = text_sound text bs (chosen _ _ _ bs (err_ok Unread (read_text text) bs read));
      is = err_ok Untyped (typed s bs) l is;
    })

is_accepted : (s : ℕ) (parts : List (Group s) → Result (List (Part s)) PartFault) (text : List ℕ) (a : Accepted s) → accepted s parts text ≡ Ok a → IsAccepted parts a
unfolding accepted accepted_over accepted_with
is_accepted s parts text a e =
    let (m, read, over) = then_ok (with_err model_fault (model_of s text)) (accepted_over parts) a e in
    let (ps, given, rest) = then_ok (with_err (part_fault m.lists.groups) (parts (linked_groups m.lists.groups))) (accepted_with m) a over in
    let (o, outline, last) = then_ok (with_err BadModel (outlined ps m.lists)) (λ o. Ok (record { model = m; parts = ps; outlined = o })) a rest in
    let is = modelled s text m (err_ok model_fault (model_of s text) m read) in
    subst (IsAccepted parts) (same_ok last) (record {
      text = is.text;
      is = is.is;
      given = err_ok (part_fault m.lists.groups) (parts (linked_groups m.lists.groups)) ps given;
      outline = err_ok BadModel (outlined ps m.lists) o outline;
    })

-- ---- the scale of its numbers

same_some : {A : Type 0} {x y : A} → Some x ≡ Some y → x ≡ y
same_some h = cc

some_of : {A E : Type 0} (o : Option A) (h : E) (a : A) → ok_or o h ≡ Ok a → o ≡ Some a
some_of None h a e = absurd (cc e)
some_of (Some b) h a e = ap (λ (c : _). Some c) (same_ok e)

scaled_at : (n : ℕ) → IsScale n → (command : Option Command) (asked : Asked) → at_scale n command ≡ Some asked → IsScale asked.scale
scaled_at n scale None asked e = absurd (cc e)
scaled_at n scale (Some command) asked e = subst (λ (x : Asked). IsScale x.scale) (same_some e) scale

scaled : (words : List (List ℕ)) (asked : Asked) → asked_of words ≡ Some asked → IsScale asked.scale
scaled [] asked e = absurd (cc e)
scaled (word ∷ words) asked e = by (bytes_eq word (codes "fine")) e
  where
    by : (fine : Bool) → (if fine then at_scale 44 (command_of words) else at_scale 36 (command_of (word ∷ words))) ≡ Some asked → IsScale asked.scale
    by true e = scaled_at 44 IsScale-44 (command_of words) asked e
    by false e = scaled_at 36 IsScale-36 (command_of (word ∷ words)) asked e

-- ---- its report

-- the parts are read
abbrev AreRead : Reads → Type 0
AreRead r = (s : ℕ) (gs : List (Group s)) (ps : List (Part s)) → r.parts s gs ≡ Ok ps → All IsReadPart ps

-- What is opened for words is said group by group.
pub opened_said : ComesOutLaw → ModelLaw → (r : Reads) → AreRead r → (words : List (List ℕ)) (o : Opened) → opened r words ≡ Ok o → IsSoundModel o.accepted
    → AreBlocks o.accepted (map printed (present_of o.accepted).report)
unfolding opened opened_for
opened_said comes again r read words o e =
    let (asked, command, rest) = then_ok (commanded words) (opened_for r) o e in
    let (text, texts, over) = then_ok (text_for r.file asked.command) (λ text. opened_at asked text r) o rest in
    let (a, is, last) = then_ok (accepted asked.scale (r.parts asked.scale) text) (λ a. Ok (record { asked = asked; accepted = a })) o over in
    let held = is_accepted asked.scale (r.parts asked.scale) text a is in
    let scale = scaled words asked (some_of (asked_of words) BadWords asked command) in
    subst (λ (x : Opened). IsSoundModel x.accepted → AreBlocks x.accepted (map printed (present_of x.accepted).report)) (same_ok last)
    (λ sound. report_said asked.scale scale comes again a (read asked.scale (linked_groups a.model.lists.groups) a.parts held.given) held.text held.is held.outline sound)

-- ---- what a command that puts a report does

-- its pieces are the report's, and it tells whether all groups are certified
pub record PutsReport {s : ℕ} (p : Present s) (w : Work) : Type 0 where
  pub pieces : w.pieces ≡ report_pieces p.report
  pub all : w.all ≡ are_certified p.report

puts : {s : ℕ} (command : Command) (p : Present s) (w : Work) → work_for command p ≡ Ok w → is_reporting command ≡ true → PutsReport p w
puts (Report model) p w e h = record { pieces = ap (λ (w : Work). w.pieces) (sym (same_ok e)); all = ap (λ (w : Work). w.all) (sym (same_ok e)) }
puts (Regen model out) p w e h = record { pieces = ap (λ (w : Work). w.pieces) (sym (same_ok e)); all = ap (λ (w : Work). w.all) (sym (same_ok e)) }
puts (Draw model group out) p w e h = by (drawing p.model.lists.groups p.outline.entities p.numbers.acts (record { 0 = group })) e
  where
    by : (o : Option (List ℕ)) → drawn p out group o ≡ Ok w → PutsReport p w
    by None e = absurd (cc e)
    by (Some text) e = record { pieces = ap (λ (w : Work). w.pieces) (sym (same_ok e)); all = ap (λ (w : Work). w.all) (sym (same_ok e)) }
puts (Make n out) p w e h = absurd (cc h)

-- ---- what a run leaves

module _ {s : ℕ} (a : Accepted s) (said : AreBlocks a (map printed (present_of a).report)) where
  abbrev blocks : List Block
  blocks = map printed (present_of a).report

  is_reported : (r : Run) (w : Work) (behind : List ℕ) (bytes : List ℕ) → PutsReport (present_of a) w → bytes ≡ joined w.pieces ++ behind → Takes r.taken_before r.taken bytes → IsReported a r behind blocks
  is_reported r w behind bytes put is taken = record {
    said = said;
    taken = subst (Takes r.taken_before r.taken) (is ∙ ap (λ (pieces : List (List ℕ)). joined pieces ++ behind) put.pieces ∙ ap (λ (t : List ℕ). t ++ behind) (text_said (present_of a).report)) taken;
  }

  -- all pieces were taken
  is_done : (r : Run) (w : Work) (status : ℕ) → PutsReport (present_of a) w → status ≡ status_code (done_status w.all) → Takes r.taken_before r.taken (joined w.pieces) → Headline a r status
  is_done r w status put is taken = record {
    all = λ e. (blocks, reported, all_said (present_of a).report (elim (cases_Bool w.all) [ inl y ↦ sym put.all ∙ y | inr n ↦ absurd (not_zero n (sym is ∙ e)) ]));
    some = λ e. (blocks, reported, some_said (present_of a).report (elim (cases_Bool w.all) [ inl y ↦ absurd (not_ten y (sym is ∙ e)) | inr n ↦ sym put.all ∙ n ]));
    unwritten = λ e. absurd (not_five (sym is ∙ e));
  }
    where
      reported : IsReported a r [] blocks
      reported = is_reported r w [] (joined w.pieces) put (sym (append-nil (joined w.pieces))) taken

      not_zero : w.all ≡ false → status_code (done_status w.all) ≡ 0 → ⊥
      not_zero n e = (let no : 10 ≡ 0 = rw n at e in cc no)

      not_ten : w.all ≡ true → status_code (done_status w.all) ≡ 10 → ⊥
      not_ten y e = (let no : 0 ≡ 10 = rw y at e in cc no)

      not_five : status_code (done_status w.all) ≡ 5 → ⊥
      not_five e = elim (cases_Bool w.all) [
        | inl y ↦ (let no : 0 ≡ 5 = rw y at e in cc no)
        | inr n ↦ (let no : 10 ≡ 5 = rw n at e in cc no)
      ]

  -- all pieces were taken, and the line on the write
  is_unwritten : (r : Run) (w : Work) → PutsReport (present_of a) w → Takes r.taken_before r.taken (joined (w.pieces ++ write_line w.file)) → Headline a r 5
  is_unwritten r w put taken = record {
    all = λ e. absurd (cc e);
    some = λ e. absurd (cc e);
    unwritten = λ e. (blocks, joined (write_line w.file), is_reported r w (joined (write_line w.file)) (joined (w.pieces ++ write_line w.file)) put (flat_map-append (λ (piece : List ℕ). piece) w.pieces (write_line w.file)) taken);
  }

-- no status that tells of a report
is_other : {s : ℕ} (a : Accepted s) (r : Run) (status : ℕ) → (status ≡ 0 → ⊥) → (status ≡ 10 → ⊥) → (status ≡ 5 → ⊥) → Headline a r status
is_other a r status zero ten five = record {
  all = λ e. absurd (zero e);
  some = λ e. absurd (ten e);
  unwritten = λ e. absurd (five e);
}

refused_status : (f : Fault) (n : ℕ) → n ≡ status_code (fault_status f) → (n ≡ 0 → ⊥) × (n ≡ 10 → ⊥) × (n ≡ 5 → ⊥)
refused_status BadWords n e = (λ i. cc (e, i), λ i. cc (e, i), λ i. cc (e, i))
refused_status (BadText f) n e = (λ i. cc (e, i), λ i. cc (e, i), λ i. cc (e, i))
refused_status (BadModel f) n e = (λ i. cc (e, i), λ i. cc (e, i), λ i. cc (e, i))
refused_status (BadPart name f) n e = (λ i. cc (e, i), λ i. cc (e, i), λ i. cc (e, i))
refused_status (BadPartNumber name m) n e = (λ i. cc (e, i), λ i. cc (e, i), λ i. cc (e, i))
refused_status (Absent name) n e = (λ i. cc (e, i), λ i. cc (e, i), λ i. cc (e, i))
refused_status (fault.Unread name) n e = (λ i. cc (e, i), λ i. cc (e, i), λ i. cc (e, i))
refused_status (NoGroup h) n e = (λ i. cc (e, i), λ i. cc (e, i), λ i. cc (e, i))

-- How a run ends on a model that is accepted, where its command puts a report. A write fails only where there is one.
module _ (r : Run) (written : (f : Fault) → Ends (answered (Err f)) r WriteFailed → ⊥) where
  -- a run that is refused tells of no group
  pub headline_refused : {s : ℕ} (a : Accepted s) (f : Fault) (end : End) → Ends (answered (Err f)) r end → Headline a r (code_of end)
  headline_refused a f (Full status) ends = (let no = refused_status f (status_code status) (ap status_code ends.0) in is_other a r (status_code status) no.0 no.1 no.2)
  headline_refused a f WriteFailed ends = absurd (written f ends)
  headline_refused a f SinkFailed ends = is_other a r 6 (λ e. cc e) (λ e. cc e) (λ e. cc e)
  headline_refused a f NoMemory ends = is_other a r 7 (λ e. cc e) (λ e. cc e) (λ e. cc e)

  by_work : (o : Opened) → is_reporting o.asked.command ≡ true → AreBlocks o.accepted (map printed (present_of o.accepted).report) → (w : Result Work Fault) → work_of o ≡ w → (end : End)
      → Ends (answered w) r end → Headline o.accepted r (code_of end)
  by_work o reporting said (Ok w) is (Full status) ends = is_done o.accepted said r w (status_code status) (puts o.asked.command (present_of o.accepted) w is reporting) (ap status_code ends.0) ends.1
  by_work o reporting said (Ok w) is WriteFailed ends = is_unwritten o.accepted said r w (puts o.asked.command (present_of o.accepted) w is reporting) ends.1
  by_work o reporting said (Ok w) is SinkFailed ends = is_other o.accepted r 6 (λ e. cc e) (λ e. cc e) (λ e. cc e)
  by_work o reporting said (Ok w) is NoMemory ends = is_other o.accepted r 7 (λ e. cc e) (λ e. cc e) (λ e. cc e)
  by_work o reporting said (Err f) is end ends = headline_refused o.accepted f end ends

  pub headline_said : (o : Opened) (end : End) → is_reporting o.asked.command ≡ true → AreBlocks o.accepted (map printed (present_of o.accepted).report)
      → Ends (answer_on (Ok o)) r end → Headline o.accepted r (code_of end)
  headline_said o end reporting said ends = by_work o reporting said (work_of o) refl end ends

  -- over files that are told
  pub headline_told : ComesOutLaw → ModelLaw → ReadLaw → (files : Files) (words : List (List ℕ)) (end : End) → Ends (answer_on (opened_in files words)) r end → AreBoxesSound (opened_in files words) end
      → (o : Opened) → opened_in files words ≡ Ok o → is_reporting o.asked.command ≡ true → Headline o.accepted r (code_of end)
  headline_told comes again reads files words end ends sound o is reporting =
      by_end end (subst (λ (x : Result Opened Fault). Ends (answer_on x) r end) is ends) (subst (λ (x : Result Opened Fault). AreBoxesSound x end) is sound)
      (opened_said comes again (from_files files) (λ s gs ps e. reads s gs (replies_in files (names_of gs)) ps e) words o is)
    where
      by_end : (end : End) → Ends (answer_on (Ok o)) r end → AreBoxesSound (Ok o) end → (IsSoundModel o.accepted → AreBlocks o.accepted (map printed (present_of o.accepted).report))
          → Headline o.accepted r (code_of end)
      by_end (Full status) ends sound said = headline_said o (Full status) reporting (said sound) ends
      by_end WriteFailed ends sound said = headline_said o WriteFailed reporting (said sound) ends
      by_end SinkFailed ends sound said = is_other o.accepted r 6 (λ e. cc e) (λ e. cc e) (λ e. cc e)
      by_end NoMemory ends sound said = is_other o.accepted r 7 (λ e. cc e) (λ e. cc e) (λ e. cc e)

-- ---- whatever the folder gave

-- only a file that is named can fail to be written
unwritten : (r : Run) (f : Fault) → Ends (answered (Err f)) r WriteFailed → ⊥
unwritten r f ends = ends.2

headline_answered : ComesOutLaw → ModelLaw → ReadLaw → (words : List (List ℕ)) (r : Run) (end : End) → IsAnswered words r end
    → OnTold r.files_before (λ files. (o : Opened) → opened_in files words ≡ Ok o → is_reporting o.asked.command ≡ true → Headline o.accepted r (code_of end))
headline_answered comes again reads words r end run =
    on_told (λ files. (o : Opened) → opened_in files words ≡ Ok o → is_reporting o.asked.command ≡ true → Headline o.accepted r (code_of end)) r.files_before
    (λ files told o is reporting. elim (told_run files words r end told run) [
      | inl k ↦ headline_told r (unwritten r) comes again reads files words end k.ends k.sound o is reporting
      | inr k ↦ headline_refused r (unwritten r) o.accepted (fault.Unread k.name) end k.ends
    ])

-- a run that wanted memory before the first put has another status
wanting_said : {s : ℕ} (a : Accepted s) (r : Run) (end : End) → (end ≡ SinkFailed) ⊎ (end ≡ NoMemory) → Headline a r (code_of end)
wanting_said a r end (inl e) = subst (λ (x : End). Headline a r (code_of x)) (sym e) (is_other a r 6 (λ e. cc e) (λ e. cc e) (λ e. cc e))
wanting_said a r end (inr e) = subst (λ (x : End). Headline a r (code_of x)) (sym e) (is_other a r 7 (λ e. cc e) (λ e. cc e) (λ e. cc e))

pub headline_cause : ComesOutLaw → ModelLaw → ReadLaw → (words : List (List ℕ)) (r : Run) (end : End) → RunsTo words r end
    → OnTold r.files_before (λ files. (o : Opened) → opened_in files words ≡ Ok o → is_reporting o.asked.command ≡ true → Headline o.accepted r (code_of end))
headline_cause comes again reads words r end (inl run) = headline_answered comes again reads words r end run
headline_cause comes again reads words r end (inr wants) =
    on_told (λ files. (o : Opened) → opened_in files words ≡ Ok o → is_reporting o.asked.command ≡ true → Headline o.accepted r (code_of end)) r.files_before
    (λ files told o is reporting. wanting_said o.accepted r end wants.end_is)
