-- What a folder gave for names, one behind the other, and what comes of it.
use Rattle.std.proofs.Common.{◌≡◌, ◌⊎◌, inl, inr, ℕ, ◌+◌, ◌≤◌, ◌<◌, List, [], ◌∷◌, ◌++◌, length, get_or, drop, suc, Option, Some, None, Result, Ok, Err, refl, sym, ap, subst, ◌∙◌, add-one, drop-cons, append_assoc, arith}
use Rattle.std.proofs.lemmas.List.{append-nil, drop_all}
use Rattle.sk_files.specs.Outcome.{Rose}
use Rattle.std.specs.declared.vec.Vec.{Vec}
use Rattle.sk_files.specs.Files.{Files, held, IsTheRead, OnTold}
use Rattle.sk_types.specs.declared.handle.GroupId.{GroupId}
use Rattle.sk_types.specs.declared.entity.Entity.{Entity}
use Rattle.sk_types.specs.declared.group.Group.{Group}
use Rattle.sk_records.specs.Answers.{IsAnswer}
use Rattle.sk_link.specs.declared.fault.PartFault.{PartFault}
use Rattle.sk_link.specs.declared.fault.PartFault.TheVariants.{PartAbsent, PartRead, PartText, PartNumber, NoMemory}
use Rattle.sk_link.specs.declared.fault.Refusal.{Refusal}
use Rattle.sk_link.specs.declared.fault.Refusal.TheVariants as refusal
use Rattle.sk_link.specs.declared.parts.Part.{Part}
use Rattle.sk_link.specs.Chain.{then_of, with_err}
use Rattle.sk_link.specs.Faults.{fault_at}
use Rattle.sk_link.specs.Part.{part_in}
use Rattle.sk_link.specs.Replies.{Reply, Broke, NoFile, Gave, IsReply, AreReplies, found, replies_in}
use Rattle.sk_link.specs.Parts.{names_of, part_of, parts_of, parts_in, Reads, ReadsOne, IsReached, IsTheFirst}

-- ---- replies

reply_weaker : (told : Option Files) (name : List ℕ) {A B : Type 0} → (A → B) → (r : Reply) → IsReply told name A r → IsReply told name B r
reply_weaker told name f Broke h = f h
reply_weaker None name f NoFile h = tt
reply_weaker (Some files) name f NoFile h = h
reply_weaker None name f (Gave bytes) h = tt
reply_weaker (Some files) name f (Gave bytes) h = h

replies_weaker : (told : Option Files) {A B : Type 0} → (A → B) → (names : List (List ℕ)) (rs : List Reply) → AreReplies told A names rs → AreReplies told B names rs
replies_weaker told f [] rs h = h
replies_weaker told f (n ∷ ns) [] h = absurd h
replies_weaker told f (n ∷ ns) (r ∷ rs) h = (reply_weaker told n f r h.0, replies_weaker told f ns rs h.1)

reply_held : (files : Files) (name : List ℕ) (A : Type 0) (o : Option (List ℕ)) → held files name ≡ o → (r : Reply) × IsReply (Some files) name A r
reply_held files name A None e = (NoFile, e)
reply_held files name A (Some bytes) e = (Gave bytes, e)

-- some reply would have come
some_reply : (told : Option Files) (name : List ℕ) (A : Type 0) → (r : Reply) × IsReply told name A r
some_reply None name A = (NoFile, tt)
some_reply (Some files) name A = reply_held files name A (held files name) refl

some_replies : (told : Option Files) (A : Type 0) (names : List (List ℕ)) → (rs : List Reply) × AreReplies told A names rs
some_replies told A [] = ([], refl)
some_replies told A (n ∷ ns) =
    let r = some_reply told n A in
    let rs = some_replies told A ns in
    (r.0 ∷ rs.0, (r.1, rs.1))

pub gave_reply : {V : Type 0} (told : Option Files) (name : List ℕ) (A : Type 0) (v : Vec ℕ V) → IsTheRead told name (Some v) → IsReply told name A (Gave v.items)
gave_reply None name A v e = tt
gave_reply (Some files) name A v e = sym e

-- ---- parts, over replies

-- want of memory at a read
pub one_memory : {s : ℕ} (told : Option Files) (A : Type 0) (g : Group s) → ReadsOne s told A g (Err NoMemory)
one_memory told A g =
    let r = some_reply told g.part A in
    record { reply = r.0; given = r.1; answer = inl refl }

rose_earlier : (before mid now : ℕ) → before ≤ mid → Rose mid now → Rose before now
rose_earlier before mid now l r = omega (arith, l, r)

rose_later : (before now end : ℕ) → now ≤ end → Rose before now → Rose before end
rose_later before now end l r = omega (arith, l, r)

-- The groups before the i-th are read: with replies for the others, the parts of all are these and those behind them.
pub record SoFar (s : ℕ) (told : Option Files) (before now : ℕ) (gs : List (Group s)) (i : ℕ) (parts : List (Part s)) : Type 0 where
  pub done : List Reply
  pub later : before ≤ now
  pub given : (end : ℕ) → now ≤ end → (rest : List Reply) → AreReplies told (Rose before end) (names_of (drop i gs)) rest → AreReplies told (Rose before end) (names_of gs) (done ++ rest)
  pub made : (rest : List Reply) → parts_of s gs (done ++ rest) ≡ then_of (parts_of s (drop i gs) rest) (λ ps. Ok (parts ++ ps))

module _ {s : ℕ} (told : Option Files) (before : ℕ) (gs : List (Group s)) where
  same_behind : (m : Result (List (Part s)) PartFault) → m ≡ then_of m (λ ps. Ok ([] ++ ps))
  same_behind (Ok ps) = refl
  same_behind (Err e) = refl

  -- nothing is read
  pub nothing_read : SoFar s told before before gs 0 []
  nothing_read = record {
    done = [];
    later = omega arith;
    given = λ end l rest h. h;
    made = λ rest. same_behind (parts_of s gs rest);
  }

  part_behind : (m : Result (List (Part s)) PartFault) (p : Part s) (parts : List (Part s)) →
      then_of (then_of m (λ ps. Ok (p ∷ ps))) (λ ps. Ok (parts ++ ps)) ≡ then_of m (λ ps. Ok ((parts ++ p ∷ []) ++ ps))
  part_behind (Ok ps) p parts = ap Ok (sym (append_assoc parts (p ∷ []) ps))
  part_behind (Err e) p parts = refl

  module _ (mid i : ℕ) (parts : List (Part s)) (far : SoFar s told before mid gs i parts) where
    -- want of memory
    pub memory_reads : (now : ℕ) → mid ≤ now → Reads s told (Rose before now) gs (Err NoMemory)
    memory_reads now later =
        let rest = some_replies told (Rose before now) (names_of (drop i gs)) in
        record { replies = far.done ++ rest.0; given = far.given now later rest.0 rest.1; answer = inl refl }

    module _ (now : ℕ) (d g : Group s) (l : i < length gs) (at : g ≡ get_or gs i d) (later : mid ≤ now) (result : Result (List (Entity s)) PartFault) (one : ReadsOne s told (Rose mid now) g result) where
      next : drop i gs ≡ g ∷ drop (suc i) gs
      next = drop-cons gs i d l ∙ ap (λ (x : Group s). x ∷ drop (suc i) gs) (sym at)

      all_given : (end : ℕ) → now ≤ end → (rest : List Reply) → AreReplies told (Rose before end) (names_of (drop (suc i) gs)) rest → AreReplies told (Rose before end) (names_of gs) (far.done ++ one.reply ∷ rest)
      all_given end k rest h =
          far.given end (omega arith) (one.reply ∷ rest)
          (rw next (reply_weaker told g.part (λ (r : Rose mid now). rose_later before now end k (rose_earlier before mid now far.later r)) one.reply one.given, h))

      -- a fault at the i-th
      pub fault_reads : (f : PartFault) → result ≡ Err f → Reads s told (Rose before now) gs (Err f)
      fault_reads f e =
          let rest = some_replies told (Rose before now) (names_of (drop (suc i) gs)) in
          record {
            replies = far.done ++ one.reply ∷ rest.0;
            given = all_given now (omega arith) rest.0 rest.1;
            answer = by_cause (rw e at one.answer) rest.0;
          }
        where
          by_cause : (f ≡ NoMemory) ⊎ (part_of s g.id one.reply ≡ Err f) → (rest : List Reply) → (f ≡ NoMemory) ⊎ (parts_of s gs (far.done ++ one.reply ∷ rest) ≡ Err f)
          by_cause (inl n) rest = inl n
          by_cause (inr h) rest = inr (far.made (one.reply ∷ rest) ∙ rw (next, h) refl)

      -- the i-th is read
      pub part_read : (es : List (Entity s)) (more : List (Part s)) → result ≡ Ok es → more ≡ parts ++ record { group = g.id; entities = es } ∷ [] → SoFar s told before now gs (i + 1) more
      part_read es more e p = record {
        done = far.done ++ one.reply ∷ [];
        later = omega (arith, far.later);
        given = λ end k rest h. rw (append_assoc far.done (one.reply ∷ []) rest) (all_given end k rest (subst (λ (n : ℕ). AreReplies told (Rose before end) (names_of (drop n gs)) rest) (let same : i + 1 ≡ suc i = omega arith in same) h));
        made = λ rest. rw (append_assoc far.done (one.reply ∷ []) rest, add-one, p) (
            let h : part_of s g.id one.reply ≡ Ok es = rw e at one.answer in
            far.made (one.reply ∷ rest) ∙ rw (next, h) (part_behind (parts_of s (drop (suc i) gs) rest) (record { group = g.id; entities = es }) parts));
      }

    -- all are read
    pub all_reads : length gs ≤ i → Reads s told (Rose before mid) gs (Ok parts)
    all_reads over = record {
      replies = far.done ++ [];
      given = far.given mid (omega arith) [] (rw (drop_all i gs over) refl);
      answer = far.made [] ∙ rw (drop_all i gs over) (ap Ok (append-nil parts));
    }

-- ---- what the first fault is

not_read : (g h : GroupId) (f : Refusal) → fault_at g f ≡ PartRead h → ⊥
not_read g h (refusal.Text f) e = (cc)
not_read g h (refusal.Number n) e = (cc)
not_read g h refusal.NoMemory e = (cc)

nothing_before : (s : ℕ) (t : Option Files) → OnTold t (λ files. (ps : List (Part s)) × (parts_in s files [] ≡ Ok ps))
nothing_before s None = tt
nothing_before s (Some files) = ([], refl)

own_reply : (files : Files) (name : List ℕ) (o : Option (List ℕ)) → held files name ≡ o → IsReply (Some files) name ⊥ (found o)
own_reply files name None e = e
own_reply files name (Some bytes) e = e

own_replies : {s : ℕ} (files : Files) (gs : List (Group s)) → AreReplies (Some files) ⊥ (names_of gs) (replies_in files (names_of gs))
own_replies files [] = refl
own_replies files (g ∷ gs) = (own_reply files g.part (held files g.part) refl, own_replies files gs)

module _ {s : ℕ} where
  -- the parts of a group and of those behind it, in two steps
  abbrev with_part : GroupId → Result (List (Entity s)) PartFault → Result (List (Part s)) PartFault → Result (List (Part s)) PartFault
  with_part g m n = then_of m (λ es. then_of n (λ ps. Ok (record { group = g; entities = es } ∷ ps)))

  -- a failed read is of a group that was reached
  module _ (told : Option Files) (A : Type 0) (h : GroupId) where
    reached_behind : (g : Group s) (gs : List (Group s)) (bytes : List ℕ) (es : List (Entity s)) → IsReply told g.part A (Gave bytes) → part_in s bytes ≡ Ok es → IsReached s told gs h → IsReached s told (g ∷ gs) h
    reached_behind g gs bytes es given e r = record {
      front = g ∷ r.front;
      group = r.group;
      back = r.back;
      whole = ap (λ (xs : List (Group s)). g ∷ xs) r.whole;
      same = r.same;
      before = told_before told g r.front bytes es given e r.before;
    }
      where
        told_before : (told : Option Files) (g : Group s) (front : List (Group s)) (bytes : List ℕ) (es : List (Entity s)) → IsReply told g.part A (Gave bytes) → part_in s bytes ≡ Ok es →
            OnTold told (λ files. (ps : List (Part s)) × (parts_in s files front ≡ Ok ps)) → OnTold told (λ files. (ps : List (Part s)) × (parts_in s files (g ∷ front) ≡ Ok ps))
        told_before None g front bytes es given e b = tt
        told_before (Some files) g front bytes es given e b = (record { group = g.id; entities = es } ∷ b.0, rw (given, e, b.1) refl)

    behind_err : (g : GroupId) (es : List (Entity s)) (n : Result (List (Part s)) PartFault) → then_of n (λ ps. Ok (record { group = g; entities = es } ∷ ps)) ≡ Err (PartRead h) → n ≡ Err (PartRead h)
    behind_err g es (Ok ps) e = absurd (cc)
    behind_err g es (Err f) e = cc

    read_behind : (g : Group s) (gs : List (Group s)) (rs : List Reply) (bytes : List ℕ) (m : Result (List (Entity s)) Refusal) → part_in s bytes ≡ m → IsReply told g.part A (Gave bytes) →
        (parts_of s gs rs ≡ Err (PartRead h) → A × IsReached s told gs h) → with_part g.id (with_err (fault_at g.id) m) (parts_of s gs rs) ≡ Err (PartRead h) → A × IsReached s told (g ∷ gs) h
    read_behind g gs rs bytes (Ok es) p one again e =
        let r = again (behind_err g.id es (parts_of s gs rs) e) in
        (r.0, reached_behind g gs bytes es one p r.1)
    read_behind g gs rs bytes (Err f) p one again e = absurd (not_read g.id h f (cc))

    pub read_reached : (gs : List (Group s)) (rs : List Reply) → AreReplies told A (names_of gs) rs → parts_of s gs rs ≡ Err (PartRead h) → A × IsReached s told gs h
    read_reached [] rs given e = absurd (cc)
    read_reached (g ∷ gs) [] given e = absurd given
    read_reached (g ∷ gs) (Broke ∷ rs) given e = (given.0, record { front = []; group = g; back = gs; whole = refl; same = cc; before = nothing_before s told })
    read_reached (g ∷ gs) (NoFile ∷ rs) given e = absurd (cc)
    read_reached (g ∷ gs) (Gave bytes ∷ rs) given e = read_behind g gs rs bytes (part_in s bytes) refl given.0 (read_reached gs rs given.1) e

  -- Over files that are told the parts are those that are held, unless the folder broke.
  module _ (files : Files) (A : Type 0) where
    abbrev pub IsBroken : List (Group s) → List Reply → Type 0
    IsBroken gs rs = A × ((h : GroupId) × (parts_of s gs rs ≡ Err (PartRead h)))

    held_behind : (g : GroupId) (m : Result (List (Entity s)) PartFault) (gs : List (Group s)) (rs : List Reply) → (parts_of s gs rs ≡ parts_in s files gs) ⊎ IsBroken gs rs →
        (with_part g m (parts_of s gs rs) ≡ with_part g m (parts_in s files gs)) ⊎ (A × ((h : GroupId) × (with_part g m (parts_of s gs rs) ≡ Err (PartRead h))))
    held_behind g m gs rs (inl e) = inl (ap (with_part g m) e)
    held_behind g (Err f) gs rs (inr b) = inl refl
    held_behind g (Ok es) gs rs (inr b) = inr (b.0, (b.1.0, rw b.1.1 refl))

    pub held_parts : (gs : List (Group s)) (rs : List Reply) → AreReplies (Some files) A (names_of gs) rs → (parts_of s gs rs ≡ parts_in s files gs) ⊎ IsBroken gs rs
    held_parts [] rs given = inl refl
    held_parts (g ∷ gs) [] given = absurd given
    held_parts (g ∷ gs) (Broke ∷ rs) given = inr (given.0, (g.id, refl))
    held_parts (g ∷ gs) (NoFile ∷ rs) given = inl (rw given.0 refl)
    held_parts (g ∷ gs) (Gave bytes ∷ rs) given = rw given.0 (held_behind g.id (with_err (fault_at g.id) (part_in s bytes)) gs rs (held_parts gs rs given.1))

    -- files alone don't fail
    pub not_broken : (gs : List (Group s)) (h : GroupId) → parts_in s files gs ≡ Err (PartRead h) → ⊥
    not_broken gs h e = (read_reached (Some files) ⊥ h gs (replies_in files (names_of gs)) (own_replies files gs) e).0

  -- ---- what the call answers

  pub reads_unread : (told : Option Files) (A : Type 0) (gs : List (Group s)) (result : Result (List (Part s)) PartFault) → Reads s told A gs result → (h : GroupId) → result ≡ Err (PartRead h) → A × IsReached s told gs h
  reads_unread told A gs (Ok ps) reads h e = absurd (cc)
  reads_unread told A gs (Err f) reads h e = read_reached told A h gs reads.replies reads.given (by_cause f (cc) reads.answer)
    where
      by_cause : (f : PartFault) → f ≡ PartRead h → (f ≡ NoMemory) ⊎ (parts_of s gs reads.replies ≡ Err f) → parts_of s gs reads.replies ≡ Err (PartRead h)
      by_cause f e (inl n) = absurd (cc)
      by_cause f e (inr p) = p ∙ ap Err e

  -- unless the folder broke, the answer is the one over files
  module _ (files : Files) (A : Type 0) (gs : List (Group s)) where
    ok_first : (ps : List (Part s)) (rs : List Reply) → parts_of s gs rs ≡ Ok ps → (parts_of s gs rs ≡ parts_in s files gs) ⊎ IsBroken files A gs rs → parts_in s files gs ≡ Ok ps
    ok_first ps rs p (inl e) = sym e ∙ p
    ok_first ps rs p (inr b) = absurd (let q = b.1.1 in cc)

    err_first : (f : PartFault) (rs : List Reply) → ((h : GroupId) → f ≡ PartRead h → ⊥) → (f ≡ NoMemory → ⊥) → (f ≡ NoMemory) ⊎ (parts_of s gs rs ≡ Err f) → (parts_of s gs rs ≡ parts_in s files gs) ⊎ IsBroken files A gs rs → parts_in s files gs ≡ Err f
    err_first f rs other known (inl n) k = absurd (known n)
    err_first f rs other known (inr p) (inl e) = sym e ∙ p
    err_first f rs other known (inr p) (inr b) = absurd (other b.1.0 (let q = b.1.1 in cc))

    pub reads_first : (result : Result (List (Part s)) PartFault) → Reads s (Some files) A gs result → IsTheFirst s files A gs result
    reads_first (Ok ps) reads = ok_first ps reads.replies reads.answer (held_parts files A gs reads.replies reads.given)
    reads_first (Err (PartAbsent g)) reads = err_first (PartAbsent g) reads.replies (λ h e. cc) (λ e. cc) reads.answer (held_parts files A gs reads.replies reads.given)
    reads_first (Err (PartRead g)) reads = reads_unread (Some files) A gs (Err (PartRead g)) reads g refl
    reads_first (Err (PartText g f)) reads = err_first (PartText g f) reads.replies (λ h e. cc) (λ e. cc) reads.answer (held_parts files A gs reads.replies reads.given)
    reads_first (Err (PartNumber g n)) reads = err_first (PartNumber g n) reads.replies (λ h e. cc) (λ e. cc) reads.answer (held_parts files A gs reads.replies reads.given)
    reads_first (Err NoMemory) reads = tt

    pub reads_complete : (result : Result (List (Part s)) PartFault) → Reads s (Some files) A gs result → (A → ⊥) → IsAnswer NoMemory result (parts_in s files gs)
    reads_complete result reads never = by_cause (held_parts files A gs reads.replies reads.given)
      where
        by_cause : (parts_of s gs reads.replies ≡ parts_in s files gs) ⊎ IsBroken files A gs reads.replies → IsAnswer NoMemory result (parts_in s files gs)
        by_cause (inl e) = subst (λ (m : Result (List (Part s)) PartFault). IsAnswer NoMemory result m) e reads.answer
        by_cause (inr b) = absurd (never b.0)

  -- the same, where files may be told
  pub first_told : (told : Option Files) (A : Type 0) (gs : List (Group s)) (result : Result (List (Part s)) PartFault) → Reads s told A gs result → OnTold told (λ files. IsTheFirst s files A gs result)
  first_told None A gs result reads = tt
  first_told (Some files) A gs result reads = reads_first files A gs result reads

  pub complete_told : (told : Option Files) (A : Type 0) (gs : List (Group s)) (result : Result (List (Part s)) PartFault) → Reads s told A gs result → OnTold told (λ files. (A → ⊥) → IsAnswer NoMemory result (parts_in s files gs))
  complete_told None A gs result reads = tt
  complete_told (Some files) A gs result reads = reads_complete files A gs result reads
