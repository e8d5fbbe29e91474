-- Over files that are told, what the folder gave is what they hold; or it failed at a read, and counted it.
use Rattle.std.proofs.Common.{◌≡◌, ◌⊎◌, inl, inr, ℕ, List, [], ◌∷◌, Option, Some, None, Result, Ok, Err, refl, sym, ap, ◌∙◌}
use Rattle.sk_files.specs.Files.{Files, held}
use Rattle.sk_types.specs.declared.entity.Entity.{Entity}
use Rattle.sk_types.specs.declared.group.Group.{Group}
use Rattle.sk_types.specs.declared.handle.GroupId.{GroupId}
use Rattle.sk_model.specs.Models.{Modelled}
use Rattle.sk_link.specs.declared.fault.PartFault.TheVariants.{PartRead}
use Rattle.sk_link.specs.declared.parts.Part.{Part}
use Rattle.sk_link.specs.Chain.{then_of, with_err}
use Rattle.sk_link.specs.Parts.{part_of, parts_of, parts_in, names_of}
use Rattle.sk_link.specs.Replies.{Reply, Broke, NoFile, Gave, AreReplies, found, replies_in}
use Rattle.sk_session.specs.declared.fault.TextFault.{TextFault}
use Rattle.sk_session.specs.Opening.{linked_groups, model_of}
use Rattle.sk_app.specs.Command.{Command, Report, Regen, Draw, Make, Asked, asked_of, model_name}
use Rattle.sk_app.specs.Fault.{Fault, Unread, model_fault, part_fault, part_name}
use Rattle.sk_app.specs.Answer.{Accepted, Given, Opened, given, from_files, text_for, accepted, accepted_over, accepted_with, opened_at, opened_for, opened}
use Rattle.sk_app.specs.Ends.{ArePartsRead, IsGiven, IsGivenFor, IsModelReply, opened_in}

-- ---- parts

-- one step: the entities of a group's part, then the parts of the other groups
module _ {E P Q : Type 0} (rose : Type 0) (read : GroupId → E) (pair : P → List Q → List Q) where
  abbrev pub SameOrRead : {A : Type 0} → Result A E → Result A E → Type 0
  SameOrRead {A} x y = (x ≡ y) ⊎ ((g : GroupId) × rose × (x ≡ Err (read g)))

  abbrev pub paired : Result P E → Result (List Q) E → Result (List Q) E
  paired p x = then_of p (λ es. then_of x (λ ps. Ok (pair es ps)))

  pub paired_same : (p : Result P E) (x y : Result (List Q) E) → SameOrRead x y → SameOrRead (paired p x) (paired p y)
  paired_same (Err e) x y same = inl refl
  paired_same (Ok es) x y (inl e) = inl (ap (λ z. then_of z (λ ps. Ok (pair es ps))) e)
  paired_same (Ok es) x y (inr (g, r, e)) = inr (g, r, ap (λ z. then_of z (λ ps. Ok (pair es ps))) e)

module _ (s : ℕ) (files : Files) (rose : Type 0) where
  abbrev with_part : GroupId → List (Entity s) → List (Part s) → List (Part s)
  with_part g es ps = record { group = g; entities = es } ∷ ps

  pub parts_told : (gs : List (Group s)) (replies : List Reply) → AreReplies (Some files) rose (names_of gs) replies → SameOrRead rose PartRead (with_part (record { 0 = 0 })) (parts_of s gs replies) (parts_in s files gs)
  parts_told [] replies are = inl refl
  parts_told (g ∷ gs) [] are = absurd are
  parts_told (g ∷ gs) (Broke ∷ replies) are = inr (g.id, are.0, refl)
  parts_told (g ∷ gs) (NoFile ∷ replies) are = inl (ap (λ (o : Option (List ℕ)). parts_of s (g ∷ gs) (found o ∷ replies_in files (names_of gs))) (sym are.0))
  parts_told (g ∷ gs) (Gave text ∷ replies) are =
      elim (paired_same rose PartRead (with_part g.id) (part_of s g.id (Gave text)) (parts_of s gs replies) (parts_in s files gs) (parts_told gs replies are.1)) [
        | inl e ↦ inl (e ∙ ap (λ (o : Option (List ℕ)). parts_of s (g ∷ gs) (found o ∷ replies_in files (names_of gs))) (sym are.0))
        | inr r ↦ inr r
      ]

-- ---- a model that is opened

-- the same, or the read of a name that failed
abbrev pub SameOrUnread : {A : Type 0} → Type 0 → Result A Fault → Result A Fault → Type 0
SameOrUnread rose x y = (x ≡ y) ⊎ ((name : List ℕ) × rose × (x ≡ Err (Unread name)))

module _ (s : ℕ) (files : Files) (rose : Type 0) (replies : List Reply) where
  over_told : (m : Modelled s) → ArePartsRead (Some files) rose (linked_groups m.lists.groups) replies →
      SameOrUnread rose (accepted_over (λ gs. parts_of s gs replies) m) (accepted_over (parts_in s files) m)
  unfolding accepted_over part_fault
  over_told m are = elim (parts_told s files rose (linked_groups m.lists.groups) replies are.are) [
    | inl e ↦ inl (ap (λ ps. then_of (with_err (part_fault m.lists.groups) ps) (accepted_with m)) e)
    | inr r ↦ inr (part_name m.lists.groups r.0, r.1, ap (λ ps. then_of (with_err (part_fault m.lists.groups) ps) (accepted_with m)) r.2)
  ]

  by_model : (r : Result (Modelled s) TextFault) → ((m : Modelled s) → r ≡ Ok m → ArePartsRead (Some files) rose (linked_groups m.lists.groups) replies) →
      SameOrUnread rose (then_of (with_err model_fault r) (accepted_over (λ gs. parts_of s gs replies))) (then_of (with_err model_fault r) (accepted_over (parts_in s files)))
  by_model (Err e) are = inl refl
  by_model (Ok m) are = over_told m (are m refl)

  pub accepted_told : (text : List ℕ) → ((m : Modelled s) → model_of s text ≡ Ok m → ArePartsRead (Some files) rose (linked_groups m.lists.groups) replies) →
      SameOrUnread rose (accepted s (λ gs. parts_of s gs replies) text) (accepted s (parts_in s files) text)
  unfolding accepted
  accepted_told text are = by_model (model_of s text) are

-- ---- the text

text_told : (files : Files) (rose : Type 0) (reply : Reply) (command : Command) → IsModelReply (Some files) rose (model_name command) reply →
    SameOrUnread rose (text_for (λ name. reply) command) (text_for (λ name. found (held files name)) command)
text_told files rose Broke (Report model) is = inr (model, is, refl)
text_told files rose NoFile (Report model) is = inl (rw is refl)
text_told files rose (Gave text) (Report model) is = inl (rw is refl)
text_told files rose Broke (Regen model out) is = inr (model, is, refl)
text_told files rose NoFile (Regen model out) is = inl (rw is refl)
text_told files rose (Gave text) (Regen model out) is = inl (rw is refl)
text_told files rose Broke (Draw model group out) is = inr (model, is, refl)
text_told files rose NoFile (Draw model group out) is = inl (rw is refl)
text_told files rose (Gave text) (Draw model group out) is = inl (rw is refl)
text_told files rose reply (Make n out) is = inl refl

-- ---- what a command is carried out on

module _ (files : Files) (rose : Type 0) (from : Given) where
  abbrev record_of : (asked : Asked) → Accepted asked.scale → Result Opened Fault
  record_of asked a = Ok (record { asked = asked; accepted = a })

  at_told : (asked : Asked) (text : List ℕ) → ((m : Modelled asked.scale) → model_of asked.scale text ≡ Ok m → ArePartsRead (Some files) rose (linked_groups m.lists.groups) from.parts) →
      SameOrUnread rose (opened_at asked text (given from)) (opened_at asked text (from_files files))
  at_told asked text are = elim (accepted_told asked.scale files rose from.parts text are) [
    | inl e ↦ inl (ap (λ a. then_of a (record_of asked)) e)
    | inr r ↦ inr (r.0, r.1, ap (λ a. then_of a (record_of asked)) r.2)
  ]

  by_text : (asked : Asked) (x y : Result (List ℕ) Fault) → SameOrUnread rose x y →
      ((text : List ℕ) → x ≡ Ok text → SameOrUnread rose (opened_at asked text (given from)) (opened_at asked text (from_files files))) →
      SameOrUnread rose (then_of x (λ text. opened_at asked text (given from))) (then_of y (λ text. opened_at asked text (from_files files)))
  by_text asked x y (inr (name, r, e)) at = inr (name, r, ap (λ z. then_of z (λ text. opened_at asked text (given from))) e)
  by_text asked (Err f) y (inl e) at = inl (ap (λ z. then_of z (λ text. opened_at asked text (from_files files))) e)
  by_text asked (Ok text) y (inl e) at = elim (at text refl) [
    | inl h ↦ inl (h ∙ ap (λ z. then_of z (λ text. opened_at asked text (from_files files))) e)
    | inr r ↦ inr r
  ]

  for_told : (asked : Asked) → IsGiven (Some files) rose asked from → SameOrUnread rose (opened_for (given from) asked) (opened_for (from_files files) asked)
  unfolding opened_for
  for_told asked is =
      by_text asked (text_for (given from).file asked.command) (text_for (from_files files).file asked.command) (text_told files rose from.model asked.command is.model)
      (λ text e. at_told asked text (λ m h. is.parts text m e h))

  by_asked : (o : Option Asked) → IsGivenFor (Some files) rose o from → (words : List (List ℕ)) → asked_of words ≡ o → SameOrUnread rose (opened (given from) words) (opened_in files words)
  unfolding opened
  by_asked None is words e = inl (rw e refl)
  by_asked (Some asked) is words e = rw e (for_told asked is)

  pub opened_told : (words : List (List ℕ)) → IsGivenFor (Some files) rose (asked_of words) from → SameOrUnread rose (opened (given from) words) (opened_in files words)
  opened_told words is = by_asked (asked_of words) is words refl
