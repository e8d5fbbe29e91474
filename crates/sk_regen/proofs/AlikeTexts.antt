-- An edit of a regenerated text: regeneration of a list of groups over the report.
use Rattle.std.proofs.Common.{◌≡◌, ℕ, List, Ok, sym, ap, ◌∙◌, subst}
use Rattle.sk_types.specs.declared.group.Group.{Group}
use Rattle.sk_model.specs.Changes.{lists_set, with_lists}
use Rattle.sk_model.specs.Checked.{AreChecked}
use Rattle.sk_model.specs.Typed.{Typed, typed}
use Rattle.sk_model.specs.TypingLaws.{set_lists_law, typing_law}
use Rattle.sk_link.specs.declared.parts.Part.{Part}
use Rattle.sk_chain.specs.Laws.{IsOutlined}
use Rattle.sk_chain.specs.Outlines.{Outlined, outlined, relisted}
use Rattle.sk_chain.proofs.Again.{again_law}
use Rattle.sk_chain.proofs.Outlining.{outline_law}
use Rattle.sk_regen.specs.Works.{Works}
use Rattle.sk_regen.specs.Below.{below, model_works}
use Rattle.sk_regen.specs.FoldLaws.{SameOutside}
use Rattle.sk_regen.specs.GroupWorks.{works}
use Rattle.sk_regen.specs.Likeness.{AlikeEditedLaw, IsWhole, LikenessLaw, owners}
use Rattle.sk_regen.specs.NewText.{works_of}
use Rattle.sk_regen.proofs.AlikeWorks.{alike_law}
use Rattle.sk_regen.proofs.NamesMade.{closed_law}
use Rattle.sk_regen.proofs.SoundModels.{plain_outline, session_law}

now_works : {s : ℕ} (parts : List (Part s)) (m : Typed s) (p : Outlined s) → model_works (relisted p.lists m) p.outline ≡ works_of (below parts) m p
unfolding below
now_works parts m p i = works (with_lists p.lists m.groups) m.requests m.constraints p.outline

before_works : {s : ℕ} (parts : List (Part s)) (l : Typed s) (o : Outlined s) → with_lists o.lists l.groups ≡ l.groups → model_works l o.outline ≡ works_of (below parts) l o
unfolding below
before_works parts l o same = ap (λ (gs : List (Group _)). works gs l.requests l.constraints o.outline) (sym same)

pub edited_alike_law : AlikeEditedLaw
edited_alike_law s parts read bs l o report cs m p dirty is ty out order like list =
    let checked : AreChecked l = typing_law.leaves s bs l is.typed in
    let was : IsWhole l o.outline = record { checked = checked; outline = (outline_law s parts l o checked read (sym (plain_outline parts l) ∙ is.outline)).outline } in
    let known : AreChecked m = typing_law.leaves s cs m ty in
    let lists : IsOutlined m p = outline_law s parts m p known read out in
    let more : Typed s = relisted p.lists m in
    let more_typed : typed s (lists_set p.lists m.groups cs) ≡ Ok more = typing_law.lists s p.lists cs m lists.lists lists.sources ty in
    let more_checked : AreChecked more = typing_law.leaves s (lists_set p.lists m.groups cs) more more_typed in
    let more_out : outlined parts more ≡ Ok p = again_law s parts m p known.groups_differ out in
    let now : IsWhole more p.outline = record { checked = more_checked; outline = (outline_law s parts more p more_checked read more_out).outline } in
    let reads = closed_law s parts read (lists_set p.lists m.groups cs) more p more_typed more_out l dirty checked list in
    let same : SameOutside (owners l.requests m.requests) (model_works l o.outline) (model_works more p.outline) l.params m.params dirty = alike_law s dirty l o.outline more p.outline was now like reads in
    let first : SameOutside (owners l.requests m.requests) (works_of (below parts) l o) (model_works more p.outline) l.params m.params dirty =
    subst (λ (w : Works s). SameOutside (owners l.requests m.requests) w (model_works more p.outline) l.params m.params dirty) (before_works parts l o (set_lists_law.same s o.lists l.groups is.lists)) same in
    let both : SameOutside (owners l.requests m.requests) (works_of (below parts) l o) (works_of (below parts) m p) l.params m.params dirty =
    subst (λ (w : Works s). SameOutside (owners l.requests m.requests) (works_of (below parts) l o) w l.params m.params dirty) (now_works parts m p) first in
    session_law.edited s parts read bs l o report m p (owners l.requests m.requests) dirty is order both

pub likeness_law : LikenessLaw
likeness_law = record { alike = alike_law; closed = closed_law; edited = edited_alike_law }
