-- What stands below regeneration is sound, and its laws over linked parts that were read.
use Rattle.std.proofs.Common.{◌≡◌, ℕ, ◌≤◌, List, [], ◌∷◌, map, false, nat_eq, Result, Ok, Err, refl, sym, ◌∙◌, subst}
use Rattle.std.specs.List.{All, AllByRecursion, IsDistinct}
use Rattle.std.proofs.lemmas.List.Elements.{All-from_recursion, All-weaker, recursion_from_All}
use Rattle.std.proofs.lemmas.Map.Keys.{IsDistinct-head, IsDistinct-tail}
use Rattle.sk_num.specs.Scale.{IsScale}
use Rattle.sk_text.specs.Lines.{lines_in}
use Rattle.sk_types.specs.declared.handle.GroupId.{GroupId}
use Rattle.sk_types.specs.declared.group.Group.{Group}
use Rattle.sk_records.specs.declared.faults.ReadFault.{ReadFault}
use Rattle.sk_records.specs.Blocks.{Block}
use Rattle.sk_records.specs.Reading.{read_lines}
use Rattle.sk_model.specs.declared.faults.ModelFault.{ModelFault}
use Rattle.sk_model.specs.Changes.{with_lists}
use Rattle.sk_model.specs.Checked.{AreChecked, IsCheckedGroup}
use Rattle.sk_model.specs.Typed.{Typed, group_handle, typed}
use Rattle.sk_model.specs.TypingLaws.{set_lists_law, typing_law}
use Rattle.sk_model.specs.TypingLaws.Chains.{then_parts}
use Rattle.sk_link.specs.declared.parts.Part.{Part}
use Rattle.sk_chain.specs.Known.{IsReadPart, place_handle}
use Rattle.sk_chain.specs.Laws.{IsOutlined}
use Rattle.sk_chain.specs.Outlines.{Outlined, outlined}
use Rattle.sk_chain.proofs.Again.{again_law, params_law}
use Rattle.sk_chain.proofs.Apart.{distinct_filter}
use Rattle.sk_chain.proofs.Outlining.{outline_law}
use Rattle.sk_regen.specs.NewText.{Below, Regenerated, is_reported, of_read, of_typed, order_of, outcome, regen, regen_blocks, works_of}
use Rattle.sk_regen.specs.NewTextLaws.{AllDiffer, HasEntity, IsSound, OwnsParams, StartsInLimit}
use Rattle.sk_regen.specs.Regeneration.{is_listed}
use Rattle.sk_regen.specs.Below.{below}
use Rattle.sk_regen.specs.SoundLaws.{ModelLaw, RegenLaw, SessionLaw, SoundLaw}
use Rattle.sk_regen.proofs.NewTexts.{blocks_again_law, regen_again_law}
use Rattle.sk_regen.proofs.Sessions.{edited_law, fixed_law, settled_law}
use Rattle.sk_regen.proofs.SoundEntities.{has_entity}
use Rattle.sk_regen.proofs.SoundOwn.{owns_params}
use Rattle.sk_regen.proofs.SoundRecords.{entities_given}
use Rattle.sk_regen.proofs.SoundStarts.{starts_fit}

-- ---- an outline doesn't look at parameters

module _ {s : ℕ} (parts : List (Part s)) (l : Typed s) where
  pub plain_outline : (below parts).outline_of l.groups l.requests l.constraints ≡ outlined parts l
  unfolding below
  plain_outline = params_law s parts l []

-- ---- a typed model

few_handles : {s : ℕ} (gs hs : List (Group s)) → map group_handle gs ≡ map group_handle hs → AllByRecursion (λ (g : Group s). g.id.0 ≤ 32767) hs → AllByRecursion (λ (g : Group s). g.id.0 ≤ 32767) gs
few_handles [] hs e a = tt
few_handles (g ∷ gs) [] e a = cc e
few_handles (g ∷ gs) (h ∷ hs) e a = (subst (λ n. n ≤ 32767) (cons_head (sym e)) a.0, few_handles gs hs (cons_tail e) a.1)
  where
    cons_head : {x y : ℕ} {xs ys : List ℕ} → x ∷ xs ≡ y ∷ ys → x ≡ y
    cons_head e = cc

    cons_tail : {x y : ℕ} {xs ys : List ℕ} → x ∷ xs ≡ y ∷ ys → xs ≡ ys
    cons_tail e = cc

module _ {s : ℕ} (scale : IsScale s) (parts : List (Part s)) (l : Typed s) (o : Outlined s) (checked : AreChecked l) (out : outlined parts l ≡ Ok o) (is : IsOutlined l o) where
  abbrev extended : List (Group s)
  extended = with_lists o.lists l.groups

  same_handles : map group_handle extended ≡ map group_handle l.groups
  same_handles = set_lists_law.handles s o.lists l.groups

  apart : IsDistinct nat_eq (map group_handle extended)
  apart = subst (IsDistinct nat_eq) (sym same_handles) checked.groups_differ

  most : All (λ (g : Group s). g.id.0 ≤ 32767) extended
  most = All-from_recursion (λ (g : Group s). g.id.0 ≤ 32767) extended (few_handles extended l.groups same_handles
      (recursion_from_All (λ (g : Group s). g.id.0 ≤ 32767) l.groups (All-weaker IsCheckedGroup (λ (g : Group s). g.id.0 ≤ 32767) (λ g k. k.most) l.groups checked.groups)))

  plain : Typed s
  plain = record { groups = l.groups; params = []; requests = l.requests; constraints = l.constraints }

  again : (below parts).outline_of extended l.requests l.constraints ≡ Ok o
  unfolding below plain
  again = again_law s parts plain o checked.groups_differ (params_law s parts l [] ∙ out)

  params : OwnsParams (works_of (below parts) l o) (order_of o)
  unfolding below
  params = owns_params scale extended o.outline.entities apart most is.outline.own_rise is.outline.own_within l.requests l.constraints o.outline (order_of o) refl
      (distinct_filter place_handle is_reported o.outline.order is.outline.groups_differ)

  starts : StartsInLimit (works_of (below parts) l o)
  unfolding below
  starts = starts_fit scale extended l.requests l.constraints o.outline

  -- What stands below it is sound.
  pub sound_model : HasEntity o.outline.entities → IsSound (below parts) l o
  sound_model some = record {
    again = again;
    lists = record { each = is.lists; sources = is.sources; differ = is.differ };
    params = params;
    starts = starts;
    some = some;
    given = entities_given (outcome (below parts) l o).numbers.acts o.outline.entities;
  }

pub sound_law : SoundLaw
sound_law s scale parts read bs l o ty out =
    let checked : AreChecked l = typing_law.leaves s bs l ty in
    let is : IsOutlined l o = outline_law s parts l o checked read out in
    sound_model scale parts l o checked out is (has_entity bs l o.outline ty is.outline)

-- ---- regenerated once more

module _ {s : ℕ} (b : Below s) (text : List ℕ) (r : Regenerated s) (P : Type 0) (go : (bs : List Block) (l : Typed s) (o : Outlined s) → read_lines (lines_in text) ≡ Ok bs → typed s bs ≡ Ok l → b.outline_of l.groups l.requests l.constraints ≡ Ok o → P) where
  over_typed : (bs : List Block) → read_lines (lines_in text) ≡ Ok bs → (x : Result (Regenerated s) ModelFault) → regen_blocks b bs ≡ x → of_typed x ≡ Ok r → P
  over_typed bs is (Err e) same h = cc h
  over_typed bs is (Ok q) same h =
      then_parts {P = P} (typed s bs) _ q same (λ l ty e. then_parts {P = P} (b.outline_of l.groups l.requests l.constraints) _ q e (λ o out e1. go bs l o is ty out))

  over_read : (x : Result (List Block) ReadFault) → read_lines (lines_in text) ≡ x → of_read (regen_blocks b) x ≡ Ok r → P
  over_read (Err e) is h = cc h
  over_read (Ok bs) is h = over_typed bs is (regen_blocks b bs) refl h

  regen_parts : regen b text ≡ Ok r → P
  regen_parts h = over_read (read_lines (lines_in text)) refl h

pub regen_law : RegenLaw
regen_law s scale parts read text r e =
    regen_parts (below parts) text r (regen (below parts) r.text ≡ Ok r) (λ bs l o is ty out.
    regen_again_law s scale (below parts) text bs l o is ty out (sound_law s scale parts read bs l o ty (sym (plain_outline parts l) ∙ out)) r e) e

pub model_law : ModelLaw
model_law s scale parts read bs l o text ty out = blocks_again_law s scale (below parts) bs l o text ty (plain_outline parts l ∙ out) (sound_law s scale parts read bs l o ty out)

-- ---- sessions

none_among : (g : GroupId) (gs : List GroupId) → AllByRecursion (λ n. nat_eq g.0 n ≡ false) (map place_handle gs) → is_listed gs g ≡ false
none_among g [] d = refl
none_among g (h ∷ hs) d = rw d.0 (none_among g hs d.1)

all_differ : (gs : List GroupId) → IsDistinct nat_eq (map place_handle gs) → AllDiffer gs
all_differ [] d = tt
all_differ (g ∷ gs) d = (none_among g gs (IsDistinct-head nat_eq g.0 (map place_handle gs) d), all_differ gs (IsDistinct-tail nat_eq g.0 (map place_handle gs) d))

-- no group is regenerated twice
fixed_differ : {s : ℕ} (parts : List (Part s)) → All IsReadPart parts → (bs : List Block) (l : Typed s) (o : Outlined s) → typed s bs ≡ Ok l → (below parts).outline_of l.groups l.requests l.constraints ≡ Ok o → AllDiffer (order_of o)
fixed_differ {s} parts read bs l o ty out =
    let is : IsOutlined l o = outline_law s parts l o (typing_law.leaves s bs l ty) read (sym (plain_outline parts l) ∙ out) in
    all_differ (order_of o) (distinct_filter place_handle is_reported o.outline.order is.outline.groups_differ)

pub session_law : SessionLaw
session_law = record {
  made = λ s scale parts read bs l o text ty out. fixed_law.made s scale (below parts) bs l o text ty (plain_outline parts l ∙ out) (sound_law s scale parts read bs l o ty out);
  read = λ s parts bs l o report is. fixed_law.read s (below parts) bs l o report is;
  again = λ s parts bs l o report is. fixed_law.again s (below parts) bs l o report is;
  settled = λ s parts read bs l o report is. settled_law s (below parts) bs l o report is (fixed_differ parts read bs l o is.typed is.outline);
  edited = λ s parts read bs l o report m p own dirty is order same. edited_law s (below parts) bs l o report m p own dirty is (fixed_differ parts read bs l o is.typed is.outline) order same;
}
