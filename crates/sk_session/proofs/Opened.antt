-- What opening leaves: the outline's remap lists, then what regeneration makes.
use Rattle.std.proofs.Common.{◌≡◌, inl, inr, ℕ, List, [], Result, Ok, Err, refl, sym, ap, ◌∙◌, subst}
use Rattle.std.specs.List.{All}
use Rattle.sk_num.specs.Scale.{IsScale}
use Rattle.sk_types.specs.declared.entity.Numbers.{Numbers}
use Rattle.sk_types.specs.declared.entity.Outline.{Outline}
use Rattle.sk_types.specs.declared.handle.GroupId.{GroupId}
use Rattle.sk_types.specs.Lookups.{RiseBy, act_handle}
use Rattle.sk_records.specs.Answers.{IsFault}
use Rattle.sk_records.specs.Blocks.{Block}
use Rattle.sk_records.specs.Written.{IsText}
use Rattle.sk_model.specs.declared.faults.ModelFault.{ModelFault}
use Rattle.sk_model.specs.declared.faults.ModelFault.TheVariants.{NoMemory}
use Rattle.sk_model.specs.Changes.{lists_set, with_params}
use Rattle.sk_model.specs.Checked.{AreChecked}
use Rattle.sk_model.specs.Models.{IsTyped, Modelled}
use Rattle.sk_model.specs.Typed.{Typed}
use Rattle.sk_link.specs.declared.parts.Part.{Part}
use Rattle.sk_link.specs.Chain.{then_of}
use Rattle.sk_chain.specs.Known.{IsReadPart}
use Rattle.sk_chain.specs.Outlines.{Outlined, lists_in, outline_in, outlined, relisted}
use Rattle.sk_chain.proofs.Again.{again_law, params_law}
use Rattle.sk_chain.proofs.Outlining.{outline_law}
use Rattle.sk_solve.specs.declared.report.Listed.{Listed}
use Rattle.sk_regen.specs.Below.{below}
use Rattle.sk_regen.specs.NewText.{new_blocks, new_lists, order_of, outcome, reported, text_with}
use Rattle.sk_regen.specs.NewTextLaws.{IsFixed}
use Rattle.sk_regen.specs.declared.state.State.{State}
use Rattle.sk_regen.proofs.SoundModels.{model_law, session_law}
use Rattle.sk_session.specs.Opening.{Present, opened_over, regenerated_all}
use Rattle.sk_session.specs.Standing.{AllSound, AreSound, IsExtended, IsStanding, all_of}

ok_same : {T : Type 0} {x y : T} → ◌≡◌ {A = Result T ModelFault} (Ok x) (Ok y) → x ≡ y
ok_same e = cc

-- ---- the outline, and its remap lists

module _ {s : ℕ} (r : Result (Outlined s) ModelFault) (e : ModelFault) where
  err-in : (x : Result (Outlined s) ModelFault) → outline_in x ≡ Err e → x ≡ Err e
  err-in (Ok o) h = cc
  err-in (Err f) h = cc

  pub outline_fault : IsFault NoMemory e (outline_in r) → IsFault NoMemory e r
  outline_fault (inl h) = inl h
  outline_fault (inr h) = inr (err-in r h)

module _ {s : ℕ} (parts : List (Part s)) (m now : Modelled s) (outline : Outline s) (read : All IsReadPart parts) (before : AreChecked m.lists) (after : AreChecked now.lists) where
  pub extends : (r : Result (Outlined s) ModelFault) → outlined parts m.lists ≡ r → outline_in r ≡ Ok outline →
      now.blocks ≡ lists_set (lists_in r) m.lists.groups m.blocks → now.lists ≡ relisted (lists_in r) m.lists → IsExtended parts m now outline
  extends (Err f) is e b l = cc
  extends (Ok o) is e b l =
      let made : outlined parts m.lists ≡ Ok (record { outline = outline; lists = o.lists }) = is ∙ ap (λ (x : Outline s). Ok (record { outline = x; lists = o.lists })) (ok_same e) in
      let again : outlined parts now.lists ≡ Ok (record { outline = outline; lists = o.lists }) = ap (outlined parts) l ∙ again_law s parts m.lists (record { outline = outline; lists = o.lists }) before.groups_differ made in
      record {
        lists = o.lists;
        outlined = made;
        blocks = b;
        relisted = l;
        outline = (outline_law s parts now.lists (record { outline = outline; lists = o.lists }) after read again).outline;
      }

-- ---- what regeneration makes

-- where there is no outline, nothing is opened
module _ {s : ℕ} (parts : List (Part s)) (m : Modelled s) (e : ModelFault) where
  pub opened-fault : IsFault NoMemory e (outlined parts m.lists) → IsFault NoMemory e (opened_over parts m)
  unfolding opened_over
  opened-fault (inl h) = inl h
  opened-fault (inr h) = inr (ap (λ (x : Result (Outlined s) ModelFault). then_of x (λ o. Ok (regenerated_all parts m o))) h)

module _ {s : ℕ} (parts : List (Part s)) (m mid : Modelled s) (outline : Outline s) (ext : IsExtended parts m mid outline) where
  abbrev made : Outlined s
  made = record { outline = outline; lists = ext.lists }

  outcome-is : all_of mid.lists outline ≡ outcome (below parts) m.lists made
  unfolding below
  outcome-is = ap (λ (l : Typed s). all_of l outline) ext.relisted

  sound-made : AllSound mid.lists outline → AreSound parts m.lists made
  unfolding below
  sound-made h = subst (λ (l : Typed s). AllSound l outline) ext.relisted h

  pub sound-opened : AllSound mid.lists outline → (o : Outlined s) → outlined parts m.lists ≡ Ok o → AreSound parts m.lists o
  sound-opened h o e = subst (AreSound parts m.lists) (ok_same (sym ext.outlined ∙ e)) (sound-made h)

  module _ (now : Modelled s) (numbers : Numbers s) (report : List (Listed s)) (last : List GroupId)
      (b : now.blocks ≡ text_with (all_of mid.lists outline).numbers mid.lists outline mid.blocks)
      (l : now.lists ≡ record mid.lists { params = with_params (all_of mid.lists outline).numbers.params mid.lists.params })
      (n : numbers ≡ (all_of mid.lists outline).numbers) (r : report ≡ (all_of mid.lists outline).members) (g : last ≡ reported outline) where
    abbrev present : Present s
    present = record { parts = parts; model = now; outline = outline; numbers = numbers; report = report; last = last }

    blocks-are : now.blocks ≡ new_blocks (below parts) m.lists made m.blocks
    unfolding below
    blocks-are =
        b ∙ ap (λ (x : Typed s). text_with (all_of x outline).numbers x outline mid.blocks) ext.relisted
        ∙ ap (text_with (all_of (relisted ext.lists m.lists) outline).numbers (relisted ext.lists m.lists) outline) ext.blocks

    lists-are : now.lists ≡ new_lists (below parts) m.lists made
    unfolding below
    lists-are = l ∙ ap (λ (x : Typed s). record x { params = with_params (all_of x outline).numbers.params x.params }) ext.relisted

    numbers-are : numbers ≡ (outcome (below parts) m.lists made).numbers
    numbers-are = n ∙ ap (λ (st : State s). st.numbers) outcome-is

    report-is : report ≡ (outcome (below parts) m.lists made).members
    report-is = r ∙ ap (λ (st : State s). st.members) outcome-is

    -- ---- the answer

    same-present : (b c : List Block) (k l : Typed s) (n p : Numbers s) (q r : List (Listed s)) (g h : List GroupId) → b ≡ c → k ≡ l → n ≡ p → q ≡ r → g ≡ h →
        ◌≡◌ {A = Present s} (record { parts = parts; model = record { blocks = b; lists = k }; outline = outline; numbers = n; report = q; last = g })
        (record { parts = parts; model = record { blocks = c; lists = l }; outline = outline; numbers = p; report = r; last = h })
    same-present b c k l n p q r g h e f i j t = rw (e, f, i, j, t) refl

    present-is : regenerated_all parts m made ≡ present
    unfolding regenerated_all
    present-is = same-present (new_blocks (below parts) m.lists made m.blocks) now.blocks (new_lists (below parts) m.lists made) now.lists (outcome (below parts) m.lists made).numbers numbers
        (outcome (below parts) m.lists made).members report (order_of made) last (sym blocks-are) (sym lists-are) (sym numbers-are) (sym report-is) (sym g)

    pub opened-is : opened_over parts m ≡ Ok present
    unfolding opened_over
    opened-is = ap (λ (x : Result (Outlined s) ModelFault). then_of x (λ o. Ok (regenerated_all parts m o))) ext.outlined ∙ ap Ok present-is

    -- ---- what is kept

    module _ (scale : IsScale s) (read : All IsReadPart parts) (text : IsText m.blocks) (typed : IsTyped m) (checked : AreChecked now.lists) where
      same-fixed : (b c : List Block) (k l : Typed s) (q r : List (Listed s)) → b ≡ c → k ≡ l → q ≡ r → IsFixed (below parts) c l made r → IsFixed (below parts) b k made q
      same-fixed b c k l q r e f i h = rw (e, f, i) h

      fixed : IsFixed (below parts) now.blocks now.lists made report
      fixed = same-fixed now.blocks (new_blocks (below parts) m.lists made m.blocks) now.lists (new_lists (below parts) m.lists made) report (outcome (below parts) m.lists made).members blocks-are lists-are report-is
          (session_law.made s scale parts read m.blocks m.lists made text typed ext.outlined)

      outlined-now : outlined parts now.lists ≡ Ok made
      unfolding below
      outlined-now = sym (params_law s parts now.lists []) ∙ fixed.outline

      pub stands : RiseBy act_handle numbers.acts → IsStanding present
      stands acts = record {
        read = read;
        lists = ext.lists;
        fixed = fixed;
        numbers = numbers-are ∙ sym (ap (λ (st : State s). st.numbers) (model_law s scale parts read m.blocks m.lists made text typed ext.outlined).outcome)
            ∙ sym (ap (λ (x : Typed s). (outcome (below parts) x made).numbers) lists-are);
        outline = (outline_law s parts now.lists made checked read outlined-now).outline;
        acts = acts;
      }
