-- What the blocks of a report say, and the text that they make.
use Rattle.std.proofs.Common.{◌≡◌, inl, inr, ℕ, ◌+◌, List, [], ◌∷◌, ◌++◌, map, length, Bool, true, false, refl, sym, ap, ◌∙◌, subst, cond, append_assoc, append-nil, arith}
use Rattle.std.specs.Prelude.{Ok, codes}
use Rattle.std.specs.Fmt.{decimal}
use Rattle.std.specs.List.{All, count_by, flat_map, list_all}
use Rattle.std.proofs.lemmas.Bool.{cases_Bool}
use Rattle.std.proofs.lemmas.Grind.{flat_map-append}
use Rattle.std.proofs.lemmas.List.{length-map}
use Rattle.std.proofs.lemmas.List.Folds.{flat_map-map}
use Rattle.std.proofs.lemmas.List.Sums.{count_by-le-length, sum_by-cons}
use Rattle.sk_num.specs.Scale.{IsScale}
use Rattle.sk_records.specs.Written.{IsText}
use Rattle.sk_types.specs.declared.entity.Numbers.{Numbers}
use Rattle.sk_types.specs.declared.entity.ParamValue.{ParamValue}
use Rattle.sk_types.specs.declared.handle.GroupId.{GroupId}
use Rattle.sk_model.specs.Typed.{typed}
use Rattle.sk_chain.specs.Known.{IsReadPart}
use Rattle.sk_chain.specs.Outlines.{outlined}
use Rattle.sk_solve.specs.declared.report.Listed.{Listed}
use Rattle.sk_regen.specs.Below.{below}
use Rattle.sk_regen.specs.CertifiedLaws.{ComesOut, ComesOutLaw}
use Rattle.sk_regen.specs.FoldLaws.{AllStored, Each}
use Rattle.sk_regen.specs.Ground.{BoxesSound}
use Rattle.sk_regen.specs.NewText.{new_lists, order_of, works_of}
use Rattle.sk_regen.specs.declared.state.Left.{Left}
use Rattle.sk_regen.specs.declared.state.State.{State}
use Rattle.sk_regen.specs.Regeneration.{at_references, folded, left_by, taken}
use Rattle.sk_regen.specs.SoundLaws.{ModelLaw}
use Rattle.sk_regen.specs.Works.{Works}
use Rattle.sk_report.specs.Block.{Block, printed}
use Rattle.sk_report.specs.ReportText.{line, block_text, group_text, is_certified, last_line}
use Rattle.sk_session.specs.Opening.{regenerated_all}
use Rattle.sk_session.specs.Standing.{AreSound}
use Rattle.sk_app.specs.Answer.{Accepted, are_certified, present_of, report_pieces}
use Rattle.sk_app.specs.Ends.{joined}
use Rattle.sk_app.specs.Headline.{AreBlocks, AreSaid, Says, certified_among, report_text}
use Rattle.sk_app.proofs.Says.{says}

-- ---- one block for each group

-- a group leaves one member, whose block has the property
abbrev HasBlock : {s : ℕ} → (Numbers s → GroupId → Left s → Block → Type 0) → Numbers s → GroupId → Left s → Type 0
HasBlock {s} P n g x = (l : Listed s) × (x.members ≡ l ∷ []) × P n g x (printed l)

are_said : {s : ℕ} (left : Numbers s → GroupId → Left s) (P : Numbers s → GroupId → Left s → Block → Type 0) (order : List GroupId) (st : State s) → Each left (HasBlock P) order st
    → (ms : List (Listed s)) × ((folded left order st).members ≡ st.members ++ ms) × AreSaid left P order st (map printed ms)
are_said {s} left P [] st e = ([], sym (append-nil st.members), refl)
are_said {s} left P (g ∷ gs) st e =
    let (l, is, here) = e.0 in
    let (ms, same, rest) = are_said left P gs (taken st (left st.numbers g)) e.1 in
    (l ∷ ms, same ∙ ap (λ (m : List (Listed s)). (st.members ++ m) ++ ms) is ∙ append_assoc st.members (l ∷ []) ms, (here, rest))

module _ {s : ℕ} (scale : IsScale s) (w : Works s) (stored now : List (ParamValue s)) where
  each_says : (order : List GroupId) (st : State s) → Each (left_by w stored) (ComesOut w stored) order st → Each (left_by w stored) (BoxesSound w) order st
      → Each (left_by w stored) (λ n g x. AllStored now x.params) order st → Each (left_by w stored) (HasBlock (Says w stored now)) order st
  each_says [] st comes boxes kept = tt
  each_says (g ∷ gs) st comes boxes kept = (
    says scale w stored now st.numbers g comes.0 boxes.0 kept.0,
    each_says gs (taken st (left_by w stored st.numbers g)) comes.1 boxes.1 kept.1,
  )

-- The report of a model that is accepted.
pub report_said : (s : ℕ) → IsScale s → ComesOutLaw → ModelLaw → (a : Accepted s) → All IsReadPart a.parts → IsText a.model.blocks → typed s a.model.blocks ≡ Ok a.model.lists
    → outlined a.parts a.model.lists ≡ Ok a.outlined → AreSound a.parts a.model.lists a.outlined → AreBlocks a (map printed (present_of a).report)
unfolding regenerated_all
report_said s scale comes again a read text is outline sound =
    let w : Works s = works_of (below a.parts) a.model.lists a.outlined in
    let stored : List (ParamValue s) = a.model.lists.params in
    let now : List (ParamValue s) = (new_lists (below a.parts) a.model.lists a.outlined).params in
    let order : List GroupId = order_of a.outlined in
    let kept = (again s scale a.parts read a.model.blocks a.model.lists a.outlined text is outline).stored in
    let (ms, same, said) = are_said (left_by w stored) (Says w stored now) order (at_references w) (each_says scale w stored now order (at_references w) (comes s w stored order (at_references w)) sound kept) in
    subst (λ (ls : List (Listed s)). AreBlocks a (map printed ls)) (sym same) said

-- ---- the text of a report

module _ {s : ℕ} where
  abbrev is_listed_certified : Listed s → Bool
  is_listed_certified l = is_certified l.result.verdict

  counted : (ls : List (Listed s)) → certified_among (map printed ls) ≡ count_by is_listed_certified ls
  counted [] = refl
  counted (l ∷ ls) =
      sum_by-cons (λ (b : Block). cond (is_certified b.verdict) 1 0) (printed l) (map printed ls)
      ∙ ap (λ (n : ℕ). cond (is_certified l.result.verdict) 1 0 + n) (counted ls)
      ∙ sym (sum_by-cons (λ (l : Listed s). cond (is_listed_certified l) 1 0) l ls)

  last_is : (ls : List (Listed s))
      → last_line (record { groups = ls }) ≡ line (codes "certified " ++ (decimal (certified_among (map printed ls)) ++ (codes " of " ++ decimal (length (map printed ls)))))
  unfolding last_line
  last_is ls =
      ap (λ (n : ℕ). line (codes "certified " ++ (decimal n ++ (codes " of " ++ decimal (length ls))))) (sym (counted ls))
      ∙ ap (λ (n : ℕ). line (codes "certified " ++ (decimal (certified_among (map printed ls)) ++ (codes " of " ++ decimal n)))) (sym (length-map ls printed))

  blocks_are : (ls : List (Listed s)) → joined (map group_text ls) ≡ flat_map block_text (map printed ls)
  unfolding group_text
  blocks_are ls = flat_map-map (λ (piece : List ℕ). piece) group_text ls ∙ sym (flat_map-map block_text printed ls)

  -- The pieces of a report are its text.
  pub text_said : (ls : List (Listed s)) → joined (report_pieces ls) ≡ report_text (map printed ls)
  text_said ls =
      let last : List ℕ = last_line (record { groups = ls }) in
      flat_map-append (λ (piece : List ℕ). piece) (map group_text ls) (last ∷ [])
      ∙ ap (λ (t : List ℕ). joined (map group_text ls) ++ t) (append-nil last ∙ last_is ls)
      ∙ ap (λ (t : List ℕ). t ++ line (codes "certified " ++ (decimal (certified_among (map printed ls)) ++ (codes " of " ++ decimal (length (map printed ls)))))) (blocks_are ls)

-- ---- how many are certified

module _ {X : Type 0} (p : X → Bool) where
  one_more : (x : X) (xs : List X) → count_by p (x ∷ xs) ≡ cond (p x) 1 0 + count_by p xs
  one_more x xs = sum_by-cons (λ (x : X). cond (p x) 1 0) x xs

  all_count : (xs : List X) → list_all p xs ≡ true → count_by p xs ≡ length xs
  all_count [] h = refl
  all_count (x ∷ xs) h = one_more x xs ∙ elim (cases_Bool (p x)) [
    | inl y ↦ rw y (let rest = all_count xs (rw y at h) in omega (arith, rest))
    | inr n ↦ absurd (let no : false ≡ true = rw n at h in cc no)
  ]

  some_left : (xs : List X) → list_all p xs ≡ false → count_by p xs ≡ length xs → ⊥
  some_left [] h same = absurd (cc h)
  some_left (x ∷ xs) h same =
      let more : cond (p x) 1 0 + count_by p xs ≡ length (x ∷ xs) = sym (one_more x xs) ∙ same in
      elim (cases_Bool (p x)) [
        | inl y ↦ (let i = rw y at more in some_left xs (rw y at h) (omega (arith, i)))
        | inr n ↦ (let i = rw n at more in omega (arith, i, count_by-le-length p xs))
      ]

module _ {s : ℕ} (ls : List (Listed s)) where
  pub all_said : are_certified ls ≡ true → certified_among (map printed ls) ≡ length (map printed ls)
  all_said h = counted ls ∙ all_count is_listed_certified ls h ∙ sym (length-map ls printed)

  pub some_said : are_certified ls ≡ false → certified_among (map printed ls) ≡ length (map printed ls) → ⊥
  some_said h same = some_left is_listed_certified ls h (sym (counted ls) ∙ same ∙ length-map ls printed)
