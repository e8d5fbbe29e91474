-- Regeneration over the list of all groups.
use Rattle.std.proofs.Common.{◌≡◌, ℕ, ◌+◌, List, [], ◌∷◌, length, get_or, Bool, true, refl, ap, ◌∙◌, subst}
use Rattle.std.specs.Prelude.{◌==◌}
use Rattle.std.specs.List.{AllByRecursion, filter}
use Rattle.std.proofs.lemmas.Bool.{eq-eqb}
use Rattle.std.proofs.lemmas.List.Elements.{recursion_from_All}
use Rattle.std.proofs.lemmas.List.Folds.{list_any_at}
use Rattle.sk_types.specs.declared.handle.GroupId.{GroupId}
use Rattle.sk_types.specs.declared.entity.Numbers.{Numbers}
use Rattle.sk_types.specs.declared.entity.Outline.{Outline}
use Rattle.sk_types.specs.declared.entity.ParamValue.{ParamValue}
use Rattle.sk_model.specs.Typed.{Typed}
use Rattle.sk_solve.specs.declared.report.Listed.{Listed}
use Rattle.sk_regen.specs.Below.{BoxesOver, model_works, over_dirty}
use Rattle.sk_regen.specs.FoldLaws.{Each}
use Rattle.sk_regen.specs.Ground.{BoxesSound}
use Rattle.sk_regen.specs.NewText.{reported}
use Rattle.sk_regen.specs.declared.state.Left.{Left}
use Rattle.sk_regen.specs.declared.state.State.{State}
use Rattle.sk_regen.specs.Regeneration.{at_references, is_listed, left_by, left_over, taken}
use Rattle.sk_regen.specs.Works.{Works}
use Rattle.sk_regen.proofs.SoundFull.{full_law}
use Rattle.sk_session.specs.Standing.{AllSound, all_of}

module _ {s : ℕ} (w : Works s) (stored : List (ParamValue s)) (before : List (Listed s)) (dirty : List GroupId) (P : Numbers s → GroupId → Left s → Type 0) where
  abbrev IfListed : Numbers s → GroupId → Left s → Type 0
  IfListed n g x = is_listed dirty g ≡ true → P n g x

  each-listed : (gs : List GroupId) (st : State s) → AllByRecursion (λ (g : GroupId). is_listed dirty g ≡ true) gs → Each (left_over w stored dirty before) IfListed gs st → Each (left_by w stored) P gs st
  each-listed [] st a e = tt
  each-listed (g ∷ gs) st a e =
      let same : left_over w stored dirty before st.numbers g ≡ left_by w stored st.numbers g = rw a.0 refl in
      (subst (P st.numbers g) same (e.0 a.0), each-listed gs (taken st (left_by w stored st.numbers g)) a.1 (subst (λ (x : Left s). Each (left_over w stored dirty before) IfListed gs (taken st x)) same e.1))

all-listed : (gs : List GroupId) → AllByRecursion (λ (g : GroupId). is_listed gs g ≡ true) gs
all-listed gs = recursion_from_All (λ (g : GroupId). is_listed gs g ≡ true) gs (λ k d inside. list_any_at (λ (h : GroupId). (get_or gs k d).0 == h.0) gs k d inside (eq-eqb (get_or gs k d).0 (get_or gs k d).0 refl))

kept-all : (t : GroupId → Bool) (gs : List GroupId) → AllByRecursion (λ (g : GroupId). t g ≡ true) gs → filter t gs ≡ gs
kept-all t [] a = refl
kept-all t (g ∷ gs) a = rw a.0 (ap (λ (l : List GroupId). g ∷ l) (kept-all t gs a.1))

module _ {s : ℕ} (m : Typed s) (o : Outline s) (before : List (Listed s)) (dirty : List GroupId) (all : dirty ≡ reported o) where
  pub over-all : over_dirty m o dirty before ≡ all_of m o
  over-all = ap (λ (gs : List GroupId). over_dirty m o gs before) all ∙ full_law.fold s (model_works m o) m.params before (reported o)

  -- each box is sound
  pub all-sound : BoxesOver m o dirty before (reported o) → AllSound m o
  all-sound h = each-listed (model_works m o) m.params before (reported o) (BoxesSound (model_works m o)) (reported o) (at_references (model_works m o)) (all-listed (reported o))
      (subst (λ (gs : List GroupId). BoxesOver m o gs before (reported o)) all h)

  -- each group takes a step
  pub all-steps : (steps now : ℕ) → now ≡ steps + length (filter (is_listed dirty) (reported o)) → now ≡ steps + length (reported o)
  all-steps steps now e =
      e ∙ ap (λ (gs : List GroupId). steps + length (filter (is_listed gs) (reported o))) all
      ∙ ap (λ (gs : List GroupId). steps + length gs) (kept-all (is_listed (reported o)) (reported o) (all-listed (reported o)))
