-- Regeneration over the list of all groups.
use Rattle.std.proofs.Common.{◌≡◌, inl, inr, ℕ, List, [], ◌∷◌, true, false, nat_eq, refl, sym, ◌∙◌}
use Rattle.std.specs.List.{AllByRecursion}
use Rattle.std.proofs.lemmas.Bool.{cases_Bool, eq-eqb}
use Rattle.sk_types.specs.declared.handle.GroupId.{GroupId}
use Rattle.sk_types.specs.declared.entity.ParamValue.{ParamValue}
use Rattle.sk_solve.specs.declared.report.Listed.{Listed}
use Rattle.sk_model.specs.Changes.{with_lists}
use Rattle.sk_model.specs.Typed.{Typed}
use Rattle.sk_link.specs.declared.parts.Part.{Part}
use Rattle.sk_chain.specs.Outlines.{Outlined}
use Rattle.sk_chain.proofs.Segments.{all_weaker}
use Rattle.sk_regen.specs.Works.{Works}
use Rattle.sk_regen.specs.Regeneration.{State, at_references, is_listed, left_by, regenerated, regenerated_over, taken}
use Rattle.sk_regen.specs.FoldLaws.{Each, StandsAs}
use Rattle.sk_regen.specs.NewText.{order_of, outcome}
use Rattle.sk_regen.specs.GroupWorks.{works}
use Rattle.sk_regen.specs.Below.{below}
use Rattle.sk_regen.specs.SoundLaws.{FullLaw}
use Rattle.sk_regen.proofs.Folded.{over_law}

listed_more : (h : GroupId) (gs : List GroupId) (g : GroupId) → is_listed gs g ≡ true → is_listed (h ∷ gs) g ≡ true
listed_more h gs g e = elim (cases_Bool (nat_eq g.0 h.0)) [ inl t ↦ rw t refl | inr f ↦ rw f e ]

pub self_listed : (gs : List GroupId) → AllByRecursion (λ (g : GroupId). is_listed gs g ≡ true) gs
self_listed [] = tt
self_listed (g ∷ gs) =
    (rw (eq-eqb g.0 g.0 refl) refl, all_weaker (λ (h : GroupId). is_listed gs h ≡ true) (λ (h : GroupId). is_listed (g ∷ gs) h ≡ true) gs (λ h e. listed_more g gs h e) (self_listed gs))

module _ (s : ℕ) (w : Works s) (stored : List (ParamValue s)) (before : List (Listed s)) (dirty : List GroupId) where
  each_listed : (gs : List GroupId) (st : State s) → AllByRecursion (λ (g : GroupId). is_listed dirty g ≡ true) gs → Each (left_by w stored) (λ n g x. is_listed dirty g ≡ false → StandsAs w stored before n g x) gs st
  each_listed [] st a = tt
  each_listed (g ∷ gs) st a = ((λ off. (let no : true ≡ false = sym a.0 ∙ off in cc no)), each_listed gs (taken st (left_by w stored st.numbers g)) a.1)

all_again : (s : ℕ) (w : Works s) (stored : List (ParamValue s)) (before : List (Listed s)) (order : List GroupId) → regenerated_over w stored order before order ≡ regenerated w stored order
all_again s w stored before order = over_law s w stored order before order (at_references w) (each_listed s w stored before order order (at_references w) (self_listed order))

model_again : (s : ℕ) (parts : List (Part s)) (l : Typed s) (o : Outlined s) (before : List (Listed s))
    → regenerated_over (works (with_lists o.lists l.groups) l.requests l.constraints o.outline) l.params (order_of o) before (order_of o) ≡ outcome (below parts) l o
unfolding below
model_again s parts l o before = all_again s (works (with_lists o.lists l.groups) l.requests l.constraints o.outline) l.params before (order_of o)

pub full_law : FullLaw
full_law = record { fold = all_again; model = model_again }
