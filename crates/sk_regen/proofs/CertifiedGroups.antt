-- What the report says of each group.
use Rattle.std.proofs.Common.{◌≡◌, ◌⊎◌, inl, inr, ℕ, List, [], ◌∷◌, Bool, true, false, Option, Some, None, refl, sym, ap, ◌∙◌, subst}
use Rattle.std.specs.Prelude.{ℤ}
use Rattle.sk_types.specs.declared.handle.GroupId.{GroupId}
use Rattle.sk_types.specs.declared.handle.ParamId.{ParamId}
use Rattle.sk_types.specs.declared.entity.ParamValue.{ParamValue}
use Rattle.sk_types.specs.declared.entity.Numbers.{Numbers}
use Rattle.sk_geom.specs.declared.fault.FrameFault.{FrameFault}
use Rattle.sk_geom.specs.declared.fault.FrameFault.TheVariants as frame_fault
use Rattle.sk_krawczyk.specs.IntervalTest.{Outcome}
use Rattle.sk_solve.specs.Search.{Found, search}
use Rattle.sk_solve.specs.SearchLaws.{is_certified, PassesAt, StaysAt}
use Rattle.sk_solve.specs.Searched.{search_law}
use Rattle.sk_regen.specs.Works.{Works}
use Rattle.sk_regen.specs.Regeneration.{State, taken, started, point_of, fixed_of, unless_bad, found, frame_verdict, visit, member, left_by}
use Rattle.sk_regen.specs.FoldLaws.{Each}
use Rattle.sk_regen.specs.CertifiedLaws.{ComesOut, ComesOutLaw, HasBadFrame, NoneVisited}
use Rattle.sk_regen.proofs.Placed.{fixed_placed, point_placed}
use Rattle.sk_regen.proofs.Folded.{found_length}

module _ (s : ℕ) (w : Works s) where
  passes : (visit : List ℤ → Outcome) (x0 : List ℤ) (r : Found) → PassesAt visit r ⊎ StaysAt x0 r → is_certified r.verdict ≡ true → PassesAt visit r
  passes visit x0 r (inl p) e = p
  passes visit x0 r (inr t) e = (let same : r.verdict ≡ t.verdict = ap (λ (f : Found). f.verdict) t.kept in let no : true ≡ false = sym e ∙ ap is_certified same ∙ t.other in cc no)

  never : (h : FrameFault) → is_certified (frame_verdict h) ≡ true → ⊥
  never frame_fault.Degenerate e = cc
  never frame_fault.PastLimit e = cc

  by_frame : (o : Option FrameFault) (visit : List ℤ → Outcome) (x0 : List ℤ) → is_certified (unless_bad o x0 (search visit x0)).verdict ≡ true → (o ≡ None) × PassesAt visit (unless_bad o x0 (search visit x0))
  by_frame None visit x0 e = (refl, passes visit x0 (search visit x0) (search_law.kept visit x0) e)
  by_frame (Some h) visit x0 e = absurd (never h e)

  other_by : (o : Option FrameFault) (visit : List ℤ → Outcome) (x0 : List ℤ) → is_certified (unless_bad o x0 (search visit x0)).verdict ≡ false → ((h : FrameFault) × (o ≡ Some h)) ⊎ NoneVisited visit x0
  other_by None visit x0 e = inr (search_law.none visit x0 e)
  other_by (Some h) visit x0 e = inl (h, refl)

  comes_out : (stored : List (ParamValue s)) (n : Numbers s) (g : GroupId) → ComesOut w stored n g (left_by w stored n g)
  comes_out stored n g =
      let t : ParamId → Bool = w.is_unknown g in
      let ps : List (ParamValue s) = started w stored n g in
      let r : Found = found w n g ps in
      record {
        result = r;
        listed = ap (λ (fs : List (ParamValue s)). member w n g fs r ∷ []) (sym (fixed_placed s t ps r.point));
        point = point_placed s t ps r.point (found_length s w n g ps);
        certified = λ e. (let is = by_frame (w.bad_frame n g) (visit w n g (fixed_of t ps)) (point_of t ps) e in
            (is.0, subst (λ (fs : List (ParamValue s)). PassesAt (visit w n g fs) r) (sym (fixed_placed s t ps r.point)) is.1));
        other = λ e. subst (λ (fs : List (ParamValue s)). HasBadFrame w n g ⊎ NoneVisited (visit w n g fs) (point_of t ps)) (sym (fixed_placed s t ps r.point)) (other_by (w.bad_frame n g) (visit w n g (fixed_of t ps)) (point_of t ps) e);
      }

  pub all_come_out : (stored : List (ParamValue s)) (order : List GroupId) (st : State s) → Each (left_by w stored) (ComesOut w stored) order st
  all_come_out stored [] st = tt
  all_come_out stored (g ∷ gs) st = (comes_out stored st.numbers g, all_come_out stored gs (taken st (left_by w stored st.numbers g)))

pub comes_out_law : ComesOutLaw
comes_out_law s w stored order st = all_come_out s w stored order st
