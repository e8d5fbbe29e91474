-- What a group leaves that is regenerated.
use Rattle.std.proofs.Common.{◌≡◌, ℕ, List, [], ◌∷◌, length, Bool, Option, refl, sym, ap, ◌∙◌, subst}
use Rattle.std.specs.Prelude.{ℤ, IfSome}
use Rattle.std.proofs.lemmas.List.Elements.{All-nil, All-cons}
use Rattle.sk_types.specs.declared.entity.Act.{Act}
use Rattle.sk_types.specs.declared.entity.Numbers.{Numbers}
use Rattle.sk_types.specs.declared.entity.Outline.{Outline}
use Rattle.sk_types.specs.declared.entity.ParamValue.{ParamValue}
use Rattle.sk_types.specs.declared.group.Group.{Group}
use Rattle.sk_types.specs.declared.handle.ParamId.{ParamId}
use Rattle.sk_types.specs.Params.{unknown_params}
use Rattle.sk_expr.specs.declared.row.RowName.{RowName}
use Rattle.sk_geom.specs.declared.fault.FrameFault.{FrameFault}
use Rattle.sk_krawczyk.specs.Answers.{IsSoundAt, names_at}
use Rattle.sk_krawczyk.specs.IntervalTest.{Outcome}
use Rattle.sk_model.specs.Typed.{Typed}
use Rattle.sk_solve.specs.declared.report.Listed.{Listed}
use Rattle.sk_solve.specs.declared.result.GroupResult.{GroupResult}
use Rattle.sk_solve.specs.Held.{result_by}
use Rattle.sk_solve.specs.Search.{Found, verdict_over, search}
use Rattle.sk_system.specs.GroupSystem.{GroupSystem, seen_at, acts_at}
use Rattle.sk_regen.specs.Ground.{BoxesSound, IsGround, group_works}
use Rattle.sk_regen.specs.GroupWorks.{is_one_of, bad_frame_of, system_of, seen_of, acts_of}
use Rattle.sk_regen.specs.Regeneration.{Left, left_by, started, point_of, fixed_of, placed, unless_bad, unknowns}
use Rattle.sk_regen.proofs.Placed.{fixed_placed, point_placed}
use Rattle.sk_regen.proofs.Overs.{unknown-ones, system-unknowns}
use Rattle.sk_regen.proofs.Grounds.{ids-started}
use Rattle.sk_regen.proofs.Found.{found-long}

module _ {s : ℕ} (m : Typed s) (o : Outline s) (n : Numbers s) (g : Group s) (is : IsGround m o n g) where
  abbrev all : List ParamId
  all = unknown_params m.constraints o.entities g

  abbrev start : List (ParamValue s)
  start = started (group_works m o g) m.params n g.id

  abbrev t : ParamId → Bool
  t = is_one_of all

  abbrev y : GroupSystem
  y = system_of o.entities m.constraints n g (fixed_of t start)

  -- how it comes out, where so many are unknown
  abbrev comes : ℕ → Found
  comes count = unless_bad (bad_frame_of o.entities n.acts g) (point_of t start) (verdict_over s count (seen_of o.entities m.constraints n g (fixed_of t start)) (point_of t start))

  -- what it leaves with these unknowns
  abbrev left : List ParamId → Left s
  left us = record {
    members = record { group = g.id; params = us; result = result_by (λ x. names_at (seen_of o.entities m.constraints n g (fixed_of t start) x)) (comes (length us)) } ∷ [];
    params = placed t start (comes (length us)).point;
    acts = acts_of o.entities m.constraints n g (placed t start (comes (length us)).point);
  }

  left-known : left_by (group_works m o g) m.params n g.id ≡ left all
  left-known = ap left {x = unknowns (group_works m o g) g.id} {y = all} (unknown-ones m o n g is start (ids-started m o n g start refl))

  abbrev leaves : List ParamId → List (ParamValue s) → GroupResult s → List (Act s) → Left s
  leaves us ps r acts = record { members = record { group = g.id; params = us; result = r } ∷ []; params = placed (is_one_of us) ps r.point; acts = acts }

  result-is : (z : GroupSystem) (r : GroupResult s) → z ≡ y →
      r ≡ result_by (λ x. names_at (seen_at s z x)) (unless_bad (bad_frame_of o.entities n.acts g) (point_of t start) (verdict_over s (length z.unknowns) (seen_at s z) (point_of t start))) →
      r ≡ result_by (λ x. names_at (seen_of o.entities m.constraints n g (fixed_of t start) x)) (comes (length all))
  unfolding seen_of
  result-is z r e h =
      h ∙ ap (λ (w : GroupSystem). result_by (λ x. names_at (seen_at s w x)) (unless_bad (bad_frame_of o.entities n.acts g) (point_of t start) (verdict_over s (length w.unknowns) (seen_at s w) (point_of t start)))) e
      ∙ ap (λ (us : List ParamId). result_by (λ x. names_at (seen_at s y x)) (unless_bad (bad_frame_of o.entities n.acts g) (point_of t start) (verdict_over s (length us) (seen_at s y) (point_of t start)))) (system-unknowns o.entities m.constraints n g (fixed_of t start))

  point-is : (r : GroupResult s) (names : List ℤ → List RowName) (f : Found) → r ≡ result_by names f → r.point ≡ f.point
  unfolding result_by
  point-is r names f e = ap (λ (q : GroupResult s). q.point) e

  comes-long : length (comes (length all)).point ≡ length (point_of t start)
  comes-long = found-long (bad_frame_of o.entities n.acts g) (point_of t start) _

  acts-left : (x : List ℤ) → x ≡ (comes (length all)).point → acts_at y x ≡ acts_of o.entities m.constraints n g (placed t start (comes (length all)).point)
  unfolding acts_of
  acts-left x e =
      ap (acts_at y) (e ∙ sym (point_placed s t start (comes (length all)).point comes-long))
      ∙ ap (λ (fs : List (ParamValue s)). acts_at (system_of o.entities m.constraints n g fs) (point_of t (placed t start (comes (length all)).point))) (sym (fixed_placed s t start (comes (length all)).point))

  -- the code's result
  pub left-is : (us : List ParamId) (ps fixed : List (ParamValue s)) (point : List ℤ) (z : GroupSystem) (r : GroupResult s) (acts : List (Act s)) → us ≡ all → ps ≡ start → fixed ≡ fixed_of (is_one_of us) ps → point ≡ point_of (is_one_of us) ps →
      z ≡ system_of o.entities m.constraints n g fixed →
      r ≡ result_by (λ x. names_at (seen_at s z x)) (unless_bad (bad_frame_of o.entities n.acts g) point (verdict_over s (length z.unknowns) (seen_at s z) point)) →
      acts ≡ acts_at z r.point → leaves us ps r acts ≡ left_by (group_works m o g) m.params n g.id
  left-is us ps fixed point z r acts u p f x e h a =
      let fixed-is : fixed ≡ fixed_of t start = f ∙ ap (λ (v : List ParamId). fixed_of (is_one_of v) ps) u ∙ ap (fixed_of t) p in
      let point-at : point ≡ point_of t start = x ∙ ap (λ (v : List ParamId). point_of (is_one_of v) ps) u ∙ ap (point_of t) p in
      let system-is : z ≡ y = e ∙ ap (λ (fs : List (ParamValue s)). system_of o.entities m.constraints n g fs) fixed-is in
      let result : r ≡ result_by (λ x. names_at (seen_of o.entities m.constraints n g (fixed_of t start) x)) (comes (length all)) =
      result-is z r system-is (h ∙ ap (λ (q : List ℤ). result_by (λ x. names_at (seen_at s z x)) (unless_bad (bad_frame_of o.entities n.acts g) q (verdict_over s (length z.unknowns) (seen_at s z) q))) point-at) in
      let kept : r.point ≡ (comes (length all)).point = point-is r (λ x. names_at (seen_of o.entities m.constraints n g (fixed_of t start) x)) (comes (length all)) result in
      let readings : acts ≡ acts_of o.entities m.constraints n g (placed t start (comes (length all)).point) = a ∙ ap (λ (w : GroupSystem). acts_at w r.point) system-is ∙ acts-left r.point kept in
      ap (λ (v : List ParamId). leaves v ps r acts) u
      ∙ ap (λ (l : List (ParamValue s)). leaves all l r acts) p
      ∙ ap (λ (l : List (Act s)). leaves all start r l) readings
      ∙ ap (λ (q : List ℤ). record { members = record { group = g.id; params = all; result = r } ∷ []; params = placed t start q; acts = acts_of o.entities m.constraints n g (placed t start (comes (length all)).point) }) kept
      ∙ ap (λ (q : GroupResult s). record { members = record { group = g.id; params = all; result = q } ∷ []; params = placed t start (comes (length all)).point; acts = acts_of o.entities m.constraints n g (placed t start (comes (length all)).point) }) result
      ∙ sym left-known

  -- its box
  pub sound-is : (us : List ParamId) (ps fixed : List (ParamValue s)) (z : GroupSystem) (r : GroupResult s) (acts : List (Act s)) → us ≡ all → ps ≡ start → fixed ≡ fixed_of (is_one_of us) ps →
      z ≡ system_of o.entities m.constraints n g fixed → IfSome r.certificate (IsSoundAt (length z.unknowns) (λ x. seen_at s z x) r.point) → BoxesSound (group_works m o g) n g.id (leaves us ps r acts)
  unfolding seen_of
  sound-is us ps fixed z r acts u p f e h =
      let kept : fixed ≡ fixed_of t (placed (is_one_of us) ps r.point) =
      f ∙ ap (λ (v : List ParamId). fixed_of (is_one_of v) ps) u ∙ sym (fixed_placed s t ps r.point) ∙ ap (λ (v : List ParamId). fixed_of t (placed (is_one_of v) ps r.point)) (sym u) in
      let system : z ≡ system_of o.entities m.constraints n g (fixed_of t (placed (is_one_of us) ps r.point)) = e ∙ ap (λ (fs : List (ParamValue s)). system_of o.entities m.constraints n g fs) kept in
      let count : length (system_of o.entities m.constraints n g (fixed_of t (placed (is_one_of us) ps r.point))).unknowns ≡ length (unknowns (group_works m o g) g.id) =
      ap length (system-unknowns o.entities m.constraints n g (fixed_of t (placed (is_one_of us) ps r.point))) ∙ ap length (sym (unknown-ones m o n g is start (ids-started m o n g start refl))) in
      let P : Listed s → Type 0 = λ l. IfSome l.result.certificate (IsSoundAt (length (unknowns (group_works m o g) g.id)) (seen_of o.entities m.constraints n g (fixed_of t (placed (is_one_of us) ps r.point))) l.result.point) in
      All-cons P (record { group = g.id; params = us; result = r }) []
      (subst (λ (k : ℕ). IfSome r.certificate (IsSoundAt k (seen_of o.entities m.constraints n g (fixed_of t (placed (is_one_of us) ps r.point))) r.point)) count
      (subst (λ (w : GroupSystem). IfSome r.certificate (IsSoundAt (length w.unknowns) (λ x. seen_at s w x) r.point)) system h))
      (All-nil P)

pub left-made : {s : ℕ} (ms ns : List (Listed s)) (ps qs : List (ParamValue s)) (xs ys : List (Act s)) → ms ≡ ns → ps ≡ qs → xs ≡ ys → Path (Left s) (record { members = ms; params = ps; acts = xs }) (record { members = ns; params = qs; acts = ys })
left-made ms ns ps qs xs ys e f h =
    ap (λ (l : List (Listed _)). record { members = l; params = ps; acts = xs }) e ∙ ap (λ (l : List (ParamValue _)). record { members = ns; params = l; acts = xs }) f ∙ ap (λ (l : List (Act _)). record { members = ns; params = qs; acts = l }) h

pub result-long : {s : ℕ} (r : GroupResult s) (names : List ℤ → List RowName) (bad : Option FrameFault) (x : List ℤ) (visit : List ℤ → Outcome) → r ≡ result_by names (unless_bad bad x (search visit x)) → length r.point ≡ length x
unfolding result_by
result-long r names bad x visit e = ap (λ (q : GroupResult _). length q.point) e ∙ found-long bad x visit
