-- What the block of a group says.
use Rattle.std.proofs.Common.{◌≡◌, ◌⊎◌, inl, inr, ℕ, suc, ◌+◌, List, [], ◌∷◌, map, length, take, Bool, true, false, Option, Some, None, refl, sym, ap, ◌∙◌, subst, arith}
use Rattle.std.specs.Prelude.{ℤ, pos, ◌+ℤ◌, ◌-ℤ◌, ◌&&◌, Ok, IfSome, option_map}
use Rattle.std.specs.List.{All, filter, list_all, range_with_len, enumerate_from}
use Rattle.std.proofs.lemmas.Bool.{cases_Bool, leb-true}
use Rattle.std.proofs.lemmas.Int.{ints}
use Rattle.std.proofs.lemmas.List.Elements.{All-nil, All-cons, All-head}
use Rattle.sk_num.specs.Ends.{Ends}
use Rattle.sk_num.specs.Limit.{IsInLimit, is_in_limit}
use Rattle.sk_num.specs.Scale.{IsScale}
use Rattle.sk_types.specs.declared.entity.Numbers.{Numbers}
use Rattle.sk_types.specs.declared.entity.ParamValue.{ParamValue}
use Rattle.sk_types.specs.declared.handle.GroupId.{GroupId}
use Rattle.sk_types.specs.declared.handle.ParamId.{ParamId}
use Rattle.sk_expr.specs.Seen.{Seen, without_names}
use Rattle.sk_expr.specs.System.{SystemAt}
use Rattle.sk_expr.specs.declared.row.RowName.{RowName}
use Rattle.sk_krawczyk.specs.Answers.{IsCertificate, IsSoundAt, IsWhole, names_at}
use Rattle.sk_krawczyk.specs.Box.{SquareSystem, basis_of, box, radius_of, reach, square_system}
use Rattle.sk_krawczyk.specs.CertifiedBox.{certified_box}
use Rattle.sk_krawczyk.specs.HeldLaws.{held-still}
use Rattle.sk_krawczyk.specs.IntervalTest.{Certificate, Outcome, interval_test, passes, radius_at}
use Rattle.sk_krawczyk.specs.PassedLaws.{box_test-passed, interval_test-passed, passed-centre}
use Rattle.sk_krawczyk.specs.declared.certificate.Certificate.{Certificate as StoredCertificate}
use Rattle.sk_solve.specs.Held.{certificate_by, result_by}
use Rattle.sk_solve.specs.Search.{Found, search}
use Rattle.sk_solve.specs.declared.result.Verdict.{Verdict}
use Rattle.sk_solve.specs.declared.result.Verdict.TheVariants.{Certified, Degenerate, Range, Unsolved}
use Rattle.sk_solve.specs.SearchLaws.{PassesAt, StaysAt, is_certified as is_passed}
use Rattle.sk_solve.specs.Searched.{search_law}
use Rattle.sk_solve.specs.declared.report.Listed.{Listed}
use Rattle.sk_regen.specs.CertifiedLaws.{ComesOut}
use Rattle.sk_regen.specs.FoldLaws.{AllStored}
use Rattle.sk_regen.specs.Ground.{BoxesSound}
use Rattle.sk_regen.specs.declared.state.Left.{Left}
use Rattle.sk_regen.specs.Regeneration.{fixed_of, found, left_by, member, names, placed, point_of, started, started_at, unknowns, unless_bad, visit}
use Rattle.sk_regen.specs.Works.{Works}
use Rattle.sk_report.specs.Block.{Coordinate, Name, coordinate, coordinates, name_at, param_handle, params_in, printed, printed_box}
use Rattle.sk_report.specs.BlockLaws.{printed_reach}
use Rattle.sk_report.specs.Reached.{reach-law}
use Rattle.sk_report.specs.ReportText.{is_certified}
use Rattle.sk_report.specs.StandsFor.{centre-law, line-law}
use Rattle.sk_app.specs.Headline.{IsPassed, Prints, Says, names_of}

-- ---- the numbers at the centre of a certified box are in the limit

within : (x : ℤ) (r : ℕ) → IsInLimit (x -ℤ pos r) → IsInLimit (x +ℤ pos r) → IsInLimit x
within x r l h = omega (arith, ints, l, h)

abbrev ends_at : SquareSystem → (ℕ → ℕ) → ℕ × ℤ → Ends
ends_at q radius p = record { lo = p.1 -ℤ pos (reach q radius p.0); hi = p.1 +ℤ pos (reach q radius p.0) }

abbrev are_in : Ends → Bool
are_in e = is_in_limit e.lo && is_in_limit e.hi

both : (a b : Bool) → (a && b) ≡ true → (a ≡ true) × (b ≡ true)
both true b h = (refl, h)
both false b h = absurd (cc h)

middles : (q : SquareSystem) (radius : ℕ → ℕ) (c : ℕ) (xs : List ℤ) → list_all are_in (map (ends_at q radius) (enumerate_from c xs)) ≡ true → All IsInLimit xs
middles q radius c [] h = All-nil IsInLimit
middles q radius c (x ∷ xs) h =
    let e : Ends = ends_at q radius (c, x) in
    let rest : Bool = list_all are_in (map (ends_at q radius) (enumerate_from (c + 1) xs)) in
    let (here, others) = both (are_in e) rest h in
    let (lo, hi) = both (is_in_limit e.lo) (is_in_limit e.hi) here in
    All-cons IsInLimit x xs
    (within x (reach q radius c) (leb-true _ _ lo) (leb-true _ _ hi))
    (middles q radius (c + 1) xs others)

second : (a b c d e : Bool) → (a && b && c && d && e) ≡ true → b ≡ true
second true true c d e h = refl
second true false c d e h = absurd (cc h)
second false b c d e h = absurd (cc h)

centre_in : (s : ℕ) (v : SystemAt) (c : Certificate) (solved : List ℕ) (step : List ℤ) → interval_test s v ≡ passes solved step c → All IsInLimit c.centre
centre_in s v c solved step h =
    let p = interval_test-passed s v c solved step h in
    let b = box_test-passed s v (basis_of p.elimination) (map radius_of p.step) c p.box_met in
    let q : SquareSystem = square_system v (basis_of p.elimination) in
    let r : ℕ → ℕ = radius_at (map radius_of p.step) in
    subst (All IsInLimit) (sym (passed-centre s v c solved step h)) (middles q r 0 v.unknowns (second _ (list_all are_in (box q r)) _ _ _ b.computed))

-- ---- the lines of a box

link : {A : Type 0} {a b : A} {us vs : List A} → a ≡ b → us ≡ vs → a ∷ us ≡ b ∷ vs
link h t = λ j. h j ∷ t j

named : {s : ℕ} (params : List ParamId) (k : StoredCertificate s) (c : ℕ) (xs : List ℤ) → names_of (map (coordinate params k) (enumerate_from c xs)) ≡ map (name_at params) (range_with_len c (length xs))
named params k c [] = refl
named params k c (x ∷ xs) = ap (λ (ns : List Name). name_at params c ∷ ns) (named params k (c + 1) xs)

reached : {s : ℕ} (rows : List RowName) (v : SystemAt) (params : List ParamId) (k : StoredCertificate s) (c : Certificate) → IsCertificate rows k c → (i : ℕ) (xs : List ℤ)
    → map (λ (x : Coordinate). printed_reach s x.radius_log) (map (coordinate params k) (enumerate_from i xs)) ≡ map (certified_box v c).reach (range_with_len i (length xs))
reached {s} rows v params k c is i [] = refl
reached {s} rows v params k c is i (x ∷ xs) = link (sym (reach-law s rows v k c is i)) (reached rows v params k c is (i + 1) xs)

prints : {s : ℕ} → IsScale s → (params : List ParamId) (rows : List RowName) (v : SystemAt) (c : Certificate) (solved : List ℕ) (step : List ℤ) (k : StoredCertificate s)
    → interval_test s v ≡ passes solved step c → IsCertificate rows k c → IsWhole (length params) k → Prints s params rows v c (printed_box params k)
unfolding printed_box coordinates
prints {s} scale params rows v c solved step k h is whole = record {
  retained = ap length is.retained;
  bound = is.bound;
  spread = is.spread;
  suspects = is.suspects;
  names = named params k 0 k.centre ∙ ap (λ (xs : List ℤ). map (name_at params) (range_with_len 0 (length xs))) is.centre;
  centre = centre-law s params k scale (subst (All IsInLimit) (sym is.centre) (centre_in s v c solved step h)) ∙ ap (map (λ (z : ℤ). Ok z)) is.centre;
  radii = reached rows v params k c is 0 k.centre ∙ ap (λ (xs : List ℤ). map (certified_box v c).reach (range_with_len 0 (length xs))) is.centre;
  held = ap (λ (hs : List ℕ). map param_handle (params_in params hs)) is.held;
  held_still = held-still s v c solved step h;
  held_lines = (line-law s params k whole).held;
}

-- ---- a group's parameters where it is left

module _ {s : ℕ} where
  abbrev id_of : ParamValue s → ParamId
  id_of p = p.id

  stands_long : (t : ParamId → Bool) (ps : List (ParamValue s)) → length (point_of t ps) ≡ length (filter t (map id_of ps))
  stands_long t [] = refl
  stands_long t (p ∷ ps) = elim (cases_Bool (t p.id)) [
    | inl y ↦ rw y (ap (λ (n : ℕ). suc n) (stands_long t ps))
    | inr n ↦ rw n (stands_long t ps)
  ]

  placed_long : (t : ParamId → Bool) (ps : List (ParamValue s)) (x : List ℤ) → length (point_of t (placed t ps x)) ≡ length (filter t (map id_of ps))
  placed_long t [] x = refl
  placed_long t (p ∷ ps) [] = stands_long t (p ∷ ps)
  placed_long t (p ∷ ps) (z ∷ zs) = elim (cases_Bool (t p.id)) [
    | inl y ↦ rw (y, y) (ap (λ (n : ℕ). suc n) (placed_long t ps zs))
    | inr n ↦ rw (n, n) (placed_long t ps (z ∷ zs))
  ]

  ids_started : (w : Works s) (stored : List (ParamValue s)) (n : Numbers s) (g : GroupId) (ids : List ParamId) → map id_of (map (started_at w stored n g) ids) ≡ ids
  ids_started w stored n g [] = refl
  ids_started w stored n g (p ∷ ps) = ap (λ (ids : List ParamId). p ∷ ids) (ids_started w stored n g ps)

  point_long : (w : Works s) (stored : List (ParamValue s)) (n : Numbers s) (g : GroupId) → length (point_of (w.is_unknown g) (left_by w stored n g).params) ≡ length (unknowns w g)
  point_long w stored n g =
      placed_long (w.is_unknown g) (started w stored n g) (found w n g (started w stored n g)).point
      ∙ ap (λ (ids : List ParamId). length (filter (w.is_unknown g) ids)) (ids_started w stored n g (w.own g))

-- ---- a group that isn't certified has no certificate

none_kept : (visit : List ℤ → Outcome) (x0 : List ℤ) (r : Found) → PassesAt visit r ⊎ StaysAt x0 r → is_passed r.verdict ≡ false → r.certificate ≡ None
none_kept visit x0 r (inl p) e = (let same : r.verdict ≡ Certified = ap (λ (f : Found). f.verdict) p.kept in let no : true ≡ false = sym (ap is_passed same) ∙ e in absurd (cc no))
none_kept visit x0 r (inr t) e = ap (λ (f : Found). f.certificate) t.kept

none_found : {s : ℕ} (w : Works s) (n : Numbers s) (g : GroupId) (visit : List ℤ → Outcome) (x0 : List ℤ) → is_passed (unless_bad (w.bad_frame n g) x0 (search visit x0)).verdict ≡ false
    → (unless_bad (w.bad_frame n g) x0 (search visit x0)).certificate ≡ None
none_found w n g visit x0 = elim (w.bad_frame n g) as (λ o. is_passed (unless_bad o x0 (search visit x0)).verdict ≡ false → (unless_bad o x0 (search visit x0)).certificate ≡ None) [
  | None ↦ (λ e. none_kept visit x0 (search visit x0) (search_law.kept visit x0) e)
  | Some h ↦ (λ e. refl)
]

same_test : (v : Verdict) → is_certified v ≡ is_passed v
same_test Certified = refl
same_test Degenerate = refl
same_test Range = refl
same_test Unsolved = refl

module _ (s : ℕ) (rows : List ℤ → List RowName) (f : Found) where
  result_verdict : (result_by {s = s} rows f).verdict ≡ f.verdict
  unfolding result_by
  result_verdict = refl

  result_point : (result_by {s = s} rows f).point ≡ f.point
  unfolding result_by
  result_point = refl

  result_certificate : (result_by {s = s} rows f).certificate ≡ option_map (certificate_by (rows f.point)) f.certificate
  unfolding result_by
  result_certificate = refl

-- ---- what is said

abbrev HasNone : {s : ℕ} → Listed s → Type 0
HasNone l = is_certified l.result.verdict ≡ false → l.result.certificate ≡ None

-- the box of a member, over the fixed parameters
abbrev BoxSound : {s : ℕ} → Works s → Numbers s → GroupId → List (ParamValue s) → Listed s → Type 0
BoxSound w n g fixed l = IfSome l.result.certificate (IsSoundAt (length (unknowns w g)) (w.seen n g fixed) l.result.point)

-- of the first of a list
abbrev HasFirst : {s : ℕ} → List (Listed s) → Type 0
HasFirst [] = Unit {0}
HasFirst (l ∷ ls) = HasNone l

module _ {s : ℕ} (scale : IsScale s) (w : Works s) (stored now : List (ParamValue s)) (n : Numbers s) (g : GroupId) where
  passed : (x : Left s) (k : StoredCertificate s) → w.bad_frame n g ≡ None → length (point_of (w.is_unknown g) x.params) ≡ length (unknowns w g) → AllStored now x.params
      → IsSoundAt (length (unknowns w g)) (w.seen n g (fixed_of (w.is_unknown g) x.params)) (point_of (w.is_unknown g) x.params) k
      → IsPassed w now n g x (printed_box (unknowns w g) k)
  passed x k frame long kept i =
      let params : List ParamId = unknowns w g in
      let v : SystemAt = without_names (length params) i.seen in
      let c : Certificate = i.pass.certificate in
      let point : List ℤ = point_of (w.is_unknown g) x.params in
      let is : IsCertificate (names_at (Some i.seen)) k c = subst (λ (o : Option Seen). IsCertificate (names_at o) k c) i.there i.pass.is in
      record {
        frame = frame;
        seen = i.seen;
        there = i.there;
        solved = i.pass.solved;
        step = i.pass.step;
        certificate = c;
        passed = i.pass.passed;
        prints = prints scale params (names_at (Some i.seen)) v c i.pass.solved i.pass.step k i.pass.passed is i.pass.whole;
        sound = i.pass.sound;
        begins = subst (λ (m : ℕ). take m c.centre ≡ point) long (subst (λ (xs : List ℤ). take (length point) xs ≡ point) is.centre i.begins);
        kept = kept;
      }

  -- of a group that comes out so
  said : (x : Left s) (c : ComesOut w stored n g x) → BoxesSound w n g x → AllStored now x.params → length (point_of (w.is_unknown g) x.params) ≡ length (unknowns w g)
      → HasNone (member w n g (fixed_of (w.is_unknown g) x.params) c.result)
      → Says w stored now n g x (printed (member w n g (fixed_of (w.is_unknown g) x.params) c.result))
  said x c boxes kept long none =
      let fixed : List (ParamValue s) = fixed_of (w.is_unknown g) x.params in
      let l : Listed s = member w n g fixed c.result in
      let rows : List ℤ → List RowName = names w n g fixed in
      let verdict : is_certified l.result.verdict ≡ is_passed c.result.verdict = ap is_certified (result_verdict s rows c.result) ∙ same_test c.result.verdict in
      record {
        group = refl;
        certified = λ e.
            let (frame, p) = c.certified (sym verdict ∙ e) in
            let k : StoredCertificate s = certificate_by (rows c.result.point) p.certificate in
            let there : l.result.certificate ≡ Some k =
            result_certificate s rows c.result ∙ ap (λ (f : Found). option_map (certificate_by (rows c.result.point)) f.certificate) p.kept in
            let at_own : BoxSound w n g fixed l = All-head (BoxSound w n g fixed) l [] (subst (All (BoxSound w n g fixed)) c.listed boxes) in
            let own : IsSoundAt (length (unknowns w g)) (w.seen n g fixed) l.result.point k =
            subst (λ (o : Option (StoredCertificate s)). IfSome o (IsSoundAt (length (unknowns w g)) (w.seen n g fixed) l.result.point)) there at_own in
            let sound = subst (λ (y : List ℤ). IsSoundAt (length (unknowns w g)) (w.seen n g fixed) y k) (result_point s rows c.result ∙ sym c.point) own in
            (printed_box (unknowns w g) k, ap (option_map (printed_box (unknowns w g))) there, passed x k frame long kept sound);
        other = λ e. (ap (option_map (printed_box (unknowns w g))) (none e), c.other (sym verdict ∙ e));
      }

  -- a member that equals another has a certificate where that has one
  has_none : (l m : Listed s) → l ∷ [] ≡ m ∷ [] → HasNone l → HasNone m
  has_none l m e = subst HasFirst e

  left_none : HasNone (member w n g (fixed_of (w.is_unknown g) (started w stored n g)) (found w n g (started w stored n g)))
  left_none e =
      let ps : List (ParamValue s) = started w stored n g in
      let rows : List ℤ → List RowName = names w n g (fixed_of (w.is_unknown g) ps) in
      let f : Found = found w n g ps in
      let none : f.certificate ≡ None = none_found w n g (visit w n g (fixed_of (w.is_unknown g) ps)) (point_of (w.is_unknown g) ps) (sym (ap is_certified (result_verdict s rows f) ∙ same_test f.verdict) ∙ e) in
      result_certificate s rows f ∙ ap (option_map (certificate_by (rows f.point))) none

  -- The one member of a group, printed, says what it is to say.
  pub says : ComesOut w stored n g (left_by w stored n g) → BoxesSound w n g (left_by w stored n g) → AllStored now (left_by w stored n g).params
      → (l : Listed s) × ((left_by w stored n g).members ≡ l ∷ []) × Says w stored now n g (left_by w stored n g) (printed l)
  says c boxes kept =
      let x : Left s = left_by w stored n g in
      let l : Listed s = member w n g (fixed_of (w.is_unknown g) x.params) c.result in
      let ps : List (ParamValue s) = started w stored n g in
      (l, c.listed, said x c boxes kept (point_long w stored n g) (has_none (member w n g (fixed_of (w.is_unknown g) ps) (found w n g ps)) l c.listed left_none))
