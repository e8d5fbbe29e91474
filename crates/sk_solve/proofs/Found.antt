-- The search as the code makes it, point by point.
use Rattle.std.proofs.Common.{◌≡◌, ℕ, suc, ◌+◌, ◌-◌, ◌<◌, ◌≤◌, List, [], ◌∷◌, length, drop, Some, None, refl, sym, ap, ◌∙◌, subst, arith}
use Rattle.std.proofs.lemmas.List.{drop_all}
use Rattle.std.specs.Prelude.{ℤ, Result, Ok, Err, IfOk}
use Rattle.sk_expr.specs.declared.row.RowName.{RowName}
use Rattle.sk_krawczyk.specs.IntervalTest.{Outcome, stops, fails, passes}
use Rattle.sk_krawczyk.specs.Answers.{IsCertificate}
use Rattle.sk_krawczyk.specs.declared.certificate.Certificate.{Certificate as StoredCertificate}
use Rattle.sk_solve.specs.declared.result.GroupResult.{GroupResult}
use Rattle.sk_solve.specs.declared.visit.Visit.{Visit}
use Rattle.sk_solve.specs.declared.visit.Visit.TheVariants.{Stops, Fails, Passes}
use Rattle.sk_solve.specs.Search.{Verdict, Certified, Range, Unsolved, Found, stayed, certified_at, verdict_of, moved, onward, decided, searched}
use Rattle.sk_solve.specs.Results.{IsFound, IsVisit, Decides}

-- ---- what a visit decides

stays-found : {s : ℕ} (names : List ℤ → List RowName) (v : Verdict) (x0 : List ℤ) (f : Found) (g : GroupResult s) → f ≡ stayed v x0 → g ≡ record { verdict = v; point = x0; certificate = None } → IsFound names f g
stays-found {s} names v x0 f g e h = subst (λ (y : Found). IsFound names y g) (sym e) (subst (λ (y : GroupResult s). IsFound names (stayed v x0) y) (sym h) (record { verdict = refl; point = refl; certificate = refl }))

module _ (s : ℕ) (visit : List ℤ → Outcome) (names : List ℤ → List RowName) (x0 x : List ℤ) (rest : List ℕ → List ℤ → Found) where
  -- the search stops here
  stopped : (o : Outcome) (v : Verdict) (g : GroupResult s) → IsVisit {s = s} (names x) o (Stops v) → g ≡ record { verdict = v; point = x0; certificate = None } → IsFound names (decided x0 x rest o) g
  stopped (stops h) v g is e = stays-found names v x0 (stayed (verdict_of h) x0) g (ap (λ (w : Verdict). stayed w x0) (same is)) e
    where
      same : ◌≡◌ {A = Visit s} (Stops v) (Stops (verdict_of h)) → verdict_of h ≡ v
      same p = cc
  stopped (fails cs ds) v g is e = absurd cc
  stopped (passes cs ds c) v g (k, is, more) e = absurd cc

  -- the test passes here
  passed : (o : Outcome) (k : StoredCertificate s) (g : GroupResult s) → IsVisit (names x) o (Passes k) → g ≡ record { verdict = Certified; point = x; certificate = Some k } → IsFound names (decided x0 x rest o) g
  passed (stops h) k g is e = absurd cc
  passed (fails cs ds) k g is e = absurd cc
  passed (passes cs ds c) k g (l, is, held) e =
      let same : l ≡ k = cc in
      subst (λ (y : GroupResult s). IsFound names (certified_at x c) y) (sym e)
      (record { verdict = refl; point = refl; certificate = (k, refl, subst (λ (m : StoredCertificate s). IsCertificate (names x) m c) same held) })

  -- the test fails here
  failed : (o : Outcome) (solved : List ℕ) (step : List ℤ) → IsVisit {s = s} (names x) o (Fails solved step) → decided x0 x rest o ≡ rest solved step
  failed (stops h) solved step is = absurd cc
  failed (fails cs ds) solved step is = cc
  failed (passes cs ds c) solved step (k, is, more) = absurd cc

abbrev onward_from : (List ℤ → Outcome) → List ℤ → List ℤ → ℕ → List ℕ → List ℤ → Found
onward_from visit x0 x n cs ds = onward x0 (λ y. searched n visit x0 y) (moved cs ds x)

module _ (s : ℕ) (visit : List ℤ → Outcome) (names : List ℤ → List RowName) (x0 x : List ℤ) where
  pub decides-stop : (v : Verdict) (g : GroupResult s) (y : List ℤ) → IsVisit {s = s} (names x) (visit x) (Stops v) → g ≡ record { verdict = v; point = x0; certificate = None } → Decides visit names x0 x y (Some g)
  decides-stop v g y is e n = stopped s visit names x0 x (onward_from visit x0 x n) (visit x) v g is e

  pub decides-pass : (k : StoredCertificate s) (g : GroupResult s) (y : List ℤ) → IsVisit (names x) (visit x) (Passes k) → g ≡ record { verdict = Certified; point = x; certificate = Some k } → Decides visit names x0 x y (Some g)
  decides-pass k g y is e n = passed s visit names x0 x (onward_from visit x0 x n) (visit x) k g is e

  pub decides-next : (solved : List ℕ) (step y : List ℤ) → IsVisit {s = s} (names x) (visit x) (Fails solved step) → moved solved step x ≡ Some y → Decides {s = s} visit names x0 x y None
  decides-next solved step y is e n = failed s visit names x0 x (onward_from visit x0 x n) (visit x) solved step is ∙ ap (onward x0 (λ z. searched n visit x0 z)) e

  pub decides-range : (solved : List ℕ) (step y : List ℤ) (g : GroupResult s) → IsVisit {s = s} (names x) (visit x) (Fails solved step) → moved solved step x ≡ None → g ≡ record { verdict = Range; point = x0; certificate = None } → Decides visit names x0 x y (Some g)
  decides-range solved step y g is e h n =
      stays-found names Range x0 (searched (suc n) visit x0 x) g (failed s visit names x0 x (onward_from visit x0 x n) (visit x) solved step is ∙ ap (onward x0 (λ z. searched n visit x0 z)) e) h

  -- the last point
  pub ends-stop : (v : Verdict) (g : GroupResult s) → IsVisit {s = s} (names x) (visit x) (Stops v) → g ≡ record { verdict = v; point = x0; certificate = None } → IsFound names (searched 0 visit x0 x) g
  ends-stop v g is e = stopped s visit names x0 x (λ cs ds. stayed Unsolved x0) (visit x) v g is e

  pub ends-pass : (k : StoredCertificate s) (g : GroupResult s) → IsVisit (names x) (visit x) (Passes k) → g ≡ record { verdict = Certified; point = x; certificate = Some k } → IsFound names (searched 0 visit x0 x) g
  ends-pass k g is e = passed s visit names x0 x (λ cs ds. stayed Unsolved x0) (visit x) k g is e

  pub ends-fail : (solved : List ℕ) (step : List ℤ) (g : GroupResult s) → IsVisit {s = s} (names x) (visit x) (Fails solved step) → g ≡ record { verdict = Unsolved; point = x0; certificate = None } → IsFound names (searched 0 visit x0 x) g
  ends-fail solved step g is e = stays-found names Unsolved x0 (searched 0 visit x0 x) g (failed s visit names x0 x (λ cs ds. stayed Unsolved x0) (visit x) solved step is) e

-- ---- the loop over the points

one-less : (i : ℕ) → i < 40 → 40 - i ≡ suc (40 - (i + 1))
one-less i e = omega (arith, e)

module _ (s : ℕ) (visit : List ℤ → Outcome) (names : List ℤ → List RowName) (x0 x : List ℤ) (f : Found) (i : ℕ) (so_far : searched (40 - i) visit x0 x ≡ f) where
  pub goes-on : (y : List ℤ) → i < 40 → Decides {s = s} visit names x0 x y None → searched (40 - (i + 1)) visit x0 y ≡ f
  goes-on y e d = sym (d (40 - (i + 1))) ∙ ap (λ (n : ℕ). searched n visit x0 x) (sym (one-less i e)) ∙ so_far

  pub stops-at : (y : List ℤ) (g : GroupResult s) → i < 40 → Decides visit names x0 x y (Some g) → IsFound names f g
  stops-at y g e d = subst (λ (h : Found). IsFound names h g) (ap (λ (n : ℕ). searched n visit x0 x) (sym (one-less i e)) ∙ so_far) (d (40 - (i + 1)))

  pub ends-at : {E : Type 0} (r : Result (GroupResult s) E) → 40 ≤ i → IfOk r (IsFound names (searched 0 visit x0 x)) → IfOk r (IsFound names f)
  ends-at (Ok g) e h = let none : 40 - i ≡ 0 = omega (arith, e) in subst (λ (y : Found). IsFound names y g) (ap (λ (n : ℕ). searched n visit x0 x) (sym none) ∙ so_far) h
  ends-at (Err z) e h = tt

-- ---- one step

no-step : (cs : List ℕ) (x : List ℤ) → moved cs [] x ≡ Some x
no-step [] x = refl
no-step (c ∷ cs) x = refl

-- behind the last number of a step nothing moves
pub step-ended : (cs : List ℕ) (ds : List ℤ) (i : ℕ) (x : List ℤ) → length ds ≤ i → moved cs (drop i ds) x ≡ Some x
step-ended cs ds i x e = ap (λ (r : List ℤ). moved cs r x) (drop_all i ds e) ∙ no-step cs x
