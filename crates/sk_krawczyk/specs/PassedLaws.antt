-- What a system holds whose interval test passes.
use Rattle.std.proofs.Common.{◌≡◌, ℕ, refl, ap, sym, List, length, map, ℤ, Option, Some, None, Result, Ok, Err, Bool, true, false}
use Rattle.std.specs.Prelude.{not, if◌then◌else◌}
use Rattle.sk_num.specs.Ends.{Ends, mid}
use Rattle.sk_expr.specs.System.{SystemAt}
use Rattle.sk_num.specs.Each.{each_some}
use Rattle.sk_elim.specs.Elimination.{Halt, Elimination, eliminate}
use Rattle.sk_krawczyk.specs.Box.{Basis, basis_of, square_system, radius_of, box}
use Rattle.sk_krawczyk.specs.IntervalTest.{Outcome, fails, passes, BoxOutcome, over_limit, unmet, met, Certificate, radius_at, are_near, is_computed, conditions, certificate, certified, suspect_spans, suspects_of, length_columns, box_test, outcome_of, radius_test, step_test, newton_steps, elimination_test, forced_pairs, slopes_at, slopes_test, interval_test}

-- what a passed test over a box met
pub record BoxPassed (s : ℕ) (v : SystemAt) (b : Basis) (radii : List ℕ) (c : Certificate) : Type 0 where
  pub spans : List Ends
  pub computed : is_computed s (square_system v b) (radius_at radii) ≡ true
  pub all_met : conditions s (square_system v b) radii (length_columns v) ≡ true
  pub spans_are : suspect_spans s v (box (square_system v b) (radius_at radii)) b.suspects ≡ Some spans
  pub is : certificate s v b radii (suspects_of b.suspects spans) ≡ c

-- what a passed test met before
pub record Passed (s : ℕ) (v : SystemAt) (c : Certificate) (columns : List ℕ) : Type 0 where
  pub slopes : List (List Ends)
  pub elimination : Elimination
  pub step : List Ends
  pub slopes_are : each_some (slopes_at s v) v.rows ≡ Some slopes
  pub eliminated : eliminate s (length v.unknowns) v.params (forced_pairs v) slopes ≡ Ok elimination
  pub step_is : newton_steps s v (basis_of elimination) ≡ Some step
  pub box_met : box_test s v (basis_of elimination) (map radius_of step) ≡ met c
  pub columns_are : elimination.solved ≡ columns

met-same : (c d : Certificate) → met c ≡ met d → c ≡ d
met-same c d h = cc

pub box_test-passed : (s : ℕ) (v : SystemAt) (b : Basis) (radii : List ℕ) (c : Certificate) → box_test s v b radii ≡ met c → BoxPassed s v b radii c
unfolding box_test
box_test-passed s v b radii c h =
    let q = square_system v b in
    pick (is_computed s q (radius_at radii)) (conditions s q radii (length_columns v)) (suspect_spans s v (box q (radius_at radii)) b.suspects) refl refl refl h
  where
    pick : (x y : Bool) (o : Option (List Ends)) → is_computed s (square_system v b) (radius_at radii) ≡ x → conditions s (square_system v b) radii (length_columns v) ≡ y →
        suspect_spans s v (box (square_system v b) (radius_at radii)) b.suspects ≡ o → (if not x then over_limit else (if y then certified s v b radii o else unmet)) ≡ met c → BoxPassed s v b radii c
    pick false y o hx hy ho h = absurd cc
    pick true false o hx hy ho h = absurd cc
    pick true true None hx hy ho h = absurd cc
    pick true true (Some spans) hx hy ho h = record { spans = spans; computed = hx; all_met = hy; spans_are = ho; is = met-same _ c h }

module _ (s : ℕ) (v : SystemAt) (c : Certificate) (columns : List ℕ) (moves : List ℤ) where
  from-outcome : (solved : List ℕ) (m : List ℤ) (o : BoxOutcome) → outcome_of solved m o ≡ passes columns moves c → (o ≡ met c) × (solved ≡ columns)
  from-outcome solved m over_limit h = absurd cc
  from-outcome solved m unmet h = absurd cc
  from-outcome solved m (met d) h = (cc, cc)

  near : (a : Bool) (o u : Outcome) → (u ≡ passes columns moves c → ⊥) → (if a then o else u) ≡ passes columns moves c → o ≡ passes columns moves c
  near false o u n h = absurd (n h)
  near true o u n h = h

  from-radius : (b : Basis) (step : List Ends) (radii : List ℕ) → radius_test s v b step radii ≡ passes columns moves c → (box_test s v b radii ≡ met c) × (b.solved ≡ columns)
  unfolding radius_test
  from-radius b step radii h =
      from-outcome b.solved (map mid step) (box_test s v b radii)
      (near (are_near s radii) (outcome_of b.solved (map mid step) (box_test s v b radii)) (fails b.solved (map mid step)) (λ z. cc) h)

  from-step : (b : Basis) (o : Option (List Ends)) → step_test s v b o ≡ passes columns moves c → (step : List Ends) × (o ≡ Some step) × (box_test s v b (map radius_of step) ≡ met c) × (b.solved ≡ columns)
  from-step b None h = absurd cc
  from-step b (Some step) h = let (i, j) = from-radius b step (map radius_of step) h in (step, refl, i, j)

  from-elimination : (slopes : List (List Ends)) (r : Result Elimination Halt) → each_some (slopes_at s v) v.rows ≡ Some slopes →
      eliminate s (length v.unknowns) v.params (forced_pairs v) slopes ≡ r → elimination_test s v r ≡ passes columns moves c → Passed s v c columns
  unfolding elimination_test
  from-elimination slopes (Err z) hs he h = absurd cc
  from-elimination slopes (Ok e) hs he h =
      let (step, i, j, k) = from-step (basis_of e) (newton_steps s v (basis_of e)) h in
      record { slopes = slopes; elimination = e; step = step; slopes_are = hs; eliminated = he; step_is = i; box_met = j; columns_are = k }

  from-slopes : (o : Option (List (List Ends))) → each_some (slopes_at s v) v.rows ≡ o → slopes_test s v o ≡ passes columns moves c → Passed s v c columns
  from-slopes None hs h = absurd cc
  from-slopes (Some slopes) hs h = from-elimination slopes (eliminate s (length v.unknowns) v.params (forced_pairs v) slopes) hs refl h

  pub interval_test-passed : interval_test s v ≡ passes columns moves c → Passed s v c columns
  unfolding interval_test
  interval_test-passed h = from-slopes (each_some (slopes_at s v) v.rows) refl h

-- the centre is the unknowns
pub passed-centre : (s : ℕ) (v : SystemAt) (c : Certificate) (columns : List ℕ) (moves : List ℤ) → interval_test s v ≡ passes columns moves c → c.centre ≡ v.unknowns
passed-centre s v c columns moves h =
    let p = interval_test-passed s v c columns moves h in
    ap (λ (d : Certificate). d.centre) (sym (box_test-passed s v (basis_of p.elimination) (map radius_of p.step) c p.box_met).is)
