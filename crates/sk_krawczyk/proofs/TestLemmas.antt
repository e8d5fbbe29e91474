-- The outcomes of the test, from what its parts say.
use Rattle.std.proofs.Common.{◌≡◌, ℕ, zero, suc, ◌≤◌, arith, refl, ap, sym, ◌∙◌, subst, List, [], ◌∷◌, ◌++◌, length, map, Option, Some, None, Bool, true, false, Result, Ok, Err}
use Rattle.std.specs.Prelude.{is_some, IfSome}
use Rattle.std.specs.List.{Contains, range_with_len}
use Rattle.std.proofs.lemmas.List.FromFn.{length-range_with_len}
use Rattle.sk_num.specs.Ends.{Ends, point, mid}
use Rattle.sk_num.specs.Each.{each_some}
use Rattle.sk_expr.specs.System.{SystemAt}
use Rattle.sk_num.specs.EachLaws.{each_some-none}
use Rattle.sk_expr.specs.declared.row.RowName.{RowName}
use Rattle.sk_elim.specs.Elimination.{Halt, past_limit, Elimination, eliminate}
use Rattle.sk_matrix.specs.Cells.{listed, table}
use Rattle.sk_matrix.specs.TableLaws.{table-none, all_to-fails}
use Rattle.sk_krawczyk.specs.Box.{Basis, basis_of, square_system, newton_step, radius_of, box}
use Rattle.sk_krawczyk.specs.IntervalTest.{Outcome, stops, fails, passes, BoxOutcome, over_limit, unmet, met, radius_at, are_near, is_computed, conditions, certificate, certified, suspect_spans, suspects_of, length_columns, box_test, outcome_of, radius_test, step_test, newton_steps, elimination_test, forced_pairs, slopes_at, slopes_test, interval_test, certificate_in}
use Rattle.sk_krawczyk.specs.CertifiedLaws.{IsFit, IsUsable, interval_test-sound, box_test-sound}
use Rattle.sk_krawczyk.specs.RowReadings.{newton_of}
use Rattle.sk_krawczyk.specs.WholeLaws.{passed-whole}
use Rattle.sk_krawczyk.specs.Answers.{IsTried, IsTested, IsMet, IsPresent, IsSound, IsOfPass}
use Rattle.sk_krawczyk.specs.declared.certificate.Certificate.{Certificate as StoredCertificate}
use Rattle.sk_krawczyk.specs.declared.point.Tried.{Tried}
use Rattle.sk_krawczyk.proofs.RestLemmas.{first-fails}
use Rattle.sk_krawczyk.proofs.ReadLemmas.{each_some-mapped, range-at, listed-range}

-- ---- from the slopes to the elimination

module _ (s : ℕ) (v : SystemAt) where
  pub slopes-stop : each_some (slopes_at s v) v.rows ≡ None → interval_test s v ≡ stops past_limit
  unfolding interval_test
  slopes-stop h = ap (slopes_test s v) h

  pub slopes-go : (slopes : List (List Ends)) (r : Result Elimination Halt) → each_some (slopes_at s v) v.rows ≡ Some slopes →
      eliminate s (length v.unknowns) v.params (forced_pairs v) slopes ≡ r → interval_test s v ≡ elimination_test s v r
  unfolding interval_test
  slopes-go slopes r h k = ap (slopes_test s v) h ∙ ap (elimination_test s v) k

  pub elimination-stops : (h : Halt) → elimination_test s v (Err h) ≡ stops h
  unfolding elimination_test
  elimination-stops h = refl

  pub elimination-goes : (e : Elimination) → elimination_test s v (Ok e) ≡ step_test s v (basis_of e) (newton_steps s v (basis_of e))
  unfolding elimination_test
  elimination-goes e = refl

  -- ---- Newton's step as a stored column

  module _ (b : Basis) where
    step-cell : ℕ → ℕ → Option Ends
    step-cell j k = newton_of s (map point v.unknowns) v.cosines v.rows b.retained (length b.solved) b.inverse j k

    step-is : (j k : ℕ) → step-cell j k ≡ newton_step s (square_system v b) j
    unfolding step-cell newton_step
    step-is j k = refl

    column-listed : (n : ℕ) → table n 1 step-cell ≡ listed n (newton_step s (square_system v b))
    column-listed zero = refl
    column-listed (suc n) = ap (λ xs. xs ++ (step-cell n 0 ∷ [])) (column-listed n) ∙ ap (λ x. listed n (newton_step s (square_system v b)) ++ (x ∷ [])) (step-is n 0)

    pub steps-stored : (rows cols : ℕ) (cells : List Ends) → rows ≡ length b.solved → cols ≡ length b.solved →
        map (λ e. Some e) cells ≡ table rows 1 (newton_of s (map point v.unknowns) v.cosines v.rows b.retained cols b.inverse) → newton_steps s v b ≡ Some cells
    unfolding step-cell
    steps-stored rows cols cells p q h =
        let n = length b.solved in
        let t : map (λ e. Some e) cells ≡ table n 1 step-cell =
        h ∙ ap (λ k. table k 1 (newton_of s (map point v.unknowns) v.cosines v.rows b.retained cols b.inverse)) p ∙ ap (λ k. table n 1 (newton_of s (map point v.unknowns) v.cosines v.rows b.retained k b.inverse)) q in
        each_some-mapped (newton_step s (square_system v b)) (range_with_len 0 n) cells (t ∙ column-listed n ∙ listed-range n (newton_step s (square_system v b)))

    pub steps-past : (rows cols : ℕ) → rows ≡ length b.solved → cols ≡ length b.solved →
        Contains (table rows 1 (newton_of s (map point v.unknowns) v.cosines v.rows b.retained cols b.inverse)) None → newton_steps s v b ≡ None
    unfolding step-cell
    steps-past rows cols p q h =
        let n = length b.solved in
        let t : Contains (table n 1 step-cell) None =
        subst (λ k. Contains (table n 1 (newton_of s (map point v.unknowns) v.cosines v.rows b.retained k b.inverse)) None) q
        (subst (λ k. Contains (table k 1 (newton_of s (map point v.unknowns) v.cosines v.rows b.retained cols b.inverse)) None) p h) in
        let (i, j, l, o, e) = table-none n 1 step-cell t in
        each_some-none (newton_step s (square_system v b)) (range_with_len 0 n) i 0 (omega (arith, l, length-range_with_len 0 n))
        (ap (newton_step s (square_system v b)) (range-at n i l) ∙ sym (step-is i j) ∙ e)

    pub steps-uncomputed : (rows cols : ℕ) (radius : ℕ → ℕ) → rows ≡ length b.solved → cols ≡ length b.solved →
        Contains (table rows 1 (newton_of s (map point v.unknowns) v.cosines v.rows b.retained cols b.inverse)) None → is_computed s (square_system v b) radius ≡ false
    unfolding step-cell
    steps-uncomputed rows cols radius p q h =
        let n = length b.solved in
        let t : Contains (table n 1 step-cell) None =
        subst (λ k. Contains (table n 1 (newton_of s (map point v.unknowns) v.cosines v.rows b.retained k b.inverse)) None) q
        (subst (λ k. Contains (table k 1 (newton_of s (map point v.unknowns) v.cosines v.rows b.retained cols b.inverse)) None) p h) in
        let (i, j, l, o, e) = table-none n 1 step-cell t in
        first-fails _ _ (first-fails _ _ (first-fails _ _ (first-fails _ _ (all_to-fails n (λ j. is_some (newton_step s (square_system v b) j)) i l (ap is_some (sym (step-is i j) ∙ e))))))

  -- ---- the box

  pub step-past : (b : Basis) (step : List Ends) → newton_steps s v b ≡ Some step → are_near s (map radius_of step) ≡ true → box_test s v b (map radius_of step) ≡ over_limit →
      step_test s v b (newton_steps s v b) ≡ stops past_limit
  unfolding radius_test
  step-past b step n h k = ap (step_test s v b) n ∙ rw h (ap (outcome_of b.solved (map mid step)) k)

  module _ (b : Basis) (radii : List ℕ) where
    pub not-computed : is_computed s (square_system v b) (radius_at radii) ≡ false → box_test s v b radii ≡ over_limit
    unfolding box_test
    not-computed h = rw h refl

    pub not-met : is_computed s (square_system v b) (radius_at radii) ≡ true → conditions s (square_system v b) radii (length_columns v) ≡ false → box_test s v b radii ≡ unmet
    unfolding box_test
    not-met h k = rw (h, k) refl

    pub not-spanned : is_computed s (square_system v b) (radius_at radii) ≡ true → conditions s (square_system v b) radii (length_columns v) ≡ true →
        suspect_spans s v (box (square_system v b) (radius_at radii)) b.suspects ≡ None → box_test s v b radii ≡ over_limit
    unfolding box_test
    not-spanned h k n = rw (h, k) (ap (certified s v b radii) n)

    pub is-met : (spans : List Ends) → is_computed s (square_system v b) (radius_at radii) ≡ true → conditions s (square_system v b) radii (length_columns v) ≡ true →
        suspect_spans s v (box (square_system v b) (radius_at radii)) b.suspects ≡ Some spans → box_test s v b radii ≡ met (certificate s v b radii (suspects_of b.suspects spans))
    unfolding box_test
    is-met spans h k n = rw (h, k) (ap (certified s v b radii) n)

-- ---- the answers

module _ {s : ℕ} (names : List RowName) where
  tried-far : (v : SystemAt) (b : Basis) (step : List Ends) (radii : List ℕ) (near : Bool) → are_near s radii ≡ near → (c : Option (StoredCertificate s)) → IsTested near names (box_test s v b radii) c →
      (t : Tried s) → t.solved ≡ b.solved → t.step ≡ map mid step → t.certificate ≡ c → IsTried names (radius_test s v b step radii) t
  unfolding radius_test
  tried-far v b step radii false n c h t i j k = rw n (i, j, k ∙ h)
  tried-far v b step radii true n c h t i j k = rw n (by (box_test s v b radii) c h k)
    where
      by : (o : BoxOutcome) (c : Option (StoredCertificate s)) → IsMet names o c → t.certificate ≡ c → IsTried names (outcome_of b.solved (map mid step) o) t
      by o None h k = subst (λ (o : BoxOutcome). IsTried names (outcome_of b.solved (map mid step) o) t) (sym h) (i, j, k)
      by o (Some x) (c, e, f) k = subst (λ (o : BoxOutcome). IsTried names (outcome_of b.solved (map mid step) o) t) (sym e) (i, j, (x, k, f))

  pub tested-near : (near : Bool) (o : BoxOutcome) (c : Option (StoredCertificate s)) → near ≡ true → IsMet names o c → IsTested near names o c
  tested-near near o c e h = subst (λ (b : Bool). IsTested b names o c) (sym e) h

  pub tried-from : (v : SystemAt) (b : Basis) (step : List Ends) (c : Option (StoredCertificate s)) → newton_steps s v b ≡ Some step → IsTested (are_near s (map radius_of step)) names (box_test s v b (map radius_of step)) c →
      (t : Tried s) → t.solved ≡ b.solved → t.step ≡ map mid step → t.certificate ≡ c → IsTried names (step_test s v b (newton_steps s v b)) t
  tried-from v b step c n h t i j k =
      subst (λ (o : Option (List Ends)). IsTried names (step_test s v b o) t) (sym n) (tried-far v b step (map radius_of step) (are_near s (map radius_of step)) refl c h t i j k)

  pub tried-sound : (v : SystemAt) (t : Tried s) → 1 ≤ s → IsFit v → IsTried names (interval_test s v) t → IfSome t.certificate (IsOfPass names v)
  tried-sound v t some fit h = by (interval_test s v) refl h
    where
      by : (o : Outcome) → interval_test s v ≡ o → IsTried names o t → IfSome t.certificate (IsOfPass names v)
      by (stops z) e h = absurd h
      by (fails columns moves) e (i, j, k) = subst (λ (o : Option (StoredCertificate s)). IfSome o (IsOfPass names v)) (sym k) tt
      by (passes columns moves c) e (i, j, (x, k, f)) =
          subst (λ (o : Option (StoredCertificate s)). IfSome o (IsOfPass names v)) (sym k) (record {
            certificate = c;
            solved = columns;
            step = moves;
            passed = e;
            is = f;
            whole = passed-whole names v c columns moves x fit e f;
            sound = interval_test-sound s v c columns moves some fit e;
          })

  pub present-from : (o : BoxOutcome) (c : Option (StoredCertificate s)) → IsMet names o c → IsPresent names o c
  present-from o None h = ap certificate_in h
  present-from o (Some k) (c, e, f) = (c, ap certificate_in e, f)

  pub met-sound : (v : SystemAt) (b : Basis) (radii : List ℕ) (o : Option (StoredCertificate s)) → 1 ≤ s → IsUsable v b radii → IsMet names (box_test s v b radii) o → IfSome o (IsSound names v)
  met-sound v b radii None some usable h = tt
  met-sound v b radii (Some k) some usable (c, e, f) = (c, f, box_test-sound s v b radii c some usable e)

-- the outcome is what follows the elimination
pub outcome-of_basis : (s : ℕ) (v : SystemAt) (b : Basis) (slopes : List (List Ends)) (e : Elimination) → each_some (slopes_at s v) v.rows ≡ Some slopes →
    eliminate s (length v.unknowns) v.params (forced_pairs v) slopes ≡ Ok e → b ≡ basis_of e → interval_test s v ≡ step_test s v b (newton_steps s v b)
outcome-of_basis s v b slopes e h k same = slopes-go s v slopes (Ok e) h k ∙ elimination-goes s v e ∙ ap (λ (b : Basis). step_test s v b (newton_steps s v b)) (sym same)
