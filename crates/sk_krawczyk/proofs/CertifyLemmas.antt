-- What a system's visit says of the answer.
use Rattle.std.proofs.Common.{◌≡◌, ℕ, ap, sym, ◌∙◌, subst, List, length, take, ℤ, Option, Some, None}
use Rattle.std.specs.Prelude.{IfSome}
use Rattle.std.proofs.lemmas.List.{length-map}
use Rattle.sk_expr.specs.Seen.{Seen, without_names}
use Rattle.sk_expr.specs.System.{SystemAt}
use Rattle.sk_expr.specs.Tapes.{plain_tape, root_trees, tree_at}
use Rattle.sk_expr.specs.Visits.{system_of, seen_of, IsTestable}
use Rattle.sk_expr.specs.VisitLaws.{without_names-seen, named-names}
use Rattle.sk_expr.specs.declared.row.RowName.{RowName}
use Rattle.sk_expr.specs.declared.visited.Visited.{Visited}
use Rattle.sk_elim.specs.Elimination.{past_limit}
use Rattle.sk_krawczyk.specs.IntervalTest.{Outcome, stops, interval_test}
use Rattle.sk_krawczyk.specs.Answers.{IsTried, StopsAs, IsOfPass, IsSoundAt, outcome_at, names_at}
use Rattle.sk_krawczyk.specs.PassedLaws.{passed-centre}
use Rattle.sk_krawczyk.specs.declared.certificate.Certificate.{Certificate as StoredCertificate}
use Rattle.sk_krawczyk.specs.declared.fault.CertFault.{CertFault}
use Rattle.sk_krawczyk.specs.declared.point.Tried.{Tried}

pub past-at : (s params : ℕ) (seen : Option Seen) → seen ≡ None → outcome_at s params seen ≡ stops past_limit
past-at s params seen e = ap (outcome_at s params) e

module _ {s : ℕ} (params : ℕ) (v : Visited s) (testable : IsTestable params v) (seen : Option Seen) (is : seen ≡ Some (seen_of v)) where
  names-same : names_at seen ≡ v.rows
  names-same = ap names_at is ∙ named-names v.rows (root_trees (plain_tape v.tape)) (testable.one_each ∙ sym (length-map v.tape.roots (tree_at v.tape.nodes)))

  outcome-same : outcome_at s params seen ≡ interval_test s (system_of params v)
  outcome-same = ap (outcome_at s params) is ∙ ap (interval_test s) (without_names-seen params v testable)

  pub tried-at : (t : Tried s) → IsTried v.rows (interval_test s (system_of params v)) t → IsTried (names_at seen) (outcome_at s params seen) t
  tried-at t h =
      subst (λ (names : List RowName). IsTried names (outcome_at s params seen) t) (sym names-same)
      (subst (λ (o : Outcome). IsTried v.rows o t) (sym outcome-same) h)

  pub stops-at : (e : CertFault) → StopsAs (interval_test s (system_of params v)) e → StopsAs (outcome_at s params seen) e
  stops-at e h = subst (λ (o : Outcome). StopsAs o e) (sym outcome-same) h

  -- the centre is the unknowns, which begin with the point
  pub sound-at : (at : List ℤ → Option Seen) (x : List ℤ) → at x ≡ seen → take (length x) v.unknowns ≡ x → (o : Option (StoredCertificate s)) → IfSome o (IsOfPass v.rows (system_of params v)) → IfSome o (IsSoundAt params at x)
  sound-at at x same begins None h = tt
  sound-at at x same begins (Some k) h = record {
    seen = seen_of v;
    there = same ∙ is;
    pass =
        subst (λ (names : List RowName). IsOfPass names (without_names params (seen_of v)) k) (sym names-same ∙ ap names_at (sym same))
        (subst (λ (y : SystemAt). IsOfPass v.rows y k) (sym (without_names-seen params v testable)) h);
    begins = ap (take (length x)) (h.is.centre ∙ passed-centre s (system_of params v) h.certificate h.solved h.step h.passed) ∙ begins;
  }
