-- The certificate of a test that passes is whole.
use Rattle.std.proofs.Common.{◌≡◌, ℕ, zero, suc, ◌<◌, ◌≤◌, ◌+◌, ◌*◌, arith, refl, ap, sym, ◌∙◌, subst, ⊎_elim, List, [], ◌∷◌, ◌++◌, length, map, ℤ, Bool, true, false, ◌&&◌, ◌||◌, Ok}
use Rattle.std.specs.Prelude.{◌==◌, not}
use Rattle.std.specs.List.{All, filter, range_with_len}
use Rattle.std.proofs.Math.Bool.{or-true, not-not}
use Rattle.std.proofs.lemmas.Bool.{cases_eq, cases_lt, eq-eqb, ne_eqb}
use Rattle.std.proofs.lemmas.List.{length-append, length-map}
use Rattle.std.proofs.lemmas.List.Elements.{All-head, All-tail}
use Rattle.std.proofs.lemmas.List.Folds.{list_any-append}
use Rattle.sk_num.specs.Ends.{Ends}
use Rattle.sk_expr.specs.Columns.{is_among, RisesFrom}
use Rattle.sk_expr.specs.ColumnLaws.{among-filter, filter-rises}
use Rattle.sk_expr.specs.System.{SystemAt}
use Rattle.sk_expr.specs.declared.row.RowName.{RowName}
use Rattle.sk_elim.specs.Elimination.{Elimination, has_column, eliminate}
use Rattle.sk_elim.specs.EliminationLaws.{filter_range-below}
use Rattle.sk_elim.specs.PartLaws.{eliminate-parts, eliminate-forced}
use Rattle.sk_elim.specs.Result.{joined}
use Rattle.sk_elim.specs.SizeLaws.{eliminate-sizes}
use Rattle.sk_krawczyk.specs.Box.{basis_of, radius_of}
use Rattle.sk_krawczyk.specs.IntervalTest.{Certificate, passes, interval_test, forced_pairs}
use Rattle.sk_krawczyk.specs.CertifiedLaws.{IsFit, eliminated-usable}
use Rattle.sk_krawczyk.specs.PassedLaws.{box_test-passed, interval_test-passed}
use Rattle.sk_krawczyk.specs.Answers.{radius_of_log, IsCertificate, IsWhole}
use Rattle.sk_krawczyk.specs.declared.certificate.Certificate.{Certificate as StoredCertificate}

-- ---- a test of the columns of a range

among-range : (a n c : ℕ) → a ≤ c → c < a + n → is_among (range_with_len a n) c ≡ true
among-range a zero c l o = absurd (omega (arith, l, o))
among-range a (suc n) c l o =
    ⊎_elim
    (λ (e : a ≡ c). rw (eq-eqb a c e) refl)
    (λ (e : a ≡ c → ⊥). rw (among-range (a + 1) n c (omega (arith, e, l)) (omega (arith, o))) (or-true (a == c)))
    (cases_eq a c)

behind-range : (a n c : ℕ) → a + n ≤ c → is_among (range_with_len a n) c ≡ false
behind-range a zero c l = refl
behind-range a (suc n) c l = rw (ne_eqb a c (λ e. omega (arith, e, l)), behind-range (a + 1) n c (omega (arith, l))) refl

range-rises : (a n : ℕ) → RisesFrom a (range_with_len a n)
range-rises a zero = tt
range-rises a (suc n) = (omega arith, range-rises (a + 1) n)

module _ (test : ℕ → Bool) where
  among-kept : (n c : ℕ) → c < n → is_among (filter test (range_with_len 0 n)) c ≡ test c
  among-kept n c l = among-filter test (range_with_len 0 n) c ∙ ap (λ b. b && test c) (among-range 0 n c (omega arith) (omega (arith, l)))

  among-behind : (n c : ℕ) → n ≤ c → is_among (filter test (range_with_len 0 n)) c ≡ false
  among-behind n c l = among-filter test (range_with_len 0 n) c ∙ ap (λ b. b && test c) (behind-range 0 n c (omega (arith, l)))

  pub filter-below : (m n : ℕ) → n ≤ m → All (λ r. r < m) (filter test (range_with_len 0 n))
  filter-below m n h = λ i d l. omega (arith, filter_range-below test 0 n i d l, h)

-- ---- the inverse

joined-length : (m : ℕ) (xss : List (List ℤ)) → All (λ (xs : List ℤ). length xs ≡ m) xss → length (joined xss) ≡ length xss * m
joined-length m [] a = omega arith
joined-length m (xs ∷ xss) a =
    let rest = joined-length m xss (All-tail (λ (xs : List ℤ). length xs ≡ m) xs xss a) in
    length-append xs (joined xss) ∙ omega (arith, All-head (λ (xs : List ℤ). length xs ≡ m) xs xss a, rest)

-- it has as many cells as it should
pub inverse-size : (s columns params : ℕ) (forced : List (ℕ × ℕ)) (slopes : List (List Ends)) (e : Elimination) → eliminate s columns params forced slopes ≡ Ok e →
    length (joined e.inverse) ≡ length e.solved * length e.retained
inverse-size s columns params forced slopes e h =
    let sizes = eliminate-sizes s columns params forced slopes e h in
    joined-length (length e.retained) e.inverse sizes.cells ∙ ap (λ n. n * length e.retained) sizes.rows

-- ---- held and solved columns

-- the columns below n that a test takes, and the parameters that it doesn't, where it takes each that is no parameter
parted : (test : ℕ → Bool) (params n c : ℕ) → (params ≤ c → c < n → test c ≡ true) → c < n →
    is_among (filter test (range_with_len 0 n)) c ≡ not (is_among (filter (λ c. not (test c)) (range_with_len 0 params)) c)
parted test params n c h l =
    ⊎_elim
    (λ (o : c < params). among-kept test n c l ∙ sym (not-not (test c)) ∙ ap not (sym (among-kept (λ c. not (test c)) params c o)))
    (λ (o : params ≤ c). among-kept test n c l ∙ h o l ∙ ap not (sym (among-behind (λ c. not (test c)) params c o)))
    (cases_lt c params)

-- each auxiliary has a pivot, a forced one
auxiliary-taken : (v : SystemAt) (pivots rest : List (ℕ × ℕ)) (c : ℕ) → IsFit v → pivots ≡ forced_pairs v ++ rest → v.params ≤ c → c < length v.unknowns → has_column c pivots ≡ true
auxiliary-taken v pivots rest c fit e l o =
    ap (has_column c) e ∙ list_any-append (λ p. p.1 == c) (forced_pairs v) rest ∙ ap (λ b. b || has_column c rest) (fit.auxiliaries_forced c l o)

-- ---- the certificate

pub passed-whole : {s : ℕ} (names : List RowName) (v : SystemAt) (c : Certificate) (columns : List ℕ) (moves : List ℤ) (k : StoredCertificate s) → IsFit v → interval_test s v ≡ passes columns moves c →
    IsCertificate names k c → IsWhole v.params k
passed-whole {s} names v c columns moves k fit h is =
    let p = interval_test-passed s v c columns moves h in
    let e = p.elimination in
    let of = sym (box_test-passed s v (basis_of e) (map radius_of p.step) c p.box_met).is in
    let n = length v.unknowns in
    let taken : ℕ → Bool = λ u. has_column u e.pivots in
    let parts = (eliminate-parts s n v.params (forced_pairs v) p.slopes e p.eliminated).0 in
    let (rest, pivots) = eliminate-forced s n v.params (forced_pairs v) p.slopes e p.eliminated in
    let usable = eliminated-usable s v p.slopes e p.step fit p.slopes_are p.eliminated p.step_is in
    let centre : k.centre ≡ v.unknowns = is.centre ∙ ap (λ (c : Certificate). c.centre) of in
    let solved : k.solved ≡ e.solved = is.solved ∙ ap (λ (c : Certificate). c.solved) of in
    let solved_are : k.solved ≡ filter taken (range_with_len 0 n) = solved ∙ parts.solved in
    let held_are : k.held ≡ filter (λ u. not (taken u)) (range_with_len 0 v.params) = is.held ∙ ap (λ (c : Certificate). c.held) of ∙ parts.held in
    let retained : k.retained ≡ e.retained = is.retained ∙ ap (λ (c : Certificate). c.retained) of in
    let radii : map (radius_of_log s) k.radius_logs ≡ map radius_of p.step = is.radii ∙ ap (λ (c : Certificate). c.radii) of in
    let cells : k.inverse.cells ≡ joined e.inverse = is.inverse ∙ ap (λ (c : Certificate). c.inverse) of in
    let rows : k.inverse.rows ≡ length k.solved = is.inverse_rows ∙ ap length (sym is.solved) in
    let cols : k.inverse.cols ≡ length k.retained = is.inverse_cols ∙ ap length (sym is.retained) in
    record {
      params_in = omega (arith, fit.params_in, ap length centre);
      parts = λ u l.
          ap (λ (ks : List ℕ). is_among ks u) solved_are
          ∙ parted taken v.params n u (λ o i. auxiliary-taken v e.pivots rest u fit pivots o i) (omega (arith, l, ap length centre))
          ∙ ap (λ (ks : List ℕ). not (is_among ks u)) (sym held_are);
      solved_in = subst (All (λ u. u < length k.centre)) (sym solved_are) (filter-below taken (length k.centre) n (omega (arith, ap length centre)));
      solved_rise = subst (RisesFrom 0) (sym solved_are) (filter-rises taken 0 (range_with_len 0 n) (range-rises 0 n));
      held_in = subst (All (λ u. u < v.params)) (sym held_are) (filter-below (λ u. not (taken u)) v.params v.params (omega arith));
      held_rise = subst (RisesFrom 0) (sym held_are) (filter-rises (λ u. not (taken u)) 0 (range_with_len 0 v.params) (range-rises 0 v.params));
      as_many_rows = ap length retained ∙ sym usable.as_many_rows ∙ ap length (sym solved);
      as_many_radii = sym (length-map k.radius_logs (radius_of_log s)) ∙ ap length radii ∙ usable.as_many_radii ∙ ap length (sym solved);
      inverse_rows = rows;
      inverse_cols = cols;
      inverse = ap length cells ∙ inverse-size s n v.params (forced_pairs v) p.slopes e p.eliminated ∙ ap (λ m. m * length e.retained) (ap length (sym solved) ∙ sym rows)
          ∙ ap (λ m. k.inverse.rows * m) (ap length (sym retained) ∙ sym cols);
    }
