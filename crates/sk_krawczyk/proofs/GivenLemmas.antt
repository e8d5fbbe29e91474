-- What is given to a test is usable.
use Rattle.std.proofs.Common.{◌≡◌, ℕ, zero, suc, ◌<◌, ◌≤◌, ◌+◌, ◌*◌, arith, ap, sym, ◌∙◌, subst, List, [], ◌∷◌, length, map, get_or, ℤ, pos, ◌+ℤ◌, refl}
use Rattle.std.specs.Prelude.{unsigned_abs, not}
use Rattle.std.specs.List.{All}
use Rattle.std.proofs.lemmas.List.{length-map}
use Rattle.std.proofs.lemmas.List.Elements.{All-nil, All-cons, All-head, All-tail}
use Rattle.sk_num.specs.declared.mat.Mat.{Mat}
use Rattle.sk_expr.specs.Columns.{RisesFrom, is_among}
use Rattle.sk_expr.specs.Visits.{system_of, pivot_of, IsTestable}
use Rattle.sk_expr.specs.declared.visited.Visited.{Visited}
use Rattle.sk_krawczyk.specs.Box.{Basis}
use Rattle.sk_krawczyk.specs.CertifiedLaws.{IsUsable, columns-in}
use Rattle.sk_elim.specs.PivotLaws.{has, keys-count}
use Rattle.sk_krawczyk.specs.IntervalTest.{forced_pairs}
use Rattle.sk_krawczyk.specs.RatioLaws.{IsPower}
use Rattle.sk_krawczyk.specs.FitLaws.{testable-fits}
use Rattle.sk_krawczyk.specs.Answers.{radius_of_log, IsGiven, IsBasis, given_basis, plain_basis, others}
use Rattle.sk_krawczyk.specs.declared.basis.Basis.{Basis as StoredBasis}
use Rattle.sk_krawczyk.specs.declared.certificate.Given.{Given}
use Rattle.sk_krawczyk.specs.WholeLaws.{filter-below}
use Rattle.sk_krawczyk.proofs.BasisLemmas.{kept-few}

rises-above : (n : ℕ) (ks : List ℕ) → RisesFrom n ks → (i : ℕ) → i < length ks → n ≤ get_or ks i 0
rises-above n [] h i l = absurd (omega (arith, l))
rises-above n (k ∷ ks) h zero l = h.0
rises-above n (k ∷ ks) h (suc i) l = let r = rises-above (k + 1) ks h.1 i (omega (arith, l)) in omega (arith, h.0, r)

pub rises-differ : (n : ℕ) (ks : List ℕ) → RisesFrom n ks → (i j : ℕ) → i < length ks → j < length ks → get_or ks i 0 ≡ get_or ks j 0 → i ≡ j
rises-differ n [] h i j l o e = absurd (omega (arith, l))
rises-differ n (k ∷ ks) h zero zero l o e = refl
rises-differ n (k ∷ ks) h zero (suc j) l o e = let r = rises-above (k + 1) ks h.1 j (omega (arith, o)) in absurd (omega (arith, r, e))
rises-differ n (k ∷ ks) h (suc i) zero l o e = let r = rises-above (k + 1) ks h.1 i (omega (arith, l)) in absurd (omega (arith, r, e))
rises-differ n (k ∷ ks) h (suc i) (suc j) l o e = ap suc (rises-differ (k + 1) ks h.1 i j (omega (arith, l)) (omega (arith, o)) e)

rises-few : (n m : ℕ) (ks : List ℕ) → n ≤ m → RisesFrom n ks → All (λ k. k < m) ks → n + length ks ≤ m
rises-few n m [] l h a = omega (arith, l)
rises-few n m (k ∷ ks) l h a =
    let r = rises-few (k + 1) m ks (omega (arith, All-head (λ k. k < m) k ks a)) h.1 (All-tail (λ k. k < m) k ks a) in omega (arith, h.0, r)

powers : (s : ℕ) (logs : List ℤ) → All IsPower (map (radius_of_log s) logs)
powers s [] = All-nil IsPower
powers s (l ∷ logs) = All-cons IsPower (radius_of_log s l) (map (radius_of_log s) logs) (record { exponent = unsigned_abs (l +ℤ pos s); is = refl }) (powers s logs)

pub given-usable : {s : ℕ} (params : ℕ) (v : Visited s) (g : Given s) → IsTestable params v → IsGiven v g → IsUsable (system_of params v) (given_basis params v g) (map (radius_of_log s) g.radius_logs)
given-usable {s} params v g testable given =
    let fit = testable-fits params v testable in
    record {
      rows_in = fit.rows_in;
      forced_in = columns-in (length v.unknowns) (system_of params v).forced fit.columns_apart;
      columns_in = λ j l. given.columns_in j 0 l;
      columns_differ = rises-differ 0 g.solved given.columns_rise;
      as_many_rows = given.as_many;
      as_many_radii = length-map g.radius_logs (radius_of_log s) ∙ given.one_each;
      powers = powers s g.radius_logs;
    }

-- the stored basis fits
pub given-fits : {s : ℕ} (params : ℕ) (v : Visited s) (g : Given s) (b : StoredBasis s) → IsTestable params v → IsGiven v g → plain_basis b ≡ given_basis params v g → b.inverse ≡ g.inverse → IsBasis v b
given-fits {s} params v g b testable given same inverse =
    let solved : b.solved ≡ g.solved = ap (λ (b : Basis). b.solved) same in
    let retained : b.retained ≡ g.retained = ap (λ (b : Basis). b.retained) same in
    let suspects : b.suspects ≡ others (length v.rows) g.retained = ap (λ (b : Basis). b.suspects) same in
    let rows : b.inverse.rows ≡ length g.solved = ap (λ (m : Mat s). m.rows) inverse ∙ given.inverse_rows in
    let cols : b.inverse.cols ≡ length g.retained = ap (λ (m : Mat s). m.cols) inverse ∙ given.inverse_cols in
    record {
      columns_in = subst (All (λ c. c < length v.unknowns)) (sym solved) given.columns_in;
      rows_in = subst (All (λ r. r < length v.tape.roots)) (sym retained) (subst (λ (k : ℕ). All (λ r. r < k) g.retained) testable.one_each given.rows_in);
      suspects_in = subst (All (λ r. r < length v.tape.roots)) (sym suspects) (filter-below (λ c. not (is_among g.retained c)) (length v.tape.roots) (length v.rows) (omega (arith, testable.one_each)));
      few = omega (arith, ap length solved, rises-few 0 (length v.unknowns) g.solved (omega arith) given.columns_rise given.columns_in, testable.few_unknowns);
      square = ap length solved ∙ given.as_many ∙ ap length (sym retained);
      inverse_rows = rows ∙ ap length (sym solved);
      inverse_cols = cols ∙ ap length (sym retained);
      inverse = ap (λ (m : Mat s). length m.cells) inverse ∙ given.inverse ∙ ap (λ (m : Mat s). m.rows * m.cols) (sym inverse);
    }

-- no more forced pairs than unknowns, as their columns differ
pub forced-few : {s : ℕ} (params : ℕ) (v : Visited s) → IsTestable params v → length v.forced ≤ length v.unknowns
forced-few params v testable =
    let n = length v.unknowns in
    let few = kept-few (λ c. has (λ p. p.1) c (forced_pairs (system_of params v))) 0 n in
    let k = keys-count (λ p. p.1) n (forced_pairs (system_of params v)) (testable-fits params v testable).columns_apart in
    omega (arith, few, k, length-map {B = ℕ × ℕ} (map pivot_of v.forced) (λ f. (f.row, f.column)), length-map v.forced pivot_of)
