-- A visited system that can be tested fits.
use Rattle.std.proofs.Common.{◌≡◌, ℕ, zero, suc, ◌<◌, arith, refl, ap, sym, ◌∙◌, subst, List, [], ◌∷◌, length, get_or, map, Some, pos, Bool, true, false, ◌||◌}
use Rattle.std.specs.Prelude.{◌==◌, slice_get}
use Rattle.std.specs.List.{All}
use Rattle.std.proofs.Math.Bool.{or-true}
use Rattle.std.proofs.lemmas.Bool.{eqb-true, eq-eqb}
use Rattle.std.proofs.lemmas.List.{length-map}
use Rattle.sk_expr.specs.Poly.{number, IsInRange}
use Rattle.sk_expr.specs.System.{ForcedPivot}
use Rattle.sk_expr.specs.Tapes.{plain_tape, root_trees, row_tree, tree_at}
use Rattle.sk_expr.specs.Visits.{system_of, IsTestable}
use Rattle.sk_expr.specs.VisitLaws.{rows-at}
use Rattle.sk_expr.specs.declared.visited.Visited.{Visited}
use Rattle.sk_elim.specs.Elimination.{has_column}
use Rattle.sk_elim.specs.PivotLaws.{AreApart, has}
use Rattle.sk_krawczyk.specs.CertifiedLaws.{IsFit}

abbrev pair : ForcedPivot → ℕ × ℕ
pair f = (f.row, f.column)

-- a column that one of the pairs has
has-some : (c : ℕ) (fs : List ForcedPivot) (i : ℕ) (f : ForcedPivot) → slice_get fs i ≡ Some f → f.column ≡ c → has_column c (map pair fs) ≡ true
has-some c [] i f o e = absurd cc
has-some c (g ∷ fs) zero f o e =
    let same : g ≡ f = cc in
    let head : (g.column == c) ≡ true = eq-eqb g.column c (ap (λ (h : ForcedPivot). h.column) same ∙ e) in
    rw head refl
has-some c (g ∷ fs) (suc i) f o e = rw (has-some c fs i f o e) (or-true (g.column == c))

-- a key that none of the pairs has
has-none : (key : ℕ × ℕ → ℕ) (k : ℕ) (fs : List ForcedPivot) → ((i : ℕ) (f : ForcedPivot) → slice_get fs i ≡ Some f → key (pair f) ≡ k → ⊥) → has key k (map pair fs) ≡ false
has-none key k [] h = refl
has-none key k (f ∷ fs) h = by (key (pair f) == k) refl (has-none key k fs (λ i g o. h (suc i) g o))
  where
    by : (b : Bool) → (key (pair f) == k) ≡ b → has key k (map pair fs) ≡ false → (b || has key k (map pair fs)) ≡ false
    by true e r = absurd (h 0 f refl (eqb-true (key (pair f)) k e))
    by false e r = r

apart : (key : ℕ × ℕ → ℕ) (n : ℕ) (fs : List ForcedPivot) → ((i : ℕ) (f : ForcedPivot) → slice_get fs i ≡ Some f → key (pair f) < n) →
    ((i j : ℕ) (f g : ForcedPivot) → slice_get fs i ≡ Some f → slice_get fs j ≡ Some g → key (pair f) ≡ key (pair g) → i ≡ j) → AreApart key n (map pair fs)
apart key n [] l d = tt
apart key n (f ∷ fs) l d = (
  l 0 f refl,
  has-none key (key (pair f)) fs (λ i g o e. let z : suc i ≡ 0 = d (suc i) 0 g f o refl e in absurd (omega (arith, z))),
  apart key n fs (λ i g o. l (suc i) g o) (λ i j g h o p e. let z = d (suc i) (suc j) g h o p e in omega (arith, z)),
)

rows-in : {s : ℕ} (v : Visited s) (u o : ℕ) → ((r : ℕ) → r < length v.tape.roots → IsInRange u o (row_tree (plain_tape v.tape) r)) → All (IsInRange u o) (root_trees (plain_tape v.tape))
rows-in v u o h = λ i d l.
    let k : i < length v.tape.roots = omega (arith, l, length-map v.tape.roots (tree_at v.tape.nodes)) in
    subst (IsInRange u o) (sym (rows-at (plain_tape v.tape) i k) ∙ same (root_trees (plain_tape v.tape)) i (number (pos 0)) d l) (h i k)
  where
    same : {A : Type 0} (xs : List A) (i : ℕ) (d e : A) → i < length xs → get_or xs i d ≡ get_or xs i e
    same [] i d e l = absurd (omega (arith, l))
    same (x ∷ xs) zero d e l = refl
    same (x ∷ xs) (suc i) d e l = same xs i d e (omega (arith, l))

pub testable-fits : {s : ℕ} (params : ℕ) (v : Visited s) → IsTestable params v → IsFit (system_of params v)
testable-fits params v h =
    let fs = (system_of params v).forced in
    let n : length (root_trees (plain_tape v.tape)) ≡ length v.rows = length-map v.tape.roots (tree_at v.tape.nodes) ∙ sym h.one_each in
    record {
      rows_in = rows-in v (length v.unknowns) (length v.cosines) h.in_range;
      params_in = h.forced.params_in;
      auxiliaries_forced = λ c l o. let (i, f, at, is) = h.forced.each_column c l o in has-some c fs i f at is;
      columns_apart = apart (λ p. p.1) (length v.unknowns) fs (λ i f o. (h.forced.columns_in i f o).1) h.forced.columns_differ;
      rows_apart = apart (λ p. p.0) (length (root_trees (plain_tape v.tape))) fs (λ i f o. subst (λ (k : ℕ). f.row < k) (sym n) (h.forced.rows_in i f o)) h.forced.rows_differ;
    }
