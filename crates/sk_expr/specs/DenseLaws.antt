-- The slopes of a row in all listed columns, from those that occur.
use Rattle.std.proofs.Common.{◌≡◌, ℕ, ℤ, pos, Bool, true, false, true≢false, List, [], ◌∷◌, Option, Some, None, refl, sym, ap, subst, ◌∙◌}
use Rattle.std.specs.Prelude.{◌==◌, option_map}
use Rattle.std.proofs.lemmas.Bool.{eqb-true, eq-eqb}
use Rattle.sk_num.specs.Ends.{Ends, point, span_add, span_sub, span_mul}
use Rattle.sk_num.specs.Each.{each_some}
use Rattle.sk_expr.specs.Poly.{Poly, occurs}
use Rattle.sk_expr.specs.SpanValue.{DualEnds, value_by, dual_value, span_slope, span_value}
use Rattle.sk_expr.specs.SpanLaws.{map-some}
use Rattle.sk_expr.specs.AbsentSlope.{constant_dual, absent-dual}
use Rattle.sk_num.specs.EachLaws.{cons-some}
use Rattle.sk_expr.specs.Columns.{is_among}
use Rattle.sk_expr.specs.SparseRows.{PlainSparse, occurring, sparse_slopes, span_beside}

module _ (s : ℕ) (us cs : List Ends) (t : Poly ℤ) where
  -- the slope in a column that doesn't occur is 0 to 0, and past the limit exactly where the value is
  slope-of-value : (d : Option DualEnds) (v : Option Ends) → d ≡ option_map constant_dual v → option_map (λ (d : DualEnds). d.slope) d ≡ option_map (λ x. point (pos 0)) v
  slope-of-value d None h = rw h refl
  slope-of-value d (Some v) h = rw h refl

  pub span_slope-absent : (c : ℕ) → occurs c t ≡ false → span_slope s us cs c t ≡ option_map (λ v. point (pos 0)) (span_value s us cs t)
  unfolding span_slope span_value
  span_slope-absent c h = slope-of-value (dual_value s us cs c t) (value_by point span_add span_sub (span_mul s) us cs t) (absent-dual s us cs c t h)

  zero-where-absent : (c : ℕ) (e : Ends) → occurs c t ≡ false → span_slope s us cs c t ≡ Some e → e ≡ point (pos 0)
  zero-where-absent c e o h =
      let (v, i, z) = map-some (λ (v : Ends). point (pos 0)) (span_value s us cs t) e (sym (span_slope-absent c o) ∙ h) in
      sym z

  -- a column that doesn't occur is not among those that do
  none-beside : (c : ℕ) → occurs c t ≡ false → (ks : List ℕ) (es : List Ends) → span_beside (occurring t ks es).columns (occurring t ks es).spans c ≡ point (pos 0)
  none-beside c o [] es = refl
  none-beside c o (k ∷ ks) [] = refl
  none-beside c o (k ∷ ks) (e ∷ es) = by (occurs k t) (k == c) refl refl (none-beside c o ks es)
    where
      by : (x y : Bool) → occurs k t ≡ x → (k == c) ≡ y → span_beside (occurring t ks es).columns (occurring t ks es).spans c ≡ point (pos 0) →
          span_beside (occurring t (k ∷ ks) (e ∷ es)).columns (occurring t (k ∷ ks) (e ∷ es)).spans c ≡ point (pos 0)
      by true true p q h = absurd (true≢false (sym p ∙ ap (λ z. occurs z t) (eqb-true k c q) ∙ o))
      by true false p q h = rw p (rw q h)
      by false y p q h = rw p h

  beside-first : (c : ℕ) (ks : List ℕ) (e : Ends) (es : List Ends) → span_slope s us cs c t ≡ Some e → (b : Bool) → occurs c t ≡ b →
      Some e ≡ Some (span_beside (occurring t (c ∷ ks) (e ∷ es)).columns (occurring t (c ∷ ks) (e ∷ es)).spans c)
  beside-first c ks e es h true o = rw o (let q : (c == c) ≡ true = eq-eqb c c refl in rw q refl)
  beside-first c ks e es h false o = rw o (ap Some (zero-where-absent c e o h ∙ sym (none-beside c o ks es)))

  beside-later : (c k : ℕ) (ks : List ℕ) (e : Ends) (es : List Ends) → (k == c) ≡ false → (b : Bool) → occurs k t ≡ b →
      span_beside (occurring t ks es).columns (occurring t ks es).spans c ≡ span_beside (occurring t (k ∷ ks) (e ∷ es)).columns (occurring t (k ∷ ks) (e ∷ es)).spans c
  beside-later c k ks e es n true o = rw o (rw n refl)
  beside-later c k ks e es n false o = rw o refl

  occurring-beside : (c : ℕ) (ks : List ℕ) (es : List Ends) → each_some (λ c. span_slope s us cs c t) ks ≡ Some es → is_among ks c ≡ true →
      span_slope s us cs c t ≡ Some (span_beside (occurring t ks es).columns (occurring t ks es).spans c)
  occurring-beside c [] es h i = absurd (true≢false (sym i))
  occurring-beside c (k ∷ ks) es h i =
      let (x, xs, a, r, q) = cons-some (span_slope s us cs k t) (each_some (λ c. span_slope s us cs c t) ks) es h in
      by x xs (k == c) refl a (λ m. occurring-beside c ks xs r m)
      ∙ ap (λ (l : List Ends). Some (span_beside (occurring t (k ∷ ks) l).columns (occurring t (k ∷ ks) l).spans c)) (sym q)
    where
      by : (x : Ends) (xs : List Ends) (b : Bool) → (k == c) ≡ b → span_slope s us cs k t ≡ Some x →
          (is_among ks c ≡ true → span_slope s us cs c t ≡ Some (span_beside (occurring t ks xs).columns (occurring t ks xs).spans c)) →
          span_slope s us cs c t ≡ Some (span_beside (occurring t (k ∷ ks) (x ∷ xs)).columns (occurring t (k ∷ ks) (x ∷ xs)).spans c)
      by x xs true n a f =
          let e = eqb-true k c n in
          let a' : span_slope s us cs c t ≡ Some x = ap (λ z. span_slope s us cs z t) (sym e) ∙ a in
          subst (λ z. span_slope s us cs c t ≡ Some (span_beside (occurring t (z ∷ ks) (x ∷ xs)).columns (occurring t (z ∷ ks) (x ∷ xs)).spans c)) (sym e)
          (a' ∙ beside-first c ks x xs a' (occurs c t) refl)
      by x xs false n a f = f (rw n at i) ∙ ap Some (beside-later c k ks x xs n (occurs k t) refl)

  pub slope-beside : (c : ℕ) (ks : List ℕ) (p : PlainSparse) → sparse_slopes s us cs ks t ≡ Some p → is_among ks c ≡ true → span_slope s us cs c t ≡ Some (span_beside p.columns p.spans c)
  slope-beside c ks p h i =
      let (es, e, f) = map-some (occurring t ks) (each_some (λ c. span_slope s us cs c t) ks) p h in
      occurring-beside c ks es e i ∙ ap (λ (q : PlainSparse). Some (span_beside q.columns q.spans c)) f
