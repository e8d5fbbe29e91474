-- Spans of values and slopes enclose the exact ones.
use Rattle.std.proofs.Common.{◌≡◌, ℕ, ℤ, Bool, true, false, List, [], ◌∷◌, get_or, zero, suc, Some, refl, ap, subst, ◌∙◌}
use Rattle.std.specs.Prelude.{slice_get}
use Rattle.sk_num.specs.Ends.{Ends}
use Rattle.sk_num.specs.Each.{each_some}
use Rattle.sk_expr.specs.Poly.{Poly, occurs}
use Rattle.sk_expr.specs.SpanValue.{span_value, span_slope}
use Rattle.sk_expr.specs.SpanLaws.{map-some, span_value-encloses, span_slope-encloses}
use Rattle.sk_num.specs.EachLaws.{each_some-at, cons-some}
use Rattle.sk_expr.specs.Enclosing.{EnclosesValue, EnclosesSlope, EnclosesValues, EnclosesSlopes}
use Rattle.sk_expr.specs.SparseRows.{PlainSparse, occurring, sparse_slopes}

-- the spans of each row of ps are of the slopes of the tree that f gives for it
pub record EnclosesRows (s : ℕ) (us cs : List Ends) (f : ℕ → Poly ℤ) (xs : List ℕ) (ps : List PlainSparse) : Type 0 where
  pub each : (i : ℕ) (p : PlainSparse) → slice_get ps i ≡ Some p → EnclosesSlopes s us cs (f (get_or xs i 0)) p.columns p.spans

module _ (s : ℕ) (us cs : List Ends) where
  pub value-enclosed : (t : Poly ℤ) (e : Ends) → span_value s us cs t ≡ Some e → EnclosesValue s us cs t e
  value-enclosed t e h = record { at_points = λ n fine k p in_box in_cosines. span_value-encloses s n us cs k p fine in_box in_cosines t e h }

  pub slope-enclosed : (c : ℕ) (t : Poly ℤ) (e : Ends) → span_slope s us cs c t ≡ Some e → EnclosesSlope s us cs c t e
  slope-enclosed c t e h = record { at_points = λ n fine k p q in_box also in_cosines. span_slope-encloses s n us cs k p fine in_box in_cosines q also c t e h }

  pub values-enclosed : (f : ℕ → Poly ℤ) (xs : List ℕ) (es : List Ends) → each_some (λ x. span_value s us cs (f x)) xs ≡ Some es → EnclosesValues s us cs f xs es
  values-enclosed f xs es h = record { each = λ i e g. value-enclosed (f (get_or xs i 0)) e (each_some-at (λ x. span_value s us cs (f x)) xs i 0 es e h g) }

  pub slopes-enclosed : (t : Poly ℤ) (ks : List ℕ) (es : List Ends) → each_some (λ c. span_slope s us cs c t) ks ≡ Some es → EnclosesSlopes s us cs t ks es
  slopes-enclosed t ks es h = record { each = λ i e g. slope-enclosed (get_or ks i 0) t e (each_some-at (λ c. span_slope s us cs c t) ks i 0 es e h g) }

  some_same : {T : Type 0} (x y : T) → Some x ≡ Some y → x ≡ y
  some_same x y e = cc

  none-there : (i : ℕ) (e : Ends) → slice_get [] i ≡ Some e → ⊥
  none-there i e h = cc

  cons-slopes : (t : Poly ℤ) (c : ℕ) (e : Ends) (p : PlainSparse) → span_slope s us cs c t ≡ Some e → EnclosesSlopes s us cs t p.columns p.spans → EnclosesSlopes s us cs t (c ∷ p.columns) (e ∷ p.spans)
  cons-slopes t c e p h k = record { each = at }
    where
      at : (i : ℕ) (x : Ends) → slice_get (e ∷ p.spans) i ≡ Some x → EnclosesSlope s us cs (get_or (c ∷ p.columns) i 0) t x
      at zero x g = slope-enclosed c t x (h ∙ g)
      at (suc i) x g = k.each i x g

  occurring-enclosed : (t : Poly ℤ) (ks : List ℕ) (es : List Ends) → each_some (λ c. span_slope s us cs c t) ks ≡ Some es → EnclosesSlopes s us cs t (occurring t ks es).columns (occurring t ks es).spans
  occurring-enclosed t [] es h = record { each = λ i e g. absurd (none-there i e g) }
  occurring-enclosed t (c ∷ ks) [] h = record { each = λ i e g. absurd (none-there i e g) }
  occurring-enclosed t (c ∷ ks) (e ∷ es) h =
      let (x, xs, a, r, k) = cons-some (span_slope s us cs c t) (each_some (λ c. span_slope s us cs c t) ks) (e ∷ es) h in
      let a' : span_slope s us cs c t ≡ Some e = a ∙ (let q : x ≡ e = cc in ap Some q) in
      let r' : each_some (λ c. span_slope s us cs c t) ks ≡ Some es = r ∙ (let q : xs ≡ es = cc in ap Some q) in
      by (occurs c t) refl (cons-slopes t c e (occurring t ks es) a') (occurring-enclosed t ks es r')
    where
      by : (b : Bool) → occurs c t ≡ b → (EnclosesSlopes s us cs t (occurring t ks es).columns (occurring t ks es).spans → EnclosesSlopes s us cs t (c ∷ (occurring t ks es).columns) (e ∷ (occurring t ks es).spans)) →
          EnclosesSlopes s us cs t (occurring t ks es).columns (occurring t ks es).spans → EnclosesSlopes s us cs t (occurring t (c ∷ ks) (e ∷ es)).columns (occurring t (c ∷ ks) (e ∷ es)).spans
      by true o f h = rw o (f h)
      by false o f h = rw o h

  pub sparse-enclosed : (t : Poly ℤ) (ks : List ℕ) (p : PlainSparse) → sparse_slopes s us cs ks t ≡ Some p → EnclosesSlopes s us cs t p.columns p.spans
  sparse-enclosed t ks p h =
      let (es, e, f) = map-some (occurring t ks) (each_some (λ c. span_slope s us cs c t) ks) p h in
      subst (λ (q : PlainSparse). EnclosesSlopes s us cs t q.columns q.spans) f (occurring-enclosed t ks es e)

  pub rows-enclosed : (f : ℕ → Poly ℤ) (xs ks : List ℕ) (ps : List PlainSparse) → each_some (λ x. sparse_slopes s us cs ks (f x)) xs ≡ Some ps → EnclosesRows s us cs f xs ps
  rows-enclosed f xs ks ps h = record { each = λ i p g. sparse-enclosed (f (get_or xs i 0)) ks p (each_some-at (λ x. sparse_slopes s us cs ks (f x)) xs i 0 ps p h g) }
