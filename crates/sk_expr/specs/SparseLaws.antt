-- The slopes of a row from the duals of its root.
use Rattle.std.proofs.Common.{◌≡◌, ℕ, ℤ, pos, Bool, true, false, List, [], ◌∷◌, Option, Some, None, refl, sym, ap, ◌∙◌, arith}
use Rattle.std.specs.Prelude.{◌==◌, ◌&&◌, ◌||◌, not, is_some, length, if◌then◌else◌, filter, slice_get, option_and_then, option_map}
use Rattle.std.proofs.lemmas.Bool.{ne_eqb}
use Rattle.sk_num.specs.Ends.{Ends, point, span_add, span_sub, span_mul}
use Rattle.sk_num.specs.Each.{cons_if, each_some}
use Rattle.sk_expr.specs.Poly.{Poly, number, cosine, unknown, plus, minus, times, occurs}
use Rattle.sk_expr.specs.SpanValue.{DualEnds, dual_of, dual_point, dual_add, dual_sub, dual_mul, dual_value, span_slope}
use Rattle.sk_expr.specs.EvaluationLaws.{both-some}
use Rattle.sk_expr.specs.SpanLaws.{and_then-some, map-some}
use Rattle.sk_expr.specs.AbsentSlope.{constant_dual, absent-dual, unknown-dual, cosine-dual}
use Rattle.sk_expr.specs.NodeValues.{of_both}
use Rattle.sk_expr.specs.Columns.{is_among, RisesFrom, rises_from, columns_in}
use Rattle.sk_expr.specs.ColumnLaws.{columns_in-are, columns_in-rise, same-columns, among-filter, filter-rises, first-among, rises-by}
use Rattle.sk_expr.specs.ForwardSlopes.{plain_value, beside, duals_in, found, pick, picked}
use Rattle.sk_expr.specs.ForwardLaws.{found-beside}
use Rattle.sk_expr.specs.SparseRows.{PlainSparse, sparse_cons, occurring, sparse_slopes, with_dual, collected, row_slopes}

some_same : {T : Type 0} (x y : T) → Some x ≡ Some y → x ≡ y
some_same x y e = cc

-- ---- a dual's value is the span

add-value : (x y z : DualEnds) → dual_add x y ≡ Some z → span_add x.value y.value ≡ Some z.value
add-value x y z e =
    let (v, i, f) = and_then-some (λ v. option_map (dual_of v) (span_add x.slope y.slope)) (span_add x.value y.value) z e in
    let (w, j, q) = map-some (dual_of v) (span_add x.slope y.slope) z f in
    i ∙ ap (λ (d : DualEnds). Some d.value) q

sub-value : (x y z : DualEnds) → dual_sub x y ≡ Some z → span_sub x.value y.value ≡ Some z.value
sub-value x y z e =
    let (v, i, f) = and_then-some (λ v. option_map (dual_of v) (span_sub x.slope y.slope)) (span_sub x.value y.value) z e in
    let (w, j, q) = map-some (dual_of v) (span_sub x.slope y.slope) z f in
    i ∙ ap (λ (d : DualEnds). Some d.value) q

mul-value : (s : ℕ) (x y z : DualEnds) → dual_mul s x y ≡ Some z → span_mul s x.value y.value ≡ Some z.value
mul-value s x y z e =
    let (v, i, e1) = and_then-some (λ v. option_and_then (λ a. option_and_then (λ b. option_map (dual_of v) (span_add a b)) (span_mul s y.value x.slope)) (span_mul s x.value y.slope)) (span_mul s x.value y.value) z e in
    let (a, j, e2) = and_then-some (λ a. option_and_then (λ b. option_map (dual_of v) (span_add a b)) (span_mul s y.value x.slope)) (span_mul s x.value y.slope) z e1 in
    let (b, k, e3) = and_then-some (λ b. option_map (dual_of v) (span_add a b)) (span_mul s y.value x.slope) z e2 in
    let (w, l, q) = map-some (dual_of v) (span_add a b) z e3 in
    i ∙ ap (λ (d : DualEnds). Some d.value) q

values-join : (f : Ends → Ends → Option Ends) (g : DualEnds → DualEnds → Option DualEnds) → ((x y z : DualEnds) → g x y ≡ Some z → f x.value y.value ≡ Some z.value) →
    (d e : Option DualEnds) (v w : Option Ends) → ((x : DualEnds) → d ≡ Some x → v ≡ Some x.value) → ((y : DualEnds) → e ≡ Some y → w ≡ Some y.value) →
    (z : DualEnds) → of_both g d e ≡ Some z → of_both f v w ≡ Some z.value
values-join f g h d e v w i j z k =
    let (x, y, a, b, c) = both-some g d e z k in
    rw (i x a, j y b) (h x y z c)

pub dual-value : (s : ℕ) (us cs : List Ends) (c : ℕ) (t : Poly ℤ) (d : DualEnds) → dual_value s us cs c t ≡ Some d → plain_value s us cs t ≡ Some d.value
dual-value s us cs c (number g) d h = ap (λ (e : DualEnds). Some e.value) (some_same (dual_point g) d h)
dual-value s us cs c (cosine i) d h =
    let (v, e, f) = map-some constant_dual (slice_get cs i) d (sym (cosine-dual i cs) ∙ h) in
    e ∙ ap (λ (z : DualEnds). Some z.value) f
dual-value s us cs c (unknown i) d h =
    let (v, e, f) = map-some (λ (x : Ends). dual_of x _) (slice_get us i) d (sym (unknown-dual s c i us) ∙ h) in
    e ∙ ap (λ (z : DualEnds). Some z.value) f
dual-value s us cs c (plus a b) d h =
    values-join span_add dual_add add-value (dual_value s us cs c a) (dual_value s us cs c b) (plain_value s us cs a) (plain_value s us cs b) (dual-value s us cs c a) (dual-value s us cs c b) d h
dual-value s us cs c (minus a b) d h =
    values-join span_sub dual_sub sub-value (dual_value s us cs c a) (dual_value s us cs c b) (plain_value s us cs a) (plain_value s us cs b) (dual-value s us cs c a) (dual-value s us cs c b) d h
dual-value s us cs c (times a b) d h =
    values-join (span_mul s) (dual_mul s) (mul-value s) (dual_value s us cs c a) (dual_value s us cs c b) (plain_value s us cs a) (plain_value s us cs b) (dual-value s us cs c a) (dual-value s us cs c b) d h

among-more : (l : ℕ) (ls : List ℕ) (c : ℕ) → is_among ls c ≡ true → is_among (l ∷ ls) c ≡ true
among-more l ls c h = by (l == c)
  where
    by : (b : Bool) → (b || is_among ls c) ≡ true
    by true = refl
    by false = h

past-first : (c : ℕ) (ls : List ℕ) (ps : List (ℕ × Option DualEnds)) → (if not (is_some {T = Ends} None) && not (length (c ∷ ls) == 0) then None else collected ps) ≡ None
past-first c ls ps = rw (ne_eqb (length (c ∷ ls)) 0 (λ e. omega (arith, e))) refl

none-of : {A B : Type 0} (o : Option A) (f : A → B) → ((x : A) → o ≡ Some x → None ≡ Some (f x)) → o ≡ None
none-of None f h = refl
none-of (Some x) f h = absurd (let e = h x refl in cc)

-- ---- a row

filter-true : (test : ℕ → Bool) (k : ℕ) (ks : List ℕ) → test k ≡ true → filter test (k ∷ ks) ≡ k ∷ filter test ks
filter-true test k ks h = rw h refl

filter-false : (test : ℕ → Bool) (k : ℕ) (ks : List ℕ) → test k ≡ false → filter test (k ∷ ks) ≡ filter test ks
filter-false test k ks h = rw h refl

module _ (s : ℕ) (us cs : List Ends) (t : Poly ℤ) where
  -- the dual and the slope in a column, and those of the columns that occur
  abbrev dual_in : ℕ → Option DualEnds
  dual_in c = dual_value s us cs c t

  abbrev slope_in : ℕ → Option Ends
  slope_in c = option_map (λ d. d.slope) (dual_in c)

  abbrev that_occur : List ℕ → List ℕ
  that_occur ks = filter (λ c. occurs c t) ks

  occurs-step : (c : ℕ) (ks : List ℕ) (d : Option DualEnds) (r : Option (List Ends)) (q : Option PlainSparse) → occurs c t ≡ true → option_map (occurring t ks) r ≡ q →
      option_map (occurring t (c ∷ ks)) (cons_if (option_map (λ (d : DualEnds). d.slope) d) r) ≡ with_dual c d q
  occurs-step c ks None r q o h = refl
  occurs-step c ks (Some d) None q o h = ap (option_map (sparse_cons c d.slope)) h
  occurs-step c ks (Some d) (Some es) q o h = rw o (ap (option_map (sparse_cons c d.slope)) h)

  absent-step : (c : ℕ) (ks : List ℕ) (x : Ends) (r : Option (List Ends)) → occurs c t ≡ false →
      option_map (occurring t (c ∷ ks)) (cons_if (Some x) r) ≡ option_map (occurring t ks) r
  absent-step c ks x None o = refl
  absent-step c ks x (Some es) o = rw o refl

  -- where the value is within the limit, the slopes are those of the duals of the columns that occur
  slopes-collected : (x : Ends) → plain_value s us cs t ≡ Some x → (ks : List ℕ) →
      option_map (occurring t ks) (each_some slope_in ks) ≡ collected (beside dual_in (that_occur ks))
  slopes-collected x v [] = refl
  slopes-collected x v (c ∷ ks) = by (occurs c t) refl (slopes-collected x v ks)
    where
      by : (b : Bool) → occurs c t ≡ b → option_map (occurring t ks) (each_some slope_in ks) ≡ collected (beside dual_in (that_occur ks)) →
          option_map (occurring t (c ∷ ks)) (each_some slope_in (c ∷ ks)) ≡ collected (beside dual_in (that_occur (c ∷ ks)))
      by true o h =
          occurs-step c ks (dual_in c) _ _ o h
          ∙ ap (λ (l : List ℕ). collected (beside dual_in l)) (sym (filter-true (λ c. occurs c t) c ks o))
      by false o h =
          ap (λ (d : Option DualEnds). option_map (occurring t (c ∷ ks)) (cons_if (option_map (λ (d : DualEnds). d.slope) d) (each_some slope_in ks)))
          (absent-dual s us cs c t o ∙ ap (option_map constant_dual) v)
          ∙ absent-step c ks (point (pos 0)) _ o ∙ h
          ∙ ap (λ (l : List ℕ). collected (beside dual_in l)) (sym (filter-false (λ c. occurs c t) c ks o))

  -- where it passes the limit, so does each slope
  none-head : (o : Option Ends) (r : Option (List Ends)) (f : List Ends → PlainSparse) → o ≡ None → option_map f (cons_if o r) ≡ None
  none-head None r f h = refl
  none-head (Some x) r f h = absurd cc

  no-slope : (o : Option DualEnds) → o ≡ None → option_map (λ (d : DualEnds). d.slope) o ≡ None
  no-slope None h = refl
  no-slope (Some d) h = absurd cc

  slopes-past : plain_value s us cs t ≡ None → (c : ℕ) (ks : List ℕ) →
      option_map (occurring t (c ∷ ks)) (each_some slope_in (c ∷ ks)) ≡ None
  slopes-past v c ks =
      none-head _ _ (occurring t (c ∷ ks)) (no-slope (dual_in c)
      (none-of (dual_in c) (λ (d : DualEnds). d.value) (λ d e. sym v ∙ dual-value s us cs c t d e)))

  pub sparse-collected : (x : Ends) (ks : List ℕ) → plain_value s us cs t ≡ Some x → sparse_slopes s us cs ks t ≡ collected (beside dual_in (that_occur ks))
  unfolding span_slope
  sparse-collected x ks v = slopes-collected x v ks

  pub sparse-past : (c : ℕ) (ks : List ℕ) → plain_value s us cs t ≡ None → sparse_slopes s us cs (c ∷ ks) t ≡ None
  unfolding span_slope
  sparse-past c ks v = slopes-past v c ks

  module _ (listed : ℕ → Bool) (ks : List ℕ) (are : (c : ℕ) → listed c ≡ is_among ks c) where
    -- where the listed columns rise, the duals are those of the listed columns that occur
    own-rising : RisesFrom 0 ks → duals_in s us cs listed t ≡ beside dual_in (that_occur ks)
    own-rising r =
        ap (beside dual_in)
        (same-columns 0 0 (columns_in listed t) (that_occur ks) (columns_in-rise listed t) (filter-rises (λ c. occurs c t) 0 ks r)
        (λ c. columns_in-are listed t c ∙ ap (λ b. b && occurs c t) (are c) ∙ sym (among-filter (λ c. occurs c t) ks c)))

    found-own : (c : ℕ) → listed c ≡ true → found (duals_in s us cs listed t) c ≡ (if occurs c t then Some (dual_in c) else None)
    found-own c l =
        found-beside dual_in (columns_in listed t) c
        ∙ ap (λ b. if b then Some (dual_in c) else None) (columns_in-are listed t c ∙ ap (λ b. b && occurs c t) l)

    pick-own : (c : ℕ) (ls : List ℕ) (ps : List (ℕ × Option DualEnds)) (b : Bool) → occurs c t ≡ b → ps ≡ beside dual_in (that_occur ls) →
        pick c (if b then Some (dual_in c) else None) ps ≡ beside dual_in (that_occur (c ∷ ls))
    pick-own c ls ps true o h =
        ap (λ (l : List (ℕ × Option DualEnds)). (c, dual_in c) ∷ l) h ∙ ap (beside dual_in) (sym (filter-true (λ c. occurs c t) c ls o))
    pick-own c ls ps false o h = h ∙ ap (beside dual_in) (sym (filter-false (λ c. occurs c t) c ls o))

    -- in whatever order they are listed, those that are found are the same
    own-picked : (ls : List ℕ) → ((c : ℕ) → is_among ls c ≡ true → listed c ≡ true) → picked (duals_in s us cs listed t) ls ≡ beside dual_in (that_occur ls)
    own-picked [] h = refl
    own-picked (c ∷ ls) h =
        ap (λ (o : Option (Option DualEnds)). pick c o (picked (duals_in s us cs listed t) ls)) (found-own c (h c (first-among c ls)))
        ∙ pick-own c ls _ (occurs c t) refl (own-picked ls (λ k i. h k (among-more c ls k i)))

    own-is : (b : Bool) → b ≡ rises_from 0 ks → (if b then duals_in s us cs listed t else picked (duals_in s us cs listed t) ks) ≡ beside dual_in (that_occur ks)
    own-is true e = own-rising (rises-by 0 ks (sym e))
    own-is false e = own-picked ks (λ c i. are c ∙ i)

  from-own : (v : Option Ends) (ls : List ℕ) (ps : List (ℕ × Option DualEnds)) → v ≡ plain_value s us cs t → ps ≡ beside dual_in (that_occur ls) →
      (if not (is_some v) && not (length ls == 0) then None else collected ps) ≡ sparse_slopes s us cs ls t
  from-own (Some x) ls ps e h = ap collected h ∙ sym (sparse-collected x ls (sym e))
  from-own None [] ps e h = ap collected h
  from-own None (c ∷ ls) ps e h = past-first c ls ps ∙ sym (sparse-past c ls (sym e))

  -- the slopes of a row are those that its root's value and duals give
  pub row_slopes-are : (listed : ℕ → Bool) (ks : List ℕ) (v : Option Ends) (own : List (ℕ × Option DualEnds)) (b : Bool) → ((c : ℕ) → listed c ≡ is_among ks c) →
      v ≡ plain_value s us cs t → own ≡ duals_in s us cs listed t → b ≡ rises_from 0 ks → row_slopes v own ks b ≡ sparse_slopes s us cs ks t
  row_slopes-are listed ks v own b are e o r =
      from-own v ks (if b then own else picked own ks) e
      (ap (λ (ps : List (ℕ × Option DualEnds)). if b then ps else picked ps ks) o ∙ own-is listed ks are b r)
