-- Where the interval test of a system passes, the box of its certificate is sound.
use Rattle.std.proofs.Common.{◌+◌, ◌≡◌, ℕ, zero, suc, ◌<◌, ◌≤◌, ap, sym, ◌∙◌, refl, subst, List, [], ◌∷◌, ◌++◌, length, map, get_or, ℤ, pos, ◌-ℤ◌, ◌<ℤ◌, arith, ◌⊎◌, inl, inr, Option, Some, None, Bool, true, false, cond, ◌&&◌, ◌||◌, Ok}
use Rattle.std.specs.List.{All, list_all, filter, range_with_len}
use Rattle.std.specs.Int.{is_negative, is_positive}
use Rattle.std.proofs.lemmas.Int.{ints}
use Rattle.std.proofs.lemmas.Nat.{pow_pos}
use Rattle.std.proofs.lemmas.List.{length-map}
use Rattle.std.proofs.lemmas.List.Elements.{All-nil, All-cons, All-head, All-tail}
use Rattle.sk_num.specs.Ends.{Ends}
use Rattle.sk_expr.specs.Poly.{Poly, number, IsInRange}
use Rattle.sk_expr.specs.SpanValue.{span_value}
use Rattle.sk_expr.specs.System.{SystemAt, ForcedPivot}
use Rattle.sk_num.specs.Each.{cons_if, each_some}
use Rattle.sk_num.specs.EachLaws.{each_some-length}
use Rattle.sk_elim.specs.Elimination.{Elimination, has_column, eliminate}
use Rattle.sk_elim.specs.PivotLaws.{AreApart, eliminate-square}
use Rattle.sk_elim.specs.EliminationLaws.{eliminate-solved, filter_range-below, filter_range-differ}
use Rattle.sk_matrix.specs.MatrixLaws.{and-second}
use Rattle.sk_matrix.specs.Cells.{listed}
use Rattle.sk_krawczyk.specs.Box.{SquareSystem, Basis, basis_of, square_system, newton_step, radius_exponent, radius_of, at_column, reach, box}
use Rattle.sk_krawczyk.specs.IntervalTest.{Certificate, radius_at, passes, met, box_test, newton_steps, interval_test, slopes_at, forced_pairs, is_computed, conditions, suspect_spans, is_off_zero, are_lengths_positive, are_near, is_step_small, is_left_small, is_right_small, radius_ratio, suspects_of, length_columns, certificate, bound, spread}
use Rattle.sk_krawczyk.specs.SoundBox.{ClaimedBox, IsSoundBox}
use Rattle.sk_krawczyk.specs.SquareLaws.{IsWell}
use Rattle.sk_krawczyk.specs.SoundLaws.{test-passes, IsMissed, IsLength, box-sound}
use Rattle.sk_krawczyk.specs.PassedLaws.{box_test-passed, interval_test-passed}
use Rattle.sk_krawczyk.specs.RatioLaws.{IsPower, radius_ratio-bounds}
use Rattle.sk_krawczyk.specs.CertifiedBox.{row_at, missed_rows, certified_box}

-- ---- lists by place

listed-first : {A : Type 0} (n : ℕ) (f : ℕ → A) → listed (suc n) f ≡ f 0 ∷ listed n (λ i. f (suc i))
listed-first zero f = refl
listed-first (suc n) f = ap (λ xs. xs ++ (f (suc n) ∷ [])) (listed-first n f)

pub listed-map : {A B : Type 0} (xs : List A) (g : A → B) (d : A) → listed (length xs) (λ i. g (get_or xs i d)) ≡ map g xs
listed-map [] g d = refl
listed-map (x ∷ xs) g d = listed-first (length xs) (λ i. g (get_or (x ∷ xs) i d)) ∙ ap (λ ys. g x ∷ ys) (listed-map xs g d)

list_all-each : {A : Type 0} (p : A → Bool) (xs : List A) → list_all p xs ≡ true → All (λ x. p x ≡ true) xs
list_all-each p [] h = All-nil (λ x. p x ≡ true)
list_all-each p (x ∷ xs) h = All-cons (λ x. p x ≡ true) x xs (first (p x) (list_all p xs) h) (list_all-each p xs (and-second (p x) (list_all p xs) h))
  where
    first : (a b : Bool) → (a && b) ≡ true → a ≡ true
    first true b h = refl
    first false b h = h

-- ---- signs

is_negative-is : (z : ℤ) → is_negative z ≡ true → z <ℤ pos 0
is_negative-is z h = grind (arith, ints)

pub is_positive-is : (z : ℤ) → is_positive z ≡ true → pos 0 <ℤ z
is_positive-is z h = grind (arith, ints)

pub is_off_zero-is : (e : Ends) → is_off_zero e ≡ true → (pos 0 <ℤ e.lo) ⊎ (e.hi <ℤ pos 0)
is_off_zero-is e h = pick (is_positive e.lo) refl h
  where
    pick : (b : Bool) → is_positive e.lo ≡ b → (b || is_negative e.hi) ≡ true → (pos 0 <ℤ e.lo) ⊎ (e.hi <ℤ pos 0)
    pick true i h = inl (is_positive-is e.lo i)
    pick false i h = inr (is_negative-is e.hi h)

-- ---- suspects and lengths

each_some-parts : {A B : Type 0} (f : A → Option B) (x : A) (xs : List A) (y : B) (ys : List B) → each_some f (x ∷ xs) ≡ Some (y ∷ ys) → (f x ≡ Some y) × (each_some f xs ≡ Some ys)
each_some-parts {A} {B} f x xs y ys h = pick (f x) (each_some f xs) h
  where
    pick : (o : Option B) (us : Option (List B)) → cons_if o us ≡ Some (y ∷ ys) → (o ≡ Some y) × (us ≡ Some ys)
    pick None us h = absurd cc
    pick (Some z) None h = absurd cc
    pick (Some z) (Some us) h = (cc, cc)

module _ (s : ℕ) (v : SystemAt) (q : SquareSystem) (r : ℕ → ℕ) where
  missed-all : (rs : List ℕ) (es : List Ends) → each_some (λ i. span_value s (box q r) q.cosines (row_at v i)) rs ≡ Some es → All (IsMissed s q r) (missed_rows v (suspects_of rs es))
  missed-all [] es h = All-nil (IsMissed s q r)
  missed-all (x ∷ rs) [] h = All-nil (IsMissed s q r)
  missed-all (x ∷ rs) (e ∷ es) h =
      let (i, j) = each_some-parts (λ i. span_value s (box q r) q.cosines (row_at v i)) x rs e es h in
      pick (is_off_zero e) refl i (missed-all rs es j)
    where
      pick : (b : Bool) → is_off_zero e ≡ b → span_value s (box q r) q.cosines (row_at v x) ≡ Some e → All (IsMissed s q r) (missed_rows v (suspects_of rs es)) →
          All (IsMissed s q r) (map (λ x. row_at v x.row) (cond b (record { row = x; misses = is_off_zero e } ∷ filter (λ x. x.misses) (suspects_of rs es)) (filter (λ x. x.misses) (suspects_of rs es))))
      pick true z i h = All-cons (IsMissed s q r) (row_at v x) (missed_rows v (suspects_of rs es)) (record { over = e; is = i; off = is_off_zero-is e z }) h
      pick false z i h = h

  lengths-all : (cs : List ℕ) → All (λ c. c < length q.centre) cs → are_lengths_positive q r cs ≡ true → All (IsLength q r) cs
  lengths-all cs inside h = λ i d l.
      let p = list_all-each (λ c. is_positive (get_or q.centre c (pos 0) -ℤ pos (reach q r c))) cs h i d l in
      let z = is_positive-is (get_or q.centre (get_or cs i d) (pos 0) -ℤ pos (reach q r (get_or cs i d))) p in
      record { inside = inside i d l; above = omega (arith, ints, z) }

pub lengths-inside : (n : ℕ) (fs : List ForcedPivot) → All (λ f. f.column < n) fs → All (λ c. c < n) (map (λ f. f.column) (filter (λ f. f.is_length) fs))
lengths-inside n [] h = All-nil (λ c. c < n)
lengths-inside n (f ∷ fs) h = pick f.is_length (All-head (λ f. f.column < n) f fs h) (lengths-inside n fs (All-tail (λ f. f.column < n) f fs h))
  where
    pick : (b : Bool) → f.column < n → All (λ c. c < n) (map (λ f. f.column) (filter (λ f. f.is_length) fs)) → All (λ c. c < n) (map (λ f. f.column) (cond b (f ∷ filter (λ f. f.is_length) fs) (filter (λ f. f.is_length) fs)))
    pick true l h = All-cons (λ c. c < n) f.column (map (λ f. f.column) (filter (λ f. f.is_length) fs)) l h
    pick false l h = h

-- ---- the theorem

row-in : (u o : ℕ) (ts : List (Poly ℤ)) (i : ℕ) → All (IsInRange u o) ts → IsInRange u o (get_or ts i (number (pos 0)))
row-in u o [] i h = tt
row-in u o (t ∷ ts) zero h = All-head (IsInRange u o) t ts h
row-in u o (t ∷ ts) (suc i) h = row-in u o ts i (All-tail (IsInRange u o) t ts h)

-- what a test over a box has to be given: columns in range, no two the same; as many rows and as many radii; each radius a power of two
pub record IsUsable (v : SystemAt) (b : Basis) (radii : List ℕ) : Type 0 where
  pub rows_in : All (IsInRange (length v.unknowns) (length v.cosines)) v.rows
  pub forced_in : All (λ f. f.column < length v.unknowns) v.forced
  pub columns_in : (j : ℕ) → j < length b.solved → get_or b.solved j 0 < length v.unknowns
  pub columns_differ : (i j : ℕ) → i < length b.solved → j < length b.solved → get_or b.solved i 0 ≡ get_or b.solved j 0 → i ≡ j
  pub as_many_rows : length b.solved ≡ length b.retained
  pub as_many_radii : length radii ≡ length b.solved
  pub powers : All IsPower radii

module _ (s : ℕ) (v : SystemAt) (b : Basis) (radii : List ℕ) (spans : List Ends) (some : 1 ≤ s) (usable : IsUsable v b radii) where
  well : IsWell (square_system v b) (radius_at radii)
  well = record {
    columns_in = usable.columns_in;
    columns_differ = usable.columns_differ;
    rows_in = λ i l. row-in (length v.unknowns) (length v.cosines) v.rows (get_or b.retained i 0) usable.rows_in;
    radii = λ j l. let p = usable.powers j 0 (omega (arith, l, usable.as_many_radii)) in omega (arith, p.is, pow_pos p.exponent);
  }

  claimed : List (Poly ℤ) → ClaimedBox
  claimed retained = record {
    centre = v.unknowns;
    reach = λ u. at_column (length b.solved) (λ j. get_or b.solved j 0) (radius_at radii) 0 u;
    cosines = v.cosines;
    retained = retained;
    missed = missed_rows v (suspects_of b.suspects spans);
    lengths = length_columns v;
    bound = bound s (square_system v b) (radius_at radii);
    spread = spread s (square_system v b) (radius_at radii) (radius_ratio radii);
  }

  pub certificate-sound : is_computed s (square_system v b) (radius_at radii) ≡ true → conditions s (square_system v b) radii (length_columns v) ≡ true →
      suspect_spans s v (box (square_system v b) (radius_at radii)) b.suspects ≡ Some spans →
      IsSoundBox s (certified_box v (certificate s v b radii (suspects_of b.suspects spans)))
  unfolding claimed
  certificate-sound computed all_met there =
      let q = square_system v b in
      let r = radius_at radii in
      let above = and-second (are_near s radii && is_step_small s q r && is_left_small s q r && is_right_small s q r) (are_lengths_positive q r (length_columns v)) all_met in
      let ratios = λ (i j : ℕ) (l : i < length b.solved) (o : j < length b.solved).
      radius_ratio-bounds radii usable.powers i j 0 (omega (arith, l, usable.as_many_radii)) (omega (arith, o, usable.as_many_radii)) in
      let box_sound = box-sound s q r (radius_ratio radii) (missed_rows v (suspects_of b.suspects spans)) (length_columns v) some well (test-passes s q radii (length_columns v) computed all_met) ratios
      (missed-all s v q r b.suspects spans there) (lengths-all s v q r (length_columns v) (lengths-inside (length v.unknowns) v.forced usable.forced_in) above) in
      let same : listed (length b.solved) (λ i. row_at v (get_or b.retained i 0)) ≡ map (row_at v) b.retained =
      ap (λ m. listed m (λ i. row_at v (get_or b.retained i 0))) usable.as_many_rows ∙ listed-map b.retained (row_at v) 0 in
      subst (λ (ts : List (Poly ℤ)). IsSoundBox s (claimed ts)) same box_sound

-- where the test over a box is met, the box of the certificate is sound
pub box_test-sound : (s : ℕ) (v : SystemAt) (b : Basis) (radii : List ℕ) (c : Certificate) → 1 ≤ s → IsUsable v b radii → box_test s v b radii ≡ met c → IsSoundBox s (certified_box v c)
box_test-sound s v b radii c some usable h =
    let p = box_test-passed s v b radii c h in
    subst (λ (c : Certificate). IsSoundBox s (certified_box v c)) p.is (certificate-sound s v b radii p.spans some usable p.computed p.all_met p.spans_are)

pub columns-in : (n : ℕ) (fs : List ForcedPivot) → AreApart (λ p. p.1) n (map (λ f. (f.row, f.column)) fs) → All (λ f. f.column < n) fs
columns-in n [] h = All-nil (λ f. f.column < n)
columns-in n (f ∷ fs) h = All-cons (λ f. f.column < n) f fs h.0 (columns-in n fs h.2)

-- every place in the rows is in range, and the forced pairs name rows and columns, no two the same, and each column of an auxiliary
pub record IsFit (v : SystemAt) : Type 0 where
  pub rows_in : All (IsInRange (length v.unknowns) (length v.cosines)) v.rows
  pub params_in : v.params ≤ length v.unknowns
  pub auxiliaries_forced : (c : ℕ) → v.params ≤ c → c < length v.unknowns → has_column c (forced_pairs v) ≡ true
  pub columns_apart : AreApart (λ p. p.1) (length v.unknowns) (forced_pairs v)
  pub rows_apart : AreApart (λ p. p.0) (length v.rows) (forced_pairs v)

powers-of_steps : (es : List Ends) → All IsPower (map radius_of es)
powers-of_steps [] = All-nil IsPower
powers-of_steps (e ∷ es) = All-cons IsPower (radius_of e) (map radius_of es) (record { exponent = radius_exponent e; is = refl }) (powers-of_steps es)

length-range : (a n : ℕ) → length (range_with_len a n) ≡ n
length-range a zero = refl
length-range a (suc n) = ap suc (length-range (a + 1) n)

-- what an elimination leaves is usable with the radii of its step
pub eliminated-usable : (s : ℕ) (v : SystemAt) (slopes : List (List Ends)) (e : Elimination) (step : List Ends) → IsFit v → each_some (slopes_at s v) v.rows ≡ Some slopes →
    eliminate s (length v.unknowns) v.params (forced_pairs v) slopes ≡ Ok e → newton_steps s v (basis_of e) ≡ Some step → IsUsable v (basis_of e) (map radius_of step)
eliminated-usable s v slopes e step fit there eliminated stepped =
    let n = eliminate-solved s (length v.unknowns) v.params (forced_pairs v) slopes e eliminated in
    let z : length slopes ≡ length v.rows = each_some-length (slopes_at s v) v.rows slopes there in
    record {
      rows_in = fit.rows_in;
      forced_in = columns-in (length v.unknowns) v.forced fit.columns_apart;
      columns_in = λ j l.
          let b = filter_range-below n.taken 0 (length v.unknowns) j 0 (subst (λ (xs : List ℕ). j < length xs) n.are l) in
          let h : get_or (filter n.taken (range_with_len 0 (length v.unknowns))) j 0 < length v.unknowns = omega (arith, b) in
          subst (λ (xs : List ℕ). get_or xs j 0 < length v.unknowns) (sym n.are) h;
      columns_differ = λ i j l o h.
          filter_range-differ n.taken (length v.unknowns) i j 0 (subst (λ (xs : List ℕ). i < length xs) n.are l) (subst (λ (xs : List ℕ). j < length xs) n.are o)
          (subst (λ (xs : List ℕ). get_or xs i 0 ≡ get_or xs j 0) n.are h);
      as_many_rows = eliminate-square s (length v.unknowns) v.params (forced_pairs v) slopes e fit.params_in fit.columns_apart (rw z fit.rows_apart) eliminated;
      as_many_radii =
          length-map step radius_of ∙ each_some-length (newton_step s (square_system v (basis_of e))) (range_with_len 0 (length e.solved)) step stepped ∙ length-range 0 (length e.solved);
      powers = powers-of_steps step;
    }

-- where the interval test passes, the box of the certificate is sound
pub interval_test-sound : (s : ℕ) (v : SystemAt) (c : Certificate) (columns : List ℕ) (moves : List ℤ) → 1 ≤ s → IsFit v → interval_test s v ≡ passes columns moves c → IsSoundBox s (certified_box v c)
interval_test-sound s v c columns moves some fit h =
    let p = interval_test-passed s v c columns moves h in
    box_test-sound s v (basis_of p.elimination) (map radius_of p.step) c some (eliminated-usable s v p.slopes p.elimination p.step fit p.slopes_are p.eliminated p.step_is) p.box_met
