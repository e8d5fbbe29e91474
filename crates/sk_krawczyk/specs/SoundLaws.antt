-- Where the interval test of a square system passes, its box is sound.
use Rattle.std.proofs.Common.{◌≡◌, ℕ, zero, suc, ◌<◌, ◌≤◌, ◌*◌, ◌^◌, ap, sym, ◌∙◌, refl, subst, List, [], ◌∷◌, ◌++◌, length, get_or, ℤ, pos, ◌-ℤ◌, ◌<ℤ◌, arith, ◌⊎◌, ⊎_elim, Some, true, ◌&&◌}
use Rattle.std.specs.Prelude.{unsigned_abs, is_some}
use Rattle.std.specs.List.{All, list_all}
use Rattle.std.proofs.lemmas.Int.{ints}
use Rattle.std.proofs.lemmas.Bool.{cases_lt, leb-true}
use Rattle.std.proofs.lemmas.List.{length-append}
use Rattle.std.proofs.Math.Seq.{get_or-append_seam}
use Rattle.std.proofs.Math.ListN.{get_or-append}
use Rattle.sk_num.specs.Sums.{last_or_before}
use Rattle.sk_num.specs.Limit.{is_in_limit}
use Rattle.sk_num.specs.Ends.{Ends}
use Rattle.sk_expr.specs.Poly.{Poly, degree}
use Rattle.sk_expr.specs.ExactValue.{value_at}
use Rattle.sk_expr.specs.SpanValue.{span_value}
use Rattle.sk_matrix.specs.Matrix.{all_to, is_whole}
use Rattle.sk_matrix.specs.MatrixLaws.{and-first, and-second, all_to-each}
use Rattle.sk_matrix.specs.Cells.{listed}
use Rattle.sk_krawczyk.specs.Box.{SquareSystem, newton_step, reach, box, slope_over, left_rest, right_rest}
use Rattle.sk_krawczyk.specs.IntervalTest.{is_computed, radius_at, are_near, is_step_small, is_left_small, is_right_small, are_lengths_positive, conditions, slope_size, inverse_size, unless_none, bound, spread}
use Rattle.sk_krawczyk.specs.SoundBox.{ClaimedBox, IsPoint, IsChoice, IsSettled, IsSoundBox}
use Rattle.sk_krawczyk.specs.BoxLaws.{at_column-none}
use Rattle.sk_krawczyk.specs.SquareLaws.{Passes, IsWell, middle, settled-point, close-points, row-misses, above-zero}

-- the test as the proof takes it
pub test-passes : (s : ℕ) (q : SquareSystem) (radii lengths : List ℕ) → is_computed s q (radius_at radii) ≡ true → conditions s q radii lengths ≡ true → Passes s q (radius_at radii)
test-passes s q radii lengths computed met =
    let r = radius_at radii in
    let step = all_to q.size (λ j. is_some (newton_step s q j)) in
    let ends = list_all (λ (e : Ends). is_in_limit e.lo && is_in_limit e.hi) (box q r) in
    let slopes = is_whole q.size q.size (slope_over s q r) in
    let left = is_whole q.size q.size (left_rest s q r) in
    let right = is_whole q.size q.size (right_rest s q r) in
    let four = and-first (step && ends && slopes && left) right computed in
    let three = and-first (step && ends && slopes) left four in
    let two = and-first (step && ends) slopes three in
    let near = are_near s radii in
    let small = is_step_small s q r in
    let lefts = is_left_small s q r in
    let rights = is_right_small s q r in
    let above = and-first (near && small && lefts && rights) (are_lengths_positive q r lengths) met in
    let below = and-first (near && small && lefts) rights above in
    record {
      step_there = and-first step ends two;
      slopes_there = and-second (step && ends) slopes three;
      left_there = and-second (step && ends && slopes) left four;
      right_there = and-second (step && ends && slopes && left) right computed;
      step_small = λ j l. leb-true _ _ (all_to-each q.size _ (and-second near small (and-first (near && small) lefts below)) j l);
      left_small = λ j l. leb-true _ _ (all_to-each q.size _ (and-second (near && small) lefts below) j l);
      right_small = λ i l. leb-true _ _ (all_to-each q.size _ (and-second (near && small && lefts) rights above) i l);
    }

-- ---- lists of what stands below a number

pub length-listed : {A : Type 0} (m : ℕ) (f : ℕ → A) → length (listed m f) ≡ m
length-listed zero f = refl
length-listed (suc m) f = length-append (listed m f) (f m ∷ []) ∙ omega (arith, length-listed m f)

pub get_or-listed : {A : Type 0} (m i : ℕ) (f : ℕ → A) (d : A) → i < m → get_or (listed m f) i d ≡ f i
get_or-listed zero i f d l = absurd (omega arith)
get_or-listed (suc m) i f d l =
    ⊎_elim
    (λ (e : i ≡ m). let z = length-listed m f in
    let y : i ≡ length (listed m f) = omega arith in
    ap (λ i. get_or (listed m f ++ (f m ∷ [])) i d) y ∙ get_or-append_seam (listed m f) (f m) [] d ∙ ap f (sym e))
    (λ (o : i < m). get_or-append (listed m f) (f m ∷ []) d i (let z = length-listed m f in omega arith) ∙ get_or-listed m i f d o)
    (last_or_before m i l)

pub All-listed : {A : Type 0} (P : A → Type 0) (m : ℕ) (f : ℕ → A) → ((i : ℕ) → i < m → P (f i)) → All P (listed m f)
All-listed P m f h = λ i d l. let o : i < m = omega (arith, length-listed m f) in subst P (sym (get_or-listed m i f d o)) (h i o)

pub All-listed_at : {A : Type 0} (P : A → Type 0) (m : ℕ) (f : ℕ → A) → All P (listed m f) → (i : ℕ) → i < m → P (f i)
All-listed_at P m f h i l = subst P (get_or-listed m i f (f i) l) (h i (f i) (omega (arith, length-listed m f)))

-- ---- the claim

-- what the test claims of the box: missed are rows whose spans over it have no zero, lengths the columns of lengths
abbrev pub claim : ℕ → SquareSystem → (ℕ → ℕ) → ℕ → List (Poly ℤ) → List ℕ → ClaimedBox
claim s q r ratio missed lengths = record {
  centre = q.centre;
  reach = reach q r;
  cosines = q.cosines;
  retained = listed q.size q.row;
  missed = missed;
  lengths = lengths;
  bound = bound s q r;
  spread = spread s q r ratio;
}

pub record IsMissed (s : ℕ) (q : SquareSystem) (r : ℕ → ℕ) (t : Poly ℤ) : Type 0 where
  pub over : Ends
  pub is : span_value s (box q r) q.cosines t ≡ Some over
  pub off : (pos 0 <ℤ over.lo) ⊎ (over.hi <ℤ pos 0)

pub record IsLength (q : SquareSystem) (r : ℕ → ℕ) (c : ℕ) : Type 0 where
  pub inside : c < length q.centre
  pub above : pos (reach q r c) <ℤ get_or q.centre c (pos 0)

unless_none-some : (m v : ℕ) → 0 < m → unless_none m v ≡ v
unless_none-some zero v h = absurd (omega arith)
unless_none-some (suc m) v h = refl

module _ (s : ℕ) (q : SquareSystem) (r : ℕ → ℕ) (ratio : ℕ) (missed : List (Poly ℤ)) (lengths : List ℕ) (some : 1 ≤ s) (well : IsWell q r) (passes : Passes s q r)
    (ratios : (j k : ℕ) → j < q.size → k < q.size → r k ≤ ratio * r j) (off : All (IsMissed s q r) missed) (long : All (IsLength q r) lengths) where
  none-held : (c : ℕ) → q.size ≡ 0 → reach q r c ≡ 0
  none-held c e = at_column-none q.size q.column r 0 c (λ j l i. absurd (omega arith))

  found : (n : ℕ) (k : ℕ → ℤ) → s ≤ n → IsChoice s n (claim s q r ratio missed lengths) k → (p : ℕ → ℤ) × IsPoint s n (claim s q r ratio missed lengths) p × IsSettled s n (claim s q r ratio missed lengths) k p
  found n k fine ks =
      ⊎_elim
      (λ (h : 0 < q.size).
      let (p, a, e) = settled-point s n q r k fine some well passes (record { each = ks.each }) in
      let eb = unless_none-some q.size (4 * slope_size s q r) h in (
        p,
        record { near = a.near },
        record {
          each = All-listed (λ t. unsigned_abs (value_at s n k p t) * 2 ^ n ≤ bound s q r * 2 ^ (n * degree t)) q.size q.row
              (λ i l. subst (λ (b : ℕ). unsigned_abs (value_at s n k p (q.row i)) * 2 ^ n ≤ b * 2 ^ (n * degree (q.row i))) (sym eb) (e i l));
        },
      ))
      (λ (h : q.size ≤ 0). (
        middle s n q,
        record { near = λ c l. omega (arith, ints) },
        record { each = All-listed (λ t. unsigned_abs (value_at s n k (middle s n q) t) * 2 ^ n ≤ bound s q r * 2 ^ (n * degree t)) q.size q.row (λ i l. absurd (omega arith)) },
      ))
      (cases_lt 0 q.size)

  near-each : (n : ℕ) (k p p' : ℕ → ℤ) → s ≤ n → IsChoice s n (claim s q r ratio missed lengths) k → IsPoint s n (claim s q r ratio missed lengths) p → IsPoint s n (claim s q r ratio missed lengths) p' →
      IsSettled s n (claim s q r ratio missed lengths) k p → IsSettled s n (claim s q r ratio missed lengths) k p' → (c : ℕ) → c < length q.centre → unsigned_abs (p' c -ℤ p c) ≤ spread s q r ratio
  near-each n k p p' fine ks hp hq sp sq c l =
      ⊎_elim
      (λ (h : 0 < q.size).
      let eb = unless_none-some q.size (4 * slope_size s q r) h in
      let es = unless_none-some q.size (16 * (slope_size s q r * inverse_size s q * ratio)) h in
      let at = λ (p : ℕ → ℤ) (z : IsSettled s n (claim s q r ratio missed lengths) k p) (i : ℕ) (o : i < q.size).
      subst (λ (b : ℕ). unsigned_abs (value_at s n k p (q.row i)) * 2 ^ n ≤ b * 2 ^ (n * degree (q.row i))) eb
      (All-listed_at (λ t. unsigned_abs (value_at s n k p t) * 2 ^ n ≤ bound s q r * 2 ^ (n * degree t)) q.size q.row z.each i o) in
      subst (λ (b : ℕ). unsigned_abs (p' c -ℤ p c) ≤ b) (sym es)
      (close-points s n q r k fine some well passes (record { each = ks.each }) ratio ratios p p' (record { near = hp.near }) (record { near = hq.near }) (at p sp) (at p' sq) c l))
      (λ (h : q.size ≤ 0).
      let z = none-held c (omega arith) in
      let a : unsigned_abs (p' c -ℤ p c) ≤ 0 = omega (arith, ints, rw z at (hp.near c l), rw z at (hq.near c l)) in
      omega (arith, a))
      (cases_lt 0 q.size)

  pub box-sound : IsSoundBox s (claim s q r ratio missed lengths)
  box-sound = record {
    exists = found;
    close = near-each;
    misses = λ n k p fine ks hp i d l.
        let m = off i d l in
        row-misses s n q r k fine (record { each = ks.each }) (get_or missed i d) m.over m.is m.off p (record { near = hp.near });
    lengths_positive = λ n p fine hp i d l.
        let m = long i d l in
        above-zero s n q r (get_or lengths i d) m.inside m.above p (record { near = hp.near });
  }
