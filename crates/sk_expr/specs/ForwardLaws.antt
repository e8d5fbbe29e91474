-- The duals of a node in forward mode are those of its tree.
use Rattle.std.proofs.Common.{◌≡◌, ℕ, ◌<◌, ◌≤◌, ◌+◌, ◌^◌, ℤ, pos, Bool, true, false, true≢false, List, [], ◌∷◌, map, get_or, Option, Some, None, refl, sym, ap, subst, ◌∙◌, arith}
use Rattle.std.specs.Prelude.{◌==◌, ◌&&◌, ◌||◌, nat_lt, if◌then◌else◌, option_map, slice_get}
use Rattle.std.proofs.lemmas.Bool.{ltb-true, ltb-false, eq-eqb, eqb-true, ne_eqb, and_parts}
use Rattle.sk_num.specs.Ends.{Ends, point}
use Rattle.sk_expr.specs.Poly.{Poly, unknown, occurs}
use Rattle.sk_expr.specs.SpanValue.{DualEnds, dual_of, dual_value, dual_add, dual_sub, dual_mul}
use Rattle.sk_expr.specs.AbsentSlope.{constant_dual, absent-dual, unknown-dual}
use Rattle.sk_expr.specs.declared.node.Node.{Node}
use Rattle.sk_expr.specs.declared.node.Node.TheVariants.{Num, Cos, Var, Add, Sub, Mul}
use Rattle.sk_expr.specs.Tapes.{tree_over, trees, tree_at, HasOperandsBelow, AreEarlier}
use Rattle.sk_expr.specs.TapeLaws.{tree_at-node}
use Rattle.sk_expr.specs.Marks.{is_marked, HasOperandsMarked, AreMarks}
use Rattle.sk_expr.specs.NodeValues.{Knows, of_both}
use Rattle.sk_expr.specs.Columns.{is_among, RisesFrom, united, unite_after, columns_in}
use Rattle.sk_expr.specs.ColumnLaws.{columns_in-are, columns_in-rise, among-from, first-among}
use Rattle.sk_expr.specs.ForwardSlopes.{plain_value, beside, duals_in, of_second, merge_after, merged, node_duals, found}

-- ---- merging

-- what is among the columns ls, and not among ks, has the slope 0 in the operand of ks
pub record AreAbsent (ks ls : List ℕ) (A : ℕ → Option DualEnds) (v : Option Ends) : Type 0 where
  pub absent : (c : ℕ) → is_among ls c ≡ true → is_among ks c ≡ false → A c ≡ option_map constant_dual v

among-later : (l : ℕ) (ls : List ℕ) (c : ℕ) → is_among ls c ≡ true → is_among (l ∷ ls) c ≡ true
among-later l ls c h = by (l == c)
  where
    by : (b : Bool) → (b || is_among ls c) ≡ true
    by true = refl
    by false = h

-- c is not k, which is before each of ls
not-first : (k : ℕ) (ks ls : List ℕ) (c : ℕ) → RisesFrom (k + 1) ls → is_among ls c ≡ true → is_among ks c ≡ false → is_among (k ∷ ks) c ≡ false
not-first k ks ls c r h g = let l = among-from (k + 1) ls c r h in let e = ne_eqb k c (λ z. omega (arith, l, z)) in rw (e, g) refl

-- nothing before l is among what rises behind it
later : (l : ℕ) (ls : List ℕ) (c : ℕ) → RisesFrom (l + 1) ls → c ≤ l → is_among ls c ≡ false
later l ls c r h = by (is_among ls c) refl
  where
    by : (b : Bool) → is_among ls c ≡ b → is_among ls c ≡ false
    by true e = absurd (let g = among-from (l + 1) ls c r e in omega (arith, g, h))
    by false e = e

AreAbsent-first : (k : ℕ) (ks ls : List ℕ) (A : ℕ → Option DualEnds) (v : Option Ends) → RisesFrom (k + 1) ls → AreAbsent (k ∷ ks) ls A v → AreAbsent ks ls A v
AreAbsent-first k ks ls A v r h = record { absent = λ c i o. h.absent c i (not-first k ks ls c r i o) }

AreAbsent-later : (k : ℕ) (ks ls : List ℕ) (A : ℕ → Option DualEnds) (v : Option Ends) → AreAbsent ls (k ∷ ks) A v → AreAbsent ls ks A v
AreAbsent-later k ks ls A v h = record { absent = λ c i o. h.absent c (among-later k ks c i) o }

module _ (f : DualEnds → DualEnds → Option DualEnds) (v w : Option Ends) (A B : ℕ → Option DualEnds) where
  second-only : (ls : List ℕ) → AreAbsent [] ls A v → map (of_second f v) (beside B ls) ≡ beside (λ c. of_both f (A c) (B c)) ls
  second-only [] h = refl
  second-only (l ∷ ls) h =
      λ j. (l, of_both f (sym (h.absent l (first-among l ls) refl) j) (B l)) ∷ second-only ls (AreAbsent-later l ls [] A v h) j

  -- that the rest of the first operand's columns are merged with any others
  pub record MergesWith (ks : List ℕ) : Type 0 where
    pub with : (m : ℕ) (ms : List ℕ) → RisesFrom m ms → AreAbsent ks ms A v → AreAbsent ms ks B w → merged f v w (beside A ks) (beside B ms) ≡ beside (λ c. of_both f (A c) (B c)) (united ks ms)

  after : (k : ℕ) (ks : List ℕ) → RisesFrom (k + 1) ks → MergesWith ks → (m : ℕ) (ls : List ℕ) → RisesFrom m ls → AreAbsent (k ∷ ks) ls A v → AreAbsent ls (k ∷ ks) B w →
      merge_after f v w (k, A k) (merged f v w (beside A ks)) (beside B ls) ≡ beside (λ c. of_both f (A c) (B c)) (unite_after k (united ks) ls)
  after k ks r h m [] s a b =
      λ j. (k, of_both f (A k) (sym (b.absent k (first-among k ks) refl) j)) ∷ h.with 0 [] tt (record { absent = λ c i o. absurd (true≢false (sym i)) }) (AreAbsent-later k ks [] B w b) j
  after k ks r h m (l ∷ ls) s a b = by (nat_lt k l) (nat_lt l k) refl refl (after k ks r h (l + 1) ls s.1)
    where
      by : (x y : Bool) → nat_lt k l ≡ x → nat_lt l k ≡ y →
          (AreAbsent (k ∷ ks) ls A v → AreAbsent ls (k ∷ ks) B w → merge_after f v w (k, A k) (merged f v w (beside A ks)) (beside B ls) ≡ beside (λ c. of_both f (A c) (B c)) (unite_after k (united ks) ls)) →
          merge_after f v w (k, A k) (merged f v w (beside A ks)) (beside B (l ∷ ls)) ≡ beside (λ c. of_both f (A c) (B c)) (unite_after k (united ks) (l ∷ ls))
      by true y p q i =
          let n = ltb-true k l p in
          let rl : RisesFrom (k + 1) (l ∷ ls) = (omega (arith, n), s.1) in
          let z : is_among (l ∷ ls) k ≡ false = rw (ne_eqb l k (λ e. omega (arith, e, n))) (later l ls k s.1 (omega (arith, n))) in
          rw p (λ j. (k, of_both f (A k) (sym (b.absent k (first-among k ks) z) j)) ∷ h.with m (l ∷ ls) s (AreAbsent-first k ks (l ∷ ls) A v rl a) (AreAbsent-later k ks (l ∷ ls) B w b) j)
      by false true p q i =
          let n = ltb-true l k q in
          let rk : RisesFrom (l + 1) (k ∷ ks) = (omega (arith, n), r) in
          let z : is_among (k ∷ ks) l ≡ false = rw (ne_eqb k l (λ e. omega (arith, e, n))) (later k ks l r (omega (arith, n))) in
          rw (p, q) (λ j. (l, of_both f (sym (a.absent l (first-among l ls) z) j) (B l)) ∷ i (AreAbsent-later l ls (k ∷ ks) A v a) (AreAbsent-first l ls (k ∷ ks) B w rk b) j)
      by false false p q i =
          let n : k ≡ l = (let x = ltb-false k l p in let y = ltb-false l k q in omega (arith, x, y)) in
          let rl : RisesFrom (k + 1) ls = subst (λ (z : ℕ). RisesFrom (z + 1) ls) (sym n) s.1 in
          let rk : RisesFrom (l + 1) ks = subst (λ (z : ℕ). RisesFrom (z + 1) ks) n r in
          rw (p, q) (λ j. (k, of_both f (A k) (B (sym n j))) ∷ h.with (l + 1) ls s.1 (AreAbsent-first k ks ls A v rl (AreAbsent-later l ls (k ∷ ks) A v a)) (AreAbsent-first l ls ks B w rk (AreAbsent-later k ks (l ∷ ls) B w b)) j)

  pub merged-is : (n : ℕ) (ks : List ℕ) → RisesFrom n ks → MergesWith ks
  merged-is n [] r = record { with = λ m ms s a b. second-only ms a }
  merged-is n (k ∷ ks) r = record { with = λ m ms s a b. after k ks r.1 (merged-is (k + 1) ks r.1) m ms s a b }

-- ---- nodes

other-false : (a b : Bool) → a ≡ true → (a && b) ≡ false → b ≡ false
other-false true b h g = g
other-false false b h g = absurd (true≢false (sym h))

module _ (s : ℕ) (us cs : List Ends) (listed : ℕ → Bool) where
  -- a listed column that doesn't occur in a has the slope 0 there
  absent-in : (a : Poly ℤ) (ls : Poly ℤ) → AreAbsent (columns_in listed a) (columns_in listed ls) (λ c. dual_value s us cs c a) (plain_value s us cs a)
  absent-in a b = record {
    absent = λ c i o.
        let l = and_parts (listed c) (occurs c b) (sym (columns_in-are listed b c) ∙ i) in
        absent-dual s us cs c a (other-false (listed c) (occurs c a) l.0 (sym (columns_in-are listed a c) ∙ o));
  }

  pub merged-duals : (f : DualEnds → DualEnds → Option DualEnds) (a b : Poly ℤ) →
      merged f (plain_value s us cs a) (plain_value s us cs b) (duals_in s us cs listed a) (duals_in s us cs listed b)
      ≡ beside (λ c. of_both f (dual_value s us cs c a) (dual_value s us cs c b)) (united (columns_in listed a) (columns_in listed b))
  merged-duals f a b =
      (merged-is f (plain_value s us cs a) (plain_value s us cs b) (λ c. dual_value s us cs c a) (λ c. dual_value s us cs c b) 0 (columns_in listed a) (columns_in-rise listed a)).with
      0 (columns_in listed b) (columns_in-rise listed b) (absent-in a b) (absent-in b a)

  unknown-duals : (b : Bool) (i : ℕ) → (if b then (i, option_map (λ x. dual_of x (point (pos (2 ^ s)))) (slice_get us i)) ∷ [] else []) ≡ beside (λ c. dual_value s us cs c (unknown i)) (if b then i ∷ [] else [])
  unknown-duals false i = refl
  unknown-duals true i =
      λ j. (i, (ap (λ b. option_map (λ x. dual_of x (if b then point (pos (2 ^ s)) else point (pos 0))) (slice_get us i)) (sym (eq-eqb i i refl)) ∙ sym (unknown-dual s i i us)) j) ∷ []

  module _ (ns : List (Node ℤ)) (ms : List Bool) (i j : ℕ) (vs : List (Option Ends)) (es : List (List (ℕ × Option DualEnds))) (fewer : i ≤ j)
      (values : Knows ns ms (plain_value s us cs) None j vs) (duals : Knows ns ms (duals_in s us cs listed) [] i es) where
    value : (x : ℕ) → x < i → is_marked ms x ≡ true → get_or vs x None ≡ plain_value s us cs (tree_at ns x)
    value x h m = values.at x (omega (arith, h, fewer)) m

    duals-over : (n : Node ℤ) → HasOperandsBelow i n → HasOperandsMarked ms n → node_duals s us listed vs es n ≡ duals_in s us cs listed (tree_over (trees ns) n)
    duals-over (Num g) b m = refl
    duals-over (Cos k) b m = refl
    duals-over (Var k) b m = unknown-duals (listed k) k
    duals-over (Add x y) b m =
        (λ k. merged dual_add (value x b.0 m.0 k) (value y b.1 m.1 k) (duals.at x b.0 m.0 k) (duals.at y b.1 m.1 k)) ∙ merged-duals dual_add (tree_at ns x) (tree_at ns y)
    duals-over (Sub x y) b m =
        (λ k. merged dual_sub (value x b.0 m.0 k) (value y b.1 m.1 k) (duals.at x b.0 m.0 k) (duals.at y b.1 m.1 k)) ∙ merged-duals dual_sub (tree_at ns x) (tree_at ns y)
    duals-over (Mul x y) b m =
        (λ k. merged (dual_mul s) (value x b.0 m.0 k) (value y b.1 m.1 k) (duals.at x b.0 m.0 k) (duals.at y b.1 m.1 k)) ∙ merged-duals (dual_mul s) (tree_at ns x) (tree_at ns y)

    -- the duals of a marked node over those of the earlier ones are those of its tree
    pub node_duals-is : (n : Node ℤ) → AreEarlier ns → AreMarks ns ms → slice_get ns i ≡ Some n → is_marked ms i ≡ true → node_duals s us listed vs es n ≡ duals_in s us cs listed (tree_at ns i)
    node_duals-is n earlier marks at m =
        duals-over n (earlier i n at) (marks.operands i n at m) ∙ ap (duals_in s us cs listed) (sym (tree_at-node ns i n earlier at))

-- ---- what is found

pub found-beside : (f : ℕ → Option DualEnds) (ks : List ℕ) (c : ℕ) → found (beside f ks) c ≡ (if is_among ks c then Some (f c) else None)
found-beside f [] c = refl
found-beside f (k ∷ ks) c = by (k == c) refl (found-beside f ks c)
  where
    by : (b : Bool) → (k == c) ≡ b → found (beside f ks) c ≡ (if is_among ks c then Some (f c) else None) → found (beside f (k ∷ ks)) c ≡ (if is_among (k ∷ ks) c then Some (f c) else None)
    by true e h = rw e (ap (λ z. Some (f z)) (eqb-true k c e))
    by false e h = rw e h
