-- Marks stay closed while operands are marked, and a marked node is worth what its tree is.
use Rattle.std.proofs.Common.{◌≡◌, inl, inr, ◌<◌, ◌≤◌, ℕ, ◌+◌, ℤ, Bool, true, false, List, [], ◌∷◌, ◌++◌, length, get_or, Option, Some, None, refl, sym, ap, ◌∙◌, subst, arith, length-append}
use Rattle.std.specs.Prelude.{slice_get, slice_set}
use Rattle.std.proofs.lemmas.Bool.{cases_eq, cases_lt}
use Rattle.std.proofs.lemmas.List.{get_or-set_same, get_or-set_other, length-set}
use Rattle.std.proofs.lemmas.Option.{slice_get-get_or, slice_get_within}
use Rattle.std.proofs.Math.ListN.{get_or-append}
use Rattle.std.proofs.Math.Seq.{get_or-append_seam}
use Rattle.sk_expr.specs.Poly.{Poly}
use Rattle.sk_expr.specs.SpanValue.{value_by}
use Rattle.sk_expr.specs.declared.node.Node.{Node}
use Rattle.sk_expr.specs.declared.node.Node.TheVariants.{Num, Cos, Var, Add, Sub, Mul}
use Rattle.sk_expr.specs.Tapes.{tree_over, trees, tree_at, HasOperandsBelow, AreEarlier, PlainTape, IsTape, row_tree}
use Rattle.sk_expr.specs.TapeLaws.{tree_at-node, below-more, root-inside}
use Rattle.sk_expr.specs.Marks.{is_marked, HasOperandsMarked, AreMarks, with_operands}
use Rattle.sk_expr.specs.NodeValues.{Knows, of_both, node_value}

-- ---- marks

-- what is marked stays marked
pub record Grows (ms ns : List Bool) : Type 0 where
  pub long : length ns ≡ length ms
  pub kept : (i : ℕ) → is_marked ms i ≡ true → is_marked ns i ≡ true

pub Grows-same : (ms : List Bool) → Grows ms ms
Grows-same ms = record { long = refl; kept = λ i h. h }

pub Grows-trans : (ms ns os : List Bool) → Grows ms ns → Grows ns os → Grows ms os
Grows-trans ms ns os h k = record { long = k.long ∙ h.long; kept = λ i e. k.kept i (h.kept i e) }

pub Grows-set : (ms : List Bool) (a : ℕ) → a < length ms → Grows ms (slice_set ms a true)
Grows-set ms a l = record {
  long = length-set ms a true;
  kept = λ i h. elim (cases_eq i a) [
    | inl e ↦ ap (λ k. get_or (slice_set ms a true) k false) e ∙ get_or-set_same ms a true false l
    | inr e ↦ get_or-set_other ms a i true false e ∙ h
  ];
}

pub marked-set : (ms : List Bool) (a : ℕ) → a < length ms → is_marked (slice_set ms a true) a ≡ true
marked-set ms a l = get_or-set_same ms a true false l

-- at each of the first places and at one more
pub marked-more : (ms os : List Bool) (at : ℕ → ℕ) (i p : ℕ) → p < length ms → p ≡ at i → os ≡ slice_set ms p true → ((k : ℕ) → k < i → is_marked ms (at k) ≡ true) →
    (k : ℕ) → k < i + 1 → is_marked os (at k) ≡ true
marked-more ms os at i p l e w h k b =
    ap (λ (x : List Bool). is_marked x (at k)) w ∙ elim (cases_eq k i) [
      | inl q ↦ ap (is_marked (slice_set ms p true)) (ap at q ∙ sym e) ∙ get_or-set_same ms p true false l
      | inr q ↦ (Grows-set ms p l).kept (at k) (h k (omega (arith, b, q)))
    ]

two-set : (ms : List Bool) (a b : ℕ) → a < length ms → b < length ms → Grows ms (slice_set (slice_set ms a true) b true)
two-set ms a b k l = Grows-trans ms (slice_set ms a true) _ (Grows-set ms a k) (Grows-set (slice_set ms a true) b (omega (arith, l, length-set ms a true)))

two-marked : (ms : List Bool) (a b : ℕ) → a < length ms → b < length ms →
    (is_marked (slice_set (slice_set ms a true) b true) a ≡ true) × (is_marked (slice_set (slice_set ms a true) b true) b ≡ true)
two-marked ms a b k l =
    let l' : b < length (slice_set ms a true) = omega (arith, l, length-set ms a true) in
    ((Grows-set (slice_set ms a true) b l').kept a (marked-set ms a k), marked-set (slice_set ms a true) b l')

two-kept : (ms : List Bool) (a b i : ℕ) → a < i → b < i → is_marked (slice_set (slice_set ms a true) b true) i ≡ is_marked ms i
two-kept ms a b i k l =
    get_or-set_other (slice_set ms a true) b i true false (λ e. omega (arith, e, l)) ∙ get_or-set_other ms a i true false (λ e. omega (arith, e, k))

pub operands-grow : (ms : List Bool) (i : ℕ) (n : Node ℤ) → i ≤ length ms → HasOperandsBelow i n → Grows ms (with_operands ms n)
operands-grow ms i (Num g) l h = Grows-same ms
operands-grow ms i (Cos k) l h = Grows-same ms
operands-grow ms i (Var k) l h = Grows-same ms
operands-grow ms i (Add a b) l h = two-set ms a b (omega (arith, l, h.0)) (omega (arith, l, h.1))
operands-grow ms i (Sub a b) l h = two-set ms a b (omega (arith, l, h.0)) (omega (arith, l, h.1))
operands-grow ms i (Mul a b) l h = two-set ms a b (omega (arith, l, h.0)) (omega (arith, l, h.1))

operands-marked : (ms : List Bool) (i : ℕ) (n : Node ℤ) → i ≤ length ms → HasOperandsBelow i n → HasOperandsMarked (with_operands ms n) n
operands-marked ms i (Num g) l h = tt
operands-marked ms i (Cos k) l h = tt
operands-marked ms i (Var k) l h = tt
operands-marked ms i (Add a b) l h = two-marked ms a b (omega (arith, l, h.0)) (omega (arith, l, h.1))
operands-marked ms i (Sub a b) l h = two-marked ms a b (omega (arith, l, h.0)) (omega (arith, l, h.1))
operands-marked ms i (Mul a b) l h = two-marked ms a b (omega (arith, l, h.0)) (omega (arith, l, h.1))

-- marks of this and later nodes stay
operands-kept : (ms : List Bool) (i j : ℕ) (n : Node ℤ) → HasOperandsBelow i n → i ≤ j → is_marked (with_operands ms n) j ≡ is_marked ms j
operands-kept ms i j (Num g) h l = refl
operands-kept ms i j (Cos k) h l = refl
operands-kept ms i j (Var k) h l = refl
operands-kept ms i j (Add a b) h l = two-kept ms a b j (omega (arith, l, h.0)) (omega (arith, l, h.1))
operands-kept ms i j (Sub a b) h l = two-kept ms a b j (omega (arith, l, h.0)) (omega (arith, l, h.1))
operands-kept ms i j (Mul a b) h l = two-kept ms a b j (omega (arith, l, h.0)) (omega (arith, l, h.1))

still-marked : (ms ns : List Bool) (n : Node ℤ) → Grows ms ns → HasOperandsMarked ms n → HasOperandsMarked ns n
still-marked ms ns (Num g) h k = k
still-marked ms ns (Cos i) h k = k
still-marked ms ns (Var i) h k = k
still-marked ms ns (Add a b) h k = (h.kept a k.0, h.kept b k.1)
still-marked ms ns (Sub a b) h k = (h.kept a k.0, h.kept b k.1)
still-marked ms ns (Mul a b) h k = (h.kept a k.0, h.kept b k.1)

-- the operands of the marked nodes from the place i on are marked
pub record AreMarksFrom (ns : List (Node ℤ)) (i : ℕ) (ms : List Bool) : Type 0 where
  pub long : length ms ≡ length ns
  pub operands : (j : ℕ) (n : Node ℤ) → i ≤ j → slice_get ns j ≡ Some n → is_marked ms j ≡ true → HasOperandsMarked ms n

pub marks-none : (ns : List (Node ℤ)) (ms : List Bool) → length ms ≡ length ns → AreMarksFrom ns (length ns) ms
marks-none ns ms e = record { long = e; operands = λ j n l s h. absurd (omega (arith, l, slice_get_within ns j n s)) }

pub marks-all : (ns : List (Node ℤ)) (ms : List Bool) → AreMarksFrom ns 0 ms → AreMarks ns ms
marks-all ns ms h = record { long = h.long; operands = λ j n s k. h.operands j n (omega arith) s k }

some_same : {T : Type 0} (x y : T) → Some x ≡ Some y → x ≡ y
some_same x y e = cc

module _ (ns : List (Node ℤ)) (i j : ℕ) (n : Node ℤ) (ms : List Bool) (earlier : AreEarlier ns) (at : slice_get ns i ≡ Some n) (next : j ≡ i + 1) (h : AreMarksFrom ns j ms) where
  inside : i ≤ length ms
  inside = omega (arith, h.long, slice_get_within ns i n at)

  later : (os : List Bool) → Grows ms os → ((a : ℕ) → i < a → is_marked os a ≡ is_marked ms a) → HasOperandsMarked os n → AreMarksFrom ns i os
  later os g same here = record {
    long = g.long ∙ h.long;
    operands = λ a m l s k. elim (cases_eq a i) [
      | inl e ↦ subst (HasOperandsMarked os) (some_same n m (sym at ∙ ap (slice_get ns) (sym e) ∙ s)) here
      | inr e ↦
          let l' : i < a = omega (arith, l, e) in
          still-marked ms os m g (h.operands a m (omega (arith, l', next)) s (sym (same a l') ∙ k))
    ];
  }

  -- a marked node marks its operands
  pub marks-step : AreMarksFrom ns i (with_operands ms n)
  marks-step =
      let b = earlier i n at in
      later (with_operands ms n) (operands-grow ms i n inside b) (λ a l. operands-kept ms i a n b (omega (arith, l))) (operands-marked ms i n inside b)

  pub marks-grow : Grows ms (with_operands ms n)
  marks-grow = operands-grow ms i n inside (earlier i n at)

  pub operands-fit : HasOperandsBelow (length ms) n
  operands-fit = below-more i (length ms) n inside (earlier i n at)

  -- one that isn't marked marks nothing
  pub marks-skip : is_marked ms i ≡ false → AreMarksFrom ns i ms
  marks-skip none = record {
    long = h.long;
    operands = λ a m l s k. elim (cases_eq a i) [
      | inl e ↦ absurd (let c : true ≡ false = sym k ∙ ap (is_marked ms) e ∙ none in cc)
      | inr e ↦ h.operands a m (omega (arith, l, e, next)) s k
    ];
  }

-- ---- what is known of marked nodes

pub knows-nothing : {B : Type 0} (ns : List (Node ℤ)) (ms : List Bool) (f : Poly ℤ → B) (d : B) → Knows ns ms f d 0 []
knows-nothing ns ms f d = record { long = refl; at = λ a l h. absurd (omega (arith, l)) }

pub knows-more : {B : Type 0} (ns : List (Node ℤ)) (ms : List Bool) (f : Poly ℤ → B) (d : B) (i : ℕ) (vs zs : List B) (v : B) → Knows ns ms f d i vs →
    (is_marked ms i ≡ true → v ≡ f (tree_at ns i)) → zs ≡ vs ++ v ∷ [] → Knows ns ms f d (i + 1) zs
knows-more {B} ns ms f d i vs zs v h e w = record {
  long = omega (arith, ap length w, length-append vs (v ∷ []), h.long);
  at = λ a l m. ap (λ (xs : List B). get_or xs a d) w ∙ elim (cases_lt a i) [
    | inl k ↦ get_or-append vs (v ∷ []) d a (omega (arith, k, h.long)) ∙ h.at a k m
    | inr k ↦
        let q : a ≡ length vs = omega (arith, k, l, h.long) in
        let r : a ≡ i = omega (arith, k, l) in
        ap (λ j. get_or (vs ++ v ∷ []) j d) q ∙ get_or-append_seam vs v [] d ∙ e (sym (ap (is_marked ms) r) ∙ m) ∙ ap (λ j. f (tree_at ns j)) (sym r)
  ];
}

-- what is known of the nodes is known of the rows
pub knows-row : {B : Type 0} (t : PlainTape) (ns : List (Node ℤ)) (ms os : List Bool) (f : Poly ℤ → B) (d : B) (vs ws : List B) (r : ℕ) → ns ≡ t.nodes → ms ≡ os → ws ≡ vs →
    Knows ns ms f d (length ns) vs → IsTape t → r < length t.roots → is_marked os (get_or t.roots r 0) ≡ true → get_or ws (get_or t.roots r 0) d ≡ f (row_tree t r)
knows-row {B} t ns ms os f d vs ws r e g w h form inside m =
    let k = subst (λ (x : List (Node ℤ)). Knows x ms f d (length x) vs) e h in
    ap (λ (x : List B). get_or x (get_or t.roots r 0) d) w ∙ k.at (get_or t.roots r 0) (root-inside t r form inside) (ap (λ (x : List Bool). is_marked x (get_or t.roots r 0)) g ∙ m)

any-default : {B : Type 0} (xs : List B) (i : ℕ) (d e : B) → i < length xs → get_or xs i d ≡ get_or xs i e
any-default xs i d e l = some_same _ _ (sym (slice_get-get_or xs i d l) ∙ slice_get-get_or xs i e l)

-- and what is read at a row's own place is that
pub knows-place : {B : Type 0} (t : PlainTape) (ns : List (Node ℤ)) (ms os : List Bool) (f : Poly ℤ → B) (d x : B) (vs : List B) (r place : ℕ) → ns ≡ t.nodes → ms ≡ os →
    Knows ns ms f d (length ns) vs → IsTape t → r < length t.roots → is_marked os (get_or t.roots r 0) ≡ true → place ≡ get_or t.roots r 0 → x ≡ get_or vs place x → x ≡ f (row_tree t r)
knows-place {B} t ns ms os f d x vs r place e g h form inside m p q =
    let l : place < length vs = omega (arith, h.long, ap length e, root-inside t r form inside, p) in
    q ∙ any-default vs place x d l ∙ ap (λ (k : ℕ). get_or vs k d) p ∙ knows-row t ns ms os f d vs vs r e g refl h form inside m

-- ---- values

module _ {K : Type 0} (of : ℤ → K) (add sub mul : K → K → Option K) (us cs : List K) (ns : List (Node ℤ)) (ms : List Bool) (i : ℕ) (vs : List (Option K))
    (h : Knows ns ms (value_by of add sub mul us cs) None i vs) where
  value-over : (n : Node ℤ) → HasOperandsBelow i n → HasOperandsMarked ms n → node_value of add sub mul us cs vs n ≡ value_by of add sub mul us cs (tree_over (trees ns) n)
  value-over (Num g) b m = refl
  value-over (Cos k) b m = refl
  value-over (Var k) b m = refl
  value-over (Add x y) b m = λ j. of_both add (h.at x b.0 m.0 j) (h.at y b.1 m.1 j)
  value-over (Sub x y) b m = λ j. of_both sub (h.at x b.0 m.0 j) (h.at y b.1 m.1 j)
  value-over (Mul x y) b m = λ j. of_both mul (h.at x b.0 m.0 j) (h.at y b.1 m.1 j)

  -- the value of a marked node over those of the earlier ones is that of its tree
  pub node_value-is : (n : Node ℤ) → AreEarlier ns → AreMarks ns ms → slice_get ns i ≡ Some n → is_marked ms i ≡ true → node_value of add sub mul us cs vs n ≡ value_by of add sub mul us cs (tree_at ns i)
  node_value-is n earlier marks at m =
      value-over n (earlier i n at) (marks.operands i n at m) ∙ ap (value_by of add sub mul us cs) (sym (tree_at-node ns i n earlier at))
