-- Worked rows: values and slopes by hand, the nodes of a distance, and a tape whose tree doubles at each node.
use Rattle.std.proofs.Common.{◌≡◌, inl, inr, refl, sym, ap, ◌∙◌, subst, ◌≤◌, ℕ, zero, suc, ◌+◌, ◌-◌, ℤ, pos, negsuc, List, [], ◌∷◌, ◌++◌, length, Some, length-append, arith}
use Rattle.std.specs.Prelude.{slice_get}
use Rattle.sk_num.specs.Ends.{point}
use Rattle.sk_expr.specs.Poly.{Poly, number, unknown, plus, minus, times}
use Rattle.sk_expr.specs.ExactValue.{value_at, slope_at}
use Rattle.sk_expr.specs.SpanValue.{span_value, span_slope}
use Rattle.sk_expr.specs.SparseRows.{sparse_of, sparse_slopes}
use Rattle.sk_expr.specs.Readings.{length_reading, quotient_reading, greatest_place, lesser_of, floor_root}
use Rattle.sk_expr.specs.declared.node.Node.{Node}
use Rattle.sk_expr.specs.declared.node.Node.TheVariants.{Num, Var, Add, Sub, Mul}
use Rattle.sk_expr.specs.Tapes.{plain_of, tape_of, HasOperandsBelow, IsTape}
use Rattle.sk_expr.specs.TapeLaws.{at-push}

-- ---- values and slopes

-- x y from (1, 1) to (2, 3) rises by 5: 3 for x, at the later y, and 1 for y, at the earlier x
abbrev pub earlier_point : ℕ → ℤ
earlier_point i = pos 1

abbrev pub later_point : ℕ → ℤ
later_point zero = pos 2
later_point (suc i) = pos 3

pub product-slopes :
    (slope_at 0 0 (λ i. pos 0) earlier_point later_point 0 (times (unknown 0) (unknown 1)) ≡ pos 3)
    × (slope_at 0 0 (λ i. pos 0) earlier_point later_point 1 (times (unknown 0) (unknown 1)) ≡ pos 1)
product-slopes = (refl, refl)

-- a sum of a number and a square, at the scale 1: 1/2 + x x at x = 3/2 is 11/4, over 2^2
pub raised-sum : value_at 1 1 (λ i. pos 0) (λ i. pos 3) (plus (number (pos 1)) (times (unknown 0) (unknown 0))) ≡ pos 11
raised-sum = refl

-- ---- a distance

-- two points of a plane, value apart
abbrev pub distance : ℤ → Poly ℤ
distance value =
    minus (plus (times (minus (unknown 0) (unknown 2)) (minus (unknown 0) (unknown 2))) (times (minus (unknown 1) (unknown 3)) (minus (unknown 1) (unknown 3))))
    (times (number value) (number value))

abbrev pub distance_nodes : ℤ → List (Node ℤ)
distance_nodes value = Var 0 ∷ Var 2 ∷ Sub 0 1 ∷ Mul 2 2 ∷ Var 1 ∷ Var 3 ∷ Sub 4 5 ∷ Mul 6 6 ∷ Add 3 7 ∷ Num value ∷ Mul 9 9 ∷ Sub 8 10 ∷ []

-- the same row again adds no node
pub repeated-distance : tape_of (distance (pos 80) ∷ distance (pos 80) ∷ []) ≡ plain_of (distance_nodes (pos 80)) (11 ∷ 11 ∷ []) (0 ∷ 12 ∷ [])
repeated-distance = refl

-- from (0, 0) to (3, 4) at the scale 4, in the listed order, a column that doesn't occur left out
pub distance-slopes :
    sparse_slopes 4 (point (pos 0) ∷ point (pos 0) ∷ point (pos 48) ∷ point (pos 64) ∷ point (pos 16) ∷ []) [] (3 ∷ 4 ∷ 0 ∷ []) (distance (pos 80))
    ≡ Some (sparse_of (3 ∷ 0 ∷ []) (point (pos 128) ∷ point (negsuc 95) ∷ []))
unfolding span_slope
distance-slopes = refl

pub distance-value : span_value 4 (point (pos 0) ∷ point (pos 0) ∷ point (pos 48) ∷ point (pos 64) ∷ []) [] (distance (pos 80)) ≡ Some (point (pos 0))
unfolding span_value
distance-value = refl

-- ---- readings

-- a length is rounded down; a quotient by 0 is 0; the first of the greatest counts, and of equal ones the first
pub readings-by_hand :
    (length_reading (pos 3 ∷ negsuc 3 ∷ []) ≡ Some (pos 5)) × (length_reading (pos 2 ∷ pos 2 ∷ []) ≡ Some (pos 2))
    × (quotient_reading 4 (pos 3) (pos 0) ≡ Some (pos 0)) × (quotient_reading 4 (pos 1) (negsuc 1) ≡ Some (negsuc 7))
    × (greatest_place (pos 2 ∷ negsuc 2 ∷ pos 3 ∷ []) ≡ 1)
    × (lesser_of (unknown 0) (unknown 1) (pos 2) (negsuc 1) ≡ unknown 0)
unfolding floor_root
readings-by_hand = (refl, refl, refl, refl, refl, refl)

-- ---- a tree that doubles

-- 0, then twice the node before at each place from 2 on
abbrev pub doubled_node : ℕ → Node ℤ
doubled_node zero = Var 0
doubled_node (suc zero) = Sub 0 0
doubled_node (suc (suc k)) = Add (suc k) (suc k)

pub record AreDoubled (n : ℕ) (ns : List (Node ℤ)) : Type 0 where
  pub long : length ns ≡ n
  pub at : (i : ℕ) (m : Node ℤ) → slice_get ns i ≡ Some m → m ≡ doubled_node i

some_same : {T : Type 0} (x y : T) → Some x ≡ Some y → x ≡ y
some_same x y e = cc

doubled-below : (i : ℕ) → HasOperandsBelow i (doubled_node i)
doubled-below zero = tt
doubled-below (suc zero) = (omega arith, omega arith)
doubled-below (suc (suc k)) = (omega arith, omega arith)

doubled-differ : (i j : ℕ) → doubled_node i ≡ doubled_node j → i ≡ j
doubled-differ zero zero e = refl
doubled-differ zero (suc zero) e = absurd cc
doubled-differ zero (suc (suc l)) e = absurd cc
doubled-differ (suc zero) zero e = absurd cc
doubled-differ (suc zero) (suc zero) e = refl
doubled-differ (suc zero) (suc (suc l)) e = absurd cc
doubled-differ (suc (suc k)) zero e = absurd cc
doubled-differ (suc (suc k)) (suc zero) e = absurd cc
doubled-differ (suc (suc k)) (suc (suc l)) e = let q : suc k ≡ suc l = cc in omega (arith, q)

only-root : (n i r : ℕ) → slice_get (n ∷ []) i ≡ Some r → n ≡ r
only-root n zero r h = some_same n r h
only-root n (suc i) r h = absurd cc

only-start : (s : ℕ) → slice_get (0 ∷ []) 0 ≡ Some s → s ≡ 0
only-start s h = sym (some_same 0 s h)

-- the tape of one row that ends with the node n
pub doubled-tape : (n : ℕ) (ns : List (Node ℤ)) → AreDoubled (n + 1) ns → IsTape (plain_of ns (n ∷ []) (0 ∷ []))
doubled-tape n ns h = record {
  nodes = record {
    earlier = λ i m e. subst (HasOperandsBelow i) (sym (h.at i m e)) (doubled-below i);
    different = λ i j m e f. doubled-differ i j (sym (h.at i m e) ∙ h.at j m f);
  };
  roots = λ i r e. (let q = only-root n i r e in omega (arith, q, h.long));
  starts = (omega arith, omega arith);
  first = only-start;
  one_each = refl;
  unless_empty = λ e. absurd (omega (arith, e));
}

no-node : (i : ℕ) (m : Node ℤ) → slice_get [] i ≡ Some m → ⊥
no-node i m h = cc

pub doubled-none : AreDoubled 0 []
doubled-none = record { long = refl; at = λ i m e. absurd (no-node i m e) }

pub doubled-more : (n : ℕ) (ns ms : List (Node ℤ)) (m : Node ℤ) → AreDoubled n ns → m ≡ doubled_node n → ms ≡ ns ++ m ∷ [] → AreDoubled (n + 1) ms
doubled-more n ns ms m h e w = record {
  long = omega (arith, ap length w, h.long, length-append ns (m ∷ []));
  at = λ i x f. elim (at-push ns m x i (ap (λ (l : List (Node ℤ)). slice_get l i) (sym w) ∙ f)) [
    | inl k ↦ h.at i x k
    | inr k ↦ k.1 ∙ e ∙ ap doubled_node (sym h.long ∙ sym k.0)
  ];
}

pub doubled-later : (n : ℕ) → 2 ≤ n → doubled_node n ≡ Add (n - 1) (n - 1)
doubled-later zero h = absurd (omega (arith, h))
doubled-later (suc zero) h = absurd (omega (arith, h))
doubled-later (suc (suc k)) h = let e : suc k ≡ suc (suc k) - 1 = omega arith in (λ j. Add (e j) (e j))
