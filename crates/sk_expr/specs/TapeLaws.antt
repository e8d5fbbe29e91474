-- What a tape made of rows has: its roots' trees are the rows', operands are earlier, and no two nodes are equal.
use Rattle.std.proofs.Common.{◌≡◌, inl, inr, ◌<◌, ◌≤◌, ℕ, zero, suc, ◌+◌, ℤ, pos, Bool, true, false, List, [], ◌∷◌, ◌++◌, length, get_or, map, Some, refl, sym, ap, ◌∙◌, subst, arith, append_assoc, append-nil, length-append, true≢false}
use Rattle.std.specs.Prelude.{◌-◌, take, drop, ◌⊎◌, slice_get, ◌==◌, ◌&&◌}
use Rattle.std.specs.List.{list_any, position_or_len, fold}
use Rattle.std.specs.Ordering.{int_eq}
use Rattle.std.proofs.Common.{rules}
use Rattle.std.proofs.lemmas.Bool.{eqb-true, eq-eqb, and_parts}
use Rattle.std.proofs.lemmas.Bool.Decides.{Decides-int_eq}
use Rattle.std.proofs.Math.ListN.{get_or-append}
use Rattle.std.proofs.lemmas.List.{map-append, take-take, drop-take, take-append-drop}
use Rattle.std.proofs.Math.Seq.{get_or-append_seam}
use Rattle.std.proofs.lemmas.Option.{slice_get-get_or, slice_get_within}
use Rattle.sk_expr.specs.Poly.{Poly, number, cosine, unknown, plus, minus, times}
use Rattle.sk_expr.specs.declared.node.Node.{Node}
use Rattle.sk_expr.specs.declared.node.Node.TheVariants.{Num, Cos, Var, Add, Sub, Mul}
use Rattle.sk_expr.specs.Tapes.{tree_over, trees_from, trees, tree_at, is_same, Placed, put, put_tree, HasOperandsBelow, AreEarlier, AreNodes, AreStarts, PlainTape, with_row, no_rows, tape_of, IsTape, root_trees, part, part_end, parts_to}

-- trees and places

pub trees_from-append : (ts : List (Poly ℤ)) (xs ys : List (Node ℤ)) → trees_from ts (xs ++ ys) ≡ trees_from (trees_from ts xs) ys
trees_from-append ts [] ys = refl
trees_from-append ts (x ∷ xs) ys = trees_from-append (ts ++ tree_over ts x ∷ []) xs ys

pub trees-push : (ns : List (Node ℤ)) (n : Node ℤ) → trees (ns ++ n ∷ []) ≡ trees ns ++ tree_over (trees ns) n ∷ []
trees-push ns n = trees_from-append [] ns (n ∷ [])

length-push : {A : Type 0} (xs : List A) (x : A) → length (xs ++ x ∷ []) ≡ length xs + 1
length-push xs x = length-append xs (x ∷ [])

pub length-trees_from : (ts : List (Poly ℤ)) (ns : List (Node ℤ)) → length (trees_from ts ns) ≡ length ts + length ns
length-trees_from ts [] = omega arith
length-trees_from ts (n ∷ ns) = omega (arith, length-trees_from (ts ++ tree_over ts n ∷ []) ns, length-push ts (tree_over ts n))

pub length-trees : (ns : List (Node ℤ)) → length (trees ns) ≡ length ns
length-trees ns = omega (arith, length-trees_from [] ns)

-- later nodes change no tree
pub trees_from-keeps : (ts : List (Poly ℤ)) (ns : List (Node ℤ)) (i : ℕ) (d : Poly ℤ) → i < length ts → get_or (trees_from ts ns) i d ≡ get_or ts i d
trees_from-keeps ts [] i d h = refl
trees_from-keeps ts (n ∷ ns) i d h =
    let t = tree_over ts n in
    trees_from-keeps (ts ++ t ∷ []) ns i d (omega (arith, h, length-push ts t)) ∙ get_or-append ts (t ∷ []) d i h

pub tree_at-keeps : (ns ms : List (Node ℤ)) (i : ℕ) → i < length ns → tree_at (ns ++ ms) i ≡ tree_at ns i
tree_at-keeps ns ms i h =
    ap (λ ts. get_or ts i (number (pos 0))) (trees_from-append [] ns ms)
    ∙ trees_from-keeps (trees ns) ms i (number (pos 0)) (omega (arith, h, length-trees ns))

-- us begins with ts
pub record Begins (ts us : List (Poly ℤ)) : Type 0 where
  pub at : (i : ℕ) → i < length ts → get_or us i (number (pos 0)) ≡ get_or ts i (number (pos 0))

pub tree_over-begins : (ts us : List (Poly ℤ)) (n : Node ℤ) → Begins ts us → HasOperandsBelow (length ts) n → tree_over us n ≡ tree_over ts n
tree_over-begins ts us (Num g) h b = refl
tree_over-begins ts us (Cos i) h b = refl
tree_over-begins ts us (Var i) h b = refl
tree_over-begins ts us (Add x y) h b = λ j. plus (h.at x b.0 j) (h.at y b.1 j)
tree_over-begins ts us (Sub x y) h b = λ j. minus (h.at x b.0 j) (h.at y b.1 j)
tree_over-begins ts us (Mul x y) h b = λ j. times (h.at x b.0 j) (h.at y b.1 j)

-- the tree of a new node, and of one that is there
pub tree_at-new : (ns : List (Node ℤ)) (n : Node ℤ) → tree_at (ns ++ n ∷ []) (length ns) ≡ tree_over (trees ns) n
tree_at-new ns n =
    ap (λ ts. get_or ts (length ns) (number (pos 0))) (trees-push ns n)
    ∙ ap (λ k. get_or (trees ns ++ tree_over (trees ns) n ∷ []) k (number (pos 0))) (sym (length-trees ns))
    ∙ get_or-append_seam (trees ns) (tree_over (trees ns) n) [] (number (pos 0))

trees_from-at : (ts : List (Poly ℤ)) (ms : List (Node ℤ)) (j : ℕ) (n : Node ℤ) → slice_get ms j ≡ Some n → HasOperandsBelow (length ts + j) n →
    ((k : ℕ) (m : Node ℤ) → slice_get ms k ≡ Some m → HasOperandsBelow (length ts + k) m) →
    get_or (trees_from ts ms) (length ts + j) (number (pos 0)) ≡ tree_over (trees_from ts ms) n
trees_from-at ts [] j n s b all = absurd cc
trees_from-at ts (m ∷ ms) zero n s b all =
    let t = tree_over ts m in
    let e : m ≡ n = cc in
    let z : length ts + 0 ≡ length ts = omega arith in
    ap (λ k. get_or (trees_from (ts ++ t ∷ []) ms) k (number (pos 0))) z
    ∙ trees_from-keeps (ts ++ t ∷ []) ms (length ts) (number (pos 0)) (omega (arith, length-push ts t))
    ∙ get_or-append_seam ts t [] (number (pos 0))
    ∙ ap (tree_over ts) e
    ∙ sym (tree_over-begins ts (trees_from ts (m ∷ ms)) n (record { at = λ i h. trees_from-keeps ts (m ∷ ms) i (number (pos 0)) h }) (subst (λ k. HasOperandsBelow k n) z b))
trees_from-at ts (m ∷ ms) (suc j) n s b all =
    let t = tree_over ts m in
    let l = length-push ts t in
    let at = λ (k : ℕ). (let e : length ts + suc k ≡ length (ts ++ t ∷ []) + k = omega (arith, l) in e) in
    ap (λ k. get_or (trees_from (ts ++ t ∷ []) ms) k (number (pos 0))) (at j)
    ∙ trees_from-at (ts ++ t ∷ []) ms j n s (subst (λ k. HasOperandsBelow k n) (at j) b) (λ k m' h. subst (λ i. HasOperandsBelow i m') (at k) (all (suc k) m' h))

pub tree_at-node : (ns : List (Node ℤ)) (i : ℕ) (n : Node ℤ) → AreEarlier ns → slice_get ns i ≡ Some n → tree_at ns i ≡ tree_over (trees ns) n
tree_at-node ns i n h s =
    let z = λ (k : ℕ). (let e : k ≡ 0 + k = omega arith in e) in
    let b = λ (k : ℕ) (m : Node ℤ) (e : slice_get ns k ≡ Some m). subst (λ l. HasOperandsBelow l m) (z k) (h k m e) in
    ap (λ l. get_or (trees ns) l (number (pos 0))) (z i) ∙ trees_from-at [] ns i n s (b i n s) b

-- equal nodes

two-same : (f : ℕ → ℕ → Node ℤ) (a b c d : ℕ) → ((a == c) && (b == d)) ≡ true → f a b ≡ f c d
two-same f a b c d h = let p = and_parts (a == c) (b == d) h in (λ j. f (eqb-true a c p.0 j) (eqb-true b d p.1 j))

int_same : (g h : ℤ) → int_eq g h ≡ true → g ≡ h
int_same g h e = search (rules, Decides-int_eq)

pub is_same-is : (m n : Node ℤ) → is_same m n ≡ true → m ≡ n
is_same-is (Num a) (Num c) e = ap Num (int_same a c e)
is_same-is (Num a) (Cos c) e = absurd (true≢false (sym e))
is_same-is (Num a) (Var c) e = absurd (true≢false (sym e))
is_same-is (Num a) (Add c d) e = absurd (true≢false (sym e))
is_same-is (Num a) (Sub c d) e = absurd (true≢false (sym e))
is_same-is (Num a) (Mul c d) e = absurd (true≢false (sym e))
is_same-is (Cos a) (Num c) e = absurd (true≢false (sym e))
is_same-is (Cos a) (Cos c) e = ap Cos (eqb-true a c e)
is_same-is (Cos a) (Var c) e = absurd (true≢false (sym e))
is_same-is (Cos a) (Add c d) e = absurd (true≢false (sym e))
is_same-is (Cos a) (Sub c d) e = absurd (true≢false (sym e))
is_same-is (Cos a) (Mul c d) e = absurd (true≢false (sym e))
is_same-is (Var a) (Num c) e = absurd (true≢false (sym e))
is_same-is (Var a) (Cos c) e = absurd (true≢false (sym e))
is_same-is (Var a) (Var c) e = ap Var (eqb-true a c e)
is_same-is (Var a) (Add c d) e = absurd (true≢false (sym e))
is_same-is (Var a) (Sub c d) e = absurd (true≢false (sym e))
is_same-is (Var a) (Mul c d) e = absurd (true≢false (sym e))
is_same-is (Add a b) (Num c) e = absurd (true≢false (sym e))
is_same-is (Add a b) (Cos c) e = absurd (true≢false (sym e))
is_same-is (Add a b) (Var c) e = absurd (true≢false (sym e))
is_same-is (Add a b) (Add c d) e = two-same Add a b c d e
is_same-is (Add a b) (Sub c d) e = absurd (true≢false (sym e))
is_same-is (Add a b) (Mul c d) e = absurd (true≢false (sym e))
is_same-is (Sub a b) (Num c) e = absurd (true≢false (sym e))
is_same-is (Sub a b) (Cos c) e = absurd (true≢false (sym e))
is_same-is (Sub a b) (Var c) e = absurd (true≢false (sym e))
is_same-is (Sub a b) (Add c d) e = absurd (true≢false (sym e))
is_same-is (Sub a b) (Sub c d) e = two-same Sub a b c d e
is_same-is (Sub a b) (Mul c d) e = absurd (true≢false (sym e))
is_same-is (Mul a b) (Num c) e = absurd (true≢false (sym e))
is_same-is (Mul a b) (Cos c) e = absurd (true≢false (sym e))
is_same-is (Mul a b) (Var c) e = absurd (true≢false (sym e))
is_same-is (Mul a b) (Add c d) e = absurd (true≢false (sym e))
is_same-is (Mul a b) (Sub c d) e = absurd (true≢false (sym e))
is_same-is (Mul a b) (Mul c d) e = two-same Mul a b c d e

pub is_same-refl : (n : Node ℤ) → is_same n n ≡ true
is_same-refl (Num g) = search (rules, Decides-int_eq)
is_same-refl (Cos i) = eq-eqb i i refl
is_same-refl (Var i) = eq-eqb i i refl
is_same-refl (Add a b) = rw (eq-eqb a a refl, eq-eqb b b refl) refl
is_same-refl (Sub a b) = rw (eq-eqb a a refl, eq-eqb b b refl) refl
is_same-refl (Mul a b) = rw (eq-eqb a a refl, eq-eqb b b refl) refl

-- adding

-- ms begins with ns
pub record Grows (ns ms : List (Node ℤ)) : Type 0 where
  pub more : List (Node ℤ)
  pub is : ms ≡ ns ++ more

pub Grows-same : (ns : List (Node ℤ)) → Grows ns ns
Grows-same ns = record { more = []; is = sym (append-nil ns) }

pub Grows-trans : (ns ms os : List (Node ℤ)) → Grows ns ms → Grows ms os → Grows ns os
Grows-trans ns ms os h k = record { more = h.more ++ k.more; is = k.is ∙ ap (λ z. z ++ k.more) h.is ∙ append_assoc ns h.more k.more }

pub Grows-length : (ns ms : List (Node ℤ)) → Grows ns ms → length ns ≤ length ms
Grows-length ns ms h = omega (arith, ap length h.is, length-append ns h.more)

pub Grows-tree : (ns ms : List (Node ℤ)) (i : ℕ) → Grows ns ms → i < length ns → tree_at ms i ≡ tree_at ns i
Grows-tree ns ms i h l = ap (λ z. tree_at z i) h.is ∙ tree_at-keeps ns h.more i l

pub below-more : (i j : ℕ) (n : Node ℤ) → i ≤ j → HasOperandsBelow i n → HasOperandsBelow j n
below-more i j (Num g) h b = b
below-more i j (Cos k) h b = b
below-more i j (Var k) h b = b
below-more i j (Add x y) h b = (omega (arith, b.0), omega (arith, b.1))
below-more i j (Sub x y) h b = (omega (arith, b.0), omega (arith, b.1))
below-more i j (Mul x y) h b = (omega (arith, b.0), omega (arith, b.1))

-- the element at a place of a list with one more
pub at-push : {A : Type 0} (xs : List A) (y x : A) (i : ℕ) → slice_get (xs ++ y ∷ []) i ≡ Some x → (slice_get xs i ≡ Some x) ⊎ ((i ≡ length xs) × (x ≡ y))
at-push [] y x zero h = inr (refl, cc)
at-push [] y x (suc i) h = absurd cc
at-push (z ∷ zs) y x zero h = inl h
at-push (z ∷ zs) y x (suc i) h = elim (at-push zs y x i h) [ inl k ↦ inl k | inr k ↦ inr (omega (arith, k.0), k.1) ]

-- where no element passes, the place is the length
absent-place : {A : Type 0} (p : A → Bool) (xs : List A) → list_any p xs ≡ false → position_or_len p xs ≡ length xs
absent-place p [] h = refl
absent-place p (x ∷ xs) h = by (p x) refl (λ k. absent-place p xs k)
  where
    by : (b : Bool) → p x ≡ b → (list_any p xs ≡ false → position_or_len p xs ≡ length xs) → position_or_len p (x ∷ xs) ≡ length (x ∷ xs)
    by true e rest = absurd (true≢false (rw e at h))
    by false e rest = rw e (let i = rest (rw e at h) in omega (arith, i))

absent-all : {A : Type 0} (p : A → Bool) (xs : List A) (i : ℕ) (x : A) → list_any p xs ≡ false → slice_get xs i ≡ Some x → p x ≡ false
absent-all p [] i x h e = absurd cc
absent-all p (y ∷ ys) i x h e = by (p y) refl i e (λ k. absent-all p ys k x)
  where
    by : (b : Bool) → p y ≡ b → (k : ℕ) → slice_get (y ∷ ys) k ≡ Some x → ((l : ℕ) → list_any p ys ≡ false → slice_get ys l ≡ Some x → p x ≡ false) → p x ≡ false
    by true q k f rest = absurd (true≢false (rw q at h))
    by false q zero f rest = (let s : y ≡ x = cc in ap p (sym s)) ∙ q
    by false q (suc k) f rest = rest k (rw q at h) f

-- where one passes, one that passes stands at the place
present-place : {A : Type 0} (p : A → Bool) (xs : List A) → list_any p xs ≡ true → (x : A) × (slice_get xs (position_or_len p xs) ≡ Some x) × (p x ≡ true)
present-place p [] h = absurd (true≢false (sym h))
present-place {A} p (x ∷ xs) h = by (p x) refl (λ k. present-place p xs k)
  where
    by : (b : Bool) → p x ≡ b → (list_any p xs ≡ true → (z : A) × (slice_get xs (position_or_len p xs) ≡ Some z) × (p z ≡ true)) →
        (z : A) × (slice_get (x ∷ xs) (position_or_len p (x ∷ xs)) ≡ Some z) × (p z ≡ true)
    by true e rest = rw e (x, refl, e)
    by false e rest =
        let (z, at, k) = rest (rw e at h) in
        let q : 1 + position_or_len p xs ≡ suc (position_or_len p xs) = omega arith in
        rw e (z, ap (slice_get (x ∷ xs)) q ∙ at, k)

-- what putting a node keeps, and what stands at its place then
pub record IsPut (ns : List (Node ℤ)) (t : Poly ℤ) (p : Placed) : Type 0 where
  pub nodes : AreNodes p.nodes
  pub grows : Grows ns p.nodes
  pub inside : p.place < length p.nodes
  pub tree : tree_at p.nodes p.place ≡ t

pub put-new : (ns : List (Node ℤ)) (n : Node ℤ) → AreNodes ns → HasOperandsBelow (length ns) n → list_any (is_same n) ns ≡ false → AreNodes (ns ++ n ∷ [])
put-new ns n h b none = record {
  earlier = λ i m e. elim (at-push ns n m i e) [ inl k ↦ h.earlier i m k | inr k ↦ subst (λ z. HasOperandsBelow i z) (sym k.1) (subst (λ z. HasOperandsBelow z n) (sym k.0) b) ];
  different = λ i j m e f.
      let new = λ (k : ℕ) (g : slice_get ns k ≡ Some n). absurd {A = i ≡ j} (true≢false (sym (is_same-refl n) ∙ absent-all (is_same n) ns k n none g)) in
      elim (at-push ns n m i e) [
        | inl k ↦ elim (at-push ns n m j f) [ inl l ↦ h.different i j m k l | inr l ↦ new i (k ∙ ap Some l.1) ]
        | inr k ↦ elim (at-push ns n m j f) [ inl l ↦ new j (l ∙ ap Some k.1) | inr l ↦ k.0 ∙ sym l.0 ]
      ];
}

pub put-is : (ns : List (Node ℤ)) (n : Node ℤ) → AreNodes ns → HasOperandsBelow (length ns) n → IsPut ns (tree_over (trees ns) n) (put ns n)
put-is ns n h b = by (list_any (is_same n) ns) refl
  where
    by : (c : Bool) → list_any (is_same n) ns ≡ c → IsPut ns (tree_over (trees ns) n) (put ns n)
    by true e =
        let (m, at, same) = present-place (is_same n) ns e in
        let at' : slice_get ns (position_or_len (is_same n) ns) ≡ Some n = at ∙ ap Some (sym (is_same-is n m same)) in
        rw e (record { nodes = h; grows = Grows-same ns; inside = slice_get_within ns _ n at'; tree = tree_at-node ns _ n h.earlier at' })
    by false e =
        let p = absent-place (is_same n) ns e in
        rw (e, p) (record {
          nodes = put-new ns n h b e;
          grows = record { more = n ∷ []; is = refl };
          inside = omega (arith, length-push ns n);
          tree = tree_at-new ns n;
        })

-- the operands of a node that joins two trees
joined : (join : Poly ℤ → Poly ℤ → Poly ℤ) (node : ℕ → ℕ → Node ℤ) →
    ((ts : List (Poly ℤ)) (x y : ℕ) → tree_over ts (node x y) ≡ join (get_or ts x (number (pos 0))) (get_or ts y (number (pos 0)))) →
    ((i x y : ℕ) → x < i → y < i → HasOperandsBelow i (node x y)) →
    (ns : List (Node ℤ)) (a b : Poly ℤ) (p q : Placed) → IsPut ns a p → IsPut p.nodes b q → IsPut ns (join a b) (put q.nodes (node p.place q.place))
joined join node over below ns a b p q h k =
    let l : p.place < length q.nodes = omega (arith, h.inside, Grows-length p.nodes q.nodes k.grows) in
    let r = put-is q.nodes (node p.place q.place) k.nodes (below (length q.nodes) p.place q.place l k.inside) in
    record {
      nodes = r.nodes;
      grows = Grows-trans ns q.nodes _ (Grows-trans ns p.nodes q.nodes h.grows k.grows) r.grows;
      inside = r.inside;
      tree = r.tree ∙ over (trees q.nodes) p.place q.place ∙ (λ j. join ((Grows-tree p.nodes q.nodes p.place k.grows h.inside ∙ h.tree) j) (k.tree j));
    }

pub put_tree-is : (ns : List (Node ℤ)) (t : Poly ℤ) → AreNodes ns → IsPut ns t (put_tree ns t)
put_tree-is ns (number g) h = put-is ns (Num g) h tt
put_tree-is ns (cosine i) h = put-is ns (Cos i) h tt
put_tree-is ns (unknown i) h = put-is ns (Var i) h tt
put_tree-is ns (plus a b) h =
    let p = put_tree-is ns a h in
    joined plus Add (λ ts x y. refl) (λ i x y k l. (k, l)) ns a b (put_tree ns a) (put_tree (put_tree ns a).nodes b) p (put_tree-is (put_tree ns a).nodes b p.nodes)
put_tree-is ns (minus a b) h =
    let p = put_tree-is ns a h in
    joined minus Sub (λ ts x y. refl) (λ i x y k l. (k, l)) ns a b (put_tree ns a) (put_tree (put_tree ns a).nodes b) p (put_tree-is (put_tree ns a).nodes b p.nodes)
put_tree-is ns (times a b) h =
    let p = put_tree-is ns a h in
    joined times Mul (λ ts x y. refl) (λ i x y k l. (k, l)) ns a b (put_tree ns a) (put_tree (put_tree ns a).nodes b) p (put_tree-is (put_tree ns a).nodes b p.nodes)

-- rows

roots-more : (ns ms : List (Node ℤ)) (rs : List ℕ) (p : ℕ) → Grows ns ms → ((i r : ℕ) → slice_get rs i ≡ Some r → r < length ns) → p < length ms →
    (i r : ℕ) → slice_get (rs ++ p ∷ []) i ≡ Some r → r < length ms
roots-more ns ms rs p g h l i r e = elim (at-push rs p r i e) [ inl k ↦ omega (arith, h i r k, Grows-length ns ms g) | inr k ↦ omega (arith, k.1, l) ]

trees-more : (ns ms : List (Node ℤ)) (rs : List ℕ) → Grows ns ms → ((i r : ℕ) → slice_get rs i ≡ Some r → r < length ns) → map (tree_at ms) rs ≡ map (tree_at ns) rs
trees-more ns ms [] g h = refl
trees-more ns ms (r ∷ rs) g h = λ j. Grows-tree ns ms r g (h 0 r refl) j ∷ trees-more ns ms rs g (λ i. h (suc i)) j

starts-push : (from : ℕ) (ss : List ℕ) (n m : ℕ) → AreStarts from ss n → n ≤ m → AreStarts from (ss ++ n ∷ []) m
starts-push from [] n m h l = (h, l)
starts-push from (s ∷ ss) n m h l = (h.0, starts-push s ss n m h.1 l)

first-push : (ss : List ℕ) (n : ℕ) → ((s : ℕ) → slice_get ss 0 ≡ Some s → s ≡ 0) → (length ss ≡ 0 → n ≡ 0) → (s : ℕ) → slice_get (ss ++ n ∷ []) 0 ≡ Some s → s ≡ 0
first-push [] n h e s f = (let i : n ≡ s = cc in sym i) ∙ e refl
first-push (x ∷ xs) n h e s f = h s f

pub with_row-is : (t : PlainTape) (p : Poly ℤ) → IsTape t → IsTape (with_row t p)
with_row-is t p h =
    let q = put_tree-is t.nodes p h.nodes in
    record {
      nodes = q.nodes;
      roots = roots-more t.nodes _ t.roots (put_tree t.nodes p).place q.grows h.roots q.inside;
      starts = starts-push 0 t.starts (length t.nodes) _ h.starts (Grows-length t.nodes _ q.grows);
      first = first-push t.starts (length t.nodes) h.first (λ e. h.unless_empty (sym h.one_each ∙ e));
      one_each = omega (arith, h.one_each, length-push t.starts (length t.nodes), length-push t.roots (put_tree t.nodes p).place);
      unless_empty = λ e. absurd (omega (arith, e, length-push t.roots (put_tree t.nodes p).place));
    }

pub with_row-trees : (t : PlainTape) (p : Poly ℤ) → IsTape t → root_trees (with_row t p) ≡ root_trees t ++ p ∷ []
with_row-trees t p h =
    let q = put_tree-is t.nodes p h.nodes in
    let ms = (put_tree t.nodes p).nodes in
    map-append (tree_at ms) t.roots ((put_tree t.nodes p).place ∷ []) ∙ (λ j. trees-more t.nodes ms t.roots q.grows h.roots j ++ q.tree j ∷ [])

no_rows-is : IsTape no_rows
no_rows-is = record {
  nodes = record { earlier = λ i n e. absurd cc; different = λ i j n e f. absurd cc };
  roots = λ i r e. absurd cc;
  starts = omega arith;
  first = λ s e. absurd cc;
  one_each = refl;
  unless_empty = λ e. refl;
}

folded-is : (t : PlainTape) (ps : List (Poly ℤ)) → IsTape t → IsTape (fold with_row t ps)
folded-is t [] h = h
folded-is t (p ∷ ps) h = folded-is (with_row t p) ps (with_row-is t p h)

folded-trees : (t : PlainTape) (ps : List (Poly ℤ)) → IsTape t → root_trees (fold with_row t ps) ≡ root_trees t ++ ps
folded-trees t [] h = sym (append-nil (root_trees t))
folded-trees t (p ∷ ps) h = folded-trees (with_row t p) ps (with_row-is t p h) ∙ ap (λ z. z ++ ps) (with_row-trees t p h) ∙ append_assoc (root_trees t) (p ∷ []) ps

pub tape_of-is : (ps : List (Poly ℤ)) → IsTape (tape_of ps)
tape_of-is ps = folded-is no_rows ps no_rows-is

pub tape_of-trees : (ps : List (Poly ℤ)) → root_trees (tape_of ps) ≡ ps
tape_of-trees ps = folded-trees no_rows ps no_rows-is

-- starts rise
starts-le : (from : ℕ) (ss : List ℕ) (n : ℕ) → AreStarts from ss n → from ≤ n
starts-le from [] n h = h
starts-le from (s ∷ ss) n h = omega (arith, h.0, starts-le s ss n h.1)

pub starts-at : (from : ℕ) (ss : List ℕ) (n i : ℕ) → AreStarts from ss n → i < length ss → (get_or ss i 0 ≤ get_or ss (i + 1) n) × (get_or ss (i + 1) n ≤ n)
starts-at from [] n i h l = absurd (omega (arith, l))
starts-at from (s ∷ []) n zero h l = (h.1, omega arith)
starts-at from (s ∷ t ∷ ss) n zero h l = (h.1.0, starts-le t ss n h.1.1)
starts-at from (s ∷ ss) n (suc i) h l =
    let q : suc i + 1 ≡ suc (i + 1) = omega arith in
    rw q (starts-at s ss n i h.1 (omega (arith, l)))

pub part_end-is : (t : PlainTape) (r : ℕ) → IsTape t → r < length t.roots → (get_or t.starts r 0 ≤ part_end t r) × (part_end t r ≤ length t.nodes)
part_end-is t r h l = starts-at 0 t.starts (length t.nodes) r h.starts (omega (arith, l, h.one_each))

pub root-inside : (t : PlainTape) (r : ℕ) → IsTape t → r < length t.roots → get_or t.roots r 0 < length t.nodes
root-inside t r h l = h.roots r _ (slice_get-get_or t.roots r 0 l)

-- ---- parts

any-default : (xs : List ℕ) (i d e : ℕ) → i < length xs → get_or xs i d ≡ get_or xs i e
any-default [] i d e l = absurd (omega (arith, l))
any-default (x ∷ xs) zero d e l = refl
any-default (x ∷ xs) (suc i) d e l = any-default xs i d e (omega (arith, l))

taken-on : (ns : List (Node ℤ)) (a b : ℕ) → a ≤ b → take a ns ++ take (b - a) (drop a ns) ≡ take b ns
taken-on ns a b h =
    let e : a + (b - a) ≡ b = omega (arith, h) in
    (λ j. sym (take-take a b ns h) j ++ (sym (drop-take a (b - a) ns) ∙ ap (λ k. drop a (take k ns)) e) j) ∙ take-append-drop a (take b ns)

first-start : (ss : List ℕ) (n : ℕ) → ((s : ℕ) → slice_get ss 0 ≡ Some s → s ≡ 0) → (length ss ≡ 0 → n ≡ 0) → get_or ss 0 n ≡ 0
first-start [] n h e = e refl
first-start (s ∷ ss) n h e = h s refl

pub parts_to-is : (t : PlainTape) (r : ℕ) → IsTape t → r ≤ length t.roots → parts_to t r ≡ take (get_or t.starts r (length t.nodes)) t.nodes
parts_to-is t zero h l =
    let e = first-start t.starts (length t.nodes) h.first (λ z. h.unless_empty (sym h.one_each ∙ z)) in
    ap (λ k. take k t.nodes) (sym e)
parts_to-is t (suc r) h l =
    let inside : r < length t.starts = omega (arith, l, h.one_each) in
    let d = any-default t.starts r (length t.nodes) 0 inside in
    let rising = (starts-at 0 t.starts (length t.nodes) r h.starts inside).0 in
    let next : r + 1 ≡ suc r = omega arith in
    (λ j. (parts_to-is t r h (omega (arith, l)) ∙ ap (λ k. take k t.nodes) d) j ++ part t r)
    ∙ taken-on t.nodes (get_or t.starts r 0) (part_end t r) rising
    ∙ ap (λ k. take (get_or t.starts k (length t.nodes)) t.nodes) next

past-end : (xs : List ℕ) (i d : ℕ) → length xs ≤ i → get_or xs i d ≡ d
past-end [] i d l = refl
past-end (x ∷ xs) zero d l = absurd (omega (arith, l))
past-end (x ∷ xs) (suc i) d l = past-end xs i d (omega (arith, l))

whole : (ns : List (Node ℤ)) → take (length ns) ns ≡ ns
whole [] = refl
whole (n ∷ ns) = let e : length (n ∷ ns) ≡ suc (length ns) = omega arith in ap (λ k. take k (n ∷ ns)) e ∙ ap (λ (l : List (Node ℤ)). n ∷ l) (whole ns)

-- the parts of all rows, joined in order, are all nodes
pub parts-joined : (t : PlainTape) → IsTape t → parts_to t (length t.roots) ≡ t.nodes
parts-joined t h =
    let e : get_or t.starts (length t.roots) (length t.nodes) ≡ length t.nodes = past-end t.starts (length t.roots) (length t.nodes) (omega (arith, h.one_each)) in
    parts_to-is t (length t.roots) h (omega arith) ∙ ap (λ k. take k t.nodes) e ∙ whole t.nodes
