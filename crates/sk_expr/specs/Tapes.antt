-- A tape: the nodes of trees, each once. An operand is the place of an earlier node.
use Rattle.std.specs.Prelude.{◌≡◌, ◌==◌, ℕ, zero, suc, ◌+◌, ◌-◌, ◌<◌, ◌≤◌, take, drop, ℤ, pos, map, Bool, false, ◌&&◌, List, [], ◌∷◌, ◌++◌, length, get_or, slice_get, Some, if◌then◌else◌}
use Rattle.std.specs.Ordering.{int_eq}
use Rattle.std.specs.List.{list_any, position_or_len, fold}
use Rattle.sk_expr.specs.Poly.{Poly, number, cosine, unknown, plus, minus, times}
use Rattle.sk_expr.specs.declared.node.Node.{Node}
use Rattle.sk_expr.specs.declared.tape.Tape.{Tape}
use Rattle.sk_expr.specs.declared.node.Node.TheVariants.{Num, Cos, Var, Add, Sub, Mul}

-- the tree of a node over the trees of the earlier ones
abbrev pub tree_over : List (Poly ℤ) → Node ℤ → Poly ℤ
tree_over ts (Num g) = number g
tree_over ts (Cos i) = cosine i
tree_over ts (Var i) = unknown i
tree_over ts (Add a b) = plus (get_or ts a (number (pos 0))) (get_or ts b (number (pos 0)))
tree_over ts (Sub a b) = minus (get_or ts a (number (pos 0))) (get_or ts b (number (pos 0)))
tree_over ts (Mul a b) = times (get_or ts a (number (pos 0))) (get_or ts b (number (pos 0)))

-- the trees ts of the first nodes, and then those of the nodes ns, which stand behind them
abbrev pub trees_from : List (Poly ℤ) → List (Node ℤ) → List (Poly ℤ)
trees_from ts [] = ts
trees_from ts (n ∷ ns) = trees_from (ts ++ tree_over ts n ∷ []) ns

-- the tree of each node, and that of the node at a place
abbrev pub trees : List (Node ℤ) → List (Poly ℤ)
trees ns = trees_from [] ns

abbrev pub tree_at : List (Node ℤ) → ℕ → Poly ℤ
tree_at ns i = get_or (trees ns) i (number (pos 0))

-- whether two nodes are equal
abbrev pub is_same : Node ℤ → Node ℤ → Bool
is_same (Num g) (Num h) = int_eq g h
is_same (Cos i) (Cos j) = i == j
is_same (Var i) (Var j) = i == j
is_same (Add a b) (Add c d) = (a == c) && (b == d)
is_same (Sub a b) (Sub c d) = (a == c) && (b == d)
is_same (Mul a b) (Mul c d) = (a == c) && (b == d)
is_same m n = false

-- nodes, and the place of one among them
pub record Placed : Type 0 where
  pub nodes : List (Node ℤ)
  pub place : ℕ

-- a node stands where an equal one stands, or else it is put last
abbrev pub put : List (Node ℤ) → Node ℤ → Placed
put ns n = record { nodes = if list_any (is_same n) ns then ns else ns ++ n ∷ []; place = position_or_len (is_same n) ns }

-- the left operand comes first, then the right one, then the node itself
abbrev pub put_tree : List (Node ℤ) → Poly ℤ → Placed
put_tree ns (number g) = put ns (Num g)
put_tree ns (cosine i) = put ns (Cos i)
put_tree ns (unknown i) = put ns (Var i)
put_tree ns (plus a b) = let p = put_tree ns a in let q = put_tree p.nodes b in put q.nodes (Add p.place q.place)
put_tree ns (minus a b) = let p = put_tree ns a in let q = put_tree p.nodes b in put q.nodes (Sub p.place q.place)
put_tree ns (times a b) = let p = put_tree ns a in let q = put_tree p.nodes b in put q.nodes (Mul p.place q.place)

-- a tape as plain lists
pub record PlainTape : Type 0 where
  pub nodes : List (Node ℤ)
  pub roots : List ℕ
  pub starts : List ℕ

abbrev pub plain_of : List (Node ℤ) → List ℕ → List ℕ → PlainTape
plain_of ns rs ss = record { nodes = ns; roots = rs; starts = ss }

abbrev pub plain_tape : {s : ℕ} → Tape s → PlainTape
plain_tape t = record { nodes = t.nodes; roots = t.roots; starts = t.starts }

abbrev pub with_row : PlainTape → Poly ℤ → PlainTape
with_row p t = let q = put_tree p.nodes t in record { nodes = q.nodes; roots = p.roots ++ q.place ∷ []; starts = p.starts ++ length p.nodes ∷ [] }

abbrev pub no_rows : PlainTape
no_rows = record { nodes = []; roots = []; starts = [] }

-- the tape of the rows ts, added in order
abbrev pub tape_of : List (Poly ℤ) → PlainTape
tape_of ts = fold with_row no_rows ts

-- the operands of a node are places below i
abbrev pub HasOperandsBelow : ℕ → Node ℤ → Type 0
HasOperandsBelow i (Num g) = Unit {0}
HasOperandsBelow i (Cos k) = Unit {0}
HasOperandsBelow i (Var k) = Unit {0}
HasOperandsBelow i (Add a b) = (a < i) × (b < i)
HasOperandsBelow i (Sub a b) = (a < i) × (b < i)
HasOperandsBelow i (Mul a b) = (a < i) × (b < i)

-- each operand is the place of an earlier node
abbrev pub AreEarlier : List (Node ℤ) → Type 0
AreEarlier ns = (i : ℕ) (n : Node ℤ) → slice_get ns i ≡ Some n → HasOperandsBelow i n

-- and no two nodes are equal
pub record AreNodes (ns : List (Node ℤ)) : Type 0 where
  pub earlier : AreEarlier ns
  pub different : (i j : ℕ) (n : Node ℤ) → slice_get ns i ≡ Some n → slice_get ns j ≡ Some n → i ≡ j

-- the starts rise from 0 to at most n, weakly
abbrev pub AreStarts : ℕ → List ℕ → ℕ → Type 0
AreStarts from [] n = from ≤ n
AreStarts from (s ∷ ss) n = (from ≤ s) × AreStarts s ss n

-- the form of a tape: one start for each root, the first 0, and no node without a root
pub record IsTape (t : PlainTape) : Type 0 where
  pub nodes : AreNodes t.nodes
  pub roots : (i r : ℕ) → slice_get t.roots i ≡ Some r → r < length t.nodes
  pub starts : AreStarts 0 t.starts (length t.nodes)
  pub first : (s : ℕ) → slice_get t.starts 0 ≡ Some s → s ≡ 0
  pub one_each : length t.starts ≡ length t.roots
  pub unless_empty : length t.roots ≡ 0 → length t.nodes ≡ 0

-- the tree of a row
abbrev pub row_tree : PlainTape → ℕ → Poly ℤ
row_tree t r = tree_at t.nodes (get_or t.roots r 0)

-- the trees of the roots: the rows that the tape stands for
abbrev pub root_trees : PlainTape → List (Poly ℤ)
root_trees t = map (tree_at t.nodes) t.roots

-- the nodes that a row added: from its start to the next one, or to the end
abbrev pub part_end : PlainTape → ℕ → ℕ
part_end t r = get_or t.starts (r + 1) (length t.nodes)

abbrev pub part : PlainTape → ℕ → List (Node ℤ)
part t r = take (part_end t r - get_or t.starts r 0) (drop (get_or t.starts r 0) t.nodes)

-- the parts of the first rows, joined
abbrev pub parts_to : PlainTape → ℕ → List (Node ℤ)
parts_to t zero = []
parts_to t (suc r) = parts_to t r ++ part t r
