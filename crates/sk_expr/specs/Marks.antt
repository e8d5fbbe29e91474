-- Marks on the nodes of a tape that are evaluated: with a node its operands.
use Rattle.std.specs.Prelude.{◌≡◌, ℕ, ℤ, Bool, true, false, List, length, get_or, slice_get, slice_set, Some}
use Rattle.sk_expr.specs.declared.node.Node.{Node}
use Rattle.sk_expr.specs.declared.node.Node.TheVariants.{Num, Cos, Var, Add, Sub, Mul}

abbrev pub is_marked : List Bool → ℕ → Bool
is_marked ms i = get_or ms i false

abbrev pub HasOperandsMarked : List Bool → Node ℤ → Type 0
HasOperandsMarked ms (Num g) = Unit {0}
HasOperandsMarked ms (Cos i) = Unit {0}
HasOperandsMarked ms (Var i) = Unit {0}
HasOperandsMarked ms (Add a b) = (is_marked ms a ≡ true) × (is_marked ms b ≡ true)
HasOperandsMarked ms (Sub a b) = (is_marked ms a ≡ true) × (is_marked ms b ≡ true)
HasOperandsMarked ms (Mul a b) = (is_marked ms a ≡ true) × (is_marked ms b ≡ true)

-- each node has a mark of its own, set or not, and the operands of a marked node are marked
pub record AreMarks (ns : List (Node ℤ)) (ms : List Bool) : Type 0 where
  pub long : length ms ≡ length ns
  pub operands : (i : ℕ) (n : Node ℤ) → slice_get ns i ≡ Some n → is_marked ms i ≡ true → HasOperandsMarked ms n

-- marks with those of a node's operands set
abbrev pub with_operands : List Bool → Node ℤ → List Bool
with_operands ms (Num g) = ms
with_operands ms (Cos i) = ms
with_operands ms (Var i) = ms
with_operands ms (Add a b) = slice_set (slice_set ms a true) b true
with_operands ms (Sub a b) = slice_set (slice_set ms a true) b true
with_operands ms (Mul a b) = slice_set (slice_set ms a true) b true
