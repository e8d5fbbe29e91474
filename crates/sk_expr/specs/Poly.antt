-- A polynomial in unknowns and cosines, as plain data: what a tree spells, without its places in memory.
use Rattle.std.specs.Prelude.{ℕ, ◌+◌, ◌<◌, ◌==◌, max, Bool, false, ◌||◌}

-- the unknown and the cosine are named by their place in the lists of the system
pub data Poly (G : Type 0) : Type 0 where
  number : G → Poly G
  cosine : ℕ → Poly G
  unknown : ℕ → Poly G
  plus : Poly G → Poly G → Poly G
  minus : Poly G → Poly G → Poly G
  times : Poly G → Poly G → Poly G

-- a leaf has degree 1, a sum or difference the greater degree, a product the sum of both
abbrev pub degree : {G : Type 0} → Poly G → ℕ
degree (number g) = 1
degree (cosine i) = 1
degree (unknown i) = 1
degree (plus a b) = max (degree a) (degree b)
degree (minus a b) = max (degree a) (degree b)
degree (times a b) = degree a + degree b

-- every place is below the number of unknowns, or of cosines
abbrev pub IsInRange : {G : Type 0} → ℕ → ℕ → Poly G → Type 0
IsInRange u c (number g) = Unit {0}
IsInRange u c (cosine i) = i < c
IsInRange u c (unknown i) = i < u
IsInRange u c (plus a b) = IsInRange u c a × IsInRange u c b
IsInRange u c (minus a b) = IsInRange u c a × IsInRange u c b
IsInRange u c (times a b) = IsInRange u c a × IsInRange u c b

-- whether the unknown c stands in a polynomial
abbrev pub occurs : {G : Type 0} → ℕ → Poly G → Bool
occurs c (number g) = false
occurs c (cosine i) = false
occurs c (unknown i) = i == c
occurs c (plus a b) = occurs c a || occurs c b
occurs c (minus a b) = occurs c a || occurs c b
occurs c (times a b) = occurs c a || occurs c b

-- how many numbers, cosines and unknowns stand in a polynomial, each as often as it stands there
abbrev pub leaves : {G : Type 0} → Poly G → ℕ
leaves (number g) = 1
leaves (cosine i) = 1
leaves (unknown i) = 1
leaves (plus a b) = leaves a + leaves b
leaves (minus a b) = leaves a + leaves b
leaves (times a b) = leaves a + leaves b

-- how many nodes a polynomial has as a tree, each as often as it stands there
abbrev pub nodes_in : {G : Type 0} → Poly G → ℕ
nodes_in (number g) = 1
nodes_in (cosine i) = 1
nodes_in (unknown i) = 1
nodes_in (plus a b) = nodes_in a + nodes_in b + 1
nodes_in (minus a b) = nodes_in a + nodes_in b + 1
nodes_in (times a b) = nodes_in a + nodes_in b + 1
