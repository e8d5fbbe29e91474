-- Lists of columns in rising order, and those that occur in a polynomial.
use Rattle.std.specs.Prelude.{ℕ, ◌≤◌, ◌+◌, ◌==◌, ℤ, Bool, true, nat_lt, nat_le, ◌&&◌, List, [], ◌∷◌, if◌then◌else◌}
use Rattle.std.specs.List.{list_any}
use Rattle.sk_expr.specs.Poly.{Poly, number, cosine, unknown, plus, minus, times}

abbrev pub is_among : List ℕ → ℕ → Bool
is_among ks c = list_any (λ k. k == c) ks

-- each is greater than the one before it, and the first at least n
abbrev pub RisesFrom : ℕ → List ℕ → Type 0
RisesFrom n [] = Unit {0}
RisesFrom n (k ∷ ks) = (n ≤ k) × RisesFrom (k + 1) ks

abbrev pub rises_from : ℕ → List ℕ → Bool
rises_from n [] = true
rises_from n (k ∷ ks) = nat_le n k && rises_from (k + 1) ks

-- k before ks, united with the last argument, where `rest` unites ks with a list
abbrev pub unite_after : ℕ → (List ℕ → List ℕ) → List ℕ → List ℕ
unite_after k rest [] = k ∷ rest []
unite_after k rest (l ∷ ls) = if nat_lt k l then k ∷ rest (l ∷ ls) else if nat_lt l k then l ∷ unite_after k rest ls else k ∷ rest ls

-- two rising lists as one
abbrev pub united : List ℕ → List ℕ → List ℕ
united [] ls = ls
united (k ∷ ks) ls = unite_after k (united ks) ls

-- the listed columns that occur in a polynomial, rising
abbrev pub columns_in : (ℕ → Bool) → Poly ℤ → List ℕ
columns_in listed (number g) = []
columns_in listed (cosine i) = []
columns_in listed (unknown i) = if listed i then i ∷ [] else []
columns_in listed (plus a b) = united (columns_in listed a) (columns_in listed b)
columns_in listed (minus a b) = united (columns_in listed a) (columns_in listed b)
columns_in listed (times a b) = united (columns_in listed a) (columns_in listed b)
