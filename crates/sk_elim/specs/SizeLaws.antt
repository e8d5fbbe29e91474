-- The inverse has a row for each solved column, and in each a cell for each retained row.
use Rattle.std.proofs.Common.{◌≡◌, ◌+◌, ℕ, List, [], ◌∷◌, length, map, ℤ, Option, Some, Ok, Result, refl, subst}
use Rattle.std.specs.Prelude.{option_map}
use Rattle.std.specs.List.{All, filter, range_with_len}
use Rattle.std.proofs.lemmas.List.Elements.{All-nil, All-cons}
use Rattle.sk_num.specs.Ends.{Ends, mid}
use Rattle.sk_num.specs.Each.{each_some}
use Rattle.sk_num.specs.EachLaws.{cons-some, each_some-length}
use Rattle.sk_num.specs.Rounding.{rounded_quotient}
use Rattle.sk_elim.specs.EliminationLaws.{and_then-ok, or_past_limit-ok, map-some}
use Rattle.sk_elim.specs.Elimination.{Halt, Progress, Elimination, and_then, or_past_limit, elimination_of, finished, inverse_row, augmented, eliminate, cell_at, pivot_row, has_column, has_row, steps, free_step, forced_step, greatest_cell}

pub record HasSizes (e : Elimination) : Type 0 where
  pub rows : length e.inverse ≡ length e.solved
  pub cells : All (λ (us : List ℤ). length us ≡ length e.retained) e.inverse

some_nil : {A : Type 0} (ys : List A) → Some [] ≡ Some ys → ys ≡ []
some_nil ys e = cc

-- each list that a function gives has the one length
all_long : {A : Type 0} (f : A → Option (List ℤ)) (n : ℕ) → ((x : A) (us : List ℤ) → f x ≡ Some us → length us ≡ n) → (xs : List A) (ys : List (List ℤ)) → each_some f xs ≡ Some ys → All (λ (us : List ℤ). length us ≡ n) ys
all_long f n k [] ys h = rw (some_nil ys h) (All-nil (λ (us : List ℤ). length us ≡ n))
all_long f n k (x ∷ xs) ys h =
    let (y, zs, a, r, e) = cons-some (f x) (each_some f xs) ys h in
    rw e (All-cons (λ (us : List ℤ). length us ≡ n) y zs (k x y a) (all_long f n k xs zs r))

row-length : (s columns : ℕ) (w : Progress) (retained : List ℕ) (c : ℕ) (us : List ℤ) → inverse_row s columns w retained c ≡ Some us → length us ≡ length retained
row-length s columns w retained c us h =
    let r = pivot_row c w.pivots in
    each_some-length (λ k. rounded_quotient s (cell_at w.rows r (columns + k)) (cell_at w.rows r c)) retained us h

finished-sizes : (s count columns params : ℕ) (w : Progress) (e : Elimination) → finished s count columns params w ≡ Ok e → HasSizes e
finished-sizes s count columns params w e h =
    let retained = filter (λ r. has_row r w.pivots) (range_with_len 0 count) in
    let solved = filter (λ c. has_column c w.pivots) (range_with_len 0 columns) in
    let o = or_past_limit-ok (option_map (elimination_of w params solved retained) (each_some (inverse_row s columns w retained) solved)) e h in
    let (y, u, z) = map-some (elimination_of w params solved retained) (each_some (inverse_row s columns w retained) solved) e o in
    subst HasSizes z (record {
      rows = each_some-length (inverse_row s columns w retained) solved y u;
      cells = all_long (inverse_row s columns w retained) (length retained) (row-length s columns w retained) solved y u;
    })

pub eliminate-sizes : (s columns params : ℕ) (forced : List (ℕ × ℕ)) (slopes : List (List Ends)) (e : Elimination) → eliminate s columns params forced slopes ≡ Ok e → HasSizes e
eliminate-sizes s columns params forced slopes e h =
    let a = map (map mid) slopes in
    let tops = map greatest_cell a in
    let n = length a in
    let (w, i, k) = and_then-ok (finished s n columns params)
    (and_then (λ w. steps (free_step s tops params forced) w (range_with_len 0 n)) (steps (forced_step s tops) (augmented s a) forced)) e h in
    finished-sizes s n columns params w e k
