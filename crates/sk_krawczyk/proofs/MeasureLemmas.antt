-- The numbers and conditions of the test over a box, from what is stored.
use Rattle.std.proofs.Common.{◌≡◌, ℕ, zero, suc, ◌<◌, ◌≤◌, ◌+◌, ◌-◌, ◌*◌, ◌^◌, arith, refl, ap, sym, ◌∙◌, List, [], ◌∷◌, length, map, get_or, ℤ, pos, ◌*ℤ◌, Option, Some, None, Bool, true, false, ◌&&◌}
use Rattle.std.specs.Prelude.{unsigned_abs, nat_le, slice_get, is_some, option_map}
use Rattle.std.specs.List.{All, list_all, range_with_len}
use Rattle.std.proofs.lemmas.Bool.{le-leb}
use Rattle.std.proofs.lemmas.Option.{slice_get-get_or, slice_get-map}
use Rattle.std.proofs.lemmas.List.Elements.{All-head, All-tail}
use Rattle.std.proofs.lemmas.List.FromFn.{length-range_with_len}
use Rattle.sk_num.specs.Sums.{unit_at, total_to-same}
use Rattle.sk_num.specs.Ends.{Ends, point, span_sub, span_mul}
use Rattle.sk_expr.specs.System.{SystemAt}
use Rattle.sk_num.specs.EachLaws.{each_some-at, each_some-length}
use Rattle.sk_matrix.specs.Matrix.{of_both, mag_or, points, all_to, is_whole}
use Rattle.sk_matrix.specs.Cells.{table, number_cell, span_cell}
use Rattle.sk_matrix.specs.TableLaws.{all_to-holds, is_whole-holds, is_whole-fails, cells-of_table, table-at, table-none}
use Rattle.std.specs.List.{Contains}
use Rattle.sk_krawczyk.specs.Box.{Basis, square_system, newton_step, box, slope_over, left_rest, right_rest}
use Rattle.sk_krawczyk.specs.IntervalTest.{radius_at, is_computed, are_near, is_step_small, is_left_small, is_right_small, are_lengths_positive, rows_within, rows_small, newton_steps}
use Rattle.sk_krawczyk.specs.ContractingBox.{left_of, right_of}
use Rattle.sk_krawczyk.specs.StoredBox.{are_ends_in, box_from, is_length_positive}
use Rattle.sk_krawczyk.specs.RowReadings.{row_slope}
use Rattle.sk_krawczyk.proofs.NewtonLemmas.{span_sum-same}
use Rattle.sk_krawczyk.proofs.RestLemmas.{all_to-same, first-fails, second-fails}
use Rattle.sk_krawczyk.proofs.ReadLemmas.{range-at}

pub sizes-at : (xs : List ℤ) (j : ℕ) → get_or (map unsigned_abs xs) j 0 ≡ unsigned_abs (get_or xs j (pos 0))
sizes-at [] j = refl
sizes-at (x ∷ xs) zero = refl
sizes-at (x ∷ xs) (suc j) = sizes-at xs j

pub box_from-length : (solved : List ℕ) (radii : List ℤ) (c : ℕ) (xs : List ℤ) → length (box_from solved radii c xs) ≡ length xs
box_from-length solved radii c [] = refl
box_from-length solved radii c (x ∷ xs) = ap suc (box_from-length solved radii (c + 1) xs)

-- the radii as a function of places
pub radii-same : (xs : List ℤ) → radius_at (map unsigned_abs xs) ≡ (λ j. unsigned_abs (get_or xs j (pos 0)))
radii-same xs = λ i j. sizes-at xs j i

pub near-all : (s : ℕ) (xs : List ℤ) → All (λ r. unsigned_abs r ≤ 2 ^ (s - 10)) xs → are_near s (map unsigned_abs xs) ≡ true
near-all s [] h = refl
near-all s (x ∷ xs) h =
    let a = le-leb (unsigned_abs x) (2 ^ (s - 10)) (All-head (λ r. unsigned_abs r ≤ 2 ^ (s - 10)) x xs h) in
    let b = near-all s xs (All-tail (λ r. unsigned_abs r ≤ 2 ^ (s - 10)) x xs h) in
    rw (a, b) refl

-- ---- tests of equal cells

whole-same : (m n : ℕ) (f g : ℕ → ℕ → Option Ends) → ((i k : ℕ) → i < m → k < n → f i k ≡ g i k) → is_whole m n f ≡ is_whole m n g
whole-same m n f g h = all_to-same m _ _ (λ i l. all_to-same n _ _ (λ k o. ap is_some (h i k l o)))

within-equal : (s n : ℕ) (radius : ℕ → ℕ) (f g : ℕ → ℕ → Option Ends) → ((i k : ℕ) → i < n → k < n → f i k ≡ g i k) → rows_within s n radius f ≡ rows_within s n radius g
within-equal s n radius f g h = all_to-same n _ _ (λ i l. ap (λ t. nat_le t (2 ^ (s - 1) * radius i)) (total_to-same n _ _ (λ k o. ap (λ o. mag_or o * radius k) (h i k l o))))

small-equal : (s n : ℕ) (f g : ℕ → ℕ → Option Ends) → ((i k : ℕ) → i < n → k < n → f i k ≡ g i k) → rows_small s n n f ≡ rows_small s n n g
small-equal s n f g h = all_to-same n _ _ (λ i l. ap (λ t. nat_le t (2 ^ (s - 1))) (total_to-same n _ _ (λ k o. ap mag_or (h i k l o))))

pub regroup : (near step left right lengths : Bool) → near ≡ true → ((step && (left && right)) && lengths) ≡ ((((near && step) && left) && right) && lengths)
regroup near true true right lengths h = rw h refl
regroup near true false right lengths h = rw h refl
regroup near false left right lengths h = rw h refl

pub met-is : (met inside are contracting step left right : Bool) (near s l r len : Bool) → met ≡ (inside && are) → inside ≡ (step && contracting) → contracting ≡ (left && right) →
    step ≡ s → left ≡ l → right ≡ r → are ≡ len → near ≡ true → met ≡ ((((near && s) && l) && r) && len)
met-is met inside are contracting step left right near s l r len a b c d e f g h =
    a ∙ ap (λ x. x && are) b ∙ ap (λ x. (step && x) && are) c ∙ ap (λ x. (x && (left && right)) && are) d ∙ ap (λ x. (s && (x && right)) && are) e
    ∙ ap (λ x. (s && (l && x)) && are) f ∙ ap (λ x. (s && (l && r)) && x) g ∙ regroup near s l r len h

pub both-fail : (x y a b : Bool) → x ≡ a → y ≡ b → (x && y) ≡ false → (a && b) ≡ false
both-fail x y a b p q h = sym (ap (λ z. z && y) p ∙ ap (λ z. a && z) q) ∙ h

module _ (s : ℕ) (v : SystemAt) (b : Basis) (radii : List ℤ) where
  pub box-stored : box_from b.solved radii 0 v.unknowns ≡ box (square_system v b) (radius_at (map unsigned_abs radii))
  box-stored = ap (λ (radius : ℕ → ℕ). box (square_system v b) radius) (sym (radii-same radii))

  pub slopes-stored : (over : List Ends) → over ≡ box_from b.solved radii 0 v.unknowns → length b.retained ≡ length b.solved →
      table (length b.retained) (length b.solved) (row_slope s over v.cosines v.rows b.retained b.solved) ≡ table (length b.solved) (length b.solved) (slope_over s (square_system v b) (radius_at (map unsigned_abs radii)))
  slopes-stored over e m =
      ap (λ (o : List Ends). table (length b.retained) (length b.solved) (row_slope s o v.cosines v.rows b.retained b.solved)) (e ∙ box-stored)
      ∙ ap (λ k. table k (length b.solved) (slope_over s (square_system v b) (radius_at (map unsigned_abs radii)))) m

  module _ (cells : List Ends) (stored : map (λ e. Some e) cells ≡ table (length b.solved) (length b.solved) (slope_over s (square_system v b) (radius_at (map unsigned_abs radii)))) where
    cell-is : (i k : ℕ) → i < length b.solved → k < length b.solved → span_cell (length b.solved) cells i k ≡ slope_over s (square_system v b) (radius_at (map unsigned_abs radii)) i k
    cell-is i k l o = cells-of_table (length b.solved) (length b.solved) (slope_over s (square_system v b) (radius_at (map unsigned_abs radii))) cells stored i k l o

    left-same : (i k : ℕ) → i < length b.solved → k < length b.solved → left_of s (length b.solved) (length b.solved) b.inverse cells i k ≡ left_rest s (square_system v b) (radius_at (map unsigned_abs radii)) i k
    left-same i k l o =
        ap (λ x. of_both span_sub (Some (point (unit_at i k *ℤ pos (2 ^ s)))) x)
        (span_sum-same (length b.solved) _ _ (λ j p. ap (λ x. of_both (span_mul s) (points (number_cell (length b.solved) b.inverse) i j) x) (cell-is j k p o)))

    right-same : (i k : ℕ) → i < length b.solved → k < length b.solved → right_of s (length b.solved) (length b.solved) b.inverse cells i k ≡ right_rest s (square_system v b) (radius_at (map unsigned_abs radii)) i k
    right-same i k l o =
        ap (λ x. of_both span_sub (Some (point (unit_at i k *ℤ pos (2 ^ s)))) x)
        (span_sum-same (length b.solved) _ _ (λ j p. ap (λ x. of_both (span_mul s) x (points (number_cell (length b.solved) b.inverse) j k)) (cell-is i j l p)))

    -- what is whole, and the conditions on the slopes, over sizes that all are the number of solved columns
    pub left-whole : (a m d : ℕ) → a ≡ length b.solved → m ≡ length b.solved → d ≡ length b.solved →
        is_whole a d (left_of s m d b.inverse cells) ≡ is_whole (length b.solved) (length b.solved) (left_rest s (square_system v b) (radius_at (map unsigned_abs radii)))
    left-whole a m d p q w =
        ap (λ k. is_whole k d (left_of s m d b.inverse cells)) p ∙ ap (λ k. is_whole (length b.solved) d (left_of s k d b.inverse cells)) q
        ∙ ap (λ k. is_whole (length b.solved) k (left_of s (length b.solved) k b.inverse cells)) w
        ∙ whole-same (length b.solved) (length b.solved) _ _ left-same

    pub right-whole : (a m d : ℕ) → a ≡ length b.solved → m ≡ length b.solved → d ≡ length b.solved →
        is_whole a m (right_of s m d b.inverse cells) ≡ is_whole (length b.solved) (length b.solved) (right_rest s (square_system v b) (radius_at (map unsigned_abs radii)))
    right-whole a m d p q w =
        ap (λ k. is_whole k m (right_of s m d b.inverse cells)) p ∙ ap (λ k. is_whole (length b.solved) k (right_of s k d b.inverse cells)) q
        ∙ ap (λ k. is_whole (length b.solved) (length b.solved) (right_of s (length b.solved) k b.inverse cells)) w
        ∙ whole-same (length b.solved) (length b.solved) _ _ right-same

    pub left-small : (m d : ℕ) → m ≡ length b.solved → d ≡ length b.solved →
        rows_within s d (λ k. unsigned_abs (get_or radii k (pos 0))) (left_of s m d b.inverse cells) ≡ is_left_small s (square_system v b) (radius_at (map unsigned_abs radii))
    left-small m d q w =
        ap (λ k. rows_within s d (λ k. unsigned_abs (get_or radii k (pos 0))) (left_of s k d b.inverse cells)) q
        ∙ ap (λ k. rows_within s k (λ k. unsigned_abs (get_or radii k (pos 0))) (left_of s (length b.solved) k b.inverse cells)) w
        ∙ ap (λ (g : ℕ → ℕ). rows_within s (length b.solved) g (left_of s (length b.solved) (length b.solved) b.inverse cells)) (sym (radii-same radii))
        ∙ within-equal s (length b.solved) (radius_at (map unsigned_abs radii)) _ _ left-same

    pub right-small : (a m d : ℕ) → a ≡ length b.solved → m ≡ length b.solved → d ≡ length b.solved →
        rows_small s a m (right_of s m d b.inverse cells) ≡ is_right_small s (square_system v b) (radius_at (map unsigned_abs radii))
    right-small a m d p q w =
        ap (λ k. rows_small s k m (right_of s m d b.inverse cells)) p ∙ ap (λ k. rows_small s (length b.solved) k (right_of s k d b.inverse cells)) q
        ∙ ap (λ k. rows_small s (length b.solved) (length b.solved) (right_of s (length b.solved) k b.inverse cells)) w
        ∙ small-equal s (length b.solved) _ _ right-same

    slopes-whole : is_whole (length b.solved) (length b.solved) (slope_over s (square_system v b) (radius_at (map unsigned_abs radii))) ≡ true
    slopes-whole =
        is_whole-holds (length b.solved) (length b.solved) (slope_over s (square_system v b) (radius_at (map unsigned_abs radii)))
        (λ i j l o. there (slice_get cells (i * length b.solved + j)) (slope_over s (square_system v b) (radius_at (map unsigned_abs radii)) i j)
        (sym (slice_get-map (λ (e : Ends). Some e) cells (i * length b.solved + j)) ∙ ap (λ xs. slice_get xs (i * length b.solved + j)) stored
        ∙ table-at (length b.solved) (length b.solved) i j (slope_over s (square_system v b) (radius_at (map unsigned_abs radii))) l o))
      where
        there : (o x : Option Ends) → option_map (λ e. Some e) o ≡ Some x → is_some x ≡ true
        there None x h = absurd cc
        there (Some e) x h = let z : Some e ≡ x = cc in ap is_some (sym z)

  -- ---- Newton's step

  module _ (step : List Ends) (stepped : newton_steps s v b ≡ Some step) where
    pub step-length : length step ≡ length b.solved
    step-length = each_some-length (newton_step s (square_system v b)) (range_with_len 0 (length b.solved)) step stepped ∙ length-range_with_len 0 (length b.solved)

    step-at : (j : ℕ) → j < length b.solved → newton_step s (square_system v b) j ≡ slice_get step j
    step-at j l =
        let i : j < length step = omega (arith, l, step-length) in
        let g = slice_get-get_or step j (point (pos 0)) i in
        ap (newton_step s (square_system v b)) (sym (range-at (length b.solved) j l))
        ∙ each_some-at (newton_step s (square_system v b)) (range_with_len 0 (length b.solved)) j 0 step (get_or step j (point (pos 0))) stepped g ∙ sym g

    step-whole : all_to (length b.solved) (λ j. is_some (newton_step s (square_system v b) j)) ≡ true
    step-whole = all_to-holds (length b.solved) _ (λ j l. ap is_some (step-at j l ∙ slice_get-get_or step j (point (pos 0)) (omega (arith, l, step-length))))

    pub step-small : all_to (length step) (λ j. nat_le (2 * mag_or (slice_get step j)) (unsigned_abs (get_or radii j (pos 0)))) ≡ is_step_small s (square_system v b) (radius_at (map unsigned_abs radii))
    step-small =
        ap (λ k. all_to k (λ j. nat_le (2 * mag_or (slice_get step j)) (unsigned_abs (get_or radii j (pos 0))))) step-length
        ∙ all_to-same (length b.solved) _ _ (λ j l. ap (λ x. nat_le (2 * mag_or x) (unsigned_abs (get_or radii j (pos 0)))) (sym (step-at j l)) ∙ ap (λ k. nat_le (2 * mag_or (newton_step s (square_system v b) j)) k) (sym (sizes-at radii j)))

    pub lengths-positive : (cs : List ℕ) → list_all (is_length_positive b.solved radii v.unknowns) cs ≡ are_lengths_positive (square_system v b) (radius_at (map unsigned_abs radii)) cs
    lengths-positive cs = ap (λ (g : ℕ → ℕ). are_lengths_positive (square_system v b) g cs) (sym (radii-same radii))

    -- ---- all of it

    pub computed-all : (cells : List Ends) → list_all are_ends_in (box_from b.solved radii 0 v.unknowns) ≡ true →
        map (λ e. Some e) cells ≡ table (length b.solved) (length b.solved) (slope_over s (square_system v b) (radius_at (map unsigned_abs radii))) →
        is_whole (length b.solved) (length b.solved) (left_rest s (square_system v b) (radius_at (map unsigned_abs radii))) ≡ true →
        is_whole (length b.solved) (length b.solved) (right_rest s (square_system v b) (radius_at (map unsigned_abs radii))) ≡ true → is_computed s (square_system v b) (radius_at (map unsigned_abs radii)) ≡ true
    computed-all cells ends stored left right =
        let e : list_all are_ends_in (box (square_system v b) (radius_at (map unsigned_abs radii))) ≡ true = ap (list_all are_ends_in) (sym box-stored) ∙ ends in
        rw (step-whole, e, slopes-whole cells stored, left, right) refl

    pub ends-past : list_all are_ends_in (box_from b.solved radii 0 v.unknowns) ≡ false → is_computed s (square_system v b) (radius_at (map unsigned_abs radii)) ≡ false
    ends-past h =
        let e : list_all are_ends_in (box (square_system v b) (radius_at (map unsigned_abs radii))) ≡ false = ap (list_all are_ends_in) (sym box-stored) ∙ h in
        first-fails _ _ (first-fails _ _ (first-fails _ _ (second-fails _ _ e)))

    pub slopes-past : Contains (table (length b.solved) (length b.solved) (slope_over s (square_system v b) (radius_at (map unsigned_abs radii)))) None → is_computed s (square_system v b) (radius_at (map unsigned_abs radii)) ≡ false
    slopes-past h =
        let (i, j, l, o, e) = table-none (length b.solved) (length b.solved) (slope_over s (square_system v b) (radius_at (map unsigned_abs radii))) h in
        first-fails _ _ (first-fails _ _ (second-fails _ _ (is_whole-fails (length b.solved) (length b.solved) (slope_over s (square_system v b) (radius_at (map unsigned_abs radii))) i j l o e)))

    pub rests-past : (is_whole (length b.solved) (length b.solved) (left_rest s (square_system v b) (radius_at (map unsigned_abs radii)))
        && is_whole (length b.solved) (length b.solved) (right_rest s (square_system v b) (radius_at (map unsigned_abs radii)))) ≡ false → is_computed s (square_system v b) (radius_at (map unsigned_abs radii)) ≡ false
    rests-past h =
        let q = square_system v b in
        let r = radius_at (map unsigned_abs radii) in
        last (all_to q.size (λ j. is_some (newton_step s q j)) && list_all are_ends_in (box q r) && is_whole q.size q.size (slope_over s q r)) (is_whole q.size q.size (left_rest s q r)) (is_whole q.size q.size (right_rest s q r)) h
      where
        last : (x y z : Bool) → (y && z) ≡ false → ((x && y) && z) ≡ false
        last false y z h = refl
        last true y z h = h
