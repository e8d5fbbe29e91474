-- The interval test of a system at a point, and what its certificate holds.
use Rattle.std.specs.Prelude.{ℕ, zero, suc, ◌+◌, ◌-◌, ◌*◌, ◌/◌, ◌^◌, max, min, List, [], ◌∷◌, map, length, get_or, ℤ, pos, ◌-ℤ◌, Option, Some, None, Result, Ok, Err, Bool, not, nat_le, is_some, ◌&&◌, ◌||◌, if◌then◌else◌}
use Rattle.std.specs.Int.{is_negative, is_positive}
use Rattle.std.specs.List.{range_with_len, filter, list_all}
use Rattle.sk_num.specs.Sums.{total_to}
use Rattle.sk_num.specs.Limit.{is_in_limit}
use Rattle.sk_num.specs.Ends.{Ends, point, mid}
use Rattle.sk_expr.specs.Poly.{Poly, number}
use Rattle.sk_expr.specs.SpanValue.{span_value, span_slope}
use Rattle.sk_expr.specs.System.{SystemAt}
use Rattle.sk_num.specs.Each.{each_some}
use Rattle.sk_elim.specs.Elimination.{Halt, past_limit, Elimination, eliminate}
use Rattle.sk_matrix.specs.Matrix.{mag_or, row_sum, row_sums, row_sums_plain, all_to, is_whole}
use Rattle.sk_krawczyk.specs.Box.{SquareSystem, Basis, basis_of, square_system, newton_step, radius_of, reach, box, slope_over, left_rest, right_rest}

-- no number passes the limit: Y F(x), the ends of the box, J(X), Y J(X), I - Y J(X), J(X) Y, I - J(X) Y
abbrev pub is_computed : ℕ → SquareSystem → (ℕ → ℕ) → Bool
is_computed s q radius =
    all_to q.size (λ j. is_some (newton_step s q j)) && list_all (λ e. is_in_limit e.lo && is_in_limit e.hi) (box q radius)
    && is_whole q.size q.size (slope_over s q radius) && is_whole q.size q.size (left_rest s q radius) && is_whole q.size q.size (right_rest s q radius)

-- the radii: one for each solved column
abbrev pub radius_at : List ℕ → ℕ → ℕ
radius_at radii j = get_or radii j 0

-- the five conditions: 1. each radius is at most 2^-10
abbrev pub are_near : ℕ → List ℕ → Bool
are_near s radii = list_all (λ r. nat_le r (2 ^ (s - 10))) radii

-- 2. each absolute end of Newton's step is at most half the radius
abbrev pub is_step_small : ℕ → SquareSystem → (ℕ → ℕ) → Bool
is_step_small s q radius = all_to q.size (λ j. nat_le (2 * mag_or (newton_step s q j)) (radius j))

-- 3. the rows of I - Y J(X), weighed by the radii, are at most half the radius
abbrev pub rows_within : ℕ → ℕ → (ℕ → ℕ) → (ℕ → ℕ → Option Ends) → Bool
rows_within s n radius a = all_to n (λ j. nat_le (total_to n (λ k. mag_or (a j k) * radius k)) (2 ^ (s - 1) * radius j))

abbrev pub is_left_small : ℕ → SquareSystem → (ℕ → ℕ) → Bool
is_left_small s q radius = rows_within s q.size radius (left_rest s q radius)

-- 4. the row sums of I - J(X) Y are at most a half
abbrev pub rows_small : ℕ → ℕ → ℕ → (ℕ → ℕ → Option Ends) → Bool
rows_small s m n a = all_to m (λ i. nat_le (row_sum n (a i)) (2 ^ (s - 1)))

abbrev pub is_right_small : ℕ → SquareSystem → (ℕ → ℕ) → Bool
is_right_small s q radius = rows_small s q.size q.size (right_rest s q radius)

-- 5. each length auxiliary is above its radius
abbrev pub are_lengths_positive : SquareSystem → (ℕ → ℕ) → List ℕ → Bool
are_lengths_positive q radius lengths = list_all (λ c. is_positive (get_or q.centre c (pos 0) -ℤ pos (reach q radius c))) lengths

abbrev pub conditions : ℕ → SquareSystem → List ℕ → List ℕ → Bool
conditions s q radii lengths =
    are_near s radii && is_step_small s q (radius_at radii) && is_left_small s q (radius_at radii) && is_right_small s q (radius_at radii)
    && are_lengths_positive q (radius_at radii) lengths

-- n units over 2^s, rounded up, at least 1
abbrev pub whole_up : ℕ → ℕ → ℕ
whole_up s n = max 1 ((n + 2 ^ s - 1) / 2 ^ s)

-- b and y: the greatest row sums of |J(X)| and of |Y|
abbrev pub slope_size : ℕ → SquareSystem → (ℕ → ℕ) → ℕ
slope_size s q radius = whole_up s (row_sums q.size q.size (slope_over s q radius))

abbrev pub inverse_size : ℕ → SquareSystem → ℕ
inverse_size s q = whole_up s (row_sums_plain q.size q.size q.inverse)

-- the greatest radius over the least
abbrev pub greatest : List ℕ → ℕ
greatest [] = 0
greatest (r ∷ rs) = max r (greatest rs)

abbrev pub least : ℕ → List ℕ → ℕ
least r [] = r
least r (t ∷ rs) = min r (least t rs)

abbrev pub radius_ratio : List ℕ → ℕ
radius_ratio [] = 1
radius_ratio (r ∷ rs) = greatest (r ∷ rs) / least r rs

-- 4 b and 16 b y q, 0 with no retained row
abbrev pub unless_none : ℕ → ℕ → ℕ
unless_none zero v = 0
unless_none (suc m) v = v

abbrev pub bound : ℕ → SquareSystem → (ℕ → ℕ) → ℕ
bound s q radius = unless_none q.size (4 * slope_size s q radius)

abbrev pub spread : ℕ → SquareSystem → (ℕ → ℕ) → ℕ → ℕ
spread s q radius ratio = unless_none q.size (16 * (slope_size s q radius * inverse_size s q * ratio))

-- a suspect misses where its span over the box has no zero
pub record Suspect : Type 0 where
  pub row : ℕ
  pub misses : Bool

abbrev pub is_off_zero : Ends → Bool
is_off_zero e = is_positive e.lo || is_negative e.hi

abbrev pub suspect_spans : ℕ → SystemAt → List Ends → List ℕ → Option (List Ends)
suspect_spans s v over suspects = each_some (λ r. span_value s over v.cosines (get_or v.rows r (number (pos 0)))) suspects

abbrev pub suspects_of : List ℕ → List Ends → List Suspect
suspects_of [] es = []
suspects_of (r ∷ rs) [] = []
suspects_of (r ∷ rs) (e ∷ es) = record { row = r; misses = is_off_zero e } ∷ suspects_of rs es

pub record Certificate : Type 0 where
  pub centre : List ℤ
  pub radii : List ℕ
  pub bound : ℕ
  pub spread : ℕ
  pub held : List ℕ
  pub solved : List ℕ
  pub retained : List ℕ
  pub suspects : List Suspect
  pub inverse : List ℤ

abbrev pub certificate : ℕ → SystemAt → Basis → List ℕ → List Suspect → Certificate
certificate s v b radii suspects =
    record {
      centre = v.unknowns;
      radii = radii;
      bound = bound s (square_system v b) (radius_at radii);
      spread = spread s (square_system v b) (radius_at radii) (radius_ratio radii);
      held = b.held;
      solved = b.solved;
      retained = b.retained;
      suspects = suspects;
      inverse = b.inverse;
    }

abbrev pub length_columns : SystemAt → List ℕ
length_columns v = map (λ f. f.column) (filter (λ f. f.is_length) v.forced)

-- the test over a box: a number passes the limit, a condition isn't met, or all are
pub data BoxOutcome : Type 0 where
  over_limit : BoxOutcome
  unmet : BoxOutcome
  met : Certificate → BoxOutcome

abbrev pub certified : ℕ → SystemAt → Basis → List ℕ → Option (List Ends) → BoxOutcome
certified s v b radii None = over_limit
certified s v b radii (Some spans) = met (certificate s v b radii (suspects_of b.suspects spans))

-- Newton's step and the numbers over the box, then the conditions, then the suspects
unfoldable pub box_test : ℕ → SystemAt → Basis → List ℕ → BoxOutcome
box_test s v b radii =
    if not (is_computed s (square_system v b) (radius_at radii)) then over_limit else
    (if conditions s (square_system v b) radii (length_columns v) then certified s v b radii (suspect_spans s v (box (square_system v b) (radius_at radii)) b.suspects) else unmet)

-- where all conditions are met there is a certificate
abbrev pub certificate_in : BoxOutcome → Option Certificate
certificate_in over_limit = None
certificate_in unmet = None
certificate_in (met c) = Some c

-- the step's midpoints move the solved columns, where the test fails
pub data Outcome : Type 0 where
  stops : Halt → Outcome
  fails : List ℕ → List ℤ → Outcome
  passes : List ℕ → List ℤ → Certificate → Outcome

abbrev pub outcome_of : List ℕ → List ℤ → BoxOutcome → Outcome
outcome_of solved moves over_limit = stops past_limit
outcome_of solved moves unmet = fails solved moves
outcome_of solved moves (met c) = passes solved moves c

-- a box that would be too large isn't looked at
unfoldable pub radius_test : ℕ → SystemAt → Basis → List Ends → List ℕ → Outcome
radius_test s v b step radii =
    if are_near s radii then outcome_of b.solved (map mid step) (box_test s v b radii) else fails b.solved (map mid step)

abbrev pub step_test : ℕ → SystemAt → Basis → Option (List Ends) → Outcome
step_test s v b None = stops past_limit
step_test s v b (Some step) = radius_test s v b step (map radius_of step)

abbrev pub newton_steps : ℕ → SystemAt → Basis → Option (List Ends)
newton_steps s v b = each_some (newton_step s (square_system v b)) (range_with_len 0 (length b.solved))

unfoldable pub elimination_test : ℕ → SystemAt → Result Elimination Halt → Outcome
elimination_test s v (Err h) = stops h
elimination_test s v (Ok e) = step_test s v (basis_of e) (newton_steps s v (basis_of e))

-- the slopes of a row at the point, in every column
unfoldable pub slopes_at : ℕ → SystemAt → Poly ℤ → Option (List Ends)
slopes_at s v t = each_some (λ c. span_slope s (map point v.unknowns) v.cosines c t) (range_with_len 0 (length v.unknowns))

abbrev pub forced_pairs : SystemAt → List (ℕ × ℕ)
forced_pairs v = map (λ f. (f.row, f.column)) v.forced

abbrev pub slopes_test : ℕ → SystemAt → Option (List (List Ends)) → Outcome
slopes_test s v None = stops past_limit
slopes_test s v (Some a) = elimination_test s v (eliminate s (length v.unknowns) v.params (forced_pairs v) a)

-- the whole test: the slopes at the point, the elimination, Newton's step, the radii, the box
unfoldable pub interval_test : ℕ → SystemAt → Outcome
interval_test s v = slopes_test s v (each_some (slopes_at s v) v.rows)
