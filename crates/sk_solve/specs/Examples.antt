-- Worked rows of the search, by computation, at the scale 36.
use Rattle.std.specs.Prelude.{◌≡◌, refl, ℕ, ◌+◌, ◌*◌, ◌^◌, List, [], ◌∷◌, ◌++◌, ℤ, pos, negsuc, ◌==◌, unsigned_abs, get_or, map, Option, Some, None, if◌then◌else◌, ◌-◌, true}
use Rattle.sk_expr.specs.Poly.{Poly, number, unknown, plus, minus, times}
use Rattle.sk_expr.specs.Rows.{NamedRow}
use Rattle.sk_expr.specs.Seen.{Seen}
use Rattle.sk_expr.specs.SpanValue.{span_value, span_slope}
use Rattle.sk_expr.specs.declared.row.RowKind.TheVariants.{OfConstraint}
use Rattle.sk_krawczyk.specs.Box.{radius_exponent, newton_step}
use Rattle.sk_krawczyk.specs.Distance.{distance_row}
use Rattle.sk_krawczyk.specs.IntervalTest.{Outcome, fails, passes, Certificate, slopes_at, radius_test, box_test, elimination_test, interval_test}
use Rattle.sk_expr.specs.declared.row.RowName.{RowName}
use Rattle.sk_solve.specs.Held.{radius_log, suspect_by}
use Rattle.sk_solve.specs.Search.{Unsolved, Range, Degenerate, stayed, certified_at, moved, search, verdict_over}

-- ---- systems of one row

abbrev row : Poly ℤ → NamedRow
row t = record { name = record { kind = OfConstraint; handle = 1; index = 0 }; tree = t }

abbrev of_row : Poly ℤ → List ℤ → Option Seen
of_row t x = Some (record { unknowns = x; rows = row t ∷ []; cosines = []; forced = [] })

-- (0, 0) and (8, 0), distance 8 and 2^-8: Newton's step at the start is 2^-8 + 2^-20, so the box would be too large. From the
-- second point it is about 2^-20, and the test passes with the radius 2^-18.
pub one-step : verdict_over 36 4 (of_row (distance_row (pos (8 * 2 ^ 36 + 2 ^ 28)))) (pos 0 ∷ pos 0 ∷ pos (8 * 2 ^ 36) ∷ pos 0 ∷ [])
    ≡ certified_at (negsuc 268500991 ∷ pos 0 ∷ pos (8 * 2 ^ 36) ∷ pos 0 ∷ []) (record {
      centre = negsuc 268500991 ∷ pos 0 ∷ pos (8 * 2 ^ 36) ∷ pos 0 ∷ [];
      radii = 2 ^ 18 ∷ [];
      bound = 68;
      spread = 272;
      held = 1 ∷ 2 ∷ 3 ∷ [];
      solved = 0 ∷ [];
      retained = 0 ∷ [];
      suspects = [];
      inverse = negsuc 4292870655 ∷ [];
    })
unfolding search span_value span_slope radius_exponent newton_step slopes_at radius_test box_test elimination_test interval_test
one-step = refl

-- a circle with the radius 5 and the diameter 12: the radius moves to 6, and neither coordinate of the centre moves
pub to-six : verdict_over 36 3 (of_row (minus (plus (unknown 2) (unknown 2)) (number (pos (12 * 2 ^ 36))))) (pos 0 ∷ pos 0 ∷ pos (5 * 2 ^ 36) ∷ [])
    ≡ certified_at (pos 0 ∷ pos 0 ∷ pos (6 * 2 ^ 36) ∷ []) (record {
      centre = pos 0 ∷ pos 0 ∷ pos (6 * 2 ^ 36) ∷ [];
      radii = 16 ∷ [];
      bound = 8;
      spread = 32;
      held = 0 ∷ 1 ∷ [];
      solved = 2 ∷ [];
      retained = 0 ∷ [];
      suspects = [];
      inverse = pos (2 ^ 35) ∷ [];
    })
unfolding search span_value span_slope radius_exponent newton_step slopes_at radius_test box_test elimination_test interval_test
to-six = refl

-- 9000 apart the square passes the limit, and a point that isn't there does
pub too-far : verdict_over 36 4 (of_row (distance_row (pos (9000 * 2 ^ 36)))) (pos 0 ∷ pos 0 ∷ pos (9000 * 2 ^ 36) ∷ pos 0 ∷ []) ≡ stayed Range (pos 0 ∷ pos 0 ∷ pos (9000 * 2 ^ 36) ∷ pos 0 ∷ [])
unfolding search span_value span_slope radius_exponent newton_step slopes_at radius_test box_test elimination_test interval_test
too-far = refl

pub not-there : verdict_over 36 1 (λ x. None) (pos 7 ∷ []) ≡ stayed Range (pos 7 ∷ [])
unfolding search
not-there = refl

-- a length whose square is that of 0
abbrev length_of : List ℤ → Option Seen
length_of x = Some (record { unknowns = x ++ pos 0 ∷ []; rows = row (minus (times (unknown 1) (unknown 1)) (times (unknown 0) (unknown 0))) ∷ []; cosines = []; forced = record { row = 0; column = 1; is_length = true } ∷ [] })

pub no-length : verdict_over 36 1 length_of (pos 0 ∷ []) ≡ stayed Degenerate (pos 0 ∷ [])
unfolding search span_value span_slope radius_exponent newton_step slopes_at radius_test box_test elimination_test interval_test
no-length = refl

-- ---- tests made by hand: each point is the one before it and 1, and the test passes at the one asked

abbrev empty : Certificate
empty = record { centre = []; radii = []; bound = 0; spread = 0; held = []; solved = []; retained = []; suspects = []; inverse = [] }

abbrev passes_at : ℕ → List ℤ → Outcome
passes_at n x = if unsigned_abs (get_or x 0 (pos 0)) == n then passes [] [] empty else fails (0 ∷ []) (negsuc 0 ∷ [])

-- the start is kept where it passes; x40 is visited, and a 41st further point isn't
pub at-once : search (passes_at 3) (pos 3 ∷ pos 9 ∷ []) ≡ certified_at (pos 3 ∷ pos 9 ∷ []) empty
unfolding search
at-once = refl

pub at-last : search (passes_at 40) (pos 0 ∷ pos 9 ∷ []) ≡ certified_at (pos 40 ∷ pos 9 ∷ []) empty
unfolding search
at-last = refl

pub too-late : search (passes_at 41) (pos 0 ∷ pos 9 ∷ []) ≡ stayed Unsolved (pos 0 ∷ pos 9 ∷ [])
unfolding search
too-late = refl

-- ---- one step

-- the columns 0 and 2 move, the step of an auxiliary's column behind the point moves nothing
pub two-move : moved (0 ∷ 2 ∷ 3 ∷ []) (pos 1 ∷ negsuc 1 ∷ pos 5 ∷ []) (pos 10 ∷ pos 20 ∷ pos 30 ∷ []) ≡ Some (pos 9 ∷ pos 20 ∷ pos 32 ∷ [])
two-move = refl

pub at-limit : moved (0 ∷ []) (negsuc 0 ∷ []) (pos (2 ^ 62 - 1) ∷ []) ≡ Some (pos (2 ^ 62) ∷ [])
at-limit = refl

pub past-limit : moved (0 ∷ []) (negsuc 0 ∷ []) (pos (2 ^ 62) ∷ []) ≡ None
past-limit = refl

-- ---- as the code holds them

abbrev row-name : ℕ → RowName
row-name h = record { kind = OfConstraint; handle = h; index = 0 }

-- 16 and 2^18 units
pub radius-logs : map (radius_log 36) (16 ∷ 2 ^ 18 ∷ []) ≡ negsuc 31 ∷ negsuc 17 ∷ []
unfolding radius_log
radius-logs = refl

-- a suspect has the name of its row, not its place
pub by-name : map (suspect_by (row-name 7 ∷ row-name 8 ∷ [])) (record { row = 1; misses = true } ∷ []) ≡ record { row = row-name 8; misses = true } ∷ []
by-name = refl
