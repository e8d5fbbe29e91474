-- Worked rows of the interval test, by computation, at the scale 36.
use Rattle.std.proofs.Common.{◌≡◌, ℕ, zero, suc, ◌<◌, ◌≤◌, ◌*◌, ◌^◌, ◌-◌, arith, refl, sym, List, [], ◌∷◌, length, map, ℤ, pos, negsuc, true, false, true≢false}
use Rattle.std.specs.Prelude.{not}
use Rattle.std.specs.List.{range_with_len}
use Rattle.std.proofs.lemmas.List.Elements.{All-nil, All-cons}
use Rattle.sk_expr.specs.Columns.{is_among}
use Rattle.sk_expr.specs.Poly.{number, cosine, unknown, plus, minus, times}
use Rattle.sk_elim.specs.Elimination.{past_limit}
use Rattle.sk_expr.specs.SpanValue.{span_value, span_slope}
use Rattle.sk_krawczyk.specs.Box.{radius_exponent, newton_step}
use Rattle.sk_krawczyk.specs.IntervalTest.{slopes_at, radius_test, box_test, elimination_test, interval_test, stops, passes, fails, met, unmet}
use Rattle.sk_krawczyk.specs.Distance.{distance_row, distance_system}
use Rattle.sk_krawczyk.specs.Answers.{IsWhole}
use Rattle.sk_krawczyk.specs.declared.certificate.Certificate.{Certificate}

-- (0, 0) and (3, 4), distance 5: the slope of p.v is -8 and grows to 8 + 2^-31 over the box of the radius 2^-32, so b is 9 and y is 1
pub five-apart : interval_test 36 (distance_system (pos 0 ∷ pos 0 ∷ []) (pos (3 * 2 ^ 36) ∷ pos (4 * 2 ^ 36) ∷ []) (pos (5 * 2 ^ 36))) ≡ passes (1 ∷ []) (pos 0 ∷ []) (record {
  centre = pos 0 ∷ pos 0 ∷ pos (3 * 2 ^ 36) ∷ pos (4 * 2 ^ 36) ∷ [];
  radii = 16 ∷ [];
  bound = 36;
  spread = 144;
  held = 0 ∷ 2 ∷ 3 ∷ [];
  solved = 1 ∷ [];
  retained = 0 ∷ [];
  suspects = [];
  inverse = negsuc (2 ^ 33 - 1) ∷ [];
})
unfolding span_value span_slope radius_exponent newton_step slopes_at radius_test box_test elimination_test interval_test
five-apart = refl

-- with the distance 6 the box would be too large: the step is 11/8
pub six-asked : interval_test 36 (distance_system (pos 0 ∷ pos 0 ∷ []) (pos (3 * 2 ^ 36) ∷ pos (4 * 2 ^ 36) ∷ []) (pos (6 * 2 ^ 36))) ≡ fails (1 ∷ []) (pos (11 * 2 ^ 33) ∷ [])
unfolding span_value span_slope radius_exponent newton_step slopes_at radius_test box_test elimination_test interval_test
six-asked = refl

-- both at the origin with the distance 0: no pivot, so nothing is retained and the row is a suspect that holds zero
pub both-at_origin : interval_test 36 (distance_system (pos 0 ∷ pos 0 ∷ []) (pos 0 ∷ pos 0 ∷ []) (pos 0)) ≡ passes [] [] (record {
  centre = pos 0 ∷ pos 0 ∷ pos 0 ∷ pos 0 ∷ [];
  radii = [];
  bound = 0;
  spread = 0;
  held = 0 ∷ 1 ∷ 2 ∷ 3 ∷ [];
  solved = [];
  retained = [];
  suspects = record { row = 0; misses = false } ∷ [];
  inverse = [];
})
unfolding span_value span_slope radius_exponent newton_step slopes_at radius_test box_test elimination_test interval_test
both-at_origin = refl

-- 9000 apart: the square passes the limit at the point; 8192 apart: it reaches the limit there and passes it over the box
pub too-far : interval_test 36 (distance_system (pos 0 ∷ pos 0 ∷ []) (pos (9000 * 2 ^ 36) ∷ pos 0 ∷ []) (pos (9000 * 2 ^ 36))) ≡ stops past_limit
unfolding span_value span_slope radius_exponent newton_step slopes_at radius_test box_test elimination_test interval_test
too-far = refl

pub too-far_over_box : interval_test 36 (distance_system (pos 0 ∷ pos 0 ∷ []) (pos (8192 * 2 ^ 36) ∷ pos 0 ∷ []) (pos (8192 * 2 ^ 36))) ≡ stops past_limit
unfolding span_value span_slope radius_exponent newton_step slopes_at radius_test box_test elimination_test interval_test
too-far_over_box = refl

-- the distance 5 twice and the distance 6 besides: the second row is a suspect that holds zero, the third one that misses
pub repeated-and_missed : (
    let d = λ (value : ℤ). distance_row value in
    interval_test 36 (record { params = 4; unknowns = pos 0 ∷ pos 0 ∷ pos (3 * 2 ^ 36) ∷ pos (4 * 2 ^ 36) ∷ []; rows = d (pos (5 * 2 ^ 36)) ∷ d (pos (5 * 2 ^ 36)) ∷ d (pos (6 * 2 ^ 36)) ∷ []; cosines = []; forced = [] })
    ≡ passes (1 ∷ []) (pos 0 ∷ []) (record {
      centre = pos 0 ∷ pos 0 ∷ pos (3 * 2 ^ 36) ∷ pos (4 * 2 ^ 36) ∷ [];
      radii = 16 ∷ [];
      bound = 36;
      spread = 144;
      held = 0 ∷ 2 ∷ 3 ∷ [];
      solved = 1 ∷ [];
      retained = 0 ∷ [];
      suspects = record { row = 1; misses = false } ∷ record { row = 2; misses = true } ∷ [];
      inverse = negsuc (2 ^ 33 - 1) ∷ [];
    }))
unfolding span_value span_slope radius_exponent newton_step slopes_at radius_test box_test elimination_test interval_test
repeated-and_missed = refl

-- a point at (3, 4) and its length 5: the length's row is forced on the length's column, and comes first though it stands last
pub length-five : interval_test 36 (record {
  params = 2;
  unknowns = pos (3 * 2 ^ 36) ∷ pos (4 * 2 ^ 36) ∷ pos (5 * 2 ^ 36) ∷ [];
  rows = minus (unknown 2) (number (pos (5 * 2 ^ 36))) ∷ minus (times (unknown 2) (unknown 2)) (plus (times (unknown 0) (unknown 0)) (times (unknown 1) (unknown 1))) ∷ [];
  cosines = [];
  forced = record { row = 1; column = 2; is_length = true } ∷ [];
}) ≡ passes (1 ∷ 2 ∷ []) (pos 0 ∷ pos 0 ∷ []) (record {
  centre = pos (3 * 2 ^ 36) ∷ pos (4 * 2 ^ 36) ∷ pos (5 * 2 ^ 36) ∷ [];
  radii = 16 ∷ 16 ∷ [];
  bound = 76;
  spread = 608;
  held = 0 ∷ [];
  solved = 1 ∷ 2 ∷ [];
  retained = 0 ∷ 1 ∷ [];
  suspects = [];
  inverse = pos 85899345915 ∷ negsuc 8589934591 ∷ pos 68719476732 ∷ pos 0 ∷ [];
})
unfolding span_value span_slope radius_exponent newton_step slopes_at radius_test box_test elimination_test interval_test
length-five = refl

-- a length of 16 units isn't above the radius of 16 units
pub length-at_radius : interval_test 36 (record { params = 1; unknowns = pos 16 ∷ pos 16 ∷ []; rows = minus (unknown 1) (unknown 0) ∷ []; cosines = []; forced = record { row = 0; column = 1; is_length = true } ∷ [] })
    ≡ fails (1 ∷ []) (pos 0 ∷ [])
unfolding span_value span_slope radius_exponent newton_step slopes_at radius_test box_test elimination_test interval_test
length-at_radius = refl

-- the edge of the radius: a step of 2^25 units has the radius 2^-10, one more unit has a box that is too large
pub radius-edge : interval_test 36 (record { params = 1; unknowns = pos 0 ∷ []; rows = minus (unknown 0) (number (negsuc 33554431)) ∷ []; cosines = []; forced = [] }) ≡ passes (0 ∷ []) (pos 33554432 ∷ []) (record {
  centre = pos 0 ∷ [];
  radii = 2 ^ 26 ∷ [];
  bound = 4;
  spread = 16;
  held = [];
  solved = 0 ∷ [];
  retained = 0 ∷ [];
  suspects = [];
  inverse = pos (2 ^ 36) ∷ [];
})
unfolding span_value span_slope radius_exponent newton_step slopes_at radius_test box_test elimination_test interval_test
radius-edge = refl

pub radius-past_edge : interval_test 36 (record { params = 1; unknowns = pos 0 ∷ []; rows = minus (unknown 0) (number (negsuc 33554432)) ∷ []; cosines = []; forced = [] }) ≡ fails (0 ∷ []) (pos 33554433 ∷ [])
unfolding span_value span_slope radius_exponent newton_step slopes_at radius_test box_test elimination_test interval_test
radius-past_edge = refl

-- a radius for each column: x - 9 and 2 y are 0 but for 9 and 0 units, so the steps are 9 and 0 units, the radii 32 and 16, and q is 2
pub two-radii : interval_test 36 (record {
  params = 2;
  unknowns = pos 0 ∷ pos 0 ∷ [];
  rows = minus (unknown 0) (number (pos 9)) ∷ plus (unknown 1) (unknown 1) ∷ [];
  cosines = [];
  forced = [];
}) ≡ passes (0 ∷ 1 ∷ []) (negsuc 8 ∷ pos 0 ∷ []) (record {
  centre = pos 0 ∷ pos 0 ∷ [];
  radii = 32 ∷ 16 ∷ [];
  bound = 8;
  spread = 64;
  held = [];
  solved = 0 ∷ 1 ∷ [];
  retained = 0 ∷ 1 ∷ [];
  suspects = [];
  inverse = pos (2 ^ 36) ∷ pos 0 ∷ pos 0 ∷ pos (2 ^ 35) ∷ [];
})
unfolding span_value span_slope radius_exponent newton_step slopes_at radius_test box_test elimination_test interval_test
two-radii = refl

-- two lines of an angle of 60 degrees, from (0, 0) to (10, 0) and from (0, 0) to (5, 8.66..), with their lengths 10 and one unit less, and the
-- relation a.b - C L(a) L(b) where the cosine C is 2^35 - 1 to 2^35 + 1 units: the step of the pivot's column reaches 13 units, so its
-- radius is 32, that of both lengths 16, and q is 2
pub angle-of_60 : (
    let au = minus (unknown 0) (unknown 2) in
    let av = minus (unknown 1) (unknown 3) in
    let bu = minus (unknown 4) (unknown 6) in
    let bv = minus (unknown 5) (unknown 7) in
    let xs = pos 0 ∷ pos 0 ∷ pos 687194767360 ∷ pos 0 ∷ pos 0 ∷ pos 0 ∷ pos 343597383680 ∷ pos 595128125881 ∷ pos 687194767360 ∷ pos 687194767359 ∷ [] in
    interval_test 36 (record {
      params = 8;
      unknowns = xs;
      rows = minus (times (unknown 8) (unknown 8)) (plus (times au au) (times av av)) ∷ minus (times (unknown 9) (unknown 9)) (plus (times bu bu) (times bv bv))
          ∷ minus (plus (times au bu) (times av bv)) (times (times (cosine 0) (unknown 8)) (unknown 9)) ∷ [];
      cosines = record { lo = pos 34359738367; hi = pos 34359738369 } ∷ [];
      forced = record { row = 0; column = 8; is_length = true } ∷ record { row = 1; column = 9; is_length = true } ∷ [];
    }) ≡ passes (1 ∷ 8 ∷ 9 ∷ []) (negsuc 0 ∷ pos 0 ∷ negsuc 0 ∷ []) (record {
      centre = xs;
      radii = 32 ∷ 16 ∷ 16 ∷ [];
      bound = 84;
      spread = 672;
      held = 0 ∷ 2 ∷ 3 ∷ 4 ∷ 5 ∷ 6 ∷ 7 ∷ [];
      solved = 1 ∷ 8 ∷ 9 ∷ [];
      retained = 0 ∷ 1 ∷ 2 ∷ [];
      suspects = [];
      inverse = negsuc 1983760419 ∷ negsuc 1983760419 ∷ negsuc 7935041677 ∷ pos 3435973837 ∷ pos 0 ∷ pos 0 ∷ pos 0 ∷ pos 3435973837 ∷ pos 0 ∷ [];
    }))
unfolding span_value span_slope radius_exponent newton_step slopes_at radius_test box_test elimination_test interval_test
angle-of_60 = refl

-- with no retained row a suspect's span over the box is still taken, and may pass the limit
pub suspect-past_limit : interval_test 36 (record { params = 0; unknowns = []; rows = times (number (pos (2 ^ 50))) (number (pos (2 ^ 50))) ∷ []; cosines = []; forced = [] }) ≡ stops past_limit
unfolding span_value span_slope radius_exponent newton_step slopes_at radius_test box_test elimination_test interval_test
suspect-past_limit = refl

-- columns, rows, inverse and radii that are given: those of two points five apart with the radius 2^-31, which need not be the least
pub given-radius : box_test 36 (distance_system (pos 0 ∷ pos 0 ∷ []) (pos (3 * 2 ^ 36) ∷ pos (4 * 2 ^ 36) ∷ []) (pos (5 * 2 ^ 36)))
    (record { held = 0 ∷ 2 ∷ 3 ∷ []; solved = 1 ∷ []; retained = 0 ∷ []; suspects = []; inverse = negsuc (2 ^ 33 - 1) ∷ [] }) (32 ∷ []) ≡ met (record {
      centre = pos 0 ∷ pos 0 ∷ pos (3 * 2 ^ 36) ∷ pos (4 * 2 ^ 36) ∷ [];
      radii = 32 ∷ [];
      bound = 36;
      spread = 144;
      held = 0 ∷ 2 ∷ 3 ∷ [];
      solved = 1 ∷ [];
      retained = 0 ∷ [];
      suspects = [];
      inverse = negsuc (2 ^ 33 - 1) ∷ [];
    })
unfolding span_value span_slope newton_step box_test
given-radius = refl

-- the inverse with the wrong sign, and the right one where a point stands at 3.5
pub given-wrong_sign : box_test 36 (distance_system (pos 0 ∷ pos 0 ∷ []) (pos (3 * 2 ^ 36) ∷ pos (4 * 2 ^ 36) ∷ []) (pos (5 * 2 ^ 36)))
    (record { held = 0 ∷ 2 ∷ 3 ∷ []; solved = 1 ∷ []; retained = 0 ∷ []; suspects = []; inverse = pos (2 ^ 33) ∷ [] }) (16 ∷ []) ≡ unmet
unfolding span_value span_slope newton_step box_test
given-wrong_sign = refl

pub given-elsewhere : box_test 36 (distance_system (pos 0 ∷ pos 0 ∷ []) (pos (7 * 2 ^ 35) ∷ pos (4 * 2 ^ 36) ∷ []) (pos (5 * 2 ^ 36)))
    (record { held = 0 ∷ 2 ∷ 3 ∷ []; solved = 1 ∷ []; retained = 0 ∷ []; suspects = []; inverse = negsuc (2 ^ 33 - 1) ∷ [] }) (16 ∷ []) ≡ unmet
unfolding span_value span_slope newton_step box_test
given-elsewhere = refl

-- ---- whole certificates

-- of a point at (3, 4) and its length 5, with these columns held and solved; as many rows and radii as solved columns
abbrev point-parted : List ℕ → List ℕ → Certificate 36
point-parted held solved = record {
  radius_logs = map (λ c. negsuc 31) solved;
  bound = 76;
  spread = 608;
  centre = pos (3 * 2 ^ 36) ∷ pos (4 * 2 ^ 36) ∷ pos (5 * 2 ^ 36) ∷ [];
  held = held;
  solved = solved;
  retained = range_with_len 0 (length solved);
  suspects = [];
  inverse = record { rows = length solved; cols = length solved; cells = pos 85899345915 ∷ negsuc 8589934591 ∷ pos 68719476732 ∷ pos 0 ∷ [] };
}

pub length-solved : IsWhole 2 (point-parted (0 ∷ []) (1 ∷ 2 ∷ []))
length-solved = record {
  params_in = omega arith;
  parts = each;
  solved_in = All-cons (λ c. c < 3) 1 (2 ∷ []) (omega arith) (All-cons (λ c. c < 3) 2 [] (omega arith) (All-nil (λ c. c < 3)));
  solved_rise = (omega arith, (omega arith, tt));
  held_in = All-cons (λ c. c < 2) 0 [] (omega arith) (All-nil (λ c. c < 2));
  held_rise = (omega arith, tt);
  as_many_rows = refl;
  as_many_radii = refl;
  inverse_rows = refl;
  inverse_cols = refl;
  inverse = refl;
}
  where
    each : (c : ℕ) → c < 3 → is_among (1 ∷ 2 ∷ []) c ≡ not (is_among (0 ∷ []) c)
    each zero l = refl
    each (suc zero) l = refl
    each (suc (suc zero)) l = refl
    each (suc (suc (suc c))) l = absurd (omega (arith, l))

-- a length is never held; no column is left out, and none is both; and the columns rise
pub length-held : IsWhole 2 (point-parted (0 ∷ 2 ∷ []) (1 ∷ [])) → ⊥
length-held w = let l : 2 < 2 = w.held_in 1 0 (omega arith) in omega (arith, l)

pub length-left_out : IsWhole 2 (point-parted (0 ∷ []) (1 ∷ [])) → ⊥
length-left_out w = let e : false ≡ true = w.parts 2 (omega arith) in true≢false (sym e)

pub column-twice : IsWhole 2 (point-parted (0 ∷ 1 ∷ []) (1 ∷ 2 ∷ [])) → ⊥
column-twice w = let e : true ≡ false = w.parts 1 (omega arith) in true≢false e

pub columns-fall : IsWhole 2 (point-parted (0 ∷ []) (2 ∷ 1 ∷ [])) → ⊥
columns-fall w = let l : 3 ≤ 1 = w.solved_rise.1.0 in omega (arith, l)
