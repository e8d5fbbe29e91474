-- What spans enclose: exact numbers n / 2^m.
use Rattle.std.specs.Prelude.{ℕ, ◌^◌, ℤ, pos, ◌+ℤ◌, ◌-ℤ◌, ◌*ℤ◌, ◌≤ℤ◌}
use Rattle.sk_num.specs.Ends.{Ends}

-- the span e of units 2^-s encloses n / 2^m
pub record Encloses (s m : ℕ) (e : Ends) (n : ℤ) : Type 0 where
  pub low : (e.lo *ℤ pos (2 ^ m)) ≤ℤ (n *ℤ pos (2 ^ s))
  pub high : (n *ℤ pos (2 ^ s)) ≤ℤ (e.hi *ℤ pos (2 ^ m))

-- numerators of a value at two points p and q, and of its slope between them in one column
pub record Triple : Type 0 where
  pub at_p : ℤ
  pub at_q : ℤ
  pub slope : ℤ

abbrev pub triple_add : Triple → Triple → Triple
triple_add t u = record { at_p = t.at_p +ℤ u.at_p; at_q = t.at_q +ℤ u.at_q; slope = t.slope +ℤ u.slope }

abbrev pub triple_sub : Triple → Triple → Triple
triple_sub t u = record { at_p = t.at_p -ℤ u.at_p; at_q = t.at_q -ℤ u.at_q; slope = t.slope -ℤ u.slope }

-- a product's slope is a(p) times the slope of b plus b(q) times the slope of a
abbrev pub triple_mul : Triple → Triple → Triple
triple_mul t u = record { at_p = t.at_p *ℤ u.at_p; at_q = t.at_q *ℤ u.at_q; slope = t.at_p *ℤ u.slope +ℤ u.at_q *ℤ t.slope }

-- the same numbers over a greater power, 2^j times the one before
abbrev pub triple_scale : ℕ → Triple → Triple
triple_scale j t = record { at_p = t.at_p *ℤ pos (2 ^ j); at_q = t.at_q *ℤ pos (2 ^ j); slope = t.slope *ℤ pos (2 ^ j) }

-- g units over 2^(s + m): the same value at both points, slope 0
abbrev pub triple_of : ℕ → ℤ → Triple
triple_of m g = record { at_p = g *ℤ pos (2 ^ m); at_q = g *ℤ pos (2 ^ m); slope = pos 0 }
