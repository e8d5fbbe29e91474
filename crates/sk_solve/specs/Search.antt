-- The search of a group: of at most 41 points the first at which the interval test passes is kept.
use Rattle.std.specs.Prelude.{ℕ, zero, suc, List, [], ◌∷◌, length, get_or, slice_set, ℤ, pos, ◌-ℤ◌, Option, Some, None, option_map, option_and_then, nat_lt, if◌then◌else◌}
use Rattle.sk_num.specs.Limit.{grid_of}
use Rattle.sk_elim.specs.Elimination.{Halt, flat, past_limit}
use Rattle.sk_expr.specs.Seen.{Seen}
use Rattle.sk_krawczyk.specs.IntervalTest.{Outcome, stops, fails, passes, Certificate}
use Rattle.sk_krawczyk.specs.Answers.{outcome_at}
pub use Rattle.sk_solve.specs.declared.result.Verdict.{Verdict}
pub use Rattle.sk_solve.specs.declared.result.Verdict.TheVariants.{Certified, Degenerate, Range, Unsolved}

-- how a group comes out: the kept point, and its certificate where it is certified
pub record Found : Type 0 where
  pub verdict : Verdict
  pub point : List ℤ
  pub certificate : Option Certificate

-- every verdict but certified keeps the point from which the search starts
abbrev pub stayed : Verdict → List ℤ → Found
stayed v x0 = record { verdict = v; point = x0; certificate = None }

abbrev pub certified_at : List ℤ → Certificate → Found
certified_at x c = record { verdict = Certified; point = x; certificate = Some c }

-- a flat forced pivot is degenerate, a number past the limit is range
abbrev pub verdict_of : Halt → Verdict
verdict_of (flat r) = Degenerate
verdict_of past_limit = Range

-- The number in the column c less d, none past the limit. A column behind the point's is an auxiliary's, which doesn't move.
abbrev pub less_at : ℕ → ℤ → List ℤ → Option (List ℤ)
less_at c d x = if nat_lt c (length x) then option_map (λ z. slice_set x c z) (grid_of (get_or x c (pos 0) -ℤ d)) else Some x

-- the point less the step in the solved columns, each of which is listed once; none where a number passes the limit
abbrev pub moved : List ℕ → List ℤ → List ℤ → Option (List ℤ)
moved [] ds x = Some x
moved (c ∷ cs) [] x = Some x
moved (c ∷ cs) (d ∷ ds) x = option_and_then (λ y. moved cs ds y) (less_at c d x)

abbrev pub onward : List ℤ → (List ℤ → Found) → Option (List ℤ) → Found
onward x0 go None = stayed Range x0
onward x0 go (Some y) = go y

-- what the test at the point x decides; where it fails, the rest does
abbrev pub decided : List ℤ → List ℤ → (List ℕ → List ℤ → Found) → Outcome → Found
decided x0 x rest (stops h) = stayed (verdict_of h) x0
decided x0 x rest (fails solved step) = rest solved step
decided x0 x rest (passes solved step c) = certified_at x c

-- the search from the point x on, with so many further points
abbrev pub searched : ℕ → (List ℤ → Outcome) → List ℤ → List ℤ → Found
searched zero visit x0 x = decided x0 x (λ solved step. stayed Unsolved x0) (visit x)
searched (suc n) visit x0 x = decided x0 x (λ solved step. onward x0 (λ y. searched n visit x0 y) (moved solved step x)) (visit x)

-- x0 to x40
unfoldable pub search : (List ℤ → Outcome) → List ℤ → Found
search visit x0 = searched 40 visit x0 x0

-- the search over a system with so many parameters that is there at a point, or passes the limit
abbrev pub verdict_over : ℕ → ℕ → (List ℤ → Option Seen) → List ℤ → Found
verdict_over s params at x0 = search (λ x. outcome_at s params (at x)) x0

-- ---- the points that a search visits

abbrev pub behind : (List ℕ → List ℤ → List (List ℤ)) → Outcome → List (List ℤ)
behind rest (stops h) = []
behind rest (fails solved step) = rest solved step
behind rest (passes solved step c) = []

abbrev pub from_next : (List ℤ → List (List ℤ)) → Option (List ℤ) → List (List ℤ)
from_next go None = []
from_next go (Some y) = go y

abbrev pub visited_from : ℕ → (List ℤ → Outcome) → List ℤ → List (List ℤ)
visited_from zero visit x = x ∷ []
visited_from (suc n) visit x = x ∷ behind (λ solved step. from_next (λ y. visited_from n visit y) (moved solved step x)) (visit x)

unfoldable pub visited : (List ℤ → Outcome) → List ℤ → List (List ℤ)
visited visit x0 = visited_from 40 visit x0
