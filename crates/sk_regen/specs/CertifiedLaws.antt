-- What the report says of each group that is regenerated.
use Rattle.std.specs.Prelude.{◌≡◌, ◌⊎◌, ℕ, ℤ, List, [], ◌∷◌, Some, None, true, false}
use Rattle.sk_types.specs.declared.handle.GroupId.{GroupId}
use Rattle.sk_types.specs.declared.entity.ParamValue.{ParamValue}
use Rattle.sk_types.specs.declared.entity.Numbers.{Numbers}
use Rattle.sk_geom.specs.declared.fault.FrameFault.{FrameFault}
use Rattle.sk_krawczyk.specs.IntervalTest.{Outcome}
use Rattle.sk_solve.specs.Search.{Found, visited}
use Rattle.sk_solve.specs.SearchLaws.{is_certified, PassesAt, NonePasses}
use Rattle.sk_regen.specs.Works.{Works}
use Rattle.sk_regen.specs.Regeneration.{Left, State, point_of, fixed_of, started, visit, member, left_by}
use Rattle.sk_regen.specs.FoldLaws.{Each}

abbrev pub HasBadFrame : {s : ℕ} → Works s → Numbers s → GroupId → Type 0
HasBadFrame w n g = (e : FrameFault) × (w.bad_frame n g ≡ Some e)

abbrev pub NoneVisited : (List ℤ → Outcome) → List ℤ → Type 0
NoneVisited visit x0 = NonePasses visit (visited visit x0)

-- The group stands in the report once. Its point is where its unknowns are kept. Where it is certified its frame is there, and the
-- test of its system, over the numbers before it and the fixed parameters as they are kept, passes at that point. Where it isn't, its
-- frame is bad, or the test passes at none of the points that are visited from where its unknowns stood.
pub record ComesOut {s : ℕ} (w : Works s) (stored : List (ParamValue s)) (n : Numbers s) (g : GroupId) (x : Left s) : Type 0 where
  pub result : Found
  pub listed : x.members ≡ member w n g (fixed_of (w.is_unknown g) x.params) result ∷ []
  pub point : point_of (w.is_unknown g) x.params ≡ result.point
  pub certified : is_certified result.verdict ≡ true → (w.bad_frame n g ≡ None) × PassesAt (visit w n g (fixed_of (w.is_unknown g) x.params)) result
  pub other : is_certified result.verdict ≡ false → HasBadFrame w n g ⊎ NoneVisited (visit w n g (fixed_of (w.is_unknown g) x.params)) (point_of (w.is_unknown g) (started w stored n g))

abbrev pub ComesOutLaw : Type 0
ComesOutLaw = (s : ℕ) (w : Works s) (stored : List (ParamValue s)) (order : List GroupId) (st : State s) → Each (left_by w stored) (ComesOut w stored) order st
