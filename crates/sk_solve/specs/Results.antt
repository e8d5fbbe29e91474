-- The code's results beside the definition's.
use Rattle.std.specs.Prelude.{◌≡◌, ℕ, suc, List, ℤ, Option, Some, None, IfSome}
use Rattle.sk_expr.specs.Seen.{Seen}
use Rattle.sk_expr.specs.declared.row.RowName.{RowName}
use Rattle.sk_krawczyk.specs.IntervalTest.{Outcome, stops, fails, passes, Certificate}
use Rattle.sk_krawczyk.specs.Answers.{IsCertificate, IsSoundAt}
use Rattle.sk_krawczyk.specs.declared.certificate.Certificate.{Certificate as StoredCertificate}
use Rattle.sk_solve.specs.declared.result.GroupResult.{GroupResult}
use Rattle.sk_solve.specs.declared.visit.Visit.{Visit}
use Rattle.sk_solve.specs.declared.visit.Visit.TheVariants.{Stops, Fails, Passes}
use Rattle.sk_solve.specs.Search.{Found, verdict_of, searched}

-- the code's certificate holds the definition's, where there is one
abbrev pub IsHeld : {s : ℕ} → List RowName → Option Certificate → Option (StoredCertificate s) → Type 0
IsHeld names None o = o ≡ None
IsHeld {s} names (Some c) o = (k : StoredCertificate s) × (o ≡ Some k) × IsCertificate names k c

-- how a group comes out, as the code holds it; names are those of the rows at a point
pub record IsFound {s : ℕ} (names : List ℤ → List RowName) (f : Found) (g : GroupResult s) : Type 0 where
  pub verdict : g.verdict ≡ f.verdict
  pub point : g.point ≡ f.point
  pub certificate : IsHeld (names f.point) f.certificate g.certificate

-- ---- inside the crate

-- what a visited point gives, beside the test's outcome
abbrev pub IsVisit : {s : ℕ} → List RowName → Outcome → Visit s → Type 0
IsVisit names (stops h) v = v ≡ Stops (verdict_of h)
IsVisit names (fails solved step) v = v ≡ Fails solved step
IsVisit {s} names (passes solved step c) v = (k : StoredCertificate s) × (v ≡ Passes k) × IsCertificate names k c

-- its certificate is of a test that passes there
abbrev pub VisitProved : {s : ℕ} → ℕ → (List ℤ → Option Seen) → List ℤ → Visit s → Type 0
VisitProved params at x (Stops v) = Unit {0}
VisitProved params at x (Fails solved step) = Unit {0}
VisitProved params at x (Passes k) = IsSoundAt params at x k

abbrev pub ResultProved : {s : ℕ} → ℕ → (List ℤ → Option Seen) → GroupResult s → Type 0
ResultProved params at g = IfSome g.certificate (IsSoundAt params at g.point)

-- what one of the points decides: how the group comes out, or the next point
abbrev pub Decides : {s : ℕ} → (List ℤ → Outcome) → (List ℤ → List RowName) → List ℤ → List ℤ → List ℤ → Option (GroupResult s) → Type 0
Decides visit names x0 x y (Some g) = (n : ℕ) → IsFound names (searched (suc n) visit x0 x) g
Decides visit names x0 x y None = (n : ℕ) → searched (suc n) visit x0 x ≡ searched n visit x0 y
