-- The code's answers beside the definitions'.
use Rattle.std.specs.Prelude.{◌≡◌, ◌≤◌, ◌≤ℤ◌, ◌+ℤ◌, ◌<◌, ℕ, ◌^◌, ◌*◌, List, [], map, length, slice_get, take, ℤ, pos, negsuc, unsigned_abs, Option, Some, None, Bool, true, false, not}
use Rattle.std.specs.List.{All, filter, range_with_len}
use Rattle.sk_expr.specs.Columns.{is_among, RisesFrom}
use Rattle.sk_expr.specs.System.{SystemAt}
use Rattle.sk_expr.specs.Seen.{Seen, without_names}
use Rattle.sk_expr.specs.Rows.{NamedRow}
use Rattle.sk_expr.specs.declared.row.RowName.{RowName}
use Rattle.sk_expr.specs.declared.visited.Visited.{Visited}
use Rattle.sk_elim.specs.Elimination.{flat, past_limit}
use Rattle.sk_krawczyk.specs.Box.{Basis}
use Rattle.sk_krawczyk.specs.IntervalTest.{Suspect, Certificate, Outcome, stops, fails, passes, BoxOutcome, unmet, met, certificate_in, interval_test}
use Rattle.sk_krawczyk.specs.SoundBox.{IsSoundBox}
use Rattle.sk_krawczyk.specs.CertifiedBox.{certified_box}
use Rattle.sk_krawczyk.specs.declared.basis.Basis.{Basis as StoredBasis}
use Rattle.sk_krawczyk.specs.declared.certificate.Certificate.{Certificate as StoredCertificate}
use Rattle.sk_krawczyk.specs.declared.certificate.Given.{Given}
use Rattle.sk_krawczyk.specs.declared.certificate.Suspect.{Suspect as NamedSuspect}
use Rattle.sk_krawczyk.specs.declared.fault.CertFault.{CertFault}
use Rattle.sk_krawczyk.specs.declared.fault.CertFault.TheVariants.{Flat, PastLimit, NoMemory}
use Rattle.sk_krawczyk.specs.declared.point.Tried.{Tried}

-- the radius, in units of 2^-s, whose logarithm in plain numbers is l
abbrev pub radius_of_log : ℕ → ℤ → ℕ
radius_of_log s l = 2 ^ unsigned_abs (l +ℤ pos s)

-- the logarithm of a radius from 16 units to 2^-10
pub record IsRadiusLog (s : ℕ) (l : ℤ) : Type 0 where
  pub least : pos 4 ≤ℤ (l +ℤ pos s)
  pub most : l ≤ℤ negsuc 9

-- suspects by the names of their rows
abbrev pub with_name : List RowName → Suspect → Option RowName × Bool
with_name names x = (slice_get names x.row, x.misses)

abbrev pub named_suspect : NamedSuspect → Option RowName × Bool
named_suspect x = (Some x.row, x.misses)

-- the code's certificate holds the definition's; names are those of the system's rows
pub record IsCertificate {s : ℕ} (names : List RowName) (k : StoredCertificate s) (c : Certificate) : Type 0 where
  pub centre : k.centre ≡ c.centre
  pub radii : map (radius_of_log s) k.radius_logs ≡ c.radii
  pub logs : All (IsRadiusLog s) k.radius_logs
  pub bound : k.bound ≡ c.bound
  pub spread : k.spread ≡ c.spread
  pub held : k.held ≡ c.held
  pub solved : k.solved ≡ c.solved
  pub retained : k.retained ≡ c.retained
  pub suspects : map named_suspect k.suspects ≡ map (with_name names) c.suspects
  pub inverse_rows : k.inverse.rows ≡ length c.solved
  pub inverse_cols : k.inverse.cols ≡ length c.retained
  pub inverse : k.inverse.cells ≡ c.inverse

-- a point that was tried, beside the test's outcome
abbrev pub IsTried : {s : ℕ} → List RowName → Outcome → Tried s → Type 0
IsTried names (stops h) t = ⊥
IsTried names (fails columns moves) t = (t.solved ≡ columns) × (t.step ≡ moves) × (t.certificate ≡ None)
IsTried {s} names (passes columns moves c) t = (t.solved ≡ columns) × (t.step ≡ moves) × ((k : StoredCertificate s) × (t.certificate ≡ Some k) × IsCertificate names k c)

-- the certificate alone
abbrev pub IsCertified : {s : ℕ} → List RowName → Outcome → Option (StoredCertificate s) → Type 0
IsCertified names (stops h) o = ⊥
IsCertified names (fails columns moves) o = o ≡ None
IsCertified {s} names (passes columns moves c) o = (k : StoredCertificate s) × (o ≡ Some k) × IsCertificate names k c

-- why there is no outcome but that the test stops; want of memory says nothing
abbrev pub StopsAs : Outcome → CertFault → Type 0
StopsAs o (Flat r) = o ≡ stops (flat r)
StopsAs o PastLimit = o ≡ stops past_limit
StopsAs o NoMemory = Unit {0}

-- the certificate is the definition's of some sound box of the system
abbrev pub IsSound : {s : ℕ} → List RowName → SystemAt → StoredCertificate s → Type 0
IsSound {s} names v k = (c : Certificate) × IsCertificate names k c × IsSoundBox s (certified_box v c)

-- Each unknown is held or solved, and exactly one of these; what is held are parameters; both lists rise. There are as many
-- retained rows and as many radii as solved unknowns, and the inverse has a cell for each solved unknown and each retained row.
pub record IsWhole {s : ℕ} (params : ℕ) (k : StoredCertificate s) : Type 0 where
  pub params_in : params ≤ length k.centre
  pub parts : (c : ℕ) → c < length k.centre → is_among k.solved c ≡ not (is_among k.held c)
  pub solved_in : All (λ c. c < length k.centre) k.solved
  pub solved_rise : RisesFrom 0 k.solved
  pub held_in : All (λ c. c < params) k.held
  pub held_rise : RisesFrom 0 k.held
  pub as_many_rows : length k.retained ≡ length k.solved
  pub as_many_radii : length k.radius_logs ≡ length k.solved
  pub inverse_rows : k.inverse.rows ≡ length k.solved
  pub inverse_cols : k.inverse.cols ≡ length k.retained
  pub inverse : length k.inverse.cells ≡ k.inverse.rows * k.inverse.cols

-- The interval test of the system passes, and this is its certificate: it is whole, and its box is sound.
pub record IsOfPass {s : ℕ} (names : List RowName) (v : SystemAt) (k : StoredCertificate s) : Type 0 where
  pub certificate : Certificate
  pub solved : List ℕ
  pub step : List ℤ
  pub passed : interval_test s v ≡ passes solved step certificate
  pub is : IsCertificate names k certificate
  pub whole : IsWhole v.params k
  pub sound : IsSoundBox s (certified_box v certificate)

-- the outcome at a point: where a reading passes the limit there is no system to test
abbrev pub outcome_at : ℕ → ℕ → Option Seen → Outcome
outcome_at s params None = stops past_limit
outcome_at s params (Some seen) = interval_test s (without_names params seen)

abbrev pub names_at : Option Seen → List RowName
names_at None = []
names_at (Some seen) = map (λ (r : NamedRow). r.name) seen.rows

-- The interval test of the system at the point x passes, and this is its certificate, whose centre begins with x.
pub record IsSoundAt {s : ℕ} (params : ℕ) (at : List ℤ → Option Seen) (x : List ℤ) (k : StoredCertificate s) : Type 0 where
  pub seen : Seen
  pub there : at x ≡ Some seen
  pub pass : IsOfPass (names_at (at x)) (without_names params seen) k
  pub begins : take (length x) k.centre ≡ x

-- ---- where columns, rows, an inverse and radii are given

-- the numbers below n that aren't listed
abbrev pub others : ℕ → List ℕ → List ℕ
others n listed = filter (λ c. not (is_among listed c)) (range_with_len 0 n)

-- parameters that aren't solved are held, rows that aren't retained are suspects
abbrev pub given_basis : {s : ℕ} → ℕ → Visited s → Given s → Basis
given_basis params v g = record {
  held = others params g.solved;
  solved = g.solved;
  retained = g.retained;
  suspects = others (length v.rows) g.retained;
  inverse = g.inverse.cells;
}

-- columns and rows are in range and rise, there are as many of each as radii, and the sizes fit
pub record IsGiven {s : ℕ} (v : Visited s) (g : Given s) : Type 0 where
  pub columns_in : All (λ c. c < length v.unknowns) g.solved
  pub columns_rise : RisesFrom 0 g.solved
  pub rows_in : All (λ r. r < length v.rows) g.retained
  pub rows_rise : RisesFrom 0 g.retained
  pub as_many : length g.solved ≡ length g.retained
  pub one_each : length g.radius_logs ≡ length g.solved
  pub logs : All (IsRadiusLog s) g.radius_logs
  pub inverse_rows : g.inverse.rows ≡ length g.solved
  pub inverse_cols : g.inverse.cols ≡ length g.retained
  pub inverse : length g.inverse.cells ≡ g.inverse.rows * g.inverse.cols

-- the certificate, present exactly where no number passes the limit and the conditions are met
abbrev pub IsPresent : {s : ℕ} → List RowName → BoxOutcome → Option (StoredCertificate s) → Type 0
IsPresent names o None = certificate_in o ≡ None
IsPresent names o (Some k) = (c : Certificate) × (certificate_in o ≡ Some c) × IsCertificate names k c

-- ---- inside the crate

abbrev pub plain_basis : {s : ℕ} → StoredBasis s → Basis
plain_basis b = record { held = b.held; solved = b.solved; retained = b.retained; suspects = b.suspects; inverse = b.inverse.cells }

-- columns and rows in range, and sizes that fit
pub record IsBasis {s : ℕ} (v : Visited s) (b : StoredBasis s) : Type 0 where
  pub columns_in : All (λ c. c < length v.unknowns) b.solved
  pub rows_in : All (λ r. r < length v.tape.roots) b.retained
  pub suspects_in : All (λ r. r < length v.tape.roots) b.suspects
  pub square : length b.solved ≡ length b.retained
  pub few : length b.solved ≤ 65535
  pub inverse_rows : b.inverse.rows ≡ length b.solved
  pub inverse_cols : b.inverse.cols ≡ length b.retained
  pub inverse : length b.inverse.cells ≡ b.inverse.rows * b.inverse.cols

-- the certificate of a test over a box, present exactly where the test is met
abbrev pub IsMet : {s : ℕ} → List RowName → BoxOutcome → Option (StoredCertificate s) → Type 0
IsMet names o None = o ≡ unmet
IsMet names o (Some k) = (c : Certificate) × (o ≡ met c) × IsCertificate names k c

-- the same where a box that would be too large isn't tested
abbrev pub IsTested : {s : ℕ} → Bool → List RowName → BoxOutcome → Option (StoredCertificate s) → Type 0
IsTested true names o c = IsMet names o c
IsTested false names o c = c ≡ None
