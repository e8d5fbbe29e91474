-- What the lines of a block stand for.
use Rattle.std.specs.Prelude.{◌≡◌, ℕ, ℤ, Bool, not, List, map, length, Option, Some, None, is_some, Ok}
use Rattle.std.specs.List.{All, filter}
use Rattle.sk_num.specs.Limit.{IsInLimit}
use Rattle.sk_num.specs.Scale.{IsScale}
use Rattle.sk_num.specs.Spelling.{quantity_of}
use Rattle.sk_types.specs.declared.handle.ParamId.{ParamId}
use Rattle.sk_expr.specs.System.{SystemAt}
use Rattle.sk_expr.specs.declared.row.RowName.{RowName}
use Rattle.sk_krawczyk.specs.IntervalTest.{Certificate as PlainCertificate}
use Rattle.sk_krawczyk.specs.CertifiedBox.{certified_box}
use Rattle.sk_krawczyk.specs.Answers.{radius_of_log, IsCertificate, IsWhole}
use Rattle.sk_krawczyk.specs.declared.certificate.Certificate.{Certificate}
use Rattle.sk_report.specs.Block.{Param, Coordinate, PrintedBox, name_at, radius_log_at, printed_box}

-- ---- the centre

-- there is a line for each unknown, in order, and its number is read back
abbrev pub CentreLaw : Type 0
CentreLaw = (s : ℕ) (params : List ParamId) (k : Certificate s) → IsScale s → All IsInLimit k.centre →
    map (λ (x : Coordinate). quantity_of s x.text) (printed_box params k).centre ≡ map (λ (z : ℤ). Ok z) k.centre

-- ---- held and solved unknowns

abbrev pub is_wide : Coordinate → Bool
is_wide x = is_some x.radius_log

-- the lines with a radius, and those without
abbrev pub wide : PrintedBox → List Coordinate
wide b = filter is_wide b.centre

abbrev pub still : PrintedBox → List Coordinate
still b = filter (λ x. not (is_wide x)) b.centre

-- There is a line with a radius for each solved column, in order, and one without for each held parameter, in order.
pub record StandsFor {s : ℕ} (params : List ParamId) (k : Certificate s) (b : PrintedBox) : Type 0 where
  pub solved : map (λ (x : Coordinate). x.name) (wide b) ≡ map (name_at params) k.solved
  pub radii : map (λ (x : Coordinate). x.radius_log) (wide b) ≡ map (λ (z : ℤ). Some z) k.radius_logs
  pub held : map (λ (x : Coordinate). x.name) (still b) ≡ map Param b.held

abbrev pub LineLaw : Type 0
LineLaw = (s : ℕ) (params : List ParamId) (k : Certificate s) → IsWhole (length params) k → StandsFor params k (printed_box params k)

-- ---- radii

-- how far a box reaches in an unknown that is printed so, in units of 2^-s; not at all where no radius is
abbrev pub printed_reach : ℕ → Option ℤ → ℕ
printed_reach s None = 0
printed_reach s (Some log) = radius_of_log s log

-- the printed radii are those of the certified box
abbrev pub ReachLaw : Type 0
ReachLaw = (s : ℕ) (names : List RowName) (v : SystemAt) (k : Certificate s) (c : PlainCertificate) → IsCertificate names k c →
    (u : ℕ) → (certified_box v c).reach u ≡ printed_reach s (radius_log_at k.solved k.radius_logs u)
