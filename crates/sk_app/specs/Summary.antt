-- The one line that tells how a made model came out.
use Rattle.std.specs.Prelude.{ℕ, List, ◌++◌, length, codes, Option, Some, None}
use Rattle.std.specs.Fmt.{decimal}
use Rattle.std.specs.List.{count_by, sum_by}
use Rattle.sk_krawczyk.specs.declared.certificate.Certificate.{Certificate}
use Rattle.sk_solve.specs.declared.report.Listed.{Listed}
use Rattle.sk_report.specs.ReportText.{line, is_certified}

-- a count over the certificates of the groups that have one
abbrev pub of_certificate : {s : ℕ} → (Certificate s → ℕ) → Option (Certificate s) → ℕ
of_certificate count None = 0
of_certificate count (Some k) = count k

abbrev pub in_all : {s : ℕ} → (Certificate s → ℕ) → List (Listed s) → ℕ
in_all {s} count ls = sum_by (λ (l : Listed s). of_certificate count l.result.certificate) ls

-- the count of lines; listed and certified groups; unknowns, retained rows and held parameters of all certified groups
unfoldable pub made_line : {s : ℕ} → ℕ → List (Listed s) → List ℕ
made_line {s} n ls =
    line (codes "made " ++ decimal n
    ++ (codes " groups " ++ decimal (length ls))
    ++ (codes " certified " ++ decimal (count_by (λ (l : Listed s). is_certified l.result.verdict) ls))
    ++ (codes " unknowns " ++ decimal (in_all (λ (k : Certificate s). length k.centre) ls))
    ++ (codes " retained " ++ decimal (in_all (λ (k : Certificate s). length k.retained) ls))
    ++ (codes " free " ++ decimal (in_all (λ (k : Certificate s). length k.held) ls)))
