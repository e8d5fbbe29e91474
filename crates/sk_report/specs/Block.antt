-- What a report prints of a group: how it comes out and, where it is certified, its box.
use Rattle.std.specs.Prelude.{ℕ, ◌-◌, ℤ, List, map, length, get_or, slice_get, nat_lt, Option, None, option_map, if◌then◌else◌}
use Rattle.std.specs.List.{filter_map, enumerate_from}
use Rattle.sk_num.specs.Spelling.{quantity_text}
use Rattle.sk_types.specs.declared.handle.ParamId.{ParamId}
use Rattle.sk_krawczyk.specs.Box.{at_column}
use Rattle.sk_krawczyk.specs.declared.certificate.Certificate.{Certificate}
use Rattle.sk_krawczyk.specs.declared.certificate.Suspect.{Suspect}
use Rattle.sk_solve.specs.declared.result.Verdict.{Verdict}
use Rattle.sk_solve.specs.declared.report.Listed.{Listed}

-- what an unknown is called: a parameter by its handle, an auxiliary by its number from 0
pub data Name : Type 0 where
  Param : ℕ → Name
  Auxiliary : ℕ → Name

-- An unknown at the centre of the box: its name, the text of its number there, and the logarithm to base 2 of its radius, where it
-- is solved.
pub record Coordinate : Type 0 where
  pub name : Name
  pub text : List ℕ
  pub radius_log : Option ℤ

-- The box of a certified group: how many rows are retained, bound and spread, the held parameters by handle, the rows without a
-- pivot, and every unknown.
pub record PrintedBox : Type 0 where
  pub retained : ℕ
  pub bound : ℕ
  pub spread : ℕ
  pub held : List ℕ
  pub suspects : List Suspect
  pub centre : List Coordinate

pub record Block : Type 0 where
  pub group : ℕ
  pub verdict : Verdict
  pub box : Option PrintedBox

abbrev pub param_handle : ParamId → ℕ
param_handle p = p.0

-- the unknown of a column: the parameters come first, then the auxiliaries
abbrev pub name_at : List ParamId → ℕ → Name
name_at params c = if nat_lt c (length params) then Param (param_handle (get_or params c (record { 0 = 0 }))) else Auxiliary (c - length params)

-- as far as the box reaches in a column; nothing in a held one
abbrev pub radius_log_at : List ℕ → List ℤ → ℕ → Option ℤ
radius_log_at solved logs c = at_column (length solved) (λ j. get_or solved j 0) (slice_get logs) None c

-- the unknown of a column, with its number
abbrev pub coordinate : {s : ℕ} → List ParamId → Certificate s → ℕ × ℤ → Coordinate
coordinate {s} params k p = record { name = name_at params p.0; text = quantity_text s p.1; radius_log = radius_log_at k.solved k.radius_logs p.0 }

-- from a column on
unfoldable pub coordinates : {s : ℕ} → List ParamId → Certificate s → ℕ → List ℤ → List Coordinate
coordinates params k c numbers = map (coordinate params k) (enumerate_from c numbers)

-- the parameters in these columns
abbrev pub params_in : List ParamId → List ℕ → List ParamId
params_in params columns = filter_map (slice_get params) columns

unfoldable pub printed_box : {s : ℕ} → List ParamId → Certificate s → PrintedBox
printed_box params k = record {
  retained = length k.retained;
  bound = k.bound;
  spread = k.spread;
  held = map param_handle (params_in params k.held);
  suspects = k.suspects;
  centre = coordinates params k 0 k.centre;
}

abbrev pub printed : {s : ℕ} → Listed s → Block
printed l = record { group = l.group.0; verdict = l.result.verdict; box = option_map (printed_box l.params) l.result.certificate }
