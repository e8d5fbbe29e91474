-- Worked rows of reports, by computation.
use Rattle.std.specs.Prelude.{◌≡◌, ℕ, ◌+◌, ◌-◌, ◌*◌, ◌^◌, pos, negsuc, true, false, List, [], ◌∷◌, ◌++◌, map, take, codes, Some, None, refl}
use Rattle.std.specs.Fmt.{digits}
use Rattle.sk_num.specs.Numerals.{padded}
use Rattle.sk_num.specs.Decimals.{decimal_text}
use Rattle.sk_num.specs.Spelling.{quantity_text}
use Rattle.sk_types.specs.declared.handle.ParamId.{ParamId}
use Rattle.sk_expr.specs.declared.row.RowKind.{RowKind}
use Rattle.sk_expr.specs.declared.row.RowKind.TheVariants.{OfEntity, OfGroup, OfConstraint}
use Rattle.sk_krawczyk.specs.declared.certificate.Certificate.{Certificate}
use Rattle.sk_krawczyk.specs.declared.certificate.Suspect.{Suspect}
use Rattle.sk_solve.specs.declared.result.Verdict.{Verdict}
use Rattle.sk_solve.specs.declared.result.Verdict.TheVariants.{Certified, Degenerate, Range, Unsolved}
use Rattle.sk_solve.specs.declared.report.Listed.{Listed}
use Rattle.sk_solve.specs.declared.report.Report.{Report}
use Rattle.sk_report.specs.Block.{coordinates, printed_box}
use Rattle.sk_report.specs.ReportText.{head_line, count_line, bound_line, held_line, suspect_line, coordinate_line, box_text, group_text, last_line}

-- parameters of request 4 or 5
abbrev params_of : List ℕ → List ParamId
params_of hs = map (λ h. record { 0 = h }) hs

abbrev suspect : RowKind → ℕ → ℕ → Suspect
suspect kind handle index = record { row = record { kind = kind; handle = handle; index = index }; misses = false }

abbrev row : ℕ → Suspect
row handle = suspect OfConstraint handle 0

-- ---- a point in space, of which two numbers are solved and one is held, and two rows without a pivot

abbrev in-space : Certificate 36
in-space = record {
  radius_logs = negsuc 31 ∷ negsuc 31 ∷ [];
  bound = 4;
  spread = 16;
  centre = pos 0 ∷ negsuc (2 ^ 35 - 1) ∷ pos (3 * 2 ^ 36) ∷ [];
  held = 1 ∷ [];
  solved = 0 ∷ 2 ∷ [];
  retained = 0 ∷ 1 ∷ [];
  suspects = row 3 ∷ (let x : Suspect = row 4 in record x { misses = true }) ∷ [];
  inverse = record { rows = 2; cols = 2; cells = pos (2 ^ 36) ∷ pos 0 ∷ pos 0 ∷ pos (2 ^ 36) ∷ [] };
}

abbrev space : Listed 36
space = record {
  group = record { 0 = 2 };
  params = params_of (262160 ∷ 262161 ∷ 262162 ∷ []);
  result = record { verdict = Certified; point = in-space.centre; certificate = Some in-space };
}

pub two-solved : group_text space
    ≡ codes "group 00000002 certified\nunknowns 3 retained 2 free 1\nbound 4 spread 16\nheld 00040011\nsuspect c 00000003 0 open\nsuspect c 00000004 0 misses\n"
    ++ codes "param 00040010 0.00000000000000000000 radius 2^-32\nparam 00040011 -0.50000000000000000000\nparam 00040012 3.00000000000000000000 radius 2^-32\n"
unfolding digits padded quantity_text decimal_text coordinates printed_box head_line count_line bound_line held_line suspect_line coordinate_line box_text group_text
two-solved = refl

-- ---- a point 5 from a line, on the finer grid: the line's length is an auxiliary, and each solved unknown has a radius of its own

abbrev from-line : Certificate 44
from-line = record {
  radius_logs = negsuc 36 ∷ negsuc 39 ∷ [];
  bound = 84;
  spread = 2688;
  centre = pos (5 * 2 ^ 44) ∷ negsuc (5 * 2 ^ 44 + 39) ∷ pos (10 * 2 ^ 44) ∷ [];
  held = 0 ∷ [];
  solved = 1 ∷ 2 ∷ [];
  retained = 0 ∷ 1 ∷ [];
  suspects = [];
  inverse = record { rows = 2; cols = 2; cells = [] };
}

abbrev line-group : Listed 44
line-group = record {
  group = record { 0 = 2 };
  params = params_of (327696 ∷ 327697 ∷ []);
  result = record { verdict = Certified; point = take 2 from-line.centre; certificate = Some from-line };
}

pub own-radii : group_text line-group
    ≡ codes "group 00000002 certified\nunknowns 3 retained 2 free 1\nbound 84 spread 2688\nheld 00050010\nparam 00050010 5.00000000000000000000\n"
    ++ codes "param 00050011 -5.00000000000227373675 radius 2^-37\naux 0 10.00000000000000000000 radius 2^-40\n"
unfolding digits padded quantity_text decimal_text coordinates printed_box head_line count_line bound_line held_line coordinate_line box_text group_text
own-radii = refl

-- ---- a group without unknowns or rows

abbrev empty : Certificate 36
empty = record {
  radius_logs = [];
  bound = 0;
  spread = 0;
  centre = [];
  held = [];
  solved = [];
  retained = [];
  suspects = [];
  inverse = record { rows = 0; cols = 0; cells = [] };
}

abbrev bare : Verdict → Listed 36
bare verdict = record { group = record { 0 = 10 }; params = []; result = record { verdict = verdict; point = []; certificate = None } }

pub nothing-held : group_text (let l : Listed 36 = bare Certified in record l { result = record { verdict = Certified; point = []; certificate = Some empty } })
    ≡ codes "group 0000000a certified\nunknowns 0 retained 0 free 0\nbound 0 spread 0\nheld none\n"
unfolding digits padded coordinates printed_box head_line count_line bound_line held_line box_text group_text
nothing-held = refl

-- ---- a group that isn't certified has its verdict alone

pub not-certified :
    (group_text (bare Unsolved) ≡ codes "group 0000000a unsolved\n")
    × (group_text (bare Range) ≡ codes "group 0000000a range\n")
    × (group_text (bare Degenerate) ≡ codes "group 0000000a degenerate\n")
unfolding padded head_line group_text
not-certified = (refl, refl, refl)

-- ---- rows without a pivot

-- of an entity, of a group, and the auxiliary of a constraint
pub suspects :
    (suspect_line (suspect OfEntity 262176 0) ≡ codes "suspect e 00040020 0 open\n")
    × (suspect_line (suspect OfGroup 3 1) ≡ codes "suspect g 00000003 1 open\n")
    × (suspect_line (suspect OfConstraint 4095 255) ≡ codes "suspect c 00000fff 255 open\n")
unfolding digits padded suspect_line
suspects = (refl, refl, refl)

-- ---- the last line

abbrev of : List (Listed 36) → Report 36
of groups = record { groups = groups }

pub last-lines :
    (last_line (of []) ≡ codes "certified 0 of 0\n")
    × (last_line (of (space ∷ bare Range ∷ [])) ≡ codes "certified 1 of 2\n")
    × (last_line (of (bare Unsolved ∷ bare Degenerate ∷ [])) ≡ codes "certified 0 of 2\n")
unfolding digits last_line
last-lines = (refl, refl, refl)
