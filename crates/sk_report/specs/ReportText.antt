-- The text of a report: a block for each listed group, and the last line.
use Rattle.std.specs.Prelude.{ℕ, ℤ, Bool, true, false, List, [], ◌∷◌, ◌++◌, length, Option, Some, None, codes, if◌then◌else◌}
use Rattle.std.specs.List.{flat_map, count_by}
use Rattle.std.specs.Fmt.{decimal, signed_decimal}
use Rattle.sk_num.specs.Numerals.{padded}
use Rattle.sk_expr.specs.declared.row.RowKind.{RowKind}
use Rattle.sk_expr.specs.declared.row.RowKind.TheVariants.{OfEntity, OfGroup, OfConstraint}
use Rattle.sk_krawczyk.specs.declared.certificate.Suspect.{Suspect}
use Rattle.sk_solve.specs.declared.result.Verdict.{Verdict}
use Rattle.sk_solve.specs.declared.result.Verdict.TheVariants.{Certified, Degenerate, Range, Unsolved}
use Rattle.sk_solve.specs.declared.report.Listed.{Listed}
use Rattle.sk_solve.specs.declared.report.Report.{Report}
use Rattle.sk_report.specs.Block.{Name, Param, Auxiliary, Coordinate, PrintedBox, Block, printed}

abbrev pub line : List ℕ → List ℕ
line text = text ++ 10 ∷ []

-- a handle in eight digits
abbrev pub handle : ℕ → List ℕ
handle h = padded 16 8 h

-- ---- the head of a block

abbrev pub verdict_text : Verdict → List ℕ
verdict_text Certified = codes "certified"
verdict_text Degenerate = codes "degenerate"
verdict_text Range = codes "range"
verdict_text Unsolved = codes "unsolved"

unfoldable pub head_line : ℕ → Verdict → List ℕ
head_line group verdict = line (codes "group " ++ (handle group ++ (codes " " ++ verdict_text verdict)))

-- ---- the box of a certified group

unfoldable pub count_line : ℕ → ℕ → ℕ → List ℕ
count_line unknowns retained free =
    line (codes "unknowns " ++ (decimal unknowns ++ (codes " retained " ++ (decimal retained ++ (codes " free " ++ decimal free)))))

unfoldable pub bound_line : ℕ → ℕ → List ℕ
bound_line bound spread = line (codes "bound " ++ (decimal bound ++ (codes " spread " ++ decimal spread)))

abbrev pub spaced_handle : ℕ → List ℕ
spaced_handle h = codes " " ++ handle h

abbrev pub held_text : List ℕ → List ℕ
held_text [] = codes " none"
held_text (h ∷ hs) = flat_map spaced_handle (h ∷ hs)

unfoldable pub held_line : List ℕ → List ℕ
held_line held = line (codes "held" ++ held_text held)

-- what a row is of
abbrev pub kind_letter : RowKind → List ℕ
kind_letter OfEntity = codes "e"
kind_letter OfGroup = codes "g"
kind_letter OfConstraint = codes "c"

-- whether the row is zero nowhere in the box
abbrev pub miss_text : Bool → List ℕ
miss_text misses = if misses then codes " misses" else codes " open"

unfoldable pub suspect_line : Suspect → List ℕ
suspect_line x =
    line (codes "suspect " ++ (kind_letter x.row.kind ++ (codes " " ++ (handle x.row.handle ++ (codes " " ++ (decimal x.row.index ++ miss_text x.misses))))))

abbrev pub name_text : Name → List ℕ
name_text (Param h) = codes "param " ++ handle h
name_text (Auxiliary i) = codes "aux " ++ decimal i

abbrev pub radius_text : Option ℤ → List ℕ
radius_text None = []
radius_text (Some log) = codes " radius 2^" ++ signed_decimal log

unfoldable pub coordinate_line : Coordinate → List ℕ
coordinate_line x = line (name_text x.name ++ (codes " " ++ (x.text ++ radius_text x.radius_log)))

unfoldable pub box_text : PrintedBox → List ℕ
box_text b =
    count_line (length b.centre) b.retained (length b.held)
    ++ (bound_line b.bound b.spread ++ (held_line b.held ++ (flat_map suspect_line b.suspects ++ flat_map coordinate_line b.centre)))

abbrev pub box_lines : Option PrintedBox → List ℕ
box_lines None = []
box_lines (Some b) = box_text b

abbrev pub block_text : Block → List ℕ
block_text b = head_line b.group b.verdict ++ box_lines b.box

unfoldable pub group_text : {s : ℕ} → Listed s → List ℕ
group_text l = block_text (printed l)

-- ---- the last line: how many of the listed groups are certified

abbrev pub is_certified : Verdict → Bool
is_certified Certified = true
is_certified Degenerate = false
is_certified Range = false
is_certified Unsolved = false

unfoldable pub last_line : {s : ℕ} → Report s → List ℕ
last_line {s} r =
    line (codes "certified " ++ (decimal (count_by (λ (l : Listed s). is_certified l.result.verdict) r.groups) ++ (codes " of " ++ decimal (length r.groups))))
