-- What a report says of each group: a group is printed certified exactly where its printed box passes the interval test.
use Rattle.std.specs.Prelude.{◌≡◌, ◌⊎◌, ℕ, ℤ, List, [], ◌∷◌, ◌++◌, map, length, take, Bool, true, false, Some, None, Ok, codes}
use Rattle.std.specs.Fmt.{decimal}
use Rattle.std.specs.List.{All, count_by, flat_map, range_with_len}
use Rattle.sk_num.specs.Spelling.{quantity_of}
use Rattle.sk_types.specs.declared.entity.Numbers.{Numbers}
use Rattle.sk_types.specs.declared.entity.ParamValue.{ParamValue}
use Rattle.sk_types.specs.declared.handle.GroupId.{GroupId}
use Rattle.sk_types.specs.declared.handle.ParamId.{ParamId}
use Rattle.sk_expr.specs.Seen.{Seen, without_names}
use Rattle.sk_expr.specs.System.{SystemAt}
use Rattle.sk_expr.specs.declared.row.RowName.{RowName}
use Rattle.sk_files.specs.Taken.{Takes}
use Rattle.sk_krawczyk.specs.Answers.{names_at, named_suspect, with_name}
use Rattle.sk_krawczyk.specs.CertifiedBox.{certified_box}
use Rattle.sk_krawczyk.specs.IntervalTest.{Certificate, interval_test, passes}
use Rattle.sk_krawczyk.specs.SoundBox.{IsSoundBox}
use Rattle.sk_regen.specs.Works.{Works}
use Rattle.sk_regen.specs.declared.state.Left.{Left}
use Rattle.sk_regen.specs.declared.state.State.{State}
use Rattle.sk_regen.specs.Regeneration.{point_of, fixed_of, started, unknowns, visit, taken, left_by, at_references}
use Rattle.sk_regen.specs.FoldLaws.{AllStored}
use Rattle.sk_regen.specs.CertifiedLaws.{HasBadFrame, NoneVisited}
use Rattle.sk_regen.specs.Below.{below}
use Rattle.sk_regen.specs.NewText.{order_of, works_of, new_lists}
use Rattle.sk_report.specs.Block.{Block, Coordinate, Name, Param, PrintedBox, name_at, param_handle, params_in}
use Rattle.sk_report.specs.BlockLaws.{printed_reach, still}
use Rattle.sk_report.specs.ReportText.{line, block_text, is_certified}
use Rattle.sk_app.specs.Answer.{Accepted}
use Rattle.sk_app.specs.Command.{Command, Report, Regen, Draw, Make}
use Rattle.sk_app.specs.Ends.{Run}

-- ---- a printed box

abbrev pub names_of : List Coordinate → List Name
names_of xs = map (λ (x : Coordinate). x.name) xs

-- The lines print the box of a certificate, for a system v whose first unknowns are these parameters and whose rows have these names.
pub record Prints (s : ℕ) (params : List ParamId) (rows : List RowName) (v : SystemAt) (c : Certificate) (b : PrintedBox) : Type 0 where
  -- the counts; bound and spread; the rows without a pivot
  pub retained : b.retained ≡ length c.retained
  pub bound : b.bound ≡ c.bound
  pub spread : b.spread ≡ c.spread
  pub suspects : map named_suspect b.suspects ≡ map (with_name rows) c.suspects
  -- a line for each unknown in order: its name; its number, which is read back; and how far the box reaches in it
  pub names : names_of b.centre ≡ map (name_at params) (range_with_len 0 (length c.centre))
  pub centre : map (λ (x : Coordinate). quantity_of s x.text) b.centre ≡ map (λ (z : ℤ). Ok z) c.centre
  pub radii : map (λ (x : Coordinate). printed_reach s x.radius_log) b.centre ≡ map (certified_box v c).reach (range_with_len 0 (length c.centre))
  -- the held parameters are those in which the box doesn't reach, and they alone have no radius
  pub held : b.held ≡ map param_handle (params_in params c.held)
  pub held_still : All (λ u. (certified_box v c).reach u ≡ 0) c.held
  pub held_lines : names_of (still b) ≡ map Param b.held

-- ---- a printed group

-- The group's frame is there. Its system, over the numbers that earlier groups left and over its fixed parameters, passes the interval
-- test at the point where its unknowns are kept; the block prints the box of the test's certificate, which is sound: at every
-- precision it holds a point with residuals within the bound, any two such points are within the spread, and so on. All of the
-- group's parameters are kept in the new text.
pub record IsPassed {s : ℕ} (w : Works s) (now : List (ParamValue s)) (n : Numbers s) (g : GroupId) (x : Left s) (b : PrintedBox) : Type 0 where
  pub frame : w.bad_frame n g ≡ None
  pub seen : Seen
  pub there : w.seen n g (fixed_of (w.is_unknown g) x.params) (point_of (w.is_unknown g) x.params) ≡ Some seen
  pub solved : List ℕ
  pub step : List ℤ
  pub certificate : Certificate
  pub passed : interval_test s (without_names (length (unknowns w g)) seen) ≡ passes solved step certificate
  pub prints : Prints s (unknowns w g) (names_at (Some seen)) (without_names (length (unknowns w g)) seen) certificate b
  pub sound : IsSoundBox s (certified_box (without_names (length (unknowns w g)) seen) certificate)
  pub begins : take (length (unknowns w g)) certificate.centre ≡ point_of (w.is_unknown g) x.params
  pub kept : AllStored now x.params

-- where a group isn't certified, its frame is bad, or the test passes at none of the points that are visited from where its
-- unknowns are stored
abbrev pub IsNotPassed : {s : ℕ} → Works s → List (ParamValue s) → Numbers s → GroupId → Left s → Type 0
IsNotPassed w stored n g x =
    HasBadFrame w n g ⊎ NoneVisited (visit w n g (fixed_of (w.is_unknown g) x.params)) (point_of (w.is_unknown g) (started w stored n g))

-- the block of a group, where stored are the parameters of the text and now those of its regeneration
pub record Says {s : ℕ} (w : Works s) (stored now : List (ParamValue s)) (n : Numbers s) (g : GroupId) (x : Left s) (b : Block) : Type 0 where
  pub group : b.group ≡ g.0
  pub certified : is_certified b.verdict ≡ true → (box : PrintedBox) × (b.box ≡ Some box) × IsPassed w now n g x box
  pub other : is_certified b.verdict ≡ false → (b.box ≡ None) × IsNotPassed w stored n g x

-- ---- a printed report

-- one block for each group, in order, over what the groups before it left
abbrev pub AreSaid : {s : ℕ} → (Numbers s → GroupId → Left s) → (Numbers s → GroupId → Left s → Block → Type 0) → List GroupId → State s → List Block → Type 0
AreSaid left P [] st bs = bs ≡ []
AreSaid left P (g ∷ gs) st [] = ⊥
AreSaid left P (g ∷ gs) st (b ∷ bs) = P st.numbers g (left st.numbers g) b × AreSaid left P gs (taken st (left st.numbers g)) bs

-- the blocks of all groups but group 1, in group order
abbrev pub AreBlocks : {s : ℕ} → Accepted s → List Block → Type 0
AreBlocks a bs =
    AreSaid (left_by (works_of (below a.parts) a.model.lists a.outlined) a.model.lists.params)
    (Says (works_of (below a.parts) a.model.lists a.outlined) a.model.lists.params (new_lists (below a.parts) a.model.lists a.outlined).params)
    (order_of a.outlined) (at_references (works_of (below a.parts) a.model.lists a.outlined)) bs

abbrev pub certified_among : List Block → ℕ
certified_among bs = count_by (λ (b : Block). is_certified b.verdict) bs

-- the blocks, and how many of them are certified
abbrev pub report_text : List Block → List ℕ
report_text bs = flat_map block_text bs ++ line (codes "certified " ++ (decimal (certified_among bs) ++ (codes " of " ++ decimal (length bs))))

-- The report was taken, and what is behind it.
pub record IsReported {s : ℕ} (a : Accepted s) (r : Run) (behind : List ℕ) (blocks : List Block) : Type 0 where
  pub said : AreBlocks a blocks
  pub taken : Takes r.taken_before r.taken (report_text blocks ++ behind)

-- A model that is accepted is reported: all of its groups are certified on status 0, and some isn't on 10; where its file wasn't
-- written, the line that tells it is behind the report.
pub record Headline {s : ℕ} (a : Accepted s) (r : Run) (status : ℕ) : Type 0 where
  pub all : status ≡ 0 → (blocks : List Block) × IsReported a r [] blocks × (certified_among blocks ≡ length blocks)
  pub some : status ≡ 10 → (blocks : List Block) × IsReported a r [] blocks × ((certified_among blocks ≡ length blocks) → ⊥)
  pub unwritten : status ≡ 5 → (blocks : List Block) × (line : List ℕ) × IsReported a r line blocks

-- the commands that put a report
abbrev pub is_reporting : Command → Bool
is_reporting (Report model) = true
is_reporting (Regen model out) = true
is_reporting (Draw model group out) = true
is_reporting (Make n out) = false
