-- Regeneration: group after group, each over the numbers that the earlier ones left.
use Rattle.std.specs.Prelude.{ℕ, ◌==◌, List, [], ◌∷◌, ◌++◌, map, length, ℤ, Option, Some, None, unwrap_or, Bool, if◌then◌else◌}
use Rattle.std.specs.List.{filter}
use Rattle.sk_types.specs.declared.handle.GroupId.{GroupId}
use Rattle.sk_types.specs.declared.handle.ParamId.{ParamId}
use Rattle.sk_types.specs.declared.entity.ParamValue.{ParamValue}
use Rattle.sk_types.specs.declared.entity.Act.{Act}
use Rattle.sk_types.specs.declared.entity.Numbers.{Numbers}
use Rattle.sk_types.specs.Lookups.{value_of, act_handle}
use Rattle.sk_geom.specs.declared.fault.FrameFault.{FrameFault}
use Rattle.sk_geom.specs.declared.fault.FrameFault.TheVariants as frame_fault
pub use Rattle.sk_chain.specs.Dependence.{is_listed}
use Rattle.sk_model.specs.Changes.{with_first, with_params}
use Rattle.sk_expr.specs.declared.row.RowName.{RowName}
use Rattle.sk_krawczyk.specs.Answers.{outcome_at, names_at}
use Rattle.sk_krawczyk.specs.IntervalTest.{Outcome}
use Rattle.sk_solve.specs.declared.result.Verdict.{Verdict}
use Rattle.sk_solve.specs.declared.result.Verdict.TheVariants.{Degenerate, Range}
use Rattle.sk_solve.specs.Held.{result_by}
use Rattle.sk_solve.specs.Search.{Found, stayed, verdict_over}
use Rattle.sk_solve.specs.declared.report.Listed.{Listed}
pub use Rattle.sk_regen.specs.declared.state.Left.{Left}
pub use Rattle.sk_regen.specs.declared.state.State.{State}
use Rattle.sk_regen.specs.Works.{Works}

-- ---- a group's parameters

-- each stands at its stored value, an absent one where it starts
abbrev pub started_at : {s : ℕ} → Works s → List (ParamValue s) → Numbers s → GroupId → ParamId → ParamValue s
started_at w stored n g p = record { id = p; value = unwrap_or (value_of p.0 stored) (w.start n g p) }

abbrev pub started : {s : ℕ} → Works s → List (ParamValue s) → Numbers s → GroupId → List (ParamValue s)
started w stored n g = map (started_at w stored n g) (w.own g)

-- the values of the unknowns, and the parameters that are fixed
abbrev pub point_of : {s : ℕ} → (ParamId → Bool) → List (ParamValue s) → List ℤ
point_of t [] = []
point_of t (p ∷ ps) = if t p.id then p.value ∷ point_of t ps else point_of t ps

abbrev pub fixed_of : {s : ℕ} → (ParamId → Bool) → List (ParamValue s) → List (ParamValue s)
fixed_of t [] = []
fixed_of t (p ∷ ps) = if t p.id then fixed_of t ps else p ∷ fixed_of t ps

-- the unknowns at a point, the fixed parameters as they are
abbrev pub placed : {s : ℕ} → (ParamId → Bool) → List (ParamValue s) → List ℤ → List (ParamValue s)
placed t [] x = []
placed t (p ∷ ps) [] = p ∷ ps
placed t (p ∷ ps) (z ∷ zs) = if t p.id then record { id = p.id; value = z } ∷ placed t ps zs else p ∷ placed t ps (z ∷ zs)

-- ---- how a group comes out

-- a frame without a direction is degenerate, one past the limit is range
abbrev pub frame_verdict : FrameFault → Verdict
frame_verdict frame_fault.Degenerate = Degenerate
frame_verdict frame_fault.PastLimit = Range

-- a group with a bad frame has its verdict, and visits no point
abbrev pub unless_bad : Option FrameFault → List ℤ → Found → Found
unless_bad None x0 r = r
unless_bad (Some e) x0 r = stayed (frame_verdict e) x0

abbrev pub unknowns : {s : ℕ} → Works s → GroupId → List ParamId
unknowns w g = filter (w.is_unknown g) (w.own g)

-- the interval test at a point
abbrev pub visit : {s : ℕ} → Works s → Numbers s → GroupId → List (ParamValue s) → List ℤ → Outcome
visit {s} w n g fixed x = outcome_at s (length (unknowns w g)) (w.seen n g fixed x)

-- the names of the system's rows there
abbrev pub names : {s : ℕ} → Works s → Numbers s → GroupId → List (ParamValue s) → List ℤ → List RowName
names w n g fixed x = names_at (w.seen n g fixed x)

abbrev pub found : {s : ℕ} → Works s → Numbers s → GroupId → List (ParamValue s) → Found
found {s} w n g ps =
    unless_bad (w.bad_frame n g) (point_of (w.is_unknown g) ps)
    (verdict_over s (length (unknowns w g)) (w.seen n g (fixed_of (w.is_unknown g) ps)) (point_of (w.is_unknown g) ps))

abbrev pub left_at : {s : ℕ} → Works s → Numbers s → GroupId → List (Listed s) → List (ParamValue s) → Left s
left_at w n g members kept = record { members = members; params = kept; acts = w.acts n g kept }

-- a group in the report: its unknown parameters, and how it comes out
abbrev pub member : {s : ℕ} → Works s → Numbers s → GroupId → List (ParamValue s) → Found → Listed s
member w n g fixed r = record { group = g; params = unknowns w g; result = result_by (names w n g fixed) r }

abbrev pub came_out : {s : ℕ} → Works s → Numbers s → GroupId → List (ParamValue s) → Found → Left s
came_out w n g ps r = left_at w n g (member w n g (fixed_of (w.is_unknown g) ps) r ∷ []) (placed (w.is_unknown g) ps r.point)

-- a group that is regenerated
abbrev pub left_by : {s : ℕ} → Works s → List (ParamValue s) → Numbers s → GroupId → Left s
left_by w stored n g = came_out w n g (started w stored n g) (found w n g (started w stored n g))

-- a group that isn't: its parameters stay, and its member is that of an earlier report
abbrev pub members_of : {s : ℕ} → GroupId → List (Listed s) → List (Listed s)
members_of g before = filter (λ m. m.group.0 == g.0) before

abbrev pub left_as : {s : ℕ} → Works s → List (ParamValue s) → List (Listed s) → Numbers s → GroupId → Left s
left_as w stored before n g = left_at w n g (members_of g before) (started w stored n g)

-- ---- the groups in their order

-- the reading of an entity stands in the place of the one that it had
abbrev pub with_act : {s : ℕ} → Act s → List (Act s) → List (Act s)
with_act {s} a acts = with_first act_handle a.entity.0 (λ (b : Act s). a) acts

abbrev pub with_acts : {s : ℕ} → List (Act s) → List (Act s) → List (Act s)
with_acts [] acts = acts
with_acts (a ∷ rest) acts = with_acts rest (with_act a acts)

-- the numbers with those that a group leaves
abbrev pub joined : {s : ℕ} → Numbers s → Left s → Numbers s
joined n x = record { params = with_params x.params n.params; acts = with_acts x.acts n.acts }

abbrev pub taken : {s : ℕ} → State s → Left s → State s
taken st x = record { numbers = joined st.numbers x; members = st.members ++ x.members }

-- each group leaves what it does over the numbers so far
abbrev pub folded : {s : ℕ} → (Numbers s → GroupId → Left s) → List GroupId → State s → State s
folded left [] st = st
folded left (g ∷ gs) st = folded left gs (taken st (left st.numbers g))

-- group 1 stands where it stands, and isn't reported
abbrev pub at_references : {s : ℕ} → Works s → State s
at_references w = record { numbers = w.first; members = [] }

-- the groups in this order: all but group 1, in group order
abbrev pub regenerated : {s : ℕ} → Works s → List (ParamValue s) → List GroupId → State s
regenerated w stored order = folded (left_by w stored) order (at_references w)

-- the groups of a list, over an earlier report
abbrev pub left_over : {s : ℕ} → Works s → List (ParamValue s) → List GroupId → List (Listed s) → Numbers s → GroupId → Left s
left_over w stored dirty before n g = if is_listed dirty g then left_by w stored n g else left_as w stored before n g

abbrev pub regenerated_over : {s : ℕ} → Works s → List (ParamValue s) → List GroupId → List (Listed s) → List GroupId → State s
regenerated_over w stored dirty before order = folded (left_over w stored dirty before) order (at_references w)
