-- What holds of regeneration in group order.
use Rattle.std.specs.Prelude.{◌≡◌, ℕ, List, [], ◌∷◌, map, Some, false, ℤ}
use Rattle.sk_types.specs.declared.handle.GroupId.{GroupId}
use Rattle.sk_types.specs.declared.handle.ParamId.{ParamId}
use Rattle.sk_types.specs.declared.entity.ParamValue.{ParamValue}
use Rattle.sk_types.specs.declared.entity.Act.{Act}
use Rattle.sk_types.specs.declared.entity.Numbers.{Numbers}
use Rattle.sk_types.specs.Lookups.{value_of, act_at}
use Rattle.sk_solve.specs.declared.report.Listed.{Listed}
use Rattle.sk_regen.specs.Works.{Works}
use Rattle.sk_regen.specs.Regeneration.{Left, State, started, left_by, left_over, taken, folded, members_of, is_listed, at_references, regenerated, regenerated_over}

-- ---- once more over what was kept

-- these values are stored
abbrev pub AllStored : {s : ℕ} → List (ParamValue s) → List (ParamValue s) → Type 0
AllStored stored [] = Unit {0}
AllStored stored (p ∷ ps) = (value_of p.id.0 stored ≡ Some p.value) × AllStored stored ps

-- what each group leaves has the property
abbrev pub Each : {s : ℕ} → (Numbers s → GroupId → Left s) → (Numbers s → GroupId → Left s → Type 0) → List GroupId → State s → Type 0
Each left P [] st = Unit {0}
Each left P (g ∷ gs) st = P st.numbers g (left st.numbers g) × Each left P gs (taken st (left st.numbers g))

-- Where every kept value is stored, regeneration comes out the same: each member, each value, each reading.
abbrev pub FoldAgainLaw : Type 0
FoldAgainLaw = (s : ℕ) (w : Works s) (before now : List (ParamValue s)) (order : List GroupId) (st : State s)
    → Each (left_by w before) (λ n g x. AllStored now x.params) order st
    → folded (left_by w now) order st ≡ folded (left_by w before) order st

-- ---- over a list

-- a group outside the list has its member, and stands where regeneration leaves it
pub record StandsAs {s : ℕ} (w : Works s) (stored : List (ParamValue s)) (before : List (Listed s)) (n : Numbers s) (g : GroupId) (x : Left s) : Type 0 where
  pub member : members_of g before ≡ x.members
  pub params : started w stored n g ≡ x.params

abbrev pub OverLaw : Type 0
OverLaw = (s : ℕ) (w : Works s) (stored : List (ParamValue s)) (dirty : List GroupId) (before : List (Listed s)) (order : List GroupId) (st : State s)
    → Each (left_by w stored) (λ n g x. is_listed dirty g ≡ false → StandsAs w stored before n g x) order st
    → folded (left_over w stored dirty before) order st ≡ folded (left_by w stored) order st

-- ---- before and after an edit

-- which group a parameter and an entity belong to
pub record Owners : Type 0 where
  pub of_param : ℕ → GroupId
  pub of_entity : ℕ → GroupId

-- The numbers agree on everything of groups outside the list.
pub record AgreeOutside {s : ℕ} (dirty : List GroupId) (own : Owners) (n m : Numbers s) : Type 0 where
  pub params : (h : ℕ) → is_listed dirty (own.of_param h) ≡ false → value_of h m.params ≡ value_of h n.params
  pub acts : (h : ℕ) → is_listed dirty (own.of_entity h) ≡ false → act_at h m.acts ≡ act_at h n.acts

-- the same values are stored of these parameters
abbrev pub SameStored : {s : ℕ} → List (ParamValue s) → List (ParamValue s) → List ParamId → Type 0
SameStored before now [] = Unit {0}
SameStored before now (p ∷ ps) = (value_of p.0 now ≡ value_of p.0 before) × SameStored before now ps

-- these parameters start at the same
abbrev pub SameStarts : (ParamId → ℤ) → (ParamId → ℤ) → List ParamId → Type 0
SameStarts before now [] = Unit {0}
SameStarts before now (p ∷ ps) = (now p ≡ before p) × SameStarts before now ps

-- What the result of a group depends on: all of it is the same in both models, over the numbers n and m.
pub record SameGroup {s : ℕ} (w v : Works s) (before now : List (ParamValue s)) (n m : Numbers s) (g : GroupId) : Type 0 where
  pub own : v.own g ≡ w.own g
  pub unknown : (p : ParamId) → v.is_unknown g p ≡ w.is_unknown g p
  pub stored : SameStored before now (w.own g)
  pub start : SameStarts (w.start n g) (v.start m g) (w.own g)
  pub frame : v.bad_frame m g ≡ w.bad_frame n g
  pub seen : (fixed : List (ParamValue s)) (x : List ℤ) → v.seen m g fixed x ≡ w.seen n g fixed x
  pub acts : (ps : List (ParamValue s)) → v.acts m g ps ≡ w.acts n g ps

-- what a group leaves is its own
abbrev pub OwnParams : {s : ℕ} → Owners → GroupId → List (ParamValue s) → Type 0
OwnParams own g [] = Unit {0}
OwnParams own g (p ∷ ps) = (own.of_param p.id.0 ≡ g) × OwnParams own g ps

abbrev pub OwnActs : {s : ℕ} → Owners → GroupId → List (Act s) → Type 0
OwnActs own g [] = Unit {0}
OwnActs own g (a ∷ rest) = (own.of_entity a.entity.0 ≡ g) × OwnActs own g rest

pub record LeavesOwn {s : ℕ} (own : Owners) (w : Works s) : Type 0 where
  pub params : (g : GroupId) (ps : List (ParamValue s)) → map (λ (p : ParamValue s). p.id) ps ≡ w.own g → OwnParams own g ps
  pub acts : (n : Numbers s) (g : GroupId) (ps : List (ParamValue s)) → OwnActs own g (w.acts n g ps)

-- Two models, before and after an edit, and a list of groups: a group outside it has the same result over numbers that agree
-- outside it.
pub record SameOutside {s : ℕ} (own : Owners) (w v : Works s) (before now : List (ParamValue s)) (dirty : List GroupId) : Type 0 where
  pub first : AgreeOutside dirty own w.first v.first
  pub group : (n m : Numbers s) (g : GroupId) → AgreeOutside dirty own n m → is_listed dirty g ≡ false → SameGroup w v before now n m g
  pub left_before : LeavesOwn own w
  pub left_now : LeavesOwn own v

-- The text before the edit was regenerated: each group stands where it was left, and its member is in the report. Then
-- regeneration of the list alone, over that report, is full regeneration after the edit.
abbrev pub DirtyLaw : Type 0
DirtyLaw = (s : ℕ) (own : Owners) (w v : Works s) (before now : List (ParamValue s)) (dirty : List GroupId) (report : List (Listed s)) (order : List GroupId)
    → SameOutside own w v before now dirty
    → Each (left_by w before) (StandsAs w before report) order (at_references w)
    → regenerated_over v now dirty report order ≡ regenerated v now order

-- What is the same outside the list after an edit, is the same before it: so undoing it regenerates the same list.
abbrev pub UndoneLaw : Type 0
UndoneLaw = (s : ℕ) (own : Owners) (w v : Works s) (before now : List (ParamValue s)) (dirty : List GroupId) → SameOutside own w v before now dirty → SameOutside own v w now before dirty
