-- A constraint, typed from its lines (SolveSpace's file format).
use Rattle.std.specs.Prelude.{ℕ, ◌==◌, ◌*◌, ◌^◌, nat_lt, ℤ, pos, unsigned_abs, List, [], ◌∷◌, Bool, false, Result, Ok, if◌then◌else◌}
use Rattle.std.specs.Int.{is_negative}
use Rattle.sk_types.specs.declared.constraint.Constraint.{Constraint}
use Rattle.sk_types.specs.declared.constraint_kind.TheConstants as constraint_kind
use Rattle.sk_types.specs.Lists.{is_among}
use Rattle.sk_types.specs.Standings.{constraint_standing}
use Rattle.sk_records.specs.Rows.{Row}
use Rattle.sk_model.specs.declared.faults.ModelFault.{ModelFault}
use Rattle.sk_model.specs.declared.faults.ModelFault.TheVariants.{BadValue, DuplicateHandle}
use Rattle.sk_model.specs.declared.faults.Reason.TheVariants as reason
use Rattle.sk_model.specs.declared.keys.Key.TheVariants as key
use Rattle.sk_model.specs.Chain.{then_of, refused, by_standing, is_out_of, seen_in}
use Rattle.sk_model.specs.Fields.{handle_under, whole_under, quantity_under, flag_under}

-- constraints whose value isn't negative
abbrev pub unsigned_constraints : List ℕ
unsigned_constraints = constraint_kind.POINT_POINT_DISTANCE ∷ constraint_kind.LENGTH_RATIO ∷ constraint_kind.DIAMETER ∷ []

-- constraints that have a workplane
abbrev pub workplane_constraints : List ℕ
workplane_constraints =
    constraint_kind.SYMMETRIC_HORIZONTAL ∷ constraint_kind.SYMMETRIC_VERTICAL ∷ constraint_kind.SYMMETRIC_LINE
    ∷ constraint_kind.HORIZONTAL ∷ constraint_kind.VERTICAL ∷ constraint_kind.CURVE_CURVE_TANGENT ∷ []

-- an angle is at most 360 degrees either way
unfoldable pub has_bad_value : ℕ → ℕ → ℤ → ℕ → Bool
has_bad_value s kind value workplane =
    if is_among kind unsigned_constraints then is_negative value else
    if kind == constraint_kind.ANGLE then nat_lt (360 * 2 ^ s) (unsigned_abs value) else
    if is_among kind workplane_constraints then workplane == 0 else
    false

-- a constraint over the handles of earlier constraints, or its first fault
unfoldable pub constraint_of : (s : ℕ) → List ℕ → List Row → Result (Constraint s) ModelFault
constraint_of s seen rows =
    then_of (handle_under key.ConstraintHandle rows) (λ id.
    then_of (whole_under key.ConstraintType rows) (λ kind.
    then_of (handle_under key.ConstraintGroup rows) (λ group.
    then_of (handle_under key.ConstraintWorkplane rows) (λ workplane.
    then_of (quantity_under s (pos 0) key.ConstraintValue rows) (λ value.
    then_of (handle_under key.ConstraintPointA rows) (λ p.
    then_of (handle_under key.ConstraintPointB rows) (λ q.
    then_of (handle_under key.ConstraintEntityA rows) (λ a.
    then_of (handle_under key.ConstraintEntityB rows) (λ b.
    then_of (handle_under key.ConstraintEntityC rows) (λ c.
    then_of (handle_under key.ConstraintEntityD rows) (λ d.
    then_of (flag_under key.ConstraintOther rows) (λ other.
    then_of (flag_under key.ConstraintOther2 rows) (λ other2.
    then_of (flag_under key.ConstraintReference rows) (λ reference.
    refused (is_out_of 65535 id) (BadValue id) (
    refused (seen_in id seen) (DuplicateHandle id) (
    by_standing (constraint_standing kind) reason.Constraint id kind (
    refused (has_bad_value s (unsigned_abs kind) value workplane) (BadValue id) (
    Ok (record {
      id = record { 0 = id };
      kind = unsigned_abs kind;
      group = record { 0 = group };
      workplane = record { 0 = workplane };
      value = value;
      points = record { 0 = p } ∷ record { 0 = q } ∷ [];
      entities = record { 0 = a } ∷ record { 0 = b } ∷ record { 0 = c } ∷ record { 0 = d } ∷ [];
      other = other;
      other2 = other2;
      reference = reference;
    })))))))))))))))))))
