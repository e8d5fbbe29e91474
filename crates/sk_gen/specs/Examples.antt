-- Worked rows of made models, by computation.
use Rattle.std.specs.Prelude.{◌≡◌, refl, [], ◌∷◌, ◌++◌, codes, Err}
use Rattle.std.specs.Fmt.{digits}
use Rattle.sk_num.specs.Spelling.{quantity_text}
use Rattle.sk_num.specs.Decimals.{decimal_text}
use Rattle.sk_num.specs.Numerals.{padded}
use Rattle.sk_gen.specs.Lines.{handle_line, whole_line, quantity_line, close}
use Rattle.sk_gen.specs.MadeModel.{constraint_head, length_constraint, joint_constraint, turn_constraint, turn_value, point_u, point_v, item, line_constraints, line_request, turn_kind, parameter, made}
use Rattle.sk_gen.specs.declared.fault.MakeFault.TheVariants.{BadCount}

-- the chain: (0, 0), (10, 0), (10, 10), (20, 10)
pub first_points : (point_u 0 ∷ point_v 0 ∷ point_u 1 ∷ point_v 1 ∷ point_u 2 ∷ point_v 2 ∷ point_u 3 ∷ point_v 3 ∷ []) ≡ 0 ∷ 0 ∷ 10 ∷ 0 ∷ 10 ∷ 10 ∷ 20 ∷ 10 ∷ []
first_points = refl

-- the 90th line ends at (450, 450)
pub last_point : (point_u 90 ∷ point_v 90 ∷ []) ≡ 450 ∷ 450 ∷ []
last_point = refl

pub first_request : line_request 0 ≡ codes "Request.h.v=00000004\nRequest.type=200\nRequest.workplane.v=80020000\nRequest.group.v=00000002\nAddRequest\n\n"
unfolding padded digits handle_line whole_line close line_request
first_request = refl

pub no_record : parameter (item 0 16) 0 ≡ []
unfolding parameter
no_record = refl

pub twenty-along : parameter (item 2 19) 20 ≡ codes "Param.h.v.=00060013\nParam.val=20.00000000000000000000\nAddParam\n\n"
unfolding padded digits quantity_text decimal_text handle_line quantity_line close parameter
twenty-along = refl

-- the second line has the constraints 2, 3 and 4
pub second_line : line_constraints 1 ≡ codes "Constraint.h.v=00000002\nConstraint.type=30\nConstraint.group.v=00000002\nConstraint.workplane.v=80020000\nConstraint.valA=10.00000000000000000000\nConstraint.ptA.v=00050001\nConstraint.ptB.v=00050002\nAddConstraint\n\n"
    ++ (codes "Constraint.h.v=00000003\nConstraint.type=20\nConstraint.group.v=00000002\nConstraint.workplane.v=80020000\nConstraint.ptA.v=00040002\nConstraint.ptB.v=00050001\nAddConstraint\n\n"
    ++ codes "Constraint.h.v=00000004\nConstraint.type=122\nConstraint.group.v=00000002\nConstraint.workplane.v=80020000\nConstraint.entityA.v=00040000\nConstraint.entityB.v=00050000\nAddConstraint\n\n")
unfolding padded digits quantity_text decimal_text handle_line whole_line quantity_line close line_constraints length_constraint joint_constraint turn_constraint turn_value constraint_head
second_line = refl

-- of the 11th line on, the angle of each tenth joint is given
pub turns : (turn_kind 0 ∷ turn_kind 8 ∷ turn_kind 9 ∷ turn_kind 10 ∷ turn_kind 19 ∷ []) ≡ 122 ∷ 122 ∷ 120 ∷ 122 ∷ 120 ∷ []
turns = refl

pub none-made : made 0 ≡ Err BadCount
none-made = refl

pub too-many : made 91 ≡ Err BadCount
too-many = refl
