-- The text of a made model: a chain of n lines of 10 millimetres in a workplane at the origin, turned by a right angle at each
-- joint; its extrusion by 5, and three copies of that, 1000 apart.
use Rattle.std.specs.Prelude.{ℕ, zero, suc, ◌+◌, ◌*◌, ◌/◌, ◌%◌, List, [], ◌∷◌, ◌++◌, codes, nat_eq, nat_lt, ◌||◌, if◌then◌else◌, Bool, Result, Ok, Err}
use Rattle.sk_types.specs.Handles.{item_of_request, item_of_group}
use Rattle.sk_gen.specs.Lines.{line, handle_line, whole_line, quantity_line, close}
use Rattle.sk_gen.specs.declared.fault.MakeFault.{MakeFault}
use Rattle.sk_gen.specs.declared.fault.MakeFault.TheVariants.{BadCount}

-- the format's name, and two empty lines
unfoldable pub header : List ℕ
header = line (177 ∷ 178 ∷ 179 ∷ codes "SolveSpaceREVa") ++ (line [] ++ line [])

-- the workplane in which the lines are drawn: the first entity of group 2
abbrev pub workplane : ℕ
workplane = item_of_group 2 0

-- ---- groups

-- group 1 has the reference workplanes
unfoldable pub reference_group : List ℕ
reference_group = handle_line (codes "Group.h.v") 1 ++ (whole_line (codes "Group.type") 5000 ++ close (codes "AddGroup"))

-- a drawing in the workplane by the point 00010001 and the quaternion (1, 0, 0, 0)
unfoldable pub drawing : List ℕ
drawing =
    handle_line (codes "Group.h.v") 2 ++ (whole_line (codes "Group.type") 5001 ++ (whole_line (codes "Group.order") 1
    ++ (handle_line (codes "Group.activeWrkpl.v") workplane ++ (whole_line (codes "Group.subtype") 6000
    ++ (quantity_line (codes "Group.predef.q.w") 1 ++ (handle_line (codes "Group.predef.origin.v") (item_of_request 1 1) ++ close (codes "AddGroup")))))))

-- its extrusion, one-sided
unfoldable pub extrusion : List ℕ
extrusion =
    handle_line (codes "Group.h.v") 3 ++ (whole_line (codes "Group.type") 5100 ++ (whole_line (codes "Group.order") 2
    ++ (handle_line (codes "Group.opA.v") 2 ++ (whole_line (codes "Group.subtype") 7000
    ++ (handle_line (codes "Group.predef.entityB.v") workplane ++ close (codes "AddGroup"))))))

-- a translation of that, one-sided, with three copies
unfoldable pub translation : List ℕ
translation =
    handle_line (codes "Group.h.v") 4 ++ (whole_line (codes "Group.type") 5201 ++ (whole_line (codes "Group.order") 3
    ++ (handle_line (codes "Group.opA.v") 3 ++ (quantity_line (codes "Group.valA") 3 ++ (whole_line (codes "Group.subtype") 7000
    ++ (handle_line (codes "Group.predef.entityB.v") workplane ++ close (codes "AddGroup")))))))

-- ---- the chain: line k is of request 4 + k, from point k to point k + 1; it goes 10 along u where k is even, else 10 along v

abbrev pub request_of : ℕ → ℕ
request_of k = 4 + k

abbrev pub item : ℕ → ℕ → ℕ
item k i = item_of_request (request_of k) i

abbrev pub point_u : ℕ → ℕ
point_u k = (k + 1) / 2 * 10

abbrev pub point_v : ℕ → ℕ
point_v k = k / 2 * 10

-- a parameter that is 0 has no record
unfoldable pub parameter : ℕ → ℕ → List ℕ
parameter h n = if nat_eq n 0 then [] else handle_line (codes "Param.h.v.") h ++ (quantity_line (codes "Param.val") n ++ close (codes "AddParam"))

-- the coordinates of the line's first point, then those of its second
unfoldable pub line_parameters : ℕ → List ℕ
line_parameters k = parameter (item k 16) (point_u k) ++ (parameter (item k 17) (point_v k) ++ (parameter (item k 19) (point_u (k + 1)) ++ parameter (item k 20) (point_v (k + 1))))

-- the vectors of the extrusion and of the translation
unfoldable pub vectors : List ℕ
vectors = parameter (item_of_group 3 2) 5 ++ parameter (item_of_group 4 0) 1000

-- ---- requests

unfoldable pub workplane_request : ℕ → List ℕ
workplane_request r = handle_line (codes "Request.h.v") r ++ (whole_line (codes "Request.type") 100 ++ (handle_line (codes "Request.group.v") 1 ++ close (codes "AddRequest")))

unfoldable pub reference_requests : List ℕ
reference_requests = workplane_request 1 ++ (workplane_request 2 ++ workplane_request 3)

unfoldable pub line_request : ℕ → List ℕ
line_request k =
    handle_line (codes "Request.h.v") (request_of k) ++ (whole_line (codes "Request.type") 200
    ++ (handle_line (codes "Request.workplane.v") workplane ++ (handle_line (codes "Request.group.v") 2 ++ close (codes "AddRequest"))))

-- ---- constraints, numbered from 1 in their order

unfoldable pub constraint_head : ℕ → ℕ → List ℕ
constraint_head c kind =
    handle_line (codes "Constraint.h.v") c ++ (whole_line (codes "Constraint.type") kind
    ++ (handle_line (codes "Constraint.group.v") 2 ++ handle_line (codes "Constraint.workplane.v") workplane))

-- the two points of line k are 10 apart
unfoldable pub length_constraint : ℕ → ℕ → List ℕ
length_constraint c k =
    constraint_head c 30 ++ (quantity_line (codes "Constraint.valA") 10
    ++ (handle_line (codes "Constraint.ptA.v") (item k 1) ++ (handle_line (codes "Constraint.ptB.v") (item k 2) ++ close (codes "AddConstraint"))))

-- line k ends where the next one begins
unfoldable pub joint_constraint : ℕ → ℕ → List ℕ
joint_constraint c k =
    constraint_head c 20 ++ (handle_line (codes "Constraint.ptA.v") (item k 2) ++ (handle_line (codes "Constraint.ptB.v") (item (k + 1) 1) ++ close (codes "AddConstraint")))

-- the next one stands at a right angle: by the angle where it is the 11th, the 21st and so on, else by being perpendicular
unfoldable pub turn_value : ℕ → List ℕ
turn_value k = if nat_eq ((k + 1) % 10) 0 then quantity_line (codes "Constraint.valA") 90 else []

abbrev pub turn_kind : ℕ → ℕ
turn_kind k = if nat_eq ((k + 1) % 10) 0 then 120 else 122

unfoldable pub turn_constraint : ℕ → ℕ → List ℕ
turn_constraint c k =
    constraint_head c (turn_kind k) ++ (turn_value k
    ++ (handle_line (codes "Constraint.entityA.v") (item k 0) ++ (handle_line (codes "Constraint.entityB.v") (item (k + 1) 0) ++ close (codes "AddConstraint"))))

-- the constraints of a line: its length, then how it stands to the line before it
unfoldable pub line_constraints : ℕ → List ℕ
line_constraints zero = length_constraint 1 0
line_constraints (suc j) = length_constraint (3 * j + 2) (suc j) ++ (joint_constraint (3 * j + 3) j ++ turn_constraint (3 * j + 4) j)

-- ---- the text

-- what there is of each of the first n lines, in order
abbrev pub of_lines : ℕ → (ℕ → List ℕ) → List ℕ
of_lines zero f = []
of_lines (suc k) f = of_lines k f ++ f k

unfoldable pub made_text : ℕ → List ℕ
made_text n =
    header ++ (reference_group ++ (drawing ++ (extrusion ++ (translation
    ++ (of_lines n line_parameters ++ (vectors
    ++ (reference_requests ++ (of_lines n line_request ++ of_lines n line_constraints))))))))

-- 1 to 90 lines
abbrev pub is_bad : ℕ → Bool
is_bad n = nat_eq n 0 || nat_lt 90 n

abbrev pub made : ℕ → Result (List ℕ) MakeFault
made n = if is_bad n then Err BadCount else Ok (made_text n)
