-- The keys that are read, as they stand in a text (SolveSpace's file format).
use Rattle.std.specs.Prelude.{ℕ, List, [], ◌∷◌, codes}
use Rattle.sk_records.specs.declared.kinds.Kind.{Kind}
use Rattle.sk_records.specs.declared.kinds.Kind.TheVariants as kind
use Rattle.sk_model.specs.declared.keys.Key.{Key}
use Rattle.sk_model.specs.declared.keys.Key.TheVariants.{GroupHandle, GroupType, GroupOrder, GroupActive, GroupSource, GroupValue, GroupSubtype, GroupSkipFirst, GroupW, GroupX, GroupY, GroupZ, GroupOrigin, GroupEntityB, GroupEntityC, GroupSwapUv, GroupNegateU, GroupNegateV, GroupRelaxed, GroupAllReference, GroupScale, GroupFile, GroupRelativeFile, ParamHandle, ParamValue, RequestHandle, RequestType, RequestWorkplane, RequestGroup, RequestConstruction, RequestExtraPoints, ConstraintHandle, ConstraintType, ConstraintGroup, ConstraintWorkplane, ConstraintValue, ConstraintPointA, ConstraintPointB, ConstraintEntityA, ConstraintEntityB, ConstraintEntityC, ConstraintEntityD, ConstraintOther, ConstraintOther2, ConstraintReference}

unfoldable pub key_bytes : Key → List ℕ
key_bytes GroupHandle = codes "Group.h.v"
key_bytes GroupType = codes "Group.type"
key_bytes GroupOrder = codes "Group.order"
key_bytes GroupActive = codes "Group.activeWrkpl.v"
key_bytes GroupSource = codes "Group.opA.v"
key_bytes GroupValue = codes "Group.valA"
key_bytes GroupSubtype = codes "Group.subtype"
key_bytes GroupSkipFirst = codes "Group.skipFirst"
key_bytes GroupW = codes "Group.predef.q.w"
key_bytes GroupX = codes "Group.predef.q.vx"
key_bytes GroupY = codes "Group.predef.q.vy"
key_bytes GroupZ = codes "Group.predef.q.vz"
key_bytes GroupOrigin = codes "Group.predef.origin.v"
key_bytes GroupEntityB = codes "Group.predef.entityB.v"
key_bytes GroupEntityC = codes "Group.predef.entityC.v"
key_bytes GroupSwapUv = codes "Group.predef.swapUV"
key_bytes GroupNegateU = codes "Group.predef.negateU"
key_bytes GroupNegateV = codes "Group.predef.negateV"
key_bytes GroupRelaxed = codes "Group.relaxConstraints"
key_bytes GroupAllReference = codes "Group.allDimsReference"
key_bytes GroupScale = codes "Group.scale"
key_bytes GroupFile = codes "Group.impFile"
key_bytes GroupRelativeFile = codes "Group.impFileRel"
key_bytes ParamHandle = codes "Param.h.v."
key_bytes ParamValue = codes "Param.val"
key_bytes RequestHandle = codes "Request.h.v"
key_bytes RequestType = codes "Request.type"
key_bytes RequestWorkplane = codes "Request.workplane.v"
key_bytes RequestGroup = codes "Request.group.v"
key_bytes RequestConstruction = codes "Request.construction"
key_bytes RequestExtraPoints = codes "Request.extraPoints"
key_bytes ConstraintHandle = codes "Constraint.h.v"
key_bytes ConstraintType = codes "Constraint.type"
key_bytes ConstraintGroup = codes "Constraint.group.v"
key_bytes ConstraintWorkplane = codes "Constraint.workplane.v"
key_bytes ConstraintValue = codes "Constraint.valA"
key_bytes ConstraintPointA = codes "Constraint.ptA.v"
key_bytes ConstraintPointB = codes "Constraint.ptB.v"
key_bytes ConstraintEntityA = codes "Constraint.entityA.v"
key_bytes ConstraintEntityB = codes "Constraint.entityB.v"
key_bytes ConstraintEntityC = codes "Constraint.entityC.v"
key_bytes ConstraintEntityD = codes "Constraint.entityD.v"
key_bytes ConstraintOther = codes "Constraint.other"
key_bytes ConstraintOther2 = codes "Constraint.other2"
key_bytes ConstraintReference = codes "Constraint.reference"

-- the keys of a kind of record that are read, in their order
abbrev pub keys_of : Kind → List Key
keys_of kind.Group =
    GroupHandle ∷ GroupType ∷ GroupOrder ∷ GroupActive ∷ GroupSource ∷ GroupValue ∷ GroupSubtype ∷ GroupSkipFirst ∷ GroupW
    ∷ GroupX ∷ GroupY ∷ GroupZ ∷ GroupOrigin ∷ GroupEntityB ∷ GroupEntityC ∷ GroupSwapUv ∷ GroupNegateU ∷ GroupNegateV ∷
    GroupRelaxed ∷ GroupAllReference ∷ GroupScale ∷ GroupFile ∷ GroupRelativeFile ∷ []
keys_of kind.Param = ParamHandle ∷ ParamValue ∷ []
keys_of kind.Request = RequestHandle ∷ RequestType ∷ RequestWorkplane ∷ RequestGroup ∷ RequestConstruction ∷ RequestExtraPoints ∷ []
keys_of kind.Entity = []
keys_of kind.Constraint =
    ConstraintHandle ∷ ConstraintType ∷ ConstraintGroup ∷ ConstraintWorkplane ∷ ConstraintValue ∷ ConstraintPointA ∷
    ConstraintPointB ∷ ConstraintEntityA ∷ ConstraintEntityB ∷ ConstraintEntityC ∷ ConstraintEntityD ∷ ConstraintOther ∷
    ConstraintOther2 ∷ ConstraintReference ∷ []
keys_of kind.Style = []

pub record Spot : Type 0 where
  pub kind : Kind
  pub place : ℕ

abbrev spot : Kind → ℕ → Spot
spot k n = record { kind = k; place = n }

-- a key's kind of record, and its place among the keys of that kind
abbrev pub key_spot : Key → Spot
key_spot GroupHandle = spot kind.Group 0
key_spot GroupType = spot kind.Group 1
key_spot GroupOrder = spot kind.Group 2
key_spot GroupActive = spot kind.Group 3
key_spot GroupSource = spot kind.Group 4
key_spot GroupValue = spot kind.Group 5
key_spot GroupSubtype = spot kind.Group 6
key_spot GroupSkipFirst = spot kind.Group 7
key_spot GroupW = spot kind.Group 8
key_spot GroupX = spot kind.Group 9
key_spot GroupY = spot kind.Group 10
key_spot GroupZ = spot kind.Group 11
key_spot GroupOrigin = spot kind.Group 12
key_spot GroupEntityB = spot kind.Group 13
key_spot GroupEntityC = spot kind.Group 14
key_spot GroupSwapUv = spot kind.Group 15
key_spot GroupNegateU = spot kind.Group 16
key_spot GroupNegateV = spot kind.Group 17
key_spot GroupRelaxed = spot kind.Group 18
key_spot GroupAllReference = spot kind.Group 19
key_spot GroupScale = spot kind.Group 20
key_spot GroupFile = spot kind.Group 21
key_spot GroupRelativeFile = spot kind.Group 22
key_spot ParamHandle = spot kind.Param 0
key_spot ParamValue = spot kind.Param 1
key_spot RequestHandle = spot kind.Request 0
key_spot RequestType = spot kind.Request 1
key_spot RequestWorkplane = spot kind.Request 2
key_spot RequestGroup = spot kind.Request 3
key_spot RequestConstruction = spot kind.Request 4
key_spot RequestExtraPoints = spot kind.Request 5
key_spot ConstraintHandle = spot kind.Constraint 0
key_spot ConstraintType = spot kind.Constraint 1
key_spot ConstraintGroup = spot kind.Constraint 2
key_spot ConstraintWorkplane = spot kind.Constraint 3
key_spot ConstraintValue = spot kind.Constraint 4
key_spot ConstraintPointA = spot kind.Constraint 5
key_spot ConstraintPointB = spot kind.Constraint 6
key_spot ConstraintEntityA = spot kind.Constraint 7
key_spot ConstraintEntityB = spot kind.Constraint 8
key_spot ConstraintEntityC = spot kind.Constraint 9
key_spot ConstraintEntityD = spot kind.Constraint 10
key_spot ConstraintOther = spot kind.Constraint 11
key_spot ConstraintOther2 = spot kind.Constraint 12
key_spot ConstraintReference = spot kind.Constraint 13
