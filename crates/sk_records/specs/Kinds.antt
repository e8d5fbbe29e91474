-- The kinds of records, in their order, with their prefixes and closing words (SolveSpace's file format).
use Rattle.std.specs.Prelude.{ℕ, List, [], ◌∷◌, Bool, nat_eq, codes}
use Rattle.sk_records.specs.declared.kinds.Kind.{Kind}
use Rattle.sk_records.specs.declared.kinds.Kind.TheVariants.{Group, Param, Request, Entity, Constraint, Style}

-- the place of a kind in the order of kinds
abbrev pub kind_place : Kind → ℕ
kind_place Group = 0
kind_place Param = 1
kind_place Request = 2
kind_place Entity = 3
kind_place Constraint = 4
kind_place Style = 5

abbrev pub same_kind : Kind → Kind → Bool
same_kind a b = nat_eq (kind_place a) (kind_place b)

-- a kind and the earlier ones, the nearest first
abbrev pub kinds_to : Kind → List Kind
kinds_to Group = Group ∷ []
kinds_to Param = Param ∷ Group ∷ []
kinds_to Request = Request ∷ Param ∷ Group ∷ []
kinds_to Entity = Entity ∷ Request ∷ Param ∷ Group ∷ []
kinds_to Constraint = Constraint ∷ Entity ∷ Request ∷ Param ∷ Group ∷ []
kinds_to Style = Style ∷ Constraint ∷ Entity ∷ Request ∷ Param ∷ Group ∷ []

-- what the keys of a kind begin with
abbrev pub prefix_of : Kind → List ℕ
prefix_of Group = codes "Group."
prefix_of Param = codes "Param."
prefix_of Request = codes "Request."
prefix_of Entity = codes "Entity."
prefix_of Constraint = codes "Constraint."
prefix_of Style = codes "Style."

-- the line that closes a record
abbrev pub closing_of : Kind → List ℕ
closing_of Group = codes "AddGroup"
closing_of Param = codes "AddParam"
closing_of Request = codes "AddRequest"
closing_of Entity = codes "AddEntity"
closing_of Constraint = codes "AddConstraint"
closing_of Style = codes "AddStyle"
