-- How large the system of a known group is at a point.
use Rattle.std.specs.Prelude.{◌≡◌, ℕ, ℤ, List, length, Some}
use Rattle.sk_types.specs.declared.constraint.Constraint.{Constraint}
use Rattle.sk_types.specs.declared.entity.Entity.{Entity}
use Rattle.sk_types.specs.declared.entity.Numbers.{Numbers}
use Rattle.sk_types.specs.declared.group.Group.{Group}
use Rattle.sk_types.specs.Params.{unknown_params}
use Rattle.sk_types.specs.Sizes.{unknowns_of, rows_of}
use Rattle.sk_expr.specs.Seen.{Seen}
use Rattle.sk_system.specs.Known.{IsKnown}
use Rattle.sk_system.specs.GroupSystem.{group_system, seen_at}

-- the unknowns and the rows are as many as the outline counts
pub record IsCountedAt {s : ℕ} (g : Group s) (es : List (Entity s)) (cs : List (Constraint s)) (seen : Seen) : Type 0 where
  pub unknowns : length seen.unknowns ≡ unknowns_of cs es g
  pub rows : length seen.rows ≡ rows_of cs es g

abbrev pub SizesLaw : Type 0
SizesLaw =
    (s : ℕ) (g : Group s) (es : List (Entity s)) (cs : List (Constraint s)) (numbers : Numbers s) (xs : List ℤ) (seen : Seen) → IsKnown g es cs numbers →
    length xs ≡ length (unknown_params cs es g) → seen_at s (group_system g es cs numbers) xs ≡ Some seen → IsCountedAt g es cs seen
