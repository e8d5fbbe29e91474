-- Numbers past 2^16 are known of no constraint.
use Rattle.std.proofs.Common.{◌≡◌, ℕ, ◌<◌, ◌^◌, List, [], ◌∷◌, true, false, refl, arith}
use Rattle.std.specs.Prelude.{◌==◌, nat_le, ℤ, pos, negsuc}
use Rattle.std.specs.Int.{FitsUnsignedBits}
use Rattle.std.specs.List.{list_all}
use Rattle.std.proofs.lemmas.Bool.Decides.{nat_tests}
use Rattle.std.proofs.lemmas.Grind.{common_steps}
use Rattle.sk_types.specs.declared.standing.Standing.TheVariants.{Unknown}
use Rattle.sk_types.specs.declared.constraint_kind.TheConstants as kind
use Rattle.sk_types.specs.Lists.{is_among}
use Rattle.sk_types.specs.Standings.{point_constraints, size_constraints, direction_constraints, symmetry_constraints, is_point_constraint, is_size_constraint, is_direction_constraint, is_symmetry_constraint, constraint_standing}

differs : (n m : ℕ) → 65535 < n → nat_le m 65535 ≡ true → (n == m) ≡ false
differs n m h e = grind (arith, nat_tests, h, e)

far : (n : ℕ) (ns : List ℕ) → list_all (λ m. nat_le m 65535) ns ≡ true → 65535 < n → is_among n ns ≡ false
far n [] e h = refl
far n (m ∷ ms) e h = grind (arith, common_steps, nat_tests, differs n m h, far n ms)

past : (n : ℕ) → (n < 2 ^ 16 → ⊥) → 65535 < n
past n h = omega arith

pub unknown : (z : ℤ) → (FitsUnsignedBits 16 z → ⊥) → Unknown ≡ constraint_standing z
unfolding constraint_standing is_point_constraint is_size_constraint is_direction_constraint is_symmetry_constraint
unknown (pos n) h =
    let large : 65535 < n = past n h in
    rw (far n point_constraints refl large, far n size_constraints refl large, far n direction_constraints refl large, far n symmetry_constraints refl large, differs n kind.COMMENT large refl, differs n kind.EQUAL_LINE_AND_ARC large refl) refl
unknown (negsuc n) h = refl
