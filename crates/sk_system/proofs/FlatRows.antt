-- The rows of a constraint of flat points are made of those alone.
use Rattle.std.proofs.Common.{◌≡◌, ℕ, Bool, true, false, ap, refl, []}
use Rattle.std.specs.Prelude.{◌∷◌}
use Rattle.std.proofs.lemmas.Bool.{and_parts}
use Rattle.sk_types.specs.declared.constraint.Constraint.{Constraint}
use Rattle.sk_types.specs.Lists.{is_among}
use Rattle.sk_types.specs.Sizes.{has_entity}
use Rattle.sk_expr.specs.Poly.{number, minus, times}
use Rattle.sk_expr.specs.Vectors.{squared}
use Rattle.sk_expr.specs.Parts.{PartsOf, point_at}
use Rattle.sk_expr.specs.Formula.{rows_only}
use Rattle.sk_eq_points.specs.PointRows.{point_rows, point_formula, points_difference, points_apart, mirrored}
use Rattle.sk_system.specs.FlatPoints.{flat_kinds, is_flat, flat_alone}
use Rattle.sk_system.proofs.Counts.{AllOf, each-of}

same-difference : (flat : Bool) (m : PartsOf) → flat ≡ true → points_difference flat (flat_alone m) ≡ points_difference flat m
unfolding points_difference point_at
same-difference true m e = refl
same-difference false m e = absurd cc

module _ {s : ℕ} (c : Constraint s) (m : PartsOf) where
  abbrev Same : ℕ → Type 0
  Same k = let d = record c { kind = k } in point_formula s d (flat_alone m) ≡ point_formula s d m

  same : has_entity c.workplane ≡ true → AllOf Same flat_kinds
  unfolding point_rows points_apart mirrored point_at
  same e =
      let d = same-difference (has_entity c.workplane) m e in
      (ap rows_only d, (ap (λ v. rows_only (minus (squared v) (times (number c.value) (number c.value)) ∷ [])) d, (refl, (refl, tt))))

  pub flat_rows : is_flat c ≡ true → point_formula s c (flat_alone m) ≡ point_formula s c m
  unfolding is_flat
  flat_rows h =
      let e = and_parts (has_entity c.workplane) (is_among c.kind flat_kinds) h in
      each-of Same flat_kinds (same e.0) c.kind e.1
