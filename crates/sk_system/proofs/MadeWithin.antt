-- What a system is made of fits: the rows of entities and of the group, and all formulas.
use Rattle.std.proofs.Common.{◌≡◌, ℕ, ◌+◌, ◌≤◌, ℤ, Bool, true, false, List, [], ◌∷◌, length, arith}
use Rattle.std.specs.Prelude.{◌==◌, ◌&&◌, if◌then◌else◌}
use Rattle.std.specs.List.{flat_map}
use Rattle.sk_types.specs.declared.handle.EntityId.{EntityId}
use Rattle.sk_types.specs.declared.constraint.Constraint.{Constraint}
use Rattle.sk_types.specs.declared.constraint_kind.TheConstants as kind
use Rattle.sk_types.specs.declared.entity.Entity.{Entity}
use Rattle.sk_types.specs.declared.entity_kind.TheConstants as entity_kind
use Rattle.sk_types.specs.declared.group.Group.{Group}
use Rattle.sk_types.specs.declared.group.GroupKind.{GroupKind}
use Rattle.sk_types.specs.declared.group.GroupKind.TheVariants.{Space, Plane, Extrude, Translate, Linked}
use Rattle.sk_types.specs.Handles.{maker_of}
use Rattle.sk_types.specs.Needs.{named}
use Rattle.sk_types.specs.Sizes.{has_entity, is_by_request}
use Rattle.sk_expr.specs.declared.row.RowKind.TheVariants.{OfEntity, OfGroup}
use Rattle.sk_expr.specs.Poly.{Poly}
use Rattle.sk_expr.specs.Vectors.{vector_difference, dot, squared}
use Rattle.sk_geom.specs.Sources.{Source, group_vector, group_quaternion}
use Rattle.sk_geom.specs.EntityTrees.{normal_tree}
use Rattle.sk_system.specs.ByHandle.{flat_by, frame_by, is_normal_by}
use Rattle.sk_system.specs.OwnRows.{unit_row, arc_row, arc_row_of, entity_row_trees, named_entity_rows, along, within, group_row_trees, named_group_rows}
use Rattle.sk_system.specs.GroupSystem.{entities_of, own_rows_of}
use Rattle.sk_system.specs.Formulas.{constraint_formula, formulas_from}
use Rattle.sk_system.specs.Fits.{AreWithin, IsRow, RowsFit, FormulasFit}
use Rattle.sk_system.proofs.Within.{loosen, loosen-all, dot-four, dot-in, squared-in, difference-in}
use Rattle.sk_system.proofs.Lengths.{normal-four, quaternion-four}
use Rattle.sk_system.proofs.EntitiesWithin.{quaternion-in, normal-in}
use Rattle.sk_system.proofs.PartsWithin.{IsPart, flat_by-in, frame_by-in}
use Rattle.sk_system.proofs.ContactsWithin.{group_vector-in}
use Rattle.sk_system.proofs.SystemsWithin.{formula-fits}
use Rattle.sk_system.proofs.Visits.{more-rows, named-fit}

module _ {s : ℕ} (o : Source s) where
  abbrev N : ℕ
  N = length o.unknowns

  unit-in : (q : List (Poly ℤ)) → length q ≤ 4 → AreWithin N 0 15 q → AreWithin N 0 4000000 (unit_row s q ∷ [])
  unfolding unit_row squared
  unit-in q l h = let a = dot-four N 0 15 q q l h h in let a' = a.1 in (((a.0, tt), omega (arith, a')), tt)

  arc-in : (e : Entity s) → AreWithin N 0 4000000 (arc_row_of o e ∷ [])
  unfolding arc_row
  arc-in e =
      let p = flat_by o e.workplane in
      let c = p (named e.points 0) in
      let from = vector_difference (p (named e.points 1)) c in
      let to = vector_difference (p (named e.points 2)) c in
      let x = flat_by-in o N 0 (omega arith) e.workplane (named e.points 0) in
      let a = squared-in N 0 24575 from (difference-in N 0 12287 (p (named e.points 1)) c (flat_by-in o N 0 (omega arith) e.workplane (named e.points 1)) x) in
      let b = squared-in N 0 24575 to (difference-in N 0 12287 (p (named e.points 2)) c (flat_by-in o N 0 (omega arith) e.workplane (named e.points 2)) x) in
      let a' = a.1 in let b' = b.1 in
      (((a.0, b.0), omega (arith, a', b')), tt)

  either-in : (t : Bool) (a b : List (Poly ℤ)) → AreWithin N 0 4000000 a → AreWithin N 0 4000000 b → AreWithin N 0 4000000 (if t then a else b)
  either-in true a b h k = h
  either-in false a b h k = k

  entity-in : (e : Entity s) → AreWithin N 0 4000000 (entity_row_trees o e)
  unfolding entity_row_trees
  entity-in e =
      let l = normal-four o e in
      either-in (e.kind == entity_kind.NORMAL_IN_SPACE) (unit_row s (normal_tree o e) ∷ []) (if e.kind == entity_kind.ARC && is_by_request (maker_of e.id.0) then arc_row_of o e ∷ [] else [])
      (unit-in (normal_tree o e) (omega (arith, l)) (normal-in o e))
      (either-in (e.kind == entity_kind.ARC && is_by_request (maker_of e.id.0)) (arc_row_of o e ∷ []) [] (arc-in e) tt)

  onto-in : (a : List (Poly ℤ)) → IsPart N 0 a → IsRow N 0 (dot a (group_vector o))
  onto-in a h = loosen N 0 73727 4000000 (dot a (group_vector o)) (omega arith) (dot-in N 0 12287 a (group_vector o) h (group_vector-in o N 0 (omega arith)))

  group-in : (w : EntityId) (k : GroupKind) → AreWithin N 0 4000000 (group_row_trees o w k)
  unfolding group_row_trees
  group-in w Space = tt
  group-in w Plane = tt
  group-in w Extrude = let f = frame_by-in o N 0 (omega arith) w in either-in (has_entity w) (along o w) [] (onto-in (frame_by o w).u f.u', (onto-in (frame_by o w).v f.v', tt)) tt
  group-in w Translate = let f = frame_by-in o N 0 (omega arith) w in either-in (has_entity w) (within o w) [] (onto-in (frame_by o w).n f.n', tt) tt
  group-in w Linked = let l = quaternion-four o in unit-in (group_quaternion o) (omega (arith, l)) (loosen-all N 0 1 15 (group_quaternion o) (omega arith) (quaternion-in o))

  entities-fit : (es : List (Entity s)) → RowsFit N 0 (flat_map (named_entity_rows o) es)
  entities-fit [] = tt
  entities-fit (e ∷ es) = more-rows N 0 (named_entity_rows o e) (flat_map (named_entity_rows o) es) (named-fit N 0 OfEntity e.id.0 0 (entity_row_trees o e) (entity-in e)) (entities-fit es)

  pub own-fit : (g : Group s) → RowsFit N 0 (own_rows_of o g)
  own-fit g = more-rows N 0 (flat_map (named_entity_rows o) (entities_of o)) (named_group_rows o g) (entities-fit (entities_of o)) (named-fit N 0 OfGroup g.id.0 0 (group_row_trees o g.entity_b g.kind) (group-in g.entity_b g.kind))

  -- a point on a line names no normal
  abbrev pub NamesLine : Constraint s → Type 0
  NamesLine c = c.kind ≡ kind.POINT_ON_LINE → is_normal_by o (named c.entities 0) ≡ false

  abbrev pub AllNameLines : List (Constraint s) → Type 0
  AllNameLines [] = Unit {0}
  AllNameLines (c ∷ cs) = NamesLine c × AllNameLines cs

  pub formulas-fit : (i k : ℕ) (cs : List (Constraint s)) → N ≤ i → AllNameLines cs → FormulasFit i k (formulas_from o i k cs)
  formulas-fit i k [] l h = tt
  formulas-fit i k (c ∷ cs) l h =
      (formula-fits o i k l c h.0, formulas-fit (i + length (constraint_formula o i k c).auxiliaries) (k + length (constraint_formula o i k c).cosines) cs (omega (arith, l)) h.1)
