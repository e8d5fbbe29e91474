-- The system of a known group fits.
use Rattle.std.proofs.Common.{◌≡◌, ℕ, ◌+◌, ◌≤◌, ℤ, Bool, true, false, List, [], ◌∷◌, length, Option, Some, None, refl, sym, ap, ◌∙◌, subst, arith, length-append}
use Rattle.std.specs.Prelude.{◌==◌, ◌&&◌, if◌then◌else◌}
use Rattle.std.specs.List.{All, sum_by, flat_map}
use Rattle.std.proofs.lemmas.Bool.{eqb-true}
use Rattle.std.proofs.lemmas.List.Elements.{All-head, All-tail}
use Rattle.std.proofs.lemmas.List.Sums.{sum_by-cons}
use Rattle.sk_types.specs.declared.handle.EntityId.{EntityId}
use Rattle.sk_types.specs.declared.handle.ParamId.{ParamId}
use Rattle.sk_types.specs.declared.constraint.Constraint.{Constraint}
use Rattle.sk_types.specs.declared.constraint.Need.{Need}
use Rattle.sk_types.specs.declared.constraint.PartKind.TheVariants.{Point, Workplane, Line}
use Rattle.sk_types.specs.declared.constraint_kind.TheConstants as kind
use Rattle.sk_types.specs.declared.entity.Entity.{Entity}
use Rattle.sk_types.specs.declared.entity.Numbers.{Numbers}
use Rattle.sk_types.specs.declared.entity_kind.TheConstants as entity_kind
use Rattle.sk_types.specs.declared.group.Group.{Group}
use Rattle.sk_types.specs.declared.group.GroupKind.{GroupKind}
use Rattle.sk_types.specs.declared.group.GroupKind.TheVariants.{Space, Plane, Extrude, Translate, Linked}
use Rattle.sk_types.specs.Handles.{maker_of}
use Rattle.sk_types.specs.Kinds.{is_normal}
use Rattle.sk_types.specs.Lookups.{entity_at}
use Rattle.sk_types.specs.Needs.{named, needs_of, part_takes}
use Rattle.sk_types.specs.Params.{unknown_params}
use Rattle.sk_types.specs.Sizes.{has_entity, is_by_request, sizes_in, entity_rows, rows_by, group_rows}
use Rattle.sk_expr.specs.declared.row.RowKind.TheVariants.{OfEntity, OfGroup}
use Rattle.sk_expr.specs.Poly.{Poly}
use Rattle.sk_expr.specs.Rows.{NamedRow}
use Rattle.sk_geom.specs.Sources.{Source, IsSource}
use Rattle.sk_types.specs.Standings.{IsInTurn}
use Rattle.sk_system.specs.ByHandle.{is_of, is_normal_by}
use Rattle.sk_system.specs.OwnRows.{OwnNumbers, entity_row_trees, named_entity_rows, group_row_trees, named_group_rows}
use Rattle.sk_system.specs.Formulas.{NamedFormula, constraint_formula, formulas_from}
use Rattle.sk_system.specs.Fits.{IsFit}
use Rattle.sk_types.specs.Parts.{stands_for, HasParts}
use Rattle.sk_system.specs.Known.{IsTaken, IsKnown}
use Rattle.sk_system.specs.Sizes.{formula_rows, auxiliaries_in, cosines_in, rows_in}
use Rattle.sk_system.specs.GroupSystem.{plain_system, numbers_of, own_constraints, group_source, own_rows_of, entities_of, group_system}
use Rattle.sk_system.proofs.Counts.{counted}
use Rattle.sk_system.proofs.MadeWithin.{own-fit, AllNameLines, formulas-fit}
use Rattle.sk_system.proofs.Visits.{named-length}

-- ---- lines that constraints name

line-only : {s : ℕ} (r : Option (Entity s)) → stands_for r Line ≡ true → is_of is_normal r ≡ false
unfolding part_takes
line-only None h = absurd cc
line-only (Some e) h = ap is_normal (eqb-true e.kind entity_kind.LINE h)

abbrev Stands : {s : ℕ} → List (Entity s) → Need → Type 0
Stands es n = stands_for (entity_at n.entity.0 es) n.part ≡ true

module _ {s : ℕ} (o : Source s) where
  line-named : (c : Constraint s) → HasParts o.entities c → c.kind ≡ kind.POINT_ON_LINE → is_normal_by o (named c.entities 0) ≡ false
  unfolding needs_of
  line-named c h e =
      let a : All (Stands o.entities) (needs_of kind.POINT_ON_LINE c.points c.entities) = subst (λ n. All (Stands o.entities) (needs_of n c.points c.entities)) e h in
      let p : Need = record { entity = named c.points 0; part = Point } in
      let l : Need = record { entity = named c.entities 0; part = Line } in
      line-only (entity_at (named c.entities 0).0 o.entities) (All-head (Stands o.entities) l [] (All-tail (Stands o.entities) p (l ∷ []) a))

  middle-named : (c : Constraint s) → HasParts o.entities c → c.kind ≡ kind.AT_MIDPOINT → is_normal_by o (named c.entities 0) ≡ false
  unfolding needs_of
  middle-named c h e =
      let a : All (Stands o.entities) (needs_of kind.AT_MIDPOINT c.points c.entities) = subst (λ n. All (Stands o.entities) (needs_of n c.points c.entities)) e h in
      let l : Need = record { entity = named c.entities 0; part = Line } in
      let w : Need = record { entity = named c.entities 1; part = Workplane } in
      let p : Need = record { entity = named c.points 0; part = Point } in
      line-only (entity_at (named c.entities 0).0 o.entities) (All-head (Stands o.entities) l (if (named c.points 0).0 == 0 then w ∷ [] else p ∷ []) a)

  abbrev Taken : List (Constraint s) → Type 0
  Taken cs = All (IsTaken {s = s} o.entities) cs

  names : (cs : List (Constraint s)) → Taken cs → AllNameLines o cs
  names [] h = tt
  names (c ∷ cs) h = (line-named c (All-head (IsTaken {s = s} o.entities) c cs h).2, names cs (All-tail (IsTaken {s = s} o.entities) c cs h))

  -- ---- sums

  pub record IsSummed (i k : ℕ) (cs : List (Constraint s)) : Type 0 where
    pub auxiliaries : auxiliaries_in (formulas_from o i k cs) ≡ sum_by (λ (c : Constraint s). (sizes_in o.entities c).0) cs
    pub rows : rows_in (formulas_from o i k cs) ≡ sum_by (λ (c : Constraint s). (sizes_in o.entities c).1) cs
    pub cosines : cosines_in (formulas_from o i k cs) ≤ auxiliaries_in (formulas_from o i k cs)

  pub summed : (i k : ℕ) (cs : List (Constraint s)) → Taken cs → IsSummed i k cs
  summed i k [] h = record { auxiliaries = refl; rows = refl; cosines = omega arith }
  summed i k (c ∷ cs) h =
      let f = constraint_formula o i k c in
      let n : NamedFormula = record { constraint = c.id; formula = f } in
      let fs = formulas_from o (i + length f.auxiliaries) (k + length f.cosines) cs in
      let t = All-head (IsTaken {s = s} o.entities) c cs h in
      let x = counted o c i k t.0 (line-named c t.2) (middle-named c t.2) in
      let y = summed (i + length f.auxiliaries) (k + length f.cosines) cs (All-tail (IsTaken {s = s} o.entities) c cs h) in
      let x0 = x.0 in
      let x1 = x.1 in
      let x2 = x.2 in
      let ya = y.auxiliaries in
      let yr = y.rows in
      let yc = y.cosines in
      let a = sum_by-cons (λ (m : NamedFormula). length m.formula.auxiliaries) n fs in
      let r = sum_by-cons (λ (m : NamedFormula). formula_rows m.formula) n fs in
      let q = sum_by-cons (λ (m : NamedFormula). length m.formula.cosines) n fs in
      let sa = sum_by-cons (λ (d : Constraint s). (sizes_in o.entities d).0) c cs in
      let sr = sum_by-cons (λ (d : Constraint s). (sizes_in o.entities d).1) c cs in
      record { auxiliaries = omega (arith, a, sa, x0, ya); rows = omega (arith, r, sr, x1, yr); cosines = omega (arith, q, a, x2, yc) }

  -- ---- rows of entities and of the group

  two-tests : (a b : Bool) (x y : Poly ℤ) → length (if a then x ∷ [] else if b then y ∷ [] else []) ≡ (if a then 1 else if b then 1 else 0)
  two-tests true b x y = refl
  two-tests false true x y = refl
  two-tests false false x y = refl

  entity-long : (e : Entity s) → length (entity_row_trees o e) ≡ entity_rows e
  unfolding entity_row_trees
  entity-long e = two-tests (e.kind == entity_kind.NORMAL_IN_SPACE) (e.kind == entity_kind.ARC && is_by_request (maker_of e.id.0)) _ _

  entities-long : (es : List (Entity s)) → length (flat_map (named_entity_rows o) es) ≡ sum_by entity_rows es
  entities-long [] = refl
  entities-long (e ∷ es) =
      let a = length-append (named_entity_rows o e) (flat_map (named_entity_rows o) es) in
      let b = named-length OfEntity e.id.0 0 (entity_row_trees o e) in
      let c = entity-long e in
      let d = entities-long es in
      let f = sum_by-cons (entity_rows {s = s}) e es in
      omega (arith, a, b, c, d, f)

  if-long : (b : Bool) (ts : List (Poly ℤ)) → length (if b then ts else []) ≡ (if b then length ts else 0)
  if-long true ts = refl
  if-long false ts = refl

  group-long : (w : EntityId) (k : GroupKind) → length (group_row_trees o w k) ≡ rows_by k w
  unfolding group_row_trees
  group-long w Space = refl
  group-long w Plane = refl
  group-long w Extrude = if-long (has_entity w) _
  group-long w Translate = if-long (has_entity w) _
  group-long w Linked = refl

  pub own-long : (g : Group s) → length (own_rows_of o g) ≡ sum_by entity_rows (entities_of o) + group_rows g
  own-long g =
      let a = length-append (flat_map (named_entity_rows o) (entities_of o)) (named_group_rows o g) in
      let b = entities-long (entities_of o) in
      let c = named-length OfGroup g.id.0 0 (group_row_trees o g.entity_b g.kind) in
      let d = group-long g.entity_b g.kind in
      omega (arith, a, b, c, d)

-- ---- the system

pub known-source : {s : ℕ} (g : Group s) (es : List (Entity s)) (cs : List (Constraint s)) (numbers : Numbers s) → IsKnown g es cs numbers → IsSource (group_source g es cs numbers)
known-source g es cs numbers h = let u = h.few_unknowns in record { entities = h.entities; params = h.params; acts = h.acts; unknowns = h.unknowns; few = omega (arith, u) }

pub known-fits : {s : ℕ} (g : Group s) (es : List (Entity s)) (cs : List (Constraint s)) (numbers : Numbers s) → IsKnown g es cs numbers → IsFit (group_system g es cs numbers)
unfolding group_system
known-fits g es cs numbers h =
    let o = group_source g es cs numbers in
    let own = own_constraints g cs in
    let x = summed o (length o.unknowns) 0 own h.constraints in
    let xa = x.auxiliaries in
    let xr = x.rows in
    let xc = x.cosines in
    let u = h.few_unknowns in
    let r = h.few_rows in
    let l = own-long o g in
    record {
      unknowns = omega (arith, xa, u);
      few_rows = omega (arith, xr, r, l);
      cosines = omega (arith, xa, xc, u);
      rows = own-fit o g;
      formulas = formulas-fit o (length o.unknowns) 0 own (omega arith) (names o own h.constraints);
    }

-- what the trees of a known group are made from
pub record IsReady {s : ℕ} (o : Source s) (own : List (Constraint s)) : Type 0 where
  pub source : IsSource o
  pub in_turn : All (IsInTurn {s = s}) own
  pub room : length o.unknowns + auxiliaries_in (formulas_from o (length o.unknowns) 0 own) ≤ 60000
  pub few_cosines : cosines_in (formulas_from o (length o.unknowns) 0 own) ≤ 60000

known-ready : {s : ℕ} (g : Group s) (es : List (Entity s)) (cs : List (Constraint s)) (numbers : Numbers s) → IsKnown g es cs numbers → IsReady (group_source g es cs numbers) (own_constraints g cs)
known-ready g es cs numbers h =
    let o = group_source g es cs numbers in
    let x = summed o (length o.unknowns) 0 (own_constraints g cs) h.constraints in
    let xa = x.auxiliaries in
    let xc = x.cosines in
    let u = h.few_unknowns in
    record { source = known-source g es cs numbers h; in_turn = λ k d l. (h.constraints k d l).1; room = omega (arith, xa, u); few_cosines = omega (arith, xa, xc, u) }

abbrev source-over : {s : ℕ} → Group s → List (Entity s) → Numbers s → List ParamId → Source s
source-over g es numbers us = record { entities = es; params = numbers.params; acts = numbers.acts; unknowns = us; group = g.id }

pub made-ready : {s : ℕ} (g : Group s) (es : List (Entity s)) (cs own : List (Constraint s)) (numbers : Numbers s) (us : List ParamId) → us ≡ unknown_params cs es g → own ≡ own_constraints g cs →
    IsKnown g es cs numbers → IsReady (source-over g es numbers us) own
made-ready g es cs own numbers us e f h =
    subst (λ us. IsReady (source-over g es numbers us) own) (sym e) (subst (IsReady (group_source g es cs numbers)) (sym f) (known-ready g es cs numbers h))

pub made-system : {s : ℕ} (g : Group s) (es : List (Entity s)) (cs own : List (Constraint s)) (numbers : Numbers s) (us vs : List ParamId) (ns : List OwnNumbers) (rs : List NamedRow) (fs : List NamedFormula) →
    us ≡ unknown_params cs es g → vs ≡ unknown_params cs es g → own ≡ own_constraints g cs → ns ≡ numbers_of (source-over g es numbers us) → rs ≡ own_rows_of (source-over g es numbers us) g →
    fs ≡ formulas_from (source-over g es numbers us) (length us) 0 own → plain_system vs ns rs fs ≡ group_system g es cs numbers
unfolding group_system
made-system {s} g es cs own numbers us vs ns rs fs e k f a b d =
    let o = group_source g es cs numbers in
    let n = a ∙ ap (λ us. numbers_of (source-over g es numbers us)) e in
    let r = b ∙ ap (λ us. own_rows_of (source-over g es numbers us) g) e in
    let m = d ∙ ap (λ us. formulas_from (source-over g es numbers us) (length us) 0 own) e ∙ ap (λ (cs : List (Constraint s)). formulas_from o (length o.unknowns) 0 cs) f in
    ap (λ vs. plain_system vs ns rs fs) k ∙ ap (λ ns. plain_system o.unknowns ns rs fs) n ∙ ap (λ rs. plain_system o.unknowns (numbers_of o) rs fs) r ∙ ap (λ fs. plain_system o.unknowns (numbers_of o) (own_rows_of o g) fs) m
