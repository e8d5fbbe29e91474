-- The system of a group: what is chosen once, and what is seen at a point.
use Rattle.std.specs.Prelude.{◌==◌, ℕ, ℤ, pos, Bool, not, ◌||◌, List, [], ◌∷◌, ◌++◌, map, length, unwrap_or, is_some, Option, Some, None, option_and_then, option_map, if◌then◌else◌}
use Rattle.std.specs.List.{filter, flat_map, list_all}
use Rattle.sk_types.specs.declared.handle.ParamId.{ParamId}
use Rattle.sk_types.specs.declared.constraint.Constraint.{Constraint}
use Rattle.sk_types.specs.declared.entity.Entity.{Entity}
use Rattle.sk_types.specs.declared.entity.Numbers.{Numbers}
use Rattle.sk_types.specs.declared.entity.Act.{Act}
use Rattle.sk_types.specs.declared.group.Group.{Group}
use Rattle.sk_types.specs.Params.{unknown_params}
use Rattle.sk_expr.specs.declared.row.RowKind.TheVariants.{OfConstraint}
use Rattle.sk_expr.specs.Rows.{NamedRow}
use Rattle.sk_expr.specs.Poly.{Poly}
use Rattle.sk_expr.specs.Seen.{Seen}
use Rattle.sk_expr.specs.Readings.{reading, readings, grown_by, with_relations}
use Rattle.sk_geom.specs.Sources.{Source}
use Rattle.sk_system.specs.Formulas.{NamedFormula, formulas_from}
use Rattle.sk_system.specs.OwnRows.{OwnNumbers, own_numbers, named_entity_rows, named_group_rows}

-- ---- what is chosen once

-- the unknown parameters, the numbers of the group's own entities, the rows of entities and of the group, and the formulas of
-- constraints
pub record GroupSystem : Type 0 where
  pub unknowns : List ParamId
  pub numbers : List OwnNumbers
  pub rows : List NamedRow
  pub formulas : List NamedFormula

abbrev pub own_constraints : {s : ℕ} → Group s → List (Constraint s) → List (Constraint s)
own_constraints g cs = filter (λ c. c.group.0 == g.id.0) cs

-- what the group's trees are made from
abbrev pub group_source : {s : ℕ} → Group s → List (Entity s) → List (Constraint s) → Numbers s → Source s
group_source g es cs numbers = record { entities = es; params = numbers.params; acts = numbers.acts; unknowns = unknown_params cs es g; group = g.id }

abbrev pub plain_system : List ParamId → List OwnNumbers → List NamedRow → List NamedFormula → GroupSystem
plain_system us ns rs fs = record { unknowns = us; numbers = ns; rows = rs; formulas = fs }

-- those of a source's group
abbrev pub entities_of : {s : ℕ} → Source s → List (Entity s)
entities_of o = filter (λ e. e.group.0 == o.group.0) o.entities

abbrev pub numbers_of : {s : ℕ} → Source s → List OwnNumbers
numbers_of o = flat_map (own_numbers o) (entities_of o)

abbrev pub own_rows_of : {s : ℕ} → Source s → Group s → List NamedRow
own_rows_of o g = flat_map (named_entity_rows o) (entities_of o) ++ named_group_rows o g

-- entities by handle, then the group, then constraints in the order of the file
unfoldable pub group_system : {s : ℕ} → Group s → List (Entity s) → List (Constraint s) → Numbers s → GroupSystem
group_system g es cs numbers =
    let o = group_source g es cs numbers in
    record {
      unknowns = o.unknowns;
      numbers = numbers_of o;
      rows = own_rows_of o g;
      formulas = formulas_from o (length o.unknowns) 0 (own_constraints g cs);
    }

-- ---- what is seen at a point

abbrev pub start_at : GroupSystem → List ℤ → Seen
start_at y xs = record { unknowns = xs; rows = y.rows; cosines = []; forced = [] }

-- the constraint's auxiliaries with their rows, its cosines, and its relation rows behind all others
abbrev pub add_formula : ℕ → NamedFormula → Seen → Option Seen
add_formula s f seen = option_map with_relations (grown_by s OfConstraint f.constraint.0 f.formula seen)

-- constraint by constraint
abbrev pub add_formulas : ℕ → List NamedFormula → Seen → Option Seen
add_formulas s [] seen = Some seen
add_formulas s (f ∷ fs) seen = option_and_then (add_formulas s fs) (add_formula s f seen)

-- whether an entity's numbers all read within the limit, where they count
abbrev pub is_within : ℕ → Seen → OwnNumbers → Bool
is_within s seen n = not n.is_read || is_some (readings s seen n.trees)

-- none where a reading passes the limit: of the group's own numbers, or of its constraints
unfoldable pub seen_at : ℕ → GroupSystem → List ℤ → Option Seen
seen_at s y xs = if list_all (is_within s (start_at y xs)) y.numbers then add_formulas s y.formulas (start_at y xs) else None

-- ---- the numbers that a group leaves: readings, 0 where one passes the limit

abbrev pub reading_or_zero : ℕ → Seen → Poly ℤ → ℤ
reading_or_zero s seen t = unwrap_or (reading s seen t) (pos 0)

abbrev pub act_of : {s : ℕ} → Seen → OwnNumbers → Act s
act_of {s} seen n = record { entity = n.entity; values = map (reading_or_zero s seen) n.trees }

unfoldable pub acts_at : {s : ℕ} → GroupSystem → List ℤ → List (Act s)
acts_at {s} y xs = map (act_of (start_at y xs)) y.numbers
