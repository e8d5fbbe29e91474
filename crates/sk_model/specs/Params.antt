-- A parameter, typed from its lines (SolveSpace's file format).
use Rattle.std.specs.Prelude.{ℕ, ◌==◌, pos, List, Result, Ok}
use Rattle.sk_types.specs.declared.entity.ParamValue.{ParamValue}
use Rattle.sk_records.specs.Rows.{Row}
use Rattle.sk_model.specs.declared.faults.ModelFault.{ModelFault}
use Rattle.sk_model.specs.declared.faults.ModelFault.TheVariants.{BadValue, DuplicateHandle}
use Rattle.sk_model.specs.declared.keys.Key.TheVariants as key
use Rattle.sk_model.specs.Chain.{then_of, refused, seen_in}
use Rattle.sk_model.specs.Fields.{handle_under, quantity_under}

-- a parameter over the handles of earlier parameters, or its first fault
unfoldable pub param_of : (s : ℕ) → List ℕ → List Row → Result (ParamValue s) ModelFault
param_of s seen rows =
    then_of (handle_under key.ParamHandle rows) (λ id.
    then_of (quantity_under s (pos 0) key.ParamValue rows) (λ value.
    refused (id == 0) (BadValue id) (
    refused (seen_in id seen) (DuplicateHandle id) (
    Ok (record { id = record { 0 = id }; value = value })))))
