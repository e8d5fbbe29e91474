-- A request, typed from its lines (SolveSpace's file format).
use Rattle.std.specs.Prelude.{ℕ, ◌==◌, ◌&&◌, nat_le, ℤ, pos, negsuc, unsigned_abs, List, Bool, false, not, Result, Ok}
use Rattle.sk_types.specs.declared.request.Request.{Request}
use Rattle.sk_types.specs.declared.request_kind.TheConstants as request_kind
use Rattle.sk_types.specs.Standings.{request_standing}
use Rattle.sk_records.specs.Rows.{Row}
use Rattle.sk_model.specs.declared.faults.ModelFault.{ModelFault}
use Rattle.sk_model.specs.declared.faults.ModelFault.TheVariants.{BadValue, DuplicateHandle, LeftOut}
use Rattle.sk_model.specs.declared.faults.Reason.TheVariants as reason
use Rattle.sk_model.specs.declared.keys.Key.TheVariants as key
use Rattle.sk_model.specs.Chain.{then_of, refused, by_standing, is_out_of, seen_in}
use Rattle.sk_model.specs.Fields.{handle_under, whole_under, flag_under, is_number}

-- a cubic has at most so many points beyond its four
abbrev pub most_extra : ℕ
most_extra = 8

-- from 0 to the most
abbrev pub is_extra : ℤ → Bool
is_extra (pos n) = nat_le n most_extra
is_extra (negsuc n) = false

-- A request over the handles of earlier requests, or its first fault: an arc has a workplane, a workplane has none; any request
-- has a fitting number of extra points.
unfoldable pub request_of : List ℕ → List Row → Result Request ModelFault
request_of seen rows =
    then_of (handle_under key.RequestHandle rows) (λ id.
    then_of (whole_under key.RequestType rows) (λ kind.
    then_of (handle_under key.RequestWorkplane rows) (λ workplane.
    then_of (handle_under key.RequestGroup rows) (λ group.
    then_of (flag_under key.RequestConstruction rows) (λ construction.
    then_of (whole_under key.RequestExtraPoints rows) (λ extra.
    refused (is_out_of 32767 id) (BadValue id) (
    refused (seen_in id seen) (DuplicateHandle id) (
    by_standing (request_standing kind) reason.Request id kind (
    refused (is_number request_kind.ARC kind && workplane == 0) (LeftOut id reason.SpaceArc) (
    refused (is_number request_kind.WORKPLANE kind && not (workplane == 0)) (LeftOut id reason.NestedWorkplane) (
    refused (not (is_extra extra)) (BadValue id) (
    Ok (record {
      id = record { 0 = id };
      kind = unsigned_abs kind;
      group = record { 0 = group };
      workplane = record { 0 = workplane };
      construction = construction;
      extra = unsigned_abs extra;
    })))))))))))))
