use Rattle.std.proofs.Common.{◌∙◌, ap, sym, false}
use Rattle.std.specs.Option.{option_copied}
use Rattle.sk_regen.proofs.Starting.{request_found, request_missing, within_requests}
use Rattle.sk_regen.proofs.starts.request_at.Goals as goal

pub returns-in_err-place : goal.returns-in_err-place
returns-in_err-place c = ap option_copied c.from_residual.ensures ∙ request_missing c.args.id.0 c.args.requests.now c.args.places.now.keys c.requires (sym c.in_err-place.ensures.index)

pub returns : goal.returns
returns c =
    request_found c.args.id.0 c.args.requests.now c.args.places.now.keys c.in_ok-place.place c.requires (sym c.in_ok-place.ensures.index)
    (record { id = record { 0 = 0 }; kind = 0; group = record { 0 = 0 }; workplane = record { 0 = 0 }; construction = false; extra = 0 })
    (within_requests c.args.requests.now c.args.places.now.keys c.in_ok-place.place c.requires c.in_ok-place.ensures.within)
