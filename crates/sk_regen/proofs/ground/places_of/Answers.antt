use Rattle.std.proofs.Common.{◌∙◌, map, false, arith}
use Rattle.std.proofs.lemmas.List.{take_all, length-map}
use Rattle.sk_regen.specs.GroupWorks.{request_handle}
use Rattle.sk_regen.proofs.Requests.{request-step}
use Rattle.sk_regen.proofs.ground.places_of.Goals as goal

pub loop-request-preserved : goal.loop-request-preserved
loop-request-preserved c =
    request-step c.args.requests.now c.loop-request.request-index (record { id = record { 0 = 0 }; kind = 0; group = record { 0 = 0 }; workplane = record { 0 = 0 }; construction = false; extra = 0 })
    c.loop-request.places.keys _ c.requires c.loop-request-test.true c.loop-request.invariant c.in_ok-insert.ensures.keys

pub returns : goal.returns
returns c =
    let long = length-map c.args.requests.now request_handle in
    let past = c.loop-request-test.false in
    c.loop-request.invariant ∙ take_all c.loop-request.request-index (map request_handle c.args.requests.now) (omega (arith, long, past))
