use Rattle.std.proofs.Common.{lit≤, ◌∙◌, ap, map, sym}
use Rattle.sk_regen.specs.GroupWorks.{request_handle}
use Rattle.sk_regen.proofs.Ready.{params-rise, acts-rise}
use Rattle.sk_regen.proofs.solving.start_at.Goals as goal

pub start_of-requires : goal.start_of-requires
start_of-requires g c =
    let is = c.requires.ground in
    (lit≤ tt, (lit≤ tt, (lit≤ tt, (lit≤ tt, (c.requires.scale, (c.requires.places.requests ∙ ap (map request_handle) (sym c.requests-requests.ensures.requests), (is.outline.rise, (params-rise _ _ _ _ is, acts-rise _ _ _ _ is))))))))
