use Rattle.std.proofs.Common.{lit<, ◌∙◌, ◌≡◌, ◌<◌, length, ap, List, map, true, arith}
use Rattle.sk_num.specs.Ends.{Ends}
use Rattle.sk_krawczyk.specs.Box.{radius_of}
use Rattle.sk_krawczyk.specs.IntervalTest.{are_near}
use Rattle.sk_krawczyk.proofs.CertificateLemmas.{near-at}
use Rattle.sk_krawczyk.proofs.radii.log_at.Goals as goal

pub radius_log-requires : goal.radius_log-requires
radius_log-requires g c =
    let es = c.as_slice.result.now in
    let inside : c.args.i < length es = omega (arith, c.requires.inside, ap length c.as_slice.ensures) in
    let near : are_near g.row.S (map radius_of es) ≡ true = ap (λ (xs : List Ends). are_near g.row.S (map radius_of xs)) c.as_slice.ensures ∙ c.requires.near in
    (lit< tt, (c.requires.scale, near-at g.row.S es c.args.i c.index-as_slice-i.result inside c.index-as_slice-i.is near))
