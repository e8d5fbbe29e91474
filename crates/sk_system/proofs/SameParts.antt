-- The parts of a constraint are the same where each list is.
use Rattle.std.proofs.Common.{◌≡◌, List, Bool, ℤ, ap, ◌∙◌}
use Rattle.sk_expr.specs.Poly.{Poly}
use Rattle.sk_expr.specs.Parts.{LinePoints, PlaneFrame, NormalAxes, RoundParts, PartsOf}

abbrev parts : List (List (Poly ℤ)) → List (List (Poly ℤ)) → List LinePoints → List PlaneFrame → List NormalAxes → List RoundParts → List Bool → PartsOf
parts ps fs ls ws xs rs ns = record { points = ps; flat_points = fs; lines = ls; frames = ws; axes = xs; rounds = rs; normals = ns }

pub same_parts : (p q : PartsOf) → p.points ≡ q.points → p.flat_points ≡ q.flat_points → p.lines ≡ q.lines → p.frames ≡ q.frames → p.axes ≡ q.axes → p.rounds ≡ q.rounds → p.normals ≡ q.normals → p ≡ q
same_parts p q a b c d e f g =
    ap (λ ps. parts ps p.flat_points p.lines p.frames p.axes p.rounds p.normals) a
    ∙ ap (λ fs. parts q.points fs p.lines p.frames p.axes p.rounds p.normals) b
    ∙ ap (λ ls. parts q.points q.flat_points ls p.frames p.axes p.rounds p.normals) c
    ∙ ap (λ ws. parts q.points q.flat_points q.lines ws p.axes p.rounds p.normals) d
    ∙ ap (λ xs. parts q.points q.flat_points q.lines q.frames xs p.rounds p.normals) e
    ∙ ap (λ rs. parts q.points q.flat_points q.lines q.frames q.axes rs p.normals) f
    ∙ ap (λ ns. parts q.points q.flat_points q.lines q.frames q.axes q.rounds ns) g
