-- Faces as the code holds them, seen as polynomials.
use Rattle.std.specs.Prelude.{ℕ}
use Rattle.sk_expr.specs.PartViews.{v3_of}
use Rattle.sk_face.specs.FaceRows.{Face, flat, side}
use Rattle.sk_face.specs.declared.faces.FaceParts.{FaceParts}
use Rattle.sk_face.specs.declared.faces.FaceParts.TheVariants as held

abbrev pub face_of : {s : ℕ} → FaceParts s → Face
face_of (held.Flat on n) = flat (v3_of on) (v3_of n)
face_of (held.Side on to t) = side (v3_of on) (v3_of to) (v3_of t)
