-- The parts of a constraint as the code holds them, seen as polynomials.
use Rattle.std.specs.Prelude.{ℕ, ℤ, List, [], ◌∷◌, map, unwrap_or, slice_get, option_map, Option, Some, None}
use Rattle.std.proofs.lemmas.Option.{slice_get-map}
use Rattle.sk_expr.specs.Poly.{Poly}
use Rattle.sk_expr.specs.Trees.{poly_of}
use Rattle.sk_expr.specs.Parts.{no_vector, LinePoints, PlaneFrame, NormalAxes, RoundParts, PartsOf}
use Rattle.sk_expr.specs.declared.expr.Expr.{Expr}
use Rattle.sk_expr.specs.declared.parts.V3.{V3}
use Rattle.sk_expr.specs.declared.parts.Frame.{Frame}
use Rattle.sk_expr.specs.declared.parts.LineParts.{LineParts}
use Rattle.sk_expr.specs.declared.parts.RadiusParts.{RadiusParts}
use Rattle.sk_expr.specs.declared.parts.ConstraintParts.{ConstraintParts}

pub ruleset part_facts = slice_get-map

abbrev pub v3_of : {s : ℕ} → V3 s → List (Poly ℤ)
v3_of v = poly_of v.x ∷ poly_of v.y ∷ poly_of v.z ∷ []

abbrev pub pair_of : List (Expr ℤ) → List (Poly ℤ)
pair_of uv = map poly_of uv

abbrev pub frame_of : {s : ℕ} → Frame s → PlaneFrame
frame_of f = record { origin = v3_of f.origin; u = v3_of f.u; v = v3_of f.v; n = v3_of f.n }

abbrev pub axis_of : {s : ℕ} → List (V3 s) → ℕ → List (Poly ℤ)
axis_of {s} a i = unwrap_or (slice_get (map (v3_of {s = s}) a) i) no_vector

abbrev pub axes_of : {s : ℕ} → List (V3 s) → NormalAxes
axes_of {s} a = record { u = axis_of {s = s} a 0; v = axis_of {s = s} a 1; n = axis_of {s = s} a 2 }

abbrev pub pairs_of : Option (List (List (Expr ℤ))) → List (List (Poly ℤ))
pairs_of None = []
pairs_of (Some ps) = map pair_of ps

abbrev pub vectors_of : {s : ℕ} → Option (List (V3 s)) → List (List (Poly ℤ))
vectors_of None = []
vectors_of {s} (Some vs) = map (v3_of {s = s}) vs

abbrev pub line_of : {s : ℕ} → LineParts s → LinePoints
line_of {s} l = record { ends = map (v3_of {s = s}) l.ends; flat = pairs_of l.flat }

abbrev pub round_of : {s : ℕ} → RadiusParts s → RoundParts
round_of {s} r = record {
  centre = v3_of r.centre;
  ends = map (v3_of {s = s}) r.ends;
  flat_centre = option_map pair_of r.flat_centre;
  flat_ends = map pair_of r.flat_ends;
  distance = option_map poly_of r.distance;
  axes = vectors_of {s = s} r.axes;
}

unfoldable pub parts_of : {s : ℕ} → ConstraintParts s → PartsOf
parts_of {s} m = record {
  points = map (v3_of {s = s}) m.points;
  flat_points = map pair_of m.flat_points;
  lines = map (line_of {s = s}) m.lines;
  frames = map (frame_of {s = s}) m.frames;
  axes = map (axes_of {s = s}) m.axes;
  rounds = map (round_of {s = s}) m.radii;
  normals = m.is_normal;
}
