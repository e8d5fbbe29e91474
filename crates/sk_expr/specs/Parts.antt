-- What a constraint's rows are made of: its needed parts as polynomials. Vectors in space have three components, those in a
-- workplane two; what isn't there is the zero vector, False or an empty list.
use Rattle.std.specs.Prelude.{ℕ, ℤ, pos, Bool, List, [], ◌∷◌, slice_get, unwrap_or, Option, None, if◌then◌else◌}
use Rattle.sk_expr.specs.Poly.{Poly, number}
use Rattle.sk_expr.specs.Vectors.{vector_difference}

-- points 0 and 1 of a line, in space and, where the constraint has a workplane, in it
pub record LinePoints : Type 0 where
  pub ends : List (List (Poly ℤ))
  pub flat : List (List (Poly ℤ))

-- origin and axes of a workplane
pub record PlaneFrame : Type 0 where
  pub origin : List (Poly ℤ)
  pub u : List (Poly ℤ)
  pub v : List (Poly ℤ)
  pub n : List (Poly ℤ)

-- the axes of a normal
pub record NormalAxes : Type 0 where
  pub u : List (Poly ℤ)
  pub v : List (Poly ℤ)
  pub n : List (Poly ℤ)

-- a circle or an arc: a circle has a distance, an arc a start and an end; flat are centre and ends where both stand in a
-- plane by parameters of their own or by projection, axes are U and V of the normal where they don't
pub record RoundParts : Type 0 where
  pub centre : List (Poly ℤ)
  pub ends : List (List (Poly ℤ))
  pub flat_centre : Option (List (Poly ℤ))
  pub flat_ends : List (List (Poly ℤ))
  pub distance : Option (Poly ℤ)
  pub axes : List (List (Poly ℤ))

-- each kind of part in its order; frames are those of the needed workplanes, then that of the constraint's; normals says of
-- entities A to D which are normals
pub record PartsOf : Type 0 where
  pub points : List (List (Poly ℤ))
  pub flat_points : List (List (Poly ℤ))
  pub lines : List LinePoints
  pub frames : List PlaneFrame
  pub axes : List NormalAxes
  pub rounds : List RoundParts
  pub normals : List Bool

-- ---- the parts in their places

abbrev pub no_vector : List (Poly ℤ)
no_vector = number (pos 0) ∷ number (pos 0) ∷ []

abbrev pub no_round : RoundParts
no_round = record { centre = number (pos 0) ∷ no_vector; ends = []; flat_centre = None; flat_ends = []; distance = None; axes = [] }

abbrev pub vector_at : List (List (Poly ℤ)) → ℕ → List (Poly ℤ)
vector_at vs i = unwrap_or (slice_get vs i) no_vector

unfoldable pub line_at : PartsOf → ℕ → LinePoints
line_at m i = unwrap_or (slice_get m.lines i) (record { ends = []; flat = [] })

unfoldable pub frame_at : PartsOf → ℕ → PlaneFrame
frame_at m i = unwrap_or (slice_get m.frames i) (record { origin = no_vector; u = no_vector; v = no_vector; n = no_vector })

unfoldable pub axes_at : PartsOf → ℕ → NormalAxes
axes_at m i = unwrap_or (slice_get m.axes i) (record { u = no_vector; v = no_vector; n = no_vector })

unfoldable pub round_at : PartsOf → ℕ → RoundParts
round_at m i = unwrap_or (slice_get m.rounds i) no_round

-- a point, an end of a line and a line's vector, point 0 less point 1: in the workplane, or else in space
unfoldable pub point_at : Bool → PartsOf → ℕ → List (Poly ℤ)
point_at flat m i = vector_at (if flat then m.flat_points else m.points) i

unfoldable pub end_at : Bool → LinePoints → ℕ → List (Poly ℤ)
end_at flat l i = vector_at (if flat then l.flat else l.ends) i

unfoldable pub line_vector : Bool → LinePoints → List (Poly ℤ)
line_vector flat l = vector_difference (end_at flat l 0) (end_at flat l 1)
