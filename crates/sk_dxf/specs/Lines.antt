-- The text of shapes in ASCII DXF: group codes and values, each on a line of its own, all on layer 0.
use Rattle.std.specs.Prelude.{ℕ, zero, suc, ℤ, pos, List, [], ◌∷◌, ◌++◌, get_or, codes}
use Rattle.sk_num.specs.Spelling.{quantity_text}
use Rattle.sk_cubic.specs.CurvePoint.{curve_point}
use Rattle.sk_dxf.specs.declared.shape.Shape.{Shape}
use Rattle.sk_dxf.specs.declared.shape.Shape.TheVariants.{Line, Point, Circle, Arc, Cubic}

abbrev pub line : List ℕ → List ℕ
line text = text ++ 10 ∷ []

-- a group code with a quantity
unfoldable pub quantity_lines : ℕ → List ℕ → ℤ → List ℕ
quantity_lines s code z = line code ++ line (quantity_text s z)

-- x, y and z by the group codes of a first and of a second point
unfoldable pub first_place : ℕ → List ℤ → List ℕ
first_place s p = quantity_lines s (codes "10") (get_or p 0 (pos 0)) ++ (quantity_lines s (codes "20") (get_or p 1 (pos 0)) ++ quantity_lines s (codes "30") (get_or p 2 (pos 0)))

unfoldable pub second_place : ℕ → List ℤ → List ℕ
second_place s p = quantity_lines s (codes "11") (get_or p 0 (pos 0)) ++ (quantity_lines s (codes "21") (get_or p 1 (pos 0)) ++ quantity_lines s (codes "31") (get_or p 2 (pos 0)))

unfoldable pub line_text : ℕ → List ℤ → List ℤ → List ℕ
line_text s a b = codes "0\nLINE\n8\n0\n" ++ (first_place s a ++ second_place s b)

unfoldable pub point_text : ℕ → List ℤ → List ℕ
point_text s p = codes "0\nPOINT\n8\n0\n" ++ first_place s p

unfoldable pub circle_text : ℕ → List ℤ → ℤ → List ℕ
circle_text s centre radius = codes "0\nCIRCLE\n8\n0\n" ++ (first_place s centre ++ quantity_lines s (codes "40") radius)

-- ---- polylines: 66 says that vertices follow, 70 that it isn't closed

abbrev pub polyline : List ℕ
polyline = codes "0\nPOLYLINE\n8\n0\n66\n1\n70\n0\n"

abbrev pub sequence_end : List ℕ
sequence_end = codes "0\nSEQEND\n"

unfoldable pub vertex : ℕ → List ℤ → List ℕ
vertex s p = codes "0\nVERTEX\n8\n0\n" ++ first_place s p

-- a vertex from which the polyline goes on along an arc
unfoldable pub bulged_vertex : ℕ → List ℤ → ℤ → List ℕ
bulged_vertex s p bulge = vertex s p ++ quantity_lines s (codes "42") bulge

unfoldable pub arc_text : ℕ → List ℤ → List ℤ → ℤ → List ℕ
arc_text s start end bulge = polyline ++ (bulged_vertex s start bulge ++ (vertex s end ++ sequence_end))

-- the first n points of a cubic
abbrev pub vertices : ℕ → ℕ → List (List ℤ) → List ℕ
vertices s zero ps = []
vertices s (suc n) ps = vertices s n ps ++ vertex s (curve_point ps n)

-- 17 points, from the first control point to the last
unfoldable pub cubic_text : ℕ → List (List ℤ) → List ℕ
cubic_text s ps = polyline ++ (vertices s 17 ps ++ sequence_end)

abbrev pub shape_text : {s : ℕ} → Shape s → List ℕ
shape_text {s} (Line a b) = line_text s a b
shape_text {s} (Point p) = point_text s p
shape_text {s} (Circle centre radius) = circle_text s centre radius
shape_text {s} (Arc start end bulge) = arc_text s start end bulge
shape_text {s} (Cubic ps) = cubic_text s ps
