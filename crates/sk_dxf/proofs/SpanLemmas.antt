-- Products of spans are the spans of products.
use Rattle.std.proofs.Common.{◌≡◌, ℕ, ℤ, List, [], ◌∷◌, Option, refl}
use Rattle.std.specs.Option.{option_map}
use Rattle.sk_num.specs.Each.{each_some}
use Rattle.sk_num.specs.Ends.{Ends, mid}
use Rattle.sk_expr.specs.Poly.{Poly, plus, minus}
use Rattle.sk_expr.specs.Vectors.{vector_difference, dot}
use Rattle.sk_expr.specs.SpanValue.{span_value}
use Rattle.sk_geom.specs.Sources.{three_numbers, four_numbers}
use Rattle.sk_geom.specs.Quaternions.{quaternion_axes}
use Rattle.sk_dxf.specs.Plane.{PlaneNumbers, normal_axis, coordinates, leaning, facing}
use Rattle.sk_dxf.specs.Spans.{span_sum, span_difference, span_product, span_dot, plain_span, plain_spans}

pub plain-sum : (s : ℕ) (a b : Poly ℤ) → plain_span s (plus a b) ≡ span_sum (plain_span s a) (plain_span s b)
unfolding span_value span_sum plain_span
plain-sum s a b = refl

pub plain-difference : (s : ℕ) (a b : Poly ℤ) → plain_span s (minus a b) ≡ span_difference (plain_span s a) (plain_span s b)
unfolding span_value span_difference plain_span
plain-difference s a b = refl

pub coordinates-are : (s : ℕ) (plane : PlaneNumbers) (zs : List ℤ) (d u v n : List (Option Ends)) →
    d ≡ plain_spans s (vector_difference (three_numbers zs) (three_numbers plane.origin)) →
    u ≡ plain_spans s (quaternion_axes s (four_numbers plane.normal)).u →
    v ≡ plain_spans s (quaternion_axes s (four_numbers plane.normal)).v →
    n ≡ plain_spans s (quaternion_axes s (four_numbers plane.normal)).n →
    each_some (λ a. option_map mid (span_dot s d a)) (u ∷ v ∷ n ∷ []) ≡ coordinates s plane zs
unfolding vector_difference dot span_value quaternion_axes coordinates span_sum span_product span_dot plain_span plain_spans
coordinates-are s plane zs d u v n da ua va na = rw (da, ua, va, na) refl

pub leaning-is : (s : ℕ) (plane : PlaneNumbers) (zs : List ℤ) (a u v : List (Option Ends)) →
    a ≡ plain_spans s (normal_axis s zs) →
    u ≡ plain_spans s (quaternion_axes s (four_numbers plane.normal)).u →
    v ≡ plain_spans s (quaternion_axes s (four_numbers plane.normal)).v →
    each_some (λ b. option_map mid (span_dot s a b)) (u ∷ v ∷ []) ≡ leaning s plane zs
unfolding dot span_value quaternion_axes leaning span_sum span_product span_dot plain_span plain_spans
leaning-is s plane zs a u v aa ua va = rw (aa, ua, va) refl

pub facing-is : (s : ℕ) (plane : PlaneNumbers) (zs : List ℤ) (a n : List (Option Ends)) →
    a ≡ plain_spans s (normal_axis s zs) →
    n ≡ plain_spans s (quaternion_axes s (four_numbers plane.normal)).n →
    option_map mid (span_dot s a n) ≡ facing s plane zs
unfolding dot span_value quaternion_axes facing span_sum span_product span_dot plain_span plain_spans
facing-is s plane zs a n aa na = rw (aa, na) refl
