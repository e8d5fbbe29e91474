-- Where a column doesn't occur in a polynomial, the slope is 0 to 0, and the value alone decides whether it is past the limit.
use Rattle.std.proofs.Common.{◌≡◌, ℕ, zero, suc, ◌+◌, ◌^◌, ℤ, pos, Bool, true, false, List, [], ◌∷◌, map, Option, Some, None, refl, ap, ◌∙◌, arith, true≢false}
use Rattle.std.specs.Prelude.{◌==◌, ◌||◌, if◌then◌else◌, slice_get, option_and_then, option_map}
use Rattle.std.specs.List.{enumerate_from}
use Rattle.std.proofs.lemmas.Option.{slice_get-map}
use Rattle.std.proofs.Math.IntN.{*ℤ-zero}
use Rattle.std.proofs.Math.Nat.{zero-div}
use Rattle.sk_num.specs.Ends.{Ends, point, span_add, span_sub, span_mul}
use Rattle.sk_expr.specs.Poly.{Poly, number, cosine, unknown, plus, minus, times, occurs}
use Rattle.sk_expr.specs.SpanValue.{value_by, DualEnds, dual_of, dual_add, dual_sub, dual_mul, dual_unknowns, dual_cosines, dual_value}

-- a value with the slope 0 to 0
abbrev pub constant_dual : Ends → DualEnds
constant_dual v = dual_of v (point (pos 0))

enumerated-map : {A B : Type 0} (f : ℕ × A → B) (n i : ℕ) (xs : List A) → slice_get (map f (enumerate_from n xs)) i ≡ option_map (λ x. f (n + i, x)) (slice_get xs i)
enumerated-map f n i [] = refl
enumerated-map f n zero (x ∷ xs) = let e : n ≡ n + 0 = omega arith in ap (λ k. Some (f (k, x))) e
enumerated-map f n (suc i) (x ∷ xs) = let e : (n + 1) + i ≡ n + suc i = omega arith in enumerated-map f (n + 1) i xs ∙ ap (λ k. option_map (λ y. f (k, y)) (slice_get xs i)) e

-- the dual of an unknown
pub unknown-dual : (s c i : ℕ) (us : List Ends) → slice_get (dual_unknowns s c us) i ≡ option_map (λ x. dual_of x (if i == c then point (pos (2 ^ s)) else point (pos 0))) (slice_get us i)
unknown-dual s c i us =
    let e : 0 + i ≡ i = omega arith in
    enumerated-map (λ p. dual_of p.1 (if p.0 == c then point (pos (2 ^ s)) else point (pos 0))) 0 i us
    ∙ ap (λ k. option_map (λ x. dual_of x (if k == c then point (pos (2 ^ s)) else point (pos 0))) (slice_get us i)) e

pub cosine-dual : (i : ℕ) (cs : List Ends) → slice_get (dual_cosines cs) i ≡ option_map constant_dual (slice_get cs i)
cosine-dual i cs = slice_get-map constant_dual cs i

pub zero-span_mul : (s : ℕ) (x : Ends) → span_mul s x (point (pos 0)) ≡ Some (point (pos 0))
zero-span_mul s x = rw (*ℤ-zero x.lo, *ℤ-zero x.hi, zero-div (2 ^ s)) refl

mapped : (o : Option Ends) → option_and_then (λ v. Some (constant_dual v)) o ≡ option_map constant_dual o
mapped None = refl
mapped (Some v) = refl

joined : (f : Ends → Ends → Option Ends) (g : DualEnds → DualEnds → Option DualEnds) → ((x y : Ends) → g (constant_dual x) (constant_dual y) ≡ option_map constant_dual (f x y)) →
    (a b : Option Ends) (d e : Option DualEnds) → d ≡ option_map constant_dual a → e ≡ option_map constant_dual b →
    option_and_then (λ x. option_and_then (λ y. g x y) e) d ≡ option_map constant_dual (option_and_then (λ x. option_and_then (λ y. f x y) b) a)
joined f g h None b d e i j = rw i refl
joined f g h (Some x) None d e i j = rw (i, j) refl
joined f g h (Some x) (Some y) d e i j = rw (i, j) (h x y)

either-false : (a b : Bool) → (a || b) ≡ false → (a ≡ false) × (b ≡ false)
either-false true b h = absurd (true≢false h)
either-false false b h = (refl, h)

module _ (s : ℕ) (us cs : List Ends) (c : ℕ) where
  pub absent-dual : (t : Poly ℤ) → occurs c t ≡ false → dual_value s us cs c t ≡ option_map constant_dual (value_by point span_add span_sub (span_mul s) us cs t)
  absent-dual (number g) h = refl
  absent-dual (cosine i) h = cosine-dual i cs
  absent-dual (unknown i) h = unknown-dual s c i us ∙ ap (λ b. option_map (λ x. dual_of x (if b then point (pos (2 ^ s)) else point (pos 0))) (slice_get us i)) h
  absent-dual (plus a b) h =
      let p = either-false (occurs c a) (occurs c b) h in
      joined span_add dual_add (λ x y. mapped (span_add x y)) _ _ _ _ (absent-dual a p.0) (absent-dual b p.1)
  absent-dual (minus a b) h =
      let p = either-false (occurs c a) (occurs c b) h in
      joined span_sub dual_sub (λ x y. mapped (span_sub x y)) _ _ _ _ (absent-dual a p.0) (absent-dual b p.1)
  absent-dual (times a b) h =
      let p = either-false (occurs c a) (occurs c b) h in
      joined (span_mul s) (dual_mul s) (λ x y. rw (zero-span_mul s x, zero-span_mul s y) (mapped (span_mul s x y))) _ _ _ _ (absent-dual a p.0) (absent-dual b p.1)
