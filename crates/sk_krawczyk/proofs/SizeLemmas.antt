-- The greatest and the least of radii, one by one.
use Rattle.std.proofs.Common.{◌≡◌, ℕ, suc, ◌<◌, ◌+◌, ◌/◌, arith, refl, ap, sym, ◌∙◌, List, [], ◌∷◌, length, map, drop, get_or, ℤ, pos, max}
use Rattle.std.specs.Prelude.{min, unsigned_abs}
use Rattle.std.proofs.Math.Seq.{drop-cons}
use Rattle.sk_krawczyk.specs.IntervalTest.{greatest, least, radius_ratio}

first : (xs : List ℤ) (j : ℕ) (x : ℕ) → j < length xs → x ≡ unsigned_abs (get_or xs j (pos 0)) → map unsigned_abs (drop j xs) ≡ x ∷ map unsigned_abs (drop (j + 1) xs)
first xs j x l e =
    let z : suc j ≡ j + 1 = omega arith in
    ap (map unsigned_abs) (drop-cons xs j (pos 0) l) ∙ ap (λ y. y ∷ map unsigned_abs (drop (suc j) xs)) (sym e) ∙ ap (λ k. x ∷ map unsigned_abs (drop k xs)) z

pub greatest-more : (xs : List ℤ) (j x top : ℕ) → j < length xs → x ≡ unsigned_abs (get_or xs j (pos 0)) →
    max (max x top) (greatest (map unsigned_abs (drop (j + 1) xs))) ≡ max top (greatest (map unsigned_abs (drop j xs)))
greatest-more xs j x top l e =
    let r = greatest (map unsigned_abs (drop (j + 1) xs)) in
    let m : max (max x top) r ≡ max top (max x r) = omega arith in
    m ∙ ap (λ ys. max top (greatest ys)) (sym (first xs j x l e))

least-min : (a b : ℕ) (rs : List ℕ) → least (min a b) rs ≡ min a (least b rs)
least-min a b [] = refl
least-min a b (t ∷ rs) = let m : min (min a b) (least t rs) ≡ min a (min b (least t rs)) = omega arith in m

pub least-more : (xs : List ℤ) (j x low : ℕ) → j < length xs → x ≡ unsigned_abs (get_or xs j (pos 0)) →
    least (min low x) (map unsigned_abs (drop (j + 1) xs)) ≡ least low (map unsigned_abs (drop j xs))
least-more xs j x low l e = least-min low x (map unsigned_abs (drop (j + 1) xs)) ∙ ap (least low) (sym (first xs j x l e))

pub ratio-parts : (xs : List ℤ) → 0 < length xs → (g l : ℕ) → g ≡ greatest (map unsigned_abs xs) → l ≡ least (unsigned_abs (get_or xs 0 (pos 0))) (map unsigned_abs (drop 1 xs)) →
    (g / l) ≡ radius_ratio (map unsigned_abs xs)
ratio-parts [] h g l a b = absurd (omega (arith, h))
ratio-parts (x ∷ xs) h g l a b = ap (λ k. k / l) a ∙ ap (λ k. greatest (map unsigned_abs (x ∷ xs)) / k) b
