-- What a function along a list gives: at one more element, at an element where it fails, and at each place.
use Rattle.std.proofs.Common.{◌≡◌, ℕ, zero, suc, ◌<◌, ◌+◌, List, [], ◌∷◌, ◌++◌, length, get_or, take, Option, Some, None, refl, sym, ap, ◌∙◌, arith}
use Rattle.std.specs.Prelude.{slice_get}
use Rattle.std.proofs.lemmas.List.{take_more}
use Rattle.sk_num.specs.Each.{cons_if, each_some}

some_same : {T : Type 0} (x y : T) → Some x ≡ Some y → x ≡ y
some_same x y e = cc

each-cons : {B : Type 0} (a : Option B) (r t : Option (List B)) (ys : List B) (y : B) → cons_if a r ≡ Some ys → ((ws : List B) → r ≡ Some ws → t ≡ Some (ws ++ y ∷ [])) → cons_if a t ≡ Some (ys ++ y ∷ [])
each-cons None r t ys y h k = absurd cc
each-cons (Some w) None t ys y h k = absurd cc
each-cons {B} (Some w) (Some ws) t ys y h k = rw (k ws refl) (ap (λ (l : List B). Some (l ++ y ∷ [])) (some_same (w ∷ ws) ys h))

each_some-more : {A B : Type 0} (f : A → Option B) (xs : List A) (x : A) (ys : List B) (y : B) → each_some f xs ≡ Some ys → f x ≡ Some y → each_some f (xs ++ x ∷ []) ≡ Some (ys ++ y ∷ [])
each_some-more {A} {B} f [] x ys y h e = rw e (ap (λ (l : List B). Some (l ++ y ∷ [])) (some_same [] ys h))
each_some-more f (z ∷ zs) x ys y h e = each-cons (f z) (each_some f zs) (each_some f (zs ++ x ∷ [])) ys y h (λ ws k. each_some-more f zs x ws y k e)

pub each_some-step : {A B : Type 0} (f : A → Option B) (xs : List A) (i : ℕ) (d : A) (ys zs : List B) (y : B) → i < length xs →
    each_some f (take i xs) ≡ Some ys → f (get_or xs i d) ≡ Some y → zs ≡ ys ++ y ∷ [] → each_some f (take (i + 1) xs) ≡ Some zs
each_some-step f xs i d ys zs y l h e w = ap (each_some f) (take_more xs i d l) ∙ each_some-more f (take i xs) (get_or xs i d) ys y h e ∙ ap Some (sym w)

cons-none : {B : Type 0} (o : Option B) (r : Option (List B)) → r ≡ None → cons_if o r ≡ None
cons-none None r h = refl
cons-none (Some y) r h = rw h refl

pub each_some-none : {A B : Type 0} (f : A → Option B) (xs : List A) (i : ℕ) (d : A) → i < length xs → f (get_or xs i d) ≡ None → each_some f xs ≡ None
each_some-none f [] i d l e = absurd (omega (arith, l))
each_some-none f (x ∷ xs) zero d l e = rw e refl
each_some-none f (x ∷ xs) (suc i) d l e = cons-none (f x) (each_some f xs) (each_some-none f xs i d (omega (arith, l)) e)

pub cons-some : {B : Type 0} (a : Option B) (r : Option (List B)) (ys : List B) → cons_if a r ≡ Some ys → (y : B) × (zs : List B) × (a ≡ Some y) × (r ≡ Some zs) × (ys ≡ y ∷ zs)
cons-some None r ys h = absurd cc
cons-some (Some y) None ys h = absurd cc
cons-some (Some y) (Some zs) ys h = (y, zs, refl, refl, some_same ys (y ∷ zs) (sym h))

none-there : {B : Type 0} (ys : List B) (i : ℕ) (y : B) → [] ≡ ys → slice_get ys i ≡ Some y → ⊥
none-there [] i y h e = cc
none-there (z ∷ zs) i y h e = cc

at-cons : {A B : Type 0} (f : A → Option B) (x : A) (xs : List A) (d : A) (z y : B) (zs : List B) → f x ≡ Some z → ((j : ℕ) → slice_get zs j ≡ Some y → f (get_or xs j d) ≡ Some y) →
    (i : ℕ) → slice_get (z ∷ zs) i ≡ Some y → f (get_or (x ∷ xs) i d) ≡ Some y
at-cons f x xs d z y zs a h zero g = a ∙ g
at-cons f x xs d z y zs a h (suc i) g = h i g

-- what stands at a place was made of what stands there
pub each_some-at : {A B : Type 0} (f : A → Option B) (xs : List A) (i : ℕ) (d : A) (ys : List B) (y : B) → each_some f xs ≡ Some ys → slice_get ys i ≡ Some y → f (get_or xs i d) ≡ Some y
each_some-at f [] i d ys y h e = absurd (none-there ys i y (some_same [] ys h) e)
each_some-at {A} {B} f (x ∷ xs) i d ys y h e =
    let (z, zs, a, r, k) = cons-some (f x) (each_some f xs) ys h in
    at-cons f x xs d z y zs a (λ j g. each_some-at f xs j d zs y r g) i (sym (ap (λ (l : List B). slice_get l i) k) ∙ e)

-- as many as there were
pub each_some-length : {A B : Type 0} (f : A → Option B) (xs : List A) (ys : List B) → each_some f xs ≡ Some ys → length ys ≡ length xs
each_some-length {A} {B} f [] ys h = ap length (some_same ys [] (sym h))
each_some-length {A} {B} f (x ∷ xs) ys h =
    let (y, zs, a, r, k) = cons-some (f x) (each_some f xs) ys h in
    let l = each_some-length f xs zs r in
    omega (arith, ap length k, l)
