-- Lists kept by a test, and lists of results that are all there.
use Rattle.std.proofs.Common.{Result, Err, Ok, subst, ◌≡◌, ℕ, zero, suc, ◌<◌, ◌≤◌, ◌+◌, arith, refl, ap, sym, ◌∙◌, List, [], ◌∷◌, ◌++◌, length, drop, get_or, ℤ, Option, Some, None, Bool, true, false, cond, append_assoc}
use Rattle.std.specs.Prelude.{not, map, option_map}
use Rattle.std.specs.List.{filter, range_with_len}
use Rattle.std.proofs.Math.Seq.{drop-cons}
use Rattle.sk_elim.specs.Faults.{HaltsAs}
use Rattle.sk_elim.specs.declared.fault.ElimFault.{ElimFault}
use Rattle.sk_elim.specs.declared.fault.ElimFault.TheVariants.{Flat, PastLimit, NoMemory}
use Rattle.sk_elim.specs.Elimination.{Halt, past_limit, or_past_limit, Elimination, elimination_of, has_column, has_row, inverse_row, Progress, finished, augmented, greatest_cell, and_then, steps, forced_step, free_step, eliminate}
use Rattle.sk_num.specs.Each.{cons_if, each_some}
use Rattle.sk_elim.specs.Result.{joined}
use Rattle.sk_elim.specs.Slopes.{slope_rows}
use Rattle.sk_elim.proofs.BuildLemmas.{tops-are, middles-are}
use Rattle.std.proofs.lemmas.List.FromFn.{length-map-range_with_len}
use Rattle.sk_num.specs.Ends.{Ends, mid}

filter_range-last : (p : ℕ → Bool) (a n j : ℕ) → a + n ≡ j → filter p (range_with_len a (suc n)) ≡ filter p (range_with_len a n) ++ cond (p j) (j ∷ []) []
filter_range-last p a zero j e = let z : a ≡ j = omega arith in ap (λ i. cond (p i) (i ∷ []) []) z
filter_range-last p a (suc n) j e = pick (p a) (filter_range-last p (a + 1) n j (omega arith))
  where
    pick : (b : Bool) → filter p (range_with_len (a + 1) (suc n)) ≡ filter p (range_with_len (a + 1) n) ++ cond (p j) (j ∷ []) [] →
        cond b (a ∷ filter p (range_with_len (a + 1) (suc n))) (filter p (range_with_len (a + 1) (suc n))) ≡ cond b (a ∷ filter p (range_with_len (a + 1) n)) (filter p (range_with_len (a + 1) n)) ++ cond (p j) (j ∷ []) []
    pick true h = ap (λ xs. a ∷ xs) h
    pick false h = h

-- one number more
pub kept-more : (p : ℕ → Bool) (n : ℕ) (b : Bool) (now new : List ℕ) → now ≡ filter p (range_with_len 0 n) → b ≡ p n → new ≡ now ++ cond b (n ∷ []) [] → new ≡ filter p (range_with_len 0 (n + 1))
kept-more p n b now new h e k =
    let z : suc n ≡ n + 1 = omega arith in
    k ∙ ap (λ xs. xs ++ cond b (n ∷ []) []) h ∙ ap (λ b. filter p (range_with_len 0 n) ++ cond b (n ∷ []) []) e ∙ sym (filter_range-last p 0 n n (omega arith)) ∙ ap (λ k. filter p (range_with_len 0 k)) z

pub length-filter_range : (p : ℕ → Bool) (a n : ℕ) → length (filter p (range_with_len a n)) ≤ n
length-filter_range p a zero = omega arith
length-filter_range p a (suc n) = pick (p a) (length-filter_range p (a + 1) n)
  where
    pick : (b : Bool) → length (filter p (range_with_len (a + 1) n)) ≤ n → length (cond b (a ∷ filter p (range_with_len (a + 1) n)) (filter p (range_with_len (a + 1) n))) ≤ suc n
    pick true h = omega (arith, h)
    pick false h = omega (arith, h)

module _ {A : Type 0} (f : ℕ → Option A) where
  each_some-here : (xs : List ℕ) (i d : ℕ) → i < length xs → each_some f (drop i xs) ≡ cons_if (f (get_or xs i d)) (each_some f (drop (i + 1) xs))
  each_some-here xs i d l = let z : suc i ≡ i + 1 = omega arith in ap (each_some f) (drop-cons xs i d l) ∙ ap (λ k. cons_if (f (get_or xs i d)) (each_some f (drop k xs))) z

pub map-none : {A B : Type 0} (g : A → B) (o : Option A) → option_map g o ≡ None → o ≡ None
map-none g None h = refl
map-none g (Some x) h = absurd cc

cons_none : {A : Type 0} (o : Option A) (os : Option (List A)) → o ≡ None → cons_if o os ≡ None
cons_none o os h = rw h refl

-- one number more
pub each-number_more : (f : ℕ → Option ℤ) (xs : List ℕ) (i x : ℕ) (start now new : List ℤ) (o : Option ℤ) → i < length xs → x ≡ get_or xs i x → o ≡ f x →
    option_map (λ zs. now ++ zs) (each_some f (drop i xs)) ≡ option_map (λ zs. start ++ zs) (each_some f xs) → option_map (λ y. now ++ (y ∷ [])) o ≡ Some new →
    option_map (λ zs. new ++ zs) (each_some f (drop (i + 1) xs)) ≡ option_map (λ zs. start ++ zs) (each_some f xs)
each-number_more f xs i x start now new None l e k h n = absurd cc
each-number_more f xs i x start now new (Some y) l e k h n =
    let same : now ++ (y ∷ []) ≡ new = cc in
    let here : f (get_or xs i x) ≡ Some y = ap f (sym e) ∙ sym k in
    ap (λ (us : List ℤ). option_map (λ zs. us ++ zs) (each_some f (drop (i + 1) xs))) (sym same) ∙ joined-on (each_some f (drop (i + 1) xs))
    ∙ ap (option_map (λ zs. now ++ zs)) (ap (λ o. cons_if o (each_some f (drop (i + 1) xs))) (sym here) ∙ sym (each_some-here f xs i x l)) ∙ h
  where
    joined-on : (o : Option (List ℤ)) → option_map (λ zs. (now ++ (y ∷ [])) ++ zs) o ≡ option_map (λ zs. now ++ zs) (cons_if (Some y) o)
    joined-on None = refl
    joined-on (Some zs) = ap (λ zs. Some zs) (append_assoc now (y ∷ []) zs)

pub each-stops : {A : Type 0} (f : ℕ → Option A) (g h : List A → List ℤ) (xs : List ℕ) (i x : ℕ) → i < length xs → x ≡ get_or xs i x → f x ≡ None →
    option_map g (each_some f (drop i xs)) ≡ option_map h (each_some f xs) → each_some f xs ≡ None
each-stops f g h xs i x l e n k =
    map-none h (each_some f xs) (sym k ∙ ap (option_map g) (each_some-here f xs i x l ∙ cons_none (f (get_or xs i x)) (each_some f (drop (i + 1) xs)) (ap f (sym e) ∙ n)))

-- one row more
pub each-row_more : (f : ℕ → Option (List ℤ)) (xs : List ℕ) (i x : ℕ) (start now new : List ℤ) → i < length xs → x ≡ get_or xs i x →
    option_map (λ zss. now ++ joined zss) (each_some f (drop i xs)) ≡ option_map (λ zss. start ++ joined zss) (each_some f xs) → option_map (λ ys. now ++ ys) (f x) ≡ Some new →
    option_map (λ zss. new ++ joined zss) (each_some f (drop (i + 1) xs)) ≡ option_map (λ zss. start ++ joined zss) (each_some f xs)
each-row_more f xs i x start now new l e h n = pick (f x) refl n
  where
    joined-on : (ys : List ℤ) (o : Option (List (List ℤ))) → option_map (λ zss. (now ++ ys) ++ joined zss) o ≡ option_map (λ zss. now ++ joined zss) (cons_if (Some ys) o)
    joined-on ys None = refl
    joined-on ys (Some zss) = ap (λ zs. Some zs) (append_assoc now ys (joined zss))

    pick : (o : Option (List ℤ)) → f x ≡ o → option_map (λ ys. now ++ ys) o ≡ Some new → option_map (λ zss. new ++ joined zss) (each_some f (drop (i + 1) xs)) ≡ option_map (λ zss. start ++ joined zss) (each_some f xs)
    pick None k n = absurd cc
    pick (Some ys) k n =
        let same : now ++ ys ≡ new = cc in
        let here : f (get_or xs i x) ≡ Some ys = ap f (sym e) ∙ k in
        ap (λ (us : List ℤ). option_map (λ zss. us ++ joined zss) (each_some f (drop (i + 1) xs))) (sym same) ∙ joined-on ys (each_some f (drop (i + 1) xs))
        ∙ ap (option_map (λ zss. now ++ joined zss)) (ap (λ o. cons_if o (each_some f (drop (i + 1) xs))) (sym here) ∙ sym (each_some-here f xs i x l)) ∙ h

past-none : {A : Type 0} (o : Option A) → or_past_limit o ≡ Err past_limit → o ≡ None
past-none None h = refl
past-none (Some x) h = absurd cc

past-flat : {A B : Type 0} (o : Option A) (r : Result B Halt) (i : ℕ) → HaltsAs (or_past_limit o) (Flat i) → HaltsAs r (Flat i)
past-flat None r i h = absurd cc
past-flat (Some x) r i h = absurd cc

pub halts-through : {A : Type 0} (f : ℕ → Option A) (g h : List A → List ℤ) (xs : List ℕ) (i x : ℕ) (e : ElimFault) → i < length xs → x ≡ get_or xs i x → HaltsAs (or_past_limit (f x)) e →
    option_map g (each_some f (drop i xs)) ≡ option_map h (each_some f xs) → HaltsAs (or_past_limit (each_some f xs)) e
halts-through f g h xs i x (Flat k) l z a b = past-flat (f x) (or_past_limit (each_some f xs)) k a
halts-through f g h xs i x PastLimit l z a b = ap or_past_limit (each-stops f g h xs i x l z (past-none (f x) a) b)
halts-through f g h xs i x NoMemory l z a b = tt

pub halts-map : {A B : Type 0} (g : A → B) (o : Option A) (e : ElimFault) → HaltsAs (or_past_limit o) e → HaltsAs (or_past_limit (option_map g o)) e
halts-map g o (Flat k) a = past-flat o (or_past_limit (option_map g o)) k a
halts-map g o PastLimit a = let z = past-none o a in rw z refl
halts-map g o NoMemory a = tt

pub map-there : {A B : Type 0} (g : A → B) (o : Option A) (y : B) → option_map g o ≡ Some y → (x : A) × (o ≡ Some x) × (g x ≡ y)
map-there g None y h = absurd cc
map-there g (Some x) y h = (x, refl, cc)

-- ---- the end

module _ (s count columns params : ℕ) (w : Progress) (solved retained : List ℕ) (solved_are : solved ≡ filter (λ c. has_column c w.pivots) (range_with_len 0 columns)) (retained_are : retained ≡ filter (λ r. has_row r w.pivots) (range_with_len 0 count)) where
  pub finished-halts : (e : ElimFault) → HaltsAs (or_past_limit (each_some (inverse_row s columns w retained) solved)) e → HaltsAs (finished s count columns params w) e
  finished-halts e h =
      let sl = filter (λ c. has_column c w.pivots) (range_with_len 0 columns) in
      let rt = filter (λ r. has_row r w.pivots) (range_with_len 0 count) in
      let a = subst (λ (xs : List ℕ). HaltsAs (or_past_limit (each_some (inverse_row s columns w xs) solved)) e) retained_are h in
      let b = subst (λ (xs : List ℕ). HaltsAs (or_past_limit (each_some (inverse_row s columns w rt) xs)) e) solved_are a in
      halts-map (elimination_of w params sl rt) (each_some (inverse_row s columns w rt) sl) e b

  pub finished-ok : (held : List ℕ) (cells : List ℤ) → held ≡ filter (λ c. not (has_column c w.pivots)) (range_with_len 0 params) →
      option_map (λ yss. [] ++ joined yss) (each_some (inverse_row s columns w retained) solved) ≡ Some cells →
      (o : Elimination) × (finished s count columns params w ≡ Ok o) × (w.pivots ≡ o.pivots) × (held ≡ o.held) × (w.suspects ≡ o.suspects) × (solved ≡ o.solved) × (retained ≡ o.retained) × (cells ≡ joined o.inverse)
  finished-ok held cells h k =
      let sl = filter (λ c. has_column c w.pivots) (range_with_len 0 columns) in
      let rt = filter (λ r. has_row r w.pivots) (range_with_len 0 count) in
      let a = subst (λ (xs : List ℕ). option_map (λ yss. [] ++ joined yss) (each_some (inverse_row s columns w xs) solved) ≡ Some cells) retained_are k in
      let b = subst (λ (xs : List ℕ). option_map (λ yss. [] ++ joined yss) (each_some (inverse_row s columns w rt) xs) ≡ Some cells) solved_are a in
      let (yss, i, j) = map-there (λ yss. [] ++ joined yss) (each_some (inverse_row s columns w rt) sl) cells b in
      (elimination_of w params sl rt yss, ap (λ o. or_past_limit (option_map (elimination_of w params sl rt) o)) i, refl, h, refl, solved_are, retained_are, sym j)

-- ---- the whole

halts-then : {A B : Type 0} (f : A → Result B Halt) (r : Result A Halt) (e : ElimFault) → HaltsAs r e → HaltsAs (and_then f r) e
halts-then f r (Flat k) h = rw h refl
halts-then f r PastLimit h = rw h refl
halts-then f r NoMemory h = tt

pub tops-count : (m n : ℕ) (cells : List Ends) → length (map greatest_cell (map (map mid) (slope_rows m n cells))) ≡ m
tops-count m n cells = ap length (tops-are m n cells) ∙ length-map-range_with_len _ 0 m

module _ (s m n params : ℕ) (forced : List (ℕ × ℕ)) (cells : List Ends) (start : Progress) (tops : List ℕ) (start_is : start ≡ augmented s (map (map mid) (slope_rows m n cells)))
    (tops_are : tops ≡ map greatest_cell (map (map mid) (slope_rows m n cells))) where
  run : ℕ → List ℕ → Progress → Result Elimination Halt
  run k tops w = and_then (finished s k n params) (and_then (λ w. steps (free_step s tops params forced) w (range_with_len 0 k)) (steps (forced_step s tops) w forced))

  run-is : eliminate s n params forced (slope_rows m n cells) ≡ run m tops start
  unfolding run
  run-is =
      let count : length (map (map mid) (slope_rows m n cells)) ≡ m = ap length (middles-are m n cells) ∙ length-map-range_with_len _ 0 m in
      ap (λ k. run k (map greatest_cell (map (map mid) (slope_rows m n cells))) (augmented s (map (map mid) (slope_rows m n cells)))) count
      ∙ ap (λ ts. run m ts (augmented s (map (map mid) (slope_rows m n cells)))) (sym tops_are) ∙ ap (run m tops) (sym start_is)

  pub forced-halts : (e : ElimFault) → HaltsAs (steps (forced_step s tops) start forced) e → HaltsAs (eliminate s n params forced (slope_rows m n cells)) e
  unfolding run
  forced-halts e h =
      subst (λ (r : Result Elimination Halt). HaltsAs r e) (sym run-is)
      (halts-then (finished s m n params) (and_then (λ w. steps (free_step s tops params forced) w (range_with_len 0 m)) (steps (forced_step s tops) start forced)) e
      (halts-then (λ w. steps (free_step s tops params forced) w (range_with_len 0 m)) (steps (forced_step s tops) start forced) e h))

  module _ (w : Progress) (there : steps (forced_step s tops) start forced ≡ Ok w) where
    pub free-halts : (e : ElimFault) → HaltsAs (steps (free_step s tops params forced) w (range_with_len 0 m)) e → HaltsAs (eliminate s n params forced (slope_rows m n cells)) e
    unfolding run
    free-halts e h =
        subst (λ (r : Result Elimination Halt). HaltsAs r e) (sym run-is)
        (halts-then (finished s m n params) (and_then (λ w. steps (free_step s tops params forced) w (range_with_len 0 m)) (steps (forced_step s tops) start forced)) e
        (subst (λ (r : Result Progress Halt). HaltsAs (and_then (λ w. steps (free_step s tops params forced) w (range_with_len 0 m)) r) e) (sym there) h))

    pub eliminated-is : (u : Progress) → steps (free_step s tops params forced) w (range_with_len 0 m) ≡ Ok u → eliminate s n params forced (slope_rows m n cells) ≡ finished s m n params u
    unfolding run
    eliminated-is u h =
        run-is ∙ ap (λ r. and_then (finished s m n params) (and_then (λ w. steps (free_step s tops params forced) w (range_with_len 0 m)) r)) there ∙ ap (and_then (finished s m n params)) h
