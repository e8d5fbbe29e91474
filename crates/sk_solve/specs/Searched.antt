-- What a search keeps.
use Rattle.std.proofs.Common.{◌≡◌, ◌⊎◌, inl, inr, ℕ, zero, suc, List, [], ◌∷◌, length, Bool, true, false, cond, Option, Some, None, refl, sym, ap, ◌∙◌, ◌≢◌, subst}
use Rattle.std.specs.Prelude.{ℤ, ◌-ℤ◌, ◌==◌, ◌||◌, pos, get_or, set, not, nat_lt, option_map, option_and_then}
use Rattle.std.proofs.lemmas.Bool.{leb-true, eq-eqb}
use Rattle.std.proofs.lemmas.List.{length-set, get_or-set_other}
use Rattle.std.proofs.lemmas.List.Elements.{All-set}
use Rattle.std.specs.List.{All}
use Rattle.sk_num.specs.Limit.{IsInLimit, is_in_limit, grid_of}
use Rattle.sk_elim.specs.Elimination.{Halt, flat, past_limit}
use Rattle.sk_expr.specs.Columns.{is_among}
use Rattle.sk_krawczyk.specs.IntervalTest.{Outcome, stops, fails, passes, Certificate}
use Rattle.sk_solve.specs.Search.{Verdict, Unsolved, Range, verdict_of, Found, stayed, certified_at, less_at, moved, onward, decided, searched, search, behind, from_next, visited_from, visited}
use Rattle.sk_solve.specs.SearchLaws.{is_certified, is_passed, is_held_by, NonePasses, AllHold, PassesAt, StaysAt, SearchLaw}

abbrev Kept : (List ℤ → Outcome) → List ℤ → Found → Type 0
Kept visit x0 r = PassesAt visit r ⊎ StaysAt x0 r

stays : (visit : List ℤ → Outcome) (x0 : List ℤ) (v : Verdict) → is_certified v ≡ false → Kept visit x0 (stayed v x0)
stays visit x0 v e = inr (record { verdict = v; other = e; kept = refl })

halts : (h : Halt) → is_certified (verdict_of h) ≡ false
halts (flat r) = refl
halts past_limit = refl

decides : (visit : List ℤ → Outcome) (x0 x : List ℤ) (rest : List ℕ → List ℤ → Found) (o : Outcome) → visit x ≡ o → ((cs : List ℕ) (ds : List ℤ) → Kept visit x0 (rest cs ds)) → Kept visit x0 (decided x0 x rest o)
decides visit x0 x rest (stops h) e more = stays visit x0 (verdict_of h) (halts h)
decides visit x0 x rest (fails cs ds) e more = more cs ds
decides visit x0 x rest (passes cs ds c) e more = inl (record { solved = cs; step = ds; certificate = c; passed = e; kept = refl })

goes : (visit : List ℤ → Outcome) (x0 : List ℤ) (go : List ℤ → Found) (o : Option (List ℤ)) → ((y : List ℤ) → Kept visit x0 (go y)) → Kept visit x0 (onward x0 go o)
goes visit x0 go None more = stays visit x0 Range refl
goes visit x0 go (Some y) more = more y

searched_kept : (n : ℕ) (visit : List ℤ → Outcome) (x0 x : List ℤ) → Kept visit x0 (searched n visit x0 x)
searched_kept zero visit x0 x = decides visit x0 x (λ cs ds. stayed Unsolved x0) (visit x) refl (λ cs ds. stays visit x0 Unsolved refl)
searched_kept (suc n) visit x0 x =
    decides visit x0 x (λ cs ds. onward x0 (λ y. searched n visit x0 y) (moved cs ds x)) (visit x) refl
    (λ cs ds. goes visit x0 (λ y. searched n visit x0 y) (moved cs ds x) (λ y. searched_kept n visit x0 y))

kept : (visit : List ℤ → Outcome) (x0 : List ℤ) → Kept visit x0 (search visit x0)
unfolding search
kept visit x0 = searched_kept 40 visit x0 x0

first : (visit : List ℤ → Outcome) (x0 : List ℤ) (cs : List ℕ) (ds : List ℤ) (c : Certificate) → visit x0 ≡ passes cs ds c → search visit x0 ≡ certified_at x0 c
unfolding search
first visit x0 cs ds c e = rw e refl

again_of : (visit : List ℤ → Outcome) (x0 : List ℤ) (r : Found) → search visit x0 ≡ r → Kept visit x0 r → search visit r.point ≡ r
again_of visit x0 r e (inl p) = first visit r.point p.solved p.step p.certificate p.passed ∙ sym p.kept
again_of visit x0 r e (inr s) = ap (λ (f : Found). search visit f.point) s.kept ∙ e

again : (visit : List ℤ → Outcome) (x0 : List ℤ) → search visit (search visit x0).point ≡ search visit x0
again visit x0 = again_of visit x0 (search visit x0) refl (kept visit x0)

-- ---- where no point passes

-- what follows a point, behind what the test at it decides
none_behind : (visit : List ℤ → Outcome) (x0 x : List ℤ) (rest : List ℕ → List ℤ → Found) (more : List ℕ → List ℤ → List (List ℤ)) (o : Outcome) → is_certified (decided x0 x rest o).verdict ≡ false
    → ((cs : List ℕ) (ds : List ℤ) → is_certified (rest cs ds).verdict ≡ false → NonePasses visit (more cs ds)) → (is_passed o ≡ false) × NonePasses visit (behind more o)
none_behind visit x0 x rest more (stops h) e f = (refl, tt)
none_behind visit x0 x rest more (fails cs ds) e f = (refl, f cs ds e)
none_behind visit x0 x rest more (passes cs ds c) e f = (let no : true ≡ false = e in cc no)

none_next : (visit : List ℤ → Outcome) (x0 : List ℤ) (go : List ℤ → Found) (more : List ℤ → List (List ℤ)) (o : Option (List ℤ)) → is_certified (onward x0 go o).verdict ≡ false
    → ((y : List ℤ) → is_certified (go y).verdict ≡ false → NonePasses visit (more y)) → NonePasses visit (from_next more o)
none_next visit x0 go more None e f = tt
none_next visit x0 go more (Some y) e f = f y e

none_from : (n : ℕ) (visit : List ℤ → Outcome) (x0 x : List ℤ) → is_certified (searched n visit x0 x).verdict ≡ false → NonePasses visit (visited_from n visit x)
none_from zero visit x0 x e = ((none_behind visit x0 x (λ cs ds. stayed Unsolved x0) (λ cs ds. []) (visit x) e (λ cs ds f. tt)).0, tt)
none_from (suc n) visit x0 x e =
    none_behind visit x0 x (λ cs ds. onward x0 (λ y. searched n visit x0 y) (moved cs ds x)) (λ cs ds. from_next (λ y. visited_from n visit y) (moved cs ds x)) (visit x) e
    (λ cs ds f. none_next visit x0 (λ y. searched n visit x0 y) (λ y. visited_from n visit y) (moved cs ds x) f (λ y g. none_from n visit x0 y g))

none : (visit : List ℤ → Outcome) (x0 : List ℤ) → is_certified (search visit x0).verdict ≡ false → NonePasses visit (visited visit x0)
unfolding search visited
none visit x0 e = none_from 40 visit x0 x0 e

-- ---- what holds of every point

module _ (P : List ℤ → Type 0) (more : (cs : List ℕ) (ds x y : List ℤ) → P x → moved cs ds x ≡ Some y → P y) where
  decides_point : (x0 x : List ℤ) (rest : List ℕ → List ℤ → Found) (o : Outcome) → P x0 → P x → ((cs : List ℕ) (ds : List ℤ) → P (rest cs ds).point) → P (decided x0 x rest o).point
  decides_point x0 x rest (stops h) p q f = p
  decides_point x0 x rest (fails cs ds) p q f = f cs ds
  decides_point x0 x rest (passes cs ds c) p q f = q

  goes_point : (x0 : List ℤ) (go : List ℤ → Found) (o : Option (List ℤ)) → P x0 → ((y : List ℤ) → o ≡ Some y → P (go y).point) → P (onward x0 go o).point
  goes_point x0 go None p f = p
  goes_point x0 go (Some y) p f = f y refl

  searched_point : (n : ℕ) (visit : List ℤ → Outcome) (x0 x : List ℤ) → P x0 → P x → P (searched n visit x0 x).point
  searched_point zero visit x0 x p q = decides_point x0 x (λ cs ds. stayed Unsolved x0) (visit x) p q (λ cs ds. p)
  searched_point (suc n) visit x0 x p q =
      decides_point x0 x (λ cs ds. onward x0 (λ y. searched n visit x0 y) (moved cs ds x)) (visit x) p q
      (λ cs ds. goes_point x0 (λ y. searched n visit x0 y) (moved cs ds x) p (λ y e. searched_point n visit x0 y p (more cs ds x y q e)))

  pub search_point : (visit : List ℤ → Outcome) (x0 : List ℤ) → P x0 → P (search visit x0).point
  unfolding search
  search_point visit x0 p = searched_point 40 visit x0 x0 p p

-- ---- one step

less-some : (c : ℕ) (d : ℤ) (x u : List ℤ) → less_at c d x ≡ Some u → (x ≡ u) ⊎ ((z : ℤ) × (IsInLimit z) × (set x c z ≡ u))
less-some c d x u e = pick (nat_lt c (length x)) refl e
  where
    in_range : (t : Bool) → is_in_limit (get_or x c (pos 0) -ℤ d) ≡ t → option_map (λ z. set x c z) (cond t (Some (get_or x c (pos 0) -ℤ d)) None) ≡ Some u → (z : ℤ) × (IsInLimit z) × (set x c z ≡ u)
    in_range true h f = (get_or x c (pos 0) -ℤ d, leb-true _ _ h, cc)
    in_range false h f = absurd cc

    pick : (t : Bool) → nat_lt c (length x) ≡ t → cond t (option_map (λ z. set x c z) (grid_of (get_or x c (pos 0) -ℤ d))) (Some x) ≡ Some u → (x ≡ u) ⊎ ((z : ℤ) × (IsInLimit z) × (set x c z ≡ u))
    pick true h f = inr (in_range (is_in_limit (get_or x c (pos 0) -ℤ d)) refl f)
    pick false h f = inl cc

then-some : (o : Option (List ℤ)) (f : List ℤ → Option (List ℤ)) (y : List ℤ) → option_and_then f o ≡ Some y → (u : List ℤ) × (o ≡ Some u) × (f u ≡ Some y)
then-some None f y e = absurd cc
then-some (Some u) f y e = (u, refl, e)

-- what each number's step keeps, a whole step keeps
moved_keeps : (P : List ℤ → Type 0) → ((c : ℕ) (d : ℤ) (x y : List ℤ) → P x → less_at c d x ≡ Some y → P y) → (cs : List ℕ) (ds x y : List ℤ) → P x → moved cs ds x ≡ Some y → P y
moved_keeps P one [] ds x y p e = let is : x ≡ y = cc in subst P is p
moved_keeps P one (c ∷ cs) [] x y p e = let is : x ≡ y = cc in subst P is p
moved_keeps P one (c ∷ cs) (d ∷ ds) x y p e =
    let (u, h, f) = then-some (less_at c d x) (λ u. moved cs ds u) y e in
    moved_keeps P one cs ds u y (one c d x u p h) f

same_length : (n c : ℕ) (d : ℤ) (x y : List ℤ) → length x ≡ n → less_at c d x ≡ Some y → length y ≡ n
same_length n c d x y e h = elim (less-some c d x y h) [
  | inl is ↦ ap length (sym is) ∙ e
  | inr (z, l, is) ↦ ap length (sym is) ∙ length-set x c z ∙ e
]

same_limit : (c : ℕ) (d : ℤ) (x y : List ℤ) → All IsInLimit x → less_at c d x ≡ Some y → All IsInLimit y
same_limit c d x y e h = elim (less-some c d x y h) [
  | inl is ↦ subst (All IsInLimit) is e
  | inr (z, l, is) ↦ subst (All IsInLimit) is (All-set IsInLimit x c z l e)
]

apart : (k c : ℕ) → (k == c) ≡ false → c ≢ k
apart k c e h = let no : (k == c) ≡ true = eq-eqb k c (sym h) in let bad : true ≡ false = sym no ∙ e in cc bad

or-false : (a b : Bool) → (a || b) ≡ false → (a ≡ false) × (b ≡ false)
or-false false b e = (refl, e)
or-false true b e = absurd cc

other : (c k : ℕ) (d : ℤ) (x y : List ℤ) (e : ℤ) → (k == c) ≡ false → less_at k d x ≡ Some y → get_or y c e ≡ get_or x c e
other c k d x y e n h = elim (less-some k d x y h) [
  | inl is ↦ ap (λ (l : List ℤ). get_or l c e) (sym is)
  | inr (z, l, is) ↦ ap (λ (l : List ℤ). get_or l c e) (sym is) ∙ get_or-set_other x k c z e (apart k c n)
]

held : (c : ℕ) (cs : List ℕ) (ds x y : List ℤ) → is_among cs c ≡ false → moved cs ds x ≡ Some y → (e : ℤ) → get_or y c e ≡ get_or x c e
held c [] ds x y n h e = let is : x ≡ y = cc in ap (λ (l : List ℤ). get_or l c e) (sym is)
held c (k ∷ cs) [] x y n h e = let is : x ≡ y = cc in ap (λ (l : List ℤ). get_or l c e) (sym is)
held c (k ∷ cs) (d ∷ ds) x y n h e =
    let (here, rest) = or-false (k == c) (is_among cs c) n in
    let (u, i, j) = then-some (less_at k d x) (λ u. moved cs ds u) y h in
    held c cs ds u y rest j e ∙ other c k d x u e here i

-- ---- a column that is held at each point

not-true : (b : Bool) → not b ≡ true → b ≡ false
not-true true e = absurd cc
not-true false e = refl

module _ (visit : List ℤ → Outcome) (x0 : List ℤ) (c : ℕ) (e : ℤ) where
  abbrev Stands : List ℤ → Type 0
  Stands x = get_or x c e ≡ get_or x0 c e

  stands_behind : (x : List ℤ) (rest : List ℕ → List ℤ → Found) (more : List ℕ → List ℤ → List (List ℤ)) (o : Outcome) → is_held_by c o ≡ true → AllHold visit c (behind more o) → Stands x
      → ((cs : List ℕ) (ds : List ℤ) → is_among cs c ≡ false → AllHold visit c (more cs ds) → Stands (rest cs ds).point) → Stands (decided x0 x rest o).point
  stands_behind x rest more (stops h) a b p f = refl
  stands_behind x rest more (fails cs ds) a b p f = f cs ds (not-true (is_among cs c) a) b
  stands_behind x rest more (passes cs ds k) a b p f = p

  stands_next : (go : List ℤ → Found) (more : List ℤ → List (List ℤ)) (o : Option (List ℤ)) → AllHold visit c (from_next more o)
      → ((y : List ℤ) → o ≡ Some y → AllHold visit c (more y) → Stands (go y).point) → Stands (onward x0 go o).point
  stands_next go more None a f = refl
  stands_next go more (Some y) a f = f y refl a

  stands_from : (n : ℕ) (x : List ℤ) → AllHold visit c (visited_from n visit x) → Stands x → Stands (searched n visit x0 x).point
  stands_from zero x a p = stands_behind x (λ cs ds. stayed Unsolved x0) (λ cs ds. []) (visit x) a.0 (nothing (visit x)) p (λ cs ds n b. refl)
    where
      nothing : (o : Outcome) → AllHold visit c (behind (λ cs ds. []) o)
      nothing (stops h) = tt
      nothing (fails cs ds) = tt
      nothing (passes cs ds k) = tt
  stands_from (suc n) x a p =
      stands_behind x (λ cs ds. onward x0 (λ y. searched n visit x0 y) (moved cs ds x)) (λ cs ds. from_next (λ y. visited_from n visit y) (moved cs ds x)) (visit x) a.0 a.1 p
      (λ cs ds m b. stands_next (λ y. searched n visit x0 y) (λ y. visited_from n visit y) (moved cs ds x) b (λ y h g. stands_from n y g (held c cs ds x y m h e ∙ p)))

  stands : AllHold visit c (visited visit x0) → Stands (search visit x0).point
  unfolding search visited
  stands a = stands_from 40 x0 a refl

pub search_law : SearchLaw
search_law = record {
  kept = kept;
  again = again;
  first = first;
  none = none;
  length = λ visit x0. search_point (λ y. length y ≡ length x0) (λ cs ds x y e h. moved_keeps (λ l. length l ≡ length x0) (same_length (length x0)) cs ds x y e h) visit x0 refl;
  limit = λ visit x0 e. search_point (All IsInLimit) (λ cs ds x y f h. moved_keeps (All IsInLimit) same_limit cs ds x y f h) visit x0 e;
  held = held;
  still = λ visit x0 c a e. stands visit x0 c e a;
}
