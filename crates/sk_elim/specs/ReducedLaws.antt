-- In the column of each pivot every other row is 0, and the pivot itself isn't.
use Rattle.std.proofs.Common.{◌≡◌, ◌≢◌, ℕ, zero, suc, ◌<◌, ◌≤◌, ◌+◌, arith, refl, ap, sym, ◌∙◌, subst, List, [], ◌∷◌, ◌++◌, length, get_or, append_assoc, Option, Some, None, Result, Ok, Err, Bool, true, false, cond, ◌||◌, inl, inr, ⊎_elim, ℤ, pos, ◌-ℤ◌, ◌*ℤ◌}
use Rattle.std.specs.Prelude.{◌==◌, slice_set, option_map, option_and_then, if◌then◌else◌}
use Rattle.std.specs.List.{All, filter, range_with_len}
use Rattle.std.proofs.lemmas.Int.{ints}
use Rattle.std.proofs.lemmas.Bool.{cases_Bool, cases_eq, cases_lt, eq-eqb, ne_eqb, eqb-true, le-leb}
use Rattle.std.proofs.lemmas.List.{get_or-set_other, length-set}
use Rattle.std.proofs.lemmas.List.Elements.{All-nil, All-push, All-head, All-tail}
use Rattle.std.proofs.lemmas.List.Folds.{list_any-append}
use Rattle.sk_num.specs.Limit.{is_in_limit, grid_of}
use Rattle.sk_num.specs.Each.{cons_if}
use Rattle.sk_num.specs.Rounding.{rounded_quotient}
use Rattle.sk_elim.specs.EliminationLaws.{and_then-ok, or_past_limit-ok, map-some}
use Rattle.sk_elim.specs.PivotLaws.{AreApart, has, KeepsApart, best_column-free, free_step-keeps, forced_step-pivots, forced_steps-pivots}
use Rattle.sk_elim.specs.ZeroLaws.{product-nought}
use Rattle.sk_elim.specs.Elimination.{Halt, flat, Progress, has_column, has_row, cell, cell_at, cell_less, row_less, cleared, pivoted, pivot_taken, suspected, is_flat, best_column, column_taken, forced_step, free_step, steps, pivot_row}

pub record IsReduced (width : ℕ) (rows : List (List ℤ)) (ps : List (ℕ × ℕ)) : Type 0 where
  pub wide : (i : ℕ) → i < length rows → length (get_or rows i []) ≡ width
  pub there : All (λ p. cell_at rows p.0 p.1 ≢ pos 0) ps
  pub alone : All (λ p. (i : ℕ) → i ≢ p.0 → cell_at rows i p.1 ≡ pos 0) ps

-- ---- a row that is cleared

grid-some : (z x : ℤ) → grid_of z ≡ Some x → z ≡ x
grid-some z x h = elim (cases_Bool (is_in_limit z)) [
  | inl t ↦ kept (rw t at h)
  | inr n ↦ absurd (none (rw n at h))
]
  where
    kept : Some z ≡ Some x → z ≡ x
    kept e = cc

    none : None ≡ Some x → ⊥
    none e = cc

less-nought : (s : ℕ) (f a p x : ℤ) → p ≡ pos 0 → cell_less s f a p ≡ Some x → x ≡ a
less-nought s f a p x e h =
    let z : f *ℤ p ≡ pos 0 = rw e (omega (arith, ints)) in
    let g : grid_of (a -ℤ pos 0) ≡ Some x = sym (ap (option_and_then (λ m. grid_of (a -ℤ m))) (product-nought s f p z)) ∙ h in
    omega (arith, ints, grid-some (a -ℤ pos 0) x g)

cons-parts : {A : Type 0} (o : Option A) (os : Option (List A)) (xs : List A) → cons_if o os ≡ Some xs → (x : A) × (ys : List A) × (o ≡ Some x) × (os ≡ Some ys) × (x ∷ ys ≡ xs)
cons-parts None os xs h = absurd cc
cons-parts (Some x) None xs h = absurd cc
cons-parts (Some x) (Some ys) xs h = (x, ys, refl, refl, cc)

-- the length stays, and each cell above a 0 of the pivot's row
row_less-keeps : (s : ℕ) (f : ℤ) (us ps xs : List ℤ) → length us ≡ length ps → row_less s f us ps ≡ Some xs →
    (length xs ≡ length us) × ((k : ℕ) → cell ps k ≡ pos 0 → cell xs k ≡ cell us k)
row_less-keeps s f [] ps xs l h = let e : [] ≡ xs = cc in subst (λ (xs : List ℤ). (length xs ≡ 0) × ((k : ℕ) → cell ps k ≡ pos 0 → cell xs k ≡ cell [] k)) e (refl, λ k z. refl)
row_less-keeps s f (a ∷ us) [] xs l h = absurd (omega arith)
row_less-keeps s f (a ∷ us) (p ∷ ps) xs l h =
    let (x, ys, i, j, e) = cons-parts (cell_less s f a p) (row_less s f us ps) xs h in
    let (n, still) = row_less-keeps s f us ps ys (omega arith) j in
    subst (λ (xs : List ℤ). (length xs ≡ length (a ∷ us)) × ((k : ℕ) → cell (p ∷ ps) k ≡ pos 0 → cell xs k ≡ cell (a ∷ us) k)) e (ap suc n, at x ys i still)
  where
    at : (x : ℤ) (ys : List ℤ) → cell_less s f a p ≡ Some x → ((k : ℕ) → cell ps k ≡ pos 0 → cell ys k ≡ cell us k) → (k : ℕ) → cell (p ∷ ps) k ≡ pos 0 → cell (x ∷ ys) k ≡ cell (a ∷ us) k
    at x ys i still zero z = less-nought s f a p x z i
    at x ys i still (suc k) z = still k z

pub record HasCleared (c : ℕ) (ps us xs : List ℤ) : Type 0 where
  pub size : length xs ≡ length us
  pub still : (k : ℕ) → k ≢ c → cell ps k ≡ pos 0 → cell xs k ≡ cell us k
  pub nought : cell xs c ≡ pos 0

set-nought : (ys : List ℤ) (c : ℕ) → cell (slice_set ys c (pos 0)) c ≡ pos 0
set-nought [] c = refl
set-nought (y ∷ ys) zero = refl
set-nought (y ∷ ys) (suc c) = set-nought ys c

cleared-is : (s c : ℕ) (ps us xs : List ℤ) → length us ≡ length ps → cleared s c ps us ≡ Some xs → HasCleared c ps us xs
cleared-is s c ps us xs l h = by (rounded_quotient s (cell us c) (cell ps c)) h
  where
    by : (q : Option ℤ) → option_and_then (λ f. option_map (λ xs. slice_set xs c (pos 0)) (row_less s f us ps)) q ≡ Some xs → HasCleared c ps us xs
    by None h = absurd cc
    by (Some f) h =
        let (ys, i, e) = map-some (λ ys. slice_set ys c (pos 0)) (row_less s f us ps) xs h in
        let (n, still) = row_less-keeps s f us ps ys l i in
        subst (HasCleared c ps us) e (record {
          size = length-set ys c (pos 0) ∙ n;
          still = λ k o z. get_or-set_other ys c k (pos 0) (pos 0) o ∙ still k z;
          nought = set-nought ys c;
        })

-- ---- all rows

pub record HasPivoted (r c : ℕ) (ps : List ℤ) (j : ℕ) (rows now : List (List ℤ)) : Type 0 where
  pub count : length now ≡ length rows
  pub same : (i : ℕ) → i < length rows → j + i ≡ r → get_or now i [] ≡ get_or rows i []
  pub cleared : (i : ℕ) → i < length rows → j + i ≢ r → HasCleared c ps (get_or rows i []) (get_or now i [])

pivoted-is : (s r c : ℕ) (ps : List ℤ) (j : ℕ) (rows now : List (List ℤ)) → ((i : ℕ) → i < length rows → length (get_or rows i []) ≡ length ps) → pivoted s r c ps j rows ≡ Some now → HasPivoted r c ps j rows now
pivoted-is s r c ps j [] now w h =
    let e : [] ≡ now = cc in
    subst (HasPivoted r c ps j []) e (record { count = refl; same = λ i l e. absurd (omega (arith, l)); cleared = λ i l e. absurd (omega (arith, l)) })
pivoted-is s r c ps j (us ∷ rows) now w h =
    let (x, ys, i, k, e) = cons-parts (if j == r then Some us else cleared s c ps us) (pivoted s r c ps (j + 1) rows) now h in
    let rest = pivoted-is s r c ps (j + 1) rows ys (λ i l. w (suc i) (omega (arith, l))) k in
    subst (HasPivoted r c ps j (us ∷ rows)) e (record {
      count = ap suc rest.count;
      same = at_same x ys i rest;
      cleared = at_cleared x ys i rest;
    })
  where
    first : (x : List ℤ) (b : Bool) → (j == r) ≡ b → (if b then Some us else cleared s c ps us) ≡ Some x → (j ≡ r → x ≡ us) × (j ≢ r → cleared s c ps us ≡ Some x)
    first x true t h = (λ e. cc, λ n. absurd (let z = ne_eqb j r n in let y : true ≡ false = sym t ∙ z in cc))
    first x false t h = (λ e. absurd (let z = eq-eqb j r e in let y : false ≡ true = sym t ∙ z in cc), λ n. h)

    at_same : (x : List ℤ) (ys : List (List ℤ)) → (if j == r then Some us else cleared s c ps us) ≡ Some x → HasPivoted r c ps (j + 1) rows ys →
        (i : ℕ) → i < length (us ∷ rows) → j + i ≡ r → get_or (x ∷ ys) i [] ≡ get_or (us ∷ rows) i []
    at_same x ys h rest zero l e = (first x (j == r) refl h).0 (omega (arith, e))
    at_same x ys h rest (suc i) l e = rest.same i (omega (arith, l)) (omega (arith, e))

    at_cleared : (x : List ℤ) (ys : List (List ℤ)) → (if j == r then Some us else cleared s c ps us) ≡ Some x → HasPivoted r c ps (j + 1) rows ys →
        (i : ℕ) → i < length (us ∷ rows) → j + i ≢ r → HasCleared c ps (get_or (us ∷ rows) i []) (get_or (x ∷ ys) i [])
    at_cleared x ys h rest zero l n = cleared-is s c ps us x (w 0 (omega arith)) ((first x (j == r) refl h).1 (λ e. n (omega (arith, e))))
    at_cleared x ys h rest (suc i) l n = rest.cleared i (omega (arith, l)) (λ e. n (omega (arith, e)))

past-rows : (rows : List (List ℤ)) (i k : ℕ) → length rows ≤ i → cell_at rows i k ≡ pos 0
past-rows [] i k l = refl
past-rows (us ∷ rows) zero k l = absurd (omega arith)
past-rows (us ∷ rows) (suc i) k l = past-rows rows i k (omega arith)

module _ (r c width : ℕ) (rows now : List (List ℤ)) (done : HasPivoted r c (get_or rows r []) 0 rows now) where
  -- a column in which the pivot's row is 0 stays
  column-still : (i k : ℕ) → k ≢ c → cell_at rows r k ≡ pos 0 → cell_at now i k ≡ cell_at rows i k
  column-still i k o z = ⊎_elim {C = cell_at now i k ≡ cell_at rows i k}
      (λ (l : i < length rows). ⊎_elim {C = cell_at now i k ≡ cell_at rows i k}
      (λ (e : i ≡ r). ap (λ us. cell us k) (done.same i l (omega (arith, e))))
      (λ (n : i ≡ r → ⊥). (done.cleared i l (λ e. n (omega (arith, e)))).still k o z)
      (cases_eq i r))
      (λ (l : length rows ≤ i). past-rows now i k (omega (arith, l, done.count)) ∙ sym (past-rows rows i k l))
      (cases_lt i (length rows))

  column-alone : (i : ℕ) → i ≢ r → cell_at now i c ≡ pos 0
  column-alone i n = ⊎_elim {C = cell_at now i c ≡ pos 0}
      (λ (l : i < length rows). (done.cleared i l (λ e. n (omega (arith, e)))).nought)
      (λ (l : length rows ≤ i). past-rows now i c (omega (arith, l, done.count)))
      (cases_lt i (length rows))

  row-size : ((i : ℕ) → i < length rows → length (get_or rows i []) ≡ width) → (i : ℕ) → i < length now → length (get_or now i []) ≡ width
  row-size w i l =
      let o : i < length rows = omega (arith, l, done.count) in
      ⊎_elim {C = length (get_or now i []) ≡ width}
      (λ (e : i ≡ r). ap length (done.same i o (omega (arith, e))) ∙ w i o)
      (λ (n : i ≡ r → ⊥). (done.cleared i o (λ e. n (omega (arith, e)))).size ∙ w i o)
      (cases_eq i r)

-- ---- pivots by their keys

or-false : (a b : Bool) → (a || b) ≡ false → (a ≡ false) × (b ≡ false)
or-false true b h = absurd cc
or-false false b h = (refl, h)

key-other : (key : ℕ × ℕ → ℕ) (k : ℕ) (ps : List (ℕ × ℕ)) → has key k ps ≡ false → (i : ℕ) (d : ℕ × ℕ) → i < length ps → key (get_or ps i d) ≢ k
key-other key k [] h i d l = absurd (omega arith)
key-other key k (p ∷ ps) h zero d l = λ e. let z = eq-eqb (key p) k e in let f = (or-false (key p == k) (has key k ps) h).0 in let y : true ≡ false = sym z ∙ f in absurd cc
key-other key k (p ∷ ps) h (suc i) d l = key-other key k ps (or-false (key p == k) (has key k ps) h).1 i d (omega arith)

-- one pivot more
pub pivot-reduced : (s width : ℕ) (w u : Progress) (r c : ℕ) → pivot_taken s w r c ≡ Ok u → r < length w.rows → cell_at w.rows r c ≢ pos 0 → has_row r w.pivots ≡ false → has_column c w.pivots ≡ false →
    IsReduced width w.rows w.pivots → (length u.rows ≡ length w.rows) × IsReduced width u.rows u.pivots
pivot-reduced s width w u r c h l n fresh_row fresh_column k =
    let f : List (List ℤ) → Progress = λ rows. record { rows = rows; pivots = w.pivots ++ ((r, c) ∷ []); suspects = w.suspects } in
    let o = or_past_limit-ok (option_map f (pivoted s r c (get_or w.rows r []) 0 w.rows)) u h in
    let (rows, i, j) = map-some f (pivoted s r c (get_or w.rows r []) 0 w.rows) u o in
    let done = pivoted-is s r c (get_or w.rows r []) 0 w.rows rows (λ i o. k.wide i o ∙ sym (k.wide r l)) i in
    let below : (q : ℕ) (d : ℕ × ℕ) → q < length w.pivots → cell_at w.rows r (get_or w.pivots q d).1 ≡ pos 0 =
    λ q d b. k.alone q d b r (λ e. key-other (λ p. p.0) r w.pivots fresh_row q d b (sym e)) in
    let other : (q : ℕ) (d : ℕ × ℕ) → q < length w.pivots → (get_or w.pivots q d).1 ≢ c = λ q d b. key-other (λ p. p.1) c w.pivots fresh_column q d b in
    let still : (i q : ℕ) (d : ℕ × ℕ) → q < length w.pivots → cell_at rows i (get_or w.pivots q d).1 ≡ cell_at w.rows i (get_or w.pivots q d).1 =
    λ i q d b. column-still r c width w.rows rows done i (get_or w.pivots q d).1 (other q d b) (below q d b) in
    subst (λ (x : Progress). (length x.rows ≡ length w.rows) × IsReduced width x.rows x.pivots) j (
      done.count,
      record {
        wide = row-size r c width w.rows rows done k.wide;
        there = All-push (λ p. cell_at rows p.0 p.1 ≢ pos 0) w.pivots (r, c) (λ q d b e. k.there q d b (sym (still (get_or w.pivots q d).0 q d b) ∙ e))
            (λ e. n (sym (ap (λ us. cell us c) (done.same r l (omega arith))) ∙ e));
        alone = All-push (λ p. (i : ℕ) → i ≢ p.0 → cell_at rows i p.1 ≡ pos 0) w.pivots (r, c) (λ q d b i o. still i q d b ∙ k.alone q d b i o) (column-alone r c width w.rows rows done);
      },
    )

-- ---- all steps

-- what every step keeps
pub record Keeps (width count : ℕ) (w : Progress) : Type 0 where
  pub count_is : length w.rows ≡ count
  pub reduced : IsReduced width w.rows w.pivots

flat-nought : (v : ℤ) (top : ℕ) → is_flat v top ≡ false → v ≢ pos 0
flat-nought v top h e =
    let f : is_flat (pos 0) top ≡ false = subst (λ v. is_flat v top ≡ false) e h in
    let t : is_flat (pos 0) top ≡ true = le-leb 0 top (omega arith) in
    let y : true ≡ false = sym t ∙ f in
    absurd cc

taken-keeps : (s width count : ℕ) (w u : Progress) (r c : ℕ) → pivot_taken s w r c ≡ Ok u → r < count → cell_at w.rows r c ≢ pos 0 → has_row r w.pivots ≡ false → has_column c w.pivots ≡ false → Keeps width count w → Keeps width count u
taken-keeps s width count w u r c h l n i j k =
    let (e, reduced) = pivot-reduced s width w u r c h (omega (arith, l, k.count_is)) n i j k.reduced in
    record { count_is = e ∙ k.count_is; reduced = reduced }

-- a member of a list has another key than those before it
apart-at : (key : ℕ × ℕ → ℕ) (n : ℕ) (xs ps : List (ℕ × ℕ)) (p : ℕ × ℕ) → AreApart key n (xs ++ (p ∷ ps)) → (key p < n) × (has key (key p) xs ≡ false)
apart-at key n [] ps p a = (a.0, refl)
apart-at key n (x ∷ xs) ps p a =
    let (l, f) = apart-at key n xs ps p a.2 in
    let split = or-false (has key (key x) xs) ((key p == key x) || has key (key x) ps) (sym (list_any-append (λ q. key q == key x) xs (p ∷ ps)) ∙ a.1) in
    let differ = (or-false (key p == key x) (has key (key x) ps) split.1).0 in
    let turned : (key x == key p) ≡ false = ne_eqb (key x) (key p) (λ e. let t = eq-eqb (key p) (key x) (sym e) in let y : true ≡ false = sym t ∙ differ in absurd cc) in
    (l, rw turned f)

forced-keeps : (s : ℕ) (tops : List ℕ) (width columns count : ℕ) (w u : Progress) (ps : List (ℕ × ℕ)) → AreApart (λ p. p.0) count (w.pivots ++ ps) → AreApart (λ p. p.1) columns (w.pivots ++ ps) →
    steps (forced_step s tops) w ps ≡ Ok u → Keeps width count w → Keeps width count u
forced-keeps s tops width columns count w u [] ra ca h k = subst (Keeps width count) (same h) k
  where
    same : steps (forced_step s tops) w [] ≡ Ok u → w ≡ u
    same h = cc
forced-keeps s tops width columns count w u (p ∷ ps) ra ca h k =
    let (x, i, j) = and_then-ok (λ v. steps (forced_step s tops) v ps) (forced_step s tops w p) u h in
    let e : x.pivots ++ ps ≡ w.pivots ++ (p ∷ ps) = ap (λ z. z ++ ps) (forced_step-pivots s tops w x p i) ∙ append_assoc w.pivots (p ∷ []) ps in
    forced-keeps s tops width columns count x u ps (subst (AreApart (λ p. p.0) count) (sym e) ra) (subst (AreApart (λ p. p.1) columns) (sym e) ca) j
    (one x (is_flat (cell_at w.rows p.0 p.1) (get_or tops p.0 0)) refl i)
  where
    one : (x : Progress) (b : Bool) → is_flat (cell_at w.rows p.0 p.1) (get_or tops p.0 0) ≡ b → (if b then Err (flat p.0) else pivot_taken s w p.0 p.1) ≡ Ok x → Keeps width count x
    one x true f h = absurd cc
    one x false f h =
        let (l, fresh_row) = apart-at (λ p. p.0) count w.pivots ps p ra in
        taken-keeps s width count w x p.0 p.1 h l (flat-nought (cell_at w.rows p.0 p.1) (get_or tops p.0 0) f) fresh_row (apart-at (λ p. p.1) columns w.pivots ps p ca).1 k

free_step-reduced : (s : ℕ) (tops : List ℕ) (params columns width count : ℕ) (forced : List (ℕ × ℕ)) (w u : Progress) (r : ℕ) → r < count → KeepsApart columns count forced r w.pivots →
    free_step s tops params forced w r ≡ Ok u → Keeps width count w → Keeps width count u
free_step-reduced s tops params columns width count forced w u r l apart h k = pick (has_row r forced) refl h
  where
    stay : (x : Progress) → Keeps width count x → (let o : Result Progress Halt = Ok x in o ≡ Ok u) → Keeps width count u
    stay x k h = let e : x ≡ u = cc in subst (Keeps width count) e k

    still : Keeps width count (suspected w r)
    still = record { count_is = k.count_is; reduced = k.reduced }

    fresh : has_row r forced ≡ false → (b : Bool) → has_row r w.pivots ≡ b → has_row r w.pivots ≡ false
    fresh f true e = let z = apart.rows_before r e f in absurd (omega (arith, z))
    fresh f false e = e

    flat_or : (c : ℕ) (b : Bool) → is_flat (cell_at w.rows r c) (get_or tops r 0) ≡ b → has_column c w.pivots ≡ false → has_row r forced ≡ false → (if b then Ok (suspected w r) else pivot_taken s w r c) ≡ Ok u → Keeps width count u
    flat_or c true e g f h = stay (suspected w r) still h
    flat_or c false e g f h = taken-keeps s width count w u r c h l (flat-nought (cell_at w.rows r c) (get_or tops r 0) e) (fresh f (has_row r w.pivots) refl) g k

    chosen : (o : Option ℕ) → best_column params w.pivots (get_or w.rows r []) ≡ o → has_row r forced ≡ false → column_taken s tops w r o ≡ Ok u → Keeps width count u
    chosen None e f h = stay (suspected w r) still h
    chosen (Some c) e f h = flat_or c (is_flat (cell_at w.rows r c) (get_or tops r 0)) refl (best_column-free params w.pivots (get_or w.rows r []) c e).1 f h

    pick : (b : Bool) → has_row r forced ≡ b → (if b then Ok w else column_taken s tops w r (best_column params w.pivots (get_or w.rows r []))) ≡ Ok u → Keeps width count u
    pick true f h = stay w k h
    pick false f h = chosen (best_column params w.pivots (get_or w.rows r [])) refl f h

free-keeps : (s : ℕ) (tops : List ℕ) (params columns width count : ℕ) (forced : List (ℕ × ℕ)) (w u : Progress) (r n : ℕ) → params ≤ columns → r + n ≤ count → KeepsApart columns count forced r w.pivots →
    steps (free_step s tops params forced) w (range_with_len r n) ≡ Ok u → Keeps width count w → Keeps width count u
free-keeps s tops params columns width count forced w u r zero m l apart h k = let e : w ≡ u = cc in subst (Keeps width count) e k
free-keeps s tops params columns width count forced w u r (suc n) m l apart h k =
    let (x, i, j) = and_then-ok (λ v. steps (free_step s tops params forced) v (range_with_len (r + 1) n)) (free_step s tops params forced w r) u h in
    free-keeps s tops params columns width count forced x u (r + 1) n m (omega arith)
    (free_step-keeps s tops params columns count forced w x r m (omega arith) apart i) j
    (free_step-reduced s tops params columns width count forced w x r (omega arith) apart i k)

-- when all steps are done
pub steps-reduced : (s : ℕ) (tops : List ℕ) (params columns width count : ℕ) (forced : List (ℕ × ℕ)) (start x w : Progress) → params ≤ columns → start.pivots ≡ [] → length start.rows ≡ count →
    ((i : ℕ) → i < length start.rows → length (get_or start.rows i []) ≡ width) → AreApart (λ p. p.0) count forced → AreApart (λ p. p.1) columns forced →
    steps (forced_step s tops) start forced ≡ Ok x → steps (free_step s tops params forced) x (range_with_len 0 count) ≡ Ok w → IsReduced width w.rows w.pivots
steps-reduced s tops params columns width count forced start x w m none size wide ra ca h g =
    let first : Keeps width count start = record {
      count_is = size;
      reduced = record {
        wide = wide;
        there = subst (All (λ p. cell_at start.rows p.0 p.1 ≢ pos 0)) (sym none) (All-nil (λ p. cell_at start.rows p.0 p.1 ≢ pos 0));
        alone = subst (All (λ p. (i : ℕ) → i ≢ p.0 → cell_at start.rows i p.1 ≡ pos 0)) (sym none) (All-nil (λ p. (i : ℕ) → i ≢ p.0 → cell_at start.rows i p.1 ≡ pos 0));
      };
    } in
    let before : start.pivots ++ forced ≡ forced = ap (λ ps. ps ++ forced) none in
    let second = forced-keeps s tops width columns count start x forced (subst (AreApart (λ p. p.0) count) (sym before) ra) (subst (AreApart (λ p. p.1) columns) (sym before) ca) h first in
    let f : x.pivots ≡ forced = forced_steps-pivots s tops start x forced h ∙ before in
    let apart : KeepsApart columns count forced 0 x.pivots = rw f (record { columns_apart = ca; rows_apart = ra; rows_before = λ i t u. absurd cc }) in
    (free-keeps s tops params columns width count forced x w 0 count m (omega arith) apart g second).reduced

-- so the pivot of a solved column isn't 0
pub solved-there : (rows : List (List ℤ)) (ps : List (ℕ × ℕ)) (c : ℕ) → All (λ p. cell_at rows p.0 p.1 ≢ pos 0) ps → has_column c ps ≡ true → cell_at rows (pivot_row c ps) c ≢ pos 0
solved-there rows [] c all h = absurd cc
solved-there rows (p ∷ ps) c all h = pick (p.1 == c) refl h (solved-there rows ps c (All-tail (λ p. cell_at rows p.0 p.1 ≢ pos 0) p ps all))
  where
    pick : (b : Bool) → (p.1 == c) ≡ b → (b || has_column c ps) ≡ true → (has_column c ps ≡ true → cell_at rows (pivot_row c ps) c ≢ pos 0) → cell_at rows (if b then p.0 else pivot_row c ps) c ≢ pos 0
    pick true e h rest = subst (λ k. cell_at rows p.0 k ≢ pos 0) (eqb-true p.1 c e) (All-head (λ p. cell_at rows p.0 p.1 ≢ pos 0) p ps all)
    pick false e h rest = rest h

-- a list kept by a test passes it
pub kept-pass : (p : ℕ → Bool) (xs : List ℕ) (i d : ℕ) → i < length (filter p xs) → p (get_or (filter p xs) i d) ≡ true
kept-pass p [] i d l = absurd (omega arith)
kept-pass p (x ∷ xs) i d l = pick (p x) refl i l (λ j m. kept-pass p xs j d m)
  where
    pick : (b : Bool) → p x ≡ b → (i : ℕ) → i < length (cond b (x ∷ filter p xs) (filter p xs)) → ((j : ℕ) → j < length (filter p xs) → p (get_or (filter p xs) j d) ≡ true) → p (get_or (cond b (x ∷ filter p xs) (filter p xs)) i d) ≡ true
    pick true e zero l rest = e
    pick true e (suc i) l rest = rest i (omega arith)
    pick false e i l rest = rest i l

-- keys that are apart are in range
pub apart-below : (key : ℕ × ℕ → ℕ) (n : ℕ) (ps : List (ℕ × ℕ)) → AreApart key n ps → (i : ℕ) (d : ℕ × ℕ) → i < length ps → key (get_or ps i d) < n
apart-below key n [] a i d l = absurd (omega arith)
apart-below key n (p ∷ ps) a zero d l = a.0
apart-below key n (p ∷ ps) a (suc i) d l = apart-below key n ps a.2 i d (omega arith)
