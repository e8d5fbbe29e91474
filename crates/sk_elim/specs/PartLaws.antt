-- Nothing is left out: each parameter is held or solved, and each row is retained or a suspect.
use Rattle.std.proofs.Common.{◌≡◌, ℕ, zero, suc, ◌<◌, ◌≤◌, ◌+◌, arith, refl, ap, sym, ◌∙◌, subst, List, [], ◌∷◌, ◌++◌, length, get_or, append_assoc, append-nil, Option, Some, None, Result, Ok, Err, Bool, true, false, cond, ◌||◌, map, ℤ}
use Rattle.std.specs.Prelude.{◌==◌, if◌then◌else◌, option_map, not}
use Rattle.std.specs.List.{filter, range_with_len}
use Rattle.std.proofs.lemmas.Bool.{eq-eqb, ne_eqb}
use Rattle.std.proofs.lemmas.List.{length-map}
use Rattle.std.proofs.lemmas.List.Folds.{list_any-append}
use Rattle.sk_num.specs.Ends.{Ends, mid}
use Rattle.sk_elim.specs.EliminationLaws.{and_then-ok, or_past_limit-ok, map-some}
use Rattle.sk_elim.specs.PivotLaws.{forced_steps-pivots}
use Rattle.sk_elim.specs.Elimination.{Halt, flat, and_then, Elimination, elimination_of, finished, inverse_row, augmented, greatest_cell, eliminate, Progress, has_column, has_row, best_column, pivot_taken, pivoted, is_flat, cell_at, column_taken, free_step, forced_step, steps, suspected}
use Rattle.sk_num.specs.Each.{each_some}

-- held, solved and retained are told by the pivots
pub record HasParts (columns params count : ℕ) (e : Elimination) : Type 0 where
  pub held : e.held ≡ filter (λ c. not (has_column c e.pivots)) (range_with_len 0 params)
  pub solved : e.solved ≡ filter (λ c. has_column c e.pivots) (range_with_len 0 columns)
  pub retained : e.retained ≡ filter (λ r. has_row r e.pivots) (range_with_len 0 count)

finished-parts : (s count columns params : ℕ) (w : Progress) (e : Elimination) → finished s count columns params w ≡ Ok e → HasParts columns params count e × (e.pivots ≡ w.pivots) × (e.suspects ≡ w.suspects)
finished-parts s count columns params w e h =
    let retained = filter (λ r. has_row r w.pivots) (range_with_len 0 count) in
    let solved = filter (λ c. has_column c w.pivots) (range_with_len 0 columns) in
    let o = or_past_limit-ok (option_map (elimination_of w params solved retained) (each_some (inverse_row s columns w retained) solved)) e h in
    let (y, u, z) = map-some (elimination_of w params solved retained) (each_some (inverse_row s columns w retained) solved) e o in
    subst (λ (e : Elimination). HasParts columns params count e × (e.pivots ≡ w.pivots) × (e.suspects ≡ w.suspects)) z (record { held = refl; solved = refl; retained = refl }, refl, refl)

-- ---- one free step

ok_same : (w u : Progress) → let r : Result Progress Halt = Ok w in r ≡ Ok u → w ≡ u
ok_same w u e = cc

data Stepped (forced : List (ℕ × ℕ)) (r : ℕ) (w v : Progress) : Type 0 where
  stays : has_row r forced ≡ true → v.pivots ≡ w.pivots → v.suspects ≡ w.suspects → Stepped forced r w v
  is_suspect : has_row r forced ≡ false → v.pivots ≡ w.pivots → v.suspects ≡ w.suspects ++ (r ∷ []) → Stepped forced r w v
  pivots : (c : ℕ) → v.pivots ≡ w.pivots ++ ((r, c) ∷ []) → v.suspects ≡ w.suspects → Stepped forced r w v

pivot_taken-is : (s : ℕ) (w u : Progress) (r c : ℕ) → pivot_taken s w r c ≡ Ok u → (u.pivots ≡ w.pivots ++ ((r, c) ∷ [])) × (u.suspects ≡ w.suspects)
pivot_taken-is s w u r c h =
    let f : List (List ℤ) → Progress = λ rows. record { rows = rows; pivots = w.pivots ++ ((r, c) ∷ []); suspects = w.suspects } in
    let o = or_past_limit-ok (option_map f (pivoted s r c (get_or w.rows r []) 0 w.rows)) u h in
    let (rows, i, j) = map-some f (pivoted s r c (get_or w.rows r []) 0 w.rows) u o in
    (ap (λ (x : Progress). x.pivots) (sym j), ap (λ (x : Progress). x.suspects) (sym j))

free_step-is : (s : ℕ) (tops : List ℕ) (params : ℕ) (forced : List (ℕ × ℕ)) (w u : Progress) (r : ℕ) → free_step s tops params forced w r ≡ Ok u → Stepped forced r w u
free_step-is s tops params forced w u r h = pick (has_row r forced) refl h
  where
    suspect : has_row r forced ≡ false → (let o : Result Progress Halt = Ok (suspected w r) in o ≡ Ok u) → Stepped forced r w u
    suspect f h = let e = ok_same (suspected w r) u h in is_suspect f (ap (λ (x : Progress). x.pivots) (sym e)) (ap (λ (x : Progress). x.suspects) (sym e))

    flat_or : (c : ℕ) (b : Bool) → has_row r forced ≡ false → (if b then Ok (suspected w r) else pivot_taken s w r c) ≡ Ok u → Stepped forced r w u
    flat_or c true f h = suspect f h
    flat_or c false f h = let (i, j) = pivot_taken-is s w u r c h in pivots c i j

    chosen : (o : Option ℕ) → has_row r forced ≡ false → column_taken s tops w r o ≡ Ok u → Stepped forced r w u
    chosen None f h = suspect f h
    chosen (Some c) f h = flat_or c (is_flat (cell_at w.rows r c) (get_or tops r 0)) f h

    pick : (b : Bool) → has_row r forced ≡ b → (if b then Ok w else column_taken s tops w r (best_column params w.pivots (get_or w.rows r []))) ≡ Ok u → Stepped forced r w u
    pick true f h = let e = ok_same w u h in stays f (ap (λ (x : Progress). x.pivots) (sym e)) (ap (λ (x : Progress). x.suspects) (sym e))
    pick false f h = chosen (best_column params w.pivots (get_or w.rows r [])) f h

-- ---- rows with a pivot after a step

row-more : (k r c : ℕ) (ps : List (ℕ × ℕ)) → has_row k (ps ++ ((r, c) ∷ [])) ≡ (has_row k ps || ((r == k) || false))
row-more k r c ps = list_any-append (λ p. p.0 == k) ps ((r, c) ∷ [])

or-nothing : (b : Bool) → (b || false) ≡ b
or-nothing true = refl
or-nothing false = refl

or-true : (b : Bool) → (b || true) ≡ true
or-true true = refl
or-true false = refl

row-other : (k r c : ℕ) (ps : List (ℕ × ℕ)) → (r ≡ k → ⊥) → has_row k (ps ++ ((r, c) ∷ [])) ≡ has_row k ps
row-other k r c ps n = let z = ne_eqb r k n in row-more k r c ps ∙ rw z (or-nothing (has_row k ps))

row-same : (r c : ℕ) (ps : List (ℕ × ℕ)) → has_row r (ps ++ ((r, c) ∷ [])) ≡ true
row-same r c ps = let z = eq-eqb r r refl in row-more r r c ps ∙ rw z (or-true (has_row r ps))

module _ (forced : List (ℕ × ℕ)) where
  stepped-other : (r k : ℕ) (w v : Progress) → Stepped forced r w v → (r ≡ k → ⊥) → has_row k v.pivots ≡ has_row k w.pivots
  stepped-other r k w v (stays f i j) n = ap (has_row k) i
  stepped-other r k w v (is_suspect f i j) n = ap (has_row k) i
  stepped-other r k w v (pivots c i j) n = ap (has_row k) i ∙ row-other k r c w.pivots n

  -- ---- all free steps

  pub record Left (r n : ℕ) (w u : Progress) : Type 0 where
    pub before : (k : ℕ) → k < r → has_row k u.pivots ≡ has_row k w.pivots
    pub suspects : u.suspects ≡ w.suspects ++ filter (λ k. not (has_row k u.pivots)) (range_with_len r n)

  one-more : (r n : ℕ) (w v u : Progress) → (has_row r forced ≡ true → has_row r w.pivots ≡ true) → (has_row r forced ≡ false → has_row r w.pivots ≡ false) → Stepped forced r w v → Left (r + 1) n v u → Left r (suc n) w u
  one-more r n w v u hf hn step left = record {
    before = λ k l. left.before k (omega arith) ∙ stepped-other r k w v step (λ e. absurd (omega (arith, e, l)));
    suspects = pick step;
  }
    where
      at : has_row r u.pivots ≡ has_row r v.pivots
      at = left.before r (omega arith)

      pick : Stepped forced r w v → u.suspects ≡ w.suspects ++ cond (not (has_row r u.pivots)) (r ∷ filter (λ k. not (has_row k u.pivots)) (range_with_len (r + 1) n)) (filter (λ k. not (has_row k u.pivots)) (range_with_len (r + 1) n))
      pick (stays f i j) = let t : has_row r u.pivots ≡ true = at ∙ ap (has_row r) i ∙ hf f in rw t (left.suspects ∙ ap (λ xs. xs ++ filter (λ k. not (has_row k u.pivots)) (range_with_len (r + 1) n)) j)
      pick (is_suspect f i j) =
          let t : has_row r u.pivots ≡ false = at ∙ ap (has_row r) i ∙ hn f in
          rw t (left.suspects ∙ ap (λ xs. xs ++ filter (λ k. not (has_row k u.pivots)) (range_with_len (r + 1) n)) j ∙ append_assoc w.suspects (r ∷ []) (filter (λ k. not (has_row k u.pivots)) (range_with_len (r + 1) n)))
      pick (pivots c i j) = let t : has_row r u.pivots ≡ true = at ∙ ap (has_row r) i ∙ row-same r c w.pivots in rw t (left.suspects ∙ ap (λ xs. xs ++ filter (λ k. not (has_row k u.pivots)) (range_with_len (r + 1) n)) j)

  module _ (s : ℕ) (tops : List ℕ) (params : ℕ) where
    steps-left : (n r : ℕ) (w u : Progress) → ((k : ℕ) → has_row k forced ≡ true → has_row k w.pivots ≡ true) → ((k : ℕ) → r ≤ k → has_row k forced ≡ false → has_row k w.pivots ≡ false) →
        steps (free_step s tops params forced) w (range_with_len r n) ≡ Ok u → Left r n w u
    steps-left zero r w u hf hn h =
        let e = ok_same w u h in
        record { before = λ k l. ap (λ (x : Progress). has_row k x.pivots) (sym e); suspects = ap (λ (x : Progress). x.suspects) (sym e) ∙ sym (append-nil w.suspects) }
    steps-left (suc n) r w u hf hn h =
        let (v, i, j) = and_then-ok (λ v. steps (free_step s tops params forced) v (range_with_len (r + 1) n)) (free_step s tops params forced w r) u h in
        let step = free_step-is s tops params forced w v r i in
        one-more r n w v u (hf r) (hn r (omega arith)) step
        (steps-left n (r + 1) v u (λ k f. still k v step (hf k f)) (λ k l f. stepped-other r k w v step (λ e. absurd (omega (arith, e, l))) ∙ hn k (omega (arith, l)) f) j)
      where
        still : (k : ℕ) (v : Progress) → Stepped forced r w v → has_row k w.pivots ≡ true → has_row k v.pivots ≡ true
        still k v (stays f i j) t = ap (has_row k) i ∙ t
        still k v (is_suspect f i j) t = ap (has_row k) i ∙ t
        still k v (pivots c i j) t = ap (has_row k) i ∙ row-more k r c w.pivots ∙ rw t refl

-- the suspects are the rows without a pivot, in order
pub eliminate-parts : (s columns params : ℕ) (forced : List (ℕ × ℕ)) (slopes : List (List Ends)) (e : Elimination) → eliminate s columns params forced slopes ≡ Ok e →
    HasParts columns params (length slopes) e × (e.suspects ≡ filter (λ r. not (has_row r e.pivots)) (range_with_len 0 (length slopes)))
eliminate-parts s columns params forced slopes e h =
    let a = map (map mid) slopes in
    let tops = map greatest_cell a in
    let n = length a in
    let (w, i, k) = and_then-ok (finished s n columns params)
    (and_then (λ w. steps (free_step s tops params forced) w (range_with_len 0 n)) (steps (forced_step s tops) (augmented s a) forced)) e h in
    let (x, j, g) = and_then-ok (λ w. steps (free_step s tops params forced) w (range_with_len 0 n)) (steps (forced_step s tops) (augmented s a) forced) w i in
    let f : x.pivots ≡ forced = forced_steps-pivots s tops (augmented s a) x forced j in
    let clear : x.suspects ≡ [] = forced-clear s tops (augmented s a) x forced j in
    let left = steps-left forced s tops params n 0 x w (λ k t. rw f t) (λ k l t. rw f t) g in
    let (parts, p, q) = finished-parts s n columns params w e k in
    let z : n ≡ length slopes = length-map slopes (map mid) in
    let all : w.suspects ≡ filter (λ k. not (has_row k w.pivots)) (range_with_len 0 n) = left.suspects ∙ ap (λ xs. xs ++ filter (λ k. not (has_row k w.pivots)) (range_with_len 0 n)) clear in (
      subst (λ (c : ℕ). HasParts columns params c e) z parts,
      subst (λ (c : ℕ). e.suspects ≡ filter (λ r. not (has_row r e.pivots)) (range_with_len 0 c)) z (q ∙ all ∙ ap (λ ps. filter (λ k. not (has_row k ps)) (range_with_len 0 n)) (sym p)),
    )
  where
    forced-clear : (s : ℕ) (tops : List ℕ) (w u : Progress) (ps : List (ℕ × ℕ)) → steps (forced_step s tops) w ps ≡ Ok u → u.suspects ≡ w.suspects
    forced-clear s tops w u [] h = ap (λ (x : Progress). x.suspects) (sym (ok_same w u h))
    forced-clear s tops w u (p ∷ ps) h =
        let (x, i, j) = and_then-ok (λ v. steps (forced_step s tops) v ps) (forced_step s tops w p) u h in
        forced-clear s tops x u ps j ∙ one w x p i
      where
        one : (w u : Progress) (p : ℕ × ℕ) → forced_step s tops w p ≡ Ok u → u.suspects ≡ w.suspects
        one w u p h = pick (is_flat (cell_at w.rows p.0 p.1) (get_or tops p.0 0)) h
          where
            pick : (b : Bool) → (if b then Err (flat p.0) else pivot_taken s w p.0 p.1) ≡ Ok u → u.suspects ≡ w.suspects
            pick true h = absurd cc
            pick false h = (pivot_taken-is s w u p.0 p.1 h).1

-- ---- forced pairs

module _ (s : ℕ) (tops : List ℕ) (params : ℕ) (forced : List (ℕ × ℕ)) where
  free_steps-extend : (n r : ℕ) (w u : Progress) → steps (free_step s tops params forced) w (range_with_len r n) ≡ Ok u → (rest : List (ℕ × ℕ)) × (u.pivots ≡ w.pivots ++ rest)
  free_steps-extend zero r w u h = ([], ap (λ (x : Progress). x.pivots) (sym (ok_same w u h)) ∙ sym (append-nil w.pivots))
  free_steps-extend (suc n) r w u h =
      let (v, i, j) = and_then-ok (λ v. steps (free_step s tops params forced) v (range_with_len (r + 1) n)) (free_step s tops params forced w r) u h in
      let (rest, e) = free_steps-extend n (r + 1) v u j in
      pick v rest e (free_step-is s tops params forced w v r i)
    where
      pick : (v : Progress) (rest : List (ℕ × ℕ)) → u.pivots ≡ v.pivots ++ rest → Stepped forced r w v → (rest : List (ℕ × ℕ)) × (u.pivots ≡ w.pivots ++ rest)
      pick v rest e (stays f i j) = (rest, e ∙ ap (λ ps. ps ++ rest) i)
      pick v rest e (is_suspect f i j) = (rest, e ∙ ap (λ ps. ps ++ rest) i)
      pick v rest e (pivots c i j) = ((r, c) ∷ rest, e ∙ ap (λ ps. ps ++ rest) i ∙ append_assoc w.pivots ((r, c) ∷ []) rest)

-- the forced pairs are the first pivots, in order
pub eliminate-forced : (s columns params : ℕ) (forced : List (ℕ × ℕ)) (slopes : List (List Ends)) (e : Elimination) → eliminate s columns params forced slopes ≡ Ok e →
    (rest : List (ℕ × ℕ)) × (e.pivots ≡ forced ++ rest)
eliminate-forced s columns params forced slopes e h =
    let a = map (map mid) slopes in
    let tops = map greatest_cell a in
    let n = length a in
    let (w, i, k) = and_then-ok (finished s n columns params)
    (and_then (λ w. steps (free_step s tops params forced) w (range_with_len 0 n)) (steps (forced_step s tops) (augmented s a) forced)) e h in
    let (x, j, g) = and_then-ok (λ w. steps (free_step s tops params forced) w (range_with_len 0 n)) (steps (forced_step s tops) (augmented s a) forced) w i in
    let f : x.pivots ≡ forced = forced_steps-pivots s tops (augmented s a) x forced j in
    let (rest, m) = free_steps-extend s tops params forced n 0 x w g in
    let (parts, p, q) = finished-parts s n columns params w e k in
    (rest, p ∙ m ∙ ap (λ ps. ps ++ rest) f)
