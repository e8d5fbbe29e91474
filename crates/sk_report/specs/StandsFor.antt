-- The lines of a block stand for the columns of its box.
use Rattle.std.proofs.Common.{◌≡◌, inl, inr, ℕ, zero, suc, ◌+◌, ◌<◌, ◌≤◌, ℤ, pos, Bool, true, false, true≢false, List, [], ◌∷◌, length, get_or, map, Option, Some, None, refl, sym, ap, ◌∙◌, subst, arith}
use Rattle.std.specs.Prelude.{◌==◌, ◌||◌, not, is_some, slice_get, Ok}
use Rattle.std.specs.List.{All, filter, range_with_len, enumerate_from}
use Rattle.std.proofs.lemmas.Bool.{cases_Bool, cases_eq, eqb-true, eq-eqb, ne_eqb, lt-ltb}
use Rattle.std.proofs.lemmas.List.Elements.{All-head, All-tail}
use Rattle.std.proofs.lemmas.Option.{slice_get-get_or}
use Rattle.sk_num.specs.Limit.{IsInLimit}
use Rattle.sk_num.specs.Scale.{IsScale}
use Rattle.sk_num.specs.Spelling.{quantity_of}
use Rattle.sk_num.specs.SpellingLaws.{quantity-read_back}
use Rattle.sk_types.specs.declared.handle.ParamId.{ParamId}
use Rattle.sk_expr.specs.Columns.{is_among, RisesFrom}
use Rattle.sk_expr.specs.ColumnLaws.{among-from}
use Rattle.sk_krawczyk.specs.BoxLaws.{at_column-same, at_column-none}
use Rattle.sk_krawczyk.specs.declared.certificate.Certificate.{Certificate}
use Rattle.sk_report.specs.Block.{Name, Param, Coordinate, param_handle, name_at, radius_log_at, coordinate, coordinates, params_in, printed_box}
use Rattle.sk_report.specs.BlockLaws.{is_wide, CentreLaw, LineLaw}

-- ---- numbers that read back

reads : (s : ℕ) (params : List ParamId) (k : Certificate s) (c : ℕ) (xs : List ℤ) → IsScale s → All IsInLimit xs →
    map (λ (x : Coordinate). quantity_of s x.text) (map (coordinate params k) (enumerate_from c xs)) ≡ map (λ (z : ℤ). Ok z) xs
reads s params k c [] h a = refl
reads s params k c (x ∷ xs) h a = rw (quantity-read_back s x h (All-head IsInLimit x xs a), reads s params k (c + 1) xs h (All-tail IsInLimit x xs a)) refl

pub centre-law : CentreLaw
unfolding printed_box coordinates
centre-law s params k scale limits = reads s params k 0 k.centre scale limits

-- ---- columns in a list

at-head : (k : ℕ) (ks : List ℕ) → is_among (k ∷ ks) k ≡ true
at-head k ks = rw (eq-eqb k k refl) refl

among-at : (ks : List ℕ) (j : ℕ) → j < length ks → is_among ks (get_or ks j 0) ≡ true
among-at [] j l = absurd (omega (arith, l))
among-at (k ∷ ks) zero l = at-head k ks
among-at (k ∷ ks) (suc j) l = rw (among-at ks j (omega (arith, l))) (last (k == get_or ks j 0))
  where
    last : (b : Bool) → b || true ≡ true
    last true = refl
    last false = refl

place-of : (ks : List ℕ) (c : ℕ) → is_among ks c ≡ true → (j : ℕ) × (j < length ks) × (get_or ks j 0 ≡ c)
place-of [] c h = absurd (true≢false (sym h))
place-of (k ∷ ks) c h = by (k == c) refl (place-of ks c)
  where
    by : (b : Bool) → (k == c) ≡ b → (is_among ks c ≡ true → (j : ℕ) × (j < length ks) × (get_or ks j 0 ≡ c)) → (j : ℕ) × (j < length (k ∷ ks)) × (get_or (k ∷ ks) j 0 ≡ c)
    by true e f = (0, omega arith, eqb-true k c e)
    by false e f = let (j, l, is) = f (rw e at h) in (suc j, omega (arith, l), is)

at-least : (n : ℕ) (ks : List ℕ) → RisesFrom n ks → (j : ℕ) → j < length ks → n ≤ get_or ks j 0
at-least n ks r j l = among-from n ks (get_or ks j 0) r (among-at ks j l)

apart : (n : ℕ) (ks : List ℕ) → RisesFrom n ks → (i j : ℕ) → i < length ks → j < length ks → get_or ks i 0 ≡ get_or ks j 0 → i ≡ j
apart n [] r i j l o e = absurd (omega (arith, l))
apart n (k ∷ ks) r zero zero l o e = refl
apart n (k ∷ ks) r zero (suc j) l o e = let m = at-least (k + 1) ks r.1 j (omega (arith, o)) in absurd (omega (arith, m, e))
apart n (k ∷ ks) r (suc i) zero l o e = let m = at-least (k + 1) ks r.1 i (omega (arith, l)) in absurd (omega (arith, m, e))
apart n (k ∷ ks) r (suc i) (suc j) l o e = ap suc (apart (k + 1) ks r.1 i j (omega (arith, l)) (omega (arith, o)) e)

in-front : (n : ℕ) (ks : List ℕ) → RisesFrom (n + 1) ks → is_among ks n ≡ false
in-front n ks r = elim (cases_Bool (is_among ks n)) [
  | inl y ↦ absurd (let l = among-from (n + 1) ks n r y in omega (arith, l))
  | inr e ↦ e
]

other-head : (k c : ℕ) (ks : List ℕ) → (k ≡ c → ⊥) → is_among (k ∷ ks) c ≡ is_among ks c
other-head k c ks e = rw (ne_eqb k c e) refl

-- a rising list is what a test of its columns leaves of their range
picked : (test : ℕ → Bool) (a n : ℕ) (ks : List ℕ) → RisesFrom a ks → All (λ c. c < a + n) ks → ((c : ℕ) → a ≤ c → c < a + n → test c ≡ is_among ks c) →
    filter test (range_with_len a n) ≡ ks
picked test a zero [] r w h = refl
picked test a zero (k ∷ ks) r w h = absurd (omega (arith, r.0, All-head (λ c. c < a + 0) k ks w))
picked test a (suc n) [] r w h =
    rw (h a (omega arith) (omega arith), picked test (a + 1) n [] tt (λ i d l. absurd (omega (arith, l))) (λ c l o. h c (omega (arith, l)) (omega (arith, o)))) refl
picked test a (suc n) (k ∷ ks) r w h = elim (cases_eq k a) [
  | inl e ↦
      let rest = picked test (a + 1) n ks (subst (λ (m : ℕ). RisesFrom (m + 1) ks) e r.1) (λ i d l. let o = All-tail (λ c. c < a + suc n) k ks w i d l in omega (arith, o))
      (λ c l o. h c (omega (arith, l)) (omega (arith, o)) ∙ other-head k c ks (λ i. omega (arith, i, e, l))) in
      rw (h a (omega arith) (omega arith) ∙ ap (is_among (k ∷ ks)) (sym e) ∙ at-head k ks, rest) (ap (λ (m : ℕ). m ∷ ks) (sym e))
  | inr e ↦
      let later : RisesFrom (a + 1) (k ∷ ks) = (omega (arith, e, r.0), r.1) in
      let rest = picked test (a + 1) n (k ∷ ks) later (λ i d l. let o = w i d l in omega (arith, o)) (λ c l o. h c (omega (arith, l)) (omega (arith, o))) in
      rw (h a (omega arith) (omega arith) ∙ in-front a (k ∷ ks) later, rest) refl
]

-- ---- radii by column

module _ (solved : List ℕ) (logs : List ℤ) (rise : RisesFrom 0 solved) (one_each : length logs ≡ length solved) where
  log-at : (j : ℕ) → j < length solved → radius_log_at solved logs (get_or solved j 0) ≡ slice_get logs j
  log-at j l = at_column-same (length solved) (λ j. get_or solved j 0) (slice_get logs) None (apart 0 solved rise) j l

  has-log : (c : ℕ) → is_some (radius_log_at solved logs c) ≡ is_among solved c
  has-log c = elim (cases_Bool (is_among solved c)) [
    | inl y ↦
        let (j, l, is) = place-of solved c y in
        let log : radius_log_at solved logs c ≡ Some (get_or logs j (pos 0)) = ap (radius_log_at solved logs) (sym is) ∙ log-at j l ∙ slice_get-get_or logs j (pos 0) (omega (arith, l, one_each)) in
        rw (log, y) refl
    | inr n ↦
        let none : radius_log_at solved logs c ≡ None = at_column-none (length solved) (λ j. get_or solved j 0) (slice_get logs) None c (λ j l e. true≢false (sym (among-at solved j l) ∙ ap (is_among solved) e ∙ n)) in
        rw (none, n) refl
  ]

-- as many numbers as a function finds at the columns
found : (log : ℕ → Option ℤ) (ks : List ℕ) (ls : List ℤ) → length ls ≡ length ks → ((j : ℕ) → j < length ks → log (get_or ks j 0) ≡ slice_get ls j) →
    map log ks ≡ map (λ (z : ℤ). Some z) ls
found log [] [] e h = refl
found log [] (l ∷ ls) e h = absurd (omega (arith, e))
found log (k ∷ ks) [] e h = absurd (omega (arith, e))
found log (k ∷ ks) (l ∷ ls) e h = rw (h 0 (omega arith), found log ks ls (omega (arith, e)) (λ j o. h (suc j) (omega (arith, o)))) refl

-- ---- lines that pass a test of their columns

module _ {s : ℕ} {Y : Type 0} (params : List ParamId) (k : Certificate s) (test : Coordinate → Bool) (part : Coordinate → Y) (passes : ℕ → Bool) (is : ℕ → Y)
    (passes-is : (c : ℕ) (x : ℤ) → test (coordinate params k (c, x)) ≡ passes c) (part-is : (c : ℕ) (x : ℤ) → part (coordinate params k (c, x)) ≡ is c) where
  parts-of : (c : ℕ) (xs : List ℤ) → map part (filter test (map (coordinate params k) (enumerate_from c xs))) ≡ map is (filter passes (range_with_len c (length xs)))
  parts-of c [] = refl
  parts-of c (x ∷ xs) = by (passes c) refl (parts-of (c + 1) xs)
    where
      by : (b : Bool) → passes c ≡ b → map part (filter test (map (coordinate params k) (enumerate_from (c + 1) xs))) ≡ map is (filter passes (range_with_len (c + 1) (length xs))) →
          map part (filter test (map (coordinate params k) (enumerate_from c (x ∷ xs)))) ≡ map is (filter passes (range_with_len c (length (x ∷ xs))))
      by true e rest = rw (passes-is c x, e) (λ j. part-is c x j ∷ rest j)
      by false e rest = rw (passes-is c x, e) rest

-- held columns by the handles of their parameters
named : (params : List ParamId) (held : List ℕ) → All (λ c. c < length params) held → map (name_at params) held ≡ map Param (map param_handle (params_in params held))
named params [] a = refl
named params (c ∷ cs) a =
    let l = All-head (λ c. c < length params) c cs a in
    rw (lt-ltb c (length params) l, slice_get-get_or params c (record { 0 = 0 }) l) (ap (λ (ns : List Name). Param (get_or params c (record { 0 = 0 })).0 ∷ ns) (named params cs (All-tail (λ c. c < length params) c cs a)))

not-not : (b : Bool) → not (not b) ≡ b
not-not true = refl
not-not false = refl

pub line-law : LineLaw
unfolding printed_box coordinates
line-law s params k whole =
    let wide-passes = picked (λ c. is_some (radius_log_at k.solved k.radius_logs c)) 0 (length k.centre) k.solved whole.solved_rise (λ i d l. let o = whole.solved_in i d l in omega (arith, o))
    (λ c l o. has-log k.solved k.radius_logs whole.solved_rise whole.as_many_radii c) in
    let still-passes = picked (λ c. not (is_some (radius_log_at k.solved k.radius_logs c))) 0 (length k.centre) k.held whole.held_rise
    (λ i d l. let o = whole.held_in i d l in omega (arith, o, whole.params_in))
    (λ c l o. ap not (has-log k.solved k.radius_logs whole.solved_rise whole.as_many_radii c ∙ whole.parts c (omega (arith, o))) ∙ not-not (is_among k.held c)) in
    record {
      solved = parts-of params k is_wide (λ x. x.name) (λ c. is_some (radius_log_at k.solved k.radius_logs c)) (name_at params) (λ c x. refl) (λ c x. refl) 0 k.centre
          ∙ ap (map (name_at params)) wide-passes;
      radii = parts-of params k is_wide (λ x. x.radius_log) (λ c. is_some (radius_log_at k.solved k.radius_logs c)) (radius_log_at k.solved k.radius_logs) (λ c x. refl) (λ c x. refl) 0 k.centre
          ∙ ap (map (radius_log_at k.solved k.radius_logs)) wide-passes
          ∙ found (radius_log_at k.solved k.radius_logs) k.solved k.radius_logs whole.as_many_radii (log-at k.solved k.radius_logs whole.solved_rise whole.as_many_radii);
      held = parts-of params k (λ x. not (is_wide x)) (λ x. x.name) (λ c. not (is_some (radius_log_at k.solved k.radius_logs c))) (name_at params) (λ c x. refl) (λ c x. refl) 0 k.centre
          ∙ ap (map (name_at params)) still-passes
          ∙ named params k.held whole.held_in;
    }
