-- The last lines with some keys, found in one pass.
use Rattle.std.proofs.Common.{◌≡◌, inl, inr, ℕ, suc, ◌+◌, ◌<◌, List, [], ◌∷◌, ◌++◌, map, length, take, drop, get_or, set, Bool, true, false, cond, Option, Some, None, refl, ap, sym, ◌∙◌, arith, append_assoc}
use Rattle.std.specs.Borrow.{Bor}
use Rattle.std.specs.Option.{option_map, option_or}
use Rattle.std.specs.Str.{bytes_eq}
use Rattle.std.proofs.lemmas.List.{take_more_set, drop-set-lt, drop_more}
use Rattle.sk_text.specs.Keys.{parts_at_equals}
use Rattle.sk_records.specs.Rows.{Row, Role, Plain, Brace, Entry, value_at, value_in, value_under, is_known, last_value, last_place}
use Rattle.sk_records.specs.Holding.Found.{key_at, noted, noted_of, noted_from}
use Rattle.sk_records.specs.Laws.MadeAnew.{two}

abbrev pub nowhere : Option ℕ
nowhere = None

module _ (i : ℕ) (k : Bor (List ℕ)) (ks : List (Bor (List ℕ))) (f : Option ℕ) (fs : List (Option ℕ)) where
  noted_one : (role : Role) (body : List ℕ) → noted_of (key_at role body) i (k ∷ ks) (f ∷ fs) ≡ cond (is_known (value_at k.now role body)) (Some i) f ∷ noted_of (key_at role body) i ks fs
  noted_one Plain body = by_parts (parts_at_equals body)
    where
      by_parts : (o : Option (List ℕ × List ℕ)) → noted_of (option_map (λ (p : List ℕ × List ℕ). p.0) o) i (k ∷ ks) (f ∷ fs) ≡ cond (is_known (value_under k.now o)) (Some i) f ∷ noted_of (option_map (λ (p : List ℕ × List ℕ). p.0) o) i ks fs
      by_parts None = refl
      by_parts (Some p) = elim (two (bytes_eq p.0 k.now)) [ inl e ↦ rw e refl | inr e ↦ rw e refl ]
  noted_one Brace body = refl
  noted_one Entry body = refl

-- what is noted under one key
abbrev one_from : List ℕ → ℕ → List Row → Option ℕ → Option ℕ
one_from key i [] f = f
one_from key i (r ∷ rs) f = one_from key (i + 1) rs (cond (is_known (value_in key r)) (Some i) f)

each_key : (rows : List Row) (i : ℕ) (k : Bor (List ℕ)) (ks : List (Bor (List ℕ))) (f : Option ℕ) (fs : List (Option ℕ)) → noted_from i rows (k ∷ ks) (f ∷ fs) ≡ one_from k.now i rows f ∷ noted_from i rows ks fs
each_key [] i k ks f fs = refl
each_key (r ∷ rs) i k ks f fs =
    ap (noted_from (i + 1) rs (k ∷ ks)) (noted_one i k ks f fs r.role r.body)
    ∙ each_key rs (i + 1) k ks (cond (is_known (value_in k.now r)) (Some i) f) (noted_of (key_at r.role r.body) i ks fs)

no_key : (rows : List Row) (i : ℕ) → noted_from i rows [] [] ≡ []
no_key [] i = refl
no_key (r ∷ rs) i = ap (noted_from (i + 1) rs []) (none (key_at r.role r.body)) ∙ no_key rs (i + 1)
  where
    none : (o : Option (List ℕ)) → noted_of o i [] [] ≡ []
    none None = refl
    none (Some key) = refl

one_last : (key : List ℕ) (rows : List Row) (i : ℕ) (f : Option ℕ) → one_from key i rows f ≡ option_or (option_map (λ n. i + n) (last_place key rows)) f
one_last key [] i f = refl
one_last key (r ∷ rs) i f = one_last key rs (i + 1) (cond (is_known (value_in key r)) (Some i) f) ∙ shift (last_place key rs) (is_known (value_in key r))
  where
    shift : (o : Option ℕ) (t : Bool) → option_or (option_map (λ n. i + 1 + n) o) (cond t (Some i) f) ≡ option_or (option_map (λ n. i + n) (option_or (option_map suc o) (cond t (Some 0) None))) f
    shift None true = ap Some (omega arith)
    shift None false = refl
    shift (Some n) t = ap Some (omega arith)

zero_more : (o : Option ℕ) → option_or (option_map (λ n. 0 + n) o) None ≡ o
zero_more None = refl
zero_more (Some n) = ap Some (omega arith)

-- all lines noted, where nothing was
pub found_all : (rows : List Row) (ks : List (Bor (List ℕ))) → noted_from 0 rows ks (map (λ (k : Bor (List ℕ)). None) ks) ≡ map (λ (k : Bor (List ℕ)). last_place k.now rows) ks
found_all rows [] = no_key rows 0
found_all rows (k ∷ ks) =
    each_key rows 0 k ks None (map (λ (k : Bor (List ℕ)). None) ks)
    ∙ ap (λ (o : Option ℕ). o ∷ noted_from 0 rows ks (map (λ (k : Bor (List ℕ)). None) ks)) (one_last k.now rows 0 None ∙ zero_more (last_place k.now rows))
    ∙ ap (λ (l : List (Option ℕ)). last_place k.now rows ∷ l) (found_all rows ks)

-- one more key is compared
module _ (key : List ℕ) (at : ℕ) (ks : List (Bor (List ℕ))) (fs : List (Option ℕ)) (i : ℕ) (k : Bor (List ℕ)) (lt : i < length ks) (same : length fs ≡ length ks) (is : k ≡ get_or ks i k) where
  keys_more : drop i ks ≡ k ∷ drop (i + 1) ks
  keys_more = drop_more ks i k lt ∙ ap (λ (x : Bor (List ℕ)). x ∷ drop (i + 1) ks) (sym is)

  places_more : drop i fs ≡ get_or fs i None ∷ drop (i + 1) fs
  places_more = drop_more fs i None (omega (arith, same))

  rest_noted : noted key at (drop i ks) (drop i fs) ≡ cond (bytes_eq key k.now) (Some at) (get_or fs i None) ∷ noted key at (drop (i + 1) ks) (drop (i + 1) fs)
  rest_noted = rw (keys_more, places_more) refl

  pub note_more : (x : Option ℕ) → x ≡ cond (bytes_eq key k.now) (Some at) (get_or fs i None) → take (i + 1) (set fs i x) ++ noted key at (drop (i + 1) ks) (drop (i + 1) (set fs i x)) ≡ take i fs ++ noted key at (drop i ks) (drop i fs)
  note_more x e =
      let front : take (i + 1) (set fs i x) ≡ take i fs ++ x ∷ [] = take_more_set fs i x (omega (arith, same)) in
      let back : drop (i + 1) (set fs i x) ≡ drop (i + 1) fs = drop-set-lt (i + 1) fs i x (omega arith) in
      rw (front, back, rest_noted, ← e) (append_assoc (take i fs) (x ∷ []) (noted key at (drop (i + 1) ks) (drop (i + 1) fs)))

-- nothing is noted under any key
pub none_each : (fs : List (Option ℕ)) (ks : List (Bor (List ℕ))) → length fs ≡ length ks → map (λ (o : Option ℕ). nowhere) fs ≡ map (λ (k : Bor (List ℕ)). nowhere) ks
none_each [] [] e = refl
none_each [] (k ∷ ks) e = absurd (omega (arith, e))
none_each (f ∷ fs) [] e = absurd (omega (arith, e))
none_each (f ∷ fs) (k ∷ ks) e = ap (λ (l : List (Option ℕ)). None ∷ l) (none_each fs ks (omega (arith, e)))

-- ---- the value at a place

pub value_none : (key : List ℕ) (rows : List Row) → last_place key rows ≡ None → last_value key rows ≡ None
value_none key [] e = refl
value_none key (r ∷ rs) e = by_place (last_place key rs) (value_in key r) e (value_none key rs)
  where
    by_place : (o : Option ℕ) (x : Option (List ℕ)) → option_or (option_map suc o) (cond (is_known x) (Some 0) None) ≡ None → (o ≡ None → last_value key rs ≡ None) → option_or (last_value key rs) x ≡ None
    by_place None None e f = rw (f refl) refl
    by_place None (Some v) e f = cc
    by_place (Some i) x e f = cc

pub value_some : (key : List ℕ) (rows : List Row) (i : ℕ) (d : Row) → last_place key rows ≡ Some i → last_value key rows ≡ value_in key (get_or rows i d)
value_some key [] i d e = cc
value_some key (r ∷ rs) i d e = by_place (last_place key rs) (value_in key r) refl e (value_none key rs) (λ j f. value_some key rs j d f) (λ j f. known_at key rs j d f)
  where
    known_at : (key : List ℕ) (rows : List Row) (j : ℕ) (d : Row) → last_place key rows ≡ Some j → is_known (value_in key (get_or rows j d)) ≡ true
    known_at key [] j d e = cc
    known_at key (r ∷ rs) j d e = here (last_place key rs) (is_known (value_in key r)) refl e (λ n f. known_at key rs n d f)
      where
        here : (o : Option ℕ) (t : Bool) → is_known (value_in key r) ≡ t → option_or (option_map suc o) (cond t (Some 0) None) ≡ Some j → ((n : ℕ) → o ≡ Some n → is_known (value_in key (get_or rs n d)) ≡ true) → is_known (value_in key (get_or (r ∷ rs) j d)) ≡ true
        here None true same e f = let q : 0 ≡ j = cc in rw (← q) same
        here None false same e f = cc
        here (Some n) t same e f = let q : suc n ≡ j = cc in rw (← q) (f n refl)

    by_place : (o : Option ℕ) (x : Option (List ℕ)) → value_in key r ≡ x → option_or (option_map suc o) (cond (is_known x) (Some 0) None) ≡ Some i → (o ≡ None → last_value key rs ≡ None) → ((j : ℕ) → o ≡ Some j → last_value key rs ≡ value_in key (get_or rs j d)) → ((j : ℕ) → o ≡ Some j → is_known (value_in key (get_or rs j d)) ≡ true) → option_or (last_value key rs) x ≡ value_in key (get_or (r ∷ rs) i d)
    by_place None None same e f g h = cc
    by_place None (Some v) same e f g h = let q : 0 ≡ i = cc in rw (← q, f refl) (sym same)
    by_place (Some j) x same e f g h = let q : suc j ≡ i = cc in rw (← q, g j refl) (known_or (value_in key (get_or rs j d)) (h j refl))
      where
        known_or : (o : Option (List ℕ)) → is_known o ≡ true → option_or o x ≡ o
        known_or None e = cc
        known_or (Some v) e = refl
