-- The lines of an entity's record, written one behind the other.
use Rattle.std.proofs.Common.{◌≡◌, ◌≢◌, ℕ, ◌+◌, ◌<◌, List, [], ◌∷◌, ◌++◌, length, take, get_or, Result, true, false, refl, sym, ap, ◌∙◌, append_assoc, arith}
use Rattle.std.specs.Prelude.{ℤ, pos, OnOk, codes}
use Rattle.std.specs.Fmt.{decimal}
use Rattle.std.specs.Ordering.{int_eq}
use Rattle.std.proofs.lemmas.Bool.{ne_eqb}
use Rattle.std.proofs.lemmas.List.{append-nil, map-append, take_more, length-take-le}
use Rattle.sk_num.specs.Numerals.{padded}
use Rattle.sk_num.specs.Spelling.{quantity_text}
use Rattle.sk_types.specs.declared.handle.EntityId.{EntityId}
use Rattle.sk_types.specs.declared.entity.Entity.{Entity}
use Rattle.sk_types.specs.declared.entity.Act.{Act}
use Rattle.sk_types.specs.Kinds.{is_point, is_distance}
use Rattle.sk_records.specs.Blocks.{Rec, with_tails}
use Rattle.sk_records.specs.Written.{bytes_of}
use Rattle.sk_model.specs.EntityRecords.{Pair, Keyed, handle_pairs, quantity_pairs, point_key, point_pairs, is_turned, act_numbers, number_pairs, entity_record, entity_records}
use Rattle.sk_model.specs.WrittenLines.{pair_bytes}
use Rattle.sk_model.proofs.Outcomes.{on_ok}
use Rattle.sk_model.proofs.PairLines.{no_pairs, behind, then, records-append}

-- ---- lines that may be left out

module _ (key : List ℕ) (e : EntityId) where
  pub no_handle : (z : List ℕ) → e.0 ≡ 0 → z ≡ z ++ pair_bytes (handle_pairs key e)
  unfolding handle_pairs
  no_handle z is = rw is (no_pairs z)

  some_handle : e.0 ≢ 0 → handle_pairs key e ≡ (key, padded 16 8 e.0) ∷ []
  unfolding handle_pairs
  some_handle differs = rw (ne_eqb e.0 0 differs) refl

  pub handle_written : (hex z a : List ℕ) → e.0 ≢ 0 → hex ≡ padded 16 8 e.0 → a ≡ z ++ pair_bytes ((key, hex) ∷ []) → a ≡ z ++ pair_bytes (handle_pairs key e)
  handle_written hex z a differs text is = is ∙ ap (λ (h : List ℕ). z ++ pair_bytes ((key, h) ∷ [])) text ∙ ap (λ (ps : List Pair). z ++ pair_bytes ps) (sym (some_handle differs))

module _ (s : ℕ) (key : List ℕ) (v : ℤ) where
  pub no_quantity : (z : List ℕ) → int_eq v (pos 0) ≡ true → z ≡ z ++ pair_bytes (quantity_pairs s key v)
  unfolding quantity_pairs
  no_quantity z is = rw is (no_pairs z)

  some_quantity : int_eq v (pos 0) ≡ false → quantity_pairs s key v ≡ (key, quantity_text s v) ∷ []
  unfolding quantity_pairs
  some_quantity differs = rw differs refl

  pub quantity_written : (text z a : List ℕ) → int_eq v (pos 0) ≡ false → text ≡ quantity_text s v → a ≡ z ++ pair_bytes ((key, text) ∷ []) → a ≡ z ++ pair_bytes (quantity_pairs s key v)
  quantity_written text z a differs is e = e ∙ ap (λ (t : List ℕ). z ++ pair_bytes ((key, t) ∷ [])) is ∙ ap (λ (ps : List Pair). z ++ pair_bytes ps) (sym (some_quantity differs))

-- ---- points

-- one more point
more_points : (k : ℕ) (es : List EntityId) (e : EntityId) → point_pairs k (es ++ e ∷ []) ≡ point_pairs k es ++ handle_pairs (point_key (k + length es)) e
more_points k [] e =
    let same : k ≡ k + length {A = EntityId} [] = omega arith in
    append-nil (handle_pairs (point_key k) e) ∙ ap (λ (n : ℕ). handle_pairs (point_key n) e) same
more_points k (d ∷ es) e =
    let same : (k + 1) + length es ≡ k + length (d ∷ es) = omega arith in
    ap (λ (ps : List Pair). handle_pairs (point_key k) d ++ ps) (more_points (k + 1) es e ∙ ap (λ (n : ℕ). point_pairs (k + 1) es ++ handle_pairs (point_key n) e) same)
    ∙ sym (append_assoc (handle_pairs (point_key k) d) (point_pairs (k + 1) es) (handle_pairs (point_key (k + length (d ∷ es))) e))

pub point_step : (es : List EntityId) (i : ℕ) (d : EntityId) (z a b : List ℕ) → i < length es → a ≡ z ++ pair_bytes (point_pairs 0 (take i es)) → b ≡ a ++ pair_bytes (handle_pairs (point_key i) (get_or es i d)) →
    b ≡ z ++ pair_bytes (point_pairs 0 (take (i + 1) es))
point_step es i d z a b below is more =
    let e : EntityId = get_or es i d in
    let same : 0 + length (take i es) ≡ i = omega (arith, length-take-le i es (omega (arith, below))) in
    let next : point_pairs 0 (take (i + 1) es) ≡ point_pairs 0 (take i es) ++ handle_pairs (point_key i) e =
    ap (point_pairs 0) (take_more es i d below) ∙ more_points 0 (take i es) e ∙ ap (λ (k : ℕ). point_pairs 0 (take i es) ++ handle_pairs (point_key k) e) same in
    rw next (behind (point_pairs 0 (take i es)) (handle_pairs (point_key i) e) z a b is more)

-- a point's line in its parts
pub point_line : (i : ℕ) (hex z a b c : List ℕ) → a ≡ z ++ codes "Entity.point[" → b ≡ a ++ decimal i → c ≡ b ++ pair_bytes ((codes "].v", hex) ∷ []) → c ≡ z ++ pair_bytes ((point_key i, hex) ∷ [])
unfolding pair_bytes point_key
point_line i hex z a b c ea eb ec = ec ∙ ap (λ (x : List ℕ). x ++ pair_bytes ((codes "].v", hex) ∷ [])) (eb ∙ ap (λ (x : List ℕ). x ++ decimal i) ea) ∙ simp append_assoc refl

-- ---- numbers

module _ {T E : Type 0} (r : Result T E) (s : ℕ) (key : List ℕ) (v w : ℤ) (is : v ≡ w) (z a : List ℕ) where
  pub last_number : OnOk r (a ≡ z ++ pair_bytes (quantity_pairs s key v)) → OnOk r (a ≡ z ++ pair_bytes (number_pairs s ((key, w) ∷ [])))
  unfolding number_pairs
  last_number h = on_ok r (λ (e : a ≡ z ++ pair_bytes (quantity_pairs s key v)). e ∙ ap (λ (x : ℤ). z ++ pair_bytes (quantity_pairs s key x)) is ∙ ap (λ (ps : List Pair). z ++ pair_bytes ps) (sym (append-nil (quantity_pairs s key w)))) h

  pub more_numbers : (ks : Keyed) (b : List ℕ) → a ≡ z ++ pair_bytes (quantity_pairs s key v) → OnOk r (b ≡ a ++ pair_bytes (number_pairs s ks)) → OnOk r (b ≡ z ++ pair_bytes (number_pairs s ((key, w) ∷ ks)))
  unfolding number_pairs
  more_numbers ks b e h = then r (quantity_pairs s key w) (number_pairs s ks) z a b (e ∙ ap (λ (x : ℤ). z ++ pair_bytes (quantity_pairs s key x)) is) h

pub no_numbers : (s n : ℕ) (vs : List ℤ) (z : List ℕ) → is_point n ≡ false → is_turned n ≡ false → is_distance n ≡ false → z ≡ z ++ pair_bytes (number_pairs s (act_numbers n vs))
unfolding act_numbers number_pairs
no_numbers s n vs z point turned distance = rw (point, turned, distance) (no_pairs z)

-- ---- records

module _ {s : ℕ} (acts : List (Act s)) (es : List (Entity s)) (i : ℕ) (d e : Entity s) where
  pub entity_step : (a b : List ℕ) → i < length es → e ≡ get_or es i d → a ≡ bytes_of (with_tails (entity_records acts (take i es))) → b ≡ a ++ bytes_of (with_tails (entity_record acts e ∷ [])) →
      b ≡ bytes_of (with_tails (entity_records acts (take (i + 1) es)))
  entity_step a b below item is more =
      more ∙ ap (λ (x : List ℕ). x ++ bytes_of (with_tails (entity_record acts e ∷ []))) is
      ∙ sym (records-append (entity_records acts (take i es)) (entity_record acts e ∷ []))
      ∙ ap (λ (rs : List Rec). bytes_of (with_tails rs)) (sym (map-append (entity_record acts) (take i es) (e ∷ [])))
      ∙ ap (λ (xs : List (Entity s)). bytes_of (with_tails (entity_records acts xs))) (ap (λ (y : Entity s). take i es ++ y ∷ []) item ∙ sym (take_more es i d below))
