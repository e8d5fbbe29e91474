-- Handles that are put behind others, and values that are set at their handles' places.
use Rattle.std.proofs.Common.{◌≡◌, ℕ, zero, suc, ◌+◌, ◌<◌, List, [], ◌∷◌, ◌++◌, length, map, take, get_or, set, false, nat_eq, Some, refl, sym, ap, ◌∙◌, append_assoc, arith}
use Rattle.std.specs.Prelude.{if◌then◌else◌}
use Rattle.std.specs.List.{All, AllByRecursion, IsDistinct, position}
use Rattle.std.proofs.lemmas.List.{map-append, take_more}
use Rattle.std.proofs.lemmas.List.Folds.{list_any-append}
use Rattle.std.proofs.lemmas.Map.Keys.{IsDistinct-head, IsDistinct-tail}
use Rattle.std.proofs.Math.Seq.{take-append_seam}
use Rattle.sk_types.specs.declared.entity.ParamValue.{ParamValue}
use Rattle.sk_types.specs.Lookups.{value_handle}
use Rattle.sk_model.specs.Chain.{seen_in}
use Rattle.sk_model.specs.Changes.{with_param, with_params}
use Rattle.sk_model.specs.TypingLaws.Lookups.{value_found}
use Rattle.sk_model.specs.TypingLaws.ParamSet.{handles_same}
use Rattle.sk_model.proofs.Places.{value_placed}

eq_flips : (n m : ℕ) → nat_eq n m ≡ false → nat_eq m n ≡ false
eq_flips n m e = grind (arith, e)

pub keys_back : (ks keys back more : List ℕ) (n : ℕ) → keys ≡ ks ++ more → n ≡ length ks → back ≡ take n keys → back ≡ ks
keys_back ks keys back more n is len e = e ∙ ap (λ (k : ℕ). take k keys) len ∙ ap (take (length ks)) is ∙ take-append_seam ks more

module _ {s : ℕ} where
  apart_at : (id i : ℕ) (d : ParamValue s) (xs : List (ParamValue s)) → AllByRecursion (λ y. nat_eq id y ≡ false) (map value_handle xs) → i < length xs → nat_eq (get_or xs i d).id.0 id ≡ false
  apart_at id i d [] a below = absurd (omega arith)
  apart_at id zero d (x ∷ xs) a below = eq_flips id x.id.0 a.0
  apart_at id (suc i) d (x ∷ xs) a below = apart_at id i d xs a.1 (omega arith)

  not_before : (xs : List (ParamValue s)) (i : ℕ) (d : ParamValue s) → IsDistinct nat_eq (map value_handle xs) → i < length xs → seen_in (get_or xs i d).id.0 (map value_handle (take i xs)) ≡ false
  not_before [] i d apart below = absurd (omega arith)
  not_before (x ∷ xs) zero d apart below = refl
  not_before (x ∷ xs) (suc i) d apart below =
      rw (apart_at x.id.0 i d xs (IsDistinct-head nat_eq x.id.0 (map value_handle xs) apart) (omega arith)) (not_before xs i d (IsDistinct-tail nat_eq x.id.0 (map value_handle xs) apart) (omega arith))

  module _ (ks : List ℕ) (xs : List (ParamValue s)) (i : ℕ) (d : ParamValue s) (below : i < length xs) (new : All (λ (p : ParamValue s). seen_in p.id.0 ks ≡ false) xs) (apart : IsDistinct nat_eq (map value_handle xs)) (q : ParamValue s) (item : q ≡ get_or xs i d) where
    next : take (i + 1) xs ≡ take i xs ++ q ∷ []
    next = take_more xs i d below ∙ ap (λ (y : ParamValue s). take i xs ++ y ∷ []) (sym item)

    unseen : (keys : List ℕ) → keys ≡ ks ++ map value_handle (take i xs) → seen_in q.id.0 keys ≡ false
    unseen keys is =
        ap (λ (y : ParamValue s). seen_in y.id.0 keys) item
        ∙ ap (seen_in (get_or xs i d).id.0) is
        ∙ list_any-append (nat_eq (get_or xs i d).id.0) ks (map value_handle (take i xs))
        ∙ rw (new i d below, not_before xs i d apart below) refl

    pub keys_step : (keys more : List ℕ) → keys ≡ ks ++ map value_handle (take i xs) → more ≡ (if seen_in q.id.0 keys then keys else keys ++ q.id.0 ∷ []) → more ≡ ks ++ map value_handle (take (i + 1) xs)
    keys_step keys more is e =
        e ∙ rw (unseen keys is) (ap (λ (l : List ℕ). l ++ q.id.0 ∷ []) is
        ∙ append_assoc ks (map value_handle (take i xs)) (q.id.0 ∷ [])
        ∙ ap (λ (l : List ℕ). ks ++ l) (sym (map-append value_handle (take i xs) (q ∷ [])) ∙ ap (map value_handle) (sym (next))))

  pub params_back : (ps qs back more : List (ParamValue s)) (n : ℕ) → qs ≡ ps ++ more → n ≡ length ps → back ≡ take n qs → back ≡ ps
  params_back ps qs back more n is len e = e ∙ ap (λ (k : ℕ). take k qs) len ∙ ap (take (length ps)) is ∙ take-append_seam ps more

  -- ---- values

  with_params-append : (xs ys ps : List (ParamValue s)) → with_params (xs ++ ys) ps ≡ with_params ys (with_params xs ps)
  with_params-append [] ys ps = refl
  with_params-append (x ∷ xs) ys ps = with_params-append xs ys (with_param x.id.0 x.value ps)

  module _ (ps now : List (ParamValue s)) (keys : List ℕ) (xs : List (ParamValue s)) (i at : ℕ) (d e x : ParamValue s) (below : i < length xs) (q : ParamValue s) (item : q ≡ get_or xs i d) (is : now ≡ with_params (take i xs) ps) (are : keys ≡ map value_handle now) (here : position (nat_eq q.id.0) keys ≡ Some at) (old : x ≡ get_or now at e) where
    next_value : take (i + 1) xs ≡ take i xs ++ q ∷ []
    next_value = take_more xs i d below ∙ ap (λ (y : ParamValue s). take i xs ++ y ∷ []) (sym item)

    found : position (nat_eq q.id.0) (map value_handle now) ≡ Some at
    found = rw are at here

    set_here : set now at (record x { value = q.value }) ≡ with_param q.id.0 q.value now
    set_here = value_placed q.id.0 at q.value x e now found old

    pub values_step : (after : List (ParamValue s)) → after ≡ set now at (record x { value = q.value }) → after ≡ with_params (take (i + 1) xs) ps
    values_step after n =
        n ∙ set_here ∙ ap (with_param q.id.0 q.value) is
        ∙ sym (with_params-append (take i xs) (q ∷ []) ps) ∙ ap (λ (l : List (ParamValue s)). with_params l ps) (sym next_value)

    pub handles_step : (after : List (ParamValue s)) → after ≡ set now at (record x { value = q.value }) → keys ≡ map value_handle after
    handles_step after n =
        are ∙ sym (ap (map value_handle) (n ∙ set_here) ∙ handles_same q.id.0 q.value (get_or now at e).value now (sym (value_found q.id.0 at e now (map value_handle now) refl found)))
