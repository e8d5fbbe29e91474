-- Looking parameters up by their place among the handles.
use Rattle.std.proofs.Common.{◌≡◌, inl, inr, ℕ, suc, ◌+◌, ◌<◌, ◌≤◌, List, [], ◌∷◌, ◌++◌, length, get_or, map, Bool, true, false, cond, nat_eq, nat_lt, Option, Some, None, refl, sym, ◌∙◌, ap, subst, arith}
use Rattle.std.specs.Prelude.{ℤ, pos}
use Rattle.std.proofs.lemmas.List.{length-map}
use Rattle.std.proofs.lemmas.Bool.{ltb-true, ltb-false, lt-ltb, le-ltb, cases_Bool}
use Rattle.std.specs.Option.{option_map}
use Rattle.std.specs.List.{position, position_or_len}
use Rattle.sk_types.specs.declared.entity.ParamValue.{ParamValue}
use Rattle.sk_types.specs.Lookups.{value_handle, value_of}

abbrev place : {s : ℕ} → ℕ → List (ParamValue s) → ℕ
place id ps = position_or_len (nat_eq id) (map value_handle ps)

one_more : (k : ℕ) → 1 + k ≡ suc k
one_more k = omega arith

first_lt : (n : ℕ) → nat_lt 0 (suc n) ≡ true
first_lt n = lt-ltb 0 (suc n) (omega arith)

later_lt : (t : Bool) (k n : ℕ) → nat_lt k n ≡ t → nat_lt (suc k) (suc n) ≡ t
later_lt true k n e = let h : k < n = ltb-true k n e in lt-ltb (suc k) (suc n) (omega arith)
later_lt false k n e = let h : n ≤ k = ltb-false k n e in le-ltb (suc k) (suc n) (omega arith)

value_placed : {s : ℕ} (id : ℕ) (d : ParamValue s) (ps : List (ParamValue s)) → value_of id ps ≡ cond (nat_lt (place id ps) (length (map value_handle ps))) (Some (get_or ps (place id ps) d).value) None
value_placed id d [] = refl
value_placed id d (p ∷ ps) = elim (cases_Bool (nat_eq id p.id.0)) [
  | inl e ↦ rw e (rw (first_lt (length (map value_handle ps))) refl)
  | inr e ↦ rw e (rw (one_more (place id ps)) (rw (later_lt (nat_lt (place id ps) (length (map value_handle ps))) (place id ps) (length (map value_handle ps)) refl) (value_placed id d ps)))
]

pub place_is : (t : Bool) (n i : ℕ) → cond t (Some n) None ≡ Some i → n ≡ i
place_is true n i e = cc
place_is false n i e = cc

pub place_below : (t : Bool) (n len i : ℕ) → nat_lt n len ≡ t → cond t (Some n) None ≡ Some i → i < len
place_below true n len i e h = let same : n ≡ i = cc in subst (λ (k : ℕ). k < len) same (ltb-true n len e)
place_below false n len i e h = cc

found_by : {B : Type 0} (t : Bool) (n i : ℕ) (f : ℕ → B) → cond t (Some n) None ≡ Some i → Some (f i) ≡ cond t (Some (f n)) None
found_by true n i f e = ap (λ o. option_map f o) (sym e)
found_by false n i f e = cc

missing_by : {B : Type 0} (t : Bool) (n : ℕ) (b : B) → cond t (Some n) None ≡ None → None ≡ cond t (Some b) None
missing_by true n b e = cc
missing_by false n b e = refl

pub value_found : {s : ℕ} (id i : ℕ) (d : ParamValue s) (ps : List (ParamValue s)) (keys : List ℕ) → keys ≡ map value_handle ps → position (nat_eq id) keys ≡ Some i → Some (get_or ps i d).value ≡ value_of id ps
value_found id i d ps keys k e =
    found_by (nat_lt (place id ps) (length (map value_handle ps))) (place id ps) i (λ j. (get_or ps j d).value) (rw k at e) ∙ sym (value_placed id d ps)

pub value_missing : {s : ℕ} (id : ℕ) (ps : List (ParamValue s)) (keys : List ℕ) → keys ≡ map value_handle ps → position (nat_eq id) keys ≡ None → None ≡ value_of id ps
value_missing {s} id ps keys k e =
    missing_by (nat_lt (place id ps) (length (map value_handle ps))) (place id ps) (get_or ps (place id ps) no_value).value (rw k at e) ∙ sym (value_placed id no_value ps)
  where
    no_value : ParamValue s
    no_value = record { id = record { 0 = 0 }; value = pos 0 }

-- ---- places of parameters that stand, and of those that don't

no_param : {s : ℕ} → ParamValue s
no_param = record { id = record { 0 = 0 }; value = pos 0 }

pub position_missing : {s : ℕ} (id : ℕ) (ps : List (ParamValue s)) → value_of id ps ≡ None → position (nat_eq id) (map value_handle ps) ≡ None
position_missing {s} id ps none = by_position (position (nat_eq id) (map value_handle ps)) refl
  where
    by_position : (o : Option ℕ) → position (nat_eq id) (map value_handle ps) ≡ o → o ≡ None
    by_position None at = refl
    by_position (Some i) at = let f : Some (get_or ps i (no_param {s = s})).value ≡ None = value_found id i no_param ps (map value_handle ps) refl at ∙ none in cc f

pub record Standing {s : ℕ} (id : ℕ) (ps : List (ParamValue s)) : Type 0 where
  pub place : ℕ
  pub at : position (nat_eq id) (map value_handle ps) ≡ Some place
  pub within : place < length ps

pub position_standing : {s : ℕ} (id : ℕ) (w : ℤ) (ps : List (ParamValue s)) → value_of id ps ≡ Some w → Standing id ps
position_standing {s} id w ps stands = by_position (position (nat_eq id) (map value_handle ps)) refl
  where
    by_position : (o : Option ℕ) → position (nat_eq id) (map value_handle ps) ≡ o → Standing id ps
    by_position None at = let f : None ≡ Some w = value_missing id ps (map value_handle ps) refl at ∙ stands in cc f
    by_position (Some i) at = record { place = i; at = at; within = subst (λ (k : ℕ). i < k) (length-map ps value_handle) (place_below _ _ _ i refl at) }

place_front : {s : ℕ} (id : ℕ) (w : ℤ) (ps qs : List (ParamValue s)) → value_of id ps ≡ Some w → place id (ps ++ qs) ≡ place id ps
place_front id w [] qs stands = cc
place_front id w (p ∷ ps) qs stands = elim (cases_Bool (nat_eq id p.id.0)) [
  | inl e ↦ rw e refl
  | inr e ↦ rw e (ap (λ (k : ℕ). 1 + k) (place_front id w ps qs (rw e at stands)))
]

-- others behind don't move it
pub position_front : {s : ℕ} (id i j : ℕ) (w : ℤ) (ps qs : List (ParamValue s)) → value_of id ps ≡ Some w → position (nat_eq id) (map value_handle ps) ≡ Some i → position (nat_eq id) (map value_handle (ps ++ qs)) ≡ Some j → j ≡ i
position_front id i j w ps qs stands at further = sym (place_is _ _ j further) ∙ place_front id w ps qs stands ∙ place_is _ _ i at
