-- Groups that are made, one behind the other.
use Rattle.std.proofs.Common.{◌≡◌, inl, inr, ℕ, suc, ◌+◌, ◌-◌, ◌<◌, ◌≤◌, List, [], ◌∷◌, ◌++◌, length, get_or, take, drop, true, nat_lt, Option, Some, None, Result, Ok, Err, refl, ap, sym, ◌∙◌, drop-cons, arith}
use Rattle.std.specs.Prelude.{◌==◌}
use Rattle.std.specs.Option.{option_map, option_or}
use Rattle.std.specs.List.Sorted.{IsStrictlySortedBy}
use Rattle.std.proofs.lemmas.Bool.{cases_Bool, lt-ltb}
use Rattle.std.proofs.lemmas.List.{take_more, take-append-drop}
use Rattle.std.proofs.lemmas.List.Elements.{All-head, All-tail}
use Rattle.std.proofs.lemmas.List.Folds.{length-flat_map-take}
use Rattle.sk_types.specs.declared.entity.Entity.{Entity}
use Rattle.sk_types.specs.declared.group.Group.{Group}
use Rattle.sk_types.specs.declared.request.Request.{Request}
use Rattle.sk_types.specs.Lookups.{Rise, entity_at}
use Rattle.sk_model.specs.declared.faults.ModelFault.{ModelFault}
use Rattle.sk_model.specs.Chain.{then_of}
use Rattle.sk_link.specs.declared.parts.Part.{Part}
use Rattle.sk_chain.specs.declared.made.Made.{Made}
use Rattle.sk_chain.specs.Known.{AllRise}
use Rattle.sk_chain.specs.Made.{all_made, made_in, made_from, one_made}

-- ---- look-ups

pub nothing_rises : (s : ℕ) → Rise {s = s} []
unfolding IsStrictlySortedBy
nothing_rises s = tt

pub made_in_rises : {s : ℕ} (n : ℕ) (made : List (Made s)) → AllRise made → Rise (made_in n made)
made_in_rises {s} n [] h = nothing_rises s
made_in_rises {s} n (m ∷ ms) h = elim (cases_Bool (n == m.group.0)) [
  | inl t ↦ rw t (All-head (λ (q : Made s). Rise q.entities) m ms h)
  | inr f ↦ rw f (made_in_rises n ms (All-tail (λ (q : Made s). Rise q.entities) m ms h))
]

pub at_append : {s : ℕ} (n : ℕ) (xs ys : List (Entity s)) → entity_at n (xs ++ ys) ≡ option_or (entity_at n xs) (entity_at n ys)
at_append n [] ys = refl
at_append n (x ∷ xs) ys = elim (cases_Bool (n == x.id.0)) [
  | inl t ↦ rw t refl
  | inr f ↦ rw f (at_append n xs ys)
]

next : (i : ℕ) → suc i ≡ i + 1
next i = omega arith

module _ {s : ℕ} (made : List (Made s)) (i : ℕ) (d : Made s) (l : i < length made) (is : d ≡ get_or made i d) (n : ℕ) where
  left : drop i made ≡ d ∷ drop (i + 1) made
  left = drop-cons made i d l ∙ ap (λ x. x ∷ drop (suc i) made) (sym is) ∙ ap (λ k. d ∷ drop k made) (next i)

  here_or : entity_at n (all_made (drop i made)) ≡ option_or (entity_at n d.entities) (entity_at n (all_made (drop (i + 1) made)))
  here_or = ap (λ ms. entity_at n (all_made ms)) left ∙ at_append n d.entities (all_made (drop (i + 1) made))

  pub kind_here : (e : Entity s) → Some e ≡ entity_at n d.entities → entity_at n (all_made (drop i made)) ≡ entity_at n (all_made made) → Some e.kind ≡ option_map (λ (x : Entity s). x.kind) (entity_at n (all_made made))
  kind_here e a h = ap (option_map (λ (x : Entity s). x.kind)) (ap (λ (o : Option (Entity s)). option_or o (entity_at n (all_made (drop (i + 1) made)))) a ∙ sym here_or ∙ h)

  pub kind_later : None ≡ entity_at n d.entities → entity_at n (all_made (drop i made)) ≡ entity_at n (all_made made) → entity_at n (all_made (drop (i + 1) made)) ≡ entity_at n (all_made made)
  kind_later a h = ap (λ (o : Option (Entity s)). option_or o (entity_at n (all_made (drop (i + 1) made)))) a ∙ sym here_or ∙ h

pub many : {s : ℕ} (made : List (Made s)) (i count : ℕ) (d : Made s) (es : List (Entity s)) → i < length made → d ≡ get_or made i d → es ≡ d.entities → count ≡ length (all_made (take i made)) → count ≤ 200000 → 200000 - count < length es →
    true ≡ nat_lt 200000 (length (all_made made))
many {s} made i count d es l is same e few m =
    let more = length-flat_map-take (λ (q : Made s). q.entities) made i d l in
    let long : length es ≡ length (get_or made i d).entities = ap length same ∙ ap (λ (q : Made s). length q.entities) is in
    sym (lt-ltb 200000 (length (all_made made)) (omega (arith, more, long, e, few, m)))

-- ---- one group more

module _ {s : ℕ} (rs : List Request) (all : List (Group s)) (parts : List (Part s)) where
  abbrev from : List (Made s) → List (Group s) → Result (List (Made s)) ModelFault
  from = made_from rs all parts

  from_append : (made : List (Made s)) (gs hs : List (Group s)) → from made (gs ++ hs) ≡ then_of (from made gs) (λ m. from m hs)
  from_append made [] hs = refl
  from_append made (g ∷ gs) hs = by_one (one_made rs all parts made g) (λ more. from_append more gs hs)
    where
      by_one : (r : Result (List (Made s)) ModelFault) → ((more : List (Made s)) → from more (gs ++ hs) ≡ then_of (from more gs) (λ m. from m hs)) → then_of r (λ more. from more (gs ++ hs)) ≡ then_of (then_of r (λ more. from more gs)) (λ m. from m hs)
      by_one (Ok more) h = h more
      by_one (Err e) h = refl

  module _ (gs : List (Group s)) (i : ℕ) (d : Group s) (l : i < length gs) (made : List (Made s)) (h : from [] (take i gs) ≡ Ok made) where
    pub more_made : (g : Group s) (more : List (Made s)) → g ≡ get_or gs i d → one_made rs all parts made g ≡ Ok more → from [] (take (i + 1) gs) ≡ Ok more
    more_made g more is e =
        ap (from []) (take_more gs i d l) ∙ from_append [] (take i gs) (get_or gs i d ∷ []) ∙ ap (λ r. then_of r (λ m. from m (get_or gs i d ∷ []))) h
        ∙ ap (λ x. from made (x ∷ [])) (sym is) ∙ ap (λ r. then_of r (λ m. from m [])) e

    split : gs ≡ take i gs ++ get_or gs i d ∷ drop (suc i) gs
    split = sym (take-append-drop i gs) ∙ ap (λ xs. take i gs ++ xs) (drop-cons gs i d l)

    pub not_made : (g : Group s) (f : ModelFault) → g ≡ get_or gs i d → one_made rs all parts made g ≡ Err f → from [] gs ≡ Err f
    not_made g f is e =
        ap (from []) split ∙ from_append [] (take i gs) (get_or gs i d ∷ drop (suc i) gs) ∙ ap (λ r. then_of r (λ m. from m (get_or gs i d ∷ drop (suc i) gs))) h
        ∙ ap (λ x. from made (x ∷ drop (suc i) gs)) (sym is) ∙ ap (λ r. then_of r (λ m. from m (drop (suc i) gs))) e
