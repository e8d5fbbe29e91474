-- Places of groups in a row, thing by thing.
use Rattle.std.proofs.Common.{◌≡◌, inl, inr, ℕ, suc, ◌+◌, ◌<◌, ◌≤◌, List, [], ◌∷◌, length, map, Bool, true, false, cond, nat_eq, nat_lt, Some, None, refl, arith}
use Rattle.std.specs.Prelude.{if◌then◌else◌}
use Rattle.std.specs.Option.{option_map}
use Rattle.std.specs.List.{AllByRecursion, position, position_or_len}
use Rattle.std.proofs.lemmas.Bool.{lt-ltb, le-ltb, ltb-true, ltb-false}
use Rattle.sk_types.specs.declared.handle.GroupId.{GroupId}
use Rattle.sk_chain.specs.Known.{place_handle}
use Rattle.sk_chain.specs.Lookups.{place_in}
use Rattle.sk_chain.proofs.Distinct.{two}

first_lt : (n : ℕ) → nat_lt 0 (suc n) ≡ true
first_lt n = lt-ltb 0 (suc n) (omega arith)

one_more : (k : ℕ) → 1 + k ≡ suc k
one_more k = omega arith

later_lt : (t : Bool) (k n : ℕ) → nat_lt k n ≡ t → nat_lt (suc k) (suc n) ≡ t
later_lt true k n e = let h : k < n = ltb-true k n e in lt-ltb (suc k) (suc n) (omega arith)
later_lt false k n e = let h : n ≤ k = ltb-false k n e in le-ltb (suc k) (suc n) (omega arith)

later_place : (k n : ℕ) → cond (nat_lt (suc k) (suc n)) (Some (suc k)) None ≡ option_map suc (cond (nat_lt k n) (Some k) None)
later_place k n = elim (two (nat_lt k n)) [ inl e ↦ rw (later_lt true k n e, e) refl | inr e ↦ rw (later_lt false k n e, e) refl ]

position_cons : {X : Type 0} (p : X → Bool) (x : X) (xs : List X) → position p (x ∷ xs) ≡ (if p x then Some 0 else option_map suc (position p xs))
position_cons p x xs = elim (two (p x)) [
  | inl e ↦ rw e (rw (first_lt (length xs)) refl)
  | inr e ↦ rw e (rw (one_more (position_or_len p xs)) (later_place (position_or_len p xs) (length xs)))
]

pub place_cons : (n : ℕ) (g : GroupId) (gs : List GroupId) → place_in n (g ∷ gs) ≡ (if nat_eq n g.0 then Some 0 else option_map suc (place_in n gs))
place_cons n g gs = position_cons (λ (h : GroupId). nat_eq n h.0) g gs

-- a number that no handle of the row is has no place
pub no_place : (n : ℕ) (gs : List GroupId) → AllByRecursion (λ k. nat_eq n k ≡ false) (map place_handle gs) → place_in n gs ≡ None
no_place n [] h = refl
no_place n (g ∷ gs) h = rw (place_cons n g gs, h.0, no_place n gs h.1) refl
