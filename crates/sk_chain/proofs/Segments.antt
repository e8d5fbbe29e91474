-- Rising numbers from one bound to below another, one segment behind the other.
use Rattle.std.proofs.Common.{◌≡◌, ℕ, ◌<◌, ◌≤◌, List, [], ◌∷◌, ◌++◌, refl, sym, arith}
use Rattle.std.specs.List.{AllByRecursion}
use Rattle.std.specs.List.Sorted.{IsStrictlySortedBy}
use Rattle.std.specs.Ordering.{nat_cmp}
use Rattle.std.specs.declared.cmp.Ordering.TheVariants.{Less}
use Rattle.std.proofs.lemmas.Bool.{lt-ltb}
use Rattle.std.proofs.lemmas.Cmp.{ranked}

pub less : (n m : ℕ) → n < m → nat_cmp n m ≡ Less
less n m h = rw (lt-ltb n m h) refl

pub of_less : (n m : ℕ) → nat_cmp n m ≡ Less → n < m
of_less n m e = ranked n m Less (sym e)

pub all_behind : {X : Type 0} (P : X → Type 0) (xs ys : List X) → AllByRecursion P xs → AllByRecursion P ys → AllByRecursion P (xs ++ ys)
all_behind P [] ys h k = k
all_behind P (x ∷ xs) ys h k = (h.0, all_behind P xs ys h.1 k)

pub all_front : {X : Type 0} (P : X → Type 0) (xs ys : List X) → AllByRecursion P (xs ++ ys) → AllByRecursion P xs
all_front P [] ys h = tt
all_front P (x ∷ xs) ys h = (h.0, all_front P xs ys h.1)

pub all_back : {X : Type 0} (P : X → Type 0) (xs ys : List X) → AllByRecursion P (xs ++ ys) → AllByRecursion P ys
all_back P [] ys h = h
all_back P (x ∷ xs) ys h = all_back P xs ys h.1

pub all_weaker : {X : Type 0} (P Q : X → Type 0) (xs : List X) → ((x : X) → P x → Q x) → AllByRecursion P xs → AllByRecursion Q xs
all_weaker P Q [] f h = tt
all_weaker P Q (x ∷ xs) f h = (f x h.0, all_weaker P Q xs f h.1)

abbrev pub IsWithin : ℕ → ℕ → ℕ → Type 0
IsWithin low high k = (low ≤ k) × (k < high)

-- they rise, from the first bound on, and below the second
pub record IsSegment (low high : ℕ) (ks : List ℕ) : Type 0 where
  pub rise : IsStrictlySortedBy nat_cmp ks
  pub within : AllByRecursion (IsWithin low high) ks

pub no_segment : (low high : ℕ) → IsSegment low high []
unfolding IsStrictlySortedBy
no_segment low high = record { rise = tt; within = tt }

pub wider : (low high a b : ℕ) (ks : List ℕ) → a ≤ low → high ≤ b → IsSegment low high ks → IsSegment a b ks
wider low high a b ks l m h = record { rise = h.rise; within = all_weaker (IsWithin low high) (IsWithin a b) ks (λ k w. let from = w.0 in let to = w.1 in (omega (arith, l, from), omega (arith, m, to))) h.within }

above : (low mid high k : ℕ) (ks : List ℕ) → IsWithin low mid k → AllByRecursion (IsWithin mid high) ks → AllByRecursion (λ j. nat_cmp k j ≡ Less) ks
above low mid high k ks w h = all_weaker (IsWithin mid high) (λ j. nat_cmp k j ≡ Less) ks (λ j v. let below = w.1 in let from = v.0 in less k j (omega (arith, below, from))) h

joined_rise : (low mid high : ℕ) (xs ys : List ℕ) → IsStrictlySortedBy nat_cmp xs → AllByRecursion (IsWithin low mid) xs → IsStrictlySortedBy nat_cmp ys → AllByRecursion (IsWithin mid high) ys → IsStrictlySortedBy nat_cmp (xs ++ ys)
unfolding IsStrictlySortedBy
joined_rise low mid high [] ys h w k v = k
joined_rise low mid high (x ∷ xs) ys h w k v =
    (all_behind (λ j. nat_cmp x j ≡ Less) xs ys h.0 (above low mid high x ys w.0 v), joined_rise low mid high xs ys h.1 w.1 k v)

pub joined : (low mid high : ℕ) (xs ys : List ℕ) → low ≤ mid → mid ≤ high → IsSegment low mid xs → IsSegment mid high ys → IsSegment low high (xs ++ ys)
joined low mid high xs ys l m h k = record {
  rise = joined_rise low mid high xs ys h.rise h.within k.rise k.within;
  within = all_behind (IsWithin low high) xs ys (wider low mid low high xs (omega arith) m h).within (wider mid high low high ys l (omega arith) k).within;
}

pub single : (k low high : ℕ) → low ≤ k → k < high → IsSegment low high (k ∷ [])
unfolding IsStrictlySortedBy
single k low high l m = record { rise = (tt, tt); within = ((l, m), tt) }
