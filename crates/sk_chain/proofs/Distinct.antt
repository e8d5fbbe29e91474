-- Lists in which no handle stands twice.
use Rattle.std.proofs.Common.{◌≡◌, ◌⊎◌, inl, inr, ℕ, zero, suc, ◌+◌, ◌<◌, List, [], ◌∷◌, ◌++◌, length, get_or, take, map, Bool, true, false, nat_eq, refl, ◌∙◌, arith}
use Rattle.std.specs.Prelude.{if◌then◌else◌}
use Rattle.std.specs.List.{AllByRecursion, IsDistinct, list_any}
use Rattle.std.proofs.lemmas.List.{take_more}
use Rattle.sk_types.specs.declared.handle.GroupId.{GroupId}
use Rattle.sk_chain.specs.Known.{place_handle}

pub two : (t : Bool) → (t ≡ true) ⊎ (t ≡ false)
two true = inl refl
two false = inr refl

-- the handle of y is another one than that of x
abbrev pub IsApart : {T : Type 0} → (T → ℕ) → T → T → Type 0
IsApart kept x y = nat_eq (kept x) (kept y) ≡ false

pub eq_flips : (n m : ℕ) → nat_eq n m ≡ false → nat_eq m n ≡ false
eq_flips n m e = grind (arith, e)

heads_apart : {T : Type 0} (kept : T → ℕ) (x : T) (xs : List T) (i : ℕ) (d : T) → AllByRecursion (λ k. nat_eq (kept x) k ≡ false) (map kept xs) → i < length xs → IsApart kept (get_or xs i d) x
heads_apart kept x [] i d h l = absurd (omega arith)
heads_apart kept x (y ∷ ys) zero d h l = eq_flips (kept x) (kept y) h.0
heads_apart kept x (y ∷ ys) (suc i) d h l = heads_apart kept x ys i d h.1 (omega arith)

-- things before the i-th have other handles
pub apart_before : {T : Type 0} (kept : T → ℕ) (xs : List T) (i : ℕ) (d : T) → IsDistinct nat_eq (map kept xs) → i < length xs → AllByRecursion (IsApart kept (get_or xs i d)) (take i xs)
unfolding IsDistinct
apart_before kept [] i d h l = absurd (omega arith)
apart_before kept (x ∷ xs) zero d h l = tt
apart_before kept (x ∷ xs) (suc i) d h l = (heads_apart kept x xs i d h.0 (omega arith), apart_before kept xs i d h.1 (omega arith))

pub to_keys : {T : Type 0} (kept : T → ℕ) (x : T) (ys : List T) → AllByRecursion (IsApart kept x) ys → AllByRecursion (λ k. nat_eq (kept x) k ≡ false) (map kept ys)
to_keys kept x [] h = tt
to_keys kept x (y ∷ ys) h = (h.0, to_keys kept x ys h.1)

pub from_keys : {T : Type 0} (kept : T → ℕ) (x : T) (ys : List T) → AllByRecursion (λ k. nat_eq (kept x) k ≡ false) (map kept ys) → AllByRecursion (IsApart kept x) ys
from_keys kept x [] h = tt
from_keys kept x (y ∷ ys) h = (h.0, from_keys kept x ys h.1)

-- ---- a set of groups that grows

none_equal : (g : GroupId) (gs : List GroupId) → AllByRecursion (IsApart place_handle g) gs → list_any (λ h. nat_eq g.0 h.0) gs ≡ false
none_equal g [] h = refl
none_equal g (k ∷ ks) h = rw h.0 (none_equal g ks h.1)

pub places_step : (order : List GroupId) (i : ℕ) (d : GroupId) (ks ks' : List GroupId) → IsDistinct nat_eq (map place_handle order) → i < length order → ks ≡ take i order →
    ks' ≡ (if list_any (λ h. nat_eq (get_or order i d).0 h.0) ks then ks else ks ++ get_or order i d ∷ []) → ks' ≡ take (i + 1) order
places_step order i d ks ks' h l e p = p ∙ rw (e, none_equal (get_or order i d) (take i order) (apart_before place_handle order i d h l), take_more order i d l) refl
