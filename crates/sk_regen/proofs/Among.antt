-- What is left of a list.
use Rattle.std.proofs.Common.{◌≡◌, inl, inr, ℕ, suc, ◌+◌, List, [], ◌∷◌, ◌++◌, map, length, Bool, true, false, cond, nat_eq, nat_lt, Some, None, refl, ap, ◌∙◌, arith}
use Rattle.std.specs.Prelude.{◌==◌, is_some, if◌then◌else◌, flat_map}
use Rattle.std.specs.List.{AllByRecursion, IsDistinct, list_any, filter, position_or_len}
use Rattle.std.proofs.lemmas.Bool.{cases_Bool, eq-eqb, lt-ltb}
use Rattle.std.proofs.lemmas.Bool.Decides.{nat_tests}
use Rattle.std.proofs.lemmas.Map.Keys.{IsDistinct-head, IsDistinct-tail}
use Rattle.sk_types.specs.declared.constraint.Constraint.{Constraint}
use Rattle.sk_types.specs.declared.entity.Entity.{Entity}
use Rattle.sk_types.specs.declared.group.Group.{Group}
use Rattle.sk_types.specs.declared.handle.ParamId.{ParamId}
use Rattle.sk_types.specs.Lookups.{param_handle}
use Rattle.sk_types.specs.Params.{own_params, group_params, free_params, is_fixed, unknown_params}
use Rattle.sk_regen.specs.GroupWorks.{is_one_of}
use Rattle.sk_regen.proofs.Placed.{flip}

-- ---- whether a parameter is among others

below-test : (k n : ℕ) → is_some (cond (nat_lt k n) (Some k) None) ≡ nat_lt k n
below-test k n = by (nat_lt k n)
  where
    by : (t : Bool) → is_some (cond t (Some k) None) ≡ t
    by true = refl
    by false = refl

one-more : (k n : ℕ) → nat_lt (1 + k) (suc n) ≡ nat_lt k n
one-more k n = grind (arith, nat_tests)

len-test : (n : ℕ) (ps : List ParamId) → nat_lt (position_or_len (λ (p : ParamId). nat_eq n p.0) ps) (length ps) ≡ list_any (λ (p : ParamId). nat_eq n p.0) ps
len-test n [] = refl
len-test n (p ∷ ps) = elim (cases_Bool (nat_eq n p.0)) [
  | inl t ↦ rw t (lt-ltb 0 (length (p ∷ ps)) (omega arith))
  | inr f ↦ rw f (one-more (position_or_len (λ (q : ParamId). nat_eq n q.0) ps) (length ps) ∙ len-test n ps)
]

pub one-of : (ps : List ParamId) (p : ParamId) → is_one_of ps p ≡ list_any (λ (q : ParamId). nat_eq p.0 q.0) ps
one-of ps p = below-test (position_or_len (λ (q : ParamId). nat_eq p.0 q.0) ps) (length ps) ∙ len-test p.0 ps

pub funext : {A B : Type 0} (f h : A → B) → ((x : A) → f x ≡ h x) → f ≡ h
funext f h e = λ i x. e x i

-- ---- some of a list, in its order

pub data Sub : List ParamId → List ParamId → Type 0 where
  sub-none : Sub [] []
  sub-keep : {us ls : List ParamId} (p : ParamId) → Sub us ls → Sub (p ∷ us) (p ∷ ls)
  sub-skip : {us ls : List ParamId} (p : ParamId) → Sub us ls → Sub us (p ∷ ls)

sub-all : (ls : List ParamId) → Sub ls ls
sub-all [] = sub-none
sub-all (p ∷ ls) = sub-keep p (sub-all ls)

sub-keeps : (xs : List ParamId) {us ls : List ParamId} → Sub us ls → Sub (xs ++ us) (xs ++ ls)
sub-keeps [] h = h
sub-keeps (x ∷ xs) h = sub-keep x (sub-keeps xs h)

sub-skips : (xs : List ParamId) {us ls : List ParamId} → Sub us ls → Sub us (xs ++ ls)
sub-skips [] h = h
sub-skips (x ∷ xs) h = sub-skip x (sub-skips xs h)

sub-before : (xs : List ParamId) {us ls : List ParamId} → Sub us ls → Sub (us ++ xs) (ls ++ xs)
sub-before xs sub-none = sub-all xs
sub-before xs (sub-keep p h) = sub-keep p (sub-before xs h)
sub-before xs (sub-skip p h) = sub-skip p (sub-before xs h)

abbrev Among : List ParamId → ParamId → Bool
Among us p = list_any (λ (q : ParamId). nat_eq p.0 q.0) us

-- what isn't in the whole isn't in a part
absent-in : (p : ParamId) {us ls : List ParamId} → Sub us ls → Among ls p ≡ false → Among us p ≡ false
absent-in n sub-none e = refl
absent-in n (sub-keep p h) e = elim (cases_Bool (nat_eq n.0 p.0)) [
  | inl t ↦ (let no : true ≡ false = rw t at e in cc no)
  | inr f ↦ rw f (absent-in n h (rw f at e))
]
absent-in n (sub-skip p h) e = elim (cases_Bool (nat_eq n.0 p.0)) [
  | inl t ↦ (let no : true ≡ false = rw t at e in cc no)
  | inr f ↦ absent-in n h (rw f at e)
]

not-among : (p : ParamId) (ls : List ParamId) → AllByRecursion (λ y. nat_eq p.0 y ≡ false) (map param_handle ls) → Among ls p ≡ false
not-among p [] a = refl
not-among p (q ∷ ls) a = rw a.0 (not-among p ls a.1)

without-first : (p : ParamId) (us ls : List ParamId) → AllByRecursion (λ y. nat_eq p.0 y ≡ false) (map param_handle ls) → filter (Among (p ∷ us)) ls ≡ filter (Among us) ls
without-first p us [] a = refl
without-first p us (q ∷ ls) a =
    rw (flip p.0 q.0 a.0) (ap (λ (l : List ParamId). if Among us q then q ∷ l else l) (without-first p us ls a.1))

filter-sub : {us ls : List ParamId} → Sub us ls → IsDistinct nat_eq (map param_handle ls) → filter (Among us) ls ≡ us
filter-sub sub-none d = refl
filter-sub (sub-keep {us} {ls} p h) d =
    rw (eq-eqb p.0 p.0 refl) (ap (λ (l : List ParamId). p ∷ l) (without-first p us ls (IsDistinct-head nat_eq p.0 (map param_handle ls) d) ∙ filter-sub h (IsDistinct-tail nat_eq p.0 (map param_handle ls) d)))
filter-sub (sub-skip {us} {ls} p h) d =
    rw (absent-in p h (not-among p ls (IsDistinct-head nat_eq p.0 (map param_handle ls) d))) (filter-sub h (IsDistinct-tail nat_eq p.0 (map param_handle ls) d))

-- ---- the unknown ones of a group's parameters

free-sub : {s : ℕ} (cs : List (Constraint s)) (es : List (Entity s)) → Sub (flat_map (free_params cs) es) (flat_map (free_params []) es)
free-sub cs [] = sub-none
free-sub cs (e ∷ es) = elim (cases_Bool (is_fixed cs e)) [
  | inl t ↦ rw t (sub-skips (own_params e) (free-sub cs es))
  | inr f ↦ rw f (sub-keeps (own_params e) (free-sub cs es))
]

pub unknowns-are : {s : ℕ} (cs : List (Constraint s)) (es : List (Entity s)) (g : Group s) → IsDistinct nat_eq (map param_handle (unknown_params [] es g)) → filter (is_one_of (unknown_params cs es g)) (unknown_params [] es g) ≡ unknown_params cs es g
unknowns-are cs es g d =
    ap (λ (t : ParamId → Bool). filter t (unknown_params [] es g)) (funext (is_one_of (unknown_params cs es g)) (Among (unknown_params cs es g)) (one-of (unknown_params cs es g)))
    ∙ filter-sub (sub-before (group_params g) (free-sub cs (filter (λ e. e.group.0 == g.id.0) es))) d
