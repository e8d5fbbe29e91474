-- A list that is extended, copy after copy.
use Rattle.std.proofs.Common.{◌≡◌, ◌⊎◌, inl, inr, ℕ, suc, ◌+◌, ◌<◌, List, [], ◌∷◌, ◌++◌, length, take, drop, get_or, Bool, true, false, not, nat_eq, nat_le, Option, Some, None, refl, sym, ap, ◌∙◌, subst, arith}
use Rattle.std.specs.Prelude.{◌||◌, ◌&&◌, max, option_and_then, unwrap_or, if◌then◌else◌}
use Rattle.std.proofs.lemmas.List.Sums.{fold_more}
use Rattle.std.specs.List.{flat_map, list_any}
use Rattle.std.specs.Cmp.{IsEquivalence, decided}
use Rattle.std.proofs.lemmas.Bool.{cases_Bool, eq-eqb, lt-leb}
use Rattle.std.proofs.lemmas.List.{take_more}
use Rattle.std.proofs.Math.Seq.{drop-cons}
use Rattle.sk_types.specs.declared.group.RemapEntry.{RemapEntry}
use Rattle.sk_types.specs.Copies.{CopyKey, copied, same_copy}
use Rattle.sk_copy.specs.declared.fault.CopyFault.{CopyFault}
use Rattle.sk_copy.specs.declared.fault.CopyFault.TheVariants.{Full, NoMemory}
use Rattle.sk_copy.specs.Extended.{greatest, has_copy, with_copy, extended, number_in}

or_none : (t : Bool) → (t || false) ≡ t
or_none true = refl
or_none false = refl

or_same : (t : Bool) → (t || t) ≡ t
or_same true = refl
or_same false = refl

or_true : (t : Bool) → (t || true) ≡ true
or_true true = refl
or_true false = refl

pub has_more : (c : CopyKey) (es : List RemapEntry) (e : RemapEntry) → has_copy c (es ++ e ∷ []) ≡ (has_copy c es || same_copy c (copied e))
has_more c [] e = or_none (same_copy c (copied e))
has_more c (x ∷ es) e = elim (cases_Bool (same_copy c (copied x))) [
  | inl t ↦ rw t refl
  | inr f ↦ rw f (has_more c es e)
]

keys_more : (c k : CopyKey) (ks : List CopyKey) → list_any (same_copy c) (ks ++ k ∷ []) ≡ (list_any (same_copy c) ks || same_copy c k)
keys_more c k [] = or_none (same_copy c k)
keys_more c k (x ∷ ks) = elim (cases_Bool (same_copy c x)) [
  | inl t ↦ rw t refl
  | inr f ↦ rw f (keys_more c k ks)
]

and_left : (a b : Bool) → (a && b) ≡ true → a ≡ true
and_left true b e = refl
and_left false b e = cc

and_right : (a b : Bool) → (a && b) ≡ true → b ≡ true
and_right true b e = e
and_right false b e = cc

pub same_is : (c k : CopyKey) → same_copy c k ≡ true → c ≡ k
same_is c k e =
    let p = and_left (nat_eq c.0 k.0) (nat_eq c.1 k.1) e in
    let q = and_right (nat_eq c.0 k.0) (nat_eq c.1 k.1) e in
    let l : c.0 ≡ k.0 = grind (arith, p) in
    let r : c.1 ≡ k.1 = grind (arith, q) in
    ap (λ (x : ℕ). (x, c.1)) l ∙ ap (λ (y : ℕ). (k.0, y)) r

same_self : (c k : CopyKey) → c ≡ k → same_copy c k ≡ true
same_self c k e =
    let l : c.0 ≡ k.0 = ap (λ (x : CopyKey). x.0) e in
    let r : c.1 ≡ k.1 = ap (λ (x : CopyKey). x.1) e in
    rw (eq-eqb c.0 k.0 l, eq-eqb c.1 k.1 r) refl

pub same_copy_equiv : IsEquivalence same_copy
same_copy_equiv = decided same_copy (λ c k. (same_is c k, same_self c k))

-- one more key among keys that are seen
pub seen_more : (c k : CopyKey) (ks : List CopyKey) → list_any (same_copy c) (if list_any (same_copy k) ks then ks else ks ++ k ∷ []) ≡ (list_any (same_copy c) ks || same_copy c k)
seen_more c k ks = elim (cases_Bool (list_any (same_copy k) ks)) [
  | inl t ↦ elim (cases_Bool (same_copy c k)) [
    | inl u ↦ (let there : list_any (same_copy c) ks ≡ true = subst (λ (x : CopyKey). list_any (same_copy x) ks ≡ true) (sym (same_is c k u)) t in rw (t, u) (there ∙ sym (or_true (list_any (same_copy c) ks))))
    | inr u ↦ rw (t, u) (sym (or_none (list_any (same_copy c) ks)))
  ]
  | inr f ↦ rw f (keys_more c k ks)
]

pub greatest_more : (es : List RemapEntry) (e : RemapEntry) → greatest (es ++ e ∷ []) ≡ max e.number (greatest es)
greatest_more [] e = refl
greatest_more (x ∷ es) e = let rest = greatest_more es e in omega (arith, rest)

-- ---- steps of the loops

pub entry_greatest : (list : List RemapEntry) (i : ℕ) (d : RemapEntry) (m n : ℕ) → i < length list → n ≡ greatest (take i list) → m ≡ max (get_or list i d).number n → m ≡ greatest (take (i + 1) list)
entry_greatest list i d m n l e p = p ∙ ap (max (get_or list i d).number) e ∙ sym (greatest_more (take i list) (get_or list i d)) ∙ ap greatest (sym (take_more list i d l))

pub entry_seen : (list : List RemapEntry) (i : ℕ) (d : RemapEntry) (ks ks' : List CopyKey) → i < length list → ((c : CopyKey) → list_any (same_copy c) ks ≡ has_copy c (take i list)) →
    ks' ≡ (if list_any (same_copy (copied (get_or list i d))) ks then ks else ks ++ copied (get_or list i d) ∷ []) → (c : CopyKey) → list_any (same_copy c) ks' ≡ has_copy c (take (i + 1) list)
entry_seen list i d ks ks' l h e c =
    ap (list_any (same_copy c)) e ∙ seen_more c (copied (get_or list i d)) ks
    ∙ ap (λ (t : Bool). t || same_copy c (copied (get_or list i d))) (h c)
    ∙ sym (has_more c (take i list) (get_or list i d)) ∙ ap (has_copy c) (sym (take_more list i d l))

next : (i : ℕ) → suc i ≡ i + 1
next i = omega arith

-- what is left begins with the key
left_is : (ks : List CopyKey) (i : ℕ) → i < length ks → drop i ks ≡ get_or ks i (0, 0) ∷ drop (i + 1) ks
left_is ks i l = drop-cons ks i (0, 0) l ∙ ap (λ (n : ℕ). get_or ks i (0, 0) ∷ drop n ks) (next i)

module _ (keys : List CopyKey) (i : ℕ) (out : List RemapEntry) (l : i < length keys) where
  abbrev k : CopyKey
  k = get_or keys i (0, 0)

  pub skip : (o : Option (List RemapEntry)) → has_copy k out ≡ true → extended (drop i keys) out ≡ o → extended (drop (i + 1) keys) out ≡ o
  skip o h e = (let step : extended (k ∷ drop (i + 1) keys) out ≡ o = subst (λ (ks : List CopyKey). extended ks out ≡ o) (left_is keys i l) e in rw h at step)

  pub full : (o : Option (List RemapEntry)) → has_copy k out ≡ false → greatest out ≡ 65535 → extended (drop i keys) out ≡ o → o ≡ None
  full o h g e = (let step : extended (k ∷ drop (i + 1) keys) out ≡ o = subst (λ (ks : List CopyKey). extended ks out ≡ o) (left_is keys i l) e in sym (rw (h, g) at step))

  pub more : (o : Option (List RemapEntry)) → has_copy k out ≡ false → greatest out < 65535 → extended (drop i keys) out ≡ o → extended (drop (i + 1) keys) (with_copy k out) ≡ o
  more o h g e = (let step : extended (k ∷ drop (i + 1) keys) out ≡ o = subst (λ (ks : List CopyKey). extended ks out ≡ o) (left_is keys i l) e in rw (h, lt-leb 65535 (greatest out) g) at step)

  -- the key is there, or goes to the end
  module _ (ks ks' : List CopyKey) (seen : (c : CopyKey) → list_any (same_copy c) ks ≡ has_copy c out) where
    pub not_seen : (t : Bool) → t ≡ not (list_any (same_copy k) ks) → t ≡ true → has_copy k out ≡ false
    not_seen t e u = sym (seen k) ∙ not_true (list_any (same_copy k) ks) (sym e ∙ u)
      where
        not_true : (a : Bool) → not a ≡ true → a ≡ false
        not_true true e = cc
        not_true false e = refl

    pub is_seen : (t : Bool) → t ≡ not (list_any (same_copy k) ks) → t ≡ false → has_copy k out ≡ true
    is_seen t e u = sym (seen k) ∙ not_false (list_any (same_copy k) ks) (sym e ∙ u)
      where
        not_false : (a : Bool) → not a ≡ false → a ≡ true
        not_false true e = refl
        not_false false e = cc

    pub seen_kept : has_copy k out ≡ true → ks' ≡ (if list_any (same_copy k) ks then ks else ks ++ k ∷ []) → (c : CopyKey) → list_any (same_copy c) ks' ≡ has_copy c out
    seen_kept h e c = (let there : list_any (same_copy k) ks ≡ true = seen k ∙ h in ap (list_any (same_copy c)) (e ∙ rw there refl) ∙ seen c)

    pub seen_grown : (x : RemapEntry) → copied x ≡ k → ks' ≡ (if list_any (same_copy k) ks then ks else ks ++ k ∷ []) → (c : CopyKey) → list_any (same_copy c) ks' ≡ has_copy c (out ++ x ∷ [])
    seen_grown x p e c = ap (list_any (same_copy c)) e ∙ seen_more c k ks ∙ ap (λ (t : Bool). t || same_copy c k) (seen c) ∙ ap (λ (y : CopyKey). has_copy c out || same_copy c y) (sym p) ∙ sym (has_more c out x)

pub one_greater : (out : List RemapEntry) (x : RemapEntry) (n : ℕ) → n ≡ greatest out → x.number ≡ n + 1 → n + 1 ≡ greatest (out ++ x ∷ [])
one_greater out x n e p = let m = greatest_more out x in omega (arith, m, e, p)

-- ---- copies one part after the other

pub extended_part : (cs ds : List CopyKey) (es : List RemapEntry) → extended (cs ++ ds) es ≡ option_and_then (extended ds) (extended cs es)
extended_part [] ds es = refl
extended_part (c ∷ cs) ds es = elim (cases_Bool (has_copy c es)) [
  | inl t ↦ rw t (extended_part cs ds es)
  | inr f ↦ elim (cases_Bool (nat_le 65535 (greatest es))) [
    | inl u ↦ rw (f, u) refl
    | inr u ↦ rw (f, u) (extended_part cs ds (with_copy c es))
  ]
]

-- the copies of the next thing come first among those that are left
module _ {X : Type 0} (f : X → List CopyKey) (xs : List X) (i : ℕ) (d : X) (l : i < length xs) (list : List RemapEntry) (o : Option (List RemapEntry)) (rest : extended (flat_map f (drop i xs)) list ≡ o) where
  split : option_and_then (extended (flat_map f (drop (i + 1) xs))) (extended (f (get_or xs i d)) list) ≡ o
  split =
      sym (extended_part (f (get_or xs i d)) (flat_map f (drop (i + 1) xs)) list)
      ∙ ap (λ (k : ℕ). extended (f (get_or xs i d) ++ flat_map f (drop k xs)) list) (sym (next i))
      ∙ ap (λ (ys : List X). extended (flat_map f ys) list) (sym (drop-cons xs i d l)) ∙ rest

  pub part_done : (longer : List RemapEntry) → extended (f (get_or xs i d)) list ≡ Some longer → extended (flat_map f (drop (i + 1) xs)) longer ≡ o
  part_done longer e = rw e at split

  pub part_full : extended (f (get_or xs i d)) list ≡ None → o ≡ None
  part_full e = sym (rw e at split)

  -- the keys are those of the next thing
  pub part_refused : (e : CopyFault) (keys : List CopyKey) (x : X) → keys ≡ f x → x ≡ get_or xs i d → (e ≡ NoMemory) ⊎ ((e ≡ Full) × (extended keys list ≡ None)) → (e ≡ NoMemory) ⊎ ((e ≡ Full) × (o ≡ None))
  part_refused e keys x k is (inl n) = inl n
  part_refused e keys x k is (inr p) = inr (p.0, part_full (ap (λ (cs : List CopyKey). extended cs list) (sym (k ∙ ap f is)) ∙ p.1))

-- ---- numbers by copy

pub number_more : (list : List RemapEntry) (i : ℕ) (d : RemapEntry) (c : CopyKey) (o : Option ℕ) → i < length list → unwrap_or o 0 ≡ number_in (take i list) c →
    unwrap_or (if same_copy (copied (get_or list i d)) c then Some (get_or list i d).number else o) 0 ≡ number_in (take (i + 1) list) c
number_more list i d c o l e =
    chosen (same_copy (copied (get_or list i d)) c) (get_or list i d).number o
    ∙ ap (λ (n : ℕ). if same_copy (copied (get_or list i d)) c then (get_or list i d).number else n) e
    ∙ sym (fold_more (λ (n : ℕ) (x : RemapEntry). if same_copy (copied x) c then x.number else n) 0 list i d l)
  where
    chosen : (t : Bool) (n : ℕ) (o : Option ℕ) → unwrap_or (if t then Some n else o) 0 ≡ (if t then n else unwrap_or o 0)
    chosen true n o = refl
    chosen false n o = refl
