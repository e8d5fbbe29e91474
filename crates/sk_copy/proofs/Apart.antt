-- Copies of one list that differ have different numbers.
use Rattle.std.proofs.Common.{◌≡◌, ◌⊎◌, inl, inr, ℕ, List, [], ◌∷◌, Bool, true, false, nat_eq, refl, sym, ap, ◌∙◌, subst, arith}
use Rattle.std.specs.Prelude.{if◌then◌else◌}
use Rattle.std.specs.List.{AllByRecursion, IsDistinct, fold}
use Rattle.std.proofs.lemmas.Bool.{cases_Bool}
use Rattle.sk_types.specs.declared.group.RemapEntry.{RemapEntry}
use Rattle.sk_types.specs.Copies.{CopyKey, copied, same_copy}
use Rattle.sk_copy.specs.Extended.{has_copy, number_in, numbers_in}
use Rattle.sk_copy.proofs.Listing.{same_is}

abbrev chosen : CopyKey → ℕ → RemapEntry → ℕ
chosen c n e = if same_copy (copied e) c then e.number else n

-- an entry of the copy has the number
abbrev Has : CopyKey → ℕ → List RemapEntry → Type 0
Has c n [] = false ≡ true
Has c n (e ∷ es) = ((copied e ≡ c) × (e.number ≡ n)) ⊎ Has c n es

eq_self : (n : ℕ) → nat_eq n n ≡ true
eq_self n = grind arith

same_self : (c : CopyKey) → same_copy c c ≡ true
same_self c = rw (eq_self c.0, eq_self c.1) refl

kept : (c : CopyKey) (n : ℕ) (es : List RemapEntry) → has_copy c es ≡ false → fold (chosen c) n es ≡ n
kept c n [] h = refl
kept c n (e ∷ es) h = elim (cases_Bool (same_copy c (copied e))) [
  | inl t ↦ (let no : true ≡ false = rw t at h in cc no)
  | inr f ↦ elim (cases_Bool (same_copy (copied e) c)) [
    | inl t ↦ (let is = same_is (copied e) c t in let yes : same_copy c (copied e) ≡ true = subst (λ (x : CopyKey). same_copy c x ≡ true) (sym is) (same_self c) in let no : true ≡ false = sym yes ∙ f in cc no)
    | inr g ↦ rw g (kept c n es (rw f at h))
  ]
]

found : (c : CopyKey) (n : ℕ) (es : List RemapEntry) → has_copy c es ≡ true → Has c (fold (chosen c) n es) es
found c n [] h = h
found c n (e ∷ es) h = elim (cases_Bool (has_copy c es)) [
  | inl t ↦ inr (found c (chosen c n e) es t)
  | inr f ↦ elim (cases_Bool (same_copy c (copied e))) [
    | inl t ↦ (let is : c ≡ copied e = same_is c (copied e) t in
        let same : same_copy (copied e) c ≡ true = subst (λ (x : CopyKey). same_copy (copied e) x ≡ true) (sym is) (same_self (copied e)) in
        inl (sym is, sym (kept c (chosen c n e) es f ∙ ap (λ (b : Bool). if b then e.number else n) same)))
    | inr g ↦ (let no : false ≡ true = rw (g, f) at h in cc no)
  ]
]

not_there : (d : CopyKey) (m n : ℕ) (es : List RemapEntry) → AllByRecursion (λ (k : ℕ). nat_eq m k ≡ false) (numbers_in es) → Has d n es → m ≡ n → false ≡ true
not_there d m n [] a h e = h
not_there d m n (x ∷ es) a (inl p) e = (let differ = a.0 in let same = p.1 in absurd (grind (arith, differ, same, e)))
not_there d m n (x ∷ es) a (inr p) e = not_there d m n es a.1 p e

unique : (c d : CopyKey) (n : ℕ) (es : List RemapEntry) → IsDistinct nat_eq (numbers_in es) → Has c n es → Has d n es → c ≡ d
unfolding IsDistinct
unique c d n [] k h i = cc
unique c d n (e ∷ es) k (inl p) (inl q) = sym p.0 ∙ q.0
unique c d n (e ∷ es) k (inl p) (inr q) = (let no = not_there d e.number n es k.0 q p.1 in cc no)
unique c d n (e ∷ es) k (inr p) (inl q) = (let no = not_there c e.number n es k.0 p q.1 in cc no)
unique c d n (e ∷ es) k (inr p) (inr q) = unique c d n es k.1 p q

pub apart : (c d : CopyKey) (es : List RemapEntry) → IsDistinct nat_eq (numbers_in es) → has_copy c es ≡ true → has_copy d es ≡ true → number_in es c ≡ number_in es d → c ≡ d
apart c d es k h i e = unique c d (number_in es d) es k (subst (λ (n : ℕ). Has c n es) e (found c 0 es h)) (found d 0 es i)
