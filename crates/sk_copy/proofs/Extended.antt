-- Remap lists that are extended.
use Rattle.std.proofs.Common.{◌≡◌, inl, inr, ℕ, ◌+◌, ◌≤◌, ◌<◌, List, [], ◌∷◌, ◌++◌, length, true, false, nat_eq, nat_le, Some, None, refl, sym, ap, ◌∙◌, subst, arith}
use Rattle.std.specs.List.{All, IsDistinct, list_any}
use Rattle.std.specs.Cmp.{nat_eq_equiv}
use Rattle.std.proofs.lemmas.Bool.Decides.{nat_tests}
use Rattle.std.proofs.lemmas.List.Elements.{All-push}
use Rattle.std.proofs.lemmas.Map.Keys.{IsDistinct-push}
use Rattle.std.proofs.lemmas.Bool.{cases_Bool, leb-false, eq-eqb}
use Rattle.std.proofs.lemmas.List.{append_assoc, length-append, append-nil, map-append}
use Rattle.std.proofs.Math.Nat.{le-max_left, le-max_right}
use Rattle.sk_types.specs.declared.group.RemapEntry.{RemapEntry}
use Rattle.sk_types.specs.Copies.{CopyKey, copied, same_copy, copies_in}
use Rattle.sk_copy.specs.Extended.{greatest, has_copy, with_copy, extended, numbers_in}
use Rattle.sk_copy.specs.Laws.{ExtendedLaw, IsList}
use Rattle.sk_copy.proofs.Apart.{apart}
use Rattle.sk_copy.proofs.Listing.{same_is, same_copy_equiv}

-- one copy of the list is looked at after the other
by_copy : {P : Type 0} (c : CopyKey) (cs : List CopyKey) (es fs : List RemapEntry) → extended (c ∷ cs) es ≡ Some fs
    → (has_copy c es ≡ true → extended cs es ≡ Some fs → P) → (has_copy c es ≡ false → greatest es < 65535 → extended cs (with_copy c es) ≡ Some fs → P) → P
by_copy c cs es fs e old new = elim (cases_Bool (has_copy c es)) [
  | inl t ↦ old t (rw t at e)
  | inr f ↦ elim (cases_Bool (nat_le 65535 (greatest es))) [
    | inl u ↦ (let no : None ≡ Some fs = rw (f, u) at e in cc no)
    | inr u ↦ (let more : extended cs (with_copy c es) ≡ Some fs = rw (f, u) at e in let few = leb-false 65535 (greatest es) u in new f (omega (arith, few)) more)
  ]
]

pub behind : (cs : List CopyKey) (es fs : List RemapEntry) → extended cs es ≡ Some fs → (more : List RemapEntry) × (fs ≡ es ++ more)
behind [] es fs e = ([], (let same : es ≡ fs = cc in sym same ∙ sym (append-nil es)))
behind (c ∷ cs) es fs e = by_copy c cs es fs e (λ t more. behind cs es fs more) (λ f few more.
    (let b = behind cs (with_copy c es) fs more in (record { number = 1 + greatest es; source = record { 0 = c.0 }; copy = c.1 } ∷ b.0, b.1 ∙ append_assoc es (record { number = 1 + greatest es; source = record { 0 = c.0 }; copy = c.1 } ∷ []) b.0)))

has-append : (c : CopyKey) (es fs : List RemapEntry) → has_copy c es ≡ true → has_copy c (es ++ fs) ≡ true
has-append c [] fs e = cc
has-append c (x ∷ es) fs e = elim (cases_Bool (same_copy c (copied x))) [
  | inl t ↦ rw t refl
  | inr f ↦ rw f (has-append c es fs (rw f at e))
]

has_last : (c : CopyKey) (es : List RemapEntry) (n : ℕ) → has_copy c (es ++ record { number = n; source = record { 0 = c.0 }; copy = c.1 } ∷ []) ≡ true
has_last c [] n = rw (eq-eqb c.0 c.0 refl, eq-eqb c.1 c.1 refl) refl
has_last c (x ∷ es) n = elim (cases_Bool (same_copy c (copied x))) [
  | inl t ↦ rw t refl
  | inr f ↦ rw f (has_last c es n)
]

has_kept : (c : CopyKey) (cs : List CopyKey) (es fs : List RemapEntry) → has_copy c es ≡ true → extended cs es ≡ Some fs → has_copy c fs ≡ true
has_kept c cs es fs h e = let b = behind cs es fs e in subst (λ (x : List RemapEntry). has_copy c x ≡ true) (sym b.1) (has-append c es b.0 h)

abbrev pub AllHave : List CopyKey → List RemapEntry → Type 0
AllHave [] es = Unit {0}
AllHave (c ∷ cs) es = (has_copy c es ≡ true) × AllHave cs es

pub all_have : (cs : List CopyKey) (es fs : List RemapEntry) → extended cs es ≡ Some fs → AllHave cs fs
all_have [] es fs e = tt
all_have (c ∷ cs) es fs e = by_copy c cs es fs e
    (λ t more. (has_kept c cs es fs t more, all_have cs es fs more))
    (λ f few more. (has_kept c cs (with_copy c es) fs (has_last c es (1 + greatest es)) more, all_have cs (with_copy c es) fs more))

none_new : (cs : List CopyKey) (es : List RemapEntry) → AllHave cs es → extended cs es ≡ Some es
none_new [] es a = refl
none_new (c ∷ cs) es a = rw a.0 (none_new cs es a.1)

pub again : (cs : List CopyKey) (es fs : List RemapEntry) → extended cs es ≡ Some fs → extended cs fs ≡ Some fs
again cs es fs e = none_new cs fs (all_have cs es fs e)

no_more : (more : List RemapEntry) (n : ℕ) → n + length more ≤ n → more ≡ []
no_more [] n e = refl
no_more (x ∷ xs) n e = absurd (omega (arith, e))

pub same : (cs : List CopyKey) (es fs : List RemapEntry) → extended cs es ≡ Some fs → length fs ≤ length es → fs ≡ es
same cs es fs e few =
    let b = behind cs es fs e in
    let len : length es + length b.0 ≤ length es = subst (λ (k : ℕ). k ≤ length es) (ap length b.1 ∙ length-append es b.0) few in
    b.1 ∙ ap (λ (l : List RemapEntry). es ++ l) (no_more b.0 (length es) len) ∙ append-nil es

-- ---- what stays apart

abbrev added : CopyKey → List RemapEntry → RemapEntry
added c es = record { number = 1 + greatest es; source = record { 0 = c.0 }; copy = c.1 }

not_there : (n : ℕ) (es : List RemapEntry) → greatest es < n → list_any (nat_eq n) (numbers_in es) ≡ false
not_there n [] l = refl
not_there n (e ∷ es) l =
    let least = le-max_left e.number (greatest es) in
    let rest = le-max_right e.number (greatest es) in
    let differ : nat_eq n e.number ≡ false = grind (arith, nat_tests, l, least) in
    rw differ (not_there n es (omega (arith, l, rest)))

all_more : (P : ℕ → Type 0) (es : List RemapEntry) (e : RemapEntry) → All P (numbers_in es) → P e.number → All P (numbers_in (es ++ e ∷ []))
all_more P es e h p = subst (λ (ns : List ℕ). All P ns) (sym (map-append (λ (x : RemapEntry). x.number) es (e ∷ []))) (All-push P (numbers_in es) e.number h p)

one_more : (c : CopyKey) (es : List RemapEntry) → has_copy c es ≡ false → greatest es < 65535 → IsList es → IsList (with_copy c es)
one_more c es new few h = record {
  least = all_more (λ n. 1 ≤ n) es (added c es) h.least (omega arith);
  most = all_more (λ n. n ≤ 65535) es (added c es) h.most (omega (arith, few));
  numbers_differ =
      subst (λ (ns : List ℕ). IsDistinct nat_eq ns) (sym (map-append (λ (x : RemapEntry). x.number) es (added c es ∷ [])))
      (IsDistinct-push nat_eq_equiv (numbers_in es) (1 + greatest es) h.numbers_differ (not_there (1 + greatest es) es (omega arith)));
  copies_differ =
      subst (λ (cs : List CopyKey). IsDistinct same_copy cs) (sym (map-append copied es (added c es ∷ [])))
      (IsDistinct-push same_copy_equiv (copies_in es) c h.copies_differ new);
}

pub stays_list : (cs : List CopyKey) (es fs : List RemapEntry) → extended cs es ≡ Some fs → IsList es → IsList fs
stays_list [] es fs e h = (let same : es ≡ fs = cc in subst IsList same h)
stays_list (c ∷ cs) es fs e h = by_copy c cs es fs e (λ t more. stays_list cs es fs more h) (λ f few more. stays_list cs (with_copy c es) fs more (one_more c es f few h))

found_in : (cs : List CopyKey) (fs : List RemapEntry) (c : CopyKey) → AllHave cs fs → list_any (same_copy c) cs ≡ true → has_copy c fs ≡ true
found_in [] fs c a h = cc
found_in (d ∷ cs) fs c a h = elim (cases_Bool (same_copy c d)) [
  | inl t ↦ subst (λ (k : CopyKey). has_copy k fs ≡ true) (sym (same_is c d t)) a.0
  | inr f ↦ found_in cs fs c a.1 (rw f at h)
]

pub extended_law : ExtendedLaw
extended_law = record {
  behind = behind;
  all = λ cs es fs c e h. found_in cs fs c (all_have cs es fs e) h;
  again = again;
  same = same;
  list = stays_list;
  apart = λ c d es l h i e. apart c d es l.numbers_differ h i e;
}
