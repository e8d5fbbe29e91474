-- Lists that are set where they grew, group by group.
use Rattle.std.proofs.Common.{◌≡◌, inl, inr, ℕ, ◌≤◌, List, [], ◌∷◌, length, map, true, false, nat_eq, Some, refl, sym, ap, ◌∙◌, subst}
use Rattle.std.specs.Prelude.{if◌then◌else◌}
use Rattle.std.specs.List.{AllByRecursion, IsDistinct}
use Rattle.std.proofs.lemmas.Bool.{cases_Bool, eq-eqb, eqb-true, ltb-false}
use Rattle.sk_types.specs.declared.group.Group.{Group}
use Rattle.sk_types.specs.declared.group.RemapEntry.{RemapEntry}
use Rattle.sk_model.specs.declared.remap.GroupList.{GroupList}
use Rattle.sk_model.specs.Changes.{grew, list_handle, list_in, with_list, with_lists, with_remap}
use Rattle.sk_model.specs.Typed.{group_handle}
use Rattle.sk_chain.specs.Lookups.{group_at}
use Rattle.sk_chain.proofs.Distinct.{eq_flips}

-- the list of the group with the handle among lists, or what there was
abbrev pub list_for : ℕ → List RemapEntry → List GroupList → List RemapEntry
list_for n list [] = list
list_for n list (x ∷ xs) = if nat_eq n x.group.0 then x.entries else list_for n list xs

abbrev pub relist : {s : ℕ} → List GroupList → Group s → Group s
relist xs g = record g { remap = list_for g.id.0 g.remap xs }

-- a list that isn't longer than the one that its group has is that list
abbrev pub Fits : {s : ℕ} → List (Group s) → GroupList → Type 0
Fits gs x = length x.entries ≤ length (list_in x.group.0 gs) → x.entries ≡ list_in x.group.0 gs

not_among : (n : ℕ) (list : List RemapEntry) (xs : List GroupList) → AllByRecursion (λ k. nat_eq n k ≡ false) (map list_handle xs) → list_for n list xs ≡ list
not_among n list [] d = refl
not_among n list (x ∷ xs) d = rw d.0 (not_among n list xs d.1)

module _ {s : ℕ} where
  abbrev AreApart : List (Group s) → Type 0
  AreApart gs = IsDistinct nat_eq (map group_handle gs)

  abbrev one : GroupList → Group s → Group s
  one x g = relist (x ∷ []) g

  others : (x : GroupList) (n : ℕ) (gs : List (Group s)) → nat_eq n x.group.0 ≡ true → AllByRecursion (λ k. nat_eq n k ≡ false) (map group_handle gs) → map (one x) gs ≡ gs
  others x n [] e d = refl
  others x n (g ∷ gs) e d =
      let is : n ≡ x.group.0 = eqb-true n x.group.0 e in
      let off : nat_eq g.id.0 x.group.0 ≡ false = subst (λ k. nat_eq g.id.0 k ≡ false) is (eq_flips n g.id.0 d.0) in
      rw off (ap (λ hs. g ∷ hs) (others x n gs e d.1))

  set_one : (x : GroupList) (gs : List (Group s)) → AreApart gs → with_remap x.group.0 x.entries gs ≡ map (one x) gs
  unfolding IsDistinct
  set_one x [] d = refl
  set_one x (g ∷ gs) d = elim (cases_Bool (nat_eq x.group.0 g.id.0)) [
    | inl t ↦
        let is : x.group.0 ≡ g.id.0 = eqb-true x.group.0 g.id.0 t in
        let back : nat_eq g.id.0 x.group.0 ≡ true = eq-eqb g.id.0 x.group.0 (sym is) in
        rw (t, back) (ap (λ hs. record g { remap = x.entries } ∷ hs) (sym (others x g.id.0 gs back d.0)))
    | inr f ↦ rw (f, eq_flips x.group.0 g.id.0 f) (ap (λ hs. g ∷ hs) (set_one x gs d.1))
  ]

  -- a list that isn't set is there already
  kept_one : (x : GroupList) (gs : List (Group s)) → AreApart gs → x.entries ≡ list_in x.group.0 gs → gs ≡ map (one x) gs
  unfolding IsDistinct
  kept_one x [] d e = refl
  kept_one x (g ∷ gs) d e = elim (cases_Bool (nat_eq x.group.0 g.id.0)) [
    | inl t ↦
        let is : x.group.0 ≡ g.id.0 = eqb-true x.group.0 g.id.0 t in
        let back : nat_eq g.id.0 x.group.0 ≡ true = eq-eqb g.id.0 x.group.0 (sym is) in
        let level : x.entries ≡ g.remap = rw t at e in
        rw back (ap (λ (l : List RemapEntry). record g { remap = l } ∷ gs) (sym level) ∙ ap (λ hs. record g { remap = x.entries } ∷ hs) (sym (others x g.id.0 gs back d.0)))
    | inr f ↦ rw (eq_flips x.group.0 g.id.0 f) (ap (λ hs. g ∷ hs) (kept_one x gs d.1 (rw f at e)))
  ]

  with_one : (x : GroupList) (gs : List (Group s)) → AreApart gs → Fits gs x → with_list x gs ≡ map (one x) gs
  with_one x gs d fits = elim (cases_Bool (grew x gs)) [
    | inl t ↦ rw t (set_one x gs d)
    | inr f ↦ rw f (kept_one x gs d (fits (ltb-false (length (list_in x.group.0 gs)) (length x.entries) f)))
  ]

  -- ---- lists one after the other

  handles_same : (xs : List GroupList) (gs : List (Group s)) → map group_handle (map (relist xs) gs) ≡ map group_handle gs
  handles_same xs [] = refl
  handles_same xs (g ∷ gs) = ap (λ ks. g.id.0 ∷ ks) (handles_same xs gs)

  in_others : (x : GroupList) (n : ℕ) (gs : List (Group s)) → nat_eq x.group.0 n ≡ false → list_in n (map (one x) gs) ≡ list_in n gs
  in_others x n [] f = refl
  in_others x n (g ∷ gs) f = elim (cases_Bool (nat_eq n g.id.0)) [
    | inl t ↦
        let is : n ≡ g.id.0 = eqb-true n g.id.0 t in
        let off : nat_eq g.id.0 x.group.0 ≡ false = subst (λ k. nat_eq k x.group.0 ≡ false) is (eq_flips x.group.0 n f) in
        rw (t, off) refl
    | inr u ↦ rw u (in_others x n gs f)
  ]

  fit_others : (x : GroupList) (gs : List (Group s)) (xs : List GroupList) → AllByRecursion (λ k. nat_eq x.group.0 k ≡ false) (map list_handle xs) → AllByRecursion (Fits gs) xs → AllByRecursion (Fits (map (one x) gs)) xs
  fit_others x gs [] d h = tt
  fit_others x gs (y ∷ ys) d h = (let is = in_others x y.group.0 gs d.0 in λ l. h.0 (subst (λ (list : List RemapEntry). length y.entries ≤ length list) is l) ∙ sym is, fit_others x gs ys d.1 h.1)

  after_one : (x : GroupList) (xs : List GroupList) (g : Group s) → AllByRecursion (λ k. nat_eq x.group.0 k ≡ false) (map list_handle xs) → relist xs (one x g) ≡ relist (x ∷ xs) g
  after_one x xs g d = elim (cases_Bool (nat_eq g.id.0 x.group.0)) [
    | inl t ↦
        let is : g.id.0 ≡ x.group.0 = eqb-true g.id.0 x.group.0 t in
        let off = subst (λ n. AllByRecursion (λ k. nat_eq n k ≡ false) (map list_handle xs)) (sym is) d in
        rw t (ap (λ (l : List RemapEntry). record g { remap = l }) (not_among g.id.0 x.entries xs off))
    | inr f ↦ rw f refl
  ]

  after_all : (x : GroupList) (xs : List GroupList) (gs : List (Group s)) → AllByRecursion (λ k. nat_eq x.group.0 k ≡ false) (map list_handle xs) → map (relist xs) (map (one x) gs) ≡ map (relist (x ∷ xs)) gs
  after_all x xs [] d = refl
  after_all x xs (g ∷ gs) d = ap (λ (h : Group s). h ∷ map (relist xs) (map (one x) gs)) (after_one x xs g d) ∙ ap (λ hs. relist (x ∷ xs) g ∷ hs) (after_all x xs gs d)

  nothing_set : (gs : List (Group s)) → gs ≡ map (relist []) gs
  nothing_set [] = refl
  nothing_set (g ∷ gs) = ap (λ hs. g ∷ hs) (nothing_set gs)

  pub with_all : (xs : List GroupList) (gs : List (Group s)) → IsDistinct nat_eq (map list_handle xs) → AreApart gs → AllByRecursion (Fits gs) xs → with_lists xs gs ≡ map (relist xs) gs
  unfolding IsDistinct
  with_all [] gs d a h = nothing_set gs
  with_all (x ∷ xs) gs d a h =
      ap (with_lists xs) (with_one x gs a h.0)
      ∙ with_all xs (map (one x) gs) d.1 (subst (IsDistinct nat_eq) (sym (handles_same (x ∷ []) gs)) a) (fit_others x gs xs d.0 h.1)
      ∙ after_all x xs gs d.0

  -- the list of a group that is found
  pub in_found : (n : ℕ) (gs : List (Group s)) (g : Group s) → group_at n gs ≡ Some g → list_in n gs ≡ g.remap
  in_found n [] g h = cc h
  in_found n (x ∷ xs) g h = elim (cases_Bool (nat_eq n x.id.0)) [
    | inl t ↦ (let some : Some x ≡ Some g = rw t at h in let is : x ≡ g = cc some in rw t (ap (λ (y : Group s). y.remap) is))
    | inr f ↦ rw f (in_found n xs g (rw f at h))
  ]
