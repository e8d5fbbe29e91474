-- What a group makes, one entity after the other.
use Rattle.std.proofs.Common.{◌≡◌, ◌⊎◌, inl, inr, ℕ, zero, suc, ◌+◌, ◌<◌, ◌≤◌, ℤ, List, [], ◌∷◌, ◌++◌, length, get_or, take, drop, map, Bool, true, false, not, Option, Some, None, Ok, Err, refl, sym, ap, ◌∙◌, subst, append_assoc, append-nil, drop-cons, arith}
use Rattle.std.specs.Prelude.{◌==◌, option_map}
use Rattle.std.specs.List.{filter, flat_map}
use Rattle.std.proofs.lemmas.Bool.Decides.{nat_tests}
use Rattle.std.proofs.lemmas.List.{take_more, take-append-drop, drop_all, map-append}
use Rattle.std.proofs.lemmas.List.Elements.{filter-append}
use Rattle.std.proofs.lemmas.Grind.{flat_map-append}
use Rattle.sk_num.specs.Each.{cons_if, each_some}
use Rattle.sk_types.specs.declared.entity.Entity.{Entity}
use Rattle.sk_types.specs.declared.group.Group.{Group}
use Rattle.sk_types.specs.declared.group.RemapEntry.{RemapEntry}
use Rattle.sk_types.specs.Kinds.{is_point}
use Rattle.sk_types.specs.Lists.{each_below, only_if}
use Rattle.sk_copy.specs.declared.fault.CopyFault.{CopyFault}
use Rattle.sk_copy.specs.declared.fault.CopyFault.TheVariants.{Full, PastLimit, NoMemory}
use Rattle.sk_copy.specs.Extended.{extended, number_in}
use Rattle.sk_copy.specs.Order.{by_handle}
use Rattle.sk_copy.specs.Wanted.{Move, copy_number, moves_from, times_of, wanted}
use Rattle.sk_copy.specs.Copies.{copies, first_point, made_by}

next : (i : ℕ) → suc i ≡ i + 1
next i = omega arith

pub other : (k n : ℕ) → (k ≡ n → ⊥) → not (k == n) ≡ true
other k n h = grind (arith, nat_tests, h)

pub kept_behind : {X : Type 0} (t : Bool) (old now xs : List X) → t ≡ true → now ≡ old ++ xs → now ≡ old ++ only_if t xs
kept_behind true old now xs t h = h
kept_behind false old now xs t h = cc t

pub two_more : {X : Type 0} (old one two : List X) (x y x' y' : X) → x ≡ x' → y ≡ y' → one ≡ old ++ x ∷ [] → two ≡ one ++ y ∷ [] → two ≡ old ++ x' ∷ y' ∷ []
two_more old one two x y x' y' e f p q = q ∙ ap (λ l. l ++ y ∷ []) p ∙ append_assoc old (x ∷ []) (y ∷ []) ∙ ap (λ z. old ++ z ∷ y ∷ []) e ∙ ap (λ z. old ++ x' ∷ z ∷ []) f

-- ---- things that are made of one thing after the other

module _ {X Y : Type 0} (f : X → List Y) (xs : List X) (i : ℕ) (d : X) (l : i < length xs) (is : d ≡ get_or xs i d) where
  pub flat_step : (old now new : List Y) → now ≡ old ++ flat_map f (take i xs) → new ≡ now ++ f d → new ≡ old ++ flat_map f (take (i + 1) xs)
  flat_step old now new h e =
      e ∙ ap (λ ys. ys ++ f d) h ∙ append_assoc old (flat_map f (take i xs)) (f d)
      ∙ ap (λ x. old ++ (flat_map f (take i xs) ++ f x)) is
      ∙ ap (λ ys. old ++ (flat_map f (take i xs) ++ ys)) (sym (append-nil (f (get_or xs i d))))
      ∙ ap (λ ys. old ++ ys) (sym (flat_map-append f (take i xs) (get_or xs i d ∷ [])))
      ∙ ap (λ ys. old ++ flat_map f ys) (sym (take_more xs i d l))

-- ---- the first point

module _ {s : ℕ} (xs : List (Entity s)) (i : ℕ) (d : Entity s) (l : i < length xs) (is : d ≡ get_or xs i d) where
  left : drop i xs ≡ d ∷ drop (i + 1) xs
  left = drop-cons xs i d l ∙ ap (λ x. x ∷ drop (suc i) xs) (sym is) ∙ ap (λ k. d ∷ drop k xs) (next i)

  pub point_here : is_point d.kind ≡ true → first_point (drop i xs) ≡ first_point xs → Some d.id ≡ first_point xs
  point_here p h = rw p at (ap first_point (sym left) ∙ h)

  pub point_later : is_point d.kind ≡ false → first_point (drop i xs) ≡ first_point xs → first_point (drop (i + 1) xs) ≡ first_point xs
  point_later p h = rw p at (ap first_point (sym left) ∙ h)

pub no_point : {s : ℕ} (xs : List (Entity s)) (i : ℕ) → length xs ≤ i → first_point (drop i xs) ≡ first_point xs → None ≡ first_point xs
no_point xs i l h = ap first_point (sym (drop_all i xs l)) ∙ h

-- ---- the copies of a translation

pub below_step : {X : Type 0} (f : ℕ → X) (i : ℕ) (old now new : List X) (x : X) → now ≡ old ++ each_below i f → new ≡ now ++ x ∷ [] → x ≡ f i → new ≡ old ++ each_below (i + 1) f
below_step f i old now new x h e p =
    e ∙ ap (λ ys. ys ++ x ∷ []) h ∙ append_assoc old (each_below i f) (x ∷ []) ∙ ap (λ y. old ++ (each_below i f ++ y ∷ [])) p ∙ ap (λ k. old ++ each_below k f) (next i)

map_below : {X Y : Type 0} (f : X → Y) (h : ℕ → X) (n : ℕ) → each_below n (λ i. f (h i)) ≡ map f (each_below n h)
map_below f h zero = refl
map_below f h (suc n) = ap (λ ys. ys ++ f (h n) ∷ []) (map_below f h n) ∙ sym (map-append f (each_below n h) (h n ∷ []))

pub moved_pair : (a b : ℕ) (t u : ℤ) → a ≡ b → t ≡ u → ◌≡◌ {A = ℕ × ℤ} (a, t) (b, u)
moved_pair a b t u e f = ap (λ x. (x, t)) e ∙ ap (λ y. (b, y)) f

-- the move of the k-th copy, where the copies end
abbrev pub move_at : ℕ → ℕ → Bool → ℕ → ℕ → Move
move_at first end two_sided n k = (copy_number end (first + k), times_of two_sided n (first + k))

pub all_moved : {X : Type 0} (f : Move → X) (old now : List X) (first from end i n : ℕ) (two_sided : Bool) → first ≡ from → end ≡ first + n → i ≡ n →
    now ≡ old ++ each_below i (λ k. f (move_at first end two_sided n k)) → now ≡ old ++ map f (moves_from from two_sided n)
all_moved f old now first from end i n two_sided p q r h =
    h ∙ ap (λ k. old ++ each_below k (λ k. f (move_at first end two_sided n k))) r
    ∙ ap (λ e. old ++ each_below n (λ k. f (move_at first e two_sided n k))) q
    ∙ ap (λ a. old ++ each_below n (λ k. f (move_at a (a + n) two_sided n k))) p
    ∙ ap (λ ys. old ++ ys) (map_below f (move_at from (from + n) two_sided n) n)

-- ---- linked copies

module _ {X Y : Type 0} (f : X → Option Y) where
  abbrev behind : List Y → Option (List Y) → Option (List Y)
  behind ys = option_map (λ zs. ys ++ zs)

  joined : (y : Y) (ys : List Y) (o : Option (List Y)) → option_map (λ zs. y ∷ zs) (behind ys o) ≡ behind (y ∷ ys) o
  joined y ys None = refl
  joined y ys (Some zs) = refl

  unchanged : (o : Option (List Y)) → o ≡ behind [] o
  unchanged None = refl
  unchanged (Some zs) = refl

  -- the first of them, then the others
  first_then : (y : Y) (ys : List Y) (o left all : Option (List Y)) → option_map (λ zs. y ∷ zs) o ≡ Some ys → ((zs : List Y) → o ≡ Some zs → all ≡ behind zs left) → option_map (λ zs. y ∷ zs) all ≡ behind ys left
  first_then y ys None left all h then = cc h
  first_then y ys (Some zs) left all h then =
      ap (option_map (λ us. y ∷ us)) (then zs refl) ∙ joined y zs left ∙ (let same : y ∷ zs ≡ ys = cc h in ap (λ us. behind us left) same)

  by_first : (o : Option Y) (ys : List Y) (now left all : Option (List Y)) → cons_if o now ≡ Some ys → ((zs : List Y) → now ≡ Some zs → all ≡ behind zs left) → cons_if o all ≡ behind ys left
  by_first None ys now left all h then = cc h
  by_first (Some y) ys now left all h then = first_then y ys now left all h then

  each_some_then : (vs bs : List X) (ys : List Y) → each_some f vs ≡ Some ys → each_some f (vs ++ bs) ≡ behind ys (each_some f bs)
  each_some_then [] bs ys h = (let e : [] ≡ ys = cc h in subst (λ (zs : List Y). each_some f bs ≡ behind zs (each_some f bs)) e (unchanged (each_some f bs)))
  each_some_then (v ∷ vs) bs ys h = by_first (f v) ys (each_some f vs) (each_some f bs) (each_some f (vs ++ bs)) h (λ zs e. each_some_then vs bs zs e)

  module _ (p : X → Bool) (xs : List X) (i : ℕ) (d : X) (l : i < length xs) (is : d ≡ get_or xs i d) (ys : List Y) (old : each_some f (filter p (take i xs)) ≡ Some ys) where
    more : filter p (take (i + 1) xs) ≡ filter p (take i xs) ++ filter p (d ∷ [])
    more = ap (filter p) (take_more xs i d l ∙ ap (λ x. take i xs ++ x ∷ []) (sym is)) ∙ filter-append p (take i xs) (d ∷ [])

    pub next_linked : (y : Y) (zs : List Y) → p d ≡ true → f d ≡ Some y → zs ≡ ys ++ y ∷ [] → each_some f (filter p (take (i + 1) xs)) ≡ Some zs
    next_linked y zs t e n = ap (each_some f) more ∙ each_some_then (filter p (take i xs)) (filter p (d ∷ [])) ys old ∙ rw (t, e) (ap Some (sym n))

    pub next_passed : p d ≡ false → each_some f (filter p (take (i + 1) xs)) ≡ Some ys
    next_passed t = ap (each_some f) more ∙ each_some_then (filter p (take i xs)) (filter p (d ∷ [])) ys old ∙ rw t (ap Some (append-nil ys))

    pub next_past : p d ≡ true → f d ≡ None → each_some f (filter p xs) ≡ None
    next_past t e =
        ap (λ zs. each_some f (filter p zs)) (sym (take-append-drop i xs) ∙ ap (λ zs. take i xs ++ zs) (drop-cons xs i d l ∙ ap (λ x. x ∷ drop (suc i) xs) (sym is)))
        ∙ ap (each_some f) (filter-append p (take i xs) (d ∷ drop (suc i) xs))
        ∙ each_some_then (filter p (take i xs)) (filter p (d ∷ drop (suc i) xs)) ys old ∙ rw (t, e) refl

    pub past_if : (e : CopyFault) → p d ≡ true → (e ≡ NoMemory) ⊎ ((e ≡ PastLimit) × (f d ≡ None)) → (e ≡ NoMemory) ⊎ ((e ≡ PastLimit) × (each_some f (filter p xs) ≡ None))
    past_if e t (inl n) = inl n
    past_if e t (inr q) = inr (q.0, next_past t q.1)

-- ---- the whole

-- the list is read, extended, and read again
module _ {s : ℕ} (g : Group s) (list seen : List RemapEntry) (es : List (Entity s)) (same : seen ≡ list) where
  pub full_refused : (f : CopyFault) → (f ≡ NoMemory) ⊎ ((f ≡ Full) × (extended (wanted g es) seen ≡ None)) → (f ≡ NoMemory) ⊎ (copies g list es ≡ Err f)
  unfolding copies
  full_refused f (inl n) = inl n
  full_refused f (inr p) = inr (rw (ap (extended (wanted g es)) (sym same) ∙ p.1, p.0) refl)

  module _ (longer read : List RemapEntry) (extends : extended (wanted g es) seen ≡ Some longer) (again : read ≡ longer) where
    whole : extended (wanted g es) list ≡ Some longer
    whole = ap (extended (wanted g es)) (sym same) ∙ extends

    over : made_by g.kind g (number_in longer) es ≡ made_by g.kind g (number_in read) es
    over = ap (λ (l : List RemapEntry). made_by g.kind g (number_in l) es) (sym again)

    pub past_refused : (f : CopyFault) → (f ≡ NoMemory) ⊎ ((f ≡ PastLimit) × (made_by g.kind g (number_in read) es ≡ None)) → (f ≡ NoMemory) ⊎ (copies g list es ≡ Err f)
    unfolding copies
    past_refused f (inl n) = inl n
    past_refused f (inr p) = inr (rw (whole, over ∙ p.1, p.0) refl)

    pub all_done : (made entities : List (Entity s)) → made_by g.kind g (number_in read) es ≡ Some made → entities ≡ by_handle made → copies g list es ≡ Ok (record { list = longer; entities = entities })
    unfolding copies
    all_done made entities e p = rw (whole, over ∙ e, p) refl
