-- A thing goes into its place among others: the definition's place is that of a tree of keys.
use Rattle.std.proofs.Common.{◌≡◌, inl, inr, ℕ, ℤ, ◌+◌, ◌<◌, ◌≤◌, List, [], ◌∷◌, ◌++◌, length, get_or, take, map, Bool, true, false, not, nat_eq, nat_lt, refl, ap, ◌∙◌, append-nil, arith}
use Rattle.std.specs.Prelude.{◌==◌, int_lt, if◌then◌else◌}
use Rattle.std.specs.Ordering.{nat_cmp, int_cmp, bool_cmp, ordering_then, match_ordering}
use Rattle.std.specs.declared.cmp.Ordering.{Ordering}
use Rattle.std.specs.declared.cmp.Ordering.TheVariants.{Less, Greater}
use Rattle.std.specs.BTreeSet.{insert_key}
use Rattle.std.specs.List.{AllByRecursion, IsDistinct, fold}
use Rattle.std.proofs.lemmas.List.{length-map, take_all}
use Rattle.sk_chain.specs.Known.{place_handle}
use Rattle.std.proofs.lemmas.List.Sums.{fold_more}
use Rattle.sk_types.specs.declared.handle.GroupId.{GroupId}
use Rattle.sk_types.specs.declared.group.Group.{Group}
use Rattle.sk_model.specs.Typed.{group_handle}
use Rattle.sk_copy.specs.Order.{put_in, in_order}
use Rattle.sk_chain.specs.Order.{comes_before, groups_in_order, group_order}
use Rattle.sk_chain.proofs.InOrder.{all_put, all_onto}
use Rattle.sk_chain.proofs.Distinct.{two, IsApart, apart_before, eq_flips, to_keys, from_keys}

-- an order of keys and an order of the things that have them agree, at things that are apart
module _ {T K : Type 0} (key : T → K) (cmp : K → K → Ordering) (before : T → T → Bool) (kept : T → ℕ) (agree : (x y : T) → IsApart kept x y → cmp (key x) (key y) ≡ (if before x y then Less else Greater)) where
  placed : {X : Type 0} (t : Bool) (a b c : X) → match_ordering (if t then Less else Greater) a b c ≡ (if t then a else c)
  placed true a b c = refl
  placed false a b c = refl

  mapped : {X : Type 0} (f : T → X) (t : Bool) (xs ys : List T) → (if t then map f xs else map f ys) ≡ map f (if t then xs else ys)
  mapped f true xs ys = refl
  mapped f false xs ys = refl

  key_put : (x : T) (ys : List T) → AllByRecursion (IsApart kept x) ys → insert_key cmp (map key ys) (key x) ≡ map key (put_in before x ys)
  key_put x [] h = refl
  key_put x (y ∷ ys) h = rw (agree x y h.0, placed, key_put x ys h.1) (mapped key (before x y) (x ∷ y ∷ ys) (y ∷ put_in before x ys))

  distinct_if : (t : Bool) (xs ys : List T) → IsDistinct nat_eq (map kept xs) → IsDistinct nat_eq (map kept ys) → IsDistinct nat_eq (map kept (if t then xs else ys))
  distinct_if true xs ys h k = h
  distinct_if false xs ys h k = k

  distinct_put : (x : T) (ys : List T) → AllByRecursion (IsApart kept x) ys → IsDistinct nat_eq (map kept ys) → IsDistinct nat_eq (map kept (put_in before x ys))
  unfolding IsDistinct
  distinct_put x [] h d = (tt, tt)
  distinct_put x (y ∷ ys) h d =
      distinct_if (before x y) (x ∷ y ∷ ys) (y ∷ put_in before x ys) (to_keys kept x (y ∷ ys) h, d)
      (to_keys kept y (put_in before x ys) (all_put (IsApart kept y) before x ys (eq_flips (kept x) (kept y) h.0) (from_keys kept y ys d.0)), distinct_put x ys h.1 d.1)

  -- what is apart from all that is in order, and from x, is apart from all with x in its place
  crossed : (x : T) (ys xs : List T) → AllByRecursion (λ z. AllByRecursion (IsApart kept z) ys) xs → AllByRecursion (IsApart kept x) xs → AllByRecursion (λ z. AllByRecursion (IsApart kept z) (put_in before x ys)) xs
  crossed x ys [] h k = tt
  crossed x ys (z ∷ xs) h k = (all_put (IsApart kept z) before x ys (eq_flips (kept x) (kept z) k.0) h.0, crossed x ys xs h.1 k.1)

  distinct_onto : (ys xs : List T) → IsDistinct nat_eq (map kept ys) → IsDistinct nat_eq (map kept xs) → AllByRecursion (λ z. AllByRecursion (IsApart kept z) ys) xs → IsDistinct nat_eq (map kept (fold (λ zs x. put_in before x zs) ys xs))
  unfolding IsDistinct
  distinct_onto ys [] d e h = d
  distinct_onto ys (x ∷ xs) d e h = distinct_onto (put_in before x ys) xs (distinct_put x ys h.0 d) e.1 (crossed x ys xs h.1 (from_keys kept x xs e.0))

  all_nothing : (xs : List T) → AllByRecursion (λ z. AllByRecursion (IsApart kept z) []) xs
  all_nothing [] = tt
  all_nothing (x ∷ xs) = (tt, all_nothing xs)

  pub in_order_distinct : (xs : List T) → IsDistinct nat_eq (map kept xs) → IsDistinct nat_eq (map kept (in_order before xs))
  unfolding IsDistinct in_order
  in_order_distinct xs d = distinct_onto [] xs tt d (all_nothing xs)

  -- one more thing in order, by its key alone, and with its key
  pub keys_step : (xs : List T) (i : ℕ) (d : T) (ks ks' : List K) → IsDistinct nat_eq (map kept xs) → i < length xs →
      ks ≡ map key (in_order before (take i xs)) → ks' ≡ insert_key cmp ks (key (get_or xs i d)) → ks' ≡ map key (in_order before (take (i + 1) xs))
  unfolding in_order
  keys_step xs i d ks ks' h l e p =
      p ∙ rw (e, fold_more (λ ys x. put_in before x ys) [] xs i d l) (key_put (get_or xs i d) (in_order before (take i xs)) (all_onto (IsApart kept (get_or xs i d)) before [] (take i xs) tt (apart_before kept xs i d h l)))

-- ---- groups by rank

abbrev pub Rank : Type 0
Rank = Bool × ℤ × ℕ

abbrev pub rank_of : {s : ℕ} → Group s → Rank
rank_of g = (not (g.id.0 == 1), g.order, g.id.0)

abbrev pub rank_cmp : Rank → Rank → Ordering
rank_cmp p q = ordering_then (ordering_then (bool_cmp p.0 q.0) (int_cmp p.1 q.1)) (nat_cmp p.2 q.2)

nat_ranked : (n m : ℕ) → nat_eq n m ≡ false → nat_cmp n m ≡ (if nat_lt n m then Less else Greater)
nat_ranked n m e = rw e refl

int_ranked : (p q : ℤ) (o : Ordering) (t : Bool) → o ≡ (if t then Less else Greater) → ordering_then (int_cmp p q) o ≡ (if (if int_lt p q then true else if int_lt q p then false else t) then Less else Greater)
int_ranked p q o t e = elim (two (int_lt p q)) [
  | inl u ↦ rw u refl
  | inr u ↦ elim (two (int_lt q p)) [ inl v ↦ rw (u, v) refl | inr v ↦ rw (u, v) e ]
]

pub rank_agrees : {s : ℕ} (g h : Group s) → IsApart group_handle g h → rank_cmp (rank_of g) (rank_of h) ≡ (if comes_before g h then Less else Greater)
rank_agrees g h e = elim (two (h.id.0 == 1)) [
  | inl b ↦ elim (two (g.id.0 == 1)) [ inl a ↦ absurd (grind (arith, e, a, b)) | inr a ↦ rw (a, b) refl ]
  | inr b ↦ elim (two (g.id.0 == 1)) [
    | inl a ↦ rw (a, b) refl
    | inr a ↦ rw (a, b) (int_ranked g.order h.order (nat_cmp g.id.0 h.id.0) (nat_lt g.id.0 h.id.0) (nat_ranked g.id.0 h.id.0 e))
  ]
]

-- ---- what is read out of the trees

ids_mapped : {s : ℕ} (gs : List (Group s)) → map (λ (r : Rank). record { 0 = r.2 }) (map rank_of gs) ≡ map (λ g. g.id) gs
ids_mapped [] = refl
ids_mapped (g ∷ gs) = ap (λ ids. g.id ∷ ids) (ids_mapped gs)

pub ids_of_ranks : {s : ℕ} (gs : List (Group s)) (i : ℕ) (ks : List Rank) → ks ≡ map rank_of (groups_in_order (take i gs)) → length gs ≤ i → map (λ (r : Rank). record { 0 = r.2 }) ks ≡ group_order gs
ids_of_ranks gs i ks e l = rw (e, take_all i gs l) (ids_mapped (groups_in_order gs))

places_mapped : {s : ℕ} (gs : List (Group s)) → map place_handle (map (λ g. g.id) gs) ≡ map group_handle gs
places_mapped [] = refl
places_mapped (g ∷ gs) = ap (λ ns. g.id.0 ∷ ns) (places_mapped gs)

pub groups_distinct : {s : ℕ} (gs : List (Group s)) → IsDistinct nat_eq (map group_handle gs) → IsDistinct nat_eq (map group_handle (groups_in_order gs))
groups_distinct gs d = in_order_distinct rank_of rank_cmp comes_before group_handle rank_agrees gs d

pub order_distinct : {s : ℕ} (gs : List (Group s)) → IsDistinct nat_eq (map group_handle gs) → IsDistinct nat_eq (map place_handle (group_order gs))
order_distinct gs d = rw (places_mapped (groups_in_order gs)) (groups_distinct gs d)

pub order_read_distinct : {s : ℕ} (gs : List (Group s)) (order : List GroupId) (left : List Rank) → IsDistinct nat_eq (map group_handle gs) → order ++ map (λ (r : Rank). record { 0 = r.2 }) left ≡ group_order gs → left ≡ [] → IsDistinct nat_eq (map place_handle order)
order_read_distinct gs order left d p n =
    let q = rw (n, append-nil order) at p in
    rw q (order_distinct gs d)

put_length : {T : Type 0} (before : T → T → Bool) (x : T) (ys : List T) → length (put_in before x ys) ≡ 1 + length ys
put_length before x [] = refl
put_length before x (y ∷ ys) = elim (two (before x y)) [ inl e ↦ rw e (omega arith) | inr e ↦ let rest = put_length before x ys in rw e (omega arith) ]

onto_length : {T : Type 0} (before : T → T → Bool) (ys xs : List T) → length (fold (λ zs x. put_in before x zs) ys xs) ≡ length ys + length xs
onto_length before ys [] = omega arith
onto_length before ys (x ∷ xs) = let rest = onto_length before (put_in before x ys) xs in let one = put_length before x ys in omega arith

pub in_order_length : {T : Type 0} (before : T → T → Bool) (xs : List T) → length (in_order before xs) ≡ length xs
unfolding in_order
in_order_length before xs = let all = onto_length before [] xs in omega (arith, all)

pub order_length : {s : ℕ} (gs : List (Group s)) (order : List GroupId) (left : List Rank) → order ++ map (λ (r : Rank). record { 0 = r.2 }) left ≡ group_order gs → left ≡ [] → length order ≡ length gs
unfolding in_order
order_length gs order left p n =
    let q = rw (n, append-nil order) at p in
    let all = onto_length comes_before [] gs in
    rw q (length-map (groups_in_order gs) (λ g. g.id) ∙ (omega (arith, all)))
