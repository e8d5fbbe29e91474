-- Counts of the groups, thing by thing.
use Rattle.std.proofs.Common.{◌≡◌, inl, inr, ℕ, suc, ◌+◌, ◌<◌, ◌≤◌, List, [], ◌∷◌, length, get_or, set, map, Bool, true, false, nat_eq, nat_lt, Option, Some, None, refl, ap, sym, ◌∙◌, arith}
use Rattle.std.specs.Prelude.{pos, if◌then◌else◌, replicate}
use Rattle.sk_types.specs.declared.group.GroupKind.TheVariants.{Space}
use Rattle.std.specs.Option.{option_map}
use Rattle.std.specs.List.{AllByRecursion, IsDistinct, filter, flat_map, fold, sum_by}
use Rattle.std.proofs.lemmas.Bool.{lt-ltb, le-ltb}
use Rattle.std.proofs.lemmas.Bool.Decides.{nat_tests}
use Rattle.std.proofs.lemmas.List.{length-append, length-map, get_or-map}
use Rattle.std.proofs.lemmas.List.Concat.{length-flat_map}
use Rattle.std.proofs.lemmas.List.Sums.{sum_by-cons}
use Rattle.sk_types.specs.declared.handle.GroupId.{GroupId}
use Rattle.sk_types.specs.declared.entity.Entity.{Entity}
use Rattle.sk_types.specs.declared.constraint.Constraint.{Constraint}
use Rattle.sk_types.specs.declared.group.Group.{Group}
use Rattle.sk_types.specs.Params.{free_params, group_params}
use Rattle.sk_types.specs.Sizes.{unknowns_of, rows_of}
use Rattle.sk_model.specs.declared.faults.ModelFault.TheVariants.{TooMany}
use Rattle.sk_model.specs.declared.faults.What.TheVariants as what
use Rattle.sk_model.specs.Typed.{group_handle}
use Rattle.sk_chain.specs.declared.sizes.Count.{Count}
use Rattle.sk_chain.specs.Counts.{stopped, nothing, more, added, all_added, of_group, of_entity, of_constraint, counted}
use Rattle.sk_chain.specs.Known.{place_handle}
use Rattle.sk_chain.specs.Lookups.{place_in}
use Rattle.sk_copy.specs.Order.{in_order, put_in}
use Rattle.sk_chain.specs.Order.{comes_before, group_order, groups_in_order}
use Rattle.sk_chain.specs.Outlines.{size_fault}
use Rattle.sk_chain.proofs.Distinct.{eq_flips, two}
use Rattle.sk_chain.proofs.Orders.{groups_distinct}
use Rattle.sk_chain.proofs.Places.{place_cons, no_place}

-- ---- one count is changed

mapped_none : (o : Option ℕ) → option_map suc o ≡ None → o ≡ None
mapped_none None e = refl
mapped_none (Some n) e = absurd (cc)

mapped_some : (o : Option ℕ) (p : ℕ) → option_map suc o ≡ Some p → (q : ℕ) × (o ≡ Some q) × (p ≡ suc q)
mapped_some None p e = absurd (cc)
mapped_some (Some q) p e = (q, refl, some_parts (suc q) p e)
  where
    some_parts : (a b : ℕ) → Some a ≡ Some b → b ≡ a
    some_parts a b e = cc

pub added_absent : (order : List GroupId) (n : ℕ) (k : Count) (counts : List Count) → place_in n order ≡ None → length counts ≡ length order → counts ≡ added order n k counts
added_absent [] n k counts h l = refl
added_absent (g ∷ gs) n k [] h l = absurd (omega arith)
added_absent (g ∷ gs) n k (c ∷ counts) h l = elim (two (nat_eq n g.0)) [
  | inl e ↦ absurd (let q = rw (place_cons n g gs, e) at h in cc)
  | inr e ↦ let q = rw (place_cons n g gs, e) at h in rw e (ap (λ cs. c ∷ cs) (added_absent gs n k counts (mapped_none (place_in n gs) q) (omega arith)))
]

pub added_at : (order : List GroupId) (n p : ℕ) (k v : Count) (counts : List Count) → IsDistinct nat_eq (map place_handle order) → place_in n order ≡ Some p → length counts ≡ length order → v ≡ get_or counts p v → set counts p (more v k) ≡ added order n k counts
unfolding IsDistinct
added_at [] n p k v counts d h l i = absurd (cc)
added_at (g ∷ gs) n p k v [] d h l i = absurd (omega arith)
added_at (g ∷ gs) n p k v (c ∷ counts) d h l i = elim (two (nat_eq n g.0)) [
  | inl e ↦
      let q = rw (place_cons n g gs, e) at h in
      let first : p ≡ 0 = cc in
      let same : n ≡ g.0 = grind (arith, nat_tests, e) in
      let there : v ≡ c = rw first at i in
      rw (first, e, there) (ap (λ cs. more c k ∷ cs) (added_absent gs n k counts (no_place n gs (rw same d.0)) (omega arith)))
  | inr e ↦
      let q = mapped_some (place_in n gs) p (rw (place_cons n g gs, e) at h) in
      rw (q.2, e) (ap (λ cs. c ∷ cs) (added_at gs n q.0 k v counts d.1 q.1 (omega arith) (rw q.2 at i)))
]

pub length-added : (order : List GroupId) (n : ℕ) (k : Count) (counts : List Count) → length counts ≡ length order → length (added order n k counts) ≡ length order
length-added [] n k counts l = l
length-added (g ∷ gs) n k [] l = absurd (omega arith)
length-added (g ∷ gs) n k (c ∷ counts) l = let rest = length-added gs n k counts (omega arith) in omega (arith, rest)

-- ---- what all things of a kind have, at each group

abbrev stop : Count → Count
stop c = record { unknowns = stopped c.unknowns; rows = stopped c.rows }

abbrev plus : Count → Count → Count
plus c k = record { unknowns = c.unknowns + k.unknowns; rows = c.rows + k.rows }

abbrev only : Bool → Count → Count
only t k = if t then k else nothing

counts_equal : (a b c d : ℕ) → a ≡ c → b ≡ d → (let x : Count = record { unknowns = a; rows = b } in x) ≡ record { unknowns = c; rows = d }
counts_equal a b c d e f = rw (e, f) refl

one_added : (t : Bool) (c k : Count) → (if t then more (stop c) k else stop c) ≡ stop (plus c (only t k))
one_added true c k = counts_equal _ _ _ _ (omega arith) (omega arith)
one_added false c k = counts_equal _ _ _ _ (omega arith) (omega arith)

added_map : (order : List GroupId) (n : ℕ) (k : Count) (c : GroupId → Count) → added order n k (map (λ g. stop (c g)) order) ≡ map (λ g. stop (plus (c g) (only (nat_eq n g.0) k))) order
added_map [] n k c = refl
added_map (g ∷ gs) n k c = rw (one_added (nat_eq n g.0) (c g) k, added_map gs n k c) refl

map_same : {A B : Type 0} (f h : A → B) (xs : List A) → ((a : A) → f a ≡ h a) → map f xs ≡ map h xs
map_same f h [] e = refl
map_same f h (x ∷ xs) e = rw (e x, map_same f h xs e) refl

module _ {X : Type 0} (group : X → GroupId) where
  abbrev of_one : GroupId → List X → List X
  of_one g xs = filter (λ x. nat_eq (group x).0 g.0) xs

  abbrev part : (X → ℕ) → GroupId → List X → ℕ
  part f g xs = sum_by f (of_one g xs)

  part_yes : (f : X → ℕ) (g : GroupId) (x : X) (xs : List X) → nat_eq (group x).0 g.0 ≡ true → part f g (x ∷ xs) ≡ f x + part f g xs
  part_yes f g x xs e = rw e (sum_by-cons f x (of_one g xs))

  part_no : (f : X → ℕ) (g : GroupId) (x : X) (xs : List X) → nat_eq (group x).0 g.0 ≡ false → part f g (x ∷ xs) ≡ part f g xs
  part_no f g x xs e = rw e refl

  part_cons : (f : X → ℕ) (g : GroupId) (x : X) (xs : List X) → part f g (x ∷ xs) ≡ (if nat_eq (group x).0 g.0 then f x else 0) + part f g xs
  part_cons f g x xs = elim (two (nat_eq (group x).0 g.0)) [
    | inl e ↦ rw e (sum_by-cons f x (of_one g xs))
    | inr e ↦ rw e (omega arith)
  ]

  abbrev share : (X → Count) → GroupId → List X → Count
  share f g xs = record { unknowns = part (λ x. (f x).unknowns) g xs; rows = part (λ x. (f x).rows) g xs }

  shared : (t : Bool) (c k s : Count) → plus (plus c (only t k)) s ≡ plus c (plus (only t k) s)
  shared t c k s = counts_equal _ _ _ _ (omega arith) (omega arith)

  share_cons : (f : X → Count) (g : GroupId) (x : X) (xs : List X) → share f g (x ∷ xs) ≡ plus (only (nat_eq (group x).0 g.0) (f x)) (share f g xs)
  share_cons f g x xs = counts_equal _ _ _ _ (part_cons (λ x. (f x).unknowns) g x xs ∙ inner (nat_eq (group x).0 g.0)) (part_cons (λ x. (f x).rows) g x xs ∙ outer (nat_eq (group x).0 g.0))
    where
      inner : (t : Bool) → (if t then (f x).unknowns else 0) + part (λ x. (f x).unknowns) g xs ≡ (only t (f x)).unknowns + part (λ x. (f x).unknowns) g xs
      inner true = refl
      inner false = refl

      outer : (t : Bool) → (if t then (f x).rows else 0) + part (λ x. (f x).rows) g xs ≡ (only t (f x)).rows + part (λ x. (f x).rows) g xs
      outer true = refl
      outer false = refl

  nothing_more : (c : Count) → stop c ≡ stop (plus c nothing)
  nothing_more c = counts_equal _ _ _ _ (omega arith) (omega arith)

  all_added_map : (order : List GroupId) (f : X → Count) (xs : List X) (c : GroupId → Count) → all_added order group f xs (map (λ g. stop (c g)) order) ≡ map (λ g. stop (plus (c g) (share f g xs))) order
  all_added_map order f [] c = map_same (λ g. stop (c g)) (λ g. stop (plus (c g) nothing)) order (λ g. nothing_more (c g))
  all_added_map order f (x ∷ xs) c =
      rw (added_map order (group x).0 (f x) c) (all_added_map order f xs (λ g. plus (c g) (only (nat_eq (group x).0 g.0) (f x)))
      ∙ map_same (λ g. stop (plus (plus (c g) (only (nat_eq (group x).0 g.0) (f x))) (share f g xs))) (λ g. stop (plus (c g) (share f g (x ∷ xs)))) order (λ g. ap stop (shared (nat_eq (group x).0 g.0) (c g) (f x) (share f g xs) ∙ ap (plus (c g)) (sym (share_cons f g x xs)))))

  -- ---- in order it is the same

  put_part : (before : X → X → Bool) (f : X → ℕ) (g : GroupId) (x : X) (ys : List X) → part f g (put_in before x ys) ≡ part f g (x ∷ ys)
  put_part before f g x [] = refl
  put_part before f g x (y ∷ ys) = elim (two (before x y)) [
    | inl e ↦ rw e refl
    | inr e ↦
        let rest = put_part before f g x ys in
        let a = part_cons f g y (put_in before x ys) in
        let b = part_cons f g x ys in
        let c = part_cons f g x (y ∷ ys) in
        let d = part_cons f g y ys in
        rw e (omega (arith, rest, a, b, c, d))
  ]

  onto_part : (before : X → X → Bool) (f : X → ℕ) (g : GroupId) (ys xs : List X) → part f g (fold (λ zs x. put_in before x zs) ys xs) ≡ part f g ys + part f g xs
  onto_part before f g ys [] = omega arith
  onto_part before f g ys (x ∷ xs) =
      let rest = onto_part before f g (put_in before x ys) xs in
      let put = put_part before f g x ys in
      let a = part_cons f g x ys in
      let b = part_cons f g x xs in
      omega (arith, rest, put, a, b)

  -- ---- where each has a group of its own, that group has what it has

  none_of : (f : X → ℕ) (g : GroupId) (xs : List X) → AllByRecursion (λ k. nat_eq g.0 k ≡ false) (map (λ x. (group x).0) xs) → part f g xs ≡ 0
  none_of f g [] h = refl
  none_of f g (x ∷ xs) h = part_no f g x xs (eq_flips g.0 (group x).0 h.0) ∙ none_of f g xs h.1

  abbrev HasOwn : (X → ℕ) → List X → X → Type 0
  HasOwn f xs x = part f (group x) xs ≡ f x

  same_number : (n : ℕ) → nat_eq n n ≡ true
  same_number n = grind (arith, nat_tests)

  first_own : (f : X → ℕ) (x : X) (xs : List X) → AllByRecursion (λ k. nat_eq (group x).0 k ≡ false) (map (λ y. (group y).0) xs) → HasOwn f (x ∷ xs) x
  first_own f x xs h = part_yes f (group x) x xs (same_number (group x).0) ∙ rw (none_of f (group x) xs h) (omega arith)

  others_own : (f : X → ℕ) (x : X) (ys xs : List X) → AllByRecursion (λ k. nat_eq (group x).0 k ≡ false) (map (λ y. (group y).0) ys) → AllByRecursion (HasOwn f xs) ys → AllByRecursion (HasOwn f (x ∷ xs)) ys
  others_own f x [] xs h k = tt
  others_own f x (y ∷ ys) xs h k = (part_no f (group y) x xs h.0 ∙ k.0, others_own f x ys xs h.1 k.1)

  pub all_own : (f : X → ℕ) (xs : List X) → IsDistinct nat_eq (map (λ x. (group x).0) xs) → AllByRecursion (HasOwn f xs) xs
  unfolding IsDistinct
  all_own f [] d = tt
  all_own f (x ∷ xs) d = (first_own f x xs d.0, others_own f x xs xs d.0 (all_own f xs d.1))

-- ---- all together

map_members : {A B C : Type 0} (f : A → B) (h : B → C) (k : A → C) (xs : List A) → AllByRecursion (λ x. h (f x) ≡ k x) xs → map h (map f xs) ≡ map k xs
map_members f h k [] e = refl
map_members f h k (x ∷ xs) e = rw (e.0, map_members f h k xs e.1) refl

both_hold : {A : Type 0} (P Q R : A → Type 0) (xs : List A) → ((a : A) → P a → Q a → R a) → AllByRecursion P xs → AllByRecursion Q xs → AllByRecursion R xs
both_hold P Q R [] f p q = tt
both_hold P Q R (x ∷ xs) f p q = (f x p.0 q.0, both_hold P Q R xs f p.1 q.1)

module _ {s : ℕ} (cs : List (Constraint s)) (es : List (Entity s)) where
  abbrev pub sizes : Group s → Count
  sizes g = record { unknowns = stopped (unknowns_of cs es g); rows = stopped (rows_of cs es g) }

  abbrev total : List (Group s) → GroupId → Count
  total gs g = plus (plus (plus nothing (share (λ h. h.id) of_group g gs)) (share (λ e. e.group) (of_entity cs) g es)) (share (λ c. c.group) (of_constraint es) g cs)

  counted_total : (order : List GroupId) (gs : List (Group s)) → counted order gs es cs ≡ map (λ g. stop (total gs g)) order
  counted_total order gs =
      rw (all_added_map (λ h. h.id) order of_group gs (λ g. nothing), all_added_map (λ e. e.group) order (of_entity cs) es (λ g. plus nothing (share (λ h. h.id) of_group g gs)))
      (all_added_map (λ c. c.group) order (of_constraint es) cs (λ g. plus (plus nothing (share (λ h. h.id) of_group g gs)) (share (λ e. e.group) (of_entity cs) g es)))

  part_in_order : (f : Group s → ℕ) (gs : List (Group s)) (g : GroupId) → part (λ h. h.id) f g (groups_in_order gs) ≡ part (λ h. h.id) f g gs
  unfolding in_order
  part_in_order f gs g = let all = onto_part (λ h. h.id) comes_before f g [] gs in omega (arith, all)

  total_is : (gs : List (Group s)) (g : Group s) → part (λ h. h.id) (λ h. length (group_params h)) g.id (groups_in_order gs) ≡ length (group_params g) → part (λ h. h.id) (λ h. (of_group h).rows) g.id (groups_in_order gs) ≡ (of_group g).rows → stop (total gs g.id) ≡ sizes g
  total_is gs g u r =
      let a = part_in_order (λ h. length (group_params h)) gs g.id in
      let b = part_in_order (λ h. (of_group h).rows) gs g.id in
      let c = length-flat_map (free_params cs) (of_one (λ e. e.group) g.id es) in
      let d = length-append (flat_map (free_params cs) (of_one (λ e. e.group) g.id es)) (group_params g) in
      counts_equal _ _ _ _ (ap stopped (omega (arith, a, c, d, u))) (ap stopped (omega (arith, b, r)))

  pub counted_sizes : (gs : List (Group s)) → IsDistinct nat_eq (map group_handle gs) → counted (group_order gs) gs es cs ≡ map sizes (groups_in_order gs)
  counted_sizes gs d =
      let apart = groups_distinct gs d in
      counted_total (group_order gs) gs
      ∙ map_members (λ g. g.id) (λ g. stop (total gs g)) sizes (groups_in_order gs)
      (both_hold (HasOwn (λ h. h.id) (λ h. length (group_params h)) (groups_in_order gs)) (HasOwn (λ h. h.id) (λ h. (of_group h).rows) (groups_in_order gs)) (λ g. stop (total gs g.id) ≡ sizes g) (groups_in_order gs) (total_is gs)
      (all_own (λ h. h.id) (λ h. length (group_params h)) (groups_in_order gs) apart)
      (all_own (λ h. h.id) (λ h. (of_group h).rows) (groups_in_order gs) apart))

-- ---- what is refused

over : (n v : ℕ) → v ≡ stopped n → 400 < v → nat_lt 400 n ≡ true
over n v e h = lt-ltb 400 n (omega arith)

within : (n v : ℕ) → v ≡ stopped n → v ≤ 400 → nat_lt 400 n ≡ false
within n v e h = le-ltb 400 n (omega arith)

module _ {s : ℕ} (cs : List (Constraint s)) (es : List (Entity s)) (g : Group s) (c : Count) (e : c ≡ sizes cs es g) where
  pub many_unknowns : 400 < c.unknowns → size_fault cs es g ≡ Some (TooMany what.Unknowns)
  many_unknowns h = rw (over (unknowns_of cs es g) c.unknowns (ap (λ (k : Count). k.unknowns) e) h) refl

  pub many_rows : c.unknowns ≤ 400 → 400 < c.rows → size_fault cs es g ≡ Some (TooMany what.Rows)
  many_rows m h = rw (within (unknowns_of cs es g) c.unknowns (ap (λ (k : Count). k.unknowns) e) m, over (rows_of cs es g) c.rows (ap (λ (k : Count). k.rows) e) h) refl

  pub few_sizes : c.unknowns ≤ 400 → c.rows ≤ 400 → size_fault cs es g ≡ None
  few_sizes m h = rw (within (unknowns_of cs es g) c.unknowns (ap (λ (k : Count). k.unknowns) e) m, within (rows_of cs es g) c.rows (ap (λ (k : Count). k.rows) e) h) refl

-- ---- place by place

abbrev pub no_group : {s : ℕ} → Group s
no_group = record {
  id = record { 0 = 0 };
  kind = Space;
  order = pos 0;
  active = record { 0 = 0 };
  source = record { 0 = 0 };
  copies = 0;
  two_sided = false;
  skip_first = false;
  by_lines = false;
  quaternion = [];
  origin = record { 0 = 0 };
  entity_b = record { 0 = 0 };
  entity_c = record { 0 = 0 };
  swap_uv = false;
  negate_u = false;
  negate_v = false;
  scale = pos 0;
  remap = [];
  part = [];
}

module _ {s : ℕ} (cs : List (Constraint s)) (es : List (Entity s)) (gs : List (Group s)) (order : List GroupId) (counts : List Count) (d : IsDistinct nat_eq (map group_handle gs)) (o : order ≡ group_order gs) (h : counts ≡ counted order gs es cs) where
  all_sizes : counts ≡ map (sizes cs es) (groups_in_order gs)
  all_sizes = h ∙ rw o (counted_sizes cs es gs d)

  pub counts_length : length counts ≡ length (groups_in_order gs)
  counts_length = rw all_sizes (length-map (groups_in_order gs) (sizes cs es))

  pub in_groups : (i : ℕ) → i < length counts → i < length (groups_in_order gs)
  in_groups i l = omega (arith, l, counts_length)

  abbrev group_at : ℕ → Group s
  group_at i = get_or (groups_in_order gs) i no_group

  count_at : (i : ℕ) (c : Count) → i < length counts → get_or counts i c ≡ sizes cs es (group_at i)
  count_at i c l = rw all_sizes (get_or-map (sizes cs es) (groups_in_order gs) i no_group c (in_groups i l))

  pub unknowns_at : (i : ℕ) (c : Count) → i < length counts → 400 < (get_or counts i c).unknowns → size_fault cs es (group_at i) ≡ Some (TooMany what.Unknowns)
  unknowns_at i c l h = many_unknowns cs es (group_at i) (get_or counts i c) (count_at i c l) h

  pub rows_at : (i : ℕ) (c : Count) → i < length counts → (get_or counts i c).unknowns ≤ 400 → 400 < (get_or counts i c).rows → size_fault cs es (group_at i) ≡ Some (TooMany what.Rows)
  rows_at i c l m h = many_rows cs es (group_at i) (get_or counts i c) (count_at i c l) m h

  pub none_at : (i : ℕ) (c : Count) → i < length counts → (get_or counts i c).unknowns ≤ 400 → (get_or counts i c).rows ≤ 400 → size_fault cs es (group_at i) ≡ None
  none_at i c l m h = few_sizes cs es (group_at i) (get_or counts i c) (count_at i c l) m h

zeros_mapped : (order : List GroupId) → replicate (length order) nothing ≡ map (λ (g : GroupId). nothing) order
zeros_mapped [] = refl
zeros_mapped (g ∷ gs) = ap (λ ns. nothing ∷ ns) (zeros_mapped gs)

pub zeros_count : (order : List GroupId) (n : ℕ) (counts : List Count) → n ≡ length order → counts ≡ replicate n nothing → counts ≡ map (λ (g : GroupId). nothing) order
zeros_count order n counts e h = h ∙ rw e (zeros_mapped order)
