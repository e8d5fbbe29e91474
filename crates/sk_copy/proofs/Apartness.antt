-- What a group makes has different handles, and stands by rising handle.
use Rattle.std.proofs.Common.{◌≡◌, inl, inr, ℕ, ◌<◌, ◌≤◌, List, [], ◌∷◌, ◌++◌, map, Bool, true, false, nat_eq, nat_lt, Option, Some, None, Ok, refl, sym, ap, ◌∙◌, subst, arith}
use Rattle.std.specs.Prelude.{◌==◌, if◌then◌else◌}
use Rattle.std.specs.List.{All, AllByRecursion, IsDistinct, filter, flat_map, fold}
use Rattle.std.specs.List.Sorted.{IsStrictlySortedBy}
use Rattle.std.specs.Ordering.{nat_cmp}
use Rattle.std.specs.declared.cmp.Ordering.TheVariants.{Less}
use Rattle.std.proofs.lemmas.Bool.{cases_Bool}
use Rattle.std.proofs.lemmas.Bool.Decides.{nat_tests}
use Rattle.std.proofs.lemmas.List.{map-append}
use Rattle.std.proofs.lemmas.List.Elements.{All-from_recursion, recursion_from_All}
use Rattle.sk_num.specs.Each.{cons_if, each_some}
use Rattle.sk_types.specs.declared.entity.Entity.{Entity}
use Rattle.sk_types.specs.declared.entity.Numbering.{Numbering}
use Rattle.sk_types.specs.declared.entity_kind.TheConstants as entity_kind
use Rattle.sk_types.specs.declared.handle.EntityId.{EntityId}
use Rattle.sk_types.specs.declared.group.Group.{Group}
use Rattle.sk_types.specs.declared.group.GroupKind.{GroupKind}
use Rattle.sk_types.specs.declared.group.GroupKind.TheVariants.{Space, Plane, Extrude, Translate, Linked}
use Rattle.sk_types.specs.declared.group.RemapEntry.{RemapEntry}
use Rattle.sk_types.specs.Copies.{CopyKey, copied, same_copy}
use Rattle.sk_types.specs.Handles.{item_of_group}
use Rattle.sk_types.specs.Kinds.{is_face, is_point}
use Rattle.sk_types.specs.Lists.{only_if}
use Rattle.sk_types.specs.Lookups.{Rise, entity_handle}
use Rattle.sk_copy.specs.declared.copy_number.TheConstants as which
use Rattle.sk_copy.specs.Order.{put_in, in_order, by_handle}
use Rattle.sk_copy.specs.Extended.{extended, has_copy, number_in, numbers_in}
use Rattle.sk_copy.specs.Wanted.{Move, ends_by, extruded_as, is_extruded, is_linked, is_translated, moves_by, translated_as, wanted, wanted_as}
use Rattle.sk_copy.specs.Copies.{Copies, NumberOf, copies, copy_of, end_copies, end_faces, extrude, extrude_as, face_copy, first_point, linked_copy, linked_kind, made_by, moved_copy, numbers_if, or_past, over_list, plane_entities, side_face, side_line, translate_as, translated_by}
use Rattle.sk_copy.specs.Laws.{HaveHandles, IsItem, IsList, copy_cmp}
use Rattle.sk_copy.proofs.Apart.{apart}
use Rattle.sk_copy.proofs.Extended.{AllHave, all_have, stays_list}
use Rattle.sk_copy.proofs.Rising.{AllLess, is_less, less_is, ties, wanted_rises}

-- ---- things with different numbers, put in order

module _ {X : Type 0} (n : X → ℕ) where
  abbrev before : X → X → Bool
  before x y = nat_lt (n x) (n y)

  abbrev Differs : X → List X → Type 0
  Differs x ys = AllByRecursion (λ y. nat_eq (n x) (n y) ≡ false) ys

  abbrev Up : List X → Type 0
  Up ys = IsStrictlySortedBy nat_cmp (map n ys)

  less_put : (k : ℕ) (x : X) (ys : List X) → k < n x → AllLess nat_cmp k (map n ys) → AllLess nat_cmp k (map n (put_in before x ys))
  less_put k x [] l h = (is_less k (n x) l, tt)
  less_put k x (y ∷ ys) l h = elim (cases_Bool (before x y)) [
    | inl t ↦ rw t ((is_less k (n x) l, h))
    | inr f ↦ rw f ((h.0, less_put k x ys l h.1))
  ]

  less_all : (j k : ℕ) (ms : List ℕ) → j < k → AllLess nat_cmp k ms → AllLess nat_cmp j ms
  less_all j k [] l h = tt
  less_all j k (m ∷ ms) l h = (let above = less_is k m h.0 in is_less j m (omega (arith, l, above)), less_all j k ms l h.1)

  up_put : (x : X) (ys : List X) → Differs x ys → Up ys → Up (put_in before x ys)
  unfolding IsStrictlySortedBy
  up_put x [] d u = (tt, tt)
  up_put x (y ∷ ys) d u = elim (cases_Bool (before x y)) [
    | inl t ↦ (let l : n x < n y = grind (arith, nat_tests, t) in rw t (((is_less (n x) (n y) l, less_all (n x) (n y) (map n ys) l u.0), u)))
    | inr f ↦ (let differ = d.0 in let l : n y < n x = grind (arith, nat_tests, f, differ) in rw f ((less_put (n y) x ys l u.0, up_put x ys d.1 u.1)))
  ]

  differs_put : (z x : X) (ys : List X) → nat_eq (n z) (n x) ≡ false → Differs z ys → Differs z (put_in before x ys)
  differs_put z x [] e d = (e, tt)
  differs_put z x (y ∷ ys) e d = elim (cases_Bool (before x y)) [
    | inl t ↦ rw t ((e, d))
    | inr f ↦ rw f ((d.0, differs_put z x ys e d.1))
  ]

  -- what differs from all in order, and from x, differs from all with x in its place
  crossed : (x : X) (ys xs : List X) → AllByRecursion (λ (m : ℕ). nat_eq (n x) m ≡ false) (map n xs) → AllByRecursion (λ z. Differs z ys) xs → AllByRecursion (λ z. Differs z (put_in before x ys)) xs
  crossed x ys [] h d = tt
  crossed x ys (z ∷ xs) h d = (let e = h.0 in differs_put z x ys (grind (arith, nat_tests, e)) d.0, crossed x ys xs h.1 d.1)

  up_onto : (ys xs : List X) → Up ys → IsDistinct nat_eq (map n xs) → AllByRecursion (λ z. Differs z ys) xs → Up (fold (λ zs x. put_in before x zs) ys xs)
  unfolding IsDistinct
  up_onto ys [] u d h = u
  up_onto ys (x ∷ xs) u d h = up_onto (put_in before x ys) xs (up_put x ys h.0 u) d.1 (crossed x ys xs d.0 h.1)

  none_yet : (xs : List X) → AllByRecursion (λ z. Differs z []) xs
  none_yet [] = tt
  none_yet (x ∷ xs) = (tt, none_yet xs)

  nothing_up : Up []
  unfolding IsStrictlySortedBy
  nothing_up = tt

  pub in_order_rises : (xs : List X) → IsDistinct nat_eq (map n xs) → IsStrictlySortedBy nat_cmp (map n (in_order before xs))
  unfolding in_order
  in_order_rises xs d = up_onto [] xs nothing_up d (none_yet xs)

-- ---- the handles of what is made are those of its copies

module _ {s : ℕ} (g : Group s) (number : NumberOf) where
  abbrev item : CopyKey → ℕ
  item c = item_of_group g.id.0 (number c)

  flat_handles : (f : Entity s → List (Entity s)) (k : Entity s → List CopyKey) → ((e : Entity s) → map entity_handle (f e) ≡ map item (k e)) → (es : List (Entity s)) → map entity_handle (flat_map f es) ≡ map item (flat_map k es)
  flat_handles f k h [] = refl
  flat_handles f k h (e ∷ es) =
      map-append entity_handle (f e) (flat_map f es) ∙ ap (λ ns. ns ++ map entity_handle (flat_map f es)) (h e) ∙ ap (λ ns. map item (k e) ++ ns) (flat_handles f k h es)
      ∙ sym (map-append item (k e) (flat_map k es))

  extruded_handles : (e : Entity s) (t p l : Bool) →
      map entity_handle (only_if t (end_copies g number e ++ only_if p (side_line g number e ∷ []) ++ only_if l (side_face g number e ∷ [])))
      ≡ map item (only_if t ((e.id.0, which.TOP) ∷ (e.id.0, which.BOTTOM) ∷ only_if p ((e.id.0, which.SIDE_LINE) ∷ []) ++ only_if l ((e.id.0, which.SIDE_FACE) ∷ [])))
  extruded_handles e false p l = refl
  extruded_handles e true true true = refl
  extruded_handles e true true false = refl
  extruded_handles e true false true = refl
  extruded_handles e true false false = refl

  translated_handle : (e : Entity s) (m : Move) (t : Bool) → entity_handle (if t then face_copy g number e m.0 else moved_copy g number e m) ≡ item (e.id.0, m.0)
  translated_handle e m true = refl
  translated_handle e m false = refl

  all_translated : (e : Entity s) (ms : List Move) → map entity_handle (map (translated_by g number e) ms) ≡ map item (map (λ (m : Move). (e.id.0, m.0)) ms)
  all_translated e [] = refl
  all_translated e (m ∷ ms) = ap (λ n. n ∷ map entity_handle (map (translated_by g number e) ms)) (translated_handle e m (is_face e.kind)) ∙ ap (λ ns. item (e.id.0, m.0) ∷ ns) (all_translated e ms)

  translated_if : (e : Entity s) (ms : List Move) (t : Bool) → map entity_handle (only_if t (map (translated_by g number e) ms)) ≡ map item (only_if t (map (λ (m : Move). (e.id.0, m.0)) ms))
  translated_if e ms true = all_translated e ms
  translated_if e ms false = refl

  abbrev linked_key : Entity s → CopyKey
  linked_key e = (e.id.0, which.LINKED)

  abbrev linked_one : Entity s → Numbering s → Entity s
  linked_one e q = copy_of g number which.LINKED (linked_kind e.kind) q e

  one_linked : (e : Entity s) (o : Option (Numbering s)) (more : Option (List (Entity s))) (ms : List (Entity s)) (es : List (Entity s)) → numbers_if g.scale e ≡ o → cons_if (linked_copy g number e) more ≡ Some ms →
      ((ns : List (Entity s)) → more ≡ Some ns → map entity_handle ns ≡ map item (map linked_key es)) → map entity_handle ms ≡ map item (map linked_key (e ∷ es))
  one_linked e None more ms es p h rest = (let no : None ≡ Some ms = rw p at h in cc no)
  one_linked e (Some q) None ms es p h rest = (let no : None ≡ Some ms = rw p at h in cc no)
  one_linked e (Some q) (Some ns) ms es p h rest =
      let is : linked_one e q ∷ ns ≡ ms = (let some : Some (linked_one e q ∷ ns) ≡ Some ms = rw p at h in cc some) in
      ap (map entity_handle) (sym is) ∙ ap (λ ks. item (linked_key e) ∷ ks) (rest ns refl)

  linked_handles : (es ms : List (Entity s)) → each_some (linked_copy g number) es ≡ Some ms → map entity_handle ms ≡ map item (map linked_key es)
  linked_handles [] ms h = (let e : [] ≡ ms = cc h in ap (map entity_handle) (sym e))
  linked_handles (e ∷ es) ms h = one_linked e (numbers_if g.scale e) (each_some (linked_copy g number) es) ms es refl h (λ ns k. linked_handles es ns k)

  linked_wanted : (p : Entity s → Bool) (es : List (Entity s)) → flat_map (λ e. only_if (p e) (linked_key e ∷ [])) es ≡ map linked_key (filter p es)
  linked_wanted p [] = refl
  linked_wanted p (e ∷ es) = elim (cases_Bool (p e)) [
    | inl t ↦ rw t (ap (λ cs. linked_key e ∷ cs) (linked_wanted p es))
    | inr f ↦ rw f (linked_wanted p es)
  ]

-- ---- different copies have different handles

module _ {s : ℕ} (g : Group s) (list : List RemapEntry) (l : IsList list) where
  abbrev handle_of : CopyKey → ℕ
  handle_of c = item_of_group g.id.0 (number_in list c)

  other_copy : (c d : CopyKey) → has_copy c list ≡ true → has_copy d list ≡ true → copy_cmp c d ≡ Less → nat_eq (handle_of c) (handle_of d) ≡ false
  other_copy c d h i o = elim (cases_Bool (nat_eq (number_in list c) (number_in list d))) [
    | inl t ↦ (let level : number_in list c ≡ number_in list d = grind (arith, nat_tests, t) in
        let is = apart c d list l.numbers_differ h i level in
        let same : copy_cmp d d ≡ Less = subst (λ (x : CopyKey). copy_cmp x d ≡ Less) is o in
        let no = rw (ties d.0, ties d.1) at same in cc no)
    | inr f ↦ grind (arith, nat_tests, f)
  ]

  other_copies : (c : CopyKey) (ds : List CopyKey) → has_copy c list ≡ true → AllHave ds list → AllLess copy_cmp c ds → AllByRecursion (λ (k : ℕ). nat_eq (handle_of c) k ≡ false) (map handle_of ds)
  other_copies c [] h a o = tt
  other_copies c (d ∷ ds) h a o = (other_copy c d h a.0 o.0, other_copies c ds h a.1 o.1)

  pub handles_differ : (cs : List CopyKey) → AllHave cs list → IsStrictlySortedBy copy_cmp cs → IsDistinct nat_eq (map handle_of cs)
  unfolding IsDistinct IsStrictlySortedBy
  handles_differ [] a r = tt
  handles_differ (c ∷ cs) a r = (other_copies c cs a.0 a.1 r.0, handles_differ cs a.1 r.1)

-- ---- the whole

nothing_differs : IsDistinct nat_eq []
unfolding IsDistinct
nothing_differs = tt

plane_differ : {s : ℕ} (g : Group s) → IsDistinct nat_eq (map entity_handle (plane_entities g))
unfolding IsDistinct
plane_differ g = ((grind (arith, nat_tests), (grind (arith, nat_tests), tt)), ((grind (arith, nat_tests), tt), (tt, tt)))

module _ {s : ℕ} (g : Group s) (list : List RemapEntry) (l : IsList list) (es : List (Entity s)) where
  -- an extrusion has the copies of nothing too, and the faces at its ends only where there is a point
  extrude_differ : (o : Option EntityId) → AllHave (ends_by Extrude ++ flat_map extruded_as es) list → IsStrictlySortedBy copy_cmp (ends_by Extrude ++ flat_map extruded_as es) →
      IsDistinct nat_eq (map entity_handle (end_faces g (number_in list) o ++ flat_map (extrude_as g (number_in list)) es))
  unfolding IsStrictlySortedBy
  extrude_differ None a r = rw (flat_handles g (number_in list) (extrude_as g (number_in list)) extruded_as (λ e. extruded_handles g (number_in list) e (is_extruded e) (is_point e.kind) (e.kind == entity_kind.LINE)) es)
      (handles_differ g list l (flat_map extruded_as es) a.1.1 r.1.1)
  extrude_differ (Some p) a r = rw (flat_handles g (number_in list) (extrude_as g (number_in list)) extruded_as (λ e. extruded_handles g (number_in list) e (is_extruded e) (is_point e.kind) (e.kind == entity_kind.LINE)) es)
      (handles_differ g list l (ends_by Extrude ++ flat_map extruded_as es) a r)

  by_kind : (k : GroupKind) (ms : List (Entity s)) → AllHave (ends_by k ++ flat_map (wanted_as k g es) es) list → IsStrictlySortedBy copy_cmp (ends_by k ++ flat_map (wanted_as k g es) es) →
      made_by k g (number_in list) es ≡ Some ms → IsDistinct nat_eq (map entity_handle ms)
  by_kind Space ms a r h = (let e : [] ≡ ms = cc h in subst (λ (xs : List (Entity s)). IsDistinct nat_eq (map entity_handle xs)) e nothing_differs)
  by_kind Plane ms a r h = (let e : plane_entities g ≡ ms = cc h in subst (λ (xs : List (Entity s)). IsDistinct nat_eq (map entity_handle xs)) e (plane_differ g))
  by_kind Extrude ms a r h = (let e : extrude g (number_in list) es ≡ ms = cc h in subst (λ (xs : List (Entity s)). IsDistinct nat_eq (map entity_handle xs)) e (extrude_differ (first_point es) a r))
  by_kind Translate ms a r h =
      let e : flat_map (translate_as g (number_in list)) es ≡ ms = cc h in
      subst (λ (xs : List (Entity s)). IsDistinct nat_eq (map entity_handle xs)) e
      (rw (flat_handles g (number_in list) (translate_as g (number_in list)) (translated_as (moves_by Translate g)) (λ x. translated_if g (number_in list) x (moves_by Translate g) (is_translated x)) es)
      (handles_differ g list l (flat_map (translated_as (moves_by Translate g)) es) a r))
  by_kind Linked ms a r h =
      let keys = linked_wanted g (number_in list) (is_linked es) es in
      rw (linked_handles g (number_in list) (filter (is_linked es) es) ms h)
      (handles_differ g list l (map (linked_key g (number_in list)) (filter (is_linked es) es)) (subst (λ (cs : List CopyKey). AllHave cs list) keys a) (subst (λ (cs : List CopyKey). IsStrictlySortedBy copy_cmp cs) keys r))

-- what copies are is told from what they are made of
module _ {s : ℕ} (g : Group s) (list : List RemapEntry) (es : List (Entity s)) (c : Copies s) (P : Type 0) where
  over_made : (longer : List RemapEntry) (o : Option (List (Entity s))) → or_past longer o ≡ Ok c → ((ms : List (Entity s)) → o ≡ Some ms → by_handle ms ≡ c.entities → P) → P
  over_made longer None h k = cc h
  over_made longer (Some ms) h k = (let e : record { list = longer; entities = by_handle ms } ≡ c = cc h in k ms refl (ap (λ (x : Copies s). x.entities) e))

  over_longer : (o : Option (List RemapEntry)) → over_list g es o ≡ Ok c → ((longer : List RemapEntry) (ms : List (Entity s)) → o ≡ Some longer → made_by g.kind g (number_in longer) es ≡ Some ms → by_handle ms ≡ c.entities → P) → P
  over_longer None h k = cc h
  over_longer (Some longer) h k = over_made longer (made_by g.kind g (number_in longer) es) h (λ ms e f. k longer ms refl e f)

  pub parts : copies g list es ≡ Ok c → ((longer : List RemapEntry) (ms : List (Entity s)) → extended (wanted g es) list ≡ Some longer → made_by g.kind g (number_in longer) es ≡ Some ms → by_handle ms ≡ c.entities → P) → P
  unfolding copies
  parts h k = over_longer (extended (wanted g es) list) h k

pub made_rise : {s : ℕ} (g : Group s) (list : List RemapEntry) (es : List (Entity s)) (c : Copies s) → g.copies ≤ 999 → IsList list → Rise es → HaveHandles g.kind es → copies g list es ≡ Ok c → Rise c.entities
made_rise g list es c few l r h e = parts g list es c (Rise c.entities) e (λ longer ms extends made is.
    subst Rise is (in_order_rises entity_handle ms
    (by_kind g longer (stays_list (wanted g es) list longer extends l) es g.kind ms (all_have (wanted g es) list longer extends) (wanted_rises g es few r h) made)))

-- ---- all are items of the group

module _ {X : Type 0} (P : X → Type 0) (before : X → X → Bool) where
  all_put : (x : X) (ys : List X) → P x → AllByRecursion P ys → AllByRecursion P (put_in before x ys)
  all_put x [] p h = (p, tt)
  all_put x (y ∷ ys) p h = elim (cases_Bool (before x y)) [
    | inl t ↦ rw t ((p, h))
    | inr f ↦ rw f ((h.0, all_put x ys p h.1))
  ]

  all_onto : (ys xs : List X) → AllByRecursion P ys → AllByRecursion P xs → AllByRecursion P (fold (λ zs x. put_in before x zs) ys xs)
  all_onto ys [] h k = h
  all_onto ys (x ∷ xs) h k = all_onto (put_in before x ys) xs (all_put x ys k.0 h) k.1

  all_in_order : (xs : List X) → AllByRecursion P xs → AllByRecursion P (in_order before xs)
  unfolding in_order
  all_in_order xs h = all_onto [] xs tt h

small_if : (t : Bool) (m n : ℕ) → m ≤ 65535 → n ≤ 65535 → (if t then m else n) ≤ 65535
small_if true m n a b = a
small_if false m n a b = b

small_number : (c : CopyKey) (n : ℕ) (es : List RemapEntry) → n ≤ 65535 → AllByRecursion (λ m. m ≤ 65535) (numbers_in es) → fold (λ (n : ℕ) (e : RemapEntry). if same_copy (copied e) c then e.number else n) n es ≤ 65535
small_number c n [] l h = l
small_number c n (e ∷ es) l h = small_number c (if same_copy (copied e) c then e.number else n) es (small_if (same_copy (copied e) c) e.number n h.0 l) h.1

module _ {s : ℕ} (g : Group s) (list : List RemapEntry) (l : IsList list) (es : List (Entity s)) where
  abbrev InGroup : ℕ → Type 0
  InGroup k = (item_of_group g.id.0 0 ≤ k) × (k ≤ item_of_group g.id.0 65535)

  all_items : (cs : List CopyKey) → AllByRecursion InGroup (map (handle_of g list l) cs)
  all_items [] = tt
  all_items (c ∷ cs) = (let few : number_in list c ≤ 65535 = small_number c 0 list (omega arith) (recursion_from_All (λ m. m ≤ 65535) (numbers_in list) l.most) in (omega arith, omega (arith, few)), all_items cs)

  end_items : (o : Option EntityId) → AllByRecursion InGroup (map entity_handle (end_faces g (number_in list) o ++ flat_map (extrude_as g (number_in list)) es))
  end_items None = rw (flat_handles g (number_in list) (extrude_as g (number_in list)) extruded_as (λ e. extruded_handles g (number_in list) e (is_extruded e) (is_point e.kind) (e.kind == entity_kind.LINE)) es) (all_items (flat_map extruded_as es))
  end_items (Some p) = rw (flat_handles g (number_in list) (extrude_as g (number_in list)) extruded_as (λ e. extruded_handles g (number_in list) e (is_extruded e) (is_point e.kind) (e.kind == entity_kind.LINE)) es) (all_items (ends_by Extrude ++ flat_map extruded_as es))

  items_by : (k : GroupKind) (ms : List (Entity s)) → made_by k g (number_in list) es ≡ Some ms → AllByRecursion InGroup (map entity_handle ms)
  items_by Space ms h = (let e : [] ≡ ms = cc h in subst (λ (xs : List (Entity s)). AllByRecursion InGroup (map entity_handle xs)) e tt)
  items_by Plane ms h = (let e : plane_entities g ≡ ms = cc h in subst (λ (xs : List (Entity s)). AllByRecursion InGroup (map entity_handle xs)) e ((omega arith, omega arith), ((omega arith, omega arith), ((omega arith, omega arith), tt))))
  items_by Extrude ms h = (let e : extrude g (number_in list) es ≡ ms = cc h in subst (λ (xs : List (Entity s)). AllByRecursion InGroup (map entity_handle xs)) e (end_items (first_point es)))
  items_by Translate ms h =
      let e : flat_map (translate_as g (number_in list)) es ≡ ms = cc h in
      subst (λ (xs : List (Entity s)). AllByRecursion InGroup (map entity_handle xs)) e
      (rw (flat_handles g (number_in list) (translate_as g (number_in list)) (translated_as (moves_by Translate g)) (λ x. translated_if g (number_in list) x (moves_by Translate g) (is_translated x)) es)
      (all_items (flat_map (translated_as (moves_by Translate g)) es)))
  items_by Linked ms h = rw (linked_handles g (number_in list) (filter (is_linked es) es) ms h) (all_items (map (linked_key g (number_in list)) (filter (is_linked es) es)))

  from_handles : (ms : List (Entity s)) → AllByRecursion InGroup (map entity_handle ms) → AllByRecursion (IsItem g) ms
  from_handles [] h = tt
  from_handles (m ∷ ms) h = (h.0, from_handles ms h.1)

pub made_items : {s : ℕ} (g : Group s) (list : List RemapEntry) (es : List (Entity s)) (c : Copies s) → IsList list → copies g list es ≡ Ok c → All (IsItem g) c.entities
made_items g list es c l e = parts g list es c (All (IsItem g) c.entities) e (λ longer ms extends made is.
    subst (All (IsItem g)) is (All-from_recursion (IsItem g) (by_handle ms)
    (all_in_order (IsItem g) (λ d e. nat_lt d.id.0 e.id.0) ms (from_handles g longer (stays_list (wanted g es) list longer extends l) es ms
    (items_by g longer (stays_list (wanted g es) list longer extends l) es g.kind ms made)))))
