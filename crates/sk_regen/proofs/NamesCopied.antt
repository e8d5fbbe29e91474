-- What a group outside a list copies names nothing of a group of it.
use Rattle.std.proofs.Common.{◌≡◌, inl, inr, ℕ, ◌-◌, ◌/◌, ◌%◌, ◌^◌, ◌<◌, ◌≤◌, ℤ, List, [], ◌∷◌, ◌++◌, map, take, Bool, true, false, nat_lt, Option, Some, None, Ok, refl, subst, arith}
use Rattle.std.specs.Prelude.{◌==◌, if◌then◌else◌}
use Rattle.std.specs.List.{AllByRecursion, filter, flat_map, fold}
use Rattle.std.specs.Option.{option_map}
use Rattle.std.proofs.lemmas.Bool.{cases_Bool, lt-ltb, le-ltb}
use Rattle.std.proofs.lemmas.List.Elements.{All-from_recursion, All-map, All-weaker, recursion_from_All}
use Rattle.sk_num.specs.Each.{cons_if, each_some}
use Rattle.sk_types.specs.declared.handle.EntityId.{EntityId}
use Rattle.sk_types.specs.declared.handle.Maker.TheVariants.{OfRequest, OfGroup}
use Rattle.sk_types.specs.declared.entity.Entity.{Entity}
use Rattle.sk_types.specs.declared.entity.Numbering.{Numbering}
use Rattle.sk_types.specs.declared.entity.Numbering.TheVariants.{Own, Moved, Copied, Placed, Nothing}
use Rattle.sk_types.specs.declared.entity_kind.TheConstants as entity_kind
use Rattle.sk_types.specs.declared.group.Group.{Group}
use Rattle.sk_types.specs.declared.group.GroupKind.{GroupKind}
use Rattle.sk_types.specs.declared.group.GroupKind.TheVariants.{Space, Plane, Extrude, Translate, Linked}
use Rattle.sk_types.specs.declared.group.RemapEntry.{RemapEntry}
use Rattle.sk_types.specs.Copies.{CopyKey, copied, same_copy}
use Rattle.sk_types.specs.Handles.{item_of_group, item_of_request, maker_of, none}
use Rattle.sk_types.specs.Kinds.{has_numbers, is_face, is_point}
use Rattle.sk_types.specs.Lists.{only_if}
use Rattle.sk_types.specs.Needs.{named}
use Rattle.sk_copy.specs.declared.copy_number.TheConstants as which
use Rattle.sk_copy.specs.Copies.{Copies, NumberOf, copies, copy_at, copy_of, end_copies, end_face, end_faces, extrude, extrude_as, face_copy, first_point, group_entity, group_item, linked_copy, linked_kind, linked_numbers, made_by, moved_copy, moved_kind, moved_numbers, normal_by, normal_of_plane, numbers_if, placed_as, plane_entities, plane_numbers, side_face, side_line, translate, translate_as, translated_by}
use Rattle.sk_copy.specs.Extended.{number_in, numbers_in}
use Rattle.sk_copy.specs.Laws.{IsList}
use Rattle.sk_copy.specs.Wanted.{Move, is_extruded, is_linked, is_translated, moves_by, wanted}
use Rattle.sk_copy.proofs.Apartness.{parts}
use Rattle.sk_copy.proofs.Extended.{stays_list}
use Rattle.sk_model.specs.Checked.{IsCheckedEntry, IsCheckedList}
use Rattle.sk_chain.proofs.InOrder.{all_in_order}
use Rattle.sk_chain.proofs.Segments.{all_behind}
use Rattle.sk_system.specs.LookupLaws.{IsRead, NamesRead, NumbersRead, Reads}

either : {A : Type 0} (P : A → Type 0) (t : Bool) (x y : A) → P x → P y → P (if t then x else y)
either P true x y h k = h
either P false x y h k = k

only_all : {A : Type 0} (P : A → Type 0) (t : Bool) (xs : List A) → AllByRecursion P xs → AllByRecursion P (only_if t xs)
only_all P true xs h = h
only_all P false xs h = tt

-- ---- numbers of copies

few_in : (c : CopyKey) (n : ℕ) (es : List RemapEntry) → n ≤ 65535 → AllByRecursion (λ m. m ≤ 65535) (numbers_in es) → fold (λ (k : ℕ) (e : RemapEntry). if same_copy (copied e) c then e.number else k) n es ≤ 65535
few_in c n [] l h = l
few_in c n (e ∷ es) l h = few_in c (if same_copy (copied e) c then e.number else n) es (either (λ k. k ≤ 65535) (same_copy (copied e) c) e.number n h.0 l) h.1

checked_list : (list : List RemapEntry) → IsCheckedList list → IsList list
checked_list list h = record {
  least = All-map (λ n. 1 ≤ n) (λ (e : RemapEntry). e.number) list (All-weaker IsCheckedEntry (λ (e : RemapEntry). 1 ≤ e.number) (λ e c. c.least) list h.entries);
  most = All-map (λ n. n ≤ 65535) (λ (e : RemapEntry). e.number) list (All-weaker IsCheckedEntry (λ (e : RemapEntry). e.number ≤ 65535) (λ e c. c.most) list h.entries);
  numbers_differ = h.numbers_differ;
  copies_differ = h.copies_differ;
}

-- ---- the makers of normals

pub low_request : (h : ℕ) → h < 2 ^ 31 → maker_of (item_of_request (h / 65536) 32) ≡ OfRequest (record { 0 = h / 65536 }) 32
low_request h l =
    let below : nat_lt (item_of_request (h / 65536) 32) (2 ^ 31) ≡ true = lt-ltb (item_of_request (h / 65536) 32) (2 ^ 31) (omega (arith, l)) in
    let is : item_of_request (h / 65536) 32 / 65536 ≡ h / 65536 = omega arith in
    let part : item_of_request (h / 65536) 32 % 65536 ≡ 32 = omega arith in
    rw (below, is, part) refl

pub high_group : (g : ℕ) → maker_of (item_of_group g 1) ≡ OfGroup (record { 0 = g }) 1
high_group g =
    let above : nat_lt (item_of_group g 1) (2 ^ 31) ≡ false = le-ltb (item_of_group g 1) (2 ^ 31) (omega arith) in
    let is : (item_of_group g 1 - 2 ^ 31) / 65536 ≡ g = omega arith in
    let part : item_of_group g 1 % 65536 ≡ 1 = omega arith in
    rw (above, is, part) refl

-- ---- what is named

-- what a group needs to be read of, for its copies
pub record CopyReads {s : ℕ} (r : Reads) (g : Group s) : Type 0 where
  pub nothing : IsRead r none
  pub item : (i : ℕ) → i ≤ 65535 → IsRead r (group_item g i)
  -- the normal of a workplane is made with it
  pub normal : (h : ℕ) → r.entities h ≡ true → IsRead r (normal_by (maker_of h))

-- what a group of each kind names in its fields, and copies
abbrev pub CopySource : {s : ℕ} → Reads → Group s → List (Entity s) → GroupKind → Type 0
CopySource r g es Space = Unit {0}
CopySource r g es Plane = IsRead r g.origin
CopySource r g es Extrude = IsRead r g.entity_b × AllByRecursion (λ e. IsRead r e.id) es
CopySource r g es Translate = AllByRecursion (λ e. IsRead r e.id) es
CopySource r g es Linked = Unit {0}

module _ {s : ℕ} (r : Reads) (g : Group s) (reads : CopyReads r g) (es : List (Entity s)) (number : NumberOf) (few : (k : CopyKey) → number k ≤ 65535) where
  abbrev Q : Entity s → Type 0
  Q e = IsRead r e.id

  abbrev P : Entity s → Type 0
  P e = NamesRead r e

  copy_read : (copy : ℕ) (e : EntityId) → IsRead r (copy_at g number copy e)
  copy_read copy e = either (IsRead r) (e.0 == 0) none (group_item g (number (e.0, copy))) reads.nothing (reads.item (number (e.0, copy)) (few (e.0, copy)))

  copies_read : (copy : ℕ) (ps : List EntityId) → AllByRecursion (IsRead r) (map (copy_at g number copy) ps)
  copies_read copy [] = tt
  copies_read copy (e ∷ ps) = (copy_read copy e, copies_read copy ps)

  made_named : (item kind : ℕ) (points : List EntityId) (normal : EntityId) (numbers : Numbering s) → AllByRecursion (IsRead r) points → IsRead r normal → NumbersRead r numbers → P (group_entity g item kind points normal numbers)
  made_named item kind points normal numbers h k n = record { points = All-from_recursion (IsRead r) points h; normal = k; distance = reads.nothing; workplane = reads.nothing; numbers = n }

  copy_named : (copy kind : ℕ) (numbers : Numbering s) (e : Entity s) → NumbersRead r numbers → P (copy_of g number copy kind numbers e)
  copy_named copy kind numbers e n = record {
    points = All-from_recursion (IsRead r) (if has_numbers e.kind then [] else map (copy_at g number copy) e.points) (either (AllByRecursion (IsRead r)) (has_numbers e.kind) [] (map (copy_at g number copy) e.points) tt (copies_read copy e.points));
    normal = either (IsRead r) (has_numbers e.kind) none (copy_at g number copy e.normal) reads.nothing (copy_read copy e.normal);
    distance = either (IsRead r) (has_numbers e.kind) none (copy_at g number copy e.distance) reads.nothing (copy_read copy e.distance);
    workplane = reads.nothing;
    numbers = n;
  }

  moved_named : (e : Entity s) (m : Move) → Q e → P (moved_copy g number e m)
  moved_named e m q =
      copy_named m.0 (moved_kind e.kind) (moved_numbers m.1 e) e
      (either (NumbersRead r) (is_point e.kind) (Moved e.id m.1) (if has_numbers e.kind then Copied e.id else Nothing) q (either (NumbersRead r) (has_numbers e.kind) (Copied e.id) Nothing q tt))

  line_named : (e : Entity s) → P (side_line g number e)
  line_named e = record {
    points = All-from_recursion (IsRead r) (copy_at g number which.TOP e.id ∷ copy_at g number which.BOTTOM e.id ∷ []) (copy_read which.TOP e.id, (copy_read which.BOTTOM e.id, tt));
    normal = reads.nothing;
    distance = reads.nothing;
    workplane = reads.nothing;
    numbers = tt;
  }

  face_named : (e : Entity s) → P (side_face g number e)
  face_named e = made_named (number (e.id.0, which.SIDE_FACE)) entity_kind.FACE_BY_LINE (map (copy_at g number which.TOP) (take 2 e.points)) none Nothing (copies_read which.TOP (take 2 e.points)) reads.nothing tt

  end_named : IsRead r g.entity_b → (copy : ℕ) (p : EntityId) → P (end_face g number copy p)
  end_named plane copy p =
      made_named (number (0, copy)) entity_kind.FACE_BY_NORMAL (copy_at g number copy p ∷ []) (normal_of_plane g.entity_b) Nothing (copy_read copy p, tt)
      (either (IsRead r) (g.entity_b.0 == 0) none (normal_by (maker_of g.entity_b.0)) reads.nothing (reads.normal g.entity_b.0 plane)) tt

  moved_face_named : (e : Entity s) (copy : ℕ) → Q e → P (face_copy g number e copy)
  moved_face_named e copy q =
      made_named (number (e.id.0, copy)) entity_kind.MOVED_FACE (copy_at g number copy (named e.points 0) ∷ []) none (Copied e.id) (copy_read copy (named e.points 0), tt) reads.nothing q

  -- ---- all of them

  abbrev AllP : List (Entity s) → Type 0
  AllP xs = AllByRecursion P xs

  all_flat : (f : Entity s → List (Entity s)) → ((e : Entity s) → Q e → AllP (f e)) → (xs : List (Entity s)) → AllByRecursion Q xs → AllP (flat_map f xs)
  all_flat f h [] q = tt
  all_flat f h (x ∷ xs) q = all_behind P (f x) (flat_map f xs) (h x q.0) (all_flat f h xs q.1)

  all_moved : (e : Entity s) → Q e → (ms : List Move) → AllP (map (moved_copy g number e) ms)
  all_moved e q [] = tt
  all_moved e q (m ∷ ms) = (moved_named e m q, all_moved e q ms)

  extruded : (e : Entity s) → Q e → AllP (extrude_as g number e)
  extruded e q = only_all P (is_extruded e) (end_copies g number e ++ only_if (is_point e.kind) (side_line g number e ∷ []) ++ only_if (e.kind == entity_kind.LINE) (side_face g number e ∷ []))
      (all_behind P (end_copies g number e ++ only_if (is_point e.kind) (side_line g number e ∷ [])) (only_if (e.kind == entity_kind.LINE) (side_face g number e ∷ []))
      (all_behind P (end_copies g number e) (only_if (is_point e.kind) (side_line g number e ∷ [])) (all_moved e q (moves_by Extrude g)) (only_all P (is_point e.kind) (side_line g number e ∷ []) (line_named e, tt)))
      (only_all P (e.kind == entity_kind.LINE) (side_face g number e ∷ []) (face_named e, tt)))

  ended : IsRead r g.entity_b → (o : Option EntityId) → AllP (end_faces g number o)
  ended plane None = tt
  ended plane (Some p) = (end_named plane which.TOP p, (end_named plane which.BOTTOM p, tt))

  all_translated : (e : Entity s) → Q e → (ms : List Move) → AllP (map (translated_by g number e) ms)
  all_translated e q [] = tt
  all_translated e q (m ∷ ms) = (either P (is_face e.kind) (face_copy g number e m.0) (moved_copy g number e m) (moved_face_named e m.0 q) (moved_named e m q), all_translated e q ms)

  translated : (e : Entity s) → Q e → AllP (translate_as g number e)
  translated e q = only_all P (is_translated e) (map (translated_by g number e) (moves_by Translate g)) (all_translated e q (moves_by Translate g))

  placed_read : (o : Option (List ℤ)) (q : Numbering s) → option_map Placed o ≡ Some q → NumbersRead r q
  placed_read None q h = cc h
  placed_read (Some zs) q h = (let is : Placed zs ≡ q = cc h in subst (NumbersRead r) is tt)

  nothing_read : (q : Numbering s) → Some Nothing ≡ Some q → NumbersRead r q
  nothing_read q h = (let is : Nothing ≡ q = cc h in subst (NumbersRead r) is tt)

  linked_read : (scale : ℤ) (k : ℕ) (n q : Numbering s) → linked_numbers scale k n ≡ Some q → NumbersRead r q
  linked_read scale k (Placed zs) q h = placed_read (placed_as s scale k zs) q h
  linked_read scale k (Own p) q h = nothing_read q h
  linked_read scale k (Moved e t) q h = nothing_read q h
  linked_read scale k (Copied e) q h = nothing_read q h
  linked_read scale k Nothing q h = nothing_read q h

  numbers_read : (e : Entity s) (q : Numbering s) → numbers_if g.scale e ≡ Some q → NumbersRead r q
  numbers_read e q h = elim (cases_Bool (has_numbers e.kind)) [
    | inl t ↦ linked_read g.scale e.kind e.numbers q (rw t at h)
    | inr f ↦ nothing_read q (rw f at h)
  ]

  one_linked : (e : Entity s) (o : Option (Numbering s)) (more : Option (List (Entity s))) (ms : List (Entity s)) → numbers_if g.scale e ≡ o → cons_if (linked_copy g number e) more ≡ Some ms → ((ns : List (Entity s)) → more ≡ Some ns → AllP ns) → AllP ms
  one_linked e None more ms p h rest = (let no : None ≡ Some ms = rw p at h in cc no)
  one_linked e (Some q) None ms p h rest = (let no : None ≡ Some ms = rw p at h in cc no)
  one_linked e (Some q) (Some ns) ms p h rest =
      let is : copy_of g number which.LINKED (linked_kind e.kind) q e ∷ ns ≡ ms = (let some : Some (copy_of g number which.LINKED (linked_kind e.kind) q e ∷ ns) ≡ Some ms = rw p at h in cc some) in
      subst AllP is (copy_named which.LINKED (linked_kind e.kind) q e (numbers_read e q p), rest ns refl)

  all_linked : (xs ms : List (Entity s)) → each_some (linked_copy g number) xs ≡ Some ms → AllP ms
  all_linked [] ms h = (let e : [] ≡ ms = cc h in subst AllP e tt)
  all_linked (x ∷ xs) ms h = one_linked x (numbers_if g.scale x) (each_some (linked_copy g number) xs) ms refl h (λ ns k. all_linked xs ns k)

  plane_named : IsRead r g.origin → AllP (plane_entities g)
  plane_named origin = (
    made_named 0 entity_kind.WORKPLANE (group_item g 2 ∷ []) (group_item g 1) Nothing (reads.item 2 (omega arith), tt) (reads.item 1 (omega arith)) tt,
    (
      made_named 1 entity_kind.COPIED_NORMAL [] none (plane_numbers g) tt reads.nothing (either (NumbersRead r) g.by_lines Nothing (Placed g.quaternion) tt tt),
      (made_named 2 entity_kind.COPIED_POINT [] none (Copied g.origin) tt reads.nothing origin, tt),
    ),
  )

  by_kind : (k : GroupKind) (ms : List (Entity s)) → CopySource r g es k → made_by k g number es ≡ Some ms → AllP ms
  by_kind Space ms q h = (let e : [] ≡ ms = cc h in subst AllP e tt)
  by_kind Plane ms q h = (let e : plane_entities g ≡ ms = cc h in subst AllP e (plane_named q))
  by_kind Extrude ms q h =
      let e : extrude g number es ≡ ms = cc h in
      subst AllP e (all_behind P (end_faces g number (first_point es)) (flat_map (extrude_as g number) es) (ended q.0 (first_point es)) (all_flat (extrude_as g number) extruded es q.1))
  by_kind Translate ms q h = (let e : translate g number es ≡ ms = cc h in subst AllP e (all_flat (translate_as g number) translated es q))
  by_kind Linked ms q h = all_linked (filter (is_linked es) es) ms h

pub copies_named : {s : ℕ} (r : Reads) (g : Group s) → CopyReads r g → (es : List (Entity s)) (c : Copies s) → IsCheckedList g.remap → CopySource r g es g.kind → copies g g.remap es ≡ Ok c → AllByRecursion (NamesRead {s = s} r) c.entities
copies_named {s} r g reads es c list source e = parts g g.remap es c (AllByRecursion (NamesRead {s = s} r) c.entities) e (λ longer ms extends made is.
    (let most = recursion_from_All (λ n. n ≤ 65535) (numbers_in longer) (stays_list (wanted g es) g.remap longer extends (checked_list g.remap list)).most in
    let few : (k : CopyKey) → number_in longer k ≤ 65535 = λ k. few_in k 0 longer (omega arith) most in
    subst (AllByRecursion (NamesRead {s = s} r)) is (all_in_order (NamesRead {s = s} r) (λ d x. nat_lt d.id.0 x.id.0) ms (by_kind r g reads es (number_in longer) few g.kind ms source made))))
