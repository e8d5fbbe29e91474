-- What groups make other than by requests is theirs, of a known kind, and has no parameters of its own.
use Rattle.std.proofs.Common.{◌≡◌, inl, inr, ℕ, ℤ, ◌≤◌, List, [], Bool, true, false, Option, Some, None, Ok, refl, subst, arith}
use Rattle.std.specs.Prelude.{◌==◌, ◌&&◌, ◌||◌, if◌then◌else◌}
use Rattle.std.specs.List.{All}
use Rattle.std.specs.Option.{option_map}
use Rattle.std.proofs.lemmas.Bool.{cases_Bool, eqb-true}
use Rattle.sk_types.specs.declared.entity.Entity.{Entity}
use Rattle.sk_types.specs.declared.entity.Numbering.{Numbering}
use Rattle.sk_types.specs.declared.entity.Numbering.TheVariants.{Own, Moved, Copied, Placed, Nothing}
use Rattle.sk_types.specs.declared.entity_kind.TheConstants as entity_kind
use Rattle.sk_types.specs.declared.group.Group.{Group}
use Rattle.sk_types.specs.declared.group.RemapEntry.{RemapEntry}
use Rattle.sk_types.specs.Kinds.{has_numbers, is_distance, is_normal, is_point}
use Rattle.sk_types.specs.Params.{own_count, own_from, own_params}
use Rattle.sk_copy.specs.Wanted.{is_linked, is_whole, names_fit}
use Rattle.sk_copy.specs.Copies.{Copies, copies, linked_kind, linked_numbers, moved_kind, moved_numbers, numbers_if, placed_as}
use Rattle.sk_chain.proofs.EachCopy.{IsKnownSource, OfEach, all_copies}

pub record IsKnownCopy {s : ℕ} (g : Group s) (e : Entity s) : Type 0 where
  pub group : e.group ≡ g.id
  pub kind : e.kind ≤ 65535
  pub own : own_params e ≡ []

abbrev pub IsSmallKind : {s : ℕ} → Entity s → Type 0
IsSmallKind e = e.kind ≤ 65535

small_if : (t : Bool) (m n : ℕ) → m ≤ 65535 → n ≤ 65535 → (if t then m else n) ≤ 65535
small_if true m n a b = a
small_if false m n a b = b

none_if : {s : ℕ} (n : ℕ) (t : Bool) (p q : Numbering s) → own_from n p ≡ [] → own_from n q ≡ [] → own_from n (if t then p else q) ≡ []
none_if n true p q a b = a
none_if n false p q a b = b

moved_small : (k : ℕ) → k ≤ 65535 → moved_kind k ≤ 65535
moved_small k l = small_if (is_point k) entity_kind.MOVED_POINT _ (omega arith) (small_if (is_normal k) entity_kind.COPIED_NORMAL _ (omega arith) (small_if (is_distance k) entity_kind.COPIED_DISTANCE k (omega arith) l))

moved_none : {s : ℕ} (n : ℕ) (times : ℤ) (e : Entity s) → own_from n (moved_numbers times e) ≡ []
moved_none n times e = none_if n (is_point e.kind) (Moved e.id times) (if has_numbers e.kind then Copied e.id else Nothing) refl (none_if n (has_numbers e.kind) (Copied e.id) Nothing refl refl)

-- ---- of a part

either_true : (a b : Bool) → (a || b) ≡ true → (a ≡ false) → b ≡ true
either_true true b e f = cc
either_true false b e f = e

both_true : (a b : Bool) → (a && b) ≡ true → a ≡ true
both_true true b e = refl
both_true false b e = cc

linked_if : (p n d : Bool) (k : ℕ) → (p || (n || d)) ≡ true → (if p then entity_kind.TURNED_POINT else if n then entity_kind.TURNED_NORMAL else if d then entity_kind.COPIED_DISTANCE else k) ≤ 65535
linked_if true n d k e = omega arith
linked_if false true d k e = omega arith
linked_if false false true k e = omega arith
linked_if false false false k e = cc

small_at : (k n : ℕ) → n ≤ 65535 → (k == n) ≡ true → k ≤ 65535
small_at k n l t = let is : k ≡ n = eqb-true k n t in omega (arith, l, is)

whole_if : (k : ℕ) (a b c : Bool) → (if k == entity_kind.LINE then a else if k == entity_kind.CIRCLE then b else if k == entity_kind.ARC then c else false) ≡ true → k ≤ 65535
whole_if k a b c e = elim (cases_Bool (k == entity_kind.LINE)) [
  | inl t ↦ small_at k entity_kind.LINE (omega arith) t
  | inr f ↦ elim (cases_Bool (k == entity_kind.CIRCLE)) [
    | inl t ↦ small_at k entity_kind.CIRCLE (omega arith) t
    | inr g ↦ elim (cases_Bool (k == entity_kind.ARC)) [
      | inl t ↦ small_at k entity_kind.ARC (omega arith) t
      | inr h ↦ (let no : false ≡ true = rw (f, g, h) at e in cc no)
    ]
  ]
]

linked_small : {s : ℕ} (es : List (Entity s)) (e : Entity s) → is_linked es e ≡ true → linked_kind e.kind ≤ 65535
linked_small es e t = elim (cases_Bool (has_numbers e.kind)) [
  | inl y ↦ linked_if (is_point e.kind) (is_normal e.kind) (is_distance e.kind) e.kind y
  | inr f ↦ small_if (is_point e.kind) entity_kind.TURNED_POINT _ (omega arith) (small_if (is_normal e.kind) entity_kind.TURNED_NORMAL _ (omega arith) (small_if (is_distance e.kind) entity_kind.COPIED_DISTANCE e.kind (omega arith)
      (whole_if e.kind _ _ _ (both_true (is_whole e) (names_fit es e) (either_true (has_numbers e.kind) (is_whole e && names_fit es e) t f)))))
]

placed_none : {s : ℕ} (n : ℕ) (o : Option (List ℤ)) (q : Numbering s) → option_map Placed o ≡ Some q → own_from n q ≡ []
placed_none n None q h = cc
placed_none {s} n (Some zs) q h = let is : Placed zs ≡ q = cc in subst (λ (p : Numbering s). own_from n p ≡ []) is refl

nothing_none : {s : ℕ} (n : ℕ) (q : Numbering s) → Some Nothing ≡ Some q → own_from n q ≡ []
nothing_none {s} n q h = let is : Nothing ≡ q = cc in subst (λ (p : Numbering s). own_from n p ≡ []) is refl

linked_none : {s : ℕ} (n : ℕ) (scale : ℤ) (k : ℕ) (p q : Numbering s) → linked_numbers scale k p ≡ Some q → own_from n q ≡ []
linked_none {s} n scale k (Placed zs) q h = placed_none n (placed_as s scale k zs) q h
linked_none n scale k (Own p) q h = nothing_none n q h
linked_none n scale k (Moved e t) q h = nothing_none n q h
linked_none n scale k (Copied e) q h = nothing_none n q h
linked_none n scale k Nothing q h = nothing_none n q h

numbers_none : {s : ℕ} (n : ℕ) (scale : ℤ) (e : Entity s) (q : Numbering s) → numbers_if scale e ≡ Some q → own_from n q ≡ []
numbers_none n scale e q h = elim (cases_Bool (has_numbers e.kind)) [
  | inl t ↦ linked_none n scale e.kind e.numbers q (rw t at h)
  | inr f ↦ nothing_none n q (rw f at h)
]

-- ---- all of them

module _ {s : ℕ} (g : Group s) (es : List (Entity s)) where
  known : (e : Entity s) → e.group ≡ g.id → e.kind ≤ 65535 → own_params e ≡ [] → IsKnownCopy g e
  known e a b c = record { group = a; kind = b; own = c }

  each_known : OfEach g es IsSmallKind (IsKnownCopy g)
  each_known = record {
    plane = (known _ refl (omega arith) refl, (known _ refl (omega arith) (none_if (own_count entity_kind.COPIED_NORMAL) g.by_lines Nothing (Placed g.quaternion) refl refl), (known _ refl (omega arith) refl, tt)));
    moved = λ number e m small. known _ refl (moved_small e.kind small) (moved_none (own_count (moved_kind e.kind)) m.1 e);
    line = λ number e. known _ refl (omega arith) refl;
    face = λ number e. known _ refl (omega arith) refl;
    ends = λ number copy p. known _ refl (omega arith) refl;
    moved_face = λ number e copy. known _ refl (omega arith) refl;
    linked = λ number e q t h. known _ refl (linked_small es e t) (numbers_none (own_count (linked_kind e.kind)) g.scale e q h);
  }

  pub copies_known : (list : List RemapEntry) (c : Copies s) → IsKnownSource IsSmallKind g.kind es → copies g list es ≡ Ok c → All (IsKnownCopy g) c.entities
  copies_known list c q e = all_copies g es IsSmallKind (IsKnownCopy g) each_known list c q e
