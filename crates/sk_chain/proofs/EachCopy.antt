-- What holds of each thing that a group makes of an entity holds of all that it makes.
use Rattle.std.proofs.Common.{◌≡◌, ℕ, List, [], ◌∷◌, ◌++◌, map, Bool, true, false, Option, Some, None, Ok, refl, subst}
use Rattle.std.specs.Prelude.{◌==◌, nat_lt, if◌then◌else◌}
use Rattle.std.specs.List.{All, AllByRecursion, filter, flat_map}
use Rattle.std.proofs.lemmas.List.Elements.{All-from_recursion, recursion_from_All, filter_passes}
use Rattle.sk_num.specs.Each.{cons_if, each_some}
use Rattle.sk_types.specs.declared.handle.EntityId.{EntityId}
use Rattle.sk_types.specs.declared.entity.Entity.{Entity}
use Rattle.sk_types.specs.declared.entity.Numbering.{Numbering}
use Rattle.sk_types.specs.declared.entity_kind.TheConstants as entity_kind
use Rattle.sk_types.specs.declared.group.Group.{Group}
use Rattle.sk_types.specs.declared.group.GroupKind.{GroupKind}
use Rattle.sk_types.specs.declared.group.GroupKind.TheVariants.{Space, Plane, Extrude, Translate, Linked}
use Rattle.sk_types.specs.declared.group.RemapEntry.{RemapEntry}
use Rattle.sk_types.specs.Kinds.{is_face, is_point}
use Rattle.sk_types.specs.Lists.{only_if}
use Rattle.sk_copy.specs.declared.copy_number.TheConstants as which
use Rattle.sk_copy.specs.Extended.{number_in}
use Rattle.sk_copy.specs.Order.{by_handle}
use Rattle.sk_copy.specs.Wanted.{Move, is_extruded, is_linked, is_translated, moves_by}
use Rattle.sk_copy.specs.Copies.{Copies, NumberOf, copies, copy_of, end_copies, end_face, end_faces, extrude, extrude_as, face_copy, first_point, linked_copy, linked_kind, made_by, moved_copy, numbers_if, plane_entities, side_face, side_line, translate, translate_as, translated_by}
use Rattle.sk_copy.proofs.Apartness.{parts}
use Rattle.sk_chain.proofs.InOrder.{all_in_order}
use Rattle.sk_chain.proofs.Segments.{all_behind}

-- Q holds of what is copied, other than of a part; then P holds of each thing that is made
pub record OfEach {s : ℕ} (g : Group s) (es : List (Entity s)) (Q P : Entity s → Type 0) : Type 0 where
  pub plane : AllByRecursion P (plane_entities g)
  pub moved : (number : NumberOf) (e : Entity s) (m : Move) → Q e → P (moved_copy g number e m)
  pub line : (number : NumberOf) (e : Entity s) → P (side_line g number e)
  pub face : (number : NumberOf) (e : Entity s) → P (side_face g number e)
  pub ends : (number : NumberOf) (copy : ℕ) (p : EntityId) → P (end_face g number copy p)
  pub moved_face : (number : NumberOf) (e : Entity s) (copy : ℕ) → P (face_copy g number e copy)
  pub linked : (number : NumberOf) (e : Entity s) (q : Numbering s) → is_linked es e ≡ true → numbers_if g.scale e ≡ Some q → P (copy_of g number which.LINKED (linked_kind e.kind) q e)

-- what is copied other than of a part
abbrev pub IsKnownSource : {s : ℕ} → (Entity s → Type 0) → GroupKind → List (Entity s) → Type 0
IsKnownSource Q Space es = Unit {0}
IsKnownSource Q Plane es = Unit {0}
IsKnownSource Q Extrude es = AllByRecursion Q es
IsKnownSource Q Translate es = AllByRecursion Q es
IsKnownSource Q Linked es = Unit {0}

module _ {s : ℕ} (g : Group s) (es : List (Entity s)) (Q P : Entity s → Type 0) (each : OfEach g es Q P) where
  abbrev AllP : List (Entity s) → Type 0
  AllP xs = AllByRecursion P xs

  all_only : (t : Bool) (xs : List (Entity s)) → AllP xs → AllP (only_if t xs)
  all_only true xs h = h
  all_only false xs h = tt

  all_flat : (f : Entity s → List (Entity s)) → ((e : Entity s) → Q e → AllP (f e)) → (xs : List (Entity s)) → AllByRecursion Q xs → AllP (flat_map f xs)
  all_flat f h [] q = tt
  all_flat f h (x ∷ xs) q = all_behind P (f x) (flat_map f xs) (h x q.0) (all_flat f h xs q.1)

  module _ (number : NumberOf) where
    all_moved : (e : Entity s) → Q e → (ms : List Move) → AllP (map (moved_copy g number e) ms)
    all_moved e q [] = tt
    all_moved e q (m ∷ ms) = (each.moved number e m q, all_moved e q ms)

    extruded : (e : Entity s) → Q e → AllP (extrude_as g number e)
    extruded e q = all_only (is_extruded e) (end_copies g number e ++ only_if (is_point e.kind) (side_line g number e ∷ []) ++ only_if (e.kind == entity_kind.LINE) (side_face g number e ∷ []))
        (all_behind P (end_copies g number e ++ only_if (is_point e.kind) (side_line g number e ∷ [])) (only_if (e.kind == entity_kind.LINE) (side_face g number e ∷ []))
        (all_behind P (end_copies g number e) (only_if (is_point e.kind) (side_line g number e ∷ [])) (all_moved e q (moves_by Extrude g)) (all_only (is_point e.kind) (side_line g number e ∷ []) (each.line number e, tt)))
        (all_only (e.kind == entity_kind.LINE) (side_face g number e ∷ []) (each.face number e, tt)))

    ended : (o : Option EntityId) → AllP (end_faces g number o)
    ended None = tt
    ended (Some p) = (each.ends number which.TOP p, (each.ends number which.BOTTOM p, tt))

    either : (t : Bool) (x y : Entity s) → P x → P y → P (if t then x else y)
    either true x y h k = h
    either false x y h k = k

    all_translated : (e : Entity s) → Q e → (ms : List Move) → AllP (map (translated_by g number e) ms)
    all_translated e q [] = tt
    all_translated e q (m ∷ ms) = (either (is_face e.kind) (face_copy g number e m.0) (moved_copy g number e m) (each.moved_face number e m.0) (each.moved number e m q), all_translated e q ms)

    translated : (e : Entity s) → Q e → AllP (translate_as g number e)
    translated e q = all_only (is_translated e) (map (translated_by g number e) (moves_by Translate g)) (all_translated e q (moves_by Translate g))

    one_linked : (e : Entity s) (o : Option (Numbering s)) (more : Option (List (Entity s))) (ms : List (Entity s)) → is_linked es e ≡ true → numbers_if g.scale e ≡ o → cons_if (linked_copy g number e) more ≡ Some ms →
        ((ns : List (Entity s)) → more ≡ Some ns → AllP ns) → AllP ms
    one_linked e None more ms t p h rest = (let no : None ≡ Some ms = rw p at h in cc no)
    one_linked e (Some q) None ms t p h rest = (let no : None ≡ Some ms = rw p at h in cc no)
    one_linked e (Some q) (Some ns) ms t p h rest =
        let is : copy_of g number which.LINKED (linked_kind e.kind) q e ∷ ns ≡ ms = (let some : Some (copy_of g number which.LINKED (linked_kind e.kind) q e ∷ ns) ≡ Some ms = rw p at h in cc some) in
        subst AllP is (each.linked number e q t p, rest ns refl)

    all_linked : (xs ms : List (Entity s)) → AllByRecursion (λ e. is_linked es e ≡ true) xs → each_some (linked_copy g number) xs ≡ Some ms → AllP ms
    all_linked [] ms t h = (let e : [] ≡ ms = cc h in subst AllP e tt)
    all_linked (x ∷ xs) ms t h = one_linked x (numbers_if g.scale x) (each_some (linked_copy g number) xs) ms t.0 refl h (λ ns k. all_linked xs ns t.1 k)

  by_kind : (k : GroupKind) (number : NumberOf) (ms : List (Entity s)) → IsKnownSource Q k es → made_by k g number es ≡ Some ms → AllP ms
  by_kind Space number ms q h = (let e : [] ≡ ms = cc h in subst AllP e tt)
  by_kind Plane number ms q h = (let e : plane_entities g ≡ ms = cc h in subst AllP e each.plane)
  by_kind Extrude number ms q h =
      let e : extrude g number es ≡ ms = cc h in
      subst AllP e (all_behind P (end_faces g number (first_point es)) (flat_map (extrude_as g number) es) (ended number (first_point es)) (all_flat (extrude_as g number) (extruded number) es q))
  by_kind Translate number ms q h = (let e : translate g number es ≡ ms = cc h in subst AllP e (all_flat (translate_as g number) (translated number) es q))
  by_kind Linked number ms q h = all_linked number (filter (is_linked es) es) ms (recursion_from_All (λ e. is_linked es e ≡ true) (filter (is_linked es) es) (filter_passes (is_linked es) es)) h

  pub all_copies : (list : List RemapEntry) (c : Copies s) → IsKnownSource Q g.kind es → copies g list es ≡ Ok c → All P c.entities
  all_copies list c q e = parts g list es c (All P c.entities) e (λ longer ms extends made is.
      subst (All P) is (All-from_recursion P (by_handle ms) (all_in_order P (λ d x. nat_lt d.id.0 x.id.0) ms (by_kind g.kind (number_in longer) ms q made))))
