-- Remap lists that are extended may be set, and stand in the model then.
use Rattle.std.proofs.Common.{◌≡◌, ◌≢◌, inl, inr, ℕ, zero, suc, ◌+◌, ◌^◌, ◌≤◌, ◌<◌, List, [], ◌∷◌, ◌++◌, map, Bool, true, false, nat_le, Option, Some, None, Ok, refl, sym, ap, ◌∙◌, subst, arith}
use Rattle.std.specs.Prelude.{◌==◌, pos, not, ◌&&◌, max, if◌then◌else◌}
use Rattle.std.specs.List.{AllByRecursion, flat_map}
use Rattle.std.proofs.lemmas.Bool.{cases_Bool, leb-false, le-leb, ne_eqb}
use Rattle.std.proofs.lemmas.List.{map-append}
use Rattle.std.proofs.lemmas.List.Elements.{All-push}
use Rattle.std.proofs.Math.Nat.{le-max_left, le-max_right}
use Rattle.sk_types.specs.declared.entity.Entity.{Entity}
use Rattle.sk_types.specs.declared.entity_kind.TheConstants as entity_kind
use Rattle.sk_types.specs.declared.group.Group.{Group}
use Rattle.sk_types.specs.declared.group.GroupKind.{GroupKind}
use Rattle.sk_types.specs.declared.group.GroupKind.TheVariants.{Space, Plane, Extrude, Translate, Linked}
use Rattle.sk_types.specs.declared.group.RemapEntry.{RemapEntry}
use Rattle.sk_types.specs.Copies.{CopyKey, copies_in}
use Rattle.sk_types.specs.Kinds.{is_point}
use Rattle.sk_types.specs.Lists.{each_below, only_if}
use Rattle.sk_copy.specs.declared.copy_number.TheConstants as which
use Rattle.sk_copy.specs.Copies.{Copies, copies, made_by, or_past, over_list}
use Rattle.sk_copy.specs.Extended.{extended, greatest, has_copy, number_in, with_copy}
use Rattle.sk_copy.specs.Order.{by_handle}
use Rattle.sk_copy.specs.Wanted.{Move, copy_number, ends_by, extruded_as, first_copy, is_extruded, is_linked, is_translated, linked_as, moves_by, times_of, translated_as, wanted, wanted_as}
use Rattle.sk_model.specs.Chain.{seen_in}
use Rattle.sk_model.specs.Changes.{numbers_of}
use Rattle.sk_model.specs.Checked.{IsHandle}
use Rattle.sk_model.specs.Remap.{entry_over, is_in_range, numbers_in, remap_of}
use Rattle.sk_model.specs.Settable.{HasSources, IsRemapList}
use Rattle.sk_model.specs.TypingLaws.ListSteps.{all_added}
use Rattle.sk_chain.proofs.Segments.{all_behind}

-- ---- copies of a group have small numbers, and the handles of what is copied

few_first : (skip two_sided : Bool) → (if skip && not two_sided then 1 else 0) ≤ 1
few_first true true = omega arith
few_first true false = omega arith
few_first false two_sided = omega arith

small_number : (end a : ℕ) → a ≤ 1000 → copy_number end a ≤ 65535
small_number end a l = elim (cases_Bool (a + 1 == end)) [ inl t ↦ rw t (omega arith) | inr f ↦ rw f (omega (arith, l)) ]

module _ (H : ℕ → Type 0) where
  abbrev pub IsFit : CopyKey → Type 0
  IsFit c = (c.1 ≤ 65535) × H c.0

  abbrev pub AllFit : List CopyKey → Type 0
  AllFit cs = AllByRecursion IsFit cs

  fit_only : (t : Bool) (cs : List CopyKey) → AllFit cs → AllFit (only_if t cs)
  fit_only true cs h = h
  fit_only false cs h = tt

  fit_flat : {s : ℕ} (f : Entity s → List CopyKey) → ((e : Entity s) → H e.id.0 → AllFit (f e)) → (es : List (Entity s)) → AllByRecursion (λ e. H e.id.0) es → AllFit (flat_map f es)
  fit_flat f h [] k = tt
  fit_flat f h (e ∷ es) k = all_behind IsFit (f e) (flat_map f es) (h e k.0) (fit_flat f h es k.1)

  extruded_fit : {s : ℕ} (e : Entity s) → H e.id.0 → AllFit (extruded_as e)
  extruded_fit e h = fit_only (is_extruded e) _
      (all_behind IsFit ((e.id.0, which.TOP) ∷ (e.id.0, which.BOTTOM) ∷ only_if (is_point e.kind) ((e.id.0, which.SIDE_LINE) ∷ [])) (only_if (e.kind == entity_kind.LINE) ((e.id.0, which.SIDE_FACE) ∷ []))
      ((omega arith, h), ((omega arith, h), fit_only (is_point e.kind) ((e.id.0, which.SIDE_LINE) ∷ []) ((omega arith, h), tt))) (fit_only (e.kind == entity_kind.LINE) ((e.id.0, which.SIDE_FACE) ∷ []) ((omega arith, h), tt)))

  moved_fit : (h first n m : ℕ) (two_sided : Bool) → H h → first + m ≤ 1001 → AllFit (map (λ (x : Move). (h, x.0)) (each_below m (λ i. (copy_number (first + n) (first + i), times_of two_sided n (first + i)))))
  moved_fit h first n zero two_sided k l = tt
  moved_fit h first n (suc m) two_sided k l =
      subst AllFit (sym (map-append (λ (x : Move). (h, x.0)) (each_below m (λ i. (copy_number (first + n) (first + i), times_of two_sided n (first + i)))) ((copy_number (first + n) (first + m), times_of two_sided n (first + m)) ∷ [])))
      (all_behind IsFit (map (λ (x : Move). (h, x.0)) (each_below m (λ i. (copy_number (first + n) (first + i), times_of two_sided n (first + i))))) ((h, copy_number (first + n) (first + m)) ∷ [])
      (moved_fit h first n m two_sided k (omega (arith, l))) ((small_number (first + n) (first + m) (omega (arith, l)), k), tt))

  fit_by : {s : ℕ} (k : GroupKind) (g : Group s) (es : List (Entity s)) → g.copies ≤ 999 → H 0 → AllByRecursion (λ e. H e.id.0) es → AllFit (ends_by k ++ flat_map (wanted_as k g es) es)
  fit_by Space g es few none h = fit_flat (wanted_as Space g es) (λ e k. tt) es h
  fit_by Plane g es few none h = fit_flat (wanted_as Plane g es) (λ e k. tt) es h
  fit_by Extrude g es few none h = ((omega arith, none), ((omega arith, none), fit_flat extruded_as extruded_fit es h))
  fit_by {s} Translate g es few none h =
      let first = few_first g.skip_first g.two_sided in
      fit_flat (translated_as (moves_by Translate g)) (λ e k. fit_only (is_translated e) _ (moved_fit e.id.0 (first_copy g) g.copies g.copies g.two_sided k (omega (arith, few, first)))) es h
  fit_by Linked g es few none h = fit_flat (linked_as es) (λ e k. fit_only (is_linked es e) ((e.id.0, which.LINKED) ∷ []) ((omega arith, k), tt)) es h

  pub wanted_fit : {s : ℕ} (g : Group s) (es : List (Entity s)) → g.copies ≤ 999 → H 0 → AllByRecursion (λ e. H e.id.0) es → AllFit (wanted g es)
  wanted_fit g es few none h = fit_by g.kind g es few none h

abbrev pub AnyHandle : ℕ → Type 0
AnyHandle n = Unit {0}

any_handles : {s : ℕ} (es : List (Entity s)) → AllByRecursion (λ e. AnyHandle e.id.0) es
any_handles [] = tt
any_handles (e ∷ es) = (tt, any_handles es)

pub wanted_small : {s : ℕ} (g : Group s) (es : List (Entity s)) → g.copies ≤ 999 → AllFit AnyHandle (wanted g es)
wanted_small g es few = wanted_fit AnyHandle g es few tt (any_handles es)

-- ---- a list that is extended reads back

by_copy : {P : Type 0} (c : CopyKey) (cs : List CopyKey) (es fs : List RemapEntry) → extended (c ∷ cs) es ≡ Some fs
    → (has_copy c es ≡ true → extended cs es ≡ Some fs → P) → (has_copy c es ≡ false → greatest es < 65535 → extended cs (with_copy c es) ≡ Some fs → P) → P
by_copy c cs es fs e old new = elim (cases_Bool (has_copy c es)) [
  | inl t ↦ old t (rw t at e)
  | inr f ↦ elim (cases_Bool (nat_le 65535 (greatest es))) [
    | inl u ↦ (let no : None ≡ Some fs = rw (f, u) at e in cc no)
    | inr u ↦ (let more : extended cs (with_copy c es) ≡ Some fs = rw (f, u) at e in let few = leb-false 65535 (greatest es) u in new f (omega (arith, few)) more)
  ]
]

unseen_from : (k : ℕ) (es : List RemapEntry) → greatest es < k → seen_in k (numbers_in es) ≡ false
unseen_from k [] e = refl
unseen_from k (x ∷ es) e =
    let l : x.number ≤ max x.number (greatest es) = le-max_left x.number (greatest es) in
    let r : greatest es ≤ max x.number (greatest es) = le-max_right x.number (greatest es) in
    let apart : k ≢ x.number = λ same. absurd (omega (arith, e, l, same)) in
    rw (ne_eqb k x.number apart) (unseen_from k es (omega (arith, e, r)))

in_range : (n h c : ℕ) → n < 65535 → c ≤ 65535 → is_in_range (record { number = pos (1 + n); source = h; copy = pos c }) ≡ true
in_range n h c few small = rw (le-leb 1 (1 + n) (omega arith), le-leb (1 + n) 65535 (omega (arith, few)), le-leb 0 c (omega arith), le-leb c 65535 small) refl

entry_new : (id : ℕ) (c : CopyKey) (es : List RemapEntry) → has_copy c es ≡ false → greatest es < 65535 → c.1 ≤ 65535 →
    entry_over id (numbers_in es) (copies_in es) (record { number = pos (1 + greatest es); source = c.0; copy = pos c.1 }) ≡ Ok (record { number = 1 + greatest es; source = record { 0 = c.0 }; copy = c.1 })
unfolding entry_over
entry_new id c es none few small = rw (in_range (greatest es) c.0 c.1 few small, unseen_from (1 + greatest es) es (omega arith), none) refl

each_same : (es : List RemapEntry) → map (λ (e : RemapEntry). e) es ≡ es
each_same [] = refl
each_same (e ∷ es) = ap (λ l. e ∷ l) (each_same es)

list_more : (id : ℕ) (c : CopyKey) (es : List RemapEntry) → has_copy c es ≡ false → greatest es < 65535 → c.1 ≤ 65535 → IsRemapList id es → IsRemapList id (with_copy c es)
list_more id c es none few small is =
    let x : RemapEntry = record { number = 1 + greatest es; source = record { 0 = c.0 }; copy = c.1 } in
    ap (remap_of id) (map-append numbers_of es (x ∷ []))
    ∙ all_added (λ (e : RemapEntry). e) (λ before e. entry_over id (numbers_in before) (copies_in before) e) (numbers_of x) x [] (map numbers_of es) es is
    (ap (λ (l : List RemapEntry). entry_over id (numbers_in l) (copies_in l) (numbers_of x)) (each_same es) ∙ entry_new id c es none few small)

pub list_kept : (id : ℕ) (cs : List CopyKey) (es fs : List RemapEntry) → AllFit AnyHandle cs → IsRemapList id es → extended cs es ≡ Some fs → IsRemapList id fs
list_kept id [] es fs few is e = let same : es ≡ fs = cc in subst (IsRemapList id) same is
list_kept id (c ∷ cs) es fs few is e = by_copy c cs es fs e
    (λ t more. list_kept id cs es fs few.1 is more)
    (λ f small more. list_kept id cs (with_copy c es) fs few.1 (list_more id c es f small few.0.0 is) more)

pub sources_kept : (cs : List CopyKey) (es fs : List RemapEntry) → AllFit IsHandle cs → HasSources es → extended cs es ≡ Some fs → HasSources fs
sources_kept [] es fs few has e = let same : es ≡ fs = cc in subst HasSources same has
sources_kept (c ∷ cs) es fs few has e = by_copy c cs es fs e
    (λ t more. sources_kept cs es fs few.1 has more)
    (λ f small more. sources_kept cs (with_copy c es) fs few.1 (All-push (λ (x : RemapEntry). x.source.0 < 2 ^ 32) es (record { number = 1 + greatest es; source = record { 0 = c.0 }; copy = c.1 }) has few.0.1) more)

-- ---- the list that a group's copies have

past_list : {s : ℕ} (longer : List RemapEntry) (o : Option (List (Entity s))) (c : Copies s) → or_past longer o ≡ Ok c → longer ≡ c.list
past_list longer None c h = cc h
past_list {s} longer (Some es) c h = let is : record { list = longer; entities = by_handle es } ≡ c = cc h in ap (λ (d : Copies s). d.list) is

over_extended : {s : ℕ} (g : Group s) (es : List (Entity s)) (o : Option (List RemapEntry)) (c : Copies s) → over_list g es o ≡ Ok c → o ≡ Some c.list
over_extended g es None c h = cc h
over_extended g es (Some longer) c h = ap Some (past_list longer (made_by g.kind g (number_in longer) es) c h)

pub copies_extended : {s : ℕ} (g : Group s) (list : List RemapEntry) (es : List (Entity s)) (c : Copies s) → copies g list es ≡ Ok c → extended (wanted g es) list ≡ Some c.list
unfolding copies
copies_extended g list es c h = over_extended g es (extended (wanted g es) list) c h
