-- The copies that a group has, in rising handle of what is copied, then by the copy's number.
use Rattle.std.proofs.Common.{◌≡◌, inl, inr, ℕ, zero, suc, ◌+◌, ◌<◌, ◌≤◌, List, [], ◌∷◌, ◌++◌, map, Bool, true, false, refl, sym, ap, ◌∙◌, arith}
use Rattle.std.specs.Prelude.{◌==◌, ◌&&◌, not, if◌then◌else◌}
use Rattle.std.proofs.lemmas.Bool.{cases_Bool}
use Rattle.std.proofs.lemmas.List.{map-append}
use Rattle.std.specs.List.{All, AllByRecursion, flat_map}
use Rattle.std.specs.List.Sorted.{IsStrictlySortedBy}
use Rattle.std.specs.Ordering.{nat_cmp}
use Rattle.std.specs.declared.cmp.Ordering.{Ordering}
use Rattle.std.specs.declared.cmp.Ordering.TheVariants.{Less, Equal}
use Rattle.std.proofs.lemmas.Bool.Decides.{nat_tests}
use Rattle.std.proofs.lemmas.Cmp.{ranked}
use Rattle.std.proofs.lemmas.List.Elements.{recursion_from_All}
use Rattle.sk_types.specs.declared.entity.Entity.{Entity}
use Rattle.sk_types.specs.declared.entity_kind.TheConstants as entity_kind
use Rattle.sk_types.specs.declared.group.Group.{Group}
use Rattle.sk_types.specs.declared.group.GroupKind.{GroupKind}
use Rattle.sk_types.specs.declared.group.GroupKind.TheVariants.{Space, Plane, Extrude, Translate, Linked}
use Rattle.sk_types.specs.Copies.{CopyKey}
use Rattle.sk_types.specs.Kinds.{is_point}
use Rattle.sk_types.specs.Lists.{each_below, only_if}
use Rattle.sk_types.specs.Lookups.{Rise, entity_handle}
use Rattle.sk_copy.specs.declared.copy_number.TheConstants as which
use Rattle.sk_copy.specs.Wanted.{Move, copy_number, ends_by, extruded_as, first_copy, is_extruded, is_linked, is_translated, linked_as, moves_by, times_of, translated_as, wanted, wanted_as}
use Rattle.sk_copy.specs.Laws.{HaveHandles, copy_cmp}

pub less_is : (a b : ℕ) → nat_cmp a b ≡ Less → a < b
less_is a b e = ranked a b Less (sym e)

pub is_less : (a b : ℕ) → a < b → nat_cmp a b ≡ Less
is_less a b l = grind (arith, nat_tests, l)

pub ties : (a : ℕ) → nat_cmp a a ≡ Equal
ties a = grind (arith, nat_tests)

copy_less : (c d : CopyKey) → c.0 < d.0 → copy_cmp c d ≡ Less
copy_less c d l = rw (is_less c.0 d.0 l) refl

-- ---- lists that rise, one behind the other

module _ {K : Type 0} (cmp : K → K → Ordering) where
  abbrev pub AllLess : K → List K → Type 0
  AllLess x ys = AllByRecursion (λ y. cmp x y ≡ Less) ys

  all_behind : (x : K) (xs ys : List K) → AllLess x xs → AllLess x ys → AllLess x (xs ++ ys)
  all_behind x [] ys h k = k
  all_behind x (z ∷ xs) ys h k = (h.0, all_behind x xs ys h.1 k)

  joined : (xs ys : List K) → IsStrictlySortedBy cmp xs → IsStrictlySortedBy cmp ys → AllByRecursion (λ x. AllLess x ys) xs → IsStrictlySortedBy cmp (xs ++ ys)
  unfolding IsStrictlySortedBy
  joined [] ys h k l = k
  joined (x ∷ xs) ys h k l = (all_behind x xs ys h.0 l.0, joined xs ys h.1 k l.1)

-- ---- the copies of one thing

-- all of this handle, and all of higher ones
abbrev Of : ℕ → List CopyKey → Type 0
Of h cs = AllByRecursion (λ (c : CopyKey). c.0 ≡ h) cs

abbrev Above : ℕ → List CopyKey → Type 0
Above h cs = AllByRecursion (λ (c : CopyKey). h < c.0) cs

above_behind : (h : ℕ) (cs ds : List CopyKey) → Above h cs → Above h ds → Above h (cs ++ ds)
above_behind h [] ds a b = b
above_behind h (c ∷ cs) ds a b = (a.0, above_behind h cs ds a.1 b)

of_above : (g h : ℕ) (cs : List CopyKey) → g < h → Of h cs → Above g cs
of_above g h [] l o = tt
of_above g h (c ∷ cs) l o = (let e = o.0 in omega (arith, l, e), of_above g h cs l o.1)

less_all : (h : ℕ) (c : CopyKey) (ds : List CopyKey) → c.0 ≡ h → Above h ds → AllLess copy_cmp c ds
less_all h c [] e a = tt
less_all h c (d ∷ ds) e a = (let l = a.0 in copy_less c d (omega (arith, e, l)), less_all h c ds e a.1)

all_less : (h : ℕ) (cs ds : List CopyKey) → Of h cs → Above h ds → AllByRecursion (λ (c : CopyKey). AllLess copy_cmp c ds) cs
all_less h [] ds o a = tt
all_less h (c ∷ cs) ds o a = (less_all h c ds o.0 a, all_less h cs ds o.1 a)

-- the copies of a thing with these numbers
abbrev block : ℕ → List ℕ → List CopyKey
block h ns = map (λ (n : ℕ). (h, n)) ns

block_less : (h n : ℕ) (ns : List ℕ) → AllLess nat_cmp n ns → AllLess copy_cmp (h, n) (block h ns)
block_less h n [] l = tt
block_less h n (m ∷ ns) l = (rw (ties h) l.0, block_less h n ns l.1)

block_rises : (h : ℕ) (ns : List ℕ) → IsStrictlySortedBy nat_cmp ns → IsStrictlySortedBy copy_cmp (block h ns)
unfolding IsStrictlySortedBy
block_rises h [] s = tt
block_rises h (n ∷ ns) s = (block_less h n ns s.0, block_rises h ns s.1)

block_of : (h : ℕ) (ns : List ℕ) → Of h (block h ns)
block_of h [] = tt
block_of h (n ∷ ns) = (refl, block_of h ns)

-- ---- the copies of things by rising handle

module _ {s : ℕ} (numbers : Entity s → List ℕ) (rise : (e : Entity s) → IsStrictlySortedBy nat_cmp (numbers e)) where
  abbrev copies_of : Entity s → List CopyKey
  copies_of e = block e.id.0 (numbers e)

  higher : (h : ℕ) (es : List (Entity s)) → AllLess nat_cmp h (map entity_handle es) → Above h (flat_map copies_of es)
  higher h [] l = tt
  higher h (e ∷ es) l = above_behind h (copies_of e) (flat_map copies_of es) (of_above h e.id.0 (copies_of e) (less_is h e.id.0 l.0) (block_of e.id.0 (numbers e))) (higher h es l.1)

  flat_rises : (es : List (Entity s)) → Rise es → IsStrictlySortedBy copy_cmp (flat_map copies_of es)
  unfolding IsStrictlySortedBy
  flat_rises [] r = tt
  flat_rises (e ∷ es) r =
      joined copy_cmp (copies_of e) (flat_map copies_of es) (block_rises e.id.0 (numbers e) (rise e)) (flat_rises es r.1)
      (all_less e.id.0 (copies_of e) (flat_map copies_of es) (block_of e.id.0 (numbers e)) (higher e.id.0 es r.0))

flat_same : {s : ℕ} (f g : Entity s → List CopyKey) → ((e : Entity s) → f e ≡ g e) → (es : List (Entity s)) → flat_map f es ≡ flat_map g es
flat_same f g h [] = refl
flat_same f g h (e ∷ es) = ap (λ cs. cs ++ flat_map f es) (h e) ∙ ap (λ cs. g e ++ cs) (flat_same f g h es)

-- ---- an extrusion

abbrev ends_and : Bool → Bool → Bool → List ℕ
ends_and t p l = only_if t (which.TOP ∷ which.BOTTOM ∷ only_if p (which.SIDE_LINE ∷ []) ++ only_if l (which.SIDE_FACE ∷ []))

ends_rise : (t p l : Bool) → IsStrictlySortedBy nat_cmp (ends_and t p l)
unfolding IsStrictlySortedBy
ends_rise false p l = tt
ends_rise true true true = ((refl, (refl, (refl, tt))), ((refl, (refl, tt)), ((refl, tt), (tt, tt))))
ends_rise true true false = ((refl, (refl, tt)), ((refl, tt), (tt, tt)))
ends_rise true false true = ((refl, (refl, tt)), ((refl, tt), (tt, tt)))
ends_rise true false false = ((refl, tt), (tt, tt))

ends_block : (h : ℕ) (t p l : Bool) →
    only_if t ((h, which.TOP) ∷ (h, which.BOTTOM) ∷ only_if p ((h, which.SIDE_LINE) ∷ []) ++ only_if l ((h, which.SIDE_FACE) ∷ [])) ≡ block h (ends_and t p l)
ends_block h false p l = refl
ends_block h true true true = refl
ends_block h true true false = refl
ends_block h true false true = refl
ends_block h true false false = refl

abbrev extruded_numbers : {s : ℕ} → Entity s → List ℕ
extruded_numbers e = ends_and (is_extruded e) (is_point e.kind) (e.kind == entity_kind.LINE)

extruded_rise : {s : ℕ} (e : Entity s) → IsStrictlySortedBy nat_cmp (extruded_numbers e)
extruded_rise e = ends_rise (is_extruded e) (is_point e.kind) (e.kind == entity_kind.LINE)

above_none : {s : ℕ} (es : List (Entity s)) → AllByRecursion (λ e. 0 < e.id.0) es → AllLess nat_cmp 0 (map entity_handle es)
above_none [] h = tt
above_none (e ∷ es) h = (is_less 0 e.id.0 h.0, above_none es h.1)

pub extruded_rises : {s : ℕ} (es : List (Entity s)) → Rise es → All (λ e. 0 < e.id.0) es → IsStrictlySortedBy copy_cmp ((0, which.TOP) ∷ (0, which.BOTTOM) ∷ flat_map extruded_as es)
extruded_rises {s} es r a =
    let of_one : Entity s → List CopyKey = λ e. block e.id.0 (extruded_numbers e) in
    rw (flat_same extruded_as of_one (λ e. ends_block e.id.0 (is_extruded e) (is_point e.kind) (e.kind == entity_kind.LINE)) es)
    (joined copy_cmp (block 0 (ends_and true false false)) (flat_map of_one es)
    (block_rises 0 (ends_and true false false) (ends_rise true false false))
    (flat_rises extruded_numbers extruded_rise es r)
    (all_less 0 (block 0 (ends_and true false false)) (flat_map of_one es) (block_of 0 (ends_and true false false)) (higher extruded_numbers extruded_rise 0 es (above_none es (recursion_from_All (λ e. 0 < e.id.0) es a)))))

-- ---- a translation

below_less : (f : ℕ → ℕ) (n m : ℕ) → n ≤ m → ((i j : ℕ) → i < j → j ≤ m → f i < f j) → AllByRecursion (λ (x : ℕ). AllLess nat_cmp x (f m ∷ [])) (each_below n f)
below_less f zero m l h = tt
below_less f (suc n) m l h = behind (each_below n f) (f n) (below_less f n m (omega (arith, l)) h) (is_less (f n) (f m) (h n m (omega (arith, l)) (omega arith)))
  where
    behind : (xs : List ℕ) (x : ℕ) → AllByRecursion (λ (y : ℕ). AllLess nat_cmp y (f m ∷ [])) xs → nat_cmp x (f m) ≡ Less → AllByRecursion (λ (y : ℕ). AllLess nat_cmp y (f m ∷ [])) (xs ++ x ∷ [])
    behind [] x a e = ((e, tt), tt)
    behind (y ∷ xs) x a e = (a.0, behind xs x a.1 e)

below_rises : (f : ℕ → ℕ) (n : ℕ) → ((i j : ℕ) → i < j → j < n → f i < f j) → IsStrictlySortedBy nat_cmp (each_below n f)
unfolding IsStrictlySortedBy
below_rises f zero h = tt
below_rises f (suc n) h =
    joined nat_cmp (each_below n f) (f n ∷ []) (below_rises f n (λ i j l m. h i j l (omega (arith, m)))) (tt, tt) (below_less f n n (omega arith) (λ i j l m. h i j l (omega (arith, m))))

number_rises : (first n i j : ℕ) → first ≤ 1 → n ≤ 999 → i < j → j < n → copy_number (first + n) (first + i) < copy_number (first + n) (first + j)
number_rises first n i j f m l k = elim (cases_Bool ((first + j) + 1 == first + n)) [
  | inl t ↦ (let early : ((first + i) + 1 == first + n) ≡ false = grind (arith, nat_tests, l, k) in rw (t, early) (omega (arith, f, m, l, k)))
  | inr u ↦ (let early : ((first + i) + 1 == first + n) ≡ false = grind (arith, nat_tests, l, k) in rw (u, early) (omega (arith, l)))
]

abbrev moved_numbers : ℕ → ℕ → List ℕ
moved_numbers first n = each_below n (λ i. copy_number (first + n) (first + i))

numbers_moved : (h first n m : ℕ) (two_sided : Bool) → map (λ (x : Move). (h, x.0)) (each_below m (λ i. (copy_number (first + n) (first + i), times_of two_sided n (first + i)))) ≡ block h (each_below m (λ i. copy_number (first + n) (first + i)))
numbers_moved h first n zero two_sided = refl
numbers_moved h first n (suc m) two_sided =
    map-append (λ (x : Move). (h, x.0)) (each_below m (λ i. (copy_number (first + n) (first + i), times_of two_sided n (first + i)))) ((copy_number (first + n) (first + m), times_of two_sided n (first + m)) ∷ [])
    ∙ ap (λ cs. cs ++ (h, copy_number (first + n) (first + m)) ∷ []) (numbers_moved h first n m two_sided)
    ∙ sym (map-append (λ (k : ℕ). (h, k)) (each_below m (λ i. copy_number (first + n) (first + i))) (copy_number (first + n) (first + m) ∷ []))

only_block : (t : Bool) (h : ℕ) (cs : List CopyKey) (ns : List ℕ) → cs ≡ block h ns → only_if t cs ≡ block h (only_if t ns)
only_block true h cs ns e = e
only_block false h cs ns e = refl

only_rises : (t : Bool) (ns : List ℕ) → IsStrictlySortedBy nat_cmp ns → IsStrictlySortedBy nat_cmp (only_if t ns)
unfolding IsStrictlySortedBy
only_rises true ns s = s
only_rises false ns s = tt

few_first : (skip two_sided : Bool) → (if skip && not two_sided then 1 else 0) ≤ 1
few_first true true = omega arith
few_first true false = omega arith
few_first false two_sided = omega arith

module _ {s : ℕ} (g : Group s) (few : g.copies ≤ 999) where
  abbrev translated_numbers : Entity s → List ℕ
  translated_numbers e = only_if (is_translated e) (moved_numbers (first_copy g) g.copies)

  moved_rise : (e : Entity s) → IsStrictlySortedBy nat_cmp (translated_numbers e)
  moved_rise e = only_rises (is_translated e) (moved_numbers (first_copy g) g.copies)
      (below_rises (λ i. copy_number (first_copy g + g.copies) (first_copy g + i)) g.copies (λ i j l k. number_rises (first_copy g) g.copies i j (few_first g.skip_first g.two_sided) few l k))

  pub translated_rises : (es : List (Entity s)) → Rise es → IsStrictlySortedBy copy_cmp (flat_map (translated_as (moves_by Translate g)) es)
  translated_rises es r =
      rw (flat_same (translated_as (moves_by Translate g)) (copies_of translated_numbers moved_rise) (λ e. only_block (is_translated e) e.id.0 _ (moved_numbers (first_copy g) g.copies) (numbers_moved e.id.0 (first_copy g) g.copies g.copies g.two_sided)) es)
      (flat_rises translated_numbers moved_rise es r)

-- ---- a linked part

module _ {s : ℕ} (part : List (Entity s)) where
  abbrev linked_numbers : Entity s → List ℕ
  linked_numbers e = only_if (is_linked part e) (which.LINKED ∷ [])

  one_rises : IsStrictlySortedBy nat_cmp (which.LINKED ∷ [])
  unfolding IsStrictlySortedBy
  one_rises = (tt, tt)

  linked_rise : (e : Entity s) → IsStrictlySortedBy nat_cmp (linked_numbers e)
  linked_rise e = only_rises (is_linked part e) (which.LINKED ∷ []) one_rises

  pub linked_rises : (es : List (Entity s)) → Rise es → IsStrictlySortedBy copy_cmp (flat_map (linked_as part) es)
  linked_rises es r =
      rw (flat_same (linked_as part) (copies_of linked_numbers linked_rise) (λ e. only_block (is_linked part e) e.id.0 ((e.id.0, which.LINKED) ∷ []) (which.LINKED ∷ []) refl) es)
      (flat_rises linked_numbers linked_rise es r)

-- ---- the whole

none_rise : {s : ℕ} (es : List (Entity s)) → IsStrictlySortedBy copy_cmp (flat_map (λ (e : Entity s). []) es)
unfolding IsStrictlySortedBy
none_rise [] = tt
none_rise (e ∷ es) = none_rise es

by_kind : {s : ℕ} (k : GroupKind) (g : Group s) (es : List (Entity s)) → g.copies ≤ 999 → Rise es → HaveHandles k es → IsStrictlySortedBy copy_cmp (ends_by k ++ flat_map (wanted_as k g es) es)
by_kind Space g es few r h = none_rise es
by_kind Plane g es few r h = none_rise es
by_kind Extrude g es few r h = extruded_rises es r h
by_kind Translate g es few r h = translated_rises g few es r
by_kind Linked g es few r h = linked_rises es es r

pub wanted_rises : {s : ℕ} (g : Group s) (es : List (Entity s)) → g.copies ≤ 999 → Rise es → HaveHandles g.kind es → IsStrictlySortedBy copy_cmp (wanted g es)
wanted_rises g es few r h = by_kind g.kind g es few r h
