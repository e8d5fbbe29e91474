-- What holds of remap lists that are extended, and of the copies that groups have.
use Rattle.std.specs.Prelude.{◌≡◌, ◌≤◌, ◌<◌, ⊤, ℕ, List, ◌++◌, length, nat_eq, Ok, Some, true}
use Rattle.std.specs.List.{All, IsDistinct, list_any}
use Rattle.std.specs.List.Sorted.{IsStrictlySortedBy}
use Rattle.std.specs.Ordering.{nat_cmp, ordering_then}
use Rattle.std.specs.declared.cmp.Ordering.{Ordering}
use Rattle.sk_types.specs.declared.entity.Entity.{Entity}
use Rattle.sk_types.specs.declared.group.Group.{Group}
use Rattle.sk_types.specs.declared.group.GroupKind.{GroupKind}
use Rattle.sk_types.specs.declared.group.GroupKind.TheVariants.{Space, Plane, Extrude, Translate, Linked}
use Rattle.sk_types.specs.declared.group.RemapEntry.{RemapEntry}
use Rattle.sk_types.specs.Handles.{item_of_group}
use Rattle.sk_types.specs.Lookups.{Rise}
use Rattle.sk_types.specs.Copies.{CopyKey, copies_in, same_copy}
use Rattle.sk_copy.specs.Wanted.{wanted}
use Rattle.sk_copy.specs.Copies.{Copies, copies}
use Rattle.sk_copy.specs.Extended.{extended, has_copy, number_in, numbers_in}

-- numbers are 1 to 65535, and no number and no copy stands twice
pub record IsList (es : List RemapEntry) : Type 0 where
  pub least : All (λ n. 1 ≤ n) (numbers_in es)
  pub most : All (λ n. n ≤ 65535) (numbers_in es)
  pub numbers_differ : IsDistinct nat_eq (numbers_in es)
  pub copies_differ : IsDistinct same_copy (copies_in es)

pub record ExtendedLaw : Type 0 where
  -- no entry goes, and none gets another number or place
  pub behind : (cs : List CopyKey) (es fs : List RemapEntry) → extended cs es ≡ Some fs → (more : List RemapEntry) × (fs ≡ es ++ more)
  -- all these copies have a number
  pub all : (cs : List CopyKey) (es fs : List RemapEntry) (c : CopyKey) → extended cs es ≡ Some fs → list_any (same_copy c) cs ≡ true → has_copy c fs ≡ true
  -- extended again by the same copies it stays; so a list that doesn't grow is the list
  pub again : (cs : List CopyKey) (es fs : List RemapEntry) → extended cs es ≡ Some fs → extended cs fs ≡ Some fs
  pub same : (cs : List CopyKey) (es fs : List RemapEntry) → extended cs es ≡ Some fs → length fs ≤ length es → fs ≡ es
  -- numbers and copies stay apart
  pub list : (cs : List CopyKey) (es fs : List RemapEntry) → extended cs es ≡ Some fs → IsList es → IsList fs
  -- so different copies have different numbers
  pub apart : (c d : CopyKey) (es : List RemapEntry) → IsList es → has_copy c es ≡ true → has_copy d es ≡ true → number_in es c ≡ number_in es d → c ≡ d

-- ---- the order in which copies are numbered

-- first by what is copied, then by which copy it is
abbrev pub copy_cmp : CopyKey → CopyKey → Ordering
copy_cmp c d = ordering_then (nat_cmp c.0 d.0) (nat_cmp c.1 d.1)

-- nothing that is extruded has the handle of nothing, whose copies are the faces at the ends
abbrev pub HaveHandles : {s : ℕ} → GroupKind → List (Entity s) → Type 0
HaveHandles Space es = ⊤
HaveHandles Plane es = ⊤
HaveHandles Extrude es = All (λ e. 0 < e.id.0) es
HaveHandles Translate es = ⊤
HaveHandles Linked es = ⊤

-- The copies that a group has rise, each stands once.
pub record WantedLaw : Type 0 where
  pub rise : {s : ℕ} (g : Group s) (es : List (Entity s)) → g.copies ≤ 999 → Rise es → HaveHandles g.kind es → IsStrictlySortedBy copy_cmp (wanted g es)

-- one of the group's items
abbrev pub IsItem : {s : ℕ} → Group s → Entity s → Type 0
IsItem g e = (item_of_group g.id.0 0 ≤ e.id.0) × (e.id.0 ≤ item_of_group g.id.0 65535)

-- What is made by a list in which numbers and copies stand apart has handles that rise, each stands once; all are items of the group.
pub record MadeLaw : Type 0 where
  pub rise : {s : ℕ} (g : Group s) (list : List RemapEntry) (es : List (Entity s)) (c : Copies s) → g.copies ≤ 999 → IsList list → Rise es → HaveHandles g.kind es → copies g list es ≡ Ok c → Rise c.entities
  pub items : {s : ℕ} (g : Group s) (list : List RemapEntry) (es : List (Entity s)) (c : Copies s) → IsList list → copies g list es ≡ Ok c → All (IsItem g) c.entities
