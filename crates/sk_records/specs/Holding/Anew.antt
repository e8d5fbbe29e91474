-- Records that are made anew, as they are held.
use Rattle.std.specs.Prelude.{◌≡◌, ℕ, ◌+◌, length, take, drop, List, [], ◌∷◌, ◌++◌, Bool, false, if◌then◌else◌, Option, None, Vec}
use Rattle.sk_text.specs.Lines.{TextLine}
use Rattle.sk_records.specs.declared.kinds.Kind.{Kind}
use Rattle.sk_records.specs.declared.kinds.Kind.TheVariants.{Group, Param, Request, Entity, Constraint, Style}
use Rattle.sk_records.specs.Holding.Places.{holds, places_from}
use Rattle.sk_records.specs.declared.rows.Span.{Span}
use Rattle.sk_records.specs.declared.items.Item.{Item}
use Rattle.sk_records.specs.declared.items.Item.TheVariants.{Gone, Lines, Held}
use Rattle.sk_records.specs.Kinds.{same_kind}
use Rattle.sk_records.specs.Blocks.{Block, Loose, without, made_anew}
use Rattle.sk_records.specs.Holding.Held.{item_blocks, blocks_at, IsWithin, ItemWithin}
use Rattle.sk_records.specs.Holding.Removed.{shrunk, or_else}
use Rattle.sk_records.specs.Given.{given_records}
use Rattle.sk_records.specs.Holding.BookHeld.{book_blocks, IsHeld}

-- whether a record of the kind went just before what follows an item
abbrev pub is_after : Kind → Bool → Item → Bool
is_after k t Gone = t
is_after k t (Lines s) = false
is_after k t (Held r) = same_kind r.kind k

-- an item without the empty line at its front, where that line goes
abbrev pub cut_after : List ℕ → Bool → Item → Option Item
cut_after text t x = if t then shrunk text x else None

-- what stays of an item where the records of the kind go, and their tails
abbrev pub left_item : List ℕ → Kind → Bool → Item → Item
left_item text k t x = if holds k x then Gone else or_else x (cut_after text t x)

abbrev pub left_items : List ℕ → Kind → Bool → List Item → List Item
left_items text k t [] = []
left_items text k t (x ∷ xs) = left_item text k t x ∷ left_items text k (is_after k t x) xs

-- the blocks are those that stay
pub record IsLeft (text : List ℕ) (k : Kind) (t : Bool) (x y : Item) : Type 0 where
  pub blocks : (more : List Block) → item_blocks text y ++ without k (is_after k t x) more ≡ without k t (item_blocks text x ++ more)
  pub within : ItemWithin text y

-- the places of a kind where new items are put at a place, and the records of some kind go behind it
abbrev pub list_anew : Kind → ℕ → List Item → List Item → Kind → List ℕ
list_anew k at items new j = places_from j 0 (take at items) ++ (places_from j at new ++ (if same_kind j k then [] else places_from j (at + length new) (drop at items)))

-- those of every kind, in the order of kinds
abbrev pub lists_anew : Kind → ℕ → List Item → List Item → List (List ℕ)
lists_anew k at items new =
    list_anew k at items new Group ∷ list_anew k at items new Param ∷ list_anew k at items new Request ∷ list_anew k at items new Entity ∷ list_anew k at items new Constraint ∷ list_anew k at items new Style ∷ []

-- the records of the kind were made anew among the items, behind whatever first line
pub record IsSetAnew {A : Type 0} (old new : List ℕ) (k : Kind) (lines : List ℕ) (before after : List Item) (places : List (Vec ℕ A)) : Type 0 where
  pub blocks : (l : TextLine) → Loose l ∷ blocks_at new after ≡ made_anew k (given_records lines) (Loose l ∷ blocks_at old before)
  pub held : IsHeld new after places

-- the records of the kind were made anew
pub record IsAnew {A : Type 0} (old new : List ℕ) (k : Kind) (lines : List ℕ) (was now : Span) (before after : List Item) (places : List (Vec ℕ A)) : Type 0 where
  pub book : book_blocks new now after ≡ made_anew k (given_records lines) (book_blocks old was before)
  pub first : IsWithin new now
  pub held : IsHeld new after places
