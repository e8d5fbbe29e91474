-- Items that are put among others.
use Rattle.std.specs.Prelude.{◌≡◌, ◌≤◌, ℕ, ◌+◌, List, [], ◌∷◌, length, take, drop, Option, Some, None, if◌then◌else◌, nat_le}
use Rattle.std.specs.Option.{option_or}
use Rattle.std.specs.List.{All}
use Rattle.sk_records.specs.declared.kinds.Kind.{Kind}
use Rattle.sk_records.specs.declared.items.Item.{Item}
use Rattle.sk_records.specs.declared.items.Item.TheVariants.{Gone}
use Rattle.sk_records.specs.Holding.Held.{blocks_at, ItemWithin}
use Rattle.sk_records.specs.Holding.Places.{places_from}

-- a place after `count` items were put at another
abbrev pub shifted : ℕ → ℕ → ℕ → ℕ
shifted at count p = if nat_le at p then p + count else p

abbrev pub last_of : List ℕ → Option ℕ
last_of [] = None
last_of (p ∷ ps) = option_or (last_of ps) (Some p)

-- the place of the last record of the first of these kinds that has one
abbrev pub nearest : List Kind → List Item → Option ℕ
nearest [] items = None
nearest (k ∷ ks) items = option_or (last_of (places_from k 0 items)) (nearest ks items)

-- nothing stands at a place and behind it
pub record HasRoom (items : List Item) (at : ℕ) : Type 0 where
  pub rest : List Item
  pub gone : drop at items ≡ Gone ∷ Gone ∷ rest

-- the same stands before a place and from it on
pub record StandsAlike (old new : List Item) (at : ℕ) : Type 0 where
  pub front : take at new ≡ take at old
  pub below : at ≤ length new
  pub behind : (text : List ℕ) → blocks_at text (drop at new) ≡ blocks_at text (drop at old)
  pub within : (text : List ℕ) → All (ItemWithin text) old → All (ItemWithin text) new
