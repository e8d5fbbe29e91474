-- What is noted of the groups that lean on others, and what is reached from a group, while a dirty set is computed.
use Rattle.std.specs.Prelude.{◌≡◌, ◌<◌, ◌&&◌, ◌||◌, ◌++◌, ◌⊎◌, ℕ, List, [], length, get_or, Bool, true, Option, Some, None}
use Rattle.std.specs.List.{slice_get}
use Rattle.sk_types.specs.declared.handle.GroupId.{GroupId}
use Rattle.sk_chain.specs.Lookups.{place_in}
use Rattle.sk_chain.specs.Dependence.{IsClosed, is_listed, may_depend}

-- ---- a table: for each place in the order the groups that lean on the group there

abbrev pub listed_at : List (List GroupId) → Option ℕ → List GroupId
listed_at table None = []
listed_at table (Some i) = get_or table i []

abbrev pub listed_for : List GroupId → List (List GroupId) → GroupId → List GroupId
listed_for order table h = listed_at table (place_in h.0 order)

abbrev pub is_noted : List GroupId → List (List GroupId) → GroupId → GroupId → Bool
is_noted order table g h = is_listed (listed_for order table h) g

-- the pairs that pass a test are added, as far as the earlier group has a place
pub record Notes (order : List GroupId) (old new : List (List GroupId)) (test : GroupId → GroupId → Bool) : Type 0 where
  pub long : length new ≡ length old
  pub noted : (g h : GroupId) → is_listed order h ≡ true → is_noted order new g h ≡ (is_noted order old g h || test g h)

-- the pairs of the table are those that pass a test
pub record IsTable (order : List GroupId) (table : List (List GroupId)) (test : GroupId → GroupId → Bool) : Type 0 where
  pub long : length table ≡ length order
  pub noted : (g h : GroupId) → is_listed order h ≡ true → is_noted order table g h ≡ test g h

-- ---- what is reached

-- from h, whatever of a list is in the order and may depend on it
pub record Reaches (order found : List GroupId) (h : GroupId) (old new : List GroupId) : Type 0 where
  pub grown : (zs : List GroupId) × (new ≡ old ++ zs)
  pub all : (g : GroupId) → is_listed order g ≡ true → may_depend g h ≡ true → is_listed found g ≡ true → is_listed new g ≡ true
  pub only : (g : GroupId) → is_listed new g ≡ true → (is_listed old g ≡ true) ⊎ ((is_listed order g ≡ true) × ((may_depend g h ≡ true) × (is_listed found g ≡ true)))

-- from the next group, if there is one
abbrev pub ReachesFrom : List GroupId → List (List GroupId) → Option GroupId → List GroupId → List GroupId → Type 0
ReachesFrom order table None old new = new ≡ old
ReachesFrom order table (Some h) old new = Reaches order (listed_for order table h) h old new

abbrev pub is_next : List GroupId → List (List GroupId) → GroupId → GroupId → Bool
is_next order table g h = may_depend g h && is_noted order table g h

-- the groups that are reached, the first i of which are followed
pub record Reached (order : List GroupId) (table : List (List GroupId)) (changed : GroupId) (i : ℕ) (gs : List GroupId) : Type 0 where
  pub has : is_listed gs changed ≡ true
  pub within : (g : GroupId) → is_listed gs g ≡ true → is_listed order g ≡ true
  pub closed : (j : ℕ) (h : GroupId) → j < i → slice_get gs j ≡ Some h → (g : GroupId) → is_listed order g ≡ true → is_next order table g h ≡ true → is_listed gs g ≡ true
  pub least : (hs : List GroupId) → is_listed hs changed ≡ true → IsClosed (is_next order table) order hs → (g : GroupId) → is_listed gs g ≡ true → is_listed hs g ≡ true

-- they are all followed
pub record IsReached (order : List GroupId) (table : List (List GroupId)) (changed : GroupId) (gs : List GroupId) : Type 0 where
  pub has : is_listed gs changed ≡ true
  pub within : (g : GroupId) → is_listed gs g ≡ true → is_listed order g ≡ true
  pub closed : IsClosed (is_next order table) order gs
  pub least : (hs : List GroupId) → is_listed hs changed ≡ true → IsClosed (is_next order table) order hs → (g : GroupId) → is_listed gs g ≡ true → is_listed hs g ≡ true
