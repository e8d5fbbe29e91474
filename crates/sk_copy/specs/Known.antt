-- The numbers of copies, as a map has them.
use Rattle.std.specs.Prelude.{ℕ, List, unwrap_or}
use Rattle.std.specs.Map.{lookup}
use Rattle.sk_types.specs.Copies.{CopyKey, same_copy}

-- the number of a copy among entries, 0 where it has none
abbrev pub number_at : List (CopyKey × ℕ) → CopyKey → ℕ
number_at entries c = unwrap_or (lookup (same_copy c) entries) 0
