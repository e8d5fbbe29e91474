-- Handles: SolveSpace's packing of a request's or a group's number and the item in it.
use Rattle.std.specs.Prelude.{ℕ, ◌+◌, ◌-◌, ◌*◌, ◌/◌, ◌%◌, ◌^◌, nat_lt, if◌then◌else◌}
use Rattle.sk_types.specs.declared.handle.EntityId.{EntityId}
use Rattle.sk_types.specs.declared.handle.Maker.{Maker}
use Rattle.sk_types.specs.declared.handle.Maker.TheVariants.{OfRequest, OfGroup}

-- item i of request r
abbrev pub item_of_request : ℕ → ℕ → ℕ
item_of_request r i = r * 65536 + i

-- item i of group g
abbrev pub item_of_group : ℕ → ℕ → ℕ
item_of_group g i = 2 ^ 31 + g * 65536 + i

-- which item of what a handle below 2^32 is
abbrev pub maker_of : ℕ → Maker
maker_of h = if nat_lt h (2 ^ 31) then OfRequest (record { 0 = h / 65536 }) (h % 65536) else OfGroup (record { 0 = (h - 2 ^ 31) / 65536 }) (h % 65536)

-- no entity
abbrev pub none : EntityId
none = record { 0 = 0 }
