-- The order of groups.
use Rattle.std.specs.Prelude.{ℕ, ◌==◌, nat_lt, int_lt, List, map, Bool, true, false, if◌then◌else◌}
use Rattle.sk_types.specs.declared.handle.GroupId.{GroupId}
use Rattle.sk_types.specs.declared.group.Group.{Group}
use Rattle.sk_copy.specs.Order.{in_order}

-- group 1 comes first, then the lower order, then the lower handle
abbrev pub comes_before : {s : ℕ} → Group s → Group s → Bool
comes_before g h =
    if h.id.0 == 1 then false else
    if g.id.0 == 1 then true else
    if int_lt g.order h.order then true else
    if int_lt h.order g.order then false else
    nat_lt g.id.0 h.id.0

abbrev pub groups_in_order : {s : ℕ} → List (Group s) → List (Group s)
groups_in_order gs = in_order comes_before gs

abbrev pub ids_of : {s : ℕ} → List (Group s) → List GroupId
ids_of gs = map (λ g. g.id) gs

abbrev pub group_order : {s : ℕ} → List (Group s) → List GroupId
group_order gs = ids_of (groups_in_order gs)
