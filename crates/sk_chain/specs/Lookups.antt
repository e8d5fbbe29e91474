-- Look-ups of groups by handle.
use Rattle.std.specs.Prelude.{ℕ, nat_eq, List, Option}
use Rattle.std.specs.List.{find, position}
use Rattle.sk_types.specs.declared.handle.GroupId.{GroupId}
use Rattle.sk_types.specs.declared.group.Group.{Group}

-- at which place the group with the handle stands, from 0
abbrev pub place_in : ℕ → List GroupId → Option ℕ
place_in n gs = position (λ g. nat_eq n g.0) gs

-- the group with the handle
abbrev pub group_at : {s : ℕ} → ℕ → List (Group s) → Option (Group s)
group_at n gs = find (λ g. nat_eq n g.id.0) gs
