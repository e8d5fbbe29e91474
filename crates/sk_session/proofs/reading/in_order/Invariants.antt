use Rattle.std.proofs.Common.{◌≡◌, take}
use Rattle.std.specs.List.{filter_map}
use Rattle.sk_types.specs.declared.handle.GroupId.{GroupId}
use Rattle.sk_chain.specs.Lookups.{group_at}
use Rattle.sk_session.proofs.reading.in_order.Given as goal

abbrev pub invariant-loop-id : goal.invariant-loop-id
invariant-loop-id g l = l.found.items ≡ filter_map (λ (h : GroupId). group_at h.0 l.groups) (take l.id-index l.order)
