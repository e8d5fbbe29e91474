use Rattle.std.proofs.Common.{◌≤◌, List, length, arith, sym, ap, ◌∙◌, subst}
use Rattle.std.proofs.lemmas.Result.{on_ok_weaker}
use Rattle.sk_records.specs.declared.items.Item.{Item}
use Rattle.sk_records.specs.Holding.Places.{all_places}
use Rattle.sk_records.specs.Holding.Inserted.{StandsAlike}
use Rattle.sk_records.proofs.BookChanged.{either_way}
use Rattle.sk_records.proofs.RoomMade.{no_places, lists_put, alike_same, alike_put, room_put, both_ok, both_err}
use Rattle.sk_records.proofs.inserting.make_room.Goals as goal

pub returns-then-has_room-clause-room : goal.returns-then-has_room-clause-room
returns-then-has_room-clause-room c = rw c.deref.ensures.value at (c.has_room.ensures c.if-has_room.true)

pub returns-then-has_room-clause-same : goal.returns-then-has_room-clause-same
returns-then-has_room-clause-same c = alike_same c.args.items.now.items c.args.at c.requires.place

pub returns-clause-room : goal.returns-clause-room
returns-clause-room c =
    let two_more : 2 ≤ length c.in_ok-new.new.items = omega (arith, c.in_ok-new.ensures.len) in
    on_ok_weaker c.insert_at.result (λ e. room_put c.args.items.now.items c.in_ok-new.new.items c.insert_at.new.items.items c.args.at c.requires.place two_more c.in_ok-new.ensures.gone e) c.insert_at.ensures.items

pub returns-clause-same : goal.returns-clause-same
returns-clause-same c =
    either_way c.insert_at.result c.insert_at.ensures.items c.insert_at.ensures.items_kept
    (λ e. alike_put c.args.items.now.items c.in_ok-new.new.items c.insert_at.new.items.items c.args.at c.requires.place c.in_ok-new.ensures.gone e)
    (λ e. subst (λ (l : List Item). StandsAlike c.args.items.now.items l c.args.at) (sym e) (alike_same c.args.items.now.items c.args.at c.requires.place))

pub returns-clause-index : goal.returns-clause-index
returns-clause-index c =
    either_way c.insert_at.result (both_ok _ _ c.insert_at.result c.insert_at.ensures.items c.insert_at.ensures.lists) (both_err _ _ c.insert_at.result c.insert_at.ensures.items_kept c.insert_at.ensures.lists_kept)
    (λ e. lists_put c.args.items.now.items c.in_ok-new.new.items c.args.at c.args.places.now.items c.insert_at.new.places.items c.requires.place (λ k j. no_places k j c.in_ok-new.new.items c.in_ok-new.ensures.gone) c.requires.index e.1 ∙ ap all_places (sym e.0))
    (λ e. e.1 ∙ c.requires.index ∙ ap all_places (sym e.0))
