use Rattle.std.proofs.Common.{◌≡◌, ◌∷◌, Some, None, length, arith, ap, sym, ◌∙◌, subst, length-append}
use Rattle.sk_records.specs.declared.items.Item.TheVariants.{Held}
use Rattle.sk_records.specs.Kinds.{kinds_to}
use Rattle.sk_records.specs.Holding.Inserted.{nearest}
use Rattle.sk_records.specs.declared.spots.Before.{Before}
use Rattle.sk_records.specs.Holding.Ready.{IsReady}
use Rattle.sk_records.proofs.NewPlace.{new_place_behind}
use Rattle.sk_records.proofs.ReadyLemmas.{alike_blocks, ready_none, spot_blocks, spot_within, spot_below, ready_spot}
use Rattle.sk_records.proofs.spots.make_ready.Goals as goal

pub returns-in_err-make_room-in-None-clause-blocks : goal.returns-in_err-make_room-in-None-clause-blocks
returns-in_err-make_room-in-None-clause-blocks c = alike_blocks c.args.text.now c.args.items.now.items c.make_room.new.items.items 0 c.make_room.ensures.same

pub returns-in_err-make_room-in-None-clause-within : goal.returns-in_err-make_room-in-None-clause-within
returns-in_err-make_room-in-None-clause-within c = c.make_room.ensures.same.within c.args.text.now c.requires.within

pub returns-in_ok-make_room-in-None-clause-blocks : goal.returns-in_ok-make_room-in-None-clause-blocks
returns-in_ok-make_room-in-None-clause-blocks c = alike_blocks c.args.text.now c.args.items.now.items c.make_room.new.items.items 0 c.make_room.ensures.same

pub returns-in_ok-make_room-in-None-clause-within : goal.returns-in_ok-make_room-in-None-clause-within
returns-in_ok-make_room-in-None-clause-within c = c.make_room.ensures.same.within c.args.text.now c.requires.within

pub returns-in_ok-make_room-in-None-clause-ready : goal.returns-in_ok-make_room-in-None-clause-ready
returns-in_ok-make_room-in-None-clause-ready c =
    let none : nearest (kinds_to c.args.kind) c.args.items.now.items ≡ None = rw c.deref-2.ensures.value at (sym c.in-None.ensures) in
    ready_none c.args.text.now c.args.kind c.args.items.now.items c.make_room.new.items.items none c.make_room.ensures.same c.in_ok-make_room-in-None.ensures.room

pub spot_behind-requires-clause-place : goal.spot_behind-requires-clause-place
spot_behind-requires-clause-place c =
    let some : nearest (kinds_to c.args.kind) c.args.items.now.items ≡ Some c.in-Some.place = rw c.deref-2.ensures.value at (sym c.in-Some.ensures) in
    let np = new_place_behind c.args.kind c.args.text.now c.args.items.now.items c.in-Some.place some in
    omega (arith, np.place, ap length np.whole, length-append np.front (Held np.held ∷ np.back))

pub make_room-requires-in-Some-clause-place : goal.make_room-requires-in-Some-clause-place
make_room-requires-in-Some-clause-place c =
    let some : nearest (kinds_to c.args.kind) c.args.items.now.items ≡ Some c.in-Some.place = rw c.deref-2.ensures.value at (sym c.in-Some.ensures) in
    let np = new_place_behind c.args.kind c.args.text.now c.args.items.now.items c.in-Some.place some in
    let s = c.in_ok-spot-in-Some.spot in
    spot_below c.args.text.now c.args.kind c.args.items.now.items c.spot_behind.new.items.items s.at c.in-Some.place s.tail np (c.in_ok-spot-in-Some.ensures.spot np.front np.held np.back np.whole np.place)

pub returns-in_err-make_room-in-Some-clause-blocks : goal.returns-in_err-make_room-in-Some-clause-blocks
returns-in_err-make_room-in-Some-clause-blocks c =
    let some : nearest (kinds_to c.args.kind) c.args.items.now.items ≡ Some c.in-Some.place = rw c.deref-2.ensures.value at (sym c.in-Some.ensures) in
    let np = new_place_behind c.args.kind c.args.text.now c.args.items.now.items c.in-Some.place some in
    let s = c.in_ok-spot-in-Some.spot in
    alike_blocks c.args.text.now c.spot_behind.new.items.items c.make_room-in-Some.new.items.items s.at c.make_room-in-Some.ensures.same
    ∙ spot_blocks c.args.text.now c.args.kind c.args.items.now.items c.spot_behind.new.items.items s.at c.in-Some.place s.tail np (c.in_ok-spot-in-Some.ensures.spot np.front np.held np.back np.whole np.place)

pub returns-in_ok-make_room-in-Some-clause-blocks : goal.returns-in_ok-make_room-in-Some-clause-blocks
returns-in_ok-make_room-in-Some-clause-blocks c =
    let some : nearest (kinds_to c.args.kind) c.args.items.now.items ≡ Some c.in-Some.place = rw c.deref-2.ensures.value at (sym c.in-Some.ensures) in
    let np = new_place_behind c.args.kind c.args.text.now c.args.items.now.items c.in-Some.place some in
    let s = c.in_ok-spot-in-Some.spot in
    alike_blocks c.args.text.now c.spot_behind.new.items.items c.make_room-in-Some.new.items.items s.at c.make_room-in-Some.ensures.same
    ∙ spot_blocks c.args.text.now c.args.kind c.args.items.now.items c.spot_behind.new.items.items s.at c.in-Some.place s.tail np (c.in_ok-spot-in-Some.ensures.spot np.front np.held np.back np.whole np.place)

pub returns-in_err-make_room-in-Some-clause-within : goal.returns-in_err-make_room-in-Some-clause-within
returns-in_err-make_room-in-Some-clause-within c =
    let some : nearest (kinds_to c.args.kind) c.args.items.now.items ≡ Some c.in-Some.place = rw c.deref-2.ensures.value at (sym c.in-Some.ensures) in
    let np = new_place_behind c.args.kind c.args.text.now c.args.items.now.items c.in-Some.place some in
    let s = c.in_ok-spot-in-Some.spot in
    c.make_room-in-Some.ensures.same.within c.args.text.now (spot_within c.args.text.now c.args.kind c.args.items.now.items c.spot_behind.new.items.items s.at c.in-Some.place s.tail np (c.in_ok-spot-in-Some.ensures.spot np.front np.held np.back np.whole np.place) c.requires.within)

pub returns-in_ok-make_room-in-Some-clause-within : goal.returns-in_ok-make_room-in-Some-clause-within
returns-in_ok-make_room-in-Some-clause-within c =
    let some : nearest (kinds_to c.args.kind) c.args.items.now.items ≡ Some c.in-Some.place = rw c.deref-2.ensures.value at (sym c.in-Some.ensures) in
    let np = new_place_behind c.args.kind c.args.text.now c.args.items.now.items c.in-Some.place some in
    let s = c.in_ok-spot-in-Some.spot in
    c.make_room-in-Some.ensures.same.within c.args.text.now (spot_within c.args.text.now c.args.kind c.args.items.now.items c.spot_behind.new.items.items s.at c.in-Some.place s.tail np (c.in_ok-spot-in-Some.ensures.spot np.front np.held np.back np.whole np.place) c.requires.within)

pub returns-in_ok-make_room-in-Some-clause-ready : goal.returns-in_ok-make_room-in-Some-clause-ready
returns-in_ok-make_room-in-Some-clause-ready c =
    let some : nearest (kinds_to c.args.kind) c.args.items.now.items ≡ Some c.in-Some.place = rw c.deref-2.ensures.value at (sym c.in-Some.ensures) in
    let np = new_place_behind c.args.kind c.args.text.now c.args.items.now.items c.in-Some.place some in
    let s = c.in_ok-spot-in-Some.spot in
    subst (λ (b : Before). IsReady c.args.text.now c.args.kind c.make_room-in-Some.new.items.items s.at b) (sym c.before_of.ensures)
    (ready_spot c.args.text.now c.args.kind c.args.items.now.items c.spot_behind.new.items.items c.make_room-in-Some.new.items.items s.at c.in-Some.place s.tail np (c.in_ok-spot-in-Some.ensures.spot np.front np.held np.back np.whole np.place) c.make_room-in-Some.ensures.same c.in_ok-make_room-in-Some.ensures.room)
