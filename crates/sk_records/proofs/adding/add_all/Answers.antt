use Rattle.std.proofs.Common.{◌≡◌, ℕ, get_or, ◌<◌, List, length, refl, arith, ap, sym, ◌∙◌, subst, length-set}
use Rattle.sk_records.specs.Blocks.{Block, AllOf, add_records}
use Rattle.sk_records.specs.Holding.BookHeld.{book_blocks}
use Rattle.sk_records.specs.Given.{recs_of}
use Rattle.sk_records.specs.Holding.Held.{ItemWithin}
use Rattle.sk_records.specs.declared.items.Item.{Item}
use Rattle.sk_records.proofs.Growth.{grown_none, grown_then, span_grows, item_grows, item_same}
use Rattle.sk_records.proofs.RecordsAdded.{item_of_kind, added_more, next_item, rest_after, given_of_kind, all_added, held_grows}
use Rattle.sk_records.proofs.adding.add_all.Goals as goal

here : (items : List Item) (i : ℕ) (x y : Item) → x ≡ y → y ≡ get_or items i y → x ≡ get_or items i x
here items i x y e f = e ∙ f ∙ ap (get_or items i) (sym e)

pub loop-i-init : goal.loop-i-init
loop-i-init c =
    let old = c.args.text.now.items in
    let mid = c.push_given.new.text.items in
    record {
      first = span_grows old mid c.args.header.now c.push_given.ensures.grown c.requires.first;
      held = held_grows old mid c.args.items.now.items c.args.places.now.items c.push_given.ensures.grown c.requires.held;
      grown = grown_none mid;
      rest = refl;
      len = refl;
      book = refl;
    }

pub add_item-requires : goal.add_item-requires
add_item-requires c =
    let mid = c.push_given.new.text.items in
    let given = c.in_ok-new.new.items in
    let inv = c.loop-i.invariant in
    let x : Item = c.replace-item.result in
    let lt : c.loop-i.i < length given = omega (arith, inv.len) in
    let is = next_item given c.loop-i.new.items c.loop-i.i x lt inv.len inv.rest (here c.loop-i.new.items c.loop-i.i c.replace-item.result c.index_mut.result.now c.replace-item.ensures.value c.index_mut.ensures.value) in
    let within : ItemWithin mid x = subst (ItemWithin mid) (sym is) (c.in_ok-new.ensures.within c.loop-i.i x lt) in
    let all = given_of_kind c.args.kind mid c.args.lines.now given c.in_ok-new.ensures.items c.requires.given in
    let kind = item_of_kind mid c.args.kind given c.loop-i.i x lt is all in
    record {
      first = inv.first;
      held = inv.held;
      within = item_grows mid c.loop-i.text.items x inv.grown within;
      of_kind = subst (λ (l : List _). AllOf c.args.kind (recs_of l)) (sym (item_same mid c.loop-i.text.items x inv.grown within)) kind;
    }

pub loop-i-preserved : goal.loop-i-preserved
loop-i-preserved c =
    let mid = c.push_given.new.text.items in
    let given = c.in_ok-new.new.items in
    let inv = c.loop-i.invariant in
    let x : Item = c.replace-item.result in
    let lt : c.loop-i.i < length given = omega (arith, inv.len) in
    let is = next_item given c.loop-i.new.items c.loop-i.i x lt inv.len inv.rest (here c.loop-i.new.items c.loop-i.i x c.index_mut.result.now c.replace-item.ensures.value c.index_mut.ensures.value) in
    let within : ItemWithin mid x = subst (ItemWithin mid) (sym is) (c.in_ok-new.ensures.within c.loop-i.i x lt) in
    let all = given_of_kind c.args.kind mid c.args.lines.now given c.in_ok-new.ensures.items c.requires.given in
    let put = c.in_ok-add_item.ensures.ok in
    record {
      first = put.first;
      held = put.held;
      grown = grown_then mid c.loop-i.text.items c.add_item.new.text.items inv.grown c.add_item.ensures.grown;
      rest = rest_after given c.loop-i.new.items c.loop-i.i c.replace-item.new.dest lt inv.len inv.rest;
      len = omega (arith, inv.len, length-set c.loop-i.new.items c.loop-i.i c.replace-item.new.dest);
      book = added_more mid c.args.kind given c.loop-i.i x lt is all (book_blocks c.loop-i.text.items c.loop-i.header c.loop-i.items.items) (book_blocks c.add_item.new.text.items c.add_item.new.header c.add_item.new.items.items) (book_blocks mid c.args.header.now c.args.items.now.items) inv.book
          (put.book ∙ ap (λ (l : List Block). add_records c.args.kind (recs_of l) (book_blocks c.loop-i.text.items c.loop-i.header c.loop-i.items.items)) (item_same mid c.loop-i.text.items x inv.grown within));
    }

pub returns-clause-ok : goal.returns-clause-ok
returns-clause-ok c =
    let old = c.args.text.now.items in
    let mid = c.push_given.new.text.items in
    let given = c.in_ok-new.new.items in
    let inv = c.loop-i.invariant in
    all_added old mid c.loop-i.text.items c.args.kind c.args.lines.now given c.loop-i.i c.args.header.now c.loop-i.header c.args.items.now.items c.loop-i.items.items c.args.places.now.items c.loop-i.places.items
    c.push_given.ensures.grown c.requires.first c.requires.held c.in_ok-new.ensures.items (omega arith) inv.first inv.held inv.book

pub returns-clause-grown : goal.returns-clause-grown
returns-clause-grown c = grown_then c.args.text.now.items c.push_given.new.text.items c.loop-i.text.items c.push_given.ensures.grown c.loop-i.invariant.grown
