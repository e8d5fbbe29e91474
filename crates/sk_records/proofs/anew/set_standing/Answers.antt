use Rattle.std.proofs.Common.{◌≡◌, ◌≤◌, ◌<◌, ◌+◌, ◌++◌, ℕ, List, length, take, drop, false, sym, ◌∙◌, arith, subst}
use Rattle.std.specs.List.{All}
use Rattle.std.proofs.lemmas.List.{take-append-drop}
use Rattle.sk_records.specs.declared.kinds.Kind.{Kind}
use Rattle.sk_records.specs.declared.items.Item.{Item}
use Rattle.sk_records.specs.Holding.Held.{ItemWithin}
use Rattle.sk_records.specs.Holding.Places.{lists_of}
use Rattle.sk_records.specs.Holding.Anew.{left_items, lists_anew, IsSetAnew}
use Rattle.sk_records.proofs.HeldLines.{all_right}
use Rattle.sk_records.proofs.Growth.{items_grow}
use Rattle.sk_records.proofs.Without.{left_blocks, left_within, left_places}
use Rattle.sk_records.proofs.AnewSet.{set_anew_there, lists_are, out_blocks, out_within, behind_within, left_out}
use Rattle.sk_records.proofs.anew.set_standing.Goals as goal

pub leave_behind-requires : goal.leave_behind-requires
leave_behind-requires c =
    let items = c.args.items.now.items in
    let new = c.push_given.new.text.items in
    let made = c.in_ok-new.new.items in
    let at = c.place_of-at.result in
    let below : at < length items = rw c.deref-2.ensures.value at c.place_of-at.ensures.below in
    let now : All (ItemWithin new) items = items_grow c.args.text.now.items new items c.push_given.ensures.grown c.requires.held.within in
    let back : All (ItemWithin new) (drop at items) = all_right (ItemWithin new) (take at items) (drop at items) (subst (All (ItemWithin new)) (sym (take-append-drop at items)) now) in
    record {
      place = behind_within items made c.put_items.new.items.items at (at + c.len.result) (omega (arith, below)) (omega arith) c.in_ok-put_items.ensures.ok;
      within = rw c.deref-5.ensures.value (subst (All (ItemWithin new)) (sym c.in_ok-put_items.ensures.ok) (out_within new c.args.kind items made (drop at items) at now c.in_ok-new.ensures.within back));
    }

pub returns-clause-ok : goal.returns-clause-ok
returns-clause-ok c =
    let old = c.args.text.now.items in
    let new = c.push_given.new.text.items in
    let k = c.args.kind in
    let items = c.args.items.now.items in
    let made = c.in_ok-new.new.items in
    let at = c.place_of-at.result in
    let two = c.put_items.new.items.items in
    let g = c.push_given.ensures.grown in
    let place = rw c.deref-2.ensures.value at c.place_of-at.ensures.place in
    let below : at < length items = rw c.deref-2.ensures.value at c.place_of-at.ensures.below in
    let le : at ≤ length items = omega (arith, below) in
    let now : All (ItemWithin new) items = items_grow old new items g c.requires.held.within in
    let back : All (ItemWithin new) (drop at items) = all_right (ItemWithin new) (take at items) (drop at items) (subst (All (ItemWithin new)) (sym (take-append-drop at items)) now) in
    let rest = left_items new k false (drop at items) in
    let out = take at items ++ (made ++ rest) in
    let blocks = out_blocks new k items made rest at (left_blocks new k false (drop at items) back) in
    let within : All (ItemWithin new) out = out_within new k items made rest at now c.in_ok-new.ensures.within (left_within new k false (drop at items) back) in
    let index : lists_of c.in_ok-index.index.items ≡ lists_anew k at items made = rw (c.deref-3.ensures.value, c.deref-4.ensures.value) at c.in_ok-index.ensures in
    let made_anew = set_anew_there old new k c.args.lines.now items made out c.args.places.now.items c.in_ok-index.index.items at g c.requires.held c.requires.stands place c.requires.given c.in_ok-new.ensures.items blocks within
    (index ∙ lists_are k at items made rest le (λ (j : Kind) (n : ℕ). left_places new k j false n (drop at items))) in
    let left : c.leave_behind.new.items.items ≡ take (at + c.len.result) two ++ left_items new k false (drop (at + c.len.result) two) = rw c.deref-5.ensures.value at c.leave_behind.ensures in
    let is : c.leave_behind.new.items.items ≡ out = left_out items made two at (at + c.len.result) le (omega arith) c.in_ok-put_items.ensures.ok (left_items new k false) c.leave_behind.new.items.items left in
    subst (λ (l : List Item). IsSetAnew old new k c.args.lines.now items l c.in_ok-index.index.items) (sym is) made_anew
