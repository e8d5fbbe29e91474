use Rattle.std.proofs.Common.{take, get_or, ap, sym, ◌∙◌, subst}
use Rattle.std.proofs.lemmas.List.{take_more}
use Rattle.sk_records.specs.declared.items.Item.{Item}
use Rattle.sk_records.specs.Holding.Copied.{IsMoved}
use Rattle.sk_records.specs.Holding.Removed.{is_gone}
use Rattle.sk_records.proofs.Growth.{grown_then}
use Rattle.sk_records.proofs.PackLemmas.{moved_pushed, moved_passed}
use Rattle.sk_records.proofs.packing.pack_items.Goals as goal
use Rattle.sk_records.proofs.packing.pack_items.Goals.{then-not-is_gone+in_ok-made+in_ok-push, else-not-is_gone}

pub loop-item-preserved : goal.loop-item-preserved
loop-item-preserved c =
    let text = c.args.text.now in
    let items = c.args.items.now in
    let i = c.loop-item.item-index in
    let old = c.loop-item.out.items in
    let x : Item = get_or items i c.item-item.result in
    let inv = c.loop-item.invariant in
    rw (take_more items i c.item-item.result c.loop-item-test.true)
    (elim c.if-not-is_gone.branch [
      | then-not-is_gone+in_ok-made+in_ok-push w ↦
          rw (w.out-is, w.packed-is, w.in_ok-push.ensures.items)
          (record {
            are = moved_pushed text old w.pack_item.new.out.items (take i items) c.loop-item.packed.items x w.in_ok-made.made inv.are w.pack_item.ensures.grown (subst (λ (z : Item). IsMoved text w.pack_item.new.out.items z w.in_ok-made.made) c.item-item.is w.in_ok-made.ensures.item);
            grown = grown_then c.args.out.now.items old w.pack_item.new.out.items inv.grown w.pack_item.ensures.grown;
          })
      | else-not-is_gone w ↦
          rw (w.out-is, w.packed-is)
          (record {
            are = moved_passed text old (take i items) c.loop-item.packed.items x inv.are (ap is_gone (sym c.item-item.is) ∙ sym w.if-not-is_gone.ensures);
            grown = inv.grown;
          })
    ])
