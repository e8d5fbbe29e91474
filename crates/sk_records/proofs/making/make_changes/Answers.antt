use Rattle.std.proofs.Common.{map, get_or, ◌∙◌}
use Rattle.sk_records.specs.declared.change_list.Edit.{Edit}
use Rattle.sk_records.specs.declared.change_list.Edit.TheVariants.{Value}
use Rattle.sk_records.specs.Holding.ChangesHeld.{change_of}
use Rattle.sk_records.specs.ChangeLists.{all_changed, change_place, change_rows}
use Rattle.sk_records.specs.Holding.Held.{blocks_at}
use Rattle.sk_records.proofs.Growth.{grown_then}
use Rattle.sk_records.proofs.ChangesMade.{change_exists, count_stays, done_more}
use Rattle.sk_records.proofs.making.make_changes.Goals as goal

-- no edit
abbrev none : Edit
none = Value (record { place = 0; start = 0; middle = 0; end = 0 })

pub make_change-requires : goal.make_change-requires
make_change-requires c =
    let inv = c.loop-edit.invariant in
    let i = c.loop-edit.edit-index in
    record {
      held = inv.held;
      fits = c.requires.fit i none c.loop-edit-test.true;
      exists = change_exists c.args.kind c.args.bytes.now c.args.edits.now (blocks_at c.args.text.now.items c.args.items.now.items) (blocks_at c.loop-edit.text.items c.loop-edit.items.items) i none c.loop-edit-test.true inv.count c.requires.exist;
    }

pub loop-edit-preserved : goal.loop-edit-preserved
loop-edit-preserved c =
    let inv = c.loop-edit.invariant in
    let i = c.loop-edit.edit-index in
    let k = c.args.kind in
    let bytes = c.args.bytes.now in
    let edits = c.args.edits.now in
    let e = get_or edits i none in
    let was = blocks_at c.loop-edit.text.items c.loop-edit.items.items in
    let now = blocks_at c.make_change.new.text.items c.make_change.new.items.items in
    record {
      held = c.in_ok-make_change.ensures.held;
      grown = grown_then c.args.text.now.items c.loop-edit.text.items c.make_change.new.text.items inv.grown c.make_change.ensures.grown;
      count = count_stays k (change_place (change_of bytes e)) (change_rows (change_of bytes e)) was now c.in_ok-make_change.ensures.ok ∙ inv.count;
      done = done_more k bytes edits was now (all_changed k (map (change_of bytes) edits) (blocks_at c.args.text.now.items c.args.items.now.items)) i none c.loop-edit-test.true c.in_ok-make_change.ensures.ok inv.done;
    }
