use Rattle.std.proofs.Common.{map, refl}
use Rattle.sk_records.specs.Holding.ChangesHeld.{change_of}
use Rattle.sk_records.proofs.ChangesMade.{all_made}
use Rattle.sk_records.proofs.making.change_in_place.Goals as goal

pub returns : goal.returns
returns c =
    let old = c.args.text.now.items in
    let items = c.args.items.now.items in
    let line = c.args.header.now in
    record {
      ok = all_made old old c.make_changes.new.text.items c.add_all.new.text.items c.args.kind (map (change_of c.args.bytes.now) c.args.edits.now) c.args.added.now line line c.add_all.new.header items items c.make_changes.new.items.items c.add_all.new.items.items c.add_all.new.places.items
          refl c.requires.first c.make_changes.ensures.grown c.in_ok-make_changes.ensures.ok c.in_ok-add_all.ensures.ok;
    }
