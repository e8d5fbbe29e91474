use Rattle.sk_chain.proofs.Noting.{noted_fields}
use Rattle.sk_chain.proofs.dirty.note_group.Goals as goal

pub returns : goal.returns
returns g c = noted_fields c.args.places.now.keys c.args.entities.now c.args.group.now c.args.table.now.items _ _ _ _ c.in_ok-note.ensures c.in_ok-note_named.ensures c.in_ok-note_named-2.ensures c.in_ok-note_named-3.ensures
