use Rattle.std.proofs.Common.{ap, sym, ◌∙◌}
use Rattle.sk_records.specs.Reading.{read_from, Outside}
use Rattle.sk_records.specs.Holding.Held.{blocks_at}
use Rattle.sk_records.proofs.given.push_given.Goals as goal

pub returns-in-Ok-clause-items : goal.returns-in-Ok-clause-items
returns-in-Ok-clause-items c =
    let text = c.extend_from_slice.new.self.items in
    let read = rw c.deref.ensures.value at c.in-Ok.ensures.read in
    record {
      blocks = blocks_at text c.in-Ok.items.items;
      read = ap (read_from 1 Outside) (sym c.lines.ensures.unplaced) ∙ read;
      same = c.forget_items.ensures.blocks text;
    }

pub returns-in-Ok-clause-within : goal.returns-in-Ok-clause-within
returns-in-Ok-clause-within c =
    let text = c.extend_from_slice.new.self.items in
    let within = rw c.deref.ensures.value at c.in-Ok.ensures.within in
    c.forget_items.ensures.within text within
