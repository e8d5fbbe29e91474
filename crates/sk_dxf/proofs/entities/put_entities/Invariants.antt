use Rattle.std.proofs.Common.{◌≡◌, ◌++◌, take, drop, length}
use Rattle.sk_dxf.specs.Drawing.{entity_texts}
use Rattle.sk_dxf.proofs.entities.put_entities.Given as goal

abbrev pub invariant-loop-e : goal.invariant-loop-e
invariant-loop-e g l = record {
  done : l.out.items ++ entity_texts {s = g.row.S} l.sheet.plane l.sheet.acts.now l.group.0 (drop l.e-index l.entities)
      ≡ l.fn.out.items ++ entity_texts {s = g.row.S} l.sheet.plane l.sheet.acts.now l.group.0 l.entities;
  kept : take (length l.fn.out.items) l.out.items ≡ l.fn.out.items;
}
