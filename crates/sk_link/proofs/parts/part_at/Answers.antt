use Rattle.sk_link.proofs.Tried.{part_refused}
use Rattle.sk_link.proofs.parts.part_at.Goals as goal

pub returns-in-Err : goal.returns-in-Err
returns-in-Err g c = rw c.of.ensures (part_refused c.args.group c.in-Err.refusal _ c.in-Err.ensures)
