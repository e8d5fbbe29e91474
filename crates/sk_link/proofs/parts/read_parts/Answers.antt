use Rattle.std.proofs.Common.{◌≡◌, ap, Ok, Err}
use Rattle.sk_link.specs.declared.fault.PartFault.TheVariants.{PartRead}
use Rattle.sk_link.proofs.Replied.{first_told, complete_told, reads_unread}
use Rattle.sk_link.proofs.parts.read_parts.Goals as goal

pub returns-in-Ok-clause-first : goal.returns-in-Ok-clause-first
returns-in-Ok-clause-first g c = first_told _ _ c.args.linked.now (Ok c.in-Ok.parts.items) c.in-Ok.ensures.reads

pub returns-in-Ok-clause-complete : goal.returns-in-Ok-clause-complete
returns-in-Ok-clause-complete g c = complete_told _ _ c.args.linked.now (Ok c.in-Ok.parts.items) c.in-Ok.ensures.reads

pub returns-in-Err-clause-first : goal.returns-in-Err-clause-first
returns-in-Err-clause-first g c = first_told _ _ c.args.linked.now (Err c.in-Err.fault) c.in-Err.ensures.reads

pub returns-in-Err-clause-unread : goal.returns-in-Err-clause-unread
returns-in-Err-clause-unread g c = λ h e.
    let same : c.in-Err.fault ≡ PartRead h = cc in
    reads_unread _ _ c.args.linked.now (Err c.in-Err.fault) c.in-Err.ensures.reads h (ap Err same)

pub returns-in-Err-clause-complete : goal.returns-in-Err-clause-complete
returns-in-Err-clause-complete g c = complete_told _ _ c.args.linked.now (Err c.in-Err.fault) c.in-Err.ensures.reads
