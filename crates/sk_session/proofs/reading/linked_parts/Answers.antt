use Rattle.std.proofs.Common.{◌≡◌, ◌∙◌, List, [], Err, ap, subst, arith}
use Rattle.std.proofs.lemmas.Result.{err_from_is_err_and}
use Rattle.sk_files.specs.Outcome.{Rose}
use Rattle.sk_types.specs.declared.group.Group.{Group}
use Rattle.sk_link.specs.declared.fault.PartFault.TheVariants.{PartRead}
use Rattle.sk_link.specs.Parts.{IsReached}
use Rattle.sk_link.proofs.Replied.{memory_reads, nothing_read}
use Rattle.sk_session.specs.Opening.{linked_groups}
use Rattle.sk_session.proofs.reading.linked_parts.Goals as goal

pub returns-in_err-groups-clause-reads : goal.returns-in_err-groups-clause-reads
returns-in_err-groups-clause-reads g c =
    let files = g.F.Folder.files c.args.folder.now in
    let faults = g.F.Folder.faults c.args.folder.now in
    let p = err_from_is_err_and c.from_residual.result c.from_residual.ensures.1 in
    rw (p.1, p.2) (memory_reads files faults (linked_groups c.args.model.now.lists.groups) faults 0 [] (nothing_read files faults (linked_groups c.args.model.now.lists.groups)) faults (omega arith))

pub returns-in_err-parts-clause-unread : goal.returns-in_err-parts-clause-unread
returns-in_err-parts-clause-unread g c = λ h e.
    let p = err_from_is_err_and c.from_residual-in_err-parts.result c.from_residual-in_err-parts.ensures.1 in
    let same : c.in_err-parts.field-0.0 ≡ PartRead h = cc in
    subst (λ (gs : List (Group g.row.S)). Rose (g.F.Folder.faults c.args.folder.now) (g.F.Folder.faults c.read_parts.new.folder) × IsReached g.row.S (g.F.Folder.files c.args.folder.now) gs h) (c.deref.ensures.value ∙ c.in_ok-groups.ensures) (c.in_err-parts.ensures.unread h (ap Err same))
