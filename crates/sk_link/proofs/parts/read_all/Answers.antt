use Rattle.std.proofs.Common.{◌≡◌, refl, ◌∙◌}
use Rattle.std.proofs.lemmas.Result.{err_from_is_err_and}
use Rattle.sk_link.proofs.Replied.{nothing_read, memory_reads, fault_reads, part_read, all_reads}
use Rattle.sk_link.proofs.parts.read_all.Goals as goal

pub loop-group-init : goal.loop-group-init
loop-group-init g c = record { far = rw c.new-parts.ensures.items (nothing_read (g.F.Folder.files c.args.folder.now) (g.F.Folder.faults c.args.folder.now) c.args.linked.now); same = refl }

pub loop-group-preserved : goal.loop-group-preserved
loop-group-preserved g c = record {
  far = part_read (g.F.Folder.files c.args.folder.now) (g.F.Folder.faults c.args.folder.now) c.args.linked.now (g.F.Folder.faults c.loop-group.folder) c.loop-group.group-index c.loop-group.parts.items c.loop-group.invariant.far
      (g.F.Folder.faults c.read_part.new.folder) _ c.group-item.result c.loop-group-test.true c.group-item.is c.in_ok-entities.ensures.later _
      (rw c.loop-group.invariant.same at c.in_ok-entities.ensures.reads) c.in_ok-entities.entities.items c.push.new.self.items refl (rw c.of.ensures at c.in_ok-push.ensures.items);
  same = c.in_ok-entities.ensures.files ∙ c.loop-group.invariant.same;
}

pub returns-in_err-entities-clause-reads : goal.returns-in_err-entities-clause-reads
returns-in_err-entities-clause-reads g c =
    let p = err_from_is_err_and c.from_residual.result c.from_residual.ensures.1 in
    let same : p.0 ≡ c.in_err-entities.field-0.0 = cc (p.2) in
    rw (p.1, same) (fault_reads (g.F.Folder.files c.args.folder.now) (g.F.Folder.faults c.args.folder.now) c.args.linked.now (g.F.Folder.faults c.loop-group.folder) c.loop-group.group-index c.loop-group.parts.items c.loop-group.invariant.far
    (g.F.Folder.faults c.read_part.new.folder) _ c.group-item.result c.loop-group-test.true c.group-item.is c.in_err-entities.ensures.later _
    (rw c.loop-group.invariant.same at c.in_err-entities.ensures.reads) c.in_err-entities.field-0.0 refl)

pub returns-in_err-push-clause-reads : goal.returns-in_err-push-clause-reads
returns-in_err-push-clause-reads g c =
    let p = err_from_is_err_and c.from_residual-in_err-push.result c.from_residual-in_err-push.ensures.1 in
    rw (p.1, p.2) (memory_reads (g.F.Folder.files c.args.folder.now) (g.F.Folder.faults c.args.folder.now) c.args.linked.now (g.F.Folder.faults c.loop-group.folder) c.loop-group.group-index c.loop-group.parts.items c.loop-group.invariant.far
    (g.F.Folder.faults c.read_part.new.folder) c.in_ok-entities.ensures.later)

pub returns-clause-reads : goal.returns-clause-reads
returns-clause-reads g c =
    all_reads (g.F.Folder.files c.args.folder.now) (g.F.Folder.faults c.args.folder.now) c.args.linked.now (g.F.Folder.faults c.loop-group.folder) c.loop-group.group-index c.loop-group.parts.items c.loop-group.invariant.far c.loop-group-test.false
