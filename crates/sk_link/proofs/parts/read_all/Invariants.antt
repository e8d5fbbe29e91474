use Rattle.std.proofs.Common.{◌≡◌}
use Rattle.sk_link.proofs.Replied.{SoFar}
use Rattle.sk_link.proofs.parts.read_all.Given as goal

abbrev pub invariant-loop-group : goal.invariant-loop-group
invariant-loop-group g l = record {
  far : SoFar g.row.S (g.F.Folder.files l.fn.folder) (g.F.Folder.faults l.fn.folder) (g.F.Folder.faults l.folder) l.linked l.group-index l.parts.items;
  same : g.F.Folder.files l.folder ≡ g.F.Folder.files l.fn.folder;
}
