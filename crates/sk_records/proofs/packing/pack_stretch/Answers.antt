use Rattle.std.proofs.Common.{arith}
use Rattle.sk_records.proofs.PackLemmas.{stretch_moved}
use Rattle.sk_records.proofs.packing.pack_stretch.Goals as goal

pub returns-clause-item : goal.returns-clause-item
returns-clause-item c = stretch_moved c.args.out.now.items c.args.text.now c.extend_from_slice.new.self.items c.args.stretch c.len-start.result c.len-end.result c.in_ok-extend_from_slice.ensures.items c.requires (omega arith) (omega arith)
