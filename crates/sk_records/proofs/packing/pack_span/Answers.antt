use Rattle.std.proofs.Common.{arith}
use Rattle.sk_records.proofs.PackLemmas.{moved_line}
use Rattle.sk_records.proofs.packing.pack_span.Goals as goal

pub returns-clause-line : goal.returns-clause-line
returns-clause-line c = moved_line c.args.out.now.items c.args.text.now c.extend_from_slice.new.self.items c.args.span c.len-start.result c.in_ok-extend_from_slice.ensures.items c.requires (omega arith)
