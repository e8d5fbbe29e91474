use Rattle.std.proofs.Common.{◌≤◌, take}
use Rattle.sk_files.specs.Taken.{Takes}
use Rattle.sk_app.specs.Ends.{joined}
use Rattle.sk_app.specs.Lent.{texts}
use Rattle.sk_app.proofs.pieces.put_all.Given as goal

abbrev pub invariant-loop-piece : goal.invariant-loop-piece
invariant-loop-piece g l = record {
  later : g.W.Sink.faults l.fn.out ≤ g.W.Sink.faults l.out;
  taken : Takes (g.W.Sink.taken l.fn.out) (g.W.Sink.taken l.out) (joined (take l.piece-index (texts l.pieces)));
}
