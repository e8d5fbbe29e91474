use Rattle.std.proofs.Common.{ap}
use Rattle.std.specs.Prelude.{not}
use Rattle.sk_expr.specs.Columns.{is_among}
use Rattle.sk_krawczyk.proofs.ListLemmas.{kept-more}
use Rattle.sk_krawczyk.proofs.lists.others.Goals as goal

pub loop-k-preserved : goal.loop-k-preserved
loop-k-preserved c = kept-more (λ n. not (is_among c.args.listed.now n)) c.loop-k.k _ c.loop-k.list.items c.keep_if.new.list.items c.loop-k.invariant (ap not c.is_among.ensures) c.in-Ok.ensures
