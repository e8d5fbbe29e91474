use Rattle.std.proofs.Common.{◌≡◌, [], length, map}
use Rattle.sk_records.specs.Blocks.{records}
use Rattle.sk_model.specs.Chain.{all_of}
use Rattle.sk_model.proofs.Steps.{RestOf}
use Rattle.sk_model.proofs.listed.type_all.Given as goal

abbrev pub invariant-loop-place : goal.invariant-loop-place
invariant-loop-place g l = record {
  room : length l.found.items ≡ length l.table.items;
  handles : l.handles.keys ≡ map g.T.FromFields.handle l.items.items;
  rest : RestOf g.T.FromFields.handle g.T.FromFields.typed l.items.items l.place (records g.T.FromFields.kind l.book) ≡ all_of g.T.FromFields.handle g.T.FromFields.typed [] (records g.T.FromFields.kind l.book);
}
