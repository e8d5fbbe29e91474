use Rattle.std.proofs.Common.{List, [], ◌∷◌, ◌++◌, sym, ap, ◌∙◌, get_or}
use Rattle.std.proofs.lemmas.List.{take_more}
use Rattle.sk_types.specs.declared.group.RemapEntry.{RemapEntry}
use Rattle.sk_copy.proofs.Listing.{entry_greatest, entry_seen}
use Rattle.sk_copy.proofs.lists.Listing.of.Goals as goal

abbrev nothing : RemapEntry
nothing = record { number = 0; source = record { 0 = 0 }; copy = 0 }

pub loop-entry-preserved : goal.loop-entry-preserved
loop-entry-preserved c =
    let list = c.args.list.now in
    let i = c.loop-entry.entry-index in
    let there = c.loop-entry-test.true in
    record {
      entries = c.in_ok-push.ensures.items ∙ ap (λ (l : List RemapEntry). l ++ get_or list i nothing ∷ []) c.loop-entry.invariant.entries ∙ sym (take_more list i nothing there);
      top = entry_greatest list i nothing c.max-top.result c.loop-entry.top there c.loop-entry.invariant.top c.max-top.ensures;
      seen = entry_seen list i nothing c.loop-entry.seen.keys c.insert.new.self.keys there c.loop-entry.invariant.seen c.in_ok-insert.ensures.keys;
    }
