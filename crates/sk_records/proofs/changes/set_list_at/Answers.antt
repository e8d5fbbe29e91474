use Rattle.std.proofs.Common.{refl, sym, ◌∙◌, subst}
use Rattle.std.proofs.lemmas.Result.{on_ok_weaker, on_err_weaker}
use Rattle.sk_records.specs.Holding.Held.{item_blocks, ItemWithin}
use Rattle.sk_records.proofs.BookChanged.{same_rows}
use Rattle.sk_records.proofs.changes.set_list_at.Goals as goal

pub set_item_list-requires : goal.set_item_list-requires
set_item_list-requires c = record { within = subst (ItemWithin c.args.text.now.items) (sym c.index_mut.ensures.value) (c.requires.within c.args.at c.index_mut.result.now c.requires.place) }

pub returns-clause-ok : goal.returns-clause-ok
returns-clause-ok c = on_ok_weaker c.set_item_list.result (λ e. record {
  was = c.index_mut.result.now;
  now = c.set_item_list.new.item;
  stood = c.index_mut.ensures.value;
  items = refl;
  blocks = e;
  within = c.set_item_list.ensures.within;
  kind = c.set_item_list.ensures.kind;
  grown = c.set_item_list.ensures.grown;
}) c.set_item_list.ensures.ok

pub returns-clause-err : goal.returns-clause-err
returns-clause-err c = on_err_weaker c.set_item_list.result (λ e. record {
  was = c.index_mut.result.now;
  now = c.set_item_list.new.item;
  stood = c.index_mut.ensures.value;
  items = refl;
  blocks = e ∙ same_rows (item_blocks c.args.text.now.items c.index_mut.result.now);
  within = c.set_item_list.ensures.within;
  kind = c.set_item_list.ensures.kind;
  grown = c.set_item_list.ensures.grown;
}) c.set_item_list.ensures.err
