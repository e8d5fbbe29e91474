use Rattle.std.proofs.Common.{set, sym, ap, ◌∙◌}
use Rattle.sk_chain.proofs.Noting.{noted_at, noted_nowhere}
use Rattle.sk_chain.proofs.dirty.note.Goals as goal

pub returns-in_ok-push : goal.returns-in_ok-push
returns-in_ok-push c =
    noted_at c.args.places.now.keys c.args.table.now.items _ c.in-Some.place c.index_mut.result.now c.args.later c.args.earlier (sym c.place_in.ensures ∙ c.in-Some.is) c.requires c.index_mut.ensures.value
    (ap (set c.args.table.now.items c.in-Some.place) c.in_ok-push.ensures.pushed)

pub returns-in_default : goal.returns-in_default
returns-in_default c = noted_nowhere c.args.places.now.keys c.args.table.now.items c.args.later c.args.earlier (sym c.place_in.ensures ∙ c.in_default.is)
