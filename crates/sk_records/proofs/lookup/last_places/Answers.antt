use Rattle.std.proofs.Common.{◌≡◌, [], List, ℕ, Option, length, drop, ap, sym, ◌∙◌, arith}
use Rattle.std.proofs.lemmas.List.{drop_all, length-map}
use Rattle.sk_records.specs.declared.rows.Row as held
use Rattle.sk_records.specs.Holding.Found.{noted_from}
use Rattle.sk_records.specs.Holding.Held.{rows_at}
use Rattle.sk_records.proofs.FoundLemmas.{none_each, found_all, nowhere}
use Rattle.sk_records.proofs.lookup.last_places.Goals as goal

pub loop-i-init : goal.loop-i-init
loop-i-init c = record {
  len = omega (arith, c.requires.room, ap length c.clear.ensures, length-map c.args.found.now (λ (o : Option ℕ). nowhere));
  same = ap (noted_from 0 (rows_at c.args.text.now c.args.rows.now) c.args.keys.now) (c.clear.ensures ∙ none_each c.args.found.now c.args.keys.now c.requires.room);
}

pub returns : goal.returns
returns c =
    let rows = c.args.rows.now in
    let none : drop c.loop-i.i rows ≡ [] = drop_all c.loop-i.i rows (omega arith) in
    sym (ap (λ (l : List held.Row). noted_from c.loop-i.i (rows_at c.args.text.now l) c.args.keys.now c.loop-i.found) none)
    ∙ c.loop-i.invariant.same
    ∙ found_all (rows_at c.args.text.now rows) c.args.keys.now
