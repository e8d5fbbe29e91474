use Rattle.std.proofs.Common.{◌≡◌, ◌<◌, List, length, take, arith, ap, sym, ◌∙◌, refl}
use Rattle.std.proofs.lemmas.List.{take_all, length-set}
use Rattle.sk_records.specs.Written.{bare}
use Rattle.sk_records.specs.Holding.Held.{blocks_at}
use Rattle.sk_records.proofs.GivenLemmas.{bare_rest, bare_blocks, bare_items}
use Rattle.sk_records.proofs.given.forget_items.Goals as goal

pub loop-i-init : goal.loop-i-init
loop-i-init c = record {
  blocks = λ text. refl;
  within = λ text all. all;
  rest = refl;
  len = refl;
}

pub loop-i-preserved : goal.loop-i-preserved
loop-i-preserved c =
    let old = c.args.items.now.items in
    let now = c.loop-i.items.items in
    let i = c.loop-i.i in
    let lt : i < length now = omega (arith, c.loop-i.invariant.len) in
    let lo : i < length old = omega (arith, c.loop-i.invariant.len) in
    record {
      blocks = λ text. bare_blocks old now i c.index_mut.result.now c.forget_item.new.item lt c.index_mut.ensures.value c.forget_item.ensures c.loop-i.invariant.rest lo text (c.loop-i.invariant.blocks text);
      within = λ text all. bare_items old now i c.index_mut.result.now c.forget_item.new.item lt c.index_mut.ensures.value c.forget_item.ensures c.loop-i.invariant.rest lo text (c.loop-i.invariant.within text all);
      rest = bare_rest old now i c.index_mut.result.now c.forget_item.new.item lt c.index_mut.ensures.value c.forget_item.ensures c.loop-i.invariant.rest lo;
      len = omega (arith, c.loop-i.invariant.len, length-set now i c.forget_item.new.item);
    }

pub returns : goal.returns
returns c =
    let old = c.args.items.now.items in
    let now = c.loop-i.items.items in
    let i = c.loop-i.i in
    let whole_now : take i now ≡ now = take_all i now (omega (arith, c.loop-i.invariant.len)) in
    let whole_old : take i old ≡ old = take_all i old (omega (arith, c.loop-i.invariant.len)) in
    record {
      blocks = λ text. ap (blocks_at text) (sym whole_now) ∙ c.loop-i.invariant.blocks text ∙ ap (λ (l : List _). bare (blocks_at text l)) whole_old;
      within = c.loop-i.invariant.within;
    }
