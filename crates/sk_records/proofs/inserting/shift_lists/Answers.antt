use Rattle.std.proofs.Common.{◌≡◌, ◌<◌, ◌+◌, ◌^◌, ℕ, List, Vec, Global, length, map, get_or, arith, sym, ap, ◌∙◌, subst}
use Rattle.std.specs.List.{All}
use Rattle.std.proofs.lemmas.List.{length-map, map-set, length-set}
use Rattle.std.proofs.Math.ListN.{get_or-map}
use Rattle.sk_records.specs.Holding.Places.{lists_of}
use Rattle.sk_records.specs.Holding.Inserted.{shifted}
use Rattle.sk_records.proofs.Shifted.{still, mapped_more}
use Rattle.sk_records.proofs.inserting.shift_lists.Goals as goal

pub shift_list-requires : goal.shift_list-requires
shift_list-requires c =
    let f : Vec ℕ Global → List ℕ = λ v. v.items in
    let old = lists_of c.args.places.now.items in
    let now = lists_of c.loop-i.places.items in
    let i = c.loop-i.i in
    let v = c.index_mut.result.now in
    let lt : i < length now = omega (arith, c.loop-i.invariant.len, length-map c.loop-i.places.items f) in
    let lo : i < length old = omega (arith, c.loop-i.invariant.len, length-map c.args.places.now.items f) in
    let is : v.items ≡ get_or now i v.items = ap f c.index_mut.ensures.value ∙ sym (get_or-map f c.loop-i.places.items i v) in
    let x = still old now i v.items c.loop-i.invariant.rest lt lo is in
    let Q : List ℕ → Type 0 = λ list. All (λ (p : ℕ). p + c.args.count < 2 ^ 64) list in
    subst Q (sym x) (c.requires i v.items lo)

pub loop-i-preserved : goal.loop-i-preserved
loop-i-preserved c =
    let f : Vec ℕ Global → List ℕ = λ v. v.items in
    let old = lists_of c.args.places.now.items in
    let now = lists_of c.loop-i.places.items in
    let i = c.loop-i.i in
    let v = c.index_mut.result.now in
    let lt : i < length now = omega (arith, c.loop-i.invariant.len, length-map c.loop-i.places.items f) in
    let lo : i < length old = omega (arith, c.loop-i.invariant.len, length-map c.args.places.now.items f) in
    let is : v.items ≡ get_or now i v.items = ap f c.index_mut.ensures.value ∙ sym (get_or-map f c.loop-i.places.items i v) in
    let both = mapped_more (λ (list : List ℕ). map (shifted c.args.at c.args.count) list) old now i v.items c.shift_list.new.list.items c.loop-i.invariant.rest lt lo is c.shift_list.ensures c.loop-i.invariant.same in
    record {
      same = rw (map-set f c.loop-i.places.items i c.shift_list.new.list) both.0;
      rest = rw (map-set f c.loop-i.places.items i c.shift_list.new.list) both.1;
      len = omega (arith, c.loop-i.invariant.len, length-set c.loop-i.places.items i c.shift_list.new.list);
    }
