use Rattle.std.proofs.Common.{◌≡◌, sym, ◌∙◌, subst, arith}
use Rattle.sk_types.specs.Params.{unknown_params}
use Rattle.sk_system.specs.Fits.{IsFit}
use Rattle.sk_system.proofs.Made.{made-ready, made-system, known-fits}
use Rattle.sk_system.proofs.system.System.new.Goals as goal

pub trees_of-made-requires : goal.trees_of-made-requires
trees_of-made-requires g c =
    let es = c.args.outline.now.entities in
    let cs = c.args.share.constraints.now in
    let group = c.args.group.now in
    let all : c.in_ok-unknowns.unknowns.items ≡ unknown_params cs es group = c.in_ok-unknowns.ensures in
    let r = made-ready group es cs cs c.args.numbers.now c.deref.result.now (c.deref.ensures.value ∙ all) c.requires.constraints c.requires.known in
    (omega arith, (omega arith, (omega arith, (omega arith, (c.requires.scale, (r.source, (c.requires.entities, (r.in_turn, (r.room, r.few_cosines)))))))))

pub invariant_of-result : goal.invariant_of-result
invariant_of-result g c =
    let es = c.args.outline.now.entities in
    let cs = c.args.share.constraints.now in
    let group = c.args.group.now in
    let all : c.in_ok-unknowns.unknowns.items ≡ unknown_params cs es group = c.in_ok-unknowns.ensures in
    let e = made-system group es cs cs c.args.numbers.now c.deref.result.now c.in_ok-unknowns.unknowns.items _ _ _
    (c.deref.ensures.value ∙ all) all c.requires.constraints c.in_ok-numbers.ensures.numbers c.in_ok-numbers.ensures.rows c.in_ok-numbers.ensures.formulas in
    record { fits = subst IsFit (sym e) (known-fits group es cs c.args.numbers.now c.requires.known); small = c.in_ok-numbers.ensures.small }

pub returns : goal.returns
returns g c =
    let es = c.args.outline.now.entities in
    let cs = c.args.share.constraints.now in
    let group = c.args.group.now in
    let all : c.in_ok-unknowns.unknowns.items ≡ unknown_params cs es group = c.in_ok-unknowns.ensures in
    made-system group es cs cs c.args.numbers.now c.deref.result.now c.in_ok-unknowns.unknowns.items _ _ _
    (c.deref.ensures.value ∙ all) all c.requires.constraints c.in_ok-numbers.ensures.numbers c.in_ok-numbers.ensures.rows c.in_ok-numbers.ensures.formulas
