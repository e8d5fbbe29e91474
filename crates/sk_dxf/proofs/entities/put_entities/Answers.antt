use Rattle.std.proofs.Common.{◌+◌, ◌++◌, List, ℕ, drop, sym, ap, ◌∙◌}
use Rattle.sk_dxf.specs.Drawing.{entity_text, entity_texts}
use Rattle.sk_dxf.proofs.TextLemmas.{kept_more, piece_more, texts_more, texts_done}
use Rattle.sk_dxf.proofs.entities.put_entities.Goals as goal

pub loop-e-preserved : goal.loop-e-preserved
loop-e-preserved g c =
    let plane = c.args.sheet.now.plane in
    let acts = c.args.sheet.now.acts.now in
    let group = c.args.group.0 in
    let es = c.args.entities.now in
    let i = c.loop-e.e-index in
    let old = c.args.out.now.items in
    let out = c.loop-e.out.items in
    let new = c.put_entity.new.out.items in
    let piece = entity_text plane acts group c.e-item.result in
    let more = texts_more plane acts group es i c.e-item.result c.loop-e-test.true c.e-item.is in
    record {
      done = piece_more old out new piece (entity_texts plane acts group (drop (i + 1) es)) (entity_texts plane acts group es)
          (ap (λ (t : List ℕ). out ++ t) (sym more) ∙ c.loop-e.invariant.done) c.in_ok-put_entity.ensures.ok;
      kept = kept_more old out piece new c.loop-e.invariant.kept c.in_ok-put_entity.ensures.ok;
    }

pub returns-clause-ok : goal.returns-clause-ok
returns-clause-ok g c =
    let plane = c.args.sheet.now.plane in
    let acts = c.args.sheet.now.acts.now in
    let es = c.args.entities.now in
    texts_done plane acts c.args.group.0 es c.loop-e.e-index c.loop-e.out.items (c.args.out.now.items ++ entity_texts plane acts c.args.group.0 es) c.loop-e-test.false c.loop-e.invariant.done
