use Rattle.sk_dxf.specs.Drawing.{section_head, section_end, entity_texts}
use Rattle.sk_dxf.proofs.TextLemmas.{three_pieces}
use Rattle.sk_dxf.proofs.drawing.put_section.Goals as goal

pub returns-clause-ok : goal.returns-clause-ok
returns-clause-ok g c =
    three_pieces c.args.out.now.items c.extend_from_slice.new.self.items c.put_entities.new.out.items c.extend_from_slice-2.new.self.items
    section_head (entity_texts c.args.sheet.now.plane c.args.sheet.now.acts.now c.args.group.0 c.args.entities.now) section_end
    c.in_ok-extend_from_slice.ensures.items c.in_ok-put_entities.ensures.ok c.in_ok-extend_from_slice-2.ensures.items
