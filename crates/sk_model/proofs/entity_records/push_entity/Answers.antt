use Rattle.std.proofs.Common.{◌++◌}
use Rattle.sk_types.specs.Lookups.{act_at}
use Rattle.sk_records.specs.declared.kinds.Kind.TheVariants as kind
use Rattle.sk_model.specs.EntityRecords.{name_pairs, act_pairs, head_pairs, seen_pairs, entity_pairs}
use Rattle.sk_model.proofs.PairLines.{behind, record_written}
use Rattle.sk_model.proofs.entity_records.push_entity.Goals as goal

pub returns-clause-lines : goal.returns-clause-lines
unfolding entity_pairs
returns-clause-lines g c =
    let e = c.args.entity.now in
    let z = c.args.out.now.items in
    let acts = act_pairs e.kind (act_at e.id.0 c.args.acts.now) in
    record_written kind.Entity (head_pairs e ++ (name_pairs e ++ (acts ++ seen_pairs))) z c.push_value.new.out.items c.extend_from_slice.new.self.items
    (behind (head_pairs e) (name_pairs e ++ (acts ++ seen_pairs)) z c.push_head.new.out.items c.push_value.new.out.items c.in_ok-push_head.ensures.lines
    (behind (name_pairs e) (acts ++ seen_pairs) c.push_head.new.out.items c.push_names.new.out.items c.push_value.new.out.items c.in_ok-push_names.ensures.lines
    (behind acts seen_pairs c.push_names.new.out.items c.push_act.new.out.items c.push_value.new.out.items c.in_ok-push_act.ensures.lines c.in_ok-push_value.ensures)))
    c.in_ok-extend_from_slice.ensures.items
