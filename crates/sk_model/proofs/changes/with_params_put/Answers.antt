use Rattle.std.proofs.Common.{arith, refl, ap, sym, ◌∙◌, ◌++◌, map, List}
use Rattle.sk_types.specs.declared.entity.ParamValue.{ParamValue}
use Rattle.sk_types.specs.Lookups.{value_handle}
use Rattle.sk_model.proofs.ManySteps.{made_exist, made_given, made_changed, added_fit, values_fit, values_made, put_back}
use Rattle.sk_model.proofs.changes.with_params_put.Goals as goal

pub add_handles-requires : goal.add_handles-requires
add_handles-requires g c = (omega arith, added_fit c.args.params.now.items c.args.values.now c.deref.result.now c.in_ok-set.set.added.items c.deref-3.result.now c.args.handles.now.keys c.requires.handles c.requires.distinct c.in_ok-set.ensures.added c.deref.ensures.value c.deref-3.ensures.value)

pub into_changed-requires-clause-exist : goal.into_changed-requires-clause-exist
into_changed-requires-clause-exist g c = made_exist c.args.params.now.items c.args.values.now c.deref.result.now c.in_ok-set.set.changes c.args.book c.in_ok-set.ensures.changes c.deref.ensures.value c.requires.count

pub into_changed-requires-clause-given : goal.into_changed-requires-clause-given
into_changed-requires-clause-given g c = made_given c.args.params.now.items c.args.values.now c.deref.result.now c.in_ok-set.set.changes c.args.book c.in_ok-set.ensures.changes c.deref.ensures.value c.requires.count c.requires.scale c.in_ok-set.ensures.fits c.in_ok-set.set.lines.items c.deref-4.result.now c.in_ok-set.ensures.lines c.deref-4.ensures.value

pub set_values-requires : goal.set_values-requires
set_values-requires g c = (omega arith, values_fit c.args.params.now.items c.args.values.now c.deref.result.now c.in_ok-set.set.added.items c.deref-2.result.now c.deref_mut.result.now c.args.handles.now.keys c.add_handles.new.handles.keys c.requires.handles c.in_ok-set.ensures.added c.deref.ensures.value c.deref-2.ensures.value (c.deref_mut.ensures.value ∙ c.in_ok-extend_from_slice.ensures.items) (c.in_ok-add_handles.ensures.ok ∙ ap (λ (l : List (ParamValue g.row.S)). c.args.handles.now.keys ++ map value_handle l) (c.deref-3.ensures.value ∙ sym c.deref-2.ensures.value)))

pub returns-clause-book : goal.returns-clause-book
returns-clause-book g c = made_changed c.args.params.now.items c.args.values.now c.deref.result.now c.in_ok-set.set.changes c.args.book c.in_ok-set.ensures.changes c.deref.ensures.value c.requires.count c.requires.scale c.in_ok-set.ensures.fits c.in_ok-set.set.lines.items c.deref-4.result.now c.in_ok-set.ensures.lines c.deref-4.ensures.value c.in_ok-changed.changed c.requires.distinct c.in_ok-changed.ensures

pub returns-clause-params : goal.returns-clause-params
returns-clause-params g c = put_back c.extend_from_slice.new.self.len c.add_handles.new.handles.keys c.deref_mut.result.now c.set_values.new.params _ _ (values_fit c.args.params.now.items c.args.values.now c.deref.result.now c.in_ok-set.set.added.items c.deref-2.result.now c.deref_mut.result.now c.args.handles.now.keys c.add_handles.new.handles.keys c.requires.handles c.in_ok-set.ensures.added c.deref.ensures.value c.deref-2.ensures.value (c.deref_mut.ensures.value ∙ c.in_ok-extend_from_slice.ensures.items) (c.in_ok-add_handles.ensures.ok ∙ ap (λ (l : List (ParamValue g.row.S)). c.args.handles.now.keys ++ map value_handle l) (c.deref-3.ensures.value ∙ sym c.deref-2.ensures.value))).0 c.set_values.ensures.handles c.deref_mut.ensures.len refl ∙ values_made c.args.params.now.items c.args.values.now c.deref.result.now c.in_ok-set.set.added.items c.deref-2.result.now c.deref_mut.result.now c.set_values.new.params c.requires.distinct c.in_ok-set.ensures.added c.deref.ensures.value c.deref-2.ensures.value (c.deref_mut.ensures.value ∙ c.in_ok-extend_from_slice.ensures.items) c.set_values.ensures.value

pub returns-clause-handles : goal.returns-clause-handles
returns-clause-handles g c = c.set_values.ensures.handles ∙ ap (map value_handle) (sym (put_back c.extend_from_slice.new.self.len c.add_handles.new.handles.keys c.deref_mut.result.now c.set_values.new.params _ _ (values_fit c.args.params.now.items c.args.values.now c.deref.result.now c.in_ok-set.set.added.items c.deref-2.result.now c.deref_mut.result.now c.args.handles.now.keys c.add_handles.new.handles.keys c.requires.handles c.in_ok-set.ensures.added c.deref.ensures.value c.deref-2.ensures.value (c.deref_mut.ensures.value ∙ c.in_ok-extend_from_slice.ensures.items) (c.in_ok-add_handles.ensures.ok ∙ ap (λ (l : List (ParamValue g.row.S)). c.args.handles.now.keys ++ map value_handle l) (c.deref-3.ensures.value ∙ sym c.deref-2.ensures.value))).0 c.set_values.ensures.handles c.deref_mut.ensures.len refl))
