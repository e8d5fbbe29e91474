use Rattle.std.proofs.Common.{◌≡◌, ℕ, ◌+◌, ◌<◌, length, List, [], ◌∷◌, ◌++◌, take, get_or, Option, Some, None, ap, ◌∙◌, sym, arith}
use Rattle.std.specs.Prelude.{slice_get}
use Rattle.std.specs.List.{cons_option}
use Rattle.std.proofs.lemmas.List.{take_more, append-nil}
use Rattle.std.proofs.lemmas.List.Elements.{filter_map-append}
use Rattle.sk_types.specs.declared.handle.ParamId.{ParamId}
use Rattle.sk_report.specs.Block.{params_in}
use Rattle.sk_report.proofs.block.params_in.Goals as goal
use Rattle.sk_report.proofs.block.params_in.Goals.{in-Some+in_ok-push, in_default}

module _ (params : List ParamId) (columns : List ℕ) (i : ℕ) (inside : i < length columns) (list new : List ParamId) (so_far : list ≡ params_in params (take i columns)) where
  one_more : params_in params (take (i + 1) columns) ≡ list ++ cons_option (slice_get params (get_or columns i 0)) []
  one_more =
      ap (params_in params) (take_more columns i 0 inside)
      ∙ filter_map-append (slice_get params) (take i columns) (get_or columns i 0 ∷ [])
      ∙ ap (λ (ps : List ParamId). ps ++ cons_option (slice_get params (get_or columns i 0)) []) (sym so_far)

  some_more : (p : ParamId) → Some p ≡ slice_get params (get_or columns i 0) → new ≡ list ++ p ∷ [] → new ≡ params_in params (take (i + 1) columns)
  some_more p h n = n ∙ ap (λ (o : Option ParamId). list ++ cons_option o []) h ∙ sym one_more

  none_more : None ≡ slice_get params (get_or columns i 0) → new ≡ list → new ≡ params_in params (take (i + 1) columns)
  none_more h n = n ∙ sym (append-nil list) ∙ ap (λ (o : Option ParamId). list ++ cons_option o []) h ∙ sym one_more

pub loop-column-preserved : goal.loop-column-preserved
loop-column-preserved c = elim c.match-param_at.branch [
  | in-Some+in_ok-push w ↦
      some_more c.args.params.now c.args.columns.now c.loop-column.column-index (omega arith) c.loop-column.list.items c.match-param_at.list.items c.loop-column.invariant w.in-Some.param w.in-Some.ensures
      (cc (w.list-is, w.in_ok-push.ensures.items))
  | in_default w ↦
      none_more c.args.params.now c.args.columns.now c.loop-column.column-index (omega arith) c.loop-column.list.items c.match-param_at.list.items c.loop-column.invariant w.in_default.ensures (cc (w.list-is))
]
