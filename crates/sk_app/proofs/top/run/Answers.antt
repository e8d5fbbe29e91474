use Rattle.sk_app.proofs.Causes.{done_cause, not_all_cause, words_cause, model_cause, absent_cause, unread_cause, group_cause, complete_cause}
use Rattle.sk_app.proofs.Headlines.{headline_cause}
use Rattle.sk_app.proofs.top.run.Goals as goal

pub returns-clause-done : goal.returns-clause-done
returns-clause-done g c = λ e. done_cause _ _ c.ended.result c.ended.ensures.runs (rw c.code.ensures at e)

pub returns-clause-not_all : goal.returns-clause-not_all
returns-clause-not_all g c = λ e. not_all_cause _ _ c.ended.result c.ended.ensures.runs (rw c.code.ensures at e)

pub returns-clause-words : goal.returns-clause-words
returns-clause-words g c = λ e. words_cause _ _ c.ended.result c.ended.ensures.runs (rw c.code.ensures at e)

pub returns-clause-model : goal.returns-clause-model
returns-clause-model g c = λ e. model_cause _ _ c.ended.result c.ended.ensures.runs (rw c.code.ensures at e)

pub returns-clause-absent : goal.returns-clause-absent
returns-clause-absent g c = λ e. absent_cause _ _ c.ended.result c.ended.ensures.runs (rw c.code.ensures at e)

pub returns-clause-unread : goal.returns-clause-unread
returns-clause-unread g c = λ e. unread_cause _ _ c.ended.result c.ended.ensures.runs (rw c.code.ensures at e)

pub returns-clause-group : goal.returns-clause-group
returns-clause-group g c = λ e. group_cause _ _ c.ended.result c.ended.ensures.runs (rw c.code.ensures at e)

pub returns-clause-complete : goal.returns-clause-complete
returns-clause-complete g c = rw c.code.ensures (complete_cause _ _ c.ended.result c.ended.ensures.runs)

pub returns-clause-headline : goal.returns-clause-headline
returns-clause-headline g c = rw c.code.ensures (headline_cause c.law_comes_out.ensures c.law_model.ensures c.law_read.ensures _ _ c.ended.result c.ended.ensures.runs)
