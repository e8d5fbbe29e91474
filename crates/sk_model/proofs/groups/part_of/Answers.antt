-- A name that isn't refused is UTF-8, and one that is refused isn't.
use Rattle.std.proofs.Common.{inr, ◌∙◌, arith}
use Rattle.std.proofs.lemmas.Str.{IsUtf8-from_is_utf8, is_utf8-from_IsUtf8}
use Rattle.std.proofs.lemmas.Bool.{false_from_ne_true}
use Rattle.sk_model.proofs.Parts.{named_ok, named_fault}
use Rattle.sk_model.proofs.groups.part_of.Goals as goal

pub returns-in_ok-from_str-in-Ok : goal.returns-in_ok-from_str-in-Ok
returns-in_ok-from_str-in-Ok c =
    rw c.in-Linked.is (named_ok c.args.id c.args.name.now _ (let h = c.is_empty.ensures in let k = c.if-is_empty.false in grind (arith, h, k)) (is_utf8-from_IsUtf8 _ c.in-Ok.ensures.cases.1) (c.in_ok-from_str-in-Ok.ensures.ok ∙ c.in-Ok.ensures.cases.0))

pub returns-in-Err : goal.returns-in-Err
returns-in-Err c =
    inr (rw c.in-Linked.is (named_fault c.args.id c.args.name.now (let h = c.is_empty.ensures in let k = c.if-is_empty.false in grind (arith, h, k)) (false_from_ne_true _ (λ e. c.in-Err.ensures.cases.0 (IsUtf8-from_is_utf8 _ e)))))
