use Rattle.std.proofs.Common.{ℤ, FitsSigned, ap, ◌∙◌, rules, w32}
use Rattle.std.proofs.lemmas.Int.{to_z-of_z}
use Rattle.sk_copy.specs.declared.copy_number.TheConstants as which
use Rattle.sk_copy.specs.Known.{number_at}
use Rattle.sk_copy.specs.Copies.{moved_copy}
use Rattle.sk_copy.proofs.Making.{two_more}
use Rattle.sk_copy.proofs.extrude.add_ends.Goals as goal

pub returns : goal.returns
returns g c =
    let copied = moved_copy c.args.group.now (number_at c.args.numbers.now) c.args.entity.now in
    let high : FitsSigned w32 c.top-top.result = search rules in
    let low : FitsSigned w32 c.bottom-bottom.result = search rules in
    two_more c.args.made.now.items c.push.new.self.items c.push-2.new.self.items c.in_ok-upper.upper c.in_ok-lower.lower _ _
    (c.in_ok-upper.ensures ∙ ap (λ (t : ℤ). copied (which.TOP, t)) (to_z-of_z w32 c.top-top.result high ∙ c.top-top.ensures))
    (c.in_ok-lower.ensures ∙ ap (λ (t : ℤ). copied (which.BOTTOM, t)) (to_z-of_z w32 c.bottom-bottom.result low ∙ c.bottom-bottom.ensures))
    c.in_ok-push.ensures.items c.in_ok-push-2.ensures.items
