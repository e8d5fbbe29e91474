use Rattle.std.proofs.Common.{List, ap, ◌∙◌, sym, subst}
use Rattle.sk_types.specs.Lookups.{Rise}
use Rattle.sk_chain.specs.declared.made.Made.{Made}
use Rattle.sk_chain.specs.Made.{copied_by, made_by}
use Rattle.sk_chain.proofs.Homes.{made_own}
use Rattle.sk_chain.proofs.Standing.{own_pushed}
use Rattle.sk_chain.proofs.making.one_made.Goals as goal

pub returns-clause-own : goal.returns-clause-own
returns-clause-own g c =
    let rs = c.args.requests.now in
    let parts = c.args.parts.now in
    let group = c.args.group.now in
    let same = c.deref-2.ensures.value in
    own_pushed rs c.args.groups.now c.args.made.items c.push.new.self.items c.in_ok-one.one c.in_ok-push.ensures.items c.requires.own
    (made_own rs c.args.groups.now c.requires.requests c.requires.apart parts c.args.made.items group c.in_ok-one.one c.requires.own c.requires.there c.requires.group
    (subst (λ (made : List (Made g.row.S)). Rise (copied_by group.kind parts made group)) same c.in_ok-one.ensures.source)
    (ap (λ (made : List (Made g.row.S)). made_by rs parts made group) (sym same) ∙ c.in_ok-one.ensures.value)).0
