use Rattle.std.proofs.Common.{◌≡◌, ap, ◌∙◌, ◌++◌, ◌∷◌, [], set}
use Rattle.std.specs.Prelude.{◌==◌, if◌then◌else◌}
use Rattle.std.proofs.lemmas.List.{get_or_default}
use Rattle.sk_system.specs.Shares.{list_at}
use Rattle.sk_system.proofs.Parting.{at-put}
use Rattle.sk_system.proofs.shares.put.Goals as goal

pub returns : goal.returns
returns g c = λ k.
    let now = c.reach.new.lists.items in
    let n = c.args.group.0 in
    let is : c.push.new.self ≡ list_at now n ++ c.args.thing ∷ [] = c.in_ok-push.ensures.pushed ∙ ap (λ list. list ++ c.args.thing ∷ []) (c.index_mut.ensures.value ∙ get_or_default now n c.index_mut.result.now [] c.in_ok-reach.ensures.reached) in
    ap (λ list. list_at (set now n list) k) is ∙ at-put now n c.args.thing c.in_ok-reach.ensures.reached k ∙ ap (λ list. list ++ (if n == k then c.args.thing ∷ [] else [])) (c.in_ok-reach.ensures.same k)
