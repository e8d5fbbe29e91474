use Rattle.std.proofs.Common.{◌≡◌, [], ◌∷◌, ◌++◌, ap, ◌∙◌, subst}
use Rattle.std.specs.List.{All}
use Rattle.sk_records.specs.declared.items.Item.{Item}
use Rattle.sk_records.specs.declared.items.Item.TheVariants.{Held}
use Rattle.sk_records.specs.Holding.Held.{ItemWithin}
use Rattle.sk_records.specs.Holding.GivenHeld.{IsGivenAs}
use Rattle.sk_records.proofs.GivenLemmas.{record_given}
use Rattle.sk_records.proofs.given.push_record.Goals as goal

pub returns-in-Some-Held-clause-item : goal.returns-in-Some-Held-clause-item
returns-in-Some-Held-clause-item c =
    let text = c.push_given.new.text.items in
    let e : c.in_ok-items.items.items ≡ c.pop.new.self.items ++ Held c.in-Some-Held.record ∷ [] = c.in-Some-Held.ensures.items ∙ ap (λ (x : Item). c.pop.new.self.items ++ x ∷ []) c.in-Some-Held.field-0-is in
    record_given text c.args.kind c.args.given.now c.pop.new.self.items c.in-Some-Held.record c.requires (subst (IsGivenAs text c.args.given.now) e c.in_ok-items.ensures.items) (subst (All (ItemWithin text)) e c.in_ok-items.ensures.within)
