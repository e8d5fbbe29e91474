use Rattle.std.proofs.Common.{◌≡◌, List, [], ◌∷◌, ◌++◌, ap, sym, ◌∙◌}
use Rattle.sk_records.specs.declared.items.Item.{Item}
use Rattle.sk_records.specs.declared.items.Item.TheVariants.{Lines}
use Rattle.sk_records.specs.Holding.Places.{places_from, all_places}
use Rattle.sk_records.proofs.BookChanged.{either_way}
use Rattle.sk_records.proofs.RoomMade.{lists_put, both_ok, both_err}
use Rattle.sk_records.proofs.spots.insert_one.Goals as goal

pub returns-clause-index : goal.returns-clause-index
returns-clause-index c =
    let one : List Item = Lines c.args.stretch ∷ [] in
    let made : c.push.new.self.items ≡ one = c.in_ok-push.ensures.items ∙ ap (λ (l : List Item). l ++ one) c.new-new.ensures.items in
    either_way c.insert_at.result (both_ok _ _ c.insert_at.result c.insert_at.ensures.items c.insert_at.ensures.lists) (both_err _ _ c.insert_at.result c.insert_at.ensures.items_kept c.insert_at.ensures.lists_kept)
    (λ e. lists_put c.args.items.now.items c.push.new.self.items c.args.at c.args.places.now.items c.insert_at.new.places.items c.requires.place (λ k j. ap (places_from k j) made) c.requires.index e.1 ∙ ap all_places (sym e.0))
    (λ e. e.1 ∙ c.requires.index ∙ ap all_places (sym e.0))
