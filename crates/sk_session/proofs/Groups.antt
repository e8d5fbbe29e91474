-- Groups one after the other, in an order.
use Rattle.std.proofs.Common.{◌≡◌, ℕ, ◌+◌, ◌<◌, List, [], ◌∷◌, ◌++◌, length, get_or, take, Option, Some, None, refl, ap, sym, ◌∙◌}
use Rattle.std.specs.List.{filter_map}
use Rattle.std.proofs.lemmas.List.{append-nil, take_more}
use Rattle.std.proofs.lemmas.List.Elements.{filter_map-append}
use Rattle.sk_types.specs.declared.handle.GroupId.{GroupId}
use Rattle.sk_types.specs.declared.group.Group.{Group}
use Rattle.sk_chain.specs.Lookups.{group_at}

module _ {s : ℕ} (gs : List (Group s)) (order : List GroupId) (i : ℕ) (d : GroupId) (inside : i < length order) where
  abbrev found : GroupId → Option (Group s)
  found h = group_at h.0 gs

  one_more : filter_map found (take (i + 1) order) ≡ filter_map found (take i order) ++ filter_map found (get_or order i d ∷ [])
  one_more = ap (filter_map found) (take_more order i d inside) ∙ filter_map-append found (take i order) (get_or order i d ∷ [])

  -- the next one is among the groups, or isn't
  pub taken_more : (old new : List (Group s)) (x : Group s) → found (get_or order i d) ≡ Some x → new ≡ old ++ x ∷ [] → old ≡ filter_map found (take i order) → new ≡ filter_map found (take (i + 1) order)
  taken_more old new x is e f = e ∙ ap (λ (l : List (Group s)). l ++ x ∷ []) f ∙ sym (one_more ∙ rw is refl)

  pub passed_more : (old new : List (Group s)) → found (get_or order i d) ≡ None → new ≡ old → old ≡ filter_map found (take i order) → new ≡ filter_map found (take (i + 1) order)
  passed_more old new is e f = e ∙ f ∙ sym (one_more ∙ rw is (append-nil (filter_map found (take i order))))
