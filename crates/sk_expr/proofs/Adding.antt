-- The set's own equality, which is that of nodes.
use Rattle.std.proofs.Common.{◌≡◌, ◌∙◌, ℕ, ℤ, Bool, List, [], ◌∷◌, ◌++◌}
use Rattle.std.specs.Prelude.{if◌then◌else◌}
use Rattle.std.specs.List.{list_any, position_or_len}
use Rattle.sk_expr.specs.declared.node.Node.{Node}
use Rattle.sk_expr.specs.Tapes.{put, is_same}

pub nodes_by : (f : Node ℤ → Bool) (n : Node ℤ) (ns ks : List (Node ℤ)) → ((y : Node ℤ) → f y ≡ is_same n y) → ks ≡ (if list_any f ns then ns else ns ++ n ∷ []) → ks ≡ (put ns n).nodes
nodes_by f n ns ks same h = h ∙ (λ j. if list_any (λ y. same y j) ns then ns else ns ++ n ∷ [])

pub place_by : (f : Node ℤ → Bool) (n : Node ℤ) (ns : List (Node ℤ)) (p : ℕ) → ((y : Node ℤ) → f y ≡ is_same n y) → p ≡ position_or_len f ns → p ≡ (put ns n).place
place_by f n ns p same h = h ∙ (λ j. position_or_len (λ y. same y j) ns)
