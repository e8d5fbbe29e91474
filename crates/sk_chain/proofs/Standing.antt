-- The groups of a model, found by their handles in group order.
use Rattle.std.proofs.Common.{◌≡◌, ◌⊎◌, inl, inr, ℕ, ◌+◌, ◌<◌, List, [], ◌∷◌, ◌++◌, length, get_or, take, map, nat_eq, Some, None, Ok, Err, sym, ap, ◌∙◌, subst, arith}
use Rattle.std.specs.List.{All, IsDistinct}
use Rattle.std.proofs.lemmas.Bool.{cases_Bool, eqb-true}
use Rattle.std.proofs.lemmas.List.{get_or-map, length-map}
use Rattle.std.proofs.lemmas.List.Elements.{All-from_recursion, All-get_or, All-head, All-push, All-tail}
use Rattle.sk_types.specs.declared.handle.GroupId.{GroupId}
use Rattle.sk_types.specs.declared.group.Group.{Group}
use Rattle.sk_types.specs.declared.request.Request.{Request}
use Rattle.sk_model.specs.declared.faults.ModelFault.{ModelFault}
use Rattle.sk_model.specs.declared.faults.ModelFault.TheVariants.{NoMemory}
use Rattle.sk_model.specs.Checked.{AreChecked, IsCheckedGroup}
use Rattle.sk_model.specs.Typed.{Typed, group_handle}
use Rattle.sk_link.specs.declared.parts.Part.{Part}
use Rattle.sk_chain.specs.declared.made.Made.{Made}
use Rattle.sk_chain.specs.Known.{AllOwn, IsOwn}
use Rattle.sk_chain.specs.Lookups.{group_at}
use Rattle.sk_chain.specs.Made.{made_from, one_made}
use Rattle.sk_chain.specs.Order.{comes_before, group_order, groups_in_order}
use Rattle.sk_chain.specs.Outlines.{groups_made}
use Rattle.sk_chain.proofs.Apart.{all_found}
use Rattle.sk_chain.proofs.Counted.{no_group}
use Rattle.sk_chain.proofs.Folds.{more_made, not_made}
use Rattle.sk_chain.proofs.InOrder.{all_in_order}

-- ---- a group that is found

pub found_is : {s : ℕ} (n : ℕ) (gs : List (Group s)) (g : Group s) → group_at n gs ≡ Some g → n ≡ g.id.0
found_is n [] g h = cc
found_is {s} n (x ∷ xs) g h = elim (cases_Bool (nat_eq n x.id.0)) [
  | inl t ↦ (let some : Some x ≡ Some g = rw t at h in let is : x ≡ g = cc some in eqb-true n x.id.0 t ∙ ap (λ (y : Group s). y.id.0) is)
  | inr f ↦ found_is n xs g (rw f at h)
]

pub found_own : {s : ℕ} (n : ℕ) (gs : List (Group s)) (g : Group s) → group_at n gs ≡ Some g → group_at g.id.0 gs ≡ Some g
found_own n gs g h = ap (λ k. group_at k gs) (sym (found_is n gs g h)) ∙ h

pub found_holds : {s : ℕ} (P : Group s → Type 0) (n : ℕ) (gs : List (Group s)) (g : Group s) → All P gs → group_at n gs ≡ Some g → P g
found_holds P n [] g a h = cc
found_holds P n (x ∷ xs) g a h = elim (cases_Bool (nat_eq n x.id.0)) [
  | inl t ↦ (let some : Some x ≡ Some g = rw t at h in let is : x ≡ g = cc some in subst P is (All-head P x xs a))
  | inr f ↦ found_holds P n xs g (All-tail P x xs a) (rw f at h)
]

-- ---- in group order

pub each_found : {s : ℕ} (gs : List (Group s)) → IsDistinct nat_eq (map group_handle gs) → All (λ (g : Group s). group_at g.id.0 gs ≡ Some g) (groups_in_order gs)
each_found {s} gs d =
    All-from_recursion (λ (g : Group s). group_at g.id.0 gs ≡ Some g) (groups_in_order gs) (all_in_order (λ (g : Group s). group_at g.id.0 gs ≡ Some g) comes_before gs (all_found group_handle gs d))

abbrev pub no_id : GroupId
no_id = record { 0 = 0 }

pub order_at : {s : ℕ} (gs : List (Group s)) (order : List GroupId) (i : ℕ) → IsDistinct nat_eq (map group_handle gs) → order ≡ group_order gs → i < length order → group_at (get_or order i no_id).0 gs ≡ Some (get_or (groups_in_order gs) i no_group)
order_at {s} gs order i d o l =
    let long : length order ≡ length (groups_in_order gs) = ap length o ∙ length-map (groups_in_order gs) (λ (g : Group s). g.id) in
    let k : i < length (groups_in_order gs) = omega (arith, l, long) in
    let is : get_or order i no_id ≡ (get_or (groups_in_order gs) i no_group).id = ap (λ ids. get_or ids i no_id) o ∙ get_or-map (λ (g : Group s). g.id) (groups_in_order gs) i no_group no_id k in
    ap (λ (x : GroupId). group_at x.0 gs) is ∙ All-get_or (λ (g : Group s). group_at g.id.0 gs ≡ Some g) (groups_in_order gs) i no_group k (each_found gs d)

pub own_pushed : {s : ℕ} (rs : List Request) (all : List (Group s)) (made more : List (Made s)) (m : Made s) → more ≡ made ++ m ∷ [] → AllOwn rs all made → IsOwn rs all m → AllOwn rs all more
own_pushed {s} rs all made more m e h o = subst (AllOwn rs all) (sym e) (All-push (IsOwn rs all) made m h o)

-- ---- the group at a place of the order

module _ {s : ℕ} (m : Typed s) (parts : List (Part s)) (checked : AreChecked m) (order : List GroupId) (o : order ≡ group_order m.groups) (i : ℕ) (l : i < length order) (gs : List (Group s)) (q : gs ≡ m.groups) where
  at_place : group_at (get_or order i no_id).0 gs ≡ Some (get_or (groups_in_order m.groups) i no_group)
  at_place = ap (group_at (get_or order i no_id).0) q ∙ order_at m.groups order i checked.groups_differ o l

  pub not_absent : {P : Type 0} → None ≡ group_at (get_or order i no_id).0 gs → P
  not_absent e = let no = e ∙ at_place in absurd (cc no)

  within : i < length (groups_in_order m.groups)
  within = let long : length order ≡ length (groups_in_order m.groups) = ap length o ∙ length-map (groups_in_order m.groups) (λ (g : Group s). g.id) in omega (arith, l, long)

  module _ (g : Group s) (found : Some g ≡ group_at (get_or order i no_id).0 gs) where
    is_next : g ≡ get_or (groups_in_order m.groups) i no_group
    is_next = let e = found ∙ at_place in cc e

    pub found_there : group_at g.id.0 gs ≡ Some g
    found_there = found_own (get_or order i no_id).0 gs g (sym found)

    pub found_known : IsCheckedGroup g
    found_known = found_holds IsCheckedGroup (get_or order i no_id).0 m.groups g checked.groups (ap (group_at (get_or order i no_id).0) (sym q) ∙ sym found)

    module _ (rs : List Request) (r : rs ≡ m.requests) (made : List (Made s)) (h : made_from m.requests m.groups parts [] (take i (groups_in_order m.groups)) ≡ Ok made) where
      one_same : one_made m.requests m.groups parts made g ≡ one_made rs gs parts made g
      one_same = ap (λ xs. one_made xs m.groups parts made g) (sym r) ∙ ap (λ xs. one_made rs xs parts made g) (sym q)

      pub next_done : (more : List (Made s)) → one_made rs gs parts made g ≡ Ok more → made_from m.requests m.groups parts [] (take (i + 1) (groups_in_order m.groups)) ≡ Ok more
      next_done more e = more_made m.requests m.groups parts (groups_in_order m.groups) i no_group within made h g more is_next (one_same ∙ e)

      pub fault_kept : (f : ModelFault) → (f ≡ NoMemory) ⊎ (one_made rs gs parts made g ≡ Err f) → (f ≡ NoMemory) ⊎ (groups_made parts m ≡ Err f)
      unfolding groups_made
      fault_kept f (inl n) = inl n
      fault_kept f (inr e) = inr (not_made m.requests m.groups parts (groups_in_order m.groups) i no_group within made h g f is_next (one_same ∙ e))
