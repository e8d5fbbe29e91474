-- What holds of all entities of an outline holds of what each request draws.
use Rattle.std.proofs.Common.{◌≡◌, inl, inr, ℕ, List, [], ◌∷◌, ◌++◌, get_or, Bool, true, false, nat_eq, nat_lt, Option, Some, None, Result, Ok, Err, is_some, refl, sym, ◌∙◌, subst}
use Rattle.std.specs.Prelude.{◌==◌, is_none}
use Rattle.std.specs.List.{All, AllByRecursion, list_any}
use Rattle.std.proofs.lemmas.Bool.{cases_Bool}
use Rattle.std.proofs.lemmas.List.Elements.{recursion_from_All, All-from_recursion}
use Rattle.sk_types.specs.declared.handle.GroupId.{GroupId}
use Rattle.sk_types.specs.declared.entity.Entity.{Entity}
use Rattle.sk_types.specs.declared.group.Group.{Group}
use Rattle.sk_types.specs.declared.request.Request.{Request}
use Rattle.sk_entity.specs.Requests.{request_entities}
use Rattle.sk_copy.specs.declared.fault.CopyFault.{CopyFault}
use Rattle.sk_copy.specs.Order.{by_handle}
use Rattle.sk_copy.specs.Copies.{Copies, copies}
use Rattle.sk_model.specs.TypingLaws.Chains.{ok_inj}
use Rattle.sk_link.specs.declared.parts.Part.{Part}
use Rattle.sk_chain.specs.declared.made.Made.{Made}
use Rattle.sk_chain.specs.Lookups.{place_in}
use Rattle.sk_chain.specs.Made.{copied_by, drawn_in, made_by, made_with}
use Rattle.sk_chain.specs.Order.{ids_of}
use Rattle.sk_chain.proofs.InOrder.{all_of_order}
use Rattle.sk_chain.proofs.Noting.{place_listed}
use Rattle.sk_chain.proofs.Segments.{all_back, all_front}

some_of : (o : Option ℕ) → is_none o ≡ false → is_some o ≡ true
some_of None e = cc e
some_of (Some n) e = refl

-- a group is listed where it has a place
abbrev pub is_in : List GroupId → ℕ → Bool
is_in order n = list_any (λ (k : GroupId). nat_eq n k.0) order

pub listed_if : (n : ℕ) (order : List GroupId) → is_none (place_in n order) ≡ false → is_in order n ≡ true
listed_if n order e = sym (place_listed n order) ∙ some_of (place_in n order) e

module _ {s : ℕ} (Q : Entity s → Type 0) where
  abbrev IsDrawnBy : Request → Type 0
  IsDrawnBy r = AllByRecursion Q (request_entities s r)

  drawn_with : (g : GroupId) (drawn : List (Entity s)) (r : Result (Copies s) CopyFault) (one : Made s) → made_with g drawn r ≡ Ok one → AllByRecursion Q one.entities → AllByRecursion Q drawn
  drawn_with g drawn (Err f) one e h = cc e
  drawn_with g drawn (Ok c) one e h =
      let is : record { group = g; list = c.list; entities = by_handle (drawn ++ c.entities) } ≡ one = ok_inj e in
      let all : AllByRecursion Q (by_handle (drawn ++ c.entities)) = subst (λ (q : Made s). AllByRecursion Q q.entities) (sym is) h in
      all_front Q drawn c.entities (all_of_order Q (λ (d : Entity s) (x : Entity s). nat_lt d.id.0 x.id.0) (drawn ++ c.entities) all)

  pub made_drawn : (rs : List Request) (parts : List (Part s)) (before : List (Made s)) (g : Group s) (one : Made s) → made_by rs parts before g ≡ Ok one → AllByRecursion Q one.entities → AllByRecursion Q (drawn_in s g.id.0 rs)
  unfolding made_by
  made_drawn rs parts before g one e h = drawn_with g.id (drawn_in s g.id.0 rs) (copies g g.remap (copied_by g.kind parts before g)) one e h

  drawn_each : (n : ℕ) (rs : List Request) → AllByRecursion Q (drawn_in s n rs) → AllByRecursion (λ r. (r.group.0 == n) ≡ true → IsDrawnBy r) rs
  drawn_each n [] h = tt
  drawn_each n (r ∷ rs) h = elim (cases_Bool (r.group.0 == n)) [
    | inl t ↦ (
        let both : AllByRecursion Q (request_entities s r ++ drawn_in s n rs) = rw t at h in
        (λ e. all_front Q (request_entities s r) (drawn_in s n rs) both, drawn_each n rs (all_back Q (request_entities s r) (drawn_in s n rs) both)))
    | inr f ↦ (λ e. cc (e, f), drawn_each n rs (rw f at h))
  ]

  of_group : (r : Request) (gs : List (Group s)) → AllByRecursion (λ g. (r.group.0 == g.id.0) ≡ true → IsDrawnBy r) gs → is_in (ids_of gs) r.group.0 ≡ true → IsDrawnBy r
  of_group r [] h l = cc l
  of_group r (g ∷ gs) h l = elim (cases_Bool (r.group.0 == g.id.0)) [
    | inl t ↦ h.0 t
    | inr f ↦ of_group r gs h.1 (rw f at l)
  ]

  pub all_drawn : (rs : List Request) (gs : List (Group s)) → AllByRecursion (λ g. AllByRecursion Q (drawn_in s g.id.0 rs)) gs → All (λ (r : Request). is_in (ids_of gs) r.group.0 ≡ true) rs → All (λ (r : Request). All Q (request_entities s r)) rs
  all_drawn rs gs h placed =
      let by = All-from_recursion (λ (g : Group s). AllByRecursion Q (drawn_in s g.id.0 rs)) gs h in
      λ k d l.
      let r = get_or rs k d in
      All-from_recursion Q (request_entities s r) (of_group r gs (recursion_from_All (λ (g : Group s). (r.group.0 == g.id.0) ≡ true → IsDrawnBy r) gs (λ j e m.
      let g = get_or gs j e in
      (All-from_recursion (λ (q : Request). (q.group.0 == g.id.0) ≡ true → IsDrawnBy q) rs (drawn_each g.id.0 rs (by j e m))) k d l)) (placed k d l))
