-- Each group is made over those before it, and what is made stays; what is made may be set, with the entities that it names.
use Rattle.std.proofs.Common.{◌≡◌, inl, inr, ℕ, ◌≤◌, List, [], ◌∷◌, ◌++◌, length, map, nat_eq, nat_lt, Option, Some, None, Result, Ok, Err, refl, sym, ap, ◌∙◌, subst, append_assoc, append-nil, arith}
use Rattle.std.specs.Prelude.{◌==◌}
use Rattle.std.specs.List.{All, AllByRecursion, IsDistinct}
use Rattle.std.proofs.lemmas.Bool.{cases_Bool, ltb-false}
use Rattle.std.proofs.lemmas.List.{map-append}
use Rattle.std.proofs.lemmas.List.Elements.{All-from_recursion, All-weaker, recursion_from_All}
use Rattle.sk_types.specs.declared.handle.GroupId.{GroupId}
use Rattle.sk_types.specs.declared.entity.Entity.{Entity}
use Rattle.sk_types.specs.declared.group.Group.{Group}
use Rattle.sk_types.specs.declared.group.GroupKind.{GroupKind}
use Rattle.sk_types.specs.declared.group.GroupKind.TheVariants.{Space, Plane, Extrude, Translate, Linked}
use Rattle.sk_types.specs.declared.request.Request.{Request}
use Rattle.sk_types.specs.Lookups.{Rise}
use Rattle.sk_copy.specs.declared.fault.CopyFault.{CopyFault}
use Rattle.sk_copy.specs.Order.{by_handle}
use Rattle.sk_copy.specs.Copies.{Copies, copies}
use Rattle.sk_copy.specs.Wanted.{wanted}
use Rattle.sk_model.specs.declared.faults.ModelFault.{ModelFault}
use Rattle.sk_model.specs.declared.faults.ModelFault.TheVariants.{TooMany}
use Rattle.sk_model.specs.declared.faults.What.TheVariants as what
use Rattle.sk_model.specs.Chain.{unless}
use Rattle.sk_model.specs.Checked.{IsCheckedGroup, IsCheckedRequest, IsHandle}
use Rattle.sk_model.specs.Settable.{HasSources}
use Rattle.sk_model.specs.Typed.{request_handle}
use Rattle.sk_model.specs.TypingLaws.Chains.{ok_inj, refused_passed, then_parts}
use Rattle.sk_link.specs.declared.parts.Part.{Part}
use Rattle.sk_link.specs.Parts.{entities_of}
use Rattle.sk_link.proofs.Rising.{entities_rise}
use Rattle.sk_chain.specs.declared.made.Made.{Made}
use Rattle.sk_chain.specs.Known.{AllOwn, IsHome, IsOwn, IsReadPart}
use Rattle.sk_chain.specs.Lookups.{group_at}
use Rattle.sk_chain.specs.Made.{all_made, copied_by, drawn_in, made_by, made_from, made_in, made_with, names_fault, one_made}
use Rattle.sk_chain.specs.Order.{ids_of}
use Rattle.sk_chain.proofs.Folds.{made_in_rises, nothing_rises}
use Rattle.sk_chain.proofs.Homes.{made_own}
use Rattle.sk_chain.proofs.Lists.{copies_extended, sources_kept, wanted_fit}
use Rattle.sk_chain.proofs.Segments.{all_behind, all_weaker}

pub unless_passed : {T : Type 0} (o : Option ModelFault) (r : Result T ModelFault) (y : T) → unless o r ≡ Ok y → (o ≡ None) × (r ≡ Ok y)
unless_passed None r y e = (refl, e)
unless_passed (Some f) r y e = cc

-- ---- one group more

module _ {s : ℕ} (rs : List Request) (all : List (Group s)) (parts : List (Part s)) where
  group_with : (g : GroupId) (drawn : List (Entity s)) (r : Result (Copies s) CopyFault) (m : Made s) → made_with g drawn r ≡ Ok m → m.group ≡ g
  group_with g drawn (Err f) m h = cc h
  group_with g drawn (Ok c) m h = ap (λ (q : Made s). q.group) (sym (ok_inj h))

  made_group : (made : List (Made s)) (g : Group s) (m : Made s) → made_by rs parts made g ≡ Ok m → m.group ≡ g.id
  unfolding made_by
  made_group made g m h = group_with g.id (drawn_in s g.id.0 rs) (copies g g.remap (copied_by g.kind parts made g)) m h

  abbrev groups : List (Made s) → List GroupId
  groups made = map (λ (m : Made s). m.group) made

  pub record IsMore (made : List (Made s)) (g : Group s) (more : List (Made s)) : Type 0 where
    pub one : Made s
    pub whole : more ≡ made ++ one ∷ []
    pub few : length (all_made more) ≤ 200000
    pub names : names_fault rs all made g ≡ None
    pub makes : made_by rs parts made g ≡ Ok one

  pub one_more : (made : List (Made s)) (g : Group s) (more : List (Made s)) → one_made rs all parts made g ≡ Ok more → IsMore made g more
  one_more made g more e =
      let a = unless_passed (names_fault rs all made g) _ more e in
      then_parts {P = IsMore made g more} (made_by rs parts made g) _ more a.1 (λ m em e1.
      (let b = refused_passed (nat_lt 200000 (length (all_made (made ++ m ∷ [])))) (TooMany what.Entities) (Ok (made ++ m ∷ [])) more e1 in
      let is : made ++ m ∷ [] ≡ more = ok_inj b.1 in
      record {
        one = m;
        whole = sym is;
        few = subst (λ (ms : List (Made s)). length (all_made ms) ≤ 200000) is (ltb-false 200000 (length (all_made (made ++ m ∷ []))) b.0);
        names = a.0;
        makes = em;
      }))

  pub few_from : (made : List (Made s)) (gs : List (Group s)) (more : List (Made s)) → length (all_made made) ≤ 200000 → made_from rs all parts made gs ≡ Ok more → length (all_made more) ≤ 200000
  few_from made [] more few e = subst (λ (ms : List (Made s)). length (all_made ms) ≤ 200000) (ok_inj e) few
  few_from made (g ∷ gs) more few e = then_parts (one_made rs all parts made g) _ more e (λ ms one rest. few_from ms gs more (one_more made g ms one).few rest)

  ids_more : (made : List (Made s)) (g : Group s) (more : List (Made s)) → IsMore made g more → groups more ≡ groups made ++ g.id ∷ []
  ids_more made g more m = ap groups m.whole ∙ map-append (λ (q : Made s). q.group) made (m.one ∷ []) ∙ ap (λ (x : GroupId). groups made ++ x ∷ []) (made_group made g m.one m.makes)

  pub ids_from : (made : List (Made s)) (gs : List (Group s)) (more : List (Made s)) → made_from rs all parts made gs ≡ Ok more → groups more ≡ groups made ++ ids_of gs
  ids_from made [] more e = ap groups (sym (ok_inj e)) ∙ sym (append-nil (groups made))
  ids_from made (g ∷ gs) more e = then_parts (one_made rs all parts made g) _ more e (λ ms one rest.
      ids_from ms gs more rest ∙ ap (λ (ids : List GroupId). ids ++ ids_of gs) (ids_more made g ms (one_more made g ms one)) ∙ append_assoc (groups made) (g.id ∷ []) (ids_of gs))

  -- ---- a group among all that are made

  pub record IsMadeIn (more : List (Made s)) (g : Group s) : Type 0 where
    pub before : List (Made s)
    pub one : Made s
    pub later : List (Made s)
    pub whole : more ≡ before ++ one ∷ later
    pub names : names_fault rs all before g ≡ None
    pub makes : made_by rs parts before g ≡ Ok one

  stays : (made : List (Made s)) (gs : List (Group s)) (more : List (Made s)) → made_from rs all parts made gs ≡ Ok more → (later : List (Made s)) × (more ≡ made ++ later)
  stays made [] more e = ([], sym (ok_inj e) ∙ sym (append-nil made))
  stays made (g ∷ gs) more e = then_parts {P = (later : List (Made s)) × (more ≡ made ++ later)} (one_made rs all parts made g) (λ ms. made_from rs all parts ms gs) more e (λ ms one rest.
      (let m = one_more made g ms one in
      let r = stays ms gs more rest in
      (m.one ∷ r.0, r.1 ∙ ap (λ (l : List (Made s)). l ++ r.0) m.whole ∙ append_assoc made (m.one ∷ []) r.0)))

  pub each_made : (made : List (Made s)) (gs : List (Group s)) (more : List (Made s)) → made_from rs all parts made gs ≡ Ok more → AllByRecursion (IsMadeIn more) gs
  each_made made [] more e = tt
  each_made made (g ∷ gs) more e = then_parts {P = AllByRecursion (IsMadeIn more) (g ∷ gs)} (one_made rs all parts made g) (λ ms. made_from rs all parts ms gs) more e (λ ms one rest.
      (let m = one_more made g ms one in
      let r = stays ms gs more rest in (
        record {
          before = made;
          one = m.one;
          later = r.0;
          whole = r.1 ∙ ap (λ (l : List (Made s)). l ++ r.0) m.whole ∙ append_assoc made (m.one ∷ []) r.0;
          names = m.names;
          makes = m.makes;
        },
        each_made ms gs more rest,
      )))

-- ---- over parts that were read

-- what is made, with a list whose sources are handles
abbrev pub IsOwned : {s : ℕ} → List Request → List (Group s) → Made s → Type 0
IsOwned rs all m = IsOwn rs all m × HasSources m.list

abbrev pub AllOwned : {s : ℕ} → List Request → List (Group s) → List (Made s) → Type 0
AllOwned rs all made = AllByRecursion (IsOwned rs all) made

module _ {s : ℕ} (rs : List Request) (all : List (Group s)) (made : List (Made s)) (h : AllOwned rs all made) where
  pub own_of : AllOwn rs all made
  own_of = All-from_recursion (IsOwn rs all) made (all_weaker (IsOwned rs all) (IsOwn rs all) made (λ m o. o.0) h)

  pub sources_of : All (λ m. HasSources m.list) made
  sources_of = All-from_recursion (λ (m : Made s). HasSources m.list) made (all_weaker (IsOwned rs all) (λ (m : Made s). HasSources m.list) made (λ m o. o.1) h)

module _ {s : ℕ} (rs : List Request) (all : List (Group s)) (checked : All IsCheckedRequest rs) (differ : IsDistinct nat_eq (map request_handle rs)) (parts : List (Part s)) (read : All IsReadPart parts) where
  copied_rises : (k : GroupKind) (made : List (Made s)) (g : Group s) → AllOwn rs all made → Rise (copied_by k parts made g)
  copied_rises Space made g h = nothing_rises s
  copied_rises Plane made g h = nothing_rises s
  copied_rises Extrude made g h = made_in_rises g.source.0 made (All-weaker (IsOwn rs all) (λ (m : Made s). Rise m.entities) (λ m o. o.rise) made h)
  copied_rises Translate made g h = made_in_rises g.source.0 made (All-weaker (IsOwn rs all) (λ (m : Made s). Rise m.entities) (λ m o. o.rise) made h)
  copied_rises Linked made g h = entities_rise g.id parts (All-weaker IsReadPart (λ (p : Part s). Rise p.entities) (λ p r. r.rise) parts read)

  abbrev HasHandle : Entity s → Type 0
  HasHandle e = IsHandle e.id.0

  made_handles : (n : ℕ) (made : List (Made s)) → AllOwned rs all made → AllByRecursion HasHandle (made_in n made)
  made_handles n [] h = tt
  made_handles n (m ∷ ms) h = elim (cases_Bool (n == m.group.0)) [
    | inl t ↦ rw t (recursion_from_All HasHandle m.entities (All-weaker (IsHome rs all m.group) HasHandle (λ e i. i.most) m.entities h.0.0.homes))
    | inr f ↦ rw f (made_handles n ms h.1)
  ]

  part_handles : (g : GroupId) (ps : List (Part s)) → AllByRecursion IsReadPart ps → AllByRecursion HasHandle (entities_of g ps)
  part_handles g [] h = tt
  part_handles g (p ∷ ps) h = elim (cases_Bool (g.0 == p.group.0)) [
    | inl t ↦ rw t (recursion_from_All HasHandle p.entities h.0.handles)
    | inr f ↦ rw f (part_handles g ps h.1)
  ]

  copied_handles : (k : GroupKind) (made : List (Made s)) (g : Group s) → AllOwned rs all made → AllByRecursion HasHandle (copied_by k parts made g)
  copied_handles Space made g h = tt
  copied_handles Plane made g h = tt
  copied_handles Extrude made g h = made_handles g.source.0 made h
  copied_handles Translate made g h = made_handles g.source.0 made h
  copied_handles Linked made g h = part_handles g.id parts (recursion_from_All IsReadPart parts read)

  sources_with : (g : Group s) (drawn es : List (Entity s)) (r : Result (Copies s) CopyFault) (m : Made s) → IsCheckedGroup g → AllByRecursion HasHandle es → copies g g.remap es ≡ r → made_with g.id drawn r ≡ Ok m → HasSources m.list
  sources_with g drawn es (Err f) m ok h p e = cc e
  sources_with g drawn es (Ok c) m ok h p e =
      let is : record { group = g.id; list = c.list; entities = by_handle (drawn ++ c.entities) } ≡ m = ok_inj e in
      subst (λ (q : Made s). HasSources q.list) is (sources_kept (wanted g es) g.remap c.list (wanted_fit IsHandle g es ok.copies (omega arith) h) ok.sources (copies_extended g g.remap es c p))

  made_sources : (made : List (Made s)) (g : Group s) (m : Made s) → AllOwned rs all made → IsCheckedGroup g → made_by rs parts made g ≡ Ok m → HasSources m.list
  unfolding made_by
  made_sources made g m h ok e = sources_with g (drawn_in s g.id.0 rs) (copied_by g.kind parts made g) (copies g g.remap (copied_by g.kind parts made g)) m ok (copied_handles g.kind made g h) refl e

  one_owned : (made : List (Made s)) (g : Group s) (m : Made s) → AllOwned rs all made → group_at g.id.0 all ≡ Some g → IsCheckedGroup g → made_by rs parts made g ≡ Ok m → IsOwned rs all m
  one_owned made g m h there ok e =
      let own = own_of rs all made h in
      ((made_own rs all checked differ parts made g m own there ok (copied_rises g.kind made g own) e).0, made_sources made g m h ok e)

  pub owned_from : (made : List (Made s)) (gs : List (Group s)) (more : List (Made s)) → AllOwned rs all made → AllByRecursion (λ g. group_at g.id.0 all ≡ Some g) gs → AllByRecursion IsCheckedGroup gs → made_from rs all parts made gs ≡ Ok more → AllOwned rs all more
  owned_from made [] more h there ok e = subst (AllOwned rs all) (ok_inj e) h
  owned_from made (g ∷ gs) more h there ok e = then_parts {P = AllOwned rs all more} (one_made rs all parts made g) (λ ms. made_from rs all parts ms gs) more e (λ ms one rest.
      (let m = one_more rs all parts made g ms one in
      owned_from ms gs more (subst (AllOwned rs all) (sym m.whole) (all_behind (IsOwned rs all) made (m.one ∷ []) h (one_owned made g m.one h there.0 ok.0 m.makes, tt))) there.1 ok.1 rest))
