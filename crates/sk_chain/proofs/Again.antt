-- Outlines over the lists that they extend: the same, and no list grows again.
use Rattle.std.proofs.Common.{◌≡◌, inl, inr, ℕ, ◌≤◌, List, [], ◌∷◌, ◌++◌, length, map, Bool, true, false, nat_eq, Option, Some, None, Result, Ok, Err, refl, sym, ap, ◌∙◌, subst, append_assoc, append-nil}
use Rattle.std.specs.Prelude.{◌==◌, if◌then◌else◌}
use Rattle.std.specs.Option.{option_map, option_or, is_none}
use Rattle.std.specs.List.{AllByRecursion, IsDistinct, filter, flat_map, fold}
use Rattle.std.proofs.lemmas.Bool.{cases_Bool, eq-eqb}
use Rattle.std.proofs.lemmas.List.Elements.{recursion_from_All}
use Rattle.sk_num.specs.Each.{cons_if, each_some}
use Rattle.sk_types.specs.declared.handle.GroupId.{GroupId}
use Rattle.sk_types.specs.declared.handle.EntityId.{EntityId}
use Rattle.sk_types.specs.declared.handle.Maker.{Maker}
use Rattle.sk_types.specs.declared.handle.Maker.TheVariants.{OfRequest, OfGroup}
use Rattle.sk_types.specs.declared.constraint.Constraint.{Constraint}
use Rattle.sk_types.specs.declared.constraint.PartKind.{PartKind}
use Rattle.sk_types.specs.declared.constraint.PartKind.TheVariants.{Point, Workplane, Line}
use Rattle.sk_types.specs.declared.entity.Entity.{Entity}
use Rattle.sk_types.specs.declared.group.Group.{Group}
use Rattle.sk_types.specs.declared.group.GroupKind.{GroupKind}
use Rattle.sk_types.specs.declared.group.GroupKind.TheVariants.{Space, Plane, Extrude, Translate, Linked}
use Rattle.sk_types.specs.declared.group.RemapEntry.{RemapEntry}
use Rattle.sk_types.specs.declared.request.Request.{Request}
use Rattle.sk_types.specs.Handles.{maker_of}
use Rattle.sk_types.specs.Lookups.{entity_at}
use Rattle.sk_copy.specs.declared.fault.CopyFault.{CopyFault}
use Rattle.sk_copy.specs.Extended.{extended, number_in}
use Rattle.sk_copy.specs.Order.{by_handle, in_order, put_in}
use Rattle.sk_copy.specs.Wanted.{ends_by, is_linked, wanted, wanted_as}
use Rattle.sk_copy.specs.Copies.{Copies, NumberOf, copies, linked_copy, made_by, or_past, over_list}
use Rattle.sk_copy.proofs.Extended.{again, same}
use Rattle.sk_model.specs.declared.faults.ModelFault.{ModelFault}
use Rattle.sk_model.specs.declared.faults.ModelFault.TheVariants.{NoSuch, Ahead}
use Rattle.sk_model.specs.declared.remap.GroupList.{GroupList}
use Rattle.sk_model.specs.Chain.{then_of, unless}
use Rattle.sk_model.specs.Changes.{list_handle, list_in, with_lists}
use Rattle.sk_model.specs.Typed.{Typed, group_handle}
use Rattle.sk_model.specs.TypingLaws.Chains.{ok_inj, refused_passed, then_parts}
use Rattle.sk_link.specs.declared.parts.Part.{Part}
use Rattle.sk_chain.specs.declared.made.Made.{Made}
use Rattle.sk_chain.specs.Lookups.{group_at}
use Rattle.sk_chain.specs.Made.{all_made, copied_by, drawn_in, earlier_fault, few_made, group_by, is_made, lines_fault, made_by as made_by_groups, made_fault, made_from, made_with, moved_fault, names_by, names_fault, one_made, plane_fault, source_fault, unmade_fault}
use Rattle.sk_chain.specs.Known.{AreGroups}
use Rattle.sk_chain.specs.Laws.{AgainLaw, ParamsLaw}
use Rattle.sk_chain.specs.Order.{comes_before, group_order, groups_in_order, ids_of}
use Rattle.sk_chain.specs.Outlines.{Outlined, constraint_fault, entities_fault, first_fault, groups_fault, groups_made, lists_of, outline_over, outlined, relisted, request_fault, size_fault}
use Rattle.sk_chain.proofs.Distinct.{eq_flips}
use Rattle.sk_chain.proofs.Lists.{copies_extended}
use Rattle.sk_chain.proofs.Orders.{groups_distinct}
use Rattle.sk_chain.proofs.EachMade.{unless_passed}
use Rattle.sk_chain.proofs.Relisted.{Fits, in_found, list_for, relist, with_all}
use Rattle.sk_chain.proofs.Standing.{each_found}

abbrev pub with_list : {s : ℕ} → Group s → List RemapEntry → Group s
with_list g list = record g { remap = list }

-- ---- copies over their own list

module _ {s : ℕ} (g : Group s) (list : List RemapEntry) where
  wanted_same : (k : GroupKind) (es : List (Entity s)) → ends_by k ++ flat_map (wanted_as k (with_list g list) es) es ≡ ends_by k ++ flat_map (wanted_as k g es) es
  wanted_same Space es = refl
  wanted_same Plane es = refl
  wanted_same Extrude es = refl
  wanted_same Translate es = refl
  wanted_same Linked es = refl

  linked_same : (number : NumberOf) (es : List (Entity s)) → each_some (linked_copy (with_list g list) number) es ≡ each_some (linked_copy g number) es
  linked_same number [] = refl
  linked_same number (e ∷ es) = ap (cons_if (linked_copy g number e)) (linked_same number es)

  made_same : (k : GroupKind) (number : NumberOf) (es : List (Entity s)) → made_by k (with_list g list) number es ≡ made_by k g number es
  made_same Space number es = refl
  made_same Plane number es = refl
  made_same Extrude number es = refl
  made_same Translate number es = refl
  made_same Linked number es = linked_same number (filter (is_linked es) es)

over_made : {s : ℕ} (g : Group s) (es : List (Entity s)) (o : Option (List RemapEntry)) (c : Copies s) → o ≡ Some c.list → over_list g es o ≡ Ok c → or_past c.list (made_by g.kind g (number_in c.list) es) ≡ Ok c
over_made g es o c e h = ap (over_list g es) (sym e) ∙ h

pub copies_again : {s : ℕ} (g : Group s) (es : List (Entity s)) (c : Copies s) → copies g g.remap es ≡ Ok c → copies (with_list g c.list) c.list es ≡ Ok c
unfolding copies
copies_again g es c h =
    let first : extended (wanted g es) g.remap ≡ Some c.list = copies_extended g g.remap es c h in
    let more : extended (wanted g es) c.list ≡ Some c.list = again (wanted g es) g.remap c.list first in
    ap (λ w. over_list (with_list g c.list) es (extended w c.list)) (wanted_same g c.list g.kind es)
    ∙ ap (over_list (with_list g c.list) es) more
    ∙ ap (or_past c.list) (made_same g c.list g.kind (number_in c.list) es)
    ∙ over_made g es (extended (wanted g es) g.remap) c first h

-- ---- what a group names

-- groups that are changed, but for their handles
module _ {s : ℕ} (f : Group s → Group s) (keeps : (g : Group s) → (f g).id ≡ g.id) where
  at_changed : (n : ℕ) (gs : List (Group s)) → group_at n (map f gs) ≡ option_map f (group_at n gs)
  at_changed n [] = refl
  at_changed n (g ∷ gs) = by_test (nat_eq n (f g).id.0) (nat_eq n g.id.0) (ap (λ (x : GroupId). nat_eq n x.0) (keeps g)) (at_changed n gs)
    where
      by_test : (t u : Bool) → t ≡ u → group_at n (map f gs) ≡ option_map f (group_at n gs) → (if t then Some (f g) else group_at n (map f gs)) ≡ option_map f (if u then Some g else group_at n gs)
      by_test true true e h = refl
      by_test true false e h = cc e
      by_test false true e h = cc e
      by_test false false e h = h

  id_changed : (o : Option (Group s)) → option_map (λ (h : Group s). h.id) (option_map f o) ≡ option_map (λ (h : Group s). h.id) o
  id_changed None = refl
  id_changed (Some g) = ap Some (keeps g)

  none_changed : (o : Option (Group s)) → is_none (option_map f o) ≡ is_none o
  none_changed None = refl
  none_changed (Some g) = refl

  by_changed : (rs : List Request) (gs : List (Group s)) (by : Maker) → group_by rs (map f gs) by ≡ group_by rs gs by
  by_changed rs gs (OfRequest r i) = refl
  by_changed rs gs (OfGroup g i) = ap (option_map (λ (h : Group s). h.id)) (at_changed g.0 gs) ∙ id_changed (group_at g.0 gs)

  module _ (rs : List Request) (all : List (Group s)) (made : List (Made s)) (g : Group s) (list : List RemapEntry) where
    earlier_same : (target : EntityId) (part : PartKind) → earlier_fault rs (map f all) made (with_list g list) target part ≡ earlier_fault rs all made g target part
    earlier_same target part = ap (λ (o : Option GroupId). made_fault (unmade_fault made g.id target o) g.id part (entity_at target.0 (all_made made))) (by_changed rs all (maker_of target.0))

    source_same : source_fault (map f all) made (with_list g list) ≡ source_fault all made g
    source_same = ap (λ (t : Bool). if is_made g.source.0 made then None else if t then Some (NoSuch g.id.0 g.source.0) else Some (Ahead g.id.0 g.source.0)) (ap is_none (at_changed g.source.0 all) ∙ none_changed (group_at g.source.0 all))

    lines_same : lines_fault rs (map f all) made (with_list g list) ≡ lines_fault rs all made g
    lines_same =
        ap (λ (o : Option ModelFault). option_or o (earlier_fault rs (map f all) made (with_list g list) g.entity_c Line)) (earlier_same g.entity_b Line)
        ∙ ap (λ (o : Option ModelFault). option_or (earlier_fault rs all made g g.entity_b Line) o) (earlier_same g.entity_c Line)

    plane_same : plane_fault rs (map f all) made (with_list g list) ≡ plane_fault rs all made g
    plane_same =
        ap (λ (o : Option ModelFault). option_or o (if g.by_lines then lines_fault rs (map f all) made (with_list g list) else None)) (earlier_same g.origin Point)
        ∙ ap (λ (o : Option ModelFault). option_or (earlier_fault rs all made g g.origin Point) (if g.by_lines then o else None)) lines_same

    moved_same : moved_fault rs (map f all) made (with_list g list) ≡ moved_fault rs all made g
    moved_same =
        ap (λ (o : Option ModelFault). option_or o (if g.entity_b.0 == 0 then None else earlier_fault rs (map f all) made (with_list g list) g.entity_b Workplane)) source_same
        ∙ ap (λ (o : Option ModelFault). option_or (source_fault all made g) (if g.entity_b.0 == 0 then None else o)) (earlier_same g.entity_b Workplane)

    names_same_by : (k : GroupKind) → names_by k rs (map f all) made (with_list g list) ≡ names_by k rs all made g
    names_same_by Space = refl
    names_same_by Plane = plane_same
    names_same_by Extrude = moved_same
    names_same_by Translate = moved_same
    names_same_by Linked = refl

    names_same : names_fault rs (map f all) made (with_list g list) ≡ names_fault rs all made g
    unfolding names_fault
    names_same = names_same_by g.kind

-- ---- one group, and all

sources_same : {s : ℕ} (k : GroupKind) (parts : List (Part s)) (made : List (Made s)) (g : Group s) (list : List RemapEntry) → copied_by k parts made (with_list g list) ≡ copied_by k parts made g
sources_same Space parts made g list = refl
sources_same Plane parts made g list = refl
sources_same Extrude parts made g list = refl
sources_same Translate parts made g list = refl
sources_same Linked parts made g list = refl

module _ {s : ℕ} (g : Group s) (drawn es : List (Entity s)) where
  with_again : (r : Result (Copies s) CopyFault) (m : Made s) → copies g g.remap es ≡ r → made_with g.id drawn r ≡ Ok m → made_with g.id drawn (copies (with_list g m.list) m.list es) ≡ Ok m
  with_again (Err f) m p h = cc h
  with_again (Ok c) m p h =
      let is : record { group = g.id; list = c.list; entities = by_handle (drawn ++ c.entities) } ≡ m = ok_inj h in
      subst (λ (q : Made s). made_with g.id drawn (copies (with_list g q.list) q.list es) ≡ Ok q) is (ap (made_with g.id drawn) (copies_again g es c p))

made_again : {s : ℕ} (rs : List Request) (parts : List (Part s)) (made : List (Made s)) (g : Group s) (m : Made s) → made_by_groups rs parts made g ≡ Ok m → made_by_groups rs parts made (with_list g m.list) ≡ Ok m
unfolding made_by_groups
made_again {s} rs parts made g m h =
    ap (λ (es : List (Entity s)). made_with g.id (drawn_in s g.id.0 rs) (copies (with_list g m.list) m.list es)) (sources_same g.kind parts made g m.list)
    ∙ with_again g (drawn_in s g.id.0 rs) (copied_by g.kind parts made g) (copies g g.remap (copied_by g.kind parts made g)) m refl h

-- the group with a list, and the list of what is made of it: it fits, and it is the group's own if it isn't longer
pub record IsMadeOf {s : ℕ} (g : Group s) (m : Made s) : Type 0 where
  pub group : m.group ≡ g.id
  pub kept : length m.list ≤ length g.remap → m.list ≡ g.remap

own_with : {s : ℕ} (g : Group s) (drawn es : List (Entity s)) (r : Result (Copies s) CopyFault) (m : Made s) → copies g g.remap es ≡ r → made_with g.id drawn r ≡ Ok m → IsMadeOf g m
own_with g drawn es (Err f) m p h = cc h
own_with g drawn es (Ok c) m p h =
    let is : record { group = g.id; list = c.list; entities = by_handle (drawn ++ c.entities) } ≡ m = ok_inj h in
    subst (IsMadeOf g) is (record { group = refl; kept = same (wanted g es) g.remap c.list (copies_extended g g.remap es c p) })

made_of : {s : ℕ} (rs : List Request) (parts : List (Part s)) (made : List (Made s)) (g : Group s) (m : Made s) → made_by_groups rs parts made g ≡ Ok m → IsMadeOf g m
unfolding made_by_groups
made_of {s} rs parts made g m h = own_with g (drawn_in s g.id.0 rs) (copied_by g.kind parts made g) (copies g g.remap (copied_by g.kind parts made g)) m refl h

-- groups with the lists of what is made of them
abbrev AreMadeOf : {s : ℕ} → List (Group s) → List (Made s) → Type 0
AreMadeOf [] [] = Unit {0}
AreMadeOf [] (m ∷ ms) = false ≡ true
AreMadeOf (g ∷ gs) [] = false ≡ true
AreMadeOf (g ∷ gs) (m ∷ ms) = IsMadeOf g m × AreMadeOf gs ms

abbrev zipped : {s : ℕ} → List (Group s) → List (Made s) → List (Group s)
zipped [] ms = []
zipped (g ∷ gs) [] = g ∷ gs
zipped (g ∷ gs) (m ∷ ms) = with_list g m.list ∷ zipped gs ms

module _ {s : ℕ} (f : Group s → Group s) (keeps : (g : Group s) → (f g).id ≡ g.id) (rs : List Request) (all : List (Group s)) (parts : List (Part s)) where
  abbrev rest_of : List (Made s) → Made s → Result (List (Made s)) ModelFault
  rest_of made m = few_made (made ++ m ∷ [])

  pub record OneAgain (made : List (Made s)) (g : Group s) (more : List (Made s)) : Type 0 where
    pub one : Made s
    pub behind : more ≡ made ++ one ∷ []
    pub made_of : IsMadeOf g one
    pub again : one_made rs (map f all) parts made (with_list g one.list) ≡ Ok more

  one_again : (made : List (Made s)) (g : Group s) (more : List (Made s)) → one_made rs all parts made g ≡ Ok more → OneAgain made g more
  one_again made g more e =
      let a = unless_passed (names_fault rs all made g) _ more e in
      then_parts {P = OneAgain made g more} (made_by_groups rs parts made g) (rest_of made) more a.1 (λ m em e1. record {
        one = m;
        behind = sym (ok_inj (refused_passed _ _ (Ok (made ++ m ∷ [])) more e1).1);
        made_of = made_of rs parts made g m em;
        again =
            ap (λ (o : Option ModelFault). unless o (then_of (made_by_groups rs parts made (with_list g m.list)) (rest_of made))) (names_same f keeps rs all made g m.list ∙ a.0)
            ∙ ap (λ (r : Result (Made s) ModelFault). then_of r (rest_of made)) (made_again rs parts made g m em)
            ∙ e1;
      })

  pub record AllAgain (made : List (Made s)) (gs : List (Group s)) (more : List (Made s)) : Type 0 where
    pub new : List (Made s)
    pub behind : more ≡ made ++ new
    pub made_of : AreMadeOf gs new
    pub again : made_from rs (map f all) parts made (zipped gs new) ≡ Ok more

  all_again : (made : List (Made s)) (gs : List (Group s)) (more : List (Made s)) → made_from rs all parts made gs ≡ Ok more → AllAgain made gs more
  all_again made [] more e = record { new = []; behind = sym (ok_inj e) ∙ sym (append-nil made); made_of = tt; again = e }
  all_again made (g ∷ gs) more e =
      then_parts {P = AllAgain made (g ∷ gs) more} (one_made rs all parts made g) (λ ms. made_from rs all parts ms gs) more e (λ ms one rest.
      (let first = one_again made g ms one in
      let last = all_again ms gs more rest in
      record {
        new = first.one ∷ last.new;
        behind = last.behind ∙ ap (λ (l : List (Made s)). l ++ last.new) first.behind ∙ append_assoc made (first.one ∷ []) last.new;
        made_of = (first.made_of, last.made_of);
        again = ap (λ (r : Result (List (Made s)) ModelFault). then_of r (λ ms. made_from rs (map f all) parts ms (zipped gs last.new))) first.again ∙ last.again;
      }))

-- ---- the lists by handle

module _ {s : ℕ} where
  other_lists : (m : Made s) (ms : List (Made s)) (gs : List (Group s)) → AllByRecursion (λ (n : ℕ). nat_eq m.group.0 n ≡ false) (map group_handle gs) → map (relist (lists_of (m ∷ ms))) gs ≡ map (relist (lists_of ms)) gs
  other_lists m ms [] h = refl
  other_lists m ms (g ∷ gs) h = rw (eq_flips m.group.0 g.id.0 h.0) (ap (λ (l : List (Group s)). relist (lists_of ms) g ∷ l) (other_lists m ms gs h.1))

  lists_zipped : (gs : List (Group s)) (ms : List (Made s)) → IsDistinct nat_eq (map group_handle gs) → AreMadeOf gs ms → map (relist (lists_of ms)) gs ≡ zipped gs ms
  unfolding IsDistinct
  lists_zipped [] [] d h = refl
  lists_zipped [] (m ∷ ms) d h = cc h
  lists_zipped (g ∷ gs) [] d h = cc h
  lists_zipped (g ∷ gs) (m ∷ ms) d h =
      let id : m.group.0 ≡ g.id.0 = ap (λ (x : GroupId). x.0) h.0.group in
      let apart : AllByRecursion (λ (n : ℕ). nat_eq m.group.0 n ≡ false) (map group_handle gs) = subst (λ (i : ℕ). AllByRecursion (λ (n : ℕ). nat_eq i n ≡ false) (map group_handle gs)) (sym id) d.0 in
      ap (λ (l : List (Group s)). relist (lists_of (m ∷ ms)) g ∷ l) (other_lists m ms gs apart ∙ lists_zipped gs ms d.1 h.1)
      ∙ ap (λ (t : Bool). with_list g (if t then m.list else list_for g.id.0 g.remap (lists_of ms)) ∷ zipped gs ms) (eq-eqb g.id.0 m.group.0 (sym id))

  fit_all : (all gs : List (Group s)) (ms : List (Made s)) → AllByRecursion (λ g. group_at g.id.0 all ≡ Some g) gs → AreMadeOf gs ms → AllByRecursion (Fits all) (lists_of ms)
  fit_all all [] [] a h = tt
  fit_all all [] (m ∷ ms) a h = cc h
  fit_all all (g ∷ gs) [] a h = tt
  fit_all all (g ∷ gs) (m ∷ ms) a h =
      let is : list_in m.group.0 all ≡ g.remap = ap (λ (x : GroupId). list_in x.0 all) h.0.group ∙ in_found g.id.0 all g a.0 in
      (λ l. h.0.kept (subst (λ (list : List RemapEntry). length m.list ≤ length list) is l) ∙ sym is, fit_all all gs ms a.1 h.1)

  -- ---- groups in order

  put_map : (xs : List GroupList) (g : Group s) (gs : List (Group s)) → put_in comes_before (relist xs g) (map (relist xs) gs) ≡ map (relist xs) (put_in comes_before g gs)
  put_map xs g [] = refl
  put_map xs g (k ∷ ks) = elim (cases_Bool (comes_before g k)) [
    | inl t ↦ rw t refl
    | inr n ↦ rw n (ap (λ (l : List (Group s)). relist xs k ∷ l) (put_map xs g ks))
  ]

  order_from : (xs : List GroupList) (gs ys : List (Group s)) → fold (λ ys x. put_in comes_before x ys) (map (relist xs) ys) (map (relist xs) gs) ≡ map (relist xs) (fold (λ ys x. put_in comes_before x ys) ys gs)
  order_from xs [] ys = refl
  order_from xs (g ∷ gs) ys = ap (λ (l : List (Group s)). fold (λ ys x. put_in comes_before x ys) l (map (relist xs) gs)) (put_map xs g ys) ∙ order_from xs gs (put_in comes_before g ys)

  order_map : (xs : List GroupList) (gs : List (Group s)) → groups_in_order (map (relist xs) gs) ≡ map (relist xs) (groups_in_order gs)
  unfolding in_order
  order_map xs gs = order_from xs gs []

  ids_map : (xs : List GroupList) (gs : List (Group s)) → ids_of (map (relist xs) gs) ≡ ids_of gs
  ids_map xs [] = refl
  ids_map xs (g ∷ gs) = ap (λ (l : List GroupId). g.id ∷ l) (ids_map xs gs)

  order_same : (xs : List GroupList) (gs : List (Group s)) → group_order (map (relist xs) gs) ≡ group_order gs
  order_same xs gs = ap ids_of (order_map xs gs) ∙ ids_map xs (groups_in_order gs)

  sizes_same : (cs : List (Constraint s)) (es : List (Entity s)) (xs : List GroupList) (gs : List (Group s)) → first_fault (size_fault cs es) (map (relist xs) gs) ≡ first_fault (size_fault cs es) gs
  sizes_same cs es xs [] = refl
  sizes_same cs es xs (g ∷ gs) = ap (λ (o : Option ModelFault). option_or (size_fault cs es g) o) (sizes_same cs es xs gs)

  abbrev with_groups : Typed s → List (Group s) → Typed s
  with_groups m gs = record m { groups = gs }

  named_same : (xs : List GroupList) (m : Typed s) (order : List GroupId) (es : List (Entity s)) → entities_fault (with_groups m (map (relist xs) m.groups)) order es ≡ entities_fault m order es
  unfolding entities_fault
  named_same xs m order es =
      ap (λ (o : Option ModelFault). option_or (first_fault (request_fault order es) m.requests) (option_or (first_fault (constraint_fault order es) m.constraints) o))
      (ap (first_fault (size_fault m.constraints es)) (order_map xs m.groups) ∙ sizes_same m.constraints es xs (groups_in_order m.groups))

  first_same : (m : Typed s) (gs : List (Group s)) (order : List GroupId) → groups_fault (with_groups m gs) order ≡ groups_fault m order
  unfolding groups_fault
  first_same m gs order = refl

-- ---- the whole

module _ {s : ℕ} (parts : List (Part s)) (m : Typed s) (apart : AreGroups m.groups) (made : List (Made s)) (done : groups_made parts m ≡ Ok made) where
  abbrev lists : List GroupList
  lists = lists_of made

  abbrev changed : List (Group s)
  changed = map (relist lists) m.groups

  whole : AllAgain (relist lists) (λ g. refl) m.requests m.groups parts [] (groups_in_order m.groups) made
  unfolding groups_made
  whole = all_again (relist lists) (λ g. refl) m.requests m.groups parts [] (groups_in_order m.groups) made done

  each : AllByRecursion (λ (g : Group s). group_at g.id.0 m.groups ≡ Some g) (groups_in_order m.groups)
  each = recursion_from_All (λ (g : Group s). group_at g.id.0 m.groups ≡ Some g) (groups_in_order m.groups) (each_found m.groups apart)

  made_of_all : AreMadeOf (groups_in_order m.groups) made
  made_of_all = subst (AreMadeOf (groups_in_order m.groups)) (sym whole.behind) whole.made_of

  lists_apart : IsDistinct nat_eq (map list_handle lists)
  lists_apart = subst (IsDistinct nat_eq) (sym (handles_zipped (groups_in_order m.groups) made made_of_all)) (groups_distinct m.groups apart)
    where
      handles_zipped : (gs : List (Group s)) (ms : List (Made s)) → AreMadeOf gs ms → map list_handle (lists_of ms) ≡ map group_handle gs
      handles_zipped [] [] h = refl
      handles_zipped [] (x ∷ ms) h = cc h
      handles_zipped (g ∷ gs) [] h = cc h
      handles_zipped (g ∷ gs) (x ∷ ms) h = ap (λ (i : GroupId). i.0 ∷ map list_handle (lists_of ms)) h.0.group ∙ ap (λ ks. g.id.0 ∷ ks) (handles_zipped gs ms h.1)

  -- the groups of the model with the lists set are those with the lists of what was made
  pub set_changed : with_lists lists m.groups ≡ changed
  set_changed = with_all lists m.groups lists_apart apart (fit_all m.groups (groups_in_order m.groups) made each made_of_all)

  in_order_changed : groups_in_order changed ≡ zipped (groups_in_order m.groups) made
  in_order_changed = order_map lists m.groups ∙ lists_zipped (groups_in_order m.groups) made (groups_distinct m.groups apart) made_of_all

  made_again_all : groups_made parts (with_groups m changed) ≡ Ok made
  unfolding groups_made
  made_again_all =
      ap (made_from m.requests changed parts []) in_order_changed
      ∙ ap (λ (ms : List (Made s)). made_from m.requests changed parts [] (zipped (groups_in_order m.groups) ms)) whole.behind
      ∙ whole.again

pub again_law : AgainLaw
unfolding outlined
again_law s parts m o apart e =
    let order = group_order m.groups in
    let a = unless_passed (groups_fault m order) _ o e in
    then_parts {P = outlined parts (relisted o.lists m) ≡ Ok o} (groups_made parts m) (outline_over m) o a.1 (λ made done e1.
    (let es = by_handle (all_made made) in
    let b = unless_passed (entities_fault m order es) _ o e1 in
    let n : Typed s = with_groups m (changed parts m apart made done) in
    let p : Outlined s = record { outline = record { order = order; entities = es }; lists = lists_of made } in
    let is : p ≡ o = ok_inj b.1 in
    let level : group_order n.groups ≡ order = order_same (lists_of made) m.groups in
    let last : outline_over n made ≡ Ok p =
    ap (λ (ids : List GroupId). unless (entities_fault n ids es) (Ok (record { outline = record { order = ids; entities = es }; lists = lists_of made }))) level
    ∙ ap (λ (x : Option ModelFault). unless x (Ok p)) (named_same (lists_of made) m order es ∙ b.0) in
    let whole : outlined parts n ≡ Ok p =
    ap (λ (ids : List GroupId). unless (groups_fault n ids) (then_of (groups_made parts n) (outline_over n))) level
    ∙ ap (λ (x : Option ModelFault). unless x (then_of (groups_made parts n) (outline_over n))) (first_same m (changed parts m apart made done) order ∙ a.0)
    ∙ ap (λ (r : Result (List (Made s)) ModelFault). then_of r (outline_over n)) (made_again_all parts m apart made done)
    ∙ last in
    let there : outlined parts (relisted (lists_of made) m) ≡ Ok p = ap (λ (gs : List (Group s)). outlined parts (with_groups m gs)) (set_changed parts m apart made done) ∙ whole in
    subst (λ (q : Outlined s). outlined parts (relisted q.lists m) ≡ Ok q) is there))

-- parameters aren't looked at
pub params_law : ParamsLaw
unfolding outlined groups_fault entities_fault groups_made
params_law s parts m params = refl
