-- The entities that a group makes lead back to it, and stand by rising handle, each once.
use Rattle.std.proofs.Common.{◌≡◌, inl, inr, ℕ, ◌+◌, ◌-◌, ◌*◌, ◌/◌, ◌%◌, ◌<◌, ◌≤◌, ◌^◌, List, [], ◌∷◌, ◌++◌, get_or, map, true, false, nat_eq, nat_lt, Some, Result, Ok, Err, refl, sym, ap, ◌∙◌, subst, arith}
use Rattle.std.specs.Prelude.{◌==◌}
use Rattle.std.specs.List.{All, AllByRecursion, Contains, IsDistinct, filter, find, flat_map}
use Rattle.std.specs.Option.{option_map}
use Rattle.std.proofs.lemmas.Bool.{cases_Bool, eq-eqb, eqb-true, lt-ltb, le-ltb}
use Rattle.std.proofs.lemmas.Bool.Decides.{nat_tests}
use Rattle.std.proofs.lemmas.List.{map-append}
use Rattle.std.proofs.lemmas.List.Elements.{All-contains_itself, All-filter, All-from_recursion, All-head, All-map, All-nil, All-tail, All-weaker, filter_passes, recursion_from_All}
use Rattle.sk_types.specs.declared.handle.GroupId.{GroupId}
use Rattle.sk_types.specs.declared.handle.Maker.TheVariants.{OfRequest, OfGroup}
use Rattle.sk_types.specs.declared.entity.Entity.{Entity}
use Rattle.sk_types.specs.declared.group.Group.{Group}
use Rattle.sk_types.specs.declared.group.GroupKind.{GroupKind}
use Rattle.sk_types.specs.declared.group.GroupKind.TheVariants.{Space, Plane, Extrude, Translate, Linked}
use Rattle.sk_types.specs.declared.group.RemapEntry.{RemapEntry}
use Rattle.sk_types.specs.declared.request.Request.{Request}
use Rattle.sk_types.specs.Handles.{item_of_group, maker_of}
use Rattle.sk_types.specs.Lookups.{Rise, entity_handle}
use Rattle.sk_entity.specs.Requests.{request_entities}
use Rattle.sk_copy.specs.declared.fault.CopyFault.{CopyFault}
use Rattle.sk_copy.specs.Order.{by_handle}
use Rattle.sk_copy.specs.Copies.{Copies, copies}
use Rattle.sk_copy.specs.Laws.{HaveHandles, IsItem, IsList}
use Rattle.sk_copy.specs.Wanted.{wanted}
use Rattle.sk_copy.proofs.Apartness.{in_order_rises, made_items, made_rise}
use Rattle.sk_model.specs.Checked.{IsCheckedEntry, IsCheckedGroup, IsCheckedList, IsCheckedRequest}
use Rattle.sk_model.specs.Typed.{request_handle}
use Rattle.sk_model.specs.TypingLaws.Chains.{ok_inj}
use Rattle.sk_link.specs.declared.parts.Part.{Part}
use Rattle.sk_chain.specs.declared.made.Made.{Made}
use Rattle.sk_chain.specs.Known.{AllOwn, IsHome, IsOwn}
use Rattle.sk_chain.specs.Lookups.{group_at}
use Rattle.sk_chain.specs.Made.{all_made, copied_by, drawn_in, group_by, made_by, made_in, made_with}
use Rattle.sk_chain.proofs.Apart.{Differs, IsBlock, all_found, blocks_distinct, distinct_append, distinct_filter, sorted_distinct}
use Rattle.sk_chain.proofs.CopiesKnown.{IsKnownCopy, IsSmallKind, copies_known}
use Rattle.sk_chain.proofs.EachCopy.{IsKnownSource}
use Rattle.sk_chain.proofs.Drawn.{IsPart, request_part}
use Rattle.sk_chain.proofs.InOrder.{all_in_order}
use Rattle.sk_chain.proofs.Lists.{copies_extended, list_kept, wanted_small}
use Rattle.sk_chain.proofs.Segments.{IsWithin, all_behind, all_weaker}

-- ---- handles lead back to their makers

of_request : (r n : ℕ) → r ≤ 32767 → r * 65536 ≤ n → n < r * 65536 + 65536 → maker_of n ≡ OfRequest (record { 0 = r }) (n % 65536)
of_request r n few low high =
    let below : nat_lt n (2 ^ 31) ≡ true = lt-ltb n (2 ^ 31) (omega (arith, few, high)) in
    let is : n / 65536 ≡ r = omega (arith, low, high) in
    rw (below, is) refl

of_group : (g n : ℕ) → item_of_group g 0 ≤ n → n ≤ item_of_group g 65535 → maker_of n ≡ OfGroup (record { 0 = g }) (n % 65536)
of_group g n low high =
    let above : nat_lt n (2 ^ 31) ≡ false = le-ltb n (2 ^ 31) (omega (arith, low)) in
    let is : (n - 2 ^ 31) / 65536 ≡ g = omega (arith, low, high) in
    rw (above, is) refl

-- ---- what requests draw

module _ {s : ℕ} (rs : List Request) (all : List (Group s)) (checked : All IsCheckedRequest rs) (differ : IsDistinct nat_eq (map request_handle rs)) (g : GroupId) where
  abbrev Mine : Request → Type 0
  Mine r = IsCheckedRequest r × (find (λ (q : Request). r.id.0 == q.id.0) rs ≡ Some r) × (r.group ≡ g)

  abbrev own : List Request
  own = filter (λ (r : Request). r.group.0 == g.0) rs

  its_group : (r : Request) → (r.group.0 == g.0) ≡ true → r.group ≡ g
  its_group r t = let is : r.group.0 ≡ g.0 = eqb-true r.group.0 g.0 t in ap (λ n. let x : GroupId = record { 0 = n } in x) is

  all_mine : AllByRecursion Mine own
  all_mine =
      let passes = filter_passes (λ (r : Request). r.group.0 == g.0) rs in
      let known = All-filter (λ (r : Request). r.group.0 == g.0) IsCheckedRequest rs checked in
      let found = All-filter (λ (r : Request). r.group.0 == g.0) (λ (r : Request). find (λ (q : Request). r.id.0 == q.id.0) rs ≡ Some r) rs (All-from_recursion (λ (r : Request). find (λ (q : Request). r.id.0 == q.id.0) rs ≡ Some r) rs (all_found request_handle rs differ)) in
      recursion_from_All Mine own (λ k d l. (known k d l, found k d l, its_group (get_or own k d) (passes k d l)))

  from_mapped : (P : ℕ → Type 0) (es : List (Entity s)) → AllByRecursion P (map entity_handle es) → AllByRecursion (λ e. P e.id.0) es
  from_mapped P [] h = tt
  from_mapped P (e ∷ es) h = (h.0, from_mapped P es h.1)

  part_of : (r : Request) → IsCheckedRequest r → IsPart s r 0 65536 0 65536 (request_entities s r)
  part_of r c = request_part s r c.extra

  drawn_home : (r : Request) → Mine r → (e : Entity s) → IsWithin (r.id.0 * 65536 + 0) (r.id.0 * 65536 + 65536) e.id.0 → (e.group ≡ r.group) × (e.kind ≤ 65535) → Contains (request_entities s r) e → IsHome rs all g e
  drawn_home r mine e w k c =
      let low = w.0 in
      let high = w.1 in
      let least = mine.0.least in
      let most = mine.0.most in
      record {
        least = omega (arith, low, least);
        most = omega (arith, high, most);
        kind = k.1;
        group = k.0 ∙ mine.2;
        home = ap (group_by rs all) (of_request r.id.0 e.id.0 most (omega (arith, low)) high) ∙ ap (option_map (λ (q : Request). q.group)) mine.1 ∙ ap Some mine.2;
        own = inr (record { request = r; there = mine.1; draws = c });
      }

  request_homes : (r : Request) → Mine r → AllByRecursion (IsHome rs all g) (request_entities s r)
  request_homes r mine =
      let es = request_entities s r in
      let part = part_of r mine.0 in
      let within = All-from_recursion (λ (e : Entity s). IsWithin (r.id.0 * 65536 + 0) (r.id.0 * 65536 + 65536) e.id.0) es (from_mapped (IsWithin (r.id.0 * 65536 + 0) (r.id.0 * 65536 + 65536)) es part.handles_rise.within) in
      let known = All-from_recursion (λ (e : Entity s). (e.group ≡ r.group) × (e.kind ≤ 65535)) es part.known in
      let itself = All-contains_itself es in
      recursion_from_All (IsHome rs all g) es (λ k d l. drawn_home r mine (get_or es k d) (within k d l) (known k d l) (itself k d l))

  all_flat : (ts : List Request) → AllByRecursion Mine ts → AllByRecursion (IsHome rs all g) (flat_map (request_entities s) ts)
  all_flat [] h = tt
  all_flat (t ∷ ts) h = all_behind (IsHome rs all g) (request_entities s t) (flat_map (request_entities s) ts) (request_homes t h.0) (all_flat ts h.1)

  pub drawn_homes : AllByRecursion (IsHome rs all g) (drawn_in s g.0 rs)
  drawn_homes = all_flat own all_mine

  request_block : (r : Request) → Mine r → IsBlock (request_handle r) (map entity_handle (request_entities s r))
  request_block r mine = let h = (part_of r mine.0).handles_rise in record {
    rise = h.rise;
    within = all_weaker (IsWithin (r.id.0 * 65536 + 0) (r.id.0 * 65536 + 65536)) (IsWithin (r.id.0 * 65536) (r.id.0 * 65536 + 65536)) (map entity_handle (request_entities s r)) (λ k w. let low = w.0 in (omega (arith, low), w.1)) h.within;
  }

  pub drawn_differ : IsDistinct nat_eq (map entity_handle (drawn_in s g.0 rs))
  drawn_differ = blocks_distinct (request_entities s) request_handle entity_handle own (distinct_filter request_handle (λ (r : Request). r.group.0 == g.0) rs differ) (all_weaker Mine (λ r. IsBlock (request_handle r) (map entity_handle (request_entities s r))) own request_block all_mine)

  abbrev Low : ℕ → Type 0
  Low k = k < 2 ^ 31

  low_flat : (ts : List Request) → AllByRecursion Mine ts → AllByRecursion Low (map entity_handle (flat_map (request_entities s) ts))
  low_flat [] h = tt
  low_flat (t ∷ ts) h =
      let few = h.0.0.most in
      subst (AllByRecursion Low) (sym (map-append entity_handle (request_entities s t) (flat_map (request_entities s) ts)))
      (all_behind Low (map entity_handle (request_entities s t)) (map entity_handle (flat_map (request_entities s) ts))
      (all_weaker (IsWithin (t.id.0 * 65536) (t.id.0 * 65536 + 65536)) Low (map entity_handle (request_entities s t)) (λ k w. let high = w.1 in omega (arith, few, high)) (request_block t h.0).within) (low_flat ts h.1))

  pub drawn_low : AllByRecursion Low (map entity_handle (drawn_in s g.0 rs))
  drawn_low = low_flat own all_mine

-- ---- what it copies

checked_list : (list : List RemapEntry) → IsCheckedList list → IsList list
checked_list list h = record {
  least = All-map (λ n. 1 ≤ n) (λ (e : RemapEntry). e.number) list (All-weaker IsCheckedEntry (λ (e : RemapEntry). 1 ≤ e.number) (λ e c. c.least) list h.entries);
  most = All-map (λ n. n ≤ 65535) (λ (e : RemapEntry). e.number) list (All-weaker IsCheckedEntry (λ (e : RemapEntry). e.number ≤ 65535) (λ e c. c.most) list h.entries);
  numbers_differ = h.numbers_differ;
  copies_differ = h.copies_differ;
}

-- what is copied of earlier groups
pub record IsSource {s : ℕ} (es : List (Entity s)) : Type 0 where
  pub least : All (λ e. 65536 ≤ e.id.0) es
  pub kinds : All (λ e. e.kind ≤ 65535) es

abbrev pub IsSourceOf : {s : ℕ} → GroupKind → List (Entity s) → Type 0
IsSourceOf Space es = Unit {0}
IsSourceOf Plane es = Unit {0}
IsSourceOf Extrude es = IsSource es
IsSourceOf Translate es = IsSource es
IsSourceOf Linked es = Unit {0}

have_handles : {s : ℕ} (k : GroupKind) (es : List (Entity s)) → IsSourceOf k es → HaveHandles k es
have_handles Space es h = tt
have_handles Plane es h = tt
have_handles {s} Extrude es h = All-weaker (λ (e : Entity s). 65536 ≤ e.id.0) (λ (e : Entity s). 0 < e.id.0) (λ e l. omega (arith, l)) es h.least
have_handles Translate es h = tt
have_handles Linked es h = tt

small_kinds : {s : ℕ} (k : GroupKind) (es : List (Entity s)) → IsSourceOf k es → IsKnownSource IsSmallKind k es
small_kinds Space es h = tt
small_kinds Plane es h = tt
small_kinds Extrude es h = recursion_from_All IsSmallKind es h.kinds
small_kinds Translate es h = recursion_from_All IsSmallKind es h.kinds
small_kinds Linked es h = tt

module _ {s : ℕ} (rs : List Request) (all : List (Group s)) where
  no_source : IsSource {s = s} []
  no_source = record { least = All-nil (λ (e : Entity s). 65536 ≤ e.id.0); kinds = All-nil (λ (e : Entity s). e.kind ≤ 65535) }

  home_source : (g : GroupId) (es : List (Entity s)) → All (IsHome rs all g) es → IsSource es
  home_source g es h = record {
    least = All-weaker (IsHome rs all g) (λ (e : Entity s). 65536 ≤ e.id.0) (λ e i. i.least) es h;
    kinds = All-weaker (IsHome rs all g) (λ (e : Entity s). e.kind ≤ 65535) (λ e i. i.kind) es h;
  }

  made_source : (n : ℕ) (made : List (Made s)) → AllOwn rs all made → IsSource (made_in n made)
  made_source n [] h = no_source
  made_source n (m ∷ ms) h = elim (cases_Bool (n == m.group.0)) [
    | inl t ↦ rw t (home_source m.group m.entities (All-head (IsOwn rs all) m ms h).homes)
    | inr f ↦ rw f (made_source n ms (All-tail (IsOwn rs all) m ms h))
  ]

  source_by : (k : GroupKind) (parts : List (Part s)) (made : List (Made s)) (g : Group s) → AllOwn rs all made → IsSourceOf k (copied_by k parts made g)
  source_by Space parts made g h = tt
  source_by Plane parts made g h = tt
  source_by Extrude parts made g h = made_source g.source.0 made h
  source_by Translate parts made g h = made_source g.source.0 made h
  source_by Linked parts made g h = tt

-- ---- what one group makes

module _ {s : ℕ} (rs : List Request) (all : List (Group s)) (checked : All IsCheckedRequest rs) (differ : IsDistinct nat_eq (map request_handle rs))
    (g : Group s) (there : group_at g.id.0 all ≡ Some g) (ok : IsCheckedGroup g) (es : List (Entity s)) (source : IsSourceOf g.kind es) (rise : Rise es) where
  module _ (c : Copies s) (e : copies g g.remap es ≡ Ok c) where
    list : IsList g.remap
    list = checked_list g.remap ok.entries

    items : All (IsItem g) c.entities
    items = made_items g g.remap es c list e

    copies_rise : Rise c.entities
    copies_rise = made_rise g g.remap es c ok.copies list rise (have_handles g.kind es source) e

    copy_home : (x : Entity s) → IsItem g x → IsKnownCopy g x → IsHome rs all g.id x
    copy_home x i k =
        let low = i.0 in
        let high = i.1 in
        let few = ok.most in
        record {
          least = omega (arith, low);
          most = omega (arith, high, few);
          kind = k.kind;
          group = k.group;
          home = ap (group_by rs all) (of_group g.id.0 x.id.0 i.0 i.1) ∙ ap (option_map (λ (h : Group s). h.id)) there;
          own = inl k.own;
        }

    copy_homes : All (IsHome rs all g.id) c.entities
    copy_homes = let known = copies_known g es g.remap c (small_kinds g.kind es source) e in λ k d l. copy_home (get_or c.entities k d) (items k d l) (known k d l)

    abbrev drawn : List (Entity s)
    drawn = drawn_in s g.id.0 rs

    both_homes : AllByRecursion (IsHome rs all g.id) (drawn ++ c.entities)
    both_homes = all_behind (IsHome rs all g.id) drawn c.entities (drawn_homes rs all checked differ g.id) (recursion_from_All (IsHome rs all g.id) c.entities copy_homes)

    abbrev High : ℕ → Type 0
    High k = 2 ^ 31 ≤ k

    high_handles : (xs : List (Entity s)) → AllByRecursion (IsItem g) xs → AllByRecursion High (map entity_handle xs)
    high_handles [] h = tt
    high_handles (x ∷ xs) h = (let low = h.0.0 in omega (arith, low), high_handles xs h.1)

    low_high : (k j : ℕ) → k < 2 ^ 31 → 2 ^ 31 ≤ j → nat_eq k j ≡ false
    low_high k j l m = grind (arith, nat_tests, l, m)

    both_differ : IsDistinct nat_eq (map entity_handle (drawn ++ c.entities))
    both_differ =
        subst (IsDistinct nat_eq) (sym (map-append entity_handle drawn c.entities))
        (distinct_append (map entity_handle drawn) (map entity_handle c.entities) (drawn_differ rs all checked differ g.id) (sorted_distinct (map entity_handle c.entities) copies_rise)
        (all_weaker (λ k. k < 2 ^ 31) (Differs (map entity_handle c.entities)) (map entity_handle drawn)
        (λ k l. all_weaker High (λ j. nat_eq k j ≡ false) (map entity_handle c.entities) (λ j m. low_high k j l m) (high_handles c.entities (recursion_from_All (IsItem g) c.entities items)))
        (drawn_low rs all checked differ g.id)))

    pub one_own : IsOwn rs all (record { group = g.id; list = c.list; entities = by_handle (drawn ++ c.entities) })
    one_own = record {
      group = (g, there);
      list = list_kept g.id.0 (wanted g es) g.remap c.list (wanted_small g es ok.copies) ok.list (copies_extended g g.remap es c e);
      rise = in_order_rises entity_handle (drawn ++ c.entities) both_differ;
      homes = All-from_recursion (IsHome rs all g.id) (by_handle (drawn ++ c.entities)) (all_in_order (IsHome rs all g.id) (λ d x. nat_lt d.id.0 x.id.0) (drawn ++ c.entities) both_homes);
    }

  own_with : (r : Result (Copies s) CopyFault) (m : Made s) → copies g g.remap es ≡ r → made_with g.id (drawn_in s g.id.0 rs) r ≡ Ok m → IsOwn rs all m × (m.group ≡ g.id)
  own_with (Err f) m p h = cc h
  own_with (Ok c) m p h =
      let is : record { group = g.id; list = c.list; entities = by_handle (drawn_in s g.id.0 rs ++ c.entities) } ≡ m = ok_inj h in
      (subst (IsOwn rs all) is (one_own c p), ap (λ (q : Made s). q.group) (sym is))

module _ {s : ℕ} (rs : List Request) (all : List (Group s)) (checked : All IsCheckedRequest rs) (differ : IsDistinct nat_eq (map request_handle rs)) (parts : List (Part s)) where
  pub made_own : (made : List (Made s)) (g : Group s) (m : Made s) → AllOwn rs all made → group_at g.id.0 all ≡ Some g → IsCheckedGroup g → Rise (copied_by g.kind parts made g) → made_by rs parts made g ≡ Ok m → IsOwn rs all m × (m.group ≡ g.id)
  unfolding made_by
  made_own made g m own there ok rise e =
      own_with rs all checked differ g there ok (copied_by g.kind parts made g) (source_by rs all g.kind parts made g own) rise (copies g g.remap (copied_by g.kind parts made g)) m refl e

-- ---- what all groups make

module _ {s : ℕ} (rs : List Request) (all : List (Group s)) where
  some_is : (g h : GroupId) → Some g ≡ Some h → g.0 ≡ h.0
  some_is g h e = let is : g ≡ h = cc in ap (λ (x : GroupId). x.0) is

  homes_differ : (g h : GroupId) (d e : Entity s) → nat_eq g.0 h.0 ≡ false → IsHome rs all g d → IsHome rs all h e → nat_eq d.id.0 e.id.0 ≡ false
  homes_differ g h d e off a b = elim (cases_Bool (nat_eq d.id.0 e.id.0)) [
    | inl t ↦
        let same : d.id.0 ≡ e.id.0 = eqb-true d.id.0 e.id.0 t in
        let level = some_is g h (sym a.home ∙ ap (λ n. group_by rs all (maker_of n)) same ∙ b.home) in
        let yes : nat_eq g.0 h.0 ≡ true = eq-eqb g.0 h.0 level in
        let no : true ≡ false = sym yes ∙ off in cc no
    | inr f ↦ f
  ]

  one_differs : (g h : GroupId) (d : Entity s) (es : List (Entity s)) → nat_eq g.0 h.0 ≡ false → IsHome rs all g d → AllByRecursion (IsHome rs all h) es → Differs (map entity_handle es) d.id.0
  one_differs g h d [] off a b = tt
  one_differs g h d (e ∷ es) off a b = (homes_differ g h d e off a b.0, one_differs g h d es off a b.1)

  rest_differs : (g : GroupId) (d : Entity s) (made : List (Made s)) → AllByRecursion (λ k. nat_eq g.0 k ≡ false) (map (λ m. m.group.0) made) → IsHome rs all g d → AllByRecursion (IsOwn rs all) made → Differs (map entity_handle (all_made made)) d.id.0
  rest_differs g d [] off a h = tt
  rest_differs g d (m ∷ ms) off a h =
      subst (λ ks. Differs ks d.id.0) (sym (map-append entity_handle m.entities (all_made ms)))
      (all_behind (λ j. nat_eq d.id.0 j ≡ false) (map entity_handle m.entities) (map entity_handle (all_made ms)) (one_differs g m.group d m.entities off.0 a (recursion_from_All (IsHome rs all m.group) m.entities h.0.homes)) (rest_differs g d ms off.1 a h.1))

  cross_differ : (g : GroupId) (ds : List (Entity s)) (made : List (Made s)) → AllByRecursion (λ k. nat_eq g.0 k ≡ false) (map (λ m. m.group.0) made) → AllByRecursion (IsHome rs all g) ds → AllByRecursion (IsOwn rs all) made → AllByRecursion (Differs (map entity_handle (all_made made))) (map entity_handle ds)
  cross_differ g [] made off a h = tt
  cross_differ g (d ∷ ds) made off a h = (rest_differs g d made off a.0 h, cross_differ g ds made off a.1 h)

  all_differ : (made : List (Made s)) → AllByRecursion (IsOwn rs all) made → IsDistinct nat_eq (map (λ m. m.group.0) made) → IsDistinct nat_eq (map entity_handle (all_made made))
  unfolding IsDistinct
  all_differ [] h d = tt
  all_differ (m ∷ ms) h d =
      subst (IsDistinct nat_eq) (sym (map-append entity_handle m.entities (all_made ms)))
      (distinct_append (map entity_handle m.entities) (map entity_handle (all_made ms)) (sorted_distinct (map entity_handle m.entities) h.0.rise) (all_differ ms h.1 d.1)
      (cross_differ m.group m.entities ms d.0 (recursion_from_All (IsHome rs all m.group) m.entities h.0.homes) h.1))

  pub entities_rise : (made : List (Made s)) → AllOwn rs all made → IsDistinct nat_eq (map (λ m. m.group.0) made) → Rise (by_handle (all_made made))
  entities_rise made h d = in_order_rises entity_handle (all_made made) (all_differ made (recursion_from_All (IsOwn rs all) made h) d)
