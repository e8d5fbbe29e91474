-- Linked parts that were read: their entities rise, and their handles have at most eight hexadecimal digits.
use Rattle.std.proofs.Common.{◌≡◌, ℕ, List, [], ◌∷◌, Option, Some, None, Result, Ok, Err, refl, ap, subst, arith}
use Rattle.std.specs.Prelude.{IfSome, ⊤}
use Rattle.std.specs.BTreeMap.{insert_entry}
use Rattle.std.specs.List.{All, AllByRecursion, filter_map}
use Rattle.std.specs.Map.{values_of}
use Rattle.std.specs.Option.{option_map}
use Rattle.std.specs.Ordering.{nat_cmp}
use Rattle.std.proofs.lemmas.List.Elements.{All-from_recursion, All-head, All-nil, recursion_from_All}
use Rattle.std.proofs.lemmas.Map.Views.{All-values-insert_entry}
use Rattle.sk_num.specs.Spelling.{handle_of}
use Rattle.sk_num.specs.SpellingLaws.{handle-fits}
use Rattle.sk_types.specs.declared.handle.GroupId.{GroupId}
use Rattle.sk_types.specs.declared.entity.Entity.{Entity}
use Rattle.sk_types.specs.declared.group.Group.{Group}
use Rattle.sk_types.specs.Lookups.{Rise}
use Rattle.sk_records.specs.declared.kinds.Kind.TheVariants as kind
use Rattle.sk_records.specs.Blocks.{Block, records}
use Rattle.sk_records.specs.Reading.{read_text}
use Rattle.sk_records.specs.Rows.{Row, last_number, last_value}
use Rattle.sk_model.specs.Checked.{IsHandle}
use Rattle.sk_link.specs.declared.parts.Part.{Part}
use Rattle.sk_link.specs.Chain.{each_ok, then_of, with_err}
use Rattle.sk_link.specs.Faults.{fault_at}
use Rattle.sk_link.specs.Fields.{flag_under, handle_under, quantity_under, read_at, value_as, whole_under}
use Rattle.sk_link.specs.Keys.{key_bytes}
use Rattle.sk_link.specs.Part.{by_handle, counted, entities_in, part_in}
use Rattle.sk_link.specs.Parts.{part_of, parts_of}
use Rattle.sk_link.specs.Replies.{Reply, Broke, NoFile, Gave, IsReply}
use Rattle.sk_link.specs.Stored.{entity_keys, number_of, stored, stored_entity, stored_of}
use Rattle.sk_link.proofs.Rising.{reads_rise}
use Rattle.sk_link.proofs.Tried.{with_stored}
use Rattle.sk_chain.specs.Known.{IsReadPart}
use Rattle.sk_regen.specs.SoundLaws.{ReadLaw}

-- ---- steps one after another

split : {T U E P : Type 0} (m : Result T E) (f : T → Result U E) (y : U) → then_of m f ≡ Ok y → ((x : T) → m ≡ Ok x → f x ≡ Ok y → P) → P
split (Ok x) f y e go = go x refl e
split (Err z) f y e go = cc e

keeps : {T U E : Type 0} (P : U → Type 0) (m : Result T E) (f : T → Result U E) (y : U) → then_of m f ≡ Ok y → ((x : T) → f x ≡ Ok y → P y) → P y
keeps P (Ok x) f y e h = h x e
keeps P (Err z) f y e h = cc e

ok_is : {A E : Type 0} (x y : A) → ◌≡◌ {A = Result A E} (Ok x) (Ok y) → x ≡ y
ok_is x y e = cc

-- ---- handles that are read

handle_at : (line : Option ℕ) (t : List ℕ) (h : ℕ) → read_at line (handle_of t) ≡ Ok h → IsHandle h
handle_at line t h = by_read (handle_of t) refl
  where
    by_read : (r : _) → handle_of t ≡ r → read_at line r ≡ Ok h → IsHandle h
    by_read (Ok x) is e = subst IsHandle (ok_is x h e) (handle-fits t x is)
    by_read (Err z) is e = cc e

handle_as : (line : Option ℕ) (o : Option (List ℕ)) (h : ℕ) → value_as handle_of 0 line o ≡ Ok h → IsHandle h
handle_as line None h e = subst IsHandle (ok_is 0 h e) (omega arith)
handle_as line (Some t) h e = handle_at line t h e

handle_read : (k : _) (rows : List Row) (h : ℕ) → handle_under k rows ≡ Ok h → IsHandle h
unfolding handle_under
handle_read k rows h e = handle_as (last_number (key_bytes k) rows) (last_value (key_bytes k) rows) h e

-- the handle is the first of the keys
keys_fit : (s : ℕ) (rows : List Row) (k : _) → entity_keys s rows ≡ Ok k → IsHandle k.id
unfolding entity_keys
keys_fit s rows k e = split (handle_under _ rows) _ k e (λ id at e0.
    subst IsHandle (
    keeps (λ y. id ≡ y.id) (whole_under _ rows) _ k e0 (λ x1 e1.
    keeps (λ y. id ≡ y.id) (flag_under _ rows) _ k e1 (λ x2 e2.
    keeps (λ y. id ≡ y.id) (handle_under _ rows) _ k e2 (λ x3 e3.
    keeps (λ y. id ≡ y.id) (handle_under _ rows) _ k e3 (λ x4 e4.
    keeps (λ y. id ≡ y.id) (handle_under _ rows) _ k e4 (λ x5 e5.
    keeps (λ y. id ≡ y.id) (handle_under _ rows) _ k e5 (λ x6 e6.
    keeps (λ y. id ≡ y.id) (handle_under _ rows) _ k e6 (λ x7 e7.
    keeps (λ y. id ≡ y.id) (quantity_under s _ rows) _ k e7 (λ x8 e8.
    keeps (λ y. id ≡ y.id) (quantity_under s _ rows) _ k e8 (λ x9 e9.
    keeps (λ y. id ≡ y.id) (quantity_under s _ rows) _ k e9 (λ x10 e10.
    keeps (λ y. id ≡ y.id) (quantity_under s _ rows) _ k e10 (λ x11 e11.
    keeps (λ y. id ≡ y.id) (quantity_under s _ rows) _ k e11 (λ x12 e12.
    keeps (λ y. id ≡ y.id) (quantity_under s _ rows) _ k e12 (λ x13 e13.
    keeps (λ y. id ≡ y.id) (quantity_under s _ rows) _ k e13 (λ x14 e14.
    keeps (λ y. id ≡ y.id) (quantity_under s _ rows) _ k e14 (λ x15 e15.
    ap (λ y. y.id) (ok_is _ k e15)))))))))))))))))
    (handle_read _ rows id at))

-- ---- entities that are stored

abbrev IsFit : {s : ℕ} → Option (Entity s) → Type 0
IsFit o = IfSome o (λ e. IsHandle e.id.0)

one_fits : (s : ℕ) (rows : List Row) (x : _) → stored s rows ≡ Ok x → IsFit x.entity
one_fits s rows x e = split (entity_keys s rows) _ x e (λ k at e0. subst (λ y. IsFit y.entity) (ok_is (stored_of k) x e0) (by_number k (number_of k.kind) (keys_fit s rows k at)))
  where
    by_number : (k : _) (o : Option ℕ) → IsHandle (stored_of {s = s} k).handle → IsFit (option_map (stored_entity k) o)
    by_number k None h = tt
    by_number k (Some n) h = h

module _ {s : ℕ} where
  kept_fit : (es : List (ℕ × Option (Entity s))) (rs : List (List Row)) (xs : _) → each_ok (stored s) rs ≡ Ok xs → All IsFit (values_of es) → All IsFit (values_of (with_stored es xs))
  kept_fit es [] xs e a = subst (λ ys. All IsFit (values_of (with_stored es ys))) (ok_is [] xs e) a
  kept_fit es (r ∷ rs) xs e a = split (stored s r) _ xs e (λ x at e0. split (each_ok (stored s) rs) _ xs e0 (λ ys more e1.
      subst (λ zs. All IsFit (values_of (with_stored es zs))) (ok_is (x ∷ ys) xs e1)
      (kept_fit (insert_entry nat_cmp es x.handle x.entity) rs ys more (All-values-insert_entry nat_cmp x.handle x.entity IsFit es a (one_fits s r x at)))))

  present_fit : (os : List (Option (Entity s))) → AllByRecursion IsFit os → AllByRecursion (λ (e : Entity s). IsHandle e.id.0) (filter_map (λ o. o) os)
  present_fit [] h = tt
  present_fit (None ∷ os) h = present_fit os h.1
  present_fit (Some e ∷ os) h = (h.0, present_fit os h.1)

  abbrev HasHandle : Entity s → Type 0
  HasHandle e = IsHandle e.id.0

  entities_fit : (bs : List Block) (es : List (Entity s)) → entities_in s bs ≡ Ok es → AllByRecursion HasHandle es
  entities_fit bs es e = split (each_ok (stored s) (records kind.Entity bs)) _ es e (λ xs at e0. subst (AllByRecursion HasHandle) (ok_is (counted xs) es e0)
      (present_fit (values_of (by_handle xs)) (recursion_from_All IsFit (values_of (by_handle xs)) (kept_fit [] (records kind.Entity bs) xs at (All-nil IsFit)))))

  part_fits : (text : List ℕ) (es : List (Entity s)) → part_in s text ≡ Ok es → AllByRecursion HasHandle es
  unfolding part_in
  part_fits text es e = split (with_err _ (read_text text)) _ es e (λ bs at e0. entities_fit bs es e0)

  -- ---- parts by their replies

  reply_fits : (g : GroupId) (r : Reply) (es : List (Entity s)) → part_of s g r ≡ Ok es → AllByRecursion HasHandle es
  reply_fits g Broke es e = cc e
  reply_fits g NoFile es e = cc e
  reply_fits g (Gave text) es e = by_part (part_in s text) refl e
    where
      by_part : (m : _) → part_in s text ≡ m → with_err (fault_at g) m ≡ Ok es → AllByRecursion HasHandle es
      by_part (Ok fs) is h = subst (AllByRecursion HasHandle) (ok_is fs es h) (part_fits text fs is)
      by_part (Err f) is h = cc h

  reply_rises : (g : Group s) (r : Reply) (es : List (Entity s)) → part_of s g.id r ≡ Ok es → Rise es
  reply_rises g r es e =
      let part : Part s = record { group = g.id; entities = es } in
      All-head (λ (p : Part s). Rise p.entities) part [] (reads_rise None ⊤ (g ∷ []) (part ∷ []) (record { replies = r ∷ []; given = (any r, refl); answer = rw e refl }))
    where
      any : (r : Reply) → IsReply None g.part ⊤ r
      any Broke = tt
      any NoFile = tt
      any (Gave text) = tt

  all_read : (gs : List (Group s)) (rs : List Reply) (ps : List (Part s)) → parts_of s gs rs ≡ Ok ps → AllByRecursion IsReadPart ps
  all_read [] rs ps e = subst (AllByRecursion IsReadPart) (ok_is [] ps e) tt
  all_read (g ∷ gs) [] ps e = subst (AllByRecursion IsReadPart) (ok_is [] ps e) tt
  all_read (g ∷ gs) (r ∷ rs) ps e = split (part_of s g.id r) _ ps e (λ es at e0. split (parts_of s gs rs) _ ps e0 (λ qs more e1.
      (let part : Part s = record { group = g.id; entities = es } in
      subst (AllByRecursion IsReadPart) (ok_is (part ∷ qs) ps e1)
      (record { rise = reply_rises g r es at; handles = All-from_recursion HasHandle es (reply_fits g.id r es at) }, all_read gs rs qs more))))

pub read_law : ReadLaw
read_law s gs replies parts e = All-from_recursion IsReadPart parts (all_read gs replies parts e)
