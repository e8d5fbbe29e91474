-- The entities of a part rise.
use Rattle.std.proofs.Common.{◌≡◌, ℕ, ◌<◌, List, [], ◌∷◌, map, Option, Some, None, Result, Ok, Err, refl, sym, ap, ◌∙◌, subst, arith}
use Rattle.std.specs.Prelude.{IfSome, ◌==◌, if◌then◌else◌, Bool, true, false}
use Rattle.std.specs.BTreeMap.{insert_entry}
use Rattle.std.specs.List.{All, AllByRecursion}
use Rattle.std.specs.List.Sorted.{IsStrictlySortedBy}
use Rattle.std.specs.Map.{keys_of}
use Rattle.std.specs.Option.{option_map}
use Rattle.std.specs.Ordering.{nat_cmp, match_ordering}
use Rattle.std.specs.declared.cmp.Ordering.{Ordering}
use Rattle.std.specs.declared.cmp.Ordering.TheVariants.{Less, Equal, Greater}
use Rattle.std.proofs.lemmas.Bool.{lt-ltb}
use Rattle.std.proofs.lemmas.Cmp.{ranked}
use Rattle.std.proofs.lemmas.List.Elements.{All-from_recursion, recursion_from_All}
use Rattle.sk_files.specs.Files.{Files}
use Rattle.sk_types.specs.declared.handle.GroupId.{GroupId}
use Rattle.sk_types.specs.declared.entity.Entity.{Entity}
use Rattle.sk_types.specs.declared.group.Group.{Group}
use Rattle.sk_types.specs.Lookups.{entity_handle, Rise}
use Rattle.sk_records.specs.Blocks.{Block}
use Rattle.sk_records.specs.Reading.{read_text}
use Rattle.sk_records.specs.Rows.{Row}
use Rattle.sk_records.specs.declared.faults.ReadFault.{ReadFault}
use Rattle.sk_link.specs.declared.fault.PartFault.{PartFault}
use Rattle.sk_link.specs.declared.fault.Refusal.{Refusal}
use Rattle.sk_link.specs.declared.fault.Refusal.TheVariants.{Text}
use Rattle.sk_link.specs.declared.entity_keys.EntityKeys.{EntityKeys}
use Rattle.sk_link.specs.declared.parts.Part.{Part}
use Rattle.sk_link.specs.declared.stored.Stored.{Stored}
use Rattle.sk_link.specs.Chain.{then_of, with_err, each_ok}
use Rattle.sk_link.specs.Faults.{fault_at}
use Rattle.sk_link.specs.Stored.{entity_keys, number_of, stored, stored_entity, stored_of}
use Rattle.sk_link.specs.Part.{counted, entities_in, part_in, present_in}
use Rattle.sk_link.specs.Replies.{Reply, Broke, NoFile, Gave}
use Rattle.sk_link.specs.Parts.{entities_of, part_of, parts_of, Reads}
use Rattle.sk_link.proofs.Tried.{Entries, with_stored}

-- ---- keys in a map

less : (n m : ℕ) → n < m → nat_cmp n m ≡ Less
less n m h = rw (lt-ltb n m h) refl

abbrev pub Above : ℕ → List ℕ → Type 0
Above n ks = AllByRecursion (λ k. nat_cmp n k ≡ Less) ks

above_lower : (k n : ℕ) (ks : List ℕ) → k < n → Above n ks → Above k ks
above_lower k n [] l h = tt
above_lower k n (m ∷ ks) l h = (let o = ranked n m Less (sym h.0) in less k m (omega arith), above_lower k n ks l h.1)

module _ {X : Type 0} where
  all_with : (P : ℕ × X → Type 0) (k : ℕ) (v : X) (es : List (ℕ × X)) → P (k, v) → AllByRecursion P es → AllByRecursion P (insert_entry nat_cmp es k v)
  all_with P k v [] p h = (p, tt)
  all_with P k v (e ∷ es) p h = by_order (nat_cmp k e.0) refl (all_with P k v es p h.1)
    where
      by_order : (o : Ordering) → nat_cmp k e.0 ≡ o → AllByRecursion P (insert_entry nat_cmp es k v) → AllByRecursion P (match_ordering o ((k, v) ∷ e ∷ es) ((e.0, v) ∷ es) (e ∷ insert_entry nat_cmp es k v))
      by_order Less o more = (p, h)
      by_order Equal o more = (subst (λ (n : ℕ). P (n, v)) (ranked k e.0 Equal (sym o)) p, h.1)
      by_order Greater o more = (h.0, more)

  keys_above : (n k : ℕ) (v : X) (es : List (ℕ × X)) → nat_cmp n k ≡ Less → Above n (keys_of es) → Above n (keys_of (insert_entry nat_cmp es k v))
  keys_above n k v [] p h = (p, tt)
  keys_above n k v (e ∷ es) p h = by_order (nat_cmp k e.0) (keys_above n k v es p h.1)
    where
      by_order : (o : Ordering) → Above n (keys_of (insert_entry nat_cmp es k v)) → Above n (keys_of (match_ordering o ((k, v) ∷ e ∷ es) ((e.0, v) ∷ es) (e ∷ insert_entry nat_cmp es k v)))
      by_order Less more = (p, h)
      by_order Equal more = h
      by_order Greater more = (h.0, more)

  keys_rise : (k : ℕ) (v : X) (es : List (ℕ × X)) → IsStrictlySortedBy nat_cmp (keys_of es) → IsStrictlySortedBy nat_cmp (keys_of (insert_entry nat_cmp es k v))
  unfolding IsStrictlySortedBy
  keys_rise k v [] h = (tt, tt)
  keys_rise k v (e ∷ es) h = by_order (nat_cmp k e.0) refl (keys_rise k v es h.1)
    where
      by_order : (o : Ordering) → nat_cmp k e.0 ≡ o → IsStrictlySortedBy nat_cmp (keys_of (insert_entry nat_cmp es k v)) → IsStrictlySortedBy nat_cmp (keys_of (match_ordering o ((k, v) ∷ e ∷ es) ((e.0, v) ∷ es) (e ∷ insert_entry nat_cmp es k v)))
      by_order Less o more = ((o, above_lower k e.0 (keys_of es) (ranked k e.0 Less (sym o)) h.0), h)
      by_order Equal o more = h
      by_order Greater o more = (keys_above e.0 k v es (less e.0 k (ranked k e.0 Greater (sym o))) h.0, more)

pub nothing_rises : IsStrictlySortedBy nat_cmp []
unfolding IsStrictlySortedBy
nothing_rises = tt

-- ---- entities under their own handles

module _ {s : ℕ} where
  abbrev pub IsUnder : ℕ → Option (Entity s) → Type 0
  IsUnder n o = IfSome o (λ e. e.id.0 ≡ n)

  abbrev pub AreUnder : Entries s → Type 0
  AreUnder es = AllByRecursion (λ (e : ℕ × Option (Entity s)). IsUnder e.0 e.1) es

  abbrev pub AreOwn : List (Stored s) → Type 0
  AreOwn xs = AllByRecursion (λ (x : Stored s). IsUnder x.handle x.entity) xs

  pub kept_rise : (es : Entries s) (xs : List (Stored s)) → IsStrictlySortedBy nat_cmp (keys_of es) → IsStrictlySortedBy nat_cmp (keys_of (with_stored es xs))
  kept_rise es [] h = h
  kept_rise es (x ∷ xs) h = kept_rise (insert_entry nat_cmp es x.handle x.entity) xs (keys_rise x.handle x.entity es h)

  pub kept_under : (es : Entries s) (xs : List (Stored s)) → AreOwn xs → AreUnder es → AreUnder (with_stored es xs)
  kept_under es [] own h = h
  kept_under es (x ∷ xs) own h =
      kept_under (insert_entry nat_cmp es x.handle x.entity) xs own.1
      (all_with (λ (e : ℕ × Option (Entity s)). IsUnder e.0 e.1) x.handle x.entity es own.0 h)

  handles_above : (n : ℕ) (es : Entries s) → AreUnder es → Above n (keys_of es) → Above n (map entity_handle (present_in es))
  handles_above n [] u h = tt
  handles_above n ((k, None) ∷ es) u h = handles_above n es u.1 h.1
  handles_above n ((k, Some e) ∷ es) u h = (rw u.0 h.0, handles_above n es u.1 h.1)

  present_rise : (es : Entries s) → AreUnder es → IsStrictlySortedBy nat_cmp (keys_of es) → Rise (present_in es)
  unfolding IsStrictlySortedBy
  present_rise [] u h = tt
  present_rise ((k, None) ∷ es) u h = present_rise es u.1 h.1
  present_rise ((k, Some e) ∷ es) u h = (rw u.0 (handles_above k es u.1 h.0), present_rise es u.1 h.1)

  counted_rise : (xs : List (Stored s)) → AreOwn xs → Rise (counted xs)
  counted_rise xs own = present_rise (with_stored [] xs) (kept_under [] xs own tt) (kept_rise [] xs nothing_rises)

  own_entity : (k : EntityKeys s) (o : Option ℕ) → IsUnder k.id (option_map (stored_entity k) o)
  own_entity k None = tt
  own_entity k (Some n) = refl

  own_stored : (m : Result (EntityKeys s) Refusal) (x : Stored s) → then_of m (λ k. Ok (stored_of k)) ≡ Ok x → IsUnder x.handle x.entity
  own_stored (Ok k) x e = let p : stored_of k ≡ x = cc in subst (λ (y : Stored s). IsUnder y.handle y.entity) p (own_entity k (number_of k.kind))
  own_stored (Err f) x e = absurd (cc)

  pub own_all : (rs : List (List Row)) (xs : List (Stored s)) → each_ok (stored s) rs ≡ Ok xs → AreOwn xs
  own_all [] xs e = let p : xs ≡ [] = cc in rw p tt
  own_all (r ∷ rs) xs e = by_cases (stored s r) (each_ok (stored s) rs) xs (λ x h. own_stored (entity_keys s r) x h) (λ ys h. own_all rs ys h) e
    where
      by_cases : (m : Result (Stored s) Refusal) (n : Result (List (Stored s)) Refusal) (xs : List (Stored s)) → ((x : Stored s) → m ≡ Ok x → IsUnder x.handle x.entity) → ((ys : List (Stored s)) → n ≡ Ok ys → AreOwn ys) →
          then_of m (λ y. then_of n (λ ys. Ok (y ∷ ys))) ≡ Ok xs → AreOwn xs
      by_cases (Ok x) (Ok ys) xs f g e = let p : x ∷ ys ≡ xs = cc in subst AreOwn p (f x refl, g ys refl)
      by_cases (Ok x) (Err e) xs f g p = absurd (cc)
      by_cases (Err e) n xs f g p = absurd (cc)

  counted_of : (rs : List (List Row)) (m : Result (List (Stored s)) Refusal) (es : List (Entity s)) → each_ok (stored s) rs ≡ m → then_of m (λ xs. Ok (counted xs)) ≡ Ok es → Rise es
  counted_of rs (Ok xs) es p e = let q : counted xs ≡ es = cc in subst Rise q (counted_rise xs (own_all rs xs p))
  counted_of rs (Err f) es p e = absurd (cc)

  text_rises : (m : Result (List Block) ReadFault) (es : List (Entity s)) → then_of (with_err Text m) (entities_in s) ≡ Ok es → Rise es
  text_rises (Ok bs) es e = counted_of _ _ es refl e
  text_rises (Err f) es e = absurd (cc)

  part_rises : (text : List ℕ) (es : List (Entity s)) → part_in s text ≡ Ok es → Rise es
  unfolding part_in
  part_rises text es e = text_rises (read_text text) es e

  -- ---- all parts

  reply_rises : (g : GroupId) (r : Reply) (es : List (Entity s)) → part_of s g r ≡ Ok es → Rise es
  reply_rises g Broke es e = absurd (cc)
  reply_rises g NoFile es e = absurd (cc)
  reply_rises g (Gave text) es e = by_cause (part_in s text) refl e
    where
      by_cause : (m : Result (List (Entity s)) Refusal) → part_in s text ≡ m → with_err (fault_at g) m ≡ Ok es → Rise es
      by_cause (Ok fs) p e = part_rises text es (p ∙ (let q : fs ≡ es = cc in ap Ok q))
      by_cause (Err f) p e = absurd (cc)

  abbrev AllRise : List (Part s) → Type 0
  AllRise ps = AllByRecursion (λ (p : Part s). Rise p.entities) ps

  all_rise : (gs : List (Group s)) (rs : List Reply) (ps : List (Part s)) → parts_of s gs rs ≡ Ok ps → AllRise ps
  all_rise [] rs ps e = let p : [] ≡ ps = cc in subst AllRise p tt
  all_rise (g ∷ gs) [] ps e = let p : [] ≡ ps = cc in subst AllRise p tt
  all_rise (g ∷ gs) (r ∷ rs) ps e = by_cases (part_of s g.id r) (parts_of s gs rs) (λ es h. reply_rises g.id r es h) (λ qs h. all_rise gs rs qs h) e
    where
      by_cases : (m : Result (List (Entity s)) PartFault) (n : Result (List (Part s)) PartFault) → ((es : List (Entity s)) → m ≡ Ok es → Rise es) → ((qs : List (Part s)) → n ≡ Ok qs → AllRise qs) →
          then_of m (λ es. then_of n (λ qs. Ok (record { group = g.id; entities = es } ∷ qs))) ≡ Ok ps → AllRise ps
      by_cases (Ok es) (Ok qs) f h e = let p : record { group = g.id; entities = es } ∷ qs ≡ ps = cc in subst AllRise p (f es refl, h qs refl)
      by_cases (Ok es) (Err k) f h e = absurd (cc)
      by_cases (Err k) n f h e = absurd (cc)

  parts_rise : (gs : List (Group s)) (rs : List Reply) (ps : List (Part s)) → parts_of s gs rs ≡ Ok ps → All (λ (p : Part s). Rise p.entities) ps
  parts_rise gs rs ps e = All-from_recursion (λ (p : Part s). Rise p.entities) ps (all_rise gs rs ps e)

  found_rise : (g : GroupId) (ps : List (Part s)) → AllRise ps → Rise (entities_of g ps)
  found_rise g [] h = nothing_rises
  found_rise g (p ∷ ps) h = by_test (g.0 == p.group.0) (found_rise g ps h.1)
    where
      by_test : (t : Bool) → Rise (entities_of g ps) → Rise (if t then p.entities else entities_of g ps)
      by_test true more = h.0
      by_test false more = more

  pub reads_rise : (told : Option Files) (A : Type 0) (gs : List (Group s)) (ps : List (Part s)) → Reads s told A gs (Ok ps) → All (λ (p : Part s). Rise p.entities) ps
  reads_rise told A gs ps reads = parts_rise gs reads.replies ps reads.answer

  pub entities_rise : (g : GroupId) (ps : List (Part s)) → All (λ (p : Part s). Rise p.entities) ps → Rise (entities_of g ps)
  entities_rise g ps h = found_rise g ps (recursion_from_All (λ (p : Part s). Rise p.entities) ps h)
