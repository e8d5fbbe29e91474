-- The last record of a handle counts.
use Rattle.std.proofs.Common.{◌≡◌, inl, inr, ℕ, ◌<◌, List, [], ◌∷◌, Option, Some, None, Ok, refl, sym, ap, ◌∙◌, subst, arith}
use Rattle.std.specs.Prelude.{◌==◌, nat_eq, if◌then◌else◌, Bool, true, false}
use Rattle.std.specs.BTreeMap.{insert_entry}
use Rattle.std.specs.List.Sorted.{IsStrictlySortedBy}
use Rattle.std.specs.Map.{keys_of}
use Rattle.std.specs.Option.{option_or, option_and_then}
use Rattle.std.specs.Ordering.{nat_cmp, match_ordering}
use Rattle.std.specs.declared.cmp.Ordering.{Ordering}
use Rattle.std.specs.declared.cmp.Ordering.TheVariants.{Less, Equal, Greater}
use Rattle.std.proofs.lemmas.Bool.{cases_Bool, eqb-true, ne_eqb}
use Rattle.std.proofs.lemmas.Cmp.{ranked}
use Rattle.sk_types.specs.declared.entity.Entity.{Entity}
use Rattle.sk_types.specs.Lookups.{entity_at}
use Rattle.sk_records.specs.declared.kinds.Kind.TheVariants as kind
use Rattle.sk_records.specs.Blocks.{Block, records}
use Rattle.sk_records.specs.Reading.{read_text}
use Rattle.sk_records.specs.Rows.{Row}
use Rattle.sk_link.specs.declared.stored.Stored.{Stored}
use Rattle.sk_link.specs.Chain.{each_ok}
use Rattle.sk_link.specs.Stored.{stored}
use Rattle.sk_link.specs.Part.{counted, present_in, part_in}
use Rattle.sk_link.specs.PartLaws.{last_stored, LastCountsLaw}
use Rattle.sk_link.proofs.Tried.{Entries, with_stored}
use Rattle.sk_link.proofs.Rising.{Above, nothing_rises, AreUnder, kept_rise, kept_under, own_all}

over : {X : Type 0} (a : Option X) (t : Bool) (v : X) (b : Option X) → option_or a (if t then Some v else b) ≡ option_or (option_or a (if t then Some v else None)) b
over None true v b = refl
over None false v b = refl
over (Some x) t v b = refl

module _ {s : ℕ} (h : ℕ) where
  -- what is kept under the handle
  abbrev kept_at : Entries s → Option (Option (Entity s))
  kept_at [] = None
  kept_at (e ∷ es) = if h == e.0 then Some e.1 else kept_at es

  kept_after : (k : ℕ) (v : Option (Entity s)) (es : Entries s) → kept_at (insert_entry nat_cmp es k v) ≡ (if h == k then Some v else kept_at es)
  kept_after k v [] = refl
  kept_after k v (e ∷ es) = by_order (nat_cmp k e.0) refl (kept_after k v es)
    where
      by_order : (o : Ordering) → nat_cmp k e.0 ≡ o → kept_at (insert_entry nat_cmp es k v) ≡ (if h == k then Some v else kept_at es) →
          kept_at (match_ordering o ((k, v) ∷ e ∷ es) ((e.0, v) ∷ es) (e ∷ insert_entry nat_cmp es k v)) ≡ (if h == k then Some v else kept_at (e ∷ es))
      by_order Less o more = refl
      by_order Equal o more =
          (let same : k ≡ e.0 = ranked k e.0 Equal (sym o) in
          elim (cases_Bool (nat_eq h e.0)) [ inl t ↦ rw (same, t) refl | inr f ↦ rw (same, f) refl ])
      by_order Greater o more =
          (let below : e.0 < k = ranked k e.0 Greater (sym o) in
          elim (cases_Bool (nat_eq h e.0)) [
            | inl t ↦ (let here : h ≡ e.0 = eqb-true h e.0 t in let apart : nat_eq h k ≡ false = ne_eqb h k (λ is. omega (arith, is, here, below)) in rw (t, apart) refl)
            | inr f ↦ rw f more
          ])

  last_kept : (xs : List (Stored s)) (es : Entries s) → kept_at (with_stored es xs) ≡ option_or (last_stored h xs) (kept_at es)
  last_kept [] es = refl
  last_kept (x ∷ xs) es =
      last_kept xs (insert_entry nat_cmp es x.handle x.entity) ∙ ap (λ (k : Option (Option (Entity s))). option_or (last_stored h xs) k) (kept_after x.handle x.entity es)
      ∙ over (last_stored h xs) (h == x.handle) x.entity (kept_at es)

  -- ---- what is there

  none_above : (k : ℕ) (es : Entries s) → h ≡ k → Above k (keys_of es) → kept_at es ≡ None
  none_above k [] here a = refl
  none_above k (e ∷ es) here a =
      let below : k < e.0 = ranked k e.0 Less (sym a.0) in
      let apart : nat_eq h e.0 ≡ false = ne_eqb h e.0 (λ is. omega (arith, is, here, below)) in
      rw apart (none_above k es here a.1)

  abbrev there : Option (Option (Entity s)) → Option (Entity s)
  there o = option_and_then (λ (e : Option (Entity s)). e) o

  found : (es : Entries s) → AreUnder es → IsStrictlySortedBy nat_cmp (keys_of es) → entity_at h (present_in es) ≡ there (kept_at es)
  unfolding IsStrictlySortedBy
  found [] u r = refl
  found ((k, None) ∷ es) u r = elim (cases_Bool (nat_eq h k)) [
    | inl t ↦ rw t (found es u.1 r.1 ∙ ap there (none_above k es (eqb-true h k t) r.0))
    | inr f ↦ rw f (found es u.1 r.1)
  ]
  found ((k, Some e) ∷ es) u r = elim (cases_Bool (nat_eq h k)) [
    | inl t ↦ rw (u.0, t) refl
    | inr f ↦ rw (u.0, f) (found es u.1 r.1)
  ]

  or_none : (o : Option (Option (Entity s))) → option_or o None ≡ o
  or_none None = refl
  or_none (Some x) = refl

  counted_at : (rs : List (List Row)) (xs : List (Stored s)) → each_ok (stored s) rs ≡ Ok xs → entity_at h (counted xs) ≡ there (last_stored h xs)
  counted_at rs xs all =
      found (with_stored [] xs) (kept_under [] xs (own_all rs xs all) tt) (kept_rise [] xs nothing_rises)
      ∙ ap there (last_kept xs [] ∙ or_none (last_stored h xs))

  part_counted : (text : List ℕ) (bs : List Block) (xs : List (Stored s)) (es : List (Entity s)) → read_text text ≡ Ok bs → each_ok (stored s) (records kind.Entity bs) ≡ Ok xs → part_in s text ≡ Ok es → counted xs ≡ es
  unfolding part_in
  part_counted text bs xs es read all part = let is = rw (read, all) at part in cc is

pub last_counts : LastCountsLaw
last_counts s h text bs xs es read all part =
    subst (λ (fs : List (Entity s)). entity_at h fs ≡ option_and_then (λ (e : Option (Entity s)). e) (last_stored h xs)) (part_counted h text bs xs es read all part) (counted_at h (records kind.Entity bs) xs all)
