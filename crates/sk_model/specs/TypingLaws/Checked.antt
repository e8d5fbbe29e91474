-- What typing leaves, link by link of each chain.
use Rattle.std.proofs.Common.{◌≡◌, ◌≢◌, inl, inr, ℕ, ◌≤◌, List, [], ◌∷◌, ◌++◌, length, map, Bool, true, false, nat_eq, nat_lt, Option, Some, None, Result, Ok, Err, refl, subst, sym, ap, ◌∙◌, arith}
use Rattle.std.specs.Prelude.{◌==◌, ◌||◌, ◌&&◌, ◌*◌, ◌^◌, not, ℤ, pos, negsuc, nat_le, unsigned_abs}
use Rattle.std.specs.Option.{option_map, option_or}
use Rattle.std.specs.List.{All, AllByRecursion, IsDistinct, list_any}
use Rattle.std.proofs.lemmas.Bool.{cases_Bool, ltb-false, leb-true, eqb-true, eq-eqb}
use Rattle.std.proofs.lemmas.Bool.Decides.{nat_tests}
use Rattle.std.proofs.lemmas.List.{map-append}
use Rattle.std.proofs.lemmas.List.Elements.{All-nil, All-cons, All-from_recursion}
use Rattle.sk_num.specs.Limit.{IsInLimit}
use Rattle.sk_types.specs.declared.handle.EntityId.{EntityId}
use Rattle.sk_types.specs.declared.constraint.Constraint.{Constraint}
use Rattle.sk_types.specs.declared.group.Group.{Group}
use Rattle.sk_types.specs.declared.group.GroupKind.{GroupKind}
use Rattle.sk_types.specs.declared.group.GroupKind.TheVariants.{Space, Plane, Extrude, Translate, Linked}
use Rattle.sk_types.specs.declared.group.RemapEntry.{RemapEntry}
use Rattle.sk_types.specs.declared.entity.ParamValue.{ParamValue}
use Rattle.sk_types.specs.declared.request.Request.{Request}
use Rattle.sk_types.specs.declared.constraint_kind.TheConstants as constraint_kind
use Rattle.sk_types.specs.declared.request_kind.TheConstants as request_kind
use Rattle.sk_types.specs.declared.standing.Standing.{Standing}
use Rattle.sk_types.specs.declared.standing.Standing.TheVariants as standing
use Rattle.sk_types.specs.Standings.{request_standing, constraint_standing}
use Rattle.sk_types.specs.Lookups.{value_handle}
use Rattle.sk_records.specs.Rows.{Row, last_value, last_number}
use Rattle.sk_records.specs.MapRows.{EntryLine, entry_lines}
use Rattle.sk_records.specs.Blocks.{Block, records}
use Rattle.sk_records.specs.declared.kinds.Kind.TheVariants as kind
use Rattle.sk_num.specs.declared.fault.NumFault.{NumFault}
use Rattle.sk_num.specs.Spelling.{handle_of, quantity_of, whole_of}
use Rattle.sk_model.specs.declared.faults.ModelFault.{ModelFault}
use Rattle.sk_model.specs.declared.faults.ModelFault.TheVariants.{NoSuch, TooMany, BadValue, DuplicateHandle}
use Rattle.sk_model.specs.declared.faults.Reason.{Reason}
use Rattle.sk_model.specs.declared.faults.What.TheVariants as what
use Rattle.sk_model.specs.declared.group_keys.GroupKeys.{GroupKeys}
use Rattle.sk_model.specs.declared.remap.EntryNumbers.{EntryNumbers}
use Rattle.sk_model.specs.declared.keys.Key.{Key}
use Rattle.sk_model.specs.declared.keys.Key.TheVariants as key
use Rattle.sk_model.specs.Keys.{key_bytes}
use Rattle.sk_model.specs.Chain.{by_standing, is_out_of, seen_in, all_of}
use Rattle.sk_model.specs.Fields.{read_at, value_as, handle_under, whole_under, quantity_under, flag_under, is_number}
use Rattle.sk_model.specs.Groups.{group_of, group_keys, accepted_kind, copies_of, few_copies, whole_part, part_of, part_name}
use Rattle.sk_model.specs.Remap.{entry_numbers, all_numbers, remap_of, entry_over, remap_entry, is_in_range, is_within, numbers_in, first_word, after_word}
use Rattle.sk_types.specs.Copies.{copies_in, copied, same_copy}
use Rattle.sk_model.specs.Params.{param_of}
use Rattle.sk_model.specs.Requests.{most_extra, is_extra, request_of}
use Rattle.sk_model.specs.Constraints.{constraint_of, has_bad_value}
use Rattle.sk_model.specs.Typed.{Typed, typed, group_handle, request_handle, constraint_handle, whole_fault, fault_if, is_first_group, missing_of, stray_request, stray_constraint}
use Rattle.sk_model.specs.Changes.{numbers_of}
use Rattle.sk_model.specs.Settable.{IsSettable, IsRemapList, HasSources}
use Rattle.sk_model.specs.Checked.{IsHandle, IsCheckedEntry, IsCheckedList, IsCheckedGroup, IsCheckedRequest, IsCheckedConstraint, AreChecked}
use Rattle.sk_model.specs.TypingLaws.Chains.{then_parts, refused_passed, ok_inj}
use Rattle.sk_model.specs.TypingLaws.TypedParts.{parts_of}
use Rattle.sk_num.specs.SpellingLaws.{quantity-fits, handle-fits}

standing_passed : {T : Type 0} (st : Standing) (why : Reason) (id : ℕ) (n : ℤ) (r : Result T ModelFault) (y : T) → by_standing st why id n r ≡ Ok y → (st ≡ standing.Accepted) × (r ≡ Ok y)
standing_passed standing.Accepted why id n r y e = (refl, e)
standing_passed standing.LeftOut why id n r y e = cc
standing_passed standing.Unknown why id n r y e = cc

-- ---- a list of things, each new among those before it

either_false : (a b : Bool) → (a || b) ≡ false → (a ≡ false) × (b ≡ false)
either_false true b e = cc
either_false false b e = (refl, e)

eq_flips : (n m : ℕ) → nat_eq n m ≡ false → nat_eq m n ≡ false
eq_flips n m e = grind (arith, e)

-- what is kept of earlier things has keys, of which none is that of a later thing
module _ {R T X K : Type 0} (kept : T → X) (one : List X → R → Result T ModelFault) (key : T → K) (keys : List X → List K) (same : K → K → Bool) (P : T → Type 0)
    (grows : (seen : List X) (x : T) → keys (seen ++ kept x ∷ []) ≡ keys seen ++ key x ∷ []) (flips : (a b : K) → same a b ≡ false → same b a ≡ false)
    (gives : (seen : List X) (r : R) (x : T) → one seen r ≡ Ok x → (list_any (same (key x)) (keys seen) ≡ false) × P x) where
  abbrev IsNewAmong : List K → K → Type 0
  IsNewAmong ks k = list_any (same k) ks ≡ false

  abbrev AreNew : List X → List T → Type 0
  AreNew seen xs = AllByRecursion P xs × IsDistinct same (map key xs) × AllByRecursion (IsNewAmong (keys seen)) (map key xs)

  new_onto : (k m : K) (ks : List K) → IsNewAmong (ks ++ m ∷ []) k → IsNewAmong ks k × (same k m ≡ false)
  new_onto k m [] e = (refl, (either_false (same k m) false e).0)
  new_onto k m (n ∷ ns) e =
      let parts = either_false (same k n) (list_any (same k) (ns ++ m ∷ [])) e in
      let rest = new_onto k m ns parts.1 in
      (rw (parts.0, rest.0) refl, rest.1)

  parted : (m : K) (before ks : List K) → AllByRecursion (IsNewAmong (before ++ m ∷ [])) ks → AllByRecursion (λ k. same m k ≡ false) ks × AllByRecursion (IsNewAmong before) ks
  parted m before [] h = (tt, tt)
  parted m before (k ∷ ks) h =
      let parts = new_onto k m before h.0 in
      let rest = parted m before ks h.1 in
      ((flips k m parts.1, rest.0), (parts.0, rest.1))

  all_new : (seen : List X) (rs : List R) (xs : List T) → all_of kept one seen rs ≡ Ok xs → AreNew seen xs
  unfolding IsDistinct
  all_new seen [] xs e = subst (AreNew seen) (ok_inj e) (tt, tt, tt)
  all_new seen (r ∷ rs) xs e =
      then_parts (one seen r) _ xs e (λ x ex e1.
      then_parts (all_of kept one (seen ++ kept x ∷ []) rs) _ xs e1 (λ ys eys e2.
      (let known = gives seen r x ex in
      let more = all_new (seen ++ kept x ∷ []) rs ys eys in
      let parts = parted (key x) (keys seen) (map key ys) (subst (λ (l : List K). AllByRecursion (IsNewAmong l) (map key ys)) (grows seen x) more.2) in
      subst (AreNew seen) (ok_inj e2) ((known.1, more.0), (parts.0, more.1), (known.0, parts.1)))))

  pub all_apart : (seen : List X) (rs : List R) (xs : List T) → all_of kept one seen rs ≡ Ok xs → All P xs × IsDistinct same (map key xs)
  all_apart seen rs xs e = let new = all_new seen rs xs e in (All-from_recursion P xs new.0, new.1)

-- things of a kind, each new among those before it
pub all_checked : {R T : Type 0} (handle : T → ℕ) (one : List ℕ → R → Result T ModelFault) (P : T → Type 0) → ((seen : List ℕ) (r : R) (x : T) → one seen r ≡ Ok x → (seen_in (handle x) seen ≡ false) × P x) →
    (rs : List R) (xs : List T) → all_of handle one [] rs ≡ Ok xs → All P xs × IsDistinct nat_eq (map handle xs)
all_checked handle one P gives rs xs e = all_apart handle one handle (λ (l : List ℕ). l) nat_eq P (λ seen x. refl) eq_flips gives [] rs xs e

-- ---- numbers in range

in_range : (most id : ℕ) → is_out_of most id ≡ false → (1 ≤ id) × (id ≤ most)
in_range most id e = let parts = either_false (id == 0) (nat_lt most id) e in (grind (arith, nat_tests, parts.0), grind (arith, nat_tests, parts.1))

some_of : (id : ℕ) → (id == 0) ≡ false → id ≢ 0
some_of id e f = let t : nat_eq id 0 ≡ true = eq-eqb id 0 f in absurd cc

request_accepted : (z : ℤ) → request_standing z ≡ standing.Accepted → request_standing (pos (unsigned_abs z)) ≡ standing.Accepted
unfolding request_standing
request_accepted (pos n) e = e
request_accepted (negsuc n) e = cc

constraint_accepted : (z : ℤ) → constraint_standing z ≡ standing.Accepted → constraint_standing (pos (unsigned_abs z)) ≡ standing.Accepted
unfolding constraint_standing
constraint_accepted (pos n) e = e
constraint_accepted (negsuc n) e = cc

-- ---- what is read under a key

read_at-ok : {T : Type 0} (line : Option ℕ) (r : Result T NumFault) (z : T) → read_at line r ≡ Ok z → r ≡ Ok z
read_at-ok line (Ok x) z h = cc
read_at-ok line (Err e) z h = cc

handle_as : (line : Option ℕ) (o : Option (List ℕ)) (h : ℕ) → value_as handle_of 0 line o ≡ Ok h → IsHandle h
handle_as line None h e = let same : 0 ≡ h = ok_inj e in subst IsHandle same (omega arith)
handle_as line (Some t) h e = handle-fits t h (read_at-ok line (handle_of t) h e)

handle_read : (k : Key) (rows : List Row) (h : ℕ) → handle_under k rows ≡ Ok h → IsHandle h
unfolding handle_under
handle_read k rows h e = handle_as (last_number (key_bytes k) rows) (last_value (key_bytes k) rows) h e

quantity_as : (s : ℕ) (line : Option ℕ) (o : Option (List ℕ)) (z : ℤ) → value_as (quantity_of s) (pos 0) line o ≡ Ok z → IsInLimit z
quantity_as s line None z e = let same : pos 0 ≡ z = ok_inj e in subst IsInLimit same (omega arith)
quantity_as s line (Some t) z e = quantity-fits s t z (read_at-ok line (quantity_of s t) z e)

quantity_read : (s : ℕ) (k : Key) (rows : List Row) (z : ℤ) → quantity_under s (pos 0) k rows ≡ Ok z → IsInLimit z
unfolding quantity_under
quantity_read s k rows z e = quantity_as s (last_number (key_bytes k) rows) (last_value (key_bytes k) rows) z e

-- ---- remap lists

positive : (least most : ℕ) (z : ℤ) → is_within (pos least) (pos most) z ≡ true → pos (unsigned_abs z) ≡ z
positive least most (pos n) e = refl
positive least most (negsuc n) e = cc

both_true : (a b : Bool) → (a && b) ≡ true → (a ≡ true) × (b ≡ true)
both_true true b e = (refl, e)
both_true false b e = cc

within_bounds : (least most : ℕ) (z : ℤ) → is_within (pos least) (pos most) z ≡ true → (least ≤ unsigned_abs z) × (unsigned_abs z ≤ most)
within_bounds least most (pos n) e = let parts = both_true (nat_le least n) (nat_le n most) e in (leb-true least n parts.0, leb-true n most parts.1)
within_bounds least most (negsuc n) e = cc

not_false : (t : Bool) → not t ≡ false → t ≡ true
not_false true e = refl
not_false false e = cc

back : (e : EntryNumbers) → is_in_range e ≡ true → numbers_of (remap_entry e) ≡ e
back e h =
    let parts = both_true (is_within (pos 1) (pos 65535) e.number) (is_within (pos 0) (pos 65535) e.copy) h in
    ap (λ (z : ℤ). record { number = z; source = e.source; copy = pos (unsigned_abs e.copy) }) (positive 1 65535 e.number parts.0)
    ∙ ap (λ (z : ℤ). record { number = e.number; source = e.source; copy = z }) (positive 0 65535 e.copy parts.1)

one_back : (id : ℕ) (numbers : List ℕ) (copies : List (ℕ × ℕ)) (e : EntryNumbers) (x : RemapEntry) → entry_over id numbers copies e ≡ Ok x → (numbers_of x ≡ e) × (x.source.0 ≡ e.source)
unfolding entry_over
one_back id numbers copies e x h =
    let a = refused_passed (not (is_in_range e)) (BadValue id) _ x h in
    let b = refused_passed (seen_in (remap_entry e).number numbers) (BadValue id) _ x a.1 in
    let c = refused_passed (list_any (same_copy (copied (remap_entry e))) copies) (BadValue id) _ x b.1 in
    let is : remap_entry e ≡ x = ok_inj c.1 in
    (ap numbers_of (sym is) ∙ back e (not_false (is_in_range e) a.0), ap (λ (y : RemapEntry). y.source.0) (sym is))

entries_back : (id : ℕ) (seen : List RemapEntry) (es : List EntryNumbers) (xs : List RemapEntry) → AllByRecursion (λ (e : EntryNumbers). IsHandle e.source) es →
    all_of (λ (e : RemapEntry). e) (λ before e. entry_over id (numbers_in before) (copies_in before) e) seen es ≡ Ok xs → (map numbers_of xs ≡ es) × HasSources xs
entries_back id seen [] xs read h = let same : [] ≡ xs = ok_inj h in subst (λ (l : List RemapEntry). (map numbers_of l ≡ []) × HasSources l) same (refl, All-nil (λ (x : RemapEntry). IsHandle x.source.0))
entries_back id seen (e ∷ es) xs read h =
    then_parts (entry_over id (numbers_in seen) (copies_in seen) e) _ xs h (λ x ex h1.
    then_parts (all_of (λ (e : RemapEntry). e) (λ before e. entry_over id (numbers_in before) (copies_in before) e) (seen ++ x ∷ []) es) _ xs h1 (λ ys eys h2.
    (let one = one_back id (numbers_in seen) (copies_in seen) e x ex in
    let more = entries_back id (seen ++ x ∷ []) es ys read.1 eys in
    subst (λ (l : List RemapEntry). (map numbers_of l ≡ e ∷ es) × HasSources l) (ok_inj h2) (
      ap (λ (n : EntryNumbers). n ∷ map numbers_of ys) one.0 ∙ ap (λ (l : List EntryNumbers). e ∷ l) more.0,
      All-cons (λ (x : RemapEntry). IsHandle x.source.0) x ys (subst IsHandle (sym one.1) read.0) more.1,
    ))))

numbers_read : (l : EntryLine) (e : EntryNumbers) → entry_numbers l ≡ Ok e → IsHandle e.source
unfolding entry_numbers
numbers_read l e h =
    then_parts (read_at l.line (whole_of (first_word l.body))) _ e h (λ number en h1.
    then_parts (read_at l.line (handle_of (first_word (after_word l.body)))) _ e h1 (λ source es h2.
    then_parts (read_at l.line (whole_of (first_word (after_word (after_word l.body))))) _ e h2 (λ copy ec h3.
    (let is : record { number = number; source = source; copy = copy } ≡ e = ok_inj h3 in
    subst (λ (x : EntryNumbers). IsHandle x.source) is (handle-fits (first_word (after_word l.body)) source (read_at-ok l.line (handle_of (first_word (after_word l.body))) source es))))))

pub all_read : (ls : List EntryLine) (es : List EntryNumbers) → all_numbers ls ≡ Ok es → AllByRecursion (λ (e : EntryNumbers). IsHandle e.source) es
all_read [] es h = subst (AllByRecursion (λ (e : EntryNumbers). IsHandle e.source)) (ok_inj h) tt
all_read (l ∷ ls) es h =
    then_parts (entry_numbers l) _ es h (λ e ee h1.
    then_parts (all_numbers ls) _ es h1 (λ more em h2.
    subst (AllByRecursion (λ (x : EntryNumbers). IsHandle x.source)) (ok_inj h2) (numbers_read l e ee, all_read ls more em)))

-- an entry is in range, and new by its number and by its copy
entry_new : (id : ℕ) (seen : List RemapEntry) (e : EntryNumbers) (x : RemapEntry) → entry_over id (numbers_in seen) (copies_in seen) e ≡ Ok x →
    (seen_in x.number (numbers_in seen) ≡ false) × (list_any (same_copy (copied x)) (copies_in seen) ≡ false) × IsCheckedEntry x
unfolding entry_over
entry_new id seen e x h =
    let a = refused_passed (not (is_in_range e)) (BadValue id) _ x h in
    let b = refused_passed (seen_in (remap_entry e).number (numbers_in seen)) (BadValue id) _ x a.1 in
    let c = refused_passed (list_any (same_copy (copied (remap_entry e))) (copies_in seen)) (BadValue id) _ x b.1 in
    let parts = both_true (is_within (pos 1) (pos 65535) e.number) (is_within (pos 0) (pos 65535) e.copy) (not_false (is_in_range e) a.0) in
    let number = within_bounds 1 65535 e.number parts.0 in
    let copy = within_bounds 0 65535 e.copy parts.1 in
    subst (λ (y : RemapEntry). (seen_in y.number (numbers_in seen) ≡ false) × (list_any (same_copy (copied y)) (copies_in seen) ≡ false) × IsCheckedEntry y) (ok_inj c.1)
    (b.0, c.0, record { least = number.0; most = number.1; copy = copy.1 })

copy_flips : (a b : ℕ × ℕ) → same_copy a b ≡ false → same_copy b a ≡ false
copy_flips a b e = flipped (nat_eq a.0 b.0) (nat_eq b.0 a.0) (nat_eq a.1 b.1) (nat_eq b.1 a.1) (eq_same a.0 b.0) (eq_same a.1 b.1) e
  where
    eq_same : (n m : ℕ) → nat_eq n m ≡ nat_eq m n
    eq_same n m = elim (cases_Bool (nat_eq n m)) [ inl t ↦ t ∙ sym (eq-eqb m n (sym (eqb-true n m t))) | inr f ↦ f ∙ sym (eq_flips n m f) ]

    flipped : (p q r t : Bool) → p ≡ q → r ≡ t → (p && r) ≡ false → (q && t) ≡ false
    flipped p q r t e f h = rw (← e, ← f) h

list_checked : (id : ℕ) (es : List EntryNumbers) (xs : List RemapEntry) → remap_of id es ≡ Ok xs → IsCheckedList xs
list_checked id es xs h =
    let numbers = all_apart (λ (e : RemapEntry). e) (λ before e. entry_over id (numbers_in before) (copies_in before) e) (λ (e : RemapEntry). e.number) numbers_in nat_eq IsCheckedEntry
    (λ seen x. map-append (λ (e : RemapEntry). e.number) seen (x ∷ [])) eq_flips (λ seen e x ex. (let new = entry_new id seen e x ex in (new.0, new.2))) [] es xs h in
    let copies = all_apart (λ (e : RemapEntry). e) (λ before e. entry_over id (numbers_in before) (copies_in before) e) copied copies_in same_copy IsCheckedEntry
    (λ seen x. map-append copied seen (x ∷ [])) copy_flips (λ seen e x ex. (let new = entry_new id seen e x ex in (new.1, new.2))) [] es xs h in
    record { entries = numbers.0; numbers_differ = numbers.1; copies_differ = copies.1 }

list_back : (id : ℕ) (es : List EntryNumbers) (xs : List RemapEntry) → AllByRecursion (λ (e : EntryNumbers). IsHandle e.source) es → remap_of id es ≡ Ok xs → IsRemapList id xs × HasSources xs
list_back id es xs read h = let parts = entries_back id [] es xs read h in (ap (remap_of id) parts.0 ∙ h, parts.1)

-- ---- groups

few_passed : (id n c : ℕ) → few_copies id n ≡ Ok c → c ≤ 999
few_passed id n c e =
    let parts = refused_passed (is_out_of 999 n) (BadValue id) (Ok n) c e in
    subst (λ (k : ℕ). k ≤ 999) (ok_inj parts.1) (in_range 999 n parts.0).1

copies_passed : (s id : ℕ) (k : GroupKind) (z : ℤ) (c : ℕ) → copies_of s id k z ≡ Ok c → c ≤ 999
copies_passed s id Space z c e = subst (λ (k : ℕ). k ≤ 999) (ok_inj e) (omega arith)
copies_passed s id Plane z c e = subst (λ (k : ℕ). k ≤ 999) (ok_inj e) (omega arith)
copies_passed s id Extrude z c e = subst (λ (k : ℕ). k ≤ 999) (ok_inj e) (omega arith)
copies_passed s id Translate z c e = few_passed id (whole_part s z) c e
copies_passed s id Linked z c e = subst (λ (k : ℕ). k ≤ 999) (ok_inj e) (omega arith)

pub record HasHandles {s : ℕ} (k : GroupKeys s) : Type 0 where
  pub active : IsHandle k.active
  pub source : IsHandle k.source
  pub origin : IsHandle k.origin
  pub entity_b : IsHandle k.entity_b
  pub entity_c : IsHandle k.entity_c

keys_read : (s : ℕ) (rows : List Row) (k : GroupKeys s) → group_keys s rows ≡ Ok k → HasHandles k
unfolding group_keys
keys_read s rows k e =
    then_parts (handle_under key.GroupHandle rows) _ k e (λ id eid e.
    then_parts (whole_under key.GroupType rows) _ k e (λ n en e.
    then_parts (whole_under key.GroupOrder rows) _ k e (λ order eorder e.
    then_parts (handle_under key.GroupActive rows) _ k e (λ active eactive e.
    then_parts (handle_under key.GroupSource rows) _ k e (λ source esource e.
    then_parts (quantity_under s (pos 0) key.GroupValue rows) _ k e (λ value evalue e.
    then_parts (whole_under key.GroupSubtype rows) _ k e (λ subtype esubtype e.
    then_parts (flag_under key.GroupSkipFirst rows) _ k e (λ skip eskip e.
    then_parts (quantity_under s (pos 0) key.GroupW rows) _ k e (λ w ew e.
    then_parts (quantity_under s (pos 0) key.GroupX rows) _ k e (λ x ex e.
    then_parts (quantity_under s (pos 0) key.GroupY rows) _ k e (λ y ey e.
    then_parts (quantity_under s (pos 0) key.GroupZ rows) _ k e (λ z ez e.
    then_parts (handle_under key.GroupOrigin rows) _ k e (λ origin eorigin e.
    then_parts (handle_under key.GroupEntityB rows) _ k e (λ b eb e.
    then_parts (handle_under key.GroupEntityC rows) _ k e (λ c ec e.
    then_parts (flag_under key.GroupSwapUv rows) _ k e (λ swap eswap e.
    then_parts (flag_under key.GroupNegateU rows) _ k e (λ u eu e.
    then_parts (flag_under key.GroupNegateV rows) _ k e (λ v ev e.
    then_parts (flag_under key.GroupRelaxed rows) _ k e (λ relaxed erelaxed e.
    then_parts (flag_under key.GroupAllReference rows) _ k e (λ all eall e.
    then_parts (quantity_under s _ key.GroupScale rows) _ k e (λ scale escale e.
    subst HasHandles (ok_inj e) (record {
      active = handle_read key.GroupActive rows active eactive;
      source = handle_read key.GroupSource rows source esource;
      origin = handle_read key.GroupOrigin rows origin eorigin;
      entity_b = handle_read key.GroupEntityB rows b eb;
      entity_c = handle_read key.GroupEntityC rows c ec;
    }))))))))))))))))))))))

group_checked : (s : ℕ) (seen : List ℕ) (rows : List Row) (g : Group s) → group_of s seen rows ≡ Ok g → (seen_in (group_handle g) seen ≡ false) × IsCheckedGroup g
unfolding group_of accepted_kind
group_checked s seen rows g e =
    then_parts (group_keys s rows) _ g e (λ k ek e.
    then_parts (all_numbers (entry_lines rows)) _ g e (λ numbers en e.
    then_parts (accepted_kind seen k) _ g e (λ kind ekind e.
    then_parts (copies_of s k.id kind k.value) _ g e (λ copies ecopies e.
    then_parts (remap_of k.id numbers) _ g e (λ remap eremap e.
    then_parts (part_of k.id kind (part_name rows)) _ g e (λ part epart e.
    (let range = refused_passed (is_out_of 32767 k.id) (BadValue k.id) _ kind ekind in
    let new = refused_passed (seen_in k.id seen) (DuplicateHandle k.id) _ kind range.1 in
    let bounds = in_range 32767 k.id range.0 in
    let list = list_back k.id numbers remap (all_read (entry_lines rows) numbers en) eremap in
    let handles = keys_read s rows k ek in
    subst (λ (h : Group s). (seen_in (group_handle h) seen ≡ false) × IsCheckedGroup h) (ok_inj e) (
      new.0,
      record {
        least = bounds.0;
        most = bounds.1;
        copies = copies_passed s k.id kind k.value copies ecopies;
        list = list.0;
        entries = list_checked k.id numbers remap eremap;
        sources = list.1;
        active = handles.active;
        source = handles.source;
        origin = handles.origin;
        entity_b = handles.entity_b;
        entity_c = handles.entity_c;
      },
    ))))))))

-- ---- parameters, requests, constraints

param_checked : (s : ℕ) (seen : List ℕ) (rows : List Row) (p : ParamValue s) → param_of s seen rows ≡ Ok p → (seen_in (value_handle p) seen ≡ false) × IsSettable p
unfolding param_of
param_checked s seen rows p e =
    then_parts (handle_under key.ParamHandle rows) _ p e (λ id eid e.
    then_parts (quantity_under s (pos 0) key.ParamValue rows) _ p e (λ value evalue e.
    (let some = refused_passed (id == 0) (BadValue id) _ p e in
    let new = refused_passed (seen_in id seen) (DuplicateHandle id) _ p some.1 in
    subst (λ (q : ParamValue s). (seen_in (value_handle q) seen ≡ false) × IsSettable q) (ok_inj new.1)
    (new.0, record { some = some_of id some.0; handle = handle_read key.ParamHandle rows id eid; value = quantity_read s key.ParamValue rows value evalue }))))

extra_passed : (z : ℤ) → is_extra z ≡ true → unsigned_abs z ≤ most_extra
extra_passed (pos n) e = leb-true n most_extra e
extra_passed (negsuc n) e = cc

request_checked : (seen : List ℕ) (rows : List Row) (r : Request) → request_of seen rows ≡ Ok r → (seen_in (request_handle r) seen ≡ false) × IsCheckedRequest r
unfolding request_of
request_checked seen rows r e =
    then_parts (handle_under key.RequestHandle rows) _ r e (λ id eid e.
    then_parts (whole_under key.RequestType rows) _ r e (λ kind ekind e.
    then_parts (handle_under key.RequestWorkplane rows) _ r e (λ workplane eworkplane e.
    then_parts (handle_under key.RequestGroup rows) _ r e (λ group egroup e.
    then_parts (flag_under key.RequestConstruction rows) _ r e (λ construction econstruction e.
    then_parts (whole_under key.RequestExtraPoints rows) _ r e (λ extra eextra e.
    (let range = refused_passed (is_out_of 32767 id) (BadValue id) _ r e in
    let new = refused_passed (seen_in id seen) (DuplicateHandle id) _ r range.1 in
    let accepted = standing_passed (request_standing kind) _ id kind _ r new.1 in
    let arc = refused_passed (is_number request_kind.ARC kind && workplane == 0) _ _ r accepted.1 in
    let plane = refused_passed (is_number request_kind.WORKPLANE kind && not (workplane == 0)) _ _ r arc.1 in
    let points = refused_passed (not (is_extra extra)) _ _ r plane.1 in
    let bounds = in_range 32767 id range.0 in
    subst (λ (q : Request). (seen_in (request_handle q) seen ≡ false) × IsCheckedRequest q) (ok_inj points.1) (
      new.0,
      record {
        least = bounds.0;
        most = bounds.1;
        accepted = request_accepted kind accepted.0;
        group = handle_read key.RequestGroup rows group egroup;
        workplane = handle_read key.RequestWorkplane rows workplane eworkplane;
        extra = extra_passed extra (not_false (is_extra extra) points.0);
      },
    ))))))))

abbrev HasHandle : EntityId → Type 0
HasHandle e = IsHandle e.0

both_handles : (p q : ℕ) → IsHandle p → IsHandle q → All HasHandle (record { 0 = p } ∷ record { 0 = q } ∷ [])
both_handles p q hp hq = All-cons HasHandle (record { 0 = p }) (record { 0 = q } ∷ []) hp (All-cons HasHandle (record { 0 = q }) [] hq (All-nil HasHandle))

four_handles : (a b c d : ℕ) → IsHandle a → IsHandle b → IsHandle c → IsHandle d → All HasHandle (record { 0 = a } ∷ record { 0 = b } ∷ record { 0 = c } ∷ record { 0 = d } ∷ [])
four_handles a b c d ha hb hc hd =
    All-cons HasHandle (record { 0 = a }) (record { 0 = b } ∷ record { 0 = c } ∷ record { 0 = d } ∷ []) ha (All-cons HasHandle (record { 0 = b }) (record { 0 = c } ∷ record { 0 = d } ∷ []) hb (both_handles c d hc hd))

turned : (s n : ℕ) (value : ℤ) (workplane : ℕ) → has_bad_value s n value workplane ≡ false → n ≡ constraint_kind.ANGLE → unsigned_abs value ≤ 360 * 2 ^ s
unfolding has_bad_value
turned s n value workplane e k = let passed : nat_lt (360 * 2 ^ s) (unsigned_abs value) ≡ false = rw k at e in ltb-false (360 * 2 ^ s) (unsigned_abs value) passed

constraint_checked : (s : ℕ) (seen : List ℕ) (rows : List Row) (c : Constraint s) → constraint_of s seen rows ≡ Ok c → (seen_in (constraint_handle c) seen ≡ false) × IsCheckedConstraint c
unfolding constraint_of
constraint_checked s seen rows c e =
    then_parts (handle_under key.ConstraintHandle rows) _ c e (λ id eid e.
    then_parts (whole_under key.ConstraintType rows) _ c e (λ kind ekind e.
    then_parts (handle_under key.ConstraintGroup rows) _ c e (λ group egroup e.
    then_parts (handle_under key.ConstraintWorkplane rows) _ c e (λ workplane eworkplane e.
    then_parts (quantity_under s (pos 0) key.ConstraintValue rows) _ c e (λ value evalue e.
    then_parts (handle_under key.ConstraintPointA rows) _ c e (λ p ep e.
    then_parts (handle_under key.ConstraintPointB rows) _ c e (λ q eq e.
    then_parts (handle_under key.ConstraintEntityA rows) _ c e (λ a ea e.
    then_parts (handle_under key.ConstraintEntityB rows) _ c e (λ b eb e.
    then_parts (handle_under key.ConstraintEntityC rows) _ c e (λ third ethird e.
    then_parts (handle_under key.ConstraintEntityD rows) _ c e (λ fourth efourth e.
    then_parts (flag_under key.ConstraintOther rows) _ c e (λ other eother e.
    then_parts (flag_under key.ConstraintOther2 rows) _ c e (λ other2 eother2 e.
    then_parts (flag_under key.ConstraintReference rows) _ c e (λ reference ereference e.
    (let range = refused_passed (is_out_of 65535 id) (BadValue id) _ c e in
    let new = refused_passed (seen_in id seen) (DuplicateHandle id) _ c range.1 in
    let accepted = standing_passed (constraint_standing kind) _ id kind _ c new.1 in
    let fits = refused_passed (has_bad_value s (unsigned_abs kind) value workplane) (BadValue id) _ c accepted.1 in
    let bounds = in_range 65535 id range.0 in
    subst (λ (d : Constraint s). (seen_in (constraint_handle d) seen ≡ false) × IsCheckedConstraint d) (ok_inj fits.1) (
      new.0,
      record {
        least = bounds.0;
        most = bounds.1;
        accepted = constraint_accepted kind accepted.0;
        value = quantity_read s key.ConstraintValue rows value evalue;
        in_turn = turned s (unsigned_abs kind) value workplane fits.0;
        group = handle_read key.ConstraintGroup rows group egroup;
        workplane = handle_read key.ConstraintWorkplane rows workplane eworkplane;
        points = both_handles p q (handle_read key.ConstraintPointA rows p ep) (handle_read key.ConstraintPointB rows q eq);
        entities = four_handles a b third fourth (handle_read key.ConstraintEntityA rows a ea) (handle_read key.ConstraintEntityB rows b eb) (handle_read key.ConstraintEntityC rows third ethird) (handle_read key.ConstraintEntityD rows fourth efourth);
      },
    ))))))))))))))))

-- ---- all together

or_none : {T : Type 0} (a b : Option T) → option_or a b ≡ None → (a ≡ None) × (b ≡ None)
or_none None b e = (refl, e)
or_none (Some x) b e = cc

no_fault : (t : Bool) (f : ModelFault) → fault_if t f ≡ None → t ≡ false
no_fault true f e = cc
no_fault false f e = refl

few_groups : (s : ℕ) (groups : List (Group s)) (requests : List Request) (constraints : List (Constraint s)) → whole_fault s groups requests constraints ≡ None → length groups ≤ 1000
unfolding whole_fault
few_groups s groups requests constraints e =
    let second = or_none (fault_if (not (list_any is_first_group groups)) (NoSuch 1 1)) _ e in
    let third = or_none (option_map (NoSuch 1) (missing_of (1 ∷ 2 ∷ 3 ∷ []) requests)) _ second.1 in
    let fourth = or_none (stray_request requests) _ third.1 in
    let fifth = or_none (stray_constraint constraints) _ fourth.1 in
    let sixth = or_none (fault_if (nat_lt 1000 (length groups)) (TooMany what.Groups)) _ fifth.1 in
    ltb-false 1000 (length groups) (no_fault (nat_lt 1000 (length groups)) (TooMany what.Groups) sixth.0)

pub typed_checked : (s : ℕ) (bs : List Block) (l : Typed s) → typed s bs ≡ Ok l → AreChecked l
typed_checked s bs l e =
    let is = parts_of s bs l e in
    let groups = all_checked group_handle (group_of s) IsCheckedGroup (group_checked s) (records kind.Group bs) l.groups is.groups in
    let params = all_checked value_handle (param_of s) IsSettable (param_checked s) (records kind.Param bs) l.params is.params in
    let requests = all_checked request_handle request_of IsCheckedRequest request_checked (records kind.Request bs) l.requests is.requests in
    let constraints = all_checked constraint_handle (constraint_of s) IsCheckedConstraint (constraint_checked s) (records kind.Constraint bs) l.constraints is.constraints in
    record {
      few = few_groups s l.groups l.requests l.constraints is.sound;
      groups = groups.0;
      groups_differ = groups.1;
      params = params.0;
      params_differ = params.1;
      requests = requests.0;
      requests_differ = requests.1;
      constraints = constraints.0;
      constraints_differ = constraints.1;
    }
