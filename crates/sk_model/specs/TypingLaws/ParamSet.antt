-- What a model is after a parameter was set.
use Rattle.std.proofs.Common.{◌≡◌, ◌⊎◌, inl, inr, ℕ, List, [], ◌∷◌, ◌++◌, map, Bool, true, false, cond, nat_eq, Option, Some, None, Ok, refl, sym, ap, ◌∙◌, get_or}
use Rattle.std.specs.Prelude.{ℤ, pos, ◌==◌, if◌then◌else◌}
use Rattle.std.specs.List.{position, position_or_len}
use Rattle.std.proofs.lemmas.Bool.{eqb-true, eq-eqb, cases_Bool}
use Rattle.std.specs.Str.{bytes_eq}
use Rattle.std.proofs.lemmas.Bool.Decides.{Decides-int_eq}
use Rattle.sk_text.specs.Keys.{parts_at_equals}
use Rattle.sk_num.specs.Numerals.{padded}
use Rattle.sk_num.specs.Spelling.{handle_of, quantity_of, quantity_text}
use Rattle.sk_types.specs.declared.entity.ParamValue.{ParamValue}
use Rattle.sk_types.specs.Lookups.{value_handle, value_of}
use Rattle.sk_records.specs.declared.kinds.Kind.{Kind}
use Rattle.sk_records.specs.declared.kinds.Kind.TheVariants as kind
use Rattle.sk_records.specs.Kinds.{same_kind}
use Rattle.sk_records.specs.Rows.{Row, last_value, value_in, with_value}
use Rattle.sk_records.specs.Blocks.{Block, records, changed_at}
use Rattle.sk_records.specs.Laws.{records_law, values_law, value_row}
use Rattle.sk_model.specs.declared.faults.ModelFault.TheVariants.{BadValue, DuplicateHandle}
use Rattle.sk_model.specs.declared.keys.Key.{Key}
use Rattle.sk_model.specs.declared.keys.Key.TheVariants as key
use Rattle.sk_model.specs.Keys.{key_bytes}
use Rattle.sk_model.specs.Chain.{seen_in}
use Rattle.sk_model.specs.Fields.{handle_under, quantity_under}
use Rattle.sk_model.specs.Params.{param_of}
use Rattle.sk_model.specs.Typed.{Typed, typed, params_of}
use Rattle.sk_model.specs.Changes.{with_first, with_param, param_record, is_value, value_put, param_set}
use Rattle.sk_model.specs.TypingLaws.Chains.{then_parts, refused_passed, ok_inj, read_alike}
use Rattle.sk_model.specs.TypingLaws.ListSteps.{all_set, all_added}
use Rattle.sk_model.specs.TypingLaws.TypedParts.{Parts, parts_of, typed_parts}
use Rattle.sk_model.specs.TypingLaws.Lookups.{place_is, value_found, value_missing}

apart : (q a b : ℕ) → nat_eq q a ≡ true → nat_eq b a ≡ false → nat_eq q b ≡ false
apart q a b h e = elim (cases_Bool (nat_eq q b)) [
  | inl g ↦ (let same : b ≡ a = sym (eqb-true q b g) ∙ eqb-true q a h in let f : nat_eq b a ≡ true = eq-eqb b a same in cc (f, e))
  | inr g ↦ g
]

twice : {T : Type 0} (t : Bool) (x y z : T) → cond t x z ≡ cond t x (cond t y z)
twice true x y z = refl
twice false x y z = refl

-- the law: it has the value, and the others have theirs
pub value_after : {s : ℕ} (id q : ℕ) (v : ℤ) (ps : List (ParamValue s)) → value_of q (with_param id v ps) ≡ (if q == id then Some v else value_of q ps)
value_after id q v [] = refl
value_after id q v (p ∷ ps) = elim (cases_Bool (nat_eq id p.id.0)) [
  | inl e ↦ rw (e, eqb-true id p.id.0 e) (twice (nat_eq q p.id.0) (Some v) (Some p.value) (value_of q ps))
  | inr e ↦ elim (cases_Bool (nat_eq q p.id.0)) [
    | inl h ↦ rw (e, h, apart q p.id.0 id h e) refl
    | inr h ↦ rw (e, h) (value_after id q v ps)
  ]
]

-- ---- the list

-- a parameter that stands is changed in its place
pub stands_first : {s : ℕ} (id : ℕ) (v w : ℤ) (ps : List (ParamValue s)) → value_of id ps ≡ Some w → with_first value_handle id (λ (p : ParamValue s). record p { value = v }) ps ≡ with_param id v ps
stands_first id v w [] e = cc
stands_first id v w (p ∷ ps) e = elim (cases_Bool (nat_eq id p.id.0)) [
  | inl h ↦ rw h refl
  | inr h ↦ rw h (ap (λ l. p ∷ l) (stands_first id v w ps (rw h at e)))
]

-- the value that stands already
pub stands_same : {s : ℕ} (id : ℕ) (v : ℤ) (ps : List (ParamValue s)) → value_of id ps ≡ Some v → with_param id v ps ≡ ps
stands_same id v [] e = cc
stands_same {s} id v (p ∷ ps) e = elim (cases_Bool (nat_eq id p.id.0)) [
  | inl h ↦ (let same : p.value ≡ v = some_inj (rw h at e) in rw h (ap (λ (x : ℤ). record p { value = x } ∷ ps) (sym same)))
  | inr h ↦ rw h (ap (λ l. p ∷ l) (stands_same id v ps (rw h at e)))
]
  where
    some_inj : {x y : ℤ} → Some x ≡ Some y → x ≡ y
    some_inj e = cc

pub new_at_end : {s : ℕ} (id : ℕ) (v : ℤ) (ps : List (ParamValue s)) → value_of id ps ≡ None → with_param id v ps ≡ ps ++ (record { id = record { 0 = id }; value = v } ∷ [])
new_at_end id v [] e = refl
new_at_end id v (p ∷ ps) e = elim (cases_Bool (nat_eq id p.id.0)) [
  | inl h ↦ (let g = rw h at e in cc g)
  | inr h ↦ rw h (ap (λ l. p ∷ l) (new_at_end id v ps (rw h at e)))
]

pub new_unseen : {s : ℕ} (id : ℕ) (ps : List (ParamValue s)) → value_of id ps ≡ None → seen_in id (map value_handle ps) ≡ false
new_unseen id [] e = refl
new_unseen id (p ∷ ps) e = elim (cases_Bool (nat_eq id p.id.0)) [
  | inl h ↦ (let g = rw h at e in cc g)
  | inr h ↦ rw h (new_unseen id ps (rw h at e))
]

-- handles stay
pub handles_same : {s : ℕ} (id : ℕ) (v w : ℤ) (ps : List (ParamValue s)) → value_of id ps ≡ Some w → map value_handle (with_param id v ps) ≡ map value_handle ps
handles_same id v w [] e = cc
handles_same id v w (p ∷ ps) e = elim (cases_Bool (nat_eq id p.id.0)) [
  | inl h ↦ rw h refl
  | inr h ↦ rw h (ap (λ l. p.id.0 ∷ l) (handles_same id v w ps (rw h at e)))
]

-- ---- what is typed

handle_kept : (k : Key) (rows other : List Row) (x : ℕ) → last_value (key_bytes k) other ≡ last_value (key_bytes k) rows → handle_under k rows ≡ Ok x → handle_under k other ≡ Ok x
unfolding handle_under
handle_kept k rows other x same e = read_alike handle_of 0 x (key_bytes k) rows other same e

handle_set : (k : Key) (rows : List Row) (text : List ℕ) (x : ℕ) → last_value (key_bytes k) rows ≡ Some text → handle_of text ≡ Ok x → handle_under k rows ≡ Ok x
unfolding handle_under
handle_set k rows text x e r = rw (e, r) refl

quantity_set : (s : ℕ) (k : Key) (rows : List Row) (text : List ℕ) (x : ℤ) → last_value (key_bytes k) rows ≡ Some text → quantity_of s text ≡ Ok x → quantity_under s (pos 0) k rows ≡ Ok x
unfolding quantity_under
quantity_set s k rows text x e r = rw (e, r) refl

value_keyless : parts_at_equals (key_bytes key.ParamValue) ≡ None
unfolding key_bytes
value_keyless = refl

handle_keyless : parts_at_equals (key_bytes key.ParamHandle) ≡ None
unfolding key_bytes
handle_keyless = refl

keys_differ : bytes_eq (key_bytes key.ParamValue) (key_bytes key.ParamHandle) ≡ false
unfolding key_bytes
keys_differ = refl

keys_differ' : bytes_eq (key_bytes key.ParamHandle) (key_bytes key.ParamValue) ≡ false
unfolding key_bytes
keys_differ' = refl

-- a record whose value is set
param_valued : (s : ℕ) (text : List ℕ) (v : ℤ) → quantity_of s text ≡ Ok v → (seen : List ℕ) (rows : List Row) (p : ParamValue s) → param_of s seen rows ≡ Ok p →
    param_of s seen (with_value (key_bytes key.ParamValue) text rows) ≡ Ok (record p { value = v })
unfolding param_of
param_valued s text v r seen rows p e =
    let other : List Row = with_value (key_bytes key.ParamValue) text rows in
    then_parts (handle_under key.ParamHandle rows) _ p e (λ id eid e1.
    then_parts (quantity_under s (pos 0) key.ParamValue rows) _ p e1 (λ z ez e2.
    (let a = refused_passed (id == 0) (BadValue id) _ p e2 in
    let b = refused_passed (seen_in id seen) (DuplicateHandle id) _ p a.1 in
    let h : handle_under key.ParamHandle other ≡ Ok id = handle_kept key.ParamHandle rows other id (values_law.value_other (key_bytes key.ParamValue) (key_bytes key.ParamHandle) text rows value_keyless keys_differ) eid in
    let q : quantity_under s (pos 0) key.ParamValue other ≡ Ok v = quantity_set s key.ParamValue other text v (values_law.value_set (key_bytes key.ParamValue) text rows value_keyless) r in
    rw (h, q, a.0, b.0) (ap (λ (x : ParamValue s). Ok (record x { value = v })) (ok_inj b.1)))))

-- the other key's line has no value for this one
handle_apart : (text : List ℕ) → value_in (key_bytes key.ParamValue) (value_row (key_bytes key.ParamHandle, text)) ≡ None
handle_apart text = values_law.value_other (key_bytes key.ParamHandle) (key_bytes key.ParamValue) text [] handle_keyless keys_differ'

rows_are : (s id : ℕ) (v : ℤ) → (param_record s id v).rows ≡ with_value (key_bytes key.ParamValue) (quantity_text s v) (with_value (key_bytes key.ParamHandle) (padded 16 8 id) [])
rows_are s id v = rw (handle_apart (padded 16 8 id)) refl

-- a record that is added
param_new : (s id : ℕ) (v : ℤ) (seen : List ℕ) → nat_eq id 0 ≡ false → handle_of (padded 16 8 id) ≡ Ok id → quantity_of s (quantity_text s v) ≡ Ok v → seen_in id seen ≡ false →
    param_of s seen (param_record s id v).rows ≡ Ok (record { id = record { 0 = id }; value = v })
unfolding param_of
param_new s id v seen some h q unseen =
    let first : List Row = with_value (key_bytes key.ParamHandle) (padded 16 8 id) [] in
    let rows : List Row = with_value (key_bytes key.ParamValue) (quantity_text s v) first in
    let eh : handle_under key.ParamHandle rows ≡ Ok id = handle_set key.ParamHandle rows (padded 16 8 id) id
    (values_law.value_other (key_bytes key.ParamValue) (key_bytes key.ParamHandle) (quantity_text s v) first value_keyless keys_differ ∙ values_law.value_set (key_bytes key.ParamHandle) (padded 16 8 id) [] handle_keyless) h in
    let eq : quantity_under s (pos 0) key.ParamValue rows ≡ Ok v = quantity_set s key.ParamValue rows (quantity_text s v) v (values_law.value_set (key_bytes key.ParamValue) (quantity_text s v) first value_keyless) q in
    rw (rows_are s id v) (rw (eh, eq, some, unseen) refl)

-- ---- where it is put

module _ (s id : ℕ) (v : ℤ) (bs : List Block) (l : Typed s) (is : Parts s bs l) (q : quantity_of s (quantity_text s v) ≡ Ok v) where
  abbrev after_put : List Block → Type 0
  after_put cs = typed s cs ≡ Ok (record l { params = with_param id v l.params })

  put_typed : (cs : List Block) → ((j : Kind) → same_kind kind.Param j ≡ false → records j cs ≡ records j bs) → params_of s (records kind.Param cs) ≡ Ok (with_param id v l.params) → after_put cs
  put_typed cs same params = typed_parts s cs (record l { params = with_param id v l.params }) (record {
    groups = rw (same kind.Group refl) is.groups;
    params = params;
    requests = rw (same kind.Request refl) is.requests;
    constraints = rw (same kind.Constraint refl) is.constraints;
    sound = is.sound;
  })

  set_in_place : (i : ℕ) (w : ℤ) → position (nat_eq id) (map value_handle l.params) ≡ Some i → value_of id l.params ≡ Some w → after_put (value_put s id v (Some i) bs)
  set_in_place i w at stands =
      let f : List Row → List Row = with_value (key_bytes key.ParamValue) (quantity_text s v) in
      let place : position_or_len (nat_eq id) (map value_handle l.params) ≡ i = place_is _ _ i at in
      put_typed (value_put s id v (Some i) bs) (λ j apart. records_law.changed_other kind.Param j apart i f bs)
      (ap (params_of s) (records_law.changed_same kind.Param i f bs)
      ∙ ap (λ (k : ℕ). params_of s (changed_at f k (records kind.Param bs))) (sym place)
      ∙ all_set value_handle (param_of s) id f (λ (p : ParamValue s). record p { value = v }) (λ seen r p here e. param_valued s (quantity_text s v) v q seen r p e) (λ p. refl) [] (records kind.Param bs) l.params is.params
      ∙ ap Ok (stands_first id v w l.params stands))

  added_last : value_of id l.params ≡ None → nat_eq id 0 ≡ false → handle_of (padded 16 8 id) ≡ Ok id → after_put (value_put s id v None bs)
  added_last none some h =
      put_typed (value_put s id v None bs) (λ j apart. records_law.added_other kind.Param j apart (param_record s id v ∷ []) bs (refl, tt))
      (ap (params_of s) (records_law.added_same kind.Param (param_record s id v ∷ []) bs (refl, tt))
      ∙ all_added value_handle (param_of s) (param_record s id v).rows (record { id = record { 0 = id }; value = v }) [] (records kind.Param bs) l.params is.params
      (param_new s id v (map value_handle l.params) some h q (new_unseen id l.params none))
      ∙ ap Ok (sym (new_at_end id v l.params none)))

no_value : (s : ℕ) → ParamValue s
no_value s = record { id = record { 0 = 0 }; value = pos 0 }

-- the law: a text in which a parameter is set is typed as the same model with that parameter set
pub set_typed : (s id : ℕ) (v : ℤ) (bs : List Block) (l : Typed s) → typed s bs ≡ Ok l → nat_eq id 0 ≡ false → handle_of (padded 16 8 id) ≡ Ok id → quantity_of s (quantity_text s v) ≡ Ok v →
    typed s (param_set id v l.params bs) ≡ Ok (record l { params = with_param id v l.params })
unfolding param_set
set_typed s id v bs l e some h q = by_value (cases_Bool (is_value v (value_of id l.params)))
  where
    same_value : (o : Option ℤ) → is_value v o ≡ true → o ≡ Some v
    same_value None t = cc
    same_value (Some w) t = ap Some ((Decides-int_eq w v).0 t)

    put : (at : Option ℕ) → position (nat_eq id) (map value_handle l.params) ≡ at → typed s (value_put s id v at bs) ≡ Ok (record l { params = with_param id v l.params })
    put None at = added_last s id v bs l (parts_of s bs l e) q (sym (value_missing id l.params (map value_handle l.params) refl at)) some h
    put (Some i) at = set_in_place s id v bs l (parts_of s bs l e) q i (get_or l.params i (no_value s)).value at (sym (value_found id i (no_value s) l.params (map value_handle l.params) refl at))

    by_value : (is_value v (value_of id l.params) ≡ true) ⊎ (is_value v (value_of id l.params) ≡ false) → typed s (cond (is_value v (value_of id l.params)) bs (value_put s id v (position (nat_eq id) (map value_handle l.params)) bs)) ≡ Ok (record l { params = with_param id v l.params })
    by_value (inl t) = rw (t, stands_same id v l.params (same_value (value_of id l.params) t)) e
    by_value (inr f) = rw f (put (position (nat_eq id) (map value_handle l.params)) refl)
