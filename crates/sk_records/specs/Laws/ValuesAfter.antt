-- What a record's values and lists are after a change.
use Rattle.std.proofs.Common.{◌≡◌, ℕ, List, [], ◌∷◌, refl, ap, cond, true, false, Bool, inl, inr, Option, Some, None, nat_eq}
use Rattle.std.specs.Option.{option_map}
use Rattle.std.specs.Str.{bytes_eq}
use Rattle.std.proofs.lemmas.Slice.Eq.{bytes_eq-Decides}
use Rattle.sk_records.specs.Rows.{Row, Role, Plain, Brace, Entry, value_under, value_at, value_in, last_value, is_known, value_body, with_value}
use Rattle.sk_text.specs.Keys.{parts_at_equals}
use Rattle.sk_records.specs.Laws.MadeAnew.{two}

pub same_bytes : (xs ys : List ℕ) → bytes_eq xs ys ≡ true → xs ≡ ys
same_bytes xs ys e = (bytes_eq-Decides xs ys).0 e

pub bytes_eq_refl : (xs : List ℕ) → bytes_eq xs xs ≡ true
bytes_eq_refl xs = (bytes_eq-Decides xs xs).1 refl

-- a key ends at the first `=`
pub split_body : (key value : List ℕ) → parts_at_equals key ≡ None → parts_at_equals (value_body key value) ≡ Some (key, value)
split_body [] value e = refl
split_body (b ∷ key) value e = split_step (nat_eq b 61) (parts_at_equals key) e (split_body key value)
  where
    split_step : (t : Bool) (o : Option (List ℕ × List ℕ)) → cond {A = Option (List ℕ × List ℕ)} t (Some ([], key)) (option_map (λ (p : List ℕ × List ℕ). (b ∷ p.0, p.1)) o) ≡ None → (o ≡ None → parts_at_equals (value_body key value) ≡ Some (key, value)) → cond {A = Option (List ℕ × List ℕ)} t (Some ([], value_body key value)) (option_map (λ (p : List ℕ × List ℕ). (b ∷ p.0, p.1)) (parts_at_equals (value_body key value))) ≡ Some (b ∷ key, value)
    split_step true o e f = cc
    split_step false None e f = rw (f refl) refl
    split_step false (Some p) e f = cc

value_put : (key value : List ℕ) (role : Role) (body : List ℕ) → parts_at_equals key ≡ None → is_known (value_at key role body) ≡ true → value_at key role (value_body key value) ≡ Some value
value_put key value Plain body e h = rw (split_body key value e, bytes_eq_refl key) refl
value_put key value Brace body e h = cc
value_put key value Entry body e h = cc

unknown : {X : Type 0} (o : Option X) → is_known o ≡ false → o ≡ None
unknown None h = refl
unknown (Some x) h = cc

-- the law: what was set is read
pub value_set : (key value : List ℕ) (rows : List Row) → parts_at_equals key ≡ None → last_value key (with_value key value rows) ≡ Some value
value_set key value [] e = value_put key value Plain (value_body key value) e (rw (split_body key value e, bytes_eq_refl key) refl)
value_set key value (r ∷ rs) e = elim (two (is_known (last_value key rs))) [
  | inl h ↦ rw (h, value_set key value rs e) refl
  | inr h ↦ elim (two (is_known (value_in key r))) [
    | inl g ↦ rw (h, g, unknown (last_value key rs) h) (value_put key value r.role r.body e g)
    | inr g ↦ rw (h, g, value_set key value rs e) refl
  ]
]

-- a line has one key
other_key : (key other value : List ℕ) (role : Role) (body : List ℕ) → parts_at_equals key ≡ None → bytes_eq key other ≡ false → is_known (value_at key role body) ≡ true → (value_at other role (value_body key value) ≡ None) × (value_at other role body ≡ None)
other_key key other value Plain body e d h = (rw (split_body key value e, d) refl, under (parts_at_equals body) h)
  where
    under : (o : Option (List ℕ × List ℕ)) → is_known (value_under key o) ≡ true → value_under other o ≡ None
    under None h = refl
    under (Some p) h = elim (two (bytes_eq p.0 key)) [
      | inl f ↦ rw (same_bytes p.0 key f, d) refl
      | inr f ↦ (let g = rw f at h in cc g)
    ]
other_key key other value Brace body e d h = cc
other_key key other value Entry body e d h = cc

-- the law: other keys keep their values
pub value_other : (key other value : List ℕ) (rows : List Row) → parts_at_equals key ≡ None → bytes_eq key other ≡ false → last_value other (with_value key value rows) ≡ last_value other rows
value_other key other value [] e d = rw (split_body key value e, d) refl
value_other key other value (r ∷ rs) e d = elim (two (is_known (last_value key rs))) [
  | inl h ↦ rw (h, value_other key other value rs e d) refl
  | inr h ↦ elim (two (is_known (value_in key r))) [
    | inl g ↦ (let p = other_key key other value r.role r.body e d g in rw (h, g, p.0, p.1) refl)
    | inr g ↦ rw (h, g, value_other key other value rs e d) refl
  ]
]

some_known : {X : Type 0} (o : Option X) (x : X) → o ≡ Some x → is_known o ≡ true
some_known o x e = rw e refl

-- the law: set twice, the later stays
pub value_twice : (key first value : List ℕ) (rows : List Row) → parts_at_equals key ≡ None → with_value key value (with_value key first rows) ≡ with_value key value rows
value_twice key first value [] e = rw (value_put key first Plain (value_body key first) e (rw (split_body key first e, bytes_eq_refl key) refl)) refl
value_twice key first value (r ∷ rs) e = elim (two (is_known (last_value key rs))) [
  | inl h ↦ rw (h, value_set key first rs e) (ap (λ l. r ∷ l) (value_twice key first value rs e))
  | inr h ↦ elim (two (is_known (value_in key r))) [
    | inl g ↦ rw (h, g, h, value_put key first r.role r.body e g) refl
    | inr g ↦ rw (h, g, value_set key first rs e) (ap (λ l. r ∷ l) (value_twice key first value rs e))
  ]
]
