-- What a record's values and lists are after its list was set.
use Rattle.std.proofs.Common.{◌≡◌, ℕ, List, [], ◌∷◌, ◌++◌, refl, ap, sym, ◌∙◌, true, false, Bool, inl, inr, Option, Some, None}
use Rattle.std.specs.Option.{option_or}
use Rattle.std.specs.List.{filter}
use Rattle.std.proofs.lemmas.List.{append-nil}
use Rattle.sk_records.specs.Rows.{Row, Role, Plain, Brace, Entry, value_at, value_in, last_value, is_known, with_value, is_plain_role, is_entry_role, is_plain, entries, with_map}
use Rattle.sk_records.specs.Laws.Statements.{NonePlain}
use Rattle.sk_records.specs.Laws.MadeAnew.{two}

filter-append : {X : Type 0} (p : X → Bool) (a b : List X) → filter p (a ++ b) ≡ filter p a ++ filter p b
filter-append p [] b = refl
filter-append p (x ∷ a) b = elim (two (p x)) [ inl e ↦ rw e (ap (λ l. x ∷ l) (filter-append p a b)) | inr e ↦ rw e (filter-append p a b) ]

plain_no_entry : (role : Role) → is_plain_role role ≡ true → is_entry_role role ≡ false
plain_no_entry Plain e = refl
plain_no_entry Brace e = cc
plain_no_entry Entry e = cc

entries_plain : (rs : List Row) → entries (filter is_plain rs) ≡ []
entries_plain [] = refl
entries_plain (r ∷ rs) = elim (two (is_plain_role r.role)) [ inl e ↦ rw (e, plain_no_entry r.role e) (entries_plain rs) | inr e ↦ rw e (entries_plain rs) ]

-- the law: the list that was set is the list
pub entries_set : (new rows : List Row) → entries (with_map new rows) ≡ entries new
entries_set new [] = refl
entries_set new (r ∷ rs) = elim (two (is_plain_role r.role)) [
  | inl e ↦ rw (e, plain_no_entry r.role e) (entries_set new rs)
  | inr e ↦ rw e (filter-append (λ (x : Row). is_entry_role x.role) new (filter is_plain rs) ∙ rw (entries_plain rs, append-nil) refl)
]

none_at : (key : List ℕ) (role : Role) (body : List ℕ) → is_plain_role role ≡ false → value_at key role body ≡ None
none_at key Plain body e = cc
none_at key Brace body e = refl
none_at key Entry body e = refl

value-plain : (key : List ℕ) (rs : List Row) → last_value key (filter is_plain rs) ≡ last_value key rs
value-plain key [] = refl
value-plain key (r ∷ rs) = elim (two (is_plain_role r.role)) [
  | inl e ↦ rw (e, value-plain key rs) refl
  | inr e ↦ rw (e, none_at key r.role r.body e, value-plain key rs) (or_none (last_value key rs))
]
  where
    or_none : {X : Type 0} (o : Option X) → o ≡ option_or o None
    or_none None = refl
    or_none (Some x) = refl

no_value : (key : List ℕ) (new : List Row) → NonePlain new → last_value key new ≡ None
no_value key [] all = refl
no_value key (r ∷ rs) all = rw (no_value key rs all.1, none_at key r.role r.body all.0) refl

or_assoc : {X : Type 0} (a b c : Option X) → option_or (option_or a b) c ≡ option_or a (option_or b c)
or_assoc None b c = refl
or_assoc (Some x) b c = refl

value-append : (key : List ℕ) (a b : List Row) → last_value key (a ++ b) ≡ option_or (last_value key b) (last_value key a)
value-append key [] b = or_none (last_value key b)
  where
    or_none : {X : Type 0} (o : Option X) → o ≡ option_or o None
    or_none None = refl
    or_none (Some x) = refl
value-append key (r ∷ a) b = rw (value-append key a b) (or_assoc (last_value key b) (last_value key a) (value_in key r))

-- the law: the values stay
pub value_map : (key : List ℕ) (new rows : List Row) → NonePlain new → last_value key (with_map new rows) ≡ last_value key rows
value_map key new [] all = no_value key new all
value_map key new (r ∷ rs) all = elim (two (is_plain_role r.role)) [
  | inl e ↦ rw (e, value_map key new rs all) refl
  | inr e ↦ rw e (value-append key new (filter is_plain rs) ∙ rw (no_value key new all, none_at key r.role r.body e, value-plain key rs) refl)
]

plain_new : (new rest : List Row) → NonePlain new → filter is_plain (new ++ rest) ≡ filter is_plain rest
plain_new [] rest all = refl
plain_new (r ∷ rs) rest all = rw all.0 (plain_new rs rest all.1)

plain_twice : (rs : List Row) → filter is_plain (filter is_plain rs) ≡ filter is_plain rs
plain_twice [] = refl
plain_twice (r ∷ rs) = elim (two (is_plain_role r.role)) [ inl e ↦ rw (e, e) (ap (λ l. r ∷ l) (plain_twice rs)) | inr e ↦ rw e (plain_twice rs) ]

-- the law: set twice, the later stays
pub map_twice : (r : Row) (first new rows : List Row) → NonePlain (r ∷ first) → with_map new (with_map (r ∷ first) rows) ≡ with_map new rows
map_twice r first new [] all = rw all.0 (ap (λ l. new ++ l) (sym (ap (filter is_plain) (append-nil first)) ∙ plain_new first [] all.1) ∙ append-nil new)
map_twice r first new (x ∷ xs) all = elim (two (is_plain_role x.role)) [
  | inl e ↦ rw (e, e) (ap (λ l. x ∷ l) (map_twice r first new xs all))
  | inr e ↦ rw (e, all.0) (ap (λ l. new ++ l) (plain_new first (filter is_plain xs) all.1 ∙ plain_twice xs))
]

known_plain : (key : List ℕ) (role : Role) (body : List ℕ) → is_known (value_at key role body) ≡ true → is_entry_role role ≡ false
known_plain key Plain body e = refl
known_plain key Brace body e = refl
known_plain key Entry body e = cc

-- the law: a value that is set changes no list
pub entries_value : (key value : List ℕ) (rows : List Row) → entries (with_value key value rows) ≡ entries rows
entries_value key value [] = refl
entries_value key value (r ∷ rs) = elim (two (is_known (last_value key rs))) [
  | inl h ↦ rw (h, entries_value key value rs) refl
  | inr h ↦ elim (two (is_known (value_in key r))) [
    | inl g ↦ rw (h, g, known_plain key r.role r.body g) refl
    | inr g ↦ rw (h, g, entries_value key value rs) refl
  ]
]
