-- A value line that is written is a value line of its kind, and a closing line with an end is one.
use Rattle.std.proofs.Common.{◌≡◌, inl, inr, ℕ, List, [], ◌∷◌, ◌++◌, length, refl, ap, sym, ◌∙◌, true, false, Option, Some, None, take, drop, nat_eq}
use Rattle.std.specs.Prelude.{codes}
use Rattle.std.specs.Str.{bytes_eq}
use Rattle.std.specs.List.{list_any}
use Rattle.std.proofs.lemmas.Option.{some_pair_parts}
use Rattle.std.proofs.lemmas.List.{take-append-drop}
use Rattle.sk_text.specs.Keys.{parts_at_equals}
use Rattle.sk_records.specs.declared.kinds.Kind.{Kind}
use Rattle.sk_records.specs.declared.kinds.Kind.TheVariants.{Group, Param, Request, Entity, Constraint, Style}
use Rattle.sk_records.specs.Kinds.{prefix_of}
use Rattle.sk_records.specs.Rows.{value_body}
use Rattle.sk_records.specs.Classes.{Value, class_of, starts, value_kind, closed_kind}
use Rattle.sk_records.specs.Given.{IsKey, has_byte}
use Rattle.sk_records.specs.Laws.MadeAnew.{two}
use Rattle.sk_records.specs.Laws.ValuesAfter.{split_body, same_bytes, bytes_eq_refl}

-- a line with a key isn't a word without one
not_word : (key value word : List ℕ) → parts_at_equals key ≡ None → parts_at_equals word ≡ None → bytes_eq (value_body key value) word ≡ false
not_word key value word e w = elim (two (bytes_eq (value_body key value) word)) [
  | inl h ↦ (let s = same_bytes (value_body key value) word h in let p = sym (split_body key value e) ∙ ap parts_at_equals s ∙ w in cc p)
  | inr h ↦ h
]

not_brace : (key value : List ℕ) → parts_at_equals key ≡ None → bytes_eq key (codes "Group.remap") ≡ false → bytes_eq (value_body key value) (codes "Group.remap={") ≡ false
not_brace key value e d = elim (two (bytes_eq (value_body key value) (codes "Group.remap={"))) [
  | inl h ↦ (let s = same_bytes (value_body key value) (codes "Group.remap={") h in
      let p : ◌≡◌ {A = Option (List ℕ × List ℕ)} (Some (key, value)) (Some (codes "Group.remap", codes "{")) = sym (split_body key value e) ∙ ap parts_at_equals s in
      let q = some_pair_parts key (codes "Group.remap") value (codes "{") p in
      let same : bytes_eq key (codes "Group.remap") ≡ true = rw q.0 (bytes_eq_refl (codes "Group.remap")) in cc (same, d))
  | inr h ↦ h
]

has_equals : (more value : List ℕ) → list_any (λ b. nat_eq b 61) (more ++ (61 ∷ value)) ≡ true
has_equals [] value = refl
has_equals (b ∷ more) value = elim (two (nat_eq b 61)) [ inl h ↦ rw h refl | inr h ↦ rw h (has_equals more value) ]

-- ---- keys

pub keyless : (key : List ℕ) → has_byte 61 key ≡ false → parts_at_equals key ≡ None
keyless [] e = refl
keyless (b ∷ key) e = elim (two (nat_eq b 61)) [
  | inl h ↦ (let g = rw h at e in cc g)
  | inr h ↦ (let g = rw h at e in rw (h, keyless key g) refl)
]

prefixed : (word key : List ℕ) → starts word key ≡ true → key ≡ word ++ drop (length word) key
prefixed word key e = sym (take-append-drop (length word) key) ∙ ap (λ w. w ++ drop (length word) key) (same_bytes (take (length word) key) word e)

class_by_prefix : (k : Kind) (more value : List ℕ) → parts_at_equals (prefix_of k ++ more) ≡ None → bytes_eq (prefix_of k ++ more) (codes "Group.remap") ≡ false → class_of (value_body (prefix_of k ++ more) value) ≡ Value k
unfolding class_of closed_kind value_kind
class_by_prefix Group more value e d = rw (not_brace (codes "Group." ++ more) value e d, has_equals more value) refl
class_by_prefix Param more value e d = rw (has_equals more value) refl
class_by_prefix Request more value e d = rw (has_equals more value) refl
class_by_prefix Entity more value e d = rw (has_equals more value) refl
class_by_prefix Constraint more value e d = rw (has_equals more value) refl
class_by_prefix Style more value e d = rw (has_equals more value) refl

pub key_keyless : (k : Kind) (key : List ℕ) → IsKey k key → parts_at_equals key ≡ None
key_keyless k key is = keyless key is.no_equals

-- a line with a key of a kind is a value line of the kind
pub class_of_value : (k : Kind) (key value : List ℕ) → IsKey k key → class_of (value_body key value) ≡ Value k
class_of_value k key value is =
    let split : key ≡ prefix_of k ++ drop (length (prefix_of k)) key = prefixed (prefix_of k) key is.prefix in
    ap (λ (x : List ℕ). class_of (value_body x value)) split
    ∙ class_by_prefix k (drop (length (prefix_of k)) key) value (ap parts_at_equals (sym split) ∙ key_keyless k key is) (ap (λ (x : List ℕ). bytes_eq x (codes "Group.remap")) (sym split) ∙ is.no_list)
