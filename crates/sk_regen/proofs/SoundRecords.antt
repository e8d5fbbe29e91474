-- The records of entities may be given to a text, whatever the entities and their numbers are.
use Rattle.std.proofs.Common.{◌≡◌, inl, inr, ℕ, zero, suc, ◌+◌, List, [], ◌∷◌, ◌++◌, Bool, true, false, Option, Some, None, refl, ap, ◌∙◌, subst, arith}
use Rattle.std.specs.Prelude.{◌/◌, ◌%◌, ◌||◌, ℤ, pos, nat_eq, codes}
use Rattle.std.specs.Fmt.{decimal, digit_glyph, digits, digits_onto}
use Rattle.std.specs.Ordering.{int_eq}
use Rattle.std.proofs.lemmas.Bool.{cases_Bool, eqb-true}
use Rattle.std.proofs.lemmas.List.Folds.{list_any-append}
use Rattle.sk_num.specs.declared.decimal.Decimal.{Decimal}
use Rattle.sk_num.specs.Decimals.{decimal_text, sign_text}
use Rattle.sk_num.specs.Numerals.{padded}
use Rattle.sk_num.specs.PaddedLaws.{digits-padded}
use Rattle.sk_num.specs.Spelling.{quantity_text}
use Rattle.sk_types.specs.declared.handle.EntityId.{EntityId}
use Rattle.sk_types.specs.declared.entity.Act.{Act}
use Rattle.sk_types.specs.declared.entity.Entity.{Entity}
use Rattle.sk_types.specs.Kinds.{is_distance, is_point}
use Rattle.sk_types.specs.Lookups.{act_at}
use Rattle.sk_records.specs.declared.kinds.Kind.TheVariants as kind
use Rattle.sk_records.specs.Blocks.{Rec}
use Rattle.sk_records.specs.Classes.{is_digit}
use Rattle.sk_records.specs.Given.{IsKey, IsValue, has_byte}
use Rattle.sk_records.specs.Laws.{ArePairs, IsGiven, given_law}
use Rattle.sk_model.specs.EntityRecords.{Keyed, Pair, act_numbers, act_pairs, entity_pairs, entity_record, entity_records, flag_text, handle_pairs, is_turned, length_numbers, name_pairs, number_pairs, place_numbers, point_key, point_pairs, quantity_pairs, seen_pairs, turn_numbers}
use Rattle.sk_model.specs.TypingLaws.CleanTexts.{Clean, clean-append, clean_hex, clean_value}
use Rattle.sk_model.specs.TypingLaws.Digits.{AreDecimal, DecimalByte, are_decimal, hex_of_decimal}
use Rattle.sk_model.specs.TypingLaws.ParamTexts.{handle_value}

-- ---- digits of any number

glyph_digit : (n : ℕ) → DecimalByte (digit_glyph false (n % 10))
unfolding padded
glyph_digit n = (are_decimal (digit_glyph false (n % 10) ∷ []) (digits-padded 10 1 n (omega arith) (omega arith))).0

onto_digits : (k n : ℕ) (more : List ℕ) → AreDecimal more → AreDecimal (digits_onto k 10 false n more)
onto_digits zero n more a = a
onto_digits (suc k) n more a = elim (cases_Bool (nat_eq (n / 10) 0)) [
  | inl t ↦ rw t ((glyph_digit n, a))
  | inr f ↦ rw f (onto_digits k (n / 10) (digit_glyph false (n % 10) ∷ more) (glyph_digit n, a))
]

all_decimal : (n : ℕ) → AreDecimal (decimal n)
unfolding digits
all_decimal n = onto_digits 64 n [] tt

clean_decimal : (n : ℕ) → Clean (decimal n)
clean_decimal n = clean_hex (decimal n) (hex_of_decimal (decimal n) (all_decimal n))

clean_sign : (t : Bool) → Clean (sign_text t)
clean_sign true = ((refl, refl), tt)
clean_sign false = tt

clean_text : (d : Decimal) → Clean (decimal_text d)
unfolding decimal_text
clean_text d =
    let ds = padded 10 20 d.decimals in
    let decimals : Clean ds = clean_hex ds (hex_of_decimal ds (are_decimal ds (digits-padded 10 20 d.decimals (omega arith) (omega arith)))) in
    clean-append (sign_text d.negative) (decimal d.whole ++ 46 ∷ ds) (clean_sign d.negative) (clean-append (decimal d.whole) (46 ∷ ds) (clean_decimal d.whole) ((refl, refl), decimals))

quantity_fine : (s : ℕ) (z : ℤ) → IsValue (quantity_text s z)
unfolding quantity_text
quantity_fine s z = clean_value _ (clean_text _)

-- ---- what an entity names

pairs_append : (ps qs : List Pair) → ArePairs kind.Entity ps → ArePairs kind.Entity qs → ArePairs kind.Entity (ps ++ qs)
pairs_append [] qs a b = b
pairs_append (p ∷ ps) qs a b = (a.0, pairs_append ps qs a.1 b)

handle_fine : (key : List ℕ) (e : EntityId) → IsKey kind.Entity key → ArePairs kind.Entity (handle_pairs key e)
unfolding handle_pairs
handle_fine key e is = elim (cases_Bool (nat_eq e.0 0)) [ inl t ↦ rw t tt | inr f ↦ rw f ((is, handle_value e.0), tt) ]

not_equals : (d : ℕ) → is_digit d ≡ true → nat_eq d 61 ≡ false
not_equals d e = elim (cases_Bool (nat_eq d 61)) [
  | inl t ↦ (let no : is_digit 61 ≡ true = subst (λ (n : ℕ). is_digit n ≡ true) (eqb-true d 61 t) e in cc no)
  | inr f ↦ f
]

-- digits are neither `=` nor a line feed
no_equals_in : (ds : List ℕ) → AreDecimal ds → has_byte 61 ds ≡ false
no_equals_in [] a = refl
no_equals_in (d ∷ ds) a = rw (not_equals d a.0.digit) (no_equals_in ds a.1)

no_feed_in : (ds : List ℕ) → AreDecimal ds → has_byte 10 ds ≡ false
no_feed_in [] a = refl
no_feed_in (d ∷ ds) a = rw a.0.hex.feed (no_feed_in ds a.1)

without_byte : (x : ℕ) (ds : List ℕ) → has_byte x ds ≡ false → has_byte x (codes "].v") ≡ false → has_byte x (ds ++ codes "].v") ≡ false
without_byte x ds e h = list_any-append (λ b. nat_eq b x) ds (codes "].v") ∙ ap (λ (t : Bool). t || has_byte x (codes "].v")) e ∙ h

is_point_key : (i : ℕ) → IsKey kind.Entity (point_key i)
unfolding point_key
is_point_key i = record {
  prefix = refl;
  no_list = refl;
  no_equals = without_byte 61 (decimal i) (no_equals_in (decimal i) (all_decimal i)) refl;
  no_feed = without_byte 10 (decimal i) (no_feed_in (decimal i) (all_decimal i)) refl;
}

points_fine : (i : ℕ) (es : List EntityId) → ArePairs kind.Entity (point_pairs i es)
points_fine i [] = tt
points_fine i (a ∷ es) = pairs_append (handle_pairs (point_key i) a) (point_pairs (i + 1) es) (handle_fine (point_key i) a (is_point_key i)) (points_fine (i + 1) es)

names_fine : {s : ℕ} (e : Entity s) → ArePairs kind.Entity (name_pairs e)
unfolding name_pairs
names_fine e =
    pairs_append (point_pairs 0 e.points) _ (points_fine 0 e.points)
    (pairs_append (handle_pairs (codes "Entity.normal.v") e.normal) _ (handle_fine (codes "Entity.normal.v") e.normal (record { prefix = refl; no_list = refl; no_equals = refl; no_feed = refl }))
    (pairs_append (handle_pairs (codes "Entity.distance.v") e.distance) _ (handle_fine (codes "Entity.distance.v") e.distance (record { prefix = refl; no_list = refl; no_equals = refl; no_feed = refl }))
    (handle_fine (codes "Entity.workplane.v") e.workplane (record { prefix = refl; no_list = refl; no_equals = refl; no_feed = refl }))))

-- ---- numbers

number_fine : (s : ℕ) (key : List ℕ) (v : ℤ) → IsKey kind.Entity key → ArePairs kind.Entity (quantity_pairs s key v)
unfolding quantity_pairs
number_fine s key v is = elim (cases_Bool (int_eq v (pos 0))) [ inl t ↦ rw t tt | inr f ↦ rw f ((is, quantity_fine s v), tt) ]

abbrev AreKeys : Keyed → Type 0
AreKeys [] = Unit {0}
AreKeys (k ∷ ks) = IsKey kind.Entity k.0 × AreKeys ks

numbers_fine : (s : ℕ) (ks : Keyed) → AreKeys ks → ArePairs kind.Entity (number_pairs s ks)
unfolding number_pairs
numbers_fine s [] a = tt
numbers_fine s (k ∷ ks) a = pairs_append (quantity_pairs s k.0 k.1) (number_pairs s ks) (number_fine s k.0 k.1 a.0) (numbers_fine s ks a.1)

place_keys : (vs : List ℤ) → AreKeys (place_numbers vs)
place_keys vs = (record { prefix = refl; no_list = refl; no_equals = refl; no_feed = refl }, (record { prefix = refl; no_list = refl; no_equals = refl; no_feed = refl }, (record { prefix = refl; no_list = refl; no_equals = refl; no_feed = refl }, tt)))

turn_keys : (vs : List ℤ) → AreKeys (turn_numbers vs)
turn_keys vs = (record { prefix = refl; no_list = refl; no_equals = refl; no_feed = refl }, (record { prefix = refl; no_list = refl; no_equals = refl; no_feed = refl }, (record { prefix = refl; no_list = refl; no_equals = refl; no_feed = refl }, (record { prefix = refl; no_list = refl; no_equals = refl; no_feed = refl }, tt))))

length_keys : (vs : List ℤ) → AreKeys (length_numbers vs)
length_keys vs = (record { prefix = refl; no_list = refl; no_equals = refl; no_feed = refl }, tt)

act_keys : (n : ℕ) (vs : List ℤ) → AreKeys (act_numbers n vs)
unfolding act_numbers
act_keys n vs = elim (cases_Bool (is_point n)) [
  | inl t ↦ rw t (place_keys vs)
  | inr f ↦ rw f (elim (cases_Bool (is_turned n)) [
    | inl t ↦ rw t (turn_keys vs)
    | inr g ↦ rw g (elim (cases_Bool (is_distance n)) [ inl t ↦ rw t (length_keys vs) | inr h ↦ rw h tt ])
  ])
]

act_fine : {s : ℕ} (n : ℕ) (a : Option (Act s)) → ArePairs kind.Entity (act_pairs n a)
act_fine n None = tt
act_fine {s} n (Some a) = numbers_fine s (act_numbers n a.values) (act_keys n a.values)

-- ---- records

flag_fine : (t : Bool) → IsValue (flag_text t)
flag_fine true = record { no_feed = refl; no_return = refl }
flag_fine false = record { no_feed = refl; no_return = refl }

module _ {s : ℕ} (acts : List (Act s)) where
  pairs_fine : (e : Entity s) → ArePairs kind.Entity (entity_pairs acts e)
  unfolding entity_pairs
  pairs_fine e = (
    (record { prefix = refl; no_list = refl; no_equals = refl; no_feed = refl }, handle_value e.id.0),
    (
      (record { prefix = refl; no_list = refl; no_equals = refl; no_feed = refl }, clean_value (decimal e.kind) (clean_decimal e.kind)),
      (
        (record { prefix = refl; no_list = refl; no_equals = refl; no_feed = refl }, flag_fine e.construction),
        pairs_append (name_pairs e) _ (names_fine e)
            (pairs_append (act_pairs e.kind (act_at e.id.0 acts)) seen_pairs (act_fine e.kind (act_at e.id.0 acts))
            ((record { prefix = refl; no_list = refl; no_equals = refl; no_feed = refl }, record { no_feed = refl; no_return = refl }), tt)),
      ),
    ),
  )

  one_given : (e : Entity s) (rs : List Rec) → IsGiven kind.Entity rs → IsGiven kind.Entity (entity_record acts e ∷ rs)
  unfolding entity_pairs
  one_given e rs more =
      given_law.plain kind.Entity (codes "Entity.h.v", padded 16 8 e.id.0)
      ((codes "Entity.type", decimal e.kind) ∷ (codes "Entity.construction", flag_text e.construction) ∷ (name_pairs e ++ (act_pairs e.kind (act_at e.id.0 acts) ++ seen_pairs)))
      rs (pairs_fine e) more

  pub entities_given : (es : List (Entity s)) → IsGiven kind.Entity (entity_records acts es)
  entities_given [] = record { recs = tt; ended = tt; kind = tt }
  entities_given (e ∷ es) = one_given e (entity_records acts es) (entities_given es)
