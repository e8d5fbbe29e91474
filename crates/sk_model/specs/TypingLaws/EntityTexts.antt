-- The records of entities, as they are written.
use Rattle.std.proofs.Common.{◌≡◌, inl, inr, ℕ, ◌+◌, ◌<◌, List, [], ◌∷◌, ◌++◌, map, length, Bool, true, false, Option, Some, None, refl, sym, ap, ◌∙◌, subst, arith}
use Rattle.std.specs.Prelude.{◌^◌, ◌||◌, ℤ, pos, nat_eq, codes}
use Rattle.std.specs.Fmt.{decimal}
use Rattle.std.specs.List.{All}
use Rattle.std.specs.Ordering.{int_eq}
use Rattle.std.proofs.lemmas.Bool.{cases_Bool, eqb-true}
use Rattle.std.proofs.lemmas.List.Elements.{All-head, All-tail}
use Rattle.std.proofs.lemmas.List.Folds.{list_any-append}
use Rattle.sk_num.specs.Numerals.{padded}
use Rattle.sk_num.specs.Limit.{IsInLimit}
use Rattle.sk_num.specs.Scale.{IsScale}
use Rattle.sk_num.specs.Spelling.{quantity_text}
use Rattle.sk_num.specs.SpellingLaws.{quantity-read_back}
use Rattle.sk_types.specs.declared.handle.EntityId.{EntityId}
use Rattle.sk_types.specs.declared.entity.Entity.{Entity}
use Rattle.sk_types.specs.declared.entity.Act.{Act}
use Rattle.sk_types.specs.Kinds.{is_point, is_distance}
use Rattle.sk_types.specs.Lookups.{act_at}
use Rattle.sk_records.specs.declared.kinds.Kind.TheVariants as kind
use Rattle.sk_text.specs.Lines.{joined}
use Rattle.sk_records.specs.Blocks.{Block, Rec, AllOf, rows_of, has, with_tails, made_anew}
use Rattle.sk_records.specs.Written.{bytes_of, numbered, bare_rec, IsText}
use Rattle.sk_records.specs.Classes.{is_digit}
use Rattle.sk_records.specs.Given.{has_byte, IsKey, IsValue, AreRecords, given_records}
use Rattle.sk_records.specs.Laws.{IsGiven, ArePairs, records_law, given_law, texts_law, anew_law, numbers_law}
use Rattle.sk_records.specs.Laws.RecordsAfter.{has_none}
use Rattle.sk_model.specs.EntityRecords.{Pair, Keyed, handle_pairs, quantity_pairs, point_key, point_pairs, name_pairs, place_numbers, turn_numbers, length_numbers, is_turned, act_numbers, number_pairs, act_pairs, flag_text, seen_pairs, entity_pairs, entity_record, entity_records}
use Rattle.sk_model.specs.Settable.{AreFit, IsActFit, IsWritable}
use Rattle.sk_model.specs.TypingLaws.Digits.{AreDecimal, hex_of_decimal, decimal_digits}
use Rattle.sk_model.specs.TypingLaws.CleanTexts.{clean_hex, clean_value}
use Rattle.sk_model.specs.TypingLaws.ParamTexts.{quantity_value, handle_value}

pairs-append : (ps qs : List Pair) → ArePairs kind.Entity ps → ArePairs kind.Entity qs → ArePairs kind.Entity (ps ++ qs)
pairs-append [] qs a b = b
pairs-append (p ∷ ps) qs a b = (a.0, pairs-append ps qs a.1 b)

handle_fine : (key : List ℕ) (e : EntityId) → IsKey kind.Entity key → ArePairs kind.Entity (handle_pairs key e)
unfolding handle_pairs
handle_fine key e is = elim (cases_Bool (nat_eq e.0 0)) [ inl t ↦ rw t tt | inr f ↦ rw f ((is, handle_value e.0), tt) ]

-- ---- the key of a point

not_equals : (d : ℕ) → is_digit d ≡ true → nat_eq d 61 ≡ false
not_equals d e = elim (cases_Bool (nat_eq d 61)) [
  | inl t ↦ (let no : is_digit 61 ≡ true = subst (λ (n : ℕ). is_digit n ≡ true) (eqb-true d 61 t) e in cc no)
  | inr f ↦ f
]

-- digits are neither `=` nor a line feed
no_equals_in : (ds : List ℕ) → AreDecimal ds → has_byte 61 ds ≡ false
no_equals_in [] a = refl
no_equals_in (d ∷ ds) a = rw (not_equals d a.0.digit) (no_equals_in ds a.1)

no_feed_in : (ds : List ℕ) → AreDecimal ds → has_byte 10 ds ≡ false
no_feed_in [] a = refl
no_feed_in (d ∷ ds) a = rw a.0.hex.feed (no_feed_in ds a.1)

without_byte : (x : ℕ) (ds : List ℕ) → has_byte x ds ≡ false → has_byte x (codes "].v") ≡ false → has_byte x (ds ++ codes "].v") ≡ false
without_byte x ds e h = list_any-append (λ b. nat_eq b x) ds (codes "].v") ∙ ap (λ (t : Bool). t || has_byte x (codes "].v")) e ∙ h

is_point_key : (i : ℕ) → i < 2 ^ 64 → IsKey kind.Entity (point_key i)
unfolding point_key
is_point_key i small =
    let ds : AreDecimal (decimal i) = (decimal_digits i (omega (arith, small))).0 in
    record {
      prefix = refl;
      no_list = refl;
      no_equals = without_byte 61 (decimal i) (no_equals_in (decimal i) ds) refl;
      no_feed = without_byte 10 (decimal i) (no_feed_in (decimal i) ds) refl;
    }

points_fine : (i : ℕ) (es : List EntityId) → i + length es < 2 ^ 64 → ArePairs kind.Entity (point_pairs i es)
points_fine i [] e = tt
points_fine i (a ∷ es) e = pairs-append (handle_pairs (point_key i) a) (point_pairs (i + 1) es) (handle_fine (point_key i) a (is_point_key i (omega (arith, e)))) (points_fine (i + 1) es (omega (arith, e)))

names_fine : {s : ℕ} (e : Entity s) → length e.points < 2 ^ 64 → ArePairs kind.Entity (name_pairs e)
unfolding name_pairs
names_fine e small =
    pairs-append (point_pairs 0 e.points) _ (points_fine 0 e.points (omega (arith, small)))
    (pairs-append (handle_pairs (codes "Entity.normal.v") e.normal) _ (handle_fine (codes "Entity.normal.v") e.normal (record { prefix = refl; no_list = refl; no_equals = refl; no_feed = refl }))
    (pairs-append (handle_pairs (codes "Entity.distance.v") e.distance) _ (handle_fine (codes "Entity.distance.v") e.distance (record { prefix = refl; no_list = refl; no_equals = refl; no_feed = refl }))
    (handle_fine (codes "Entity.workplane.v") e.workplane (record { prefix = refl; no_list = refl; no_equals = refl; no_feed = refl }))))

-- ---- numbers

quantity_fine : (s : ℕ) → IsScale s → (key : List ℕ) (v : ℤ) → IsKey kind.Entity key → IsInLimit v → ArePairs kind.Entity (quantity_pairs s key v)
unfolding quantity_pairs
quantity_fine s scale key v is fits = elim (cases_Bool (int_eq v (pos 0))) [
  | inl t ↦ rw t tt
  | inr f ↦ rw f ((is, quantity_value s (quantity_text s v) v (quantity-read_back s v scale fits)), tt)
]

abbrev AreKeys : Keyed → Type 0
AreKeys [] = Unit {0}
AreKeys (k ∷ ks) = IsKey kind.Entity k.0 × AreKeys ks

numbers_fine : (s : ℕ) → IsScale s → (ks : Keyed) → AreKeys ks → AreFit ks → ArePairs kind.Entity (number_pairs s ks)
unfolding number_pairs
numbers_fine s scale [] a fit = tt
numbers_fine s scale (k ∷ ks) a fit =
    pairs-append (quantity_pairs s k.0 k.1) (number_pairs s ks)
    (quantity_fine s scale k.0 k.1 a.0 (All-head (λ (k : List ℕ × ℤ). IsInLimit k.1) k ks fit))
    (numbers_fine s scale ks a.1 (All-tail (λ (k : List ℕ × ℤ). IsInLimit k.1) k ks fit))

place_keys : (vs : List ℤ) → AreKeys (place_numbers vs)
place_keys vs = (record { prefix = refl; no_list = refl; no_equals = refl; no_feed = refl }, (record { prefix = refl; no_list = refl; no_equals = refl; no_feed = refl }, (record { prefix = refl; no_list = refl; no_equals = refl; no_feed = refl }, tt)))

turn_keys : (vs : List ℤ) → AreKeys (turn_numbers vs)
turn_keys vs = (record { prefix = refl; no_list = refl; no_equals = refl; no_feed = refl }, (record { prefix = refl; no_list = refl; no_equals = refl; no_feed = refl }, (record { prefix = refl; no_list = refl; no_equals = refl; no_feed = refl }, (record { prefix = refl; no_list = refl; no_equals = refl; no_feed = refl }, tt))))

length_keys : (vs : List ℤ) → AreKeys (length_numbers vs)
length_keys vs = (record { prefix = refl; no_list = refl; no_equals = refl; no_feed = refl }, tt)

act_keys : (n : ℕ) (vs : List ℤ) → AreKeys (act_numbers n vs)
unfolding act_numbers
act_keys n vs = elim (cases_Bool (is_point n)) [
  | inl t ↦ rw t (place_keys vs)
  | inr f ↦ rw f (elim (cases_Bool (is_turned n)) [
    | inl t ↦ rw t (turn_keys vs)
    | inr g ↦ rw g (elim (cases_Bool (is_distance n)) [ inl t ↦ rw t (length_keys vs) | inr h ↦ rw h tt ])
  ])
]

act_fine : {s : ℕ} → IsScale s → (n : ℕ) (a : Option (Act s)) → IsActFit n a → ArePairs kind.Entity (act_pairs n a)
act_fine scale n None fit = tt
act_fine {s} scale n (Some a) fit = numbers_fine s scale (act_numbers n a.values) (act_keys n a.values) fit

-- ---- records

flag_fine : (t : Bool) → IsValue (flag_text t)
flag_fine true = record { no_feed = refl; no_return = refl }
flag_fine false = record { no_feed = refl; no_return = refl }

kind_fine : (n : ℕ) → n < 2 ^ 16 → IsValue (decimal n)
kind_fine n e = let d = decimal_digits n (omega (arith, e)) in clean_value (decimal n) (clean_hex (decimal n) (hex_of_decimal (decimal n) d.0))

module _ {s : ℕ} (scale : IsScale s) (acts : List (Act s)) where
  pairs_fine : (e : Entity s) → IsWritable acts e → ArePairs kind.Entity (entity_pairs acts e)
  unfolding entity_pairs
  pairs_fine e is = (
    (record { prefix = refl; no_list = refl; no_equals = refl; no_feed = refl }, handle_value e.id.0),
    (
      (record { prefix = refl; no_list = refl; no_equals = refl; no_feed = refl }, kind_fine e.kind is.kind),
      (
        (record { prefix = refl; no_list = refl; no_equals = refl; no_feed = refl }, flag_fine e.construction),
        pairs-append (name_pairs e) _ (names_fine e is.points)
            (pairs-append (act_pairs e.kind (act_at e.id.0 acts)) seen_pairs (act_fine scale e.kind (act_at e.id.0 acts) is.numbers)
            ((record { prefix = refl; no_list = refl; no_equals = refl; no_feed = refl }, record { no_feed = refl; no_return = refl }), tt)),
      ),
    ),
  )

  one_given : (e : Entity s) (rs : List Rec) → IsWritable acts e → IsGiven kind.Entity rs → IsGiven kind.Entity (entity_record acts e ∷ rs)
  unfolding entity_pairs
  one_given e rs is more =
      given_law.plain kind.Entity (codes "Entity.h.v", padded 16 8 e.id.0)
      ((codes "Entity.type", decimal e.kind) ∷ (codes "Entity.construction", flag_text e.construction) ∷ (name_pairs e ++ (act_pairs e.kind (act_at e.id.0 acts) ++ seen_pairs)))
      rs (pairs_fine e is) more

  pub entities_given : (es : List (Entity s)) → All (IsWritable acts) es → IsGiven kind.Entity (entity_records acts es)
  entities_given [] all = record { recs = tt; ended = tt; kind = tt }
  entities_given (e ∷ es) all = one_given e (entity_records acts es) (All-head (IsWritable acts) e es all) (entities_given es (All-tail (IsWritable acts) e es all))

pub all_entities : {s : ℕ} (acts : List (Act s)) (es : List (Entity s)) → AllOf kind.Entity (entity_records acts es)
all_entities acts [] = tt
all_entities acts (e ∷ es) = (refl, all_entities acts es)

records_bare : {s : ℕ} (acts : List (Act s)) (es : List (Entity s)) → map bare_rec (entity_records acts es) ≡ entity_records acts es
records_bare acts [] = refl
records_bare acts (e ∷ es) = ap (λ (r : Rec). r ∷ map bare_rec (entity_records acts es)) (given_law.plain_bare kind.Entity (entity_pairs acts e)) ∙ ap (λ (rs : List Rec). entity_record acts e ∷ rs) (records_bare acts es)

module _ {s : ℕ} (scale : IsScale s) (acts : List (Act s)) (es : List (Entity s)) (all : All (IsWritable acts) es) where
  pub records_given : AreRecords kind.Entity (bytes_of (with_tails (entity_records acts es)))
  records_given = given_law.many kind.Entity (entity_records acts es) (entities_given scale acts es all)

  pub records_are : given_records (bytes_of (with_tails (entity_records acts es))) ≡ entity_records acts es
  records_are = given_law.many_are kind.Entity (entity_records acts es) (entities_given scale acts es all) ∙ records_bare acts es

  pub entities_text : (bs : List Block) → IsText bs → IsText (made_anew kind.Entity (entity_records acts es) bs)
  entities_text bs is = texts_law.anew kind.Entity (entity_records acts es) bs (entities_given scale acts es all) is

-- ---- made anew once more

module _ {s : ℕ} (acts : List (Act s)) (e : Entity s) (es : List (Entity s)) (bs : List Block) where
  abbrev recs : List Rec
  recs = entity_records acts (e ∷ es)

  all : AllOf kind.Entity recs
  all = all_entities acts (e ∷ es)

  has_recs : has kind.Entity (made_anew kind.Entity recs bs) ≡ true
  has_recs = elim (cases_Bool (has kind.Entity (made_anew kind.Entity recs bs))) [
    | inl t ↦ t
    | inr f ↦ (let none : rows_of recs ≡ [] = sym (records_law.anew_same kind.Entity recs bs all) ∙ has_none kind.Entity (made_anew kind.Entity recs bs) f in cc none)
  ]

  pub made_twice : made_anew kind.Entity recs (made_anew kind.Entity recs bs) ≡ made_anew kind.Entity recs bs
  made_twice = anew_law.anew_twice kind.Entity (entity_record acts e) (entity_records acts es) bs all

  -- in the text as it is read again
  pub made_again : bytes_of (made_anew kind.Entity recs (numbered 1 (made_anew kind.Entity recs bs))) ≡ bytes_of (made_anew kind.Entity recs bs)
  made_again =
      let cs : List Block = made_anew kind.Entity recs bs in
      ap joined (numbers_law.anew_same_lines kind.Entity recs cs (numbered 1 cs) has_recs (numbers_law.bare_numbered 1 cs)) ∙ ap bytes_of made_twice
