-- Texts with no line end in them.
use Rattle.std.proofs.Common.{◌≡◌, inl, inr, ℕ, List, [], ◌∷◌, ◌++◌, Bool, true, false, nat_eq, Option, Some, None, Ok, refl}
use Rattle.std.specs.Prelude.{ℤ, option_map, option_and_then}
use Rattle.std.proofs.lemmas.Bool.{eqb-true, cases_Bool}
use Rattle.sk_num.specs.declared.decimal.Decimal.{Decimal}
use Rattle.sk_num.specs.Numerals.{all_digits, numeral}
use Rattle.sk_num.specs.Decimals.{at_point, decimals_of, first_decimals, unsigned_of, decimal_of}
use Rattle.sk_num.specs.Spelling.{quantity_of, read_as}
use Rattle.sk_text.specs.Lines.{NoFeed, ends_in_return, IsEnded}
use Rattle.sk_records.specs.Given.{has_byte, IsValue}
use Rattle.sk_model.specs.Changes.{fed_line}
use Rattle.sk_model.specs.TypingLaws.Digits.{AreHex, are_decimal, hex_of_decimal}

abbrev pub Clean : List ℕ → Type 0
Clean [] = Unit {0}
Clean (b ∷ bs) = ((nat_eq b 10 ≡ false) × (nat_eq b 13 ≡ false)) × Clean bs

pub clean-append : (a b : List ℕ) → Clean a → Clean b → Clean (a ++ b)
clean-append [] b ca cb = cb
clean-append (x ∷ a) b ca cb = (ca.0, clean-append a b ca.1 cb)

pub clean_hex : (ds : List ℕ) → AreHex ds → Clean ds
clean_hex [] are = tt
clean_hex (d ∷ ds) are = ((are.0.feed, are.0.return), clean_hex ds are.1)

no_feed : (t : List ℕ) → Clean t → NoFeed t
no_feed [] c = tt
no_feed (b ∷ bs) c = (c.0.0, no_feed bs c.1)

no_byte : (t : List ℕ) → Clean t → has_byte 10 t ≡ false
no_byte [] c = refl
no_byte (b ∷ bs) c = rw c.0.0 (no_byte bs c.1)

no_return : (t : List ℕ) → Clean t → ends_in_return t ≡ false
no_return [] c = refl
no_return (b ∷ []) c = c.0.1
no_return (b ∷ (d ∷ ds)) c = no_return (d ∷ ds) c.1

pub clean_ended : (t : List ℕ) → Clean t → IsEnded (fed_line t)
clean_ended t c = record { clear = no_feed t c; end = inl (refl, no_return t c) }

pub clean_value : (t : List ℕ) → Clean t → IsValue t
clean_value t c = record { no_feed = no_byte t c; no_return = no_return t c }

-- ---- quantities

numeral_clean : (ds : List ℕ) (n : ℕ) → numeral 10 ds ≡ Some n → Clean ds
numeral_clean [] n e = cc
numeral_clean (c ∷ cs) n e = elim (cases_Bool (all_digits 10 (c ∷ cs))) [
  | inl h ↦ clean_hex (c ∷ cs) (hex_of_decimal (c ∷ cs) (are_decimal (c ∷ cs) h))
  | inr h ↦ (let f = rw h at e in cc f)
]

-- the point and the minus
point_clean : (c : ℕ) → nat_eq c 46 ≡ true → (nat_eq c 10 ≡ false) × (nat_eq c 13 ≡ false)
point_clean c e = rw (eqb-true c 46 e) (refl, refl)

minus_clean : (c : ℕ) → nat_eq c 45 ≡ true → (nat_eq c 10 ≡ false) × (nat_eq c 13 ≡ false)
minus_clean c e = rw (eqb-true c 45 e) (refl, refl)

abbrev CleanBack : Option (List ℕ) → Type 0
CleanBack None = Unit {0}
CleanBack (Some ds) = Clean ds

halves_clean : (t : List ℕ) → Clean (at_point t).front → CleanBack (at_point t).back → Clean t
halves_clean [] f b = tt
halves_clean (c ∷ cs) f b = elim (cases_Bool (nat_eq c 46)) [
  | inl h ↦ (point_clean c h, rw h at b)
  | inr h ↦ (let g : Clean (c ∷ (at_point cs).front) = rw h at f in (g.0, halves_clean cs g.1 (rw h at b)))
]

back_clean : (o : Option (List ℕ)) (n : ℕ) → decimals_of o ≡ Some n → CleanBack o
back_clean None n e = tt
back_clean (Some ds) n e = by_numeral (numeral 10 ds) refl e
  where
    by_numeral : (o : Option ℕ) → numeral 10 ds ≡ o → option_map (λ _. first_decimals 20 ds) o ≡ Some n → Clean ds
    by_numeral None is e = cc
    by_numeral (Some m) is e = numeral_clean ds m is

unsigned_clean : (t : Bool) (text : List ℕ) (d : Decimal) → unsigned_of t (at_point text) ≡ Some d → Clean text
unsigned_clean t text d e = by_front (numeral 10 (at_point text).front) refl e
  where
    by_front : (o : Option ℕ) → numeral 10 (at_point text).front ≡ o → option_and_then (λ (w : ℕ). option_map (λ (k : ℕ). record { negative = t; whole = w; decimals = k }) (decimals_of (at_point text).back)) o ≡ Some d → Clean text
    by_front None is e = cc
    by_front (Some w) is e = by_back (decimals_of (at_point text).back) refl e
      where
        by_back : (o : Option ℕ) → decimals_of (at_point text).back ≡ o → option_map (λ (k : ℕ). record { negative = t; whole = w; decimals = k }) o ≡ Some d → Clean text
        by_back None has e = cc
        by_back (Some k) has e = halves_clean text (numeral_clean (at_point text).front w is) (back_clean (at_point text).back k has)

decimal_clean : (t : List ℕ) (d : Decimal) → decimal_of t ≡ Some d → Clean t
decimal_clean [] d e = cc
decimal_clean (c ∷ cs) d e = elim (cases_Bool (nat_eq c 45)) [
  | inl h ↦ (minus_clean c h, unsigned_clean true cs d (rw h at e))
  | inr h ↦ unsigned_clean false (c ∷ cs) d (rw h at e)
]

pub quantity_clean : (s : ℕ) (t : List ℕ) (z : ℤ) → quantity_of s t ≡ Ok z → Clean t
unfolding quantity_of
quantity_clean s t z e = by_decimal (decimal_of t) refl e
  where
    by_decimal : (o : Option Decimal) → decimal_of t ≡ o → read_as s o ≡ Ok z → Clean t
    by_decimal None is e = cc
    by_decimal (Some d) is e = decimal_clean t d is
