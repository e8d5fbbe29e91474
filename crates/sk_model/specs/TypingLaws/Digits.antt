-- Written numbers hold digits alone.
use Rattle.std.proofs.Common.{◌≡◌, inl, inr, ℕ, ◌<◌, ◌≤◌, ◌^◌, List, [], ◌∷◌, length, true, false, nat_eq, nat_lt, ◌-◌, refl, arith}
use Rattle.std.specs.Char.{is_digit}
use Rattle.std.specs.Fmt.{decimal}
use Rattle.std.proofs.lemmas.Fmt.{decimal_is_IsNumeral_wide}
use Rattle.std.proofs.lemmas.Bool.{ltb-true, ltb-false, cases_Bool}
use Rattle.sk_num.specs.Numerals.{all_digits, padded}
use Rattle.sk_num.specs.PaddedLaws.{digits-padded, length-padded, both_true}
use Rattle.sk_num.specs.DecimalLaws.{all_digits-from}
use Rattle.sk_records.specs.Classes as Classes
use Rattle.sk_records.specs.Classes.{is_space, is_hex_digit}

-- what a digit is, as lines are classed
pub record HexByte (c : ℕ) : Type 0 where
  pub hex : is_hex_digit c ≡ true
  pub space : nat_eq c 32 ≡ false
  pub feed : nat_eq c 10 ≡ false
  pub return : nat_eq c 13 ≡ false

pub record DecimalByte (c : ℕ) : Type 0 where
  pub digit : Classes.is_digit c ≡ true
  pub minus : nat_eq c 45 ≡ false
  pub hex : HexByte c

in_range : (c low high : ℕ) → low ≤ c → c ≤ high → Classes.between low high c ≡ true
in_range c low high a b = grind arith

past_range : (c low high : ℕ) → high < c → Classes.between low high c ≡ false
past_range c low high a = grind arith

decimal_part : (c : ℕ) → 48 ≤ c → c ≤ 57 → HexByte c
decimal_part c a b = record { hex = rw (in_range c 48 57 a b) refl; space = grind arith; feed = grind arith; return = grind arith }

lower_part : (c : ℕ) → 97 ≤ c → c ≤ 102 → HexByte c
lower_part c a b = record { hex = rw (past_range c 48 57 (omega arith), in_range c 97 102 a b) refl; space = grind arith; feed = grind arith; return = grind arith }

upper_part : (c : ℕ) → 65 ≤ c → c ≤ 70 → HexByte c
upper_part c a b = record { hex = rw (past_range c 48 57 (omega arith), before_range c 97 102 (omega arith), in_range c 65 70 a b) refl; space = grind arith; feed = grind arith; return = grind arith }
  where
    before_range : (c low high : ℕ) → c < low → Classes.between low high c ≡ false
    before_range c low high a = grind arith

hex_byte : (c : ℕ) → is_digit c 16 ≡ true → HexByte c
hex_byte c e = elim (cases_Bool (nat_lt c 48)) [
  | inl a ↦ (let f = rw a at e in cc f)
  | inr a ↦ elim (cases_Bool (nat_lt c 58)) [
    | inl b ↦ decimal_part c (ltb-false c 48 a) (let h : c < 58 = ltb-true c 58 b in omega arith)
    | inr b ↦ elim (cases_Bool (nat_lt c 65)) [
      | inl d ↦ (let f = rw (a, b, d) at e in cc f)
      | inr d ↦ elim (cases_Bool (nat_lt c 91)) [
        | inl g ↦ upper_part c (ltb-false c 65 d) (let h : c - 55 < 16 = ltb-true (c - 55) 16 (rw (a, b, d, g) at e) in omega arith)
        | inr g ↦ elim (cases_Bool (nat_lt c 97)) [
          | inl k ↦ (let f = rw (a, b, d, g, k) at e in cc f)
          | inr k ↦ elim (cases_Bool (nat_lt c 123)) [
            | inl m ↦ lower_part c (ltb-false c 97 k) (let h : c - 87 < 16 = ltb-true (c - 87) 16 (rw (a, b, d, g, k, m) at e) in omega arith)
            | inr m ↦ (let f = rw (a, b, d, g, k, m) at e in cc f)
          ]
        ]
      ]
    ]
  ]
]

decimal_range : (c : ℕ) → is_digit c 10 ≡ true → (48 ≤ c) × (c ≤ 57)
decimal_range c e = (grind arith, grind arith)

decimal_byte : (c : ℕ) → is_digit c 10 ≡ true → DecimalByte c
decimal_byte c e =
    let (a, b) = decimal_range c e in
    record { digit = in_range c 48 57 a b; minus = grind arith; hex = decimal_part c a b }

abbrev pub AreHex : List ℕ → Type 0
AreHex [] = Unit {0}
AreHex (b ∷ bs) = HexByte b × AreHex bs

abbrev pub AreDecimal : List ℕ → Type 0
AreDecimal [] = Unit {0}
AreDecimal (b ∷ bs) = DecimalByte b × AreDecimal bs

pub are_hex : (ds : List ℕ) → all_digits 16 ds ≡ true → AreHex ds
are_hex [] e = tt
are_hex (c ∷ cs) e = let (a, b) = both_true (is_digit c 16) (all_digits 16 cs) e in (hex_byte c a, are_hex cs b)

pub are_decimal : (ds : List ℕ) → all_digits 10 ds ≡ true → AreDecimal ds
are_decimal [] e = tt
are_decimal (c ∷ cs) e = let (a, b) = both_true (is_digit c 10) (all_digits 10 cs) e in (decimal_byte c a, are_decimal cs b)

pub hex_of_decimal : (ds : List ℕ) → AreDecimal ds → AreHex ds
hex_of_decimal [] e = tt
hex_of_decimal (c ∷ cs) e = (e.0.hex, hex_of_decimal cs e.1)

pub decimal_digits : (n : ℕ) → n < 10 ^ 64 → AreDecimal (decimal n) × (0 < length (decimal n))
decimal_digits n h = let (i, v) = decimal_is_IsNumeral_wide n h in (are_decimal (decimal n) (all_digits-from 10 (decimal n) i.1), i.0)

pub handle_digits : (n : ℕ) → AreHex (padded 16 8 n) × (0 < length (padded 16 8 n))
handle_digits n = (are_hex (padded 16 8 n) (digits-padded 16 8 n (omega arith) (omega arith)), omega (arith, length-padded 16 8 n))
