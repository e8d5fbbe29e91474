-- Decimal numbers and units, by whole parts and decimals.
use Rattle.std.specs.Prelude.{ℕ, ◌+◌, ◌*◌, ◌/◌, ◌%◌, ◌^◌, ℤ, unsigned_abs}
use Rattle.std.specs.Int.{is_negative}
use Rattle.sk_num.specs.declared.decimal.Decimal.{Decimal}

-- how many units of 2^-s are nearest to the number without its sign, halves up
abbrev pub magnitude_at : ℕ → Decimal → ℕ
magnitude_at s d = d.whole * 2 ^ s + (2 * (d.decimals * 2 ^ s) + 10 ^ 20) / (2 * 10 ^ 20)

-- the decimal number nearest to z units of 2^-s, halves up without the sign
abbrev pub decimal_at : ℕ → ℤ → Decimal
decimal_at s z = record {
  negative = is_negative z;
  whole = unsigned_abs z / 2 ^ s;
  decimals = (2 * (unsigned_abs z % 2 ^ s * 10 ^ 20) + 2 ^ s) / (2 * 2 ^ s);
}
