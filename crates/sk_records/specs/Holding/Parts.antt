-- The bytes of a part of an entry.
use Rattle.std.specs.Prelude.{ℕ, Bool}
use Rattle.sk_records.specs.declared.classes.Part.{Part}
use Rattle.sk_records.specs.declared.classes.Part.TheVariants.{Spaces, Digits, HexDigits}
use Rattle.sk_records.specs.Classes.{is_space, is_digit, is_hex_digit}

abbrev pub part_test : Part → ℕ → Bool
part_test Spaces b = is_space b
part_test Digits b = is_digit b
part_test HexDigits b = is_hex_digit b
