-- The count that is written so, from some number on.
use Rattle.std.proofs.Common.{◌≡◌, ◌<◌, ℕ, suc, ◌+◌, ◌-◌, List, Option, Some, None, true, false, refl, arith}
use Rattle.std.specs.Fmt.{decimal}
use Rattle.std.specs.List.{find, range_with_len}
use Rattle.std.specs.Str.{bytes_eq}
use Rattle.sk_app.specs.Command.{count_of}

-- up to 90
abbrev pub written_from : ℕ → List ℕ → Option ℕ
written_from c word = find (λ n. bytes_eq (decimal n) word) (range_with_len c (91 - c))

pub from_one : (word : List ℕ) → count_of word ≡ written_from 1 word
unfolding count_of
from_one word = refl

pub is_written : (c : ℕ) (word : List ℕ) → c < 91 → bytes_eq (decimal c) word ≡ true → written_from c word ≡ Some c
is_written c word l e = let n : 91 - c ≡ suc (90 - c) = omega (arith, l) in rw (n, e) refl

pub is_other : (c : ℕ) (word : List ℕ) → c < 91 → bytes_eq (decimal c) word ≡ false → written_from c word ≡ written_from (c + 1) word
is_other c word l e = let n : 91 - c ≡ suc (90 - c) = omega (arith, l) in let m : 91 - (c + 1) ≡ 90 - c = omega (arith, l) in rw (n, e, m) refl

pub none_left : (word : List ℕ) → written_from 91 word ≡ None
none_left word = refl
