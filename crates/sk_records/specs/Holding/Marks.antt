-- The mark of a held line: its number, its role and the length of its end in one number.
use Rattle.std.proofs.Common.{◌≡◌, ℕ, ◌+◌, ◌*◌, ◌/◌, ◌%◌, ◌<◌, refl, arith}
use Rattle.std.specs.Prelude.{if◌then◌else◌, nat_eq}
use Rattle.sk_records.specs.declared.rows.Mark.{Mark}
use Rattle.sk_records.specs.Rows.{Role, Plain, Brace, Entry}

-- the place of a role among the roles
abbrev pub role_place : Role → ℕ
role_place Plain = 0
role_place Brace = 1
role_place Entry = 2

abbrev pub role_at : ℕ → Role
role_at n = if nat_eq n 0 then Plain else if nat_eq n 1 then Brace else Entry

unfoldable pub mark_of : ℕ → Role → ℕ → Mark
mark_of number role end_len = record { code = (number * 4 + role_place role) * 4 + end_len }

unfoldable pub mark_number : Mark → ℕ
mark_number m = m.code / 4 / 4

unfoldable pub mark_role : Mark → Role
mark_role m = role_at (m.code / 4 % 4)

unfoldable pub mark_end : Mark → ℕ
mark_end m = m.code % 4

-- the mark of the same line without its number
abbrev pub bare_mark : Mark → Mark
bare_mark m = mark_of 0 (mark_role m) (mark_end m)

-- what was marked is read back
quotient : (q r : ℕ) → r < 4 → (q * 4 + r) / 4 ≡ q
quotient q r small = omega (arith, small)

remainder : (q r : ℕ) → r < 4 → (q * 4 + r) % 4 ≡ r
remainder q r small = omega (arith, small)

role_small : (role : Role) → role_place role < 4
role_small Plain = omega arith
role_small Brace = omega arith
role_small Entry = omega arith

role_back : (role : Role) → role_at (role_place role) ≡ role
role_back Plain = refl
role_back Brace = refl
role_back Entry = refl

pub number_marked : (n : ℕ) (role : Role) (e : ℕ) → e < 4 → mark_number (mark_of n role e) ≡ n
unfolding mark_number mark_of
number_marked n role e small = rw (quotient (n * 4 + role_place role) e small) (quotient n (role_place role) (role_small role))

pub role_marked : (n : ℕ) (role : Role) (e : ℕ) → e < 4 → mark_role (mark_of n role e) ≡ role
unfolding mark_role mark_of
role_marked n role e small = rw (quotient (n * 4 + role_place role) e small, remainder n (role_place role) (role_small role)) (role_back role)

pub end_marked : (n : ℕ) (role : Role) (e : ℕ) → e < 4 → mark_end (mark_of n role e) ≡ e
unfolding mark_end mark_of
end_marked n role e small = remainder (n * 4 + role_place role) e small

pub end_small : (m : Mark) → mark_end m < 4
unfolding mark_end
end_small m = omega arith
