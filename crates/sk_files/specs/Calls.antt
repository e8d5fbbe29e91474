-- The calls of a folder or a sink in memory: which of them are to fail.
use Rattle.std.specs.Prelude.{ℕ, ◌+◌, ◌-◌, ◌^◌, List, Option, Some, None, Bool, false, nat_eq, if◌then◌else◌}
use Rattle.std.specs.List.{list_any}
use Rattle.sk_files.specs.Outcome.{one_more}

-- Calls are numbered from 0. next is the number of the next call, and None past the last number
-- 2^64 - 1. listed are the numbers of the calls that fail, and faults counts those that failed.
pub record CallState : Type 0 where
  pub next : Option ℕ
  pub listed : List ℕ
  pub faults : ℕ

-- the number after this one
abbrev pub next_number : Option ℕ → Option ℕ
next_number None = None
next_number (Some n) = if nat_eq n (2 ^ 64 - 1) then None else Some (n + 1)

-- whether the number is among the listed ones
abbrev pub is_among : Option ℕ → List ℕ → Bool
is_among None listed = false
is_among (Some n) listed = list_any (λ k. nat_eq k n) listed

-- whether the next call fails
abbrev pub fails_next : CallState → Bool
fails_next s = is_among s.next s.listed

-- the calls after one more of them
abbrev pub after_call : CallState → CallState
after_call s = record {
  next = next_number s.next;
  listed = s.listed;
  faults = if fails_next s then one_more s.faults else s.faults;
}
