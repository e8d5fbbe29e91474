-- When a folder or a sink may answer Failed.
use Rattle.std.specs.Prelude.{ℕ, ◌+◌, ◌-◌, ◌^◌, ◌≤◌, min, ⊤, Result, Ok, Err}
use Rattle.sk_files.specs.declared.folder.OuterFault.{OuterFault}
use Rattle.sk_files.specs.declared.folder.OuterFault.TheVariants.{Failed, NoMemory}

-- One more on a count that stands still at its last value.
abbrev pub one_more : ℕ → ℕ
one_more n = min (n + 1) (2 ^ 64 - 1)

-- The count of faults rose from before to now. At its last value it counts as risen.
abbrev pub Rose : ℕ → ℕ → Type 0
Rose before now = one_more before ≤ now

-- P where the result is Failed
abbrev pub OnFailed : {T : Type 0} → Result T OuterFault → Type 0 → Type 0
OnFailed (Ok x) P = ⊤
OnFailed (Err Failed) P = P
OnFailed (Err NoMemory) P = ⊤

-- P where the result is want of memory
abbrev pub OnNoMemory : {T : Type 0} → Result T OuterFault → Type 0 → Type 0
OnNoMemory (Ok x) P = ⊤
OnNoMemory (Err Failed) P = ⊤
OnNoMemory (Err NoMemory) P = P

-- The count of faults never falls, and Failed comes only where it rose in this call.
pub record HasCause {T : Type 0} (before now : ℕ) (result : Result T OuterFault) : Type 0 where
  pub later : before ≤ now
  pub failed : OnFailed result (Rose before now)
