-- A short text at the front of a row of bytes.
use Rattle.std.specs.Prelude.{◌≡◌, ℕ, ◌≤◌, List, length, slice_index}

pub record IsDraft (bytes : List ℕ) (len : ℕ) : Type 0 where
  pub whole : length bytes ≡ 40
  pub fits : len ≤ 40
  pub rest : (k : ℕ) → len ≤ k → slice_index bytes k ≡ 0
