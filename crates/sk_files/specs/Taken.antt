-- Bytes that a sink took, where it tells them. Where nothing is told before, nothing is told after.
use Rattle.std.specs.Prelude.{◌≡◌, ℕ, List, ◌++◌, Option}
use Rattle.std.specs.Io.KnownBytes.{append_known}

-- All of the bytes were taken, after those before.
abbrev pub Takes : Option (List ℕ) → Option (List ℕ) → List ℕ → Type 0
Takes before now bytes = now ≡ append_known before bytes

-- A first part of the bytes was taken, after those before.
pub record TakesPrefix (before now : Option (List ℕ)) (bytes : List ℕ) : Type 0 where
  pub front : List ℕ
  pub rest : List ℕ
  pub whole : front ++ rest ≡ bytes
  pub taken : now ≡ append_known before front
