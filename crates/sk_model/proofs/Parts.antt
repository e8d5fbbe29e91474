-- Names of parts that are read, or refused.
use Rattle.std.proofs.Common.{◌≡◌, ℕ, List, true, false, refl, Ok, Err}
use Rattle.std.specs.Str.{is_utf8}
use Rattle.sk_text.specs.Lines.{is_empty}
use Rattle.sk_model.specs.declared.faults.ModelFault.TheVariants.{BadValue}
use Rattle.sk_model.specs.Groups.{named_part}

pub named_ok : (id : ℕ) (name text : List ℕ) → is_empty name ≡ false → is_utf8 name ≡ true → text ≡ name → named_part id name ≡ Ok text
named_ok id name text e u t = rw (e, u, t) refl

pub named_fault : (id : ℕ) (name : List ℕ) → is_empty name ≡ false → is_utf8 name ≡ false → named_part id name ≡ Err (BadValue id)
named_fault id name e u = rw (e, u) refl
