-- The first fault of things in a row, one by one.
use Rattle.std.proofs.Math.Seq.{drop-nil}
use Rattle.std.proofs.Common.{◌≡◌, ℕ, zero, suc, ◌+◌, ◌<◌, ◌≤◌, List, [], ◌∷◌, length, get_or, drop, Option, Some, None, refl, sym, ◌∙◌, add-one, drop-cons, arith}
use Rattle.sk_model.specs.declared.faults.ModelFault.{ModelFault}
use Rattle.sk_chain.specs.Outlines.{first_fault}

module _ {T : Type 0} (fault : T → Option ModelFault) (xs : List T) (i : ℕ) (d : T) (m : Option ModelFault) (l : i < length xs) (h : first_fault fault (drop i xs) ≡ m) where
  pub fault_found : (f : ModelFault) → fault (get_or xs i d) ≡ Some f → Some f ≡ m
  fault_found f e = sym (rw (drop-cons xs i d l, e) refl) ∙ h

  pub fault_none : fault (get_or xs i d) ≡ None → first_fault fault (drop (i + 1) xs) ≡ m
  fault_none e = rw add-one (rw (drop-cons xs i d l, e) at h)

-- behind the last there is no fault
pub fault_behind : {T : Type 0} (fault : T → Option ModelFault) (xs : List T) (i : ℕ) (m : Option ModelFault) → length xs ≤ i → first_fault fault (drop i xs) ≡ m → None ≡ m
fault_behind fault [] i m l h = rw (drop-nil i) at h
fault_behind fault (x ∷ xs) zero m l h = absurd (omega arith)
fault_behind fault (x ∷ xs) (suc i) m l h = fault_behind fault xs i m (omega arith) h
