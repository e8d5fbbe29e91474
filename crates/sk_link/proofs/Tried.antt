-- Records that are tried one after another, and kept by their handles.
use Rattle.std.proofs.Common.{◌≡◌, ◌⊎◌, inl, inr, ℕ, List, Option, Result, Ok, Err, refl, ap}
use Rattle.std.specs.BTreeMap.{insert_entry}
use Rattle.std.specs.List.{fold}
use Rattle.std.specs.Ordering.{nat_cmp}
use Rattle.sk_types.specs.declared.entity.Entity.{Entity}
use Rattle.sk_types.specs.declared.handle.GroupId.{GroupId}
use Rattle.sk_link.specs.declared.fault.PartFault.TheVariants as part
use Rattle.sk_link.specs.declared.fault.Refusal.{Refusal}
use Rattle.sk_link.specs.declared.fault.Refusal.TheVariants.{NoMemory}
use Rattle.sk_link.specs.declared.stored.Stored.{Stored}
use Rattle.sk_link.specs.Chain.{then_of, with_err, each_ok}
use Rattle.sk_link.specs.Faults.{fault_at}

abbrev pub Entries : ℕ → Type 0
Entries s = List (ℕ × Option (Entity s))

module _ {s : ℕ} where
  abbrev pub with_stored : Entries s → List (Stored s) → Entries s
  with_stored es xs = fold (λ es x. insert_entry nat_cmp es x.handle x.entity) es xs

  -- what is left of the records, put behind what is kept already
  abbrev pub LeftOf : {R : Type 0} → (R → Result (Stored s) Refusal) → Entries s → List R → Result (Entries s) Refusal
  LeftOf one es rs = then_of (each_ok one rs) (λ xs. Ok (with_stored es xs))

-- the fault of a group whose part is refused
pub part_refused : {T : Type 0} (g : GroupId) (f : Refusal) (m : Result T Refusal) → (f ≡ NoMemory) ⊎ (m ≡ Err f) → (fault_at g f ≡ part.NoMemory) ⊎ (with_err (fault_at g) m ≡ Err (fault_at g f))
part_refused g f m (inl e) = inl (ap (fault_at g) e)
part_refused g f m (inr e) = inr (rw e refl)
