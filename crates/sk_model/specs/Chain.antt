-- A first fault: tests and readings one behind the other, of which the first that fails answers.
use Rattle.std.specs.Prelude.{ℕ, ◌||◌, ◌==◌, nat_lt, nat_eq, ℤ, List, [], ◌∷◌, ◌++◌, Option, Some, None, Bool, true, false, Result, Ok, Err}
use Rattle.std.specs.List.{list_any}
use Rattle.sk_records.specs.Answers.{IsAnswer as IsDefined}
use Rattle.sk_types.specs.declared.standing.Standing.{Standing}
use Rattle.sk_types.specs.declared.standing.Standing.TheVariants as standing
use Rattle.sk_model.specs.declared.faults.ModelFault.{ModelFault}
use Rattle.sk_model.specs.declared.faults.ModelFault.TheVariants.{UnknownKind, LeftOut, NoMemory}
use Rattle.sk_model.specs.declared.faults.Reason.{Reason}

abbrev pub then_of : {T U E : Type 0} → Result T E → (T → Result U E) → Result U E
then_of (Ok x) f = f x
then_of (Err e) f = Err e

-- the fault where the test holds, else what follows
abbrev pub refused : {T E : Type 0} → Bool → E → Result T E → Result T E
refused true e r = Err e
refused false e r = r

-- the fault, if there is one, else what follows
abbrev pub unless : {T E : Type 0} → Option E → Result T E → Result T E
unless None r = r
unless (Some e) r = Err e

-- the number of a kind is refused where things of the number aren't built
abbrev pub by_standing : {T : Type 0} → Standing → Reason → ℕ → ℤ → Result T ModelFault → Result T ModelFault
by_standing standing.Accepted why id n r = r
by_standing standing.LeftOut why id n r = Err (LeftOut id why)
by_standing standing.Unknown why id n r = Err (UnknownKind id n)

-- a handle of things that are numbered from 1 up to the most
abbrev pub is_out_of : ℕ → ℕ → Bool
is_out_of most id = id == 0 || nat_lt most id

abbrev pub seen_in : ℕ → List ℕ → Bool
seen_in id seen = list_any (nat_eq id) seen

-- things in order, each over what is kept of those before it
abbrev pub all_of : {R T X : Type 0} → (T → X) → (List X → R → Result T ModelFault) → List X → List R → Result (List T) ModelFault
all_of kept one seen [] = Ok []
all_of kept one seen (r ∷ rs) = then_of (one seen r) (λ x. then_of (all_of kept one (seen ++ kept x ∷ []) rs) (λ xs. Ok (x ∷ xs)))

-- the answer is the defined one; only want of memory is free
abbrev pub IsAnswer : {T : Type 0} → Result T ModelFault → Result T ModelFault → Type 0
IsAnswer result r = IsDefined NoMemory result r
