-- The entities of a part (SolveSpace's file format).
use Rattle.std.specs.Prelude.{ℕ, List, [], Option, Result, Ok}
use Rattle.std.specs.BTreeMap.{insert_entry}
use Rattle.std.specs.List.{fold, filter_map}
use Rattle.std.specs.Map.{values_of}
use Rattle.std.specs.Ordering.{nat_cmp}
use Rattle.sk_types.specs.declared.entity.Entity.{Entity}
use Rattle.sk_records.specs.declared.kinds.Kind.TheVariants as kind
use Rattle.sk_records.specs.Blocks.{Block, records}
use Rattle.sk_records.specs.Reading.{read_text}
use Rattle.sk_link.specs.declared.fault.Refusal.{Refusal}
use Rattle.sk_link.specs.declared.fault.Refusal.TheVariants.{Text}
use Rattle.sk_link.specs.declared.stored.Stored.{Stored}
use Rattle.sk_link.specs.Chain.{then_of, with_err, each_ok}
use Rattle.sk_link.specs.Stored.{stored}

-- what the records store by rising handle: a later record with a handle takes the place of an earlier one
abbrev pub by_handle : {s : ℕ} → List (Stored s) → List (ℕ × Option (Entity s))
by_handle xs = fold (λ es x. insert_entry nat_cmp es x.handle x.entity) [] xs

-- the entities among them
abbrev pub present_in : {s : ℕ} → List (ℕ × Option (Entity s)) → List (Entity s)
present_in es = filter_map (λ e. e) (values_of es)

-- the entities among the records that count
abbrev pub counted : {s : ℕ} → List (Stored s) → List (Entity s)
counted xs = present_in (by_handle xs)

-- all keys of all entity records are read, in file order
abbrev pub entities_in : (s : ℕ) → List Block → Result (List (Entity s)) Refusal
entities_in s bs = then_of (each_ok (stored s) (records kind.Entity bs)) (λ xs. Ok (counted xs))

-- the entities of a part's text, or its first fault
unfoldable pub part_in : (s : ℕ) → List ℕ → Result (List (Entity s)) Refusal
part_in s text = then_of (with_err Text (read_text text)) (entities_in s)
