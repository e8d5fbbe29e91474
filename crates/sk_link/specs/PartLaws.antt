-- Which record of a part counts.
use Rattle.std.specs.Prelude.{◌≡◌, ℕ, ◌==◌, List, [], ◌∷◌, Option, Some, None, Ok, if◌then◌else◌}
use Rattle.std.specs.Option.{option_or, option_and_then}
use Rattle.sk_types.specs.declared.entity.Entity.{Entity}
use Rattle.sk_types.specs.Lookups.{entity_at}
use Rattle.sk_records.specs.declared.kinds.Kind.TheVariants as kind
use Rattle.sk_records.specs.Blocks.{Block, records}
use Rattle.sk_records.specs.Reading.{read_text}
use Rattle.sk_link.specs.declared.stored.Stored.{Stored}
use Rattle.sk_link.specs.Chain.{each_ok}
use Rattle.sk_link.specs.Stored.{stored}
use Rattle.sk_link.specs.Part.{part_in}

-- what the last record with the handle stores; None where no record has it
abbrev pub last_stored : {s : ℕ} → ℕ → List (Stored s) → Option (Option (Entity s))
last_stored h [] = None
last_stored h (x ∷ xs) = option_or (last_stored h xs) (if h == x.handle then Some x.entity else None)

-- The entity of a part under a handle is that of the last record with the handle, in file order: none where that record's number
-- is no entity's, whatever earlier ones store.
abbrev pub LastCountsLaw : Type 0
LastCountsLaw = (s h : ℕ) (text : List ℕ) (bs : List Block) (xs : List (Stored s)) (es : List (Entity s))
    → read_text text ≡ Ok bs → each_ok (stored s) (records kind.Entity bs) ≡ Ok xs → part_in s text ≡ Ok es
    → entity_at h es ≡ option_and_then (λ o. o) (last_stored h xs)
