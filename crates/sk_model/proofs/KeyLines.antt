-- Keys of a kind of record, and what is found for them.
use Rattle.std.proofs.Common.{◌≡◌, ℕ, List, ◌++◌, length, map, take, Option, sym, ap, ◌∙◌, length-append, arith}
use Rattle.std.specs.Borrow.{Bor}
use Rattle.std.proofs.lemmas.List.{length-map, length-take}
use Rattle.std.proofs.lemmas.Simd.{map-map}
use Rattle.sk_records.specs.Rows.{Row, last_place}
use Rattle.sk_model.specs.declared.keys.Key.{Key}
use Rattle.sk_model.specs.Keys.{key_bytes}

pub found_lines : (table : List (Bor (List ℕ))) (keys : List Key) (rows : List Row) (found : List (Option ℕ)) → map (λ (k : Bor (List ℕ)). k.now) table ≡ map key_bytes keys →
    found ≡ map (λ (k : Bor (List ℕ)). last_place k.now rows) table → found ≡ map (λ (k : Key). last_place (key_bytes k) rows) keys
found_lines table keys rows found same e =
    e ∙ sym (map-map (λ (b : List ℕ). last_place b rows) (λ (k : Bor (List ℕ)). k.now) table)
    ∙ ap (map (λ (b : List ℕ). last_place b rows)) same
    ∙ map-map (λ (b : List ℕ). last_place b rows) key_bytes keys

pub found_length : (table : List (Bor (List ℕ))) (rows : List Row) (found : List (Option ℕ)) → found ≡ map (λ (k : Bor (List ℕ)). last_place k.now rows) table → length found ≡ length table
found_length table rows found e = ap length e ∙ length-map table (λ (k : Bor (List ℕ)). last_place k.now rows)

-- what is written back through a slice of the whole is as long
pub room_kept : (n m : ℕ) (new rest old : List (Option ℕ)) → length new ≡ m → length old ≡ m → n ≡ length old → length (take n (new ++ rest)) ≡ m
room_kept n m new rest old a b c = simp (length-take, length-append) (omega arith)
