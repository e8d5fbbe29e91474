-- The places of the last lines with some keys, found in one pass.
use Rattle.std.specs.Prelude.{ℕ, ◌+◌, List, [], ◌∷◌, Option, Some, None, if◌then◌else◌}
use Rattle.std.specs.Borrow.{Bor}
use Rattle.std.specs.Option.{option_map}
use Rattle.std.specs.Str.{bytes_eq}
use Rattle.sk_text.specs.Keys.{parts_at_equals}
use Rattle.sk_records.specs.Rows.{Row, Role, Plain, Brace, Entry}

-- the key of a line that has one
abbrev pub key_at : Role → List ℕ → Option (List ℕ)
key_at Plain body = option_map (λ (p : List ℕ × List ℕ). p.0) (parts_at_equals body)
key_at Brace body = None
key_at Entry body = None

-- the place of a line is noted where its key is wanted
abbrev pub noted : List ℕ → ℕ → List (Bor (List ℕ)) → List (Option ℕ) → List (Option ℕ)
noted key at [] fs = fs
noted key at (k ∷ ks) [] = []
noted key at (k ∷ ks) (f ∷ fs) = (if bytes_eq key k.now then Some at else f) ∷ noted key at ks fs

abbrev pub noted_of : Option (List ℕ) → ℕ → List (Bor (List ℕ)) → List (Option ℕ) → List (Option ℕ)
noted_of None at ks fs = fs
noted_of (Some key) at ks fs = noted key at ks fs

-- the lines from a place on, one after the other
abbrev pub noted_from : ℕ → List Row → List (Bor (List ℕ)) → List (Option ℕ) → List (Option ℕ)
noted_from i [] ks fs = fs
noted_from i (r ∷ rs) ks fs = noted_from (i + 1) rs ks (noted_of (key_at r.role r.body) i ks fs)
