-- The lines of records, as a made model has them.
use Rattle.std.specs.Prelude.{ℕ, ◌*◌, ◌^◌, List, [], ◌∷◌, ◌++◌, pos}
use Rattle.std.specs.Fmt.{decimal}
use Rattle.sk_num.specs.Numerals.{padded}
use Rattle.sk_num.specs.Spelling.{quantity_text}

abbrev pub line : List ℕ → List ℕ
line text = text ++ 10 ∷ []

-- a key with its value, which is a handle, a whole number or a quantity
unfoldable pub handle_line : List ℕ → ℕ → List ℕ
handle_line key h = line (key ++ (61 ∷ padded 16 8 h))

unfoldable pub whole_line : List ℕ → ℕ → List ℕ
whole_line key n = line (key ++ (61 ∷ decimal n))

unfoldable pub quantity_line : List ℕ → ℕ → List ℕ
quantity_line key n = line (key ++ (61 ∷ quantity_text 36 (pos (n * 2 ^ 36))))

-- the line that closes a record, and the empty line behind it
unfoldable pub close : List ℕ → List ℕ
close word = line word ++ line []
