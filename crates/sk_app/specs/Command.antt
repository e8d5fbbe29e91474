-- What the words of the program ask for.
use Rattle.std.specs.Prelude.{ℕ, List, [], ◌∷◌, Option, Some, None, option_map, codes, if◌then◌else◌}
use Rattle.std.specs.Fmt.{decimal}
use Rattle.std.specs.List.{find, range_with_len}
use Rattle.std.specs.Result.{result_ok}
use Rattle.std.specs.Str.{bytes_eq}
use Rattle.sk_num.specs.Spelling.{handle_of}

-- one case for each command, with what it takes: names of files, a group's handle, a count of lines
pub data Command : Type 0 where
  Report : List ℕ → Command
  Regen : List ℕ → List ℕ → Command
  Draw : List ℕ → ℕ → List ℕ → Command
  Make : ℕ → List ℕ → Command

-- a command, and the scale of its numbers
pub record Asked : Type 0 where
  pub scale : ℕ
  pub command : Command

-- the count from 1 to 90 that is written so in decimal
unfoldable pub count_of : List ℕ → Option ℕ
count_of word = find (λ n. bytes_eq (decimal n) word) (range_with_len 1 90)

abbrev pub report_of : List (List ℕ) → Option Command
report_of (model ∷ []) = Some (Report model)
report_of words = None

abbrev pub regen_of : List (List ℕ) → Option Command
regen_of (model ∷ out ∷ []) = Some (Regen model out)
regen_of words = None

abbrev pub draw_of : List (List ℕ) → Option Command
draw_of (model ∷ group ∷ out ∷ []) = option_map (λ g. Draw model g out) (result_ok (handle_of group))
draw_of words = None

abbrev pub make_of : List (List ℕ) → Option Command
make_of (count ∷ out ∷ []) = option_map (λ n. Make n out) (count_of count)
make_of words = None

-- `report MODEL`, `regen MODEL OUT`, `dxf MODEL GROUP OUT`, `make N OUT`; any other words are no command
abbrev pub command_of : List (List ℕ) → Option Command
command_of [] = None
command_of (word ∷ words) =
    if bytes_eq word (codes "report") then report_of words else
    if bytes_eq word (codes "regen") then regen_of words else
    if bytes_eq word (codes "dxf") then draw_of words else
    if bytes_eq word (codes "make") then make_of words else
    None

abbrev pub at_scale : ℕ → Option Command → Option Asked
at_scale s command = option_map (λ c. record { scale = s; command = c }) command

-- with `fine` as the first word, numbers are counts of 2^-44, else of 2^-36
abbrev pub asked_of : List (List ℕ) → Option Asked
asked_of [] = None
asked_of (word ∷ words) = if bytes_eq word (codes "fine") then at_scale 44 (command_of words) else at_scale 36 (command_of (word ∷ words))

-- the name of the model that a command reads
abbrev pub model_name : Command → Option (List ℕ)
model_name (Report model) = Some model
model_name (Regen model out) = Some model
model_name (Draw model group out) = Some model
model_name (Make n out) = None
