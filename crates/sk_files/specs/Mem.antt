-- What a folder and a sink in memory are seen as.
use Rattle.std.specs.Prelude.{ℕ, suc, List, [], ◌∷◌, map, Option, Some, None, cond, string_bytes}
use Rattle.std.specs.Str.{bytes_eq}
use Rattle.sk_files.specs.declared.mem_folder.Held.{Held}
use Rattle.sk_files.specs.Files.{Files}
use Rattle.sk_files.specs.Calls.{CallState}

-- The files, and the calls of read and write, counted together.
pub record FolderState : Type 0 where
  pub files : Files
  pub calls : CallState

-- The bytes taken, and the calls of put.
pub record SinkState : Type 0 where
  pub taken : List ℕ
  pub calls : CallState

-- the files that are held, by name
abbrev pub files_of : List Held → Files
files_of files = map (λ (h : Held). (string_bytes h.name, h.bytes.items)) files

-- the place of the first file with a name, counted from i
abbrev pub place_from : List ℕ → ℕ → Files → Option ℕ
place_from name i [] = None
place_from name i (f ∷ fs) = cond (bytes_eq f.0 name) (Some i) (place_from name (suc i) fs)
