-- Files that are told, and what calls do to them. Where nothing is told before, nothing is told after.
use Rattle.std.specs.Prelude.{◌≡◌, ◌≢◌, ℕ, List, [], ◌∷◌, Option, Some, None, ⊤, cond}
use Rattle.std.specs.Str.{bytes_eq}
use Rattle.std.specs.Option.{option_map}
use Rattle.std.specs.declared.vec.Vec.{Vec}

-- the names of the files with their bytes
abbrev pub Files : Type 0
Files = List (List ℕ × List ℕ)

-- the bytes of the file with a name, or None where there is no such file
abbrev pub held : Files → List ℕ → Option (List ℕ)
held [] name = None
held (f ∷ fs) name = cond (bytes_eq f.0 name) (Some f.1) (held fs name)

-- The name is set to the bytes. No other file changes.
abbrev pub with_file : Files → List ℕ → List ℕ → Files
with_file [] name bytes = (name, bytes) ∷ []
with_file (f ∷ fs) name bytes = cond (bytes_eq f.0 name) ((f.0, bytes) ∷ fs) (f ∷ with_file fs name bytes)

-- No name stands twice.
abbrev pub IsOnceEach : Files → Type 0
IsOnceEach [] = ⊤
IsOnceEach (f ∷ fs) = (held fs f.0 ≡ None) × IsOnceEach fs

-- P of the files, where they are told
abbrev pub OnTold : Option Files → (Files → Type 0) → Type 0
OnTold None P = ⊤
OnTold (Some files) P = P files

-- the bytes of a file that was read
abbrev pub bytes_of : {A : Type 0} → Option (Vec ℕ A) → Option (List ℕ)
bytes_of read = option_map (λ v. v.items) read

-- What was read is what is held under the name: None exactly where the name isn't held.
abbrev pub IsTheRead : {A : Type 0} → Option Files → List ℕ → Option (Vec ℕ A) → Type 0
IsTheRead None name read = ⊤
IsTheRead (Some files) name read = bytes_of read ≡ held files name

-- The name was set to the bytes, and no other file changed.
abbrev pub WritesFile : Option Files → Option Files → List ℕ → List ℕ → Type 0
WritesFile before now name bytes = now ≡ option_map (λ files. with_file files name bytes) before

-- Every other name stands for what it stood for.
abbrev pub KeepsOthers : Option Files → Option Files → List ℕ → Type 0
KeepsOthers None now name = now ≡ None
KeepsOthers (Some files) now name =
    (after : Files) × (now ≡ Some after) × ((other : List ℕ) → other ≢ name → held after other ≡ held files other)
