use Rattle.std.proofs.Common.{◌≡◌, drop}
use Rattle.sk_files.specs.Mem.{files_of, place_from}
use Rattle.sk_files.proofs.mem_folder.place_of.Given as goal

-- What is left gives the same place.
abbrev pub invariant-loop-place : goal.invariant-loop-place
invariant-loop-place l = place_from l.name l.place (files_of (drop l.place l.files)) ≡ place_from l.name 0 (files_of l.files)
