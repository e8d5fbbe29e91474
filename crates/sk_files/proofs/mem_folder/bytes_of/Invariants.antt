use Rattle.std.proofs.Common.{◌≡◌, drop}
use Rattle.sk_files.specs.Files.{held}
use Rattle.sk_files.specs.Mem.{files_of}
use Rattle.sk_files.proofs.mem_folder.bytes_of.Given as goal

-- What is left holds the same under the name.
abbrev pub invariant-loop-file : goal.invariant-loop-file
invariant-loop-file l = held (files_of (drop l.file-index l.files)) l.name ≡ held (files_of l.files) l.name
