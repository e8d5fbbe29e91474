use Rattle.sk_files.proofs.Places.{set-once}
use Rattle.sk_files.proofs.mem_folder.MemFolderFolder.write.Goals as goal

pub invariant_of-self-2 : goal.invariant_of-self-2
invariant_of-self-2 c =
    set-once _ _ _ _ c.set_file.result c.self.invariant c.set_file.ensures.ok c.set_file.ensures.err

pub returns-clause-once : goal.returns-clause-once
returns-clause-once c =
    set-once _ _ _ _ c.set_file.result c.self.invariant c.set_file.ensures.ok c.set_file.ensures.err
