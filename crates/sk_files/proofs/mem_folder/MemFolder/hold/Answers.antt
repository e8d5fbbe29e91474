use Rattle.sk_files.proofs.Places.{set-once}
use Rattle.sk_files.proofs.mem_folder.MemFolder.hold.Goals as goal

pub invariant_of-self : goal.invariant_of-self
invariant_of-self c =
    set-once _ _ _ _ c.set_file.result c.self.invariant c.set_file.ensures.ok c.set_file.ensures.err
