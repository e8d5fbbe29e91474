use Rattle.std.proofs.Common.{sym, refl, arith}
use Rattle.sk_files.proofs.Places.{files_of-bounds, files_of-set, files_of-push}
use Rattle.sk_files.proofs.mem_folder.set_file.Goals as goal

pub index_mut-requires : goal.index_mut-requires
index_mut-requires c =
    let b = files_of-bounds c.args.files.now.items c.args.name.now c.in-Some.place (rw c.deref.ensures.value at (sym c.in-Some.ensures)) in
    omega (arith, b)

pub returns-in-Some-clause-ok : goal.returns-in-Some-clause-ok
returns-in-Some-clause-ok c =
    files_of-set c.args.files.now.items c.args.name.now c.args.bytes.now c.in-Some.place c.index_mut.result.now _
    (rw c.deref.ensures.value at (sym c.in-Some.ensures)) c.index_mut.ensures.value refl c.in_ok-bytes.ensures.items

pub returns-in_ok-push-in-None-clause-ok : goal.returns-in_ok-push-in-None-clause-ok
returns-in_ok-push-in-None-clause-ok c =
    rw c.in_ok-push-in-None.ensures.items (files_of-push c.args.files.now.items c.args.name.now c.args.bytes.now _
    (rw c.deref.ensures.value at (sym c.in-None.ensures)) c.in_ok-name-in-None.ensures.ok c.in_ok-bytes.ensures.items)
