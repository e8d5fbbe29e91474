use Rattle.std.proofs.Common.{refl}
use Rattle.sk_files.specs.Outcome.{Rose}
use Rattle.sk_link.specs.Replies.{Gave}
use Rattle.sk_app.proofs.Replies.{gave_reply, some_reply}
use Rattle.sk_app.proofs.opening.read_text.Goals as goal

pub returns-in-Ok-Some-clause-text : goal.returns-in-Ok-Some-clause-text
returns-in-Ok-Some-clause-text g c =
    let text = c.in-Ok-Some.text in
    record { reply = Gave text.items; is = gave_reply _ _ _ text (rw c.in-Ok-Some.field-0-is at c.in-Ok-Some.ensures.answer); text = refl }

pub returns-in-Err-NoMemory-clause-text : goal.returns-in-Err-NoMemory-clause-text
returns-in-Err-NoMemory-clause-text g c =
    let (reply, is) = some_reply (g.F.Folder.files c.args.folder.now) c.args.name.now (Rose (g.F.Folder.faults c.args.folder.now) (g.F.Folder.faults c.read.new.self)) in
    record { reply = reply; is = is; text = tt }
