use Rattle.sk_link.specs.Replies.{Gave}
use Rattle.sk_link.proofs.Replied.{gave_reply, one_memory}
use Rattle.sk_link.proofs.parts.read_part.Goals as goal

pub returns-in-Ok-Some-clause-reads : goal.returns-in-Ok-Some-clause-reads
returns-in-Ok-Some-clause-reads g c =
    let read = rw c.as_str.ensures at (rw c.in-Ok-Some.field-0-is at c.in-Ok-Some.ensures.answer) in
    record {
      reply = Gave c.in-Ok-Some.text.items;
      given = gave_reply _ _ _ c.in-Ok-Some.text read;
      answer = c.part_at.ensures;
    }

pub returns-in-Err-NoMemory-clause-reads : goal.returns-in-Err-NoMemory-clause-reads
returns-in-Err-NoMemory-clause-reads g c = one_memory _ _ c.args.group.now
