use Rattle.std.proofs.Common.{inl, inr}
use Rattle.sk_files.specs.TakenLaws.{Takes-none}
use Rattle.sk_app.specs.Ends.{nothing}
use Rattle.sk_app.specs.Lent.{words_of, shown}
use Rattle.sk_app.proofs.Endings.{ends_by_finish, ends_by_memory, rose_later, rose_since}
use Rattle.sk_app.proofs.Opened.{answered_so}
use Rattle.sk_app.proofs.top.ended.Goals as goal

pub returns-in-Ok-put_all : goal.returns-in-Ok-put_all
returns-in-Ok-put_all g c =
    let answer = shown c.in-Ok.prepared in
    let took = rw c.deref.ensures.value at (rw c.in-Ok-put_all.is at c.put_all.ensures.all) in
    record {
      runs = inl (answered_so (words_of c.args.words.now) _ _ (λ rose. rose_later _ _ _ c.finish.ensures.folder rose) answer c.in-Ok.ensures.answer c.finish.result
          (ends_by_finish answer _ _ _ _ _ c.args.steps.now c.prepare.new.steps _ _ _ _ _ _ c.finish.result c.in-Ok.ensures.later c.put_all.ensures.cause.later took (rw c.in-Ok.ensures.files at c.finish.ensures.end)));
    }

pub returns-in-Ok : goal.returns-in-Ok
returns-in-Ok g c =
    let answer = shown c.in-Ok.prepared in
    let m = c.put_memory.ensures in
    let took = rw c.deref.ensures.value at (rw c.in-Err-NoMemory.field-0-is at c.in-Err-NoMemory.ensures.no_memory) in
    record {
      runs = inl (answered_so (words_of c.args.words.now) _ _ (λ rose. rose) answer c.in-Ok.ensures.answer c.put_memory.result
          (ends_by_memory answer _ _ _ _ _ c.args.steps.now c.prepare.new.steps _ 0 _ _ 0 _ took.0 c.put_memory.result c.in-Ok.ensures.files took.1 m.end
          (λ e. (rose_since _ _ _ c.put_all.ensures.cause.later (m.failed e).0, (m.failed e).1)) m.memory));
    }

pub returns : goal.returns
returns g c =
    let m = c.put_memory-in-Err.ensures in
    record { runs = inr (record { end_is = m.end; ends = ends_by_memory nothing _ _ _ _ _ c.args.steps.now c.prepare.new.steps _ 0 _ _ 0 _ 0 c.put_memory-in-Err.result c.prepare.ensures.files (Takes-none _) m.end m.failed m.memory }) }
