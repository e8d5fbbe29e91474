use Rattle.std.proofs.Common.{◌≡◌, ◌++◌, length, take, arith, sym, ap, ◌∙◌, append_assoc}
use Rattle.sk_records.specs.Written.{bytes_of}
use Rattle.sk_records.specs.Holding.Held.{bytes_at, blocks_at}
use Rattle.sk_records.proofs.HeldLines.{line_bytes_at}
use Rattle.sk_records.proofs.WrittenLemmas.{back}
use Rattle.sk_records.proofs.book.Book.write.Goals as goal

pub returns-in-Ok-clause-ok : goal.returns-in-Ok-clause-ok
returns-in-Ok-clause-ok c =
    let text = c.self.inside.text.items in
    let header = c.self.inside.header in
    let rest = bytes_of (blocks_at text c.self.inside.items.items) in
    let done : c.write_items.new.out.items ≡ c.extend_from_slice.new.self.items ++ rest = rw (c.deref-2.ensures.value, c.deref-3.ensures.value) at c.in-Ok.ensures.ok in
    let first : c.extend_from_slice.new.self.items ≡ c.args.out.now.items ++ bytes_at text header.start header.end = rw c.deref.ensures.value at c.in_ok-extend_from_slice.ensures.items in
    rw (← c.self.view_is)
    (done ∙ ap (λ x. x ++ rest) first ∙ append_assoc c.args.out.now.items (bytes_at text header.start header.end) rest
    ∙ ap (λ x. c.args.out.now.items ++ (x ++ rest)) (sym (line_bytes_at text header c.self.invariant.first)))

pub returns-in-Err-clause-err : goal.returns-in-Err-clause-err
returns-in-Err-clause-err c =
    let old = c.args.out.now.items in
    let n : c.len-before.result ≡ length old = omega arith in
    c.truncate.ensures.items ∙ ap (λ k. take k c.write_items.new.out.items) n
    ∙ back old _ c.extend_from_slice.new.self.items c.write_items.new.out.items c.in_ok-extend_from_slice.ensures.items c.in-Err.ensures.kept
