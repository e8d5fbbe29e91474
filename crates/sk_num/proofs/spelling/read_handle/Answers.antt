use Rattle.std.proofs.Common.{length, sym, ◌∙◌, arith, refl}
use Rattle.sk_num.specs.Numerals.{numeral}
use Rattle.sk_num.specs.Spelling.{handle_of}
use Rattle.sk_num.specs.SpellingLemmas.{handle-read, short-text}
use Rattle.sk_num.proofs.spelling.read_handle.Goals as goal

pub overflow_cast-result : goal.overflow_cast-result
overflow_cast-result c =
    let h = handle-read c.args.t.now (numeral 16 c.args.t.now) c.in_ok-handle.handle (omega arith) refl (sym c.read_numeral.ensures ∙ c.in_ok-handle.ensures.ok_part) in
    omega (arith, h.0)

pub returns : goal.returns
unfolding handle_of
returns c =
    let h = handle-read c.args.t.now (numeral 16 c.args.t.now) c.in_ok-handle.handle (omega arith) refl (sym c.read_numeral.ensures ∙ c.in_ok-handle.ensures.ok_part) in
    rw (short-text (length c.args.t.now) (omega arith)) (sym h.1)
