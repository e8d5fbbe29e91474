use Rattle.std.proofs.Common.{length, ap, ◌∙◌, refl}
use Rattle.sk_num.specs.PaddedLaws.{length-padded}
use Rattle.sk_num.specs.Spelling.{handle_of}
use Rattle.sk_num.proofs.spelling.handle_text.Goals as goal

pub returns-clause-read_back : goal.returns-clause-read_back
unfolding handle_of
returns-clause-read_back c =
    let l = ap length c.hexadecimal_text.ensures.text ∙ length-padded 16 8 c.args.h in
    rw (l, c.hexadecimal_text.ensures.read_back) refl
