use Rattle.std.proofs.Common.{◌≡◌, ℕ, List, ◌++◌, length, take, ap, sym, ◌∙◌, arith}
use Rattle.sk_num.specs.Numerals.{numeral, padded}
use Rattle.sk_num.specs.PaddedLaws.{length-padded}
use Rattle.sk_num.specs.DecimalLaws.{numeral-padded}
use Rattle.sk_num.proofs.numeral.hexadecimal_text.Goals as goal

pub returns-clause-text : goal.returns-clause-text
returns-clause-text c =
    let p = c.push_padded.ensures ∙ ap (λ (z : List ℕ). z ++ padded 16 8 c.from.result) c.new-draft.ensures ∙ ap (padded 16 8) c.from.ensures in
    let n : c.into_parts.result.1 ≡ 8 = c.into_parts.ensures.count ∙ ap length p ∙ length-padded 16 8 c.args.n in
    c.copy_from_slice.ensures.after ∙ ap (λ k. take k c.into_parts.result.0) (sym n) ∙ c.into_parts.ensures.text ∙ p

pub returns-clause-read_back : goal.returns-clause-read_back
returns-clause-read_back c = ap (numeral 16) (returns-clause-text c) ∙ numeral-padded 16 8 c.args.n (omega arith) (omega arith) (omega arith) (omega arith)
