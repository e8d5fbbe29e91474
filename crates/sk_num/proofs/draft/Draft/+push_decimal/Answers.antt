use Rattle.std.proofs.Common.{ℕ, ◌+◌, ◌/◌, ◌%◌, List, [], ◌∷◌, ◌++◌, length, ap, sym, ◌∙◌, arith, length-append, append_assoc}
use Rattle.std.specs.Fmt.{decimal}
use Rattle.std.proofs.lemmas.Fmt.{decimal_step, decimal_digit}
use Rattle.sk_num.specs.PaddedLaws.{length-decimal_step}
use Rattle.sk_num.proofs.draft.Draft.+push_decimal.Goals as goal

pub push_decimal-requires : goal.push_decimal-requires
push_decimal-requires t c = (omega arith, omega (arith, length-decimal_step c.args.n (omega arith) (omega arith)))

pub push-requires-2 : goal.push-requires-2
push-requires-2 t c =
    omega (arith, ap length c.push_decimal.ensures, length-append c.args.self.now (decimal (c.args.n / 10)), length-decimal_step c.args.n (omega arith) (omega arith))

pub returns : goal.returns
returns t c =
    c.push-2.ensures
    ∙ ap (λ (z : List ℕ). z ++ (48 + c.args.n % 10) ∷ []) c.push_decimal.ensures
    ∙ append_assoc c.args.self.now (decimal (c.args.n / 10)) _
    ∙ ap (λ (z : List ℕ). c.args.self.now ++ z) (sym (decimal_step c.args.n (omega arith) (omega arith)))

pub push-requires : goal.push-requires
push-requires t c = omega (arith, ap length (decimal_digit c.args.n (omega arith)))

pub returns-then-n-lt10 : goal.returns-then-n-lt10
returns-then-n-lt10 t c = c.push.ensures ∙ ap (λ (z : List ℕ). c.args.self.now ++ z) (sym (decimal_digit c.args.n (omega arith)))
