use Rattle.std.proofs.Common.{length, arith, add-one}
use Rattle.std.proofs.lemmas.Bool.{eq-eqb, eqb-true}
use Rattle.std.proofs.lemmas.List.{take_all, drop_all}
use Rattle.sk_text.specs.LineLaws.{first_line, only_line}
use Rattle.sk_text.proofs.iter.first_len.Goals as goal

pub returns-in-Some-clause-first : goal.returns-in-Some-clause-first
returns-in-Some-clause-first c =
    let e = c.in-Some.ensures in
    rw add-one (first_line c.args.rest.now c.in-Some.i e.0.high (eqb-true _ 10 e.1) (λ j below is. e.0.before j (omega arith) below (eq-eqb _ 10 is)))

pub returns-in-None-clause-first : goal.returns-in-None-clause-first
returns-in-None-clause-first c =
    let e = c.in-None.ensures in
    let xs = c.args.rest.now in
    rw (take_all (length xs) xs (omega arith), drop_all (length xs) xs (omega arith)) (only_line c.args.rest.now c.requires (λ j below is. e j (omega arith) below (eq-eqb _ 10 is)))
