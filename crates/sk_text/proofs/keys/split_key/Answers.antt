use Rattle.std.proofs.Common.{suc, ◌-◌, drop, length, arith, add-one, sym, length-drop}
use Rattle.std.proofs.lemmas.Bool.{eq-eqb, eqb-true}
use Rattle.std.proofs.lemmas.List.{take_all}
use Rattle.sk_text.proofs.Keyed.{parts_first, parts_none}
use Rattle.sk_text.proofs.keys.split_key.Goals as goal

pub returns-in-Some : goal.returns-in-Some
returns-in-Some c =
    let e = c.in-Some.ensures in
    let xs = c.args.body.now in
    rw (add-one, take_all (length xs - suc c.in-Some.at) (drop (suc c.in-Some.at) xs) (omega (arith, length-drop (suc c.in-Some.at) xs)))
    (sym (parts_first xs c.in-Some.at e.0.high (eqb-true _ 61 e.1) (λ j below is. e.0.before j (omega arith) below (eq-eqb _ 61 is))))

pub returns-in-None : goal.returns-in-None
returns-in-None c = sym (parts_none c.args.body.now (λ j below is. c.in-None.ensures j (omega arith) below (eq-eqb _ 61 is)))
