use Rattle.sk_expr.specs.Tapes.{plain_tape}
use Rattle.sk_expr.specs.TapeLaws.{parts-joined}
use Rattle.sk_expr.proofs.tape.Tape.part.Goals as goal

pub returns-clause-parts : goal.returns-clause-parts
returns-clause-parts g c = parts-joined (plain_tape c.args.self.now) c.requires.form
