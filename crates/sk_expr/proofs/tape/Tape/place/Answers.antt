use Rattle.std.proofs.lemmas.Option.{slice_get-get_or}
use Rattle.sk_expr.proofs.tape.Tape.place.Goals as goal

pub returns-clause-within : goal.returns-clause-within
returns-clause-within g c = rw c.root.ensures (c.requires.form.roots c.args.row _ (slice_get-get_or c.args.self.now.roots c.args.row 0 c.requires.row_in))
