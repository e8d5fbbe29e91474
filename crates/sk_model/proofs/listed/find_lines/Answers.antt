use Rattle.sk_records.specs.Answers.{rows_in}
use Rattle.sk_model.specs.Keys.{keys_of}
use Rattle.sk_model.proofs.KeyLines.{found_lines, found_length}
use Rattle.sk_model.proofs.listed.find_lines.Goals as goal

pub returns-clause-found : goal.returns-clause-found
returns-clause-found c = found_lines c.args.table.now (keys_of c.args.rec.kind) (rows_in c.args.rec c.args.book.now) c.find.new.found c.requires.table c.find.ensures

pub returns-clause-room : goal.returns-clause-room
returns-clause-room c = found_length c.args.table.now (rows_in c.args.rec c.args.book.now) c.find.new.found c.find.ensures
