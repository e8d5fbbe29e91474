use Rattle.sk_text.specs.Lines.{whole_lines}
use Rattle.sk_text.specs.LineLaws.{placed_joined, lines_parts, placed_ended, placed_unplaced, lines_few}
use Rattle.sk_text.proofs.iter.lines.Goals as goal

pub returns-clause-whole : goal.returns-clause-whole
returns-clause-whole c = placed_joined c.args.text.now

pub returns-clause-parts : goal.returns-clause-parts
returns-clause-parts c = lines_parts c.args.text.now

pub returns-clause-ends : goal.returns-clause-ends
returns-clause-ends c = placed_ended c.args.text.now

pub returns-clause-unplaced : goal.returns-clause-unplaced
returns-clause-unplaced c = placed_unplaced 0 (whole_lines c.args.text.now)

pub returns-clause-few : goal.returns-clause-few
returns-clause-few c = lines_few c.args.text.now
