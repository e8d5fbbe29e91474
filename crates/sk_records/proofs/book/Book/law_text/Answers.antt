use Rattle.std.proofs.Common.{subst}
use Rattle.sk_records.specs.Written.{IsText}
use Rattle.sk_records.proofs.book.Book.law_text.Goals as goal

pub returns : goal.returns
returns c = subst IsText c.self.view_is c.self.invariant.is_text
