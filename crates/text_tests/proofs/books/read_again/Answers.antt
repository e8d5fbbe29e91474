use Rattle.std.proofs.Common.{ap}
use Rattle.std.specs.Prelude.{is_ok}
use Rattle.sk_records.specs.Laws.{read_again_law}
use Rattle.text_tests.proofs.books.read_again.Goals as goal

pub again-requires : goal.again-requires
again-requires c =
    let again = read_again_law.lines c.in_ok-copied.copied c.law_text.ensures in
    rw c.in_ok-bytes.ensures (ap is_ok again)
