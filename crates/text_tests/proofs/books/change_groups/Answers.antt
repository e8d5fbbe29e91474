use Rattle.std.proofs.Common.{refl, inl}
use Rattle.sk_text.specs.Lines as Text
use Rattle.sk_records.specs.Classes as Classes
use Rattle.text_tests.proofs.books.change_groups.Goals as goal

pub set_map-requires-clause-list : goal.set_map-requires-clause-list
unfolding Text.end_len Classes.is_entry
set_map-requires-clause-list c = refl

pub set_map-requires-clause-ended : goal.set_map-requires-clause-ended
unfolding Text.end_len
set_map-requires-clause-ended c = (
  record { clear = (refl, (refl, (refl, (refl, (refl, (refl, (refl, (refl, (refl, (refl, (refl, (refl, (refl, tt))))))))))))); end = inl (refl, refl) },
  (
    record { clear = (refl, (refl, (refl, (refl, (refl, (refl, (refl, (refl, (refl, (refl, (refl, (refl, (refl, (refl, (refl, (refl, tt)))))))))))))))); end = inl (refl, refl) },
    (record { clear = (refl, tt); end = inl (refl, refl) }, tt),
  ),
)
