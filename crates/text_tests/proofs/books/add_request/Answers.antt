use Rattle.std.proofs.Common.{refl, inl, [], ◌∷◌, Some}
use Rattle.std.specs.Prelude.{codes}
use Rattle.sk_text.specs.Lines as Text
use Rattle.sk_records.specs.declared.kinds.Kind.TheVariants.{Request}
use Rattle.sk_records.specs.declared.rows.Role.TheVariants.{Plain}
use Rattle.sk_records.specs.Classes as Classes
use Rattle.sk_records.specs.Laws.TextKept.{no_feed}
use Rattle.text_tests.proofs.books.add_request.Goals as goal

pub add_record-requires : goal.add_record-requires
unfolding Text.end_len Classes.class_of Classes.closed_kind Classes.value_kind Classes.is_surface
add_record-requires c = record {
  given = record {
    given = record {
      kind = Request;
      rows = record { number = Some 1; role = Plain; body = codes "Request.h.v=00000009"; ending = 10 ∷ [] } ∷ [];
      close = record { body = codes "AddRequest"; ending = 10 ∷ [] };
    };
    read = refl;
    kind = refl;
    ended = (record { clear = no_feed (codes "Request.h.v=00000009") refl; end = inl (refl, refl) }, (record { clear = no_feed (codes "AddRequest") refl; end = inl (refl, refl) }, tt));
  };
}
