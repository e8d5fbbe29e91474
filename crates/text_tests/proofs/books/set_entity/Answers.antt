use Rattle.std.proofs.Common.{refl, inl, [], ◌∷◌, Some}
use Rattle.std.specs.Prelude.{codes}
use Rattle.sk_text.specs.Lines as Text
use Rattle.sk_records.specs.declared.kinds.Kind.TheVariants.{Entity}
use Rattle.sk_records.specs.declared.rows.Role.TheVariants.{Plain}
use Rattle.sk_records.specs.Classes as Classes
use Rattle.sk_records.specs.Laws.TextKept.{no_feed}
use Rattle.text_tests.proofs.books.set_entity.Goals as goal

pub set_entities-requires : goal.set_entities-requires
unfolding Text.end_len Classes.class_of Classes.closed_kind Classes.value_kind Classes.is_surface
set_entities-requires c = record {
  given = record {
    given = record {
      kind = Entity;
      rows = record { number = Some 1; role = Plain; body = codes "Entity.h.v=00000009"; ending = 10 ∷ [] } ∷ [];
      close = record { body = codes "AddEntity"; ending = 10 ∷ [] };
    } ∷ [];
    read = refl;
    kind = (refl, tt);
    ended = (record { clear = no_feed (codes "Entity.h.v=00000009") refl; end = inl (refl, refl) }, (record { clear = no_feed (codes "AddEntity") refl; end = inl (refl, refl) }, (record { clear = no_feed [] refl; end = inl (refl, refl) }, tt)));
  };
}
