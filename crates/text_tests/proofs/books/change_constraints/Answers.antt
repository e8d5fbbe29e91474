use Rattle.std.proofs.Common.{◌≡◌, ◌++◌, ◌∙◌, ℕ, List, ap, refl, inl, [], ◌∷◌, Some, sym, subst}
use Rattle.std.specs.Prelude.{codes}
use Rattle.sk_text.specs.Lines as Text
use Rattle.sk_records.specs.declared.kinds.Kind.{Kind}
use Rattle.sk_records.specs.declared.kinds.Kind.TheVariants.{Constraint}
use Rattle.sk_records.specs.declared.rows.Role.TheVariants.{Plain}
use Rattle.sk_records.specs.ChangeLists.{KindChanges}
use Rattle.sk_records.specs.Classes as Classes
use Rattle.sk_records.specs.Given.{AreRecords}
use Rattle.sk_records.specs.Laws.TextKept.{no_feed}
use Rattle.text_tests.proofs.books.change_constraints.Goals as goal

-- the record that is added
abbrev lines : List ℕ
lines = codes "Constraint.h.v=00000009" ++ (10 ∷ (codes "AddConstraint" ++ (10 ∷ 10 ∷ [])))

are : AreRecords Constraint lines
unfolding Text.end_len Classes.class_of Classes.closed_kind Classes.value_kind Classes.is_surface
are = record {
  given = record {
    kind = Constraint;
    rows = record { number = Some 1; role = Plain; body = codes "Constraint.h.v=00000009"; ending = 10 ∷ [] } ∷ [];
    close = record { body = codes "AddConstraint"; ending = 10 ∷ [] };
  } ∷ [];
  read = refl;
  kind = (refl, tt);
  ended = (record { clear = no_feed (codes "Constraint.h.v=00000009") refl; end = inl (refl, refl) }, (record { clear = no_feed (codes "AddConstraint") refl; end = inl (refl, refl) }, (record { clear = no_feed [] refl; end = inl (refl, refl) }, tt)));
}

pub change-requires-clause-given : goal.change-requires-clause-given
change-requires-clause-given c =
    let is : c.set_value-then-count-gt0.new.self.kind ≡ Constraint = ap (λ (l : KindChanges). l.kind) (c.in_ok-set_value-2.ensures.ok) ∙ ap (λ (l : KindChanges). l.kind) (c.in_ok-set_value.ensures.ok) ∙ ap (λ (l : KindChanges). l.kind) (c.new-changes.ensures) in
    subst (λ (k : Kind). AreRecords k lines) (sym is) are
