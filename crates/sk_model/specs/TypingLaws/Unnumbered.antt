-- Lines that are numbered otherwise have the same values and the same remap lists.
use Rattle.std.proofs.Common.{◌≡◌, ℕ, List, [], ◌∷◌, map, refl, sym, ap, ◌∙◌}
use Rattle.sk_records.specs.declared.kinds.Kind.{Kind}
use Rattle.sk_records.specs.Rows.{Row, last_value, entries}
use Rattle.sk_records.specs.MapRows.{entry_lines}
use Rattle.sk_records.specs.Blocks.{Block, records}
use Rattle.sk_records.specs.Written.{bare_rows, bare}
use Rattle.sk_records.specs.Laws.{numbers_law}
use Rattle.sk_model.specs.TypingLaws.Alike.{body_of}
use Rattle.sk_model.specs.TypingLaws.ListSteps.{AllRelated}

-- the same values, and the same lines of remap lists
pub record SameLines (rows other : List Row) : Type 0 where
  pub values : (key : List ℕ) → last_value key other ≡ last_value key rows
  pub bodies : map body_of (entry_lines other) ≡ map body_of (entry_lines rows)

bodies_bare : (rows : List Row) → map body_of (entry_lines rows) ≡ map (λ (r : Row). r.body) (bare_rows (entries rows))
bodies_bare rows = of_rows (entries rows)
  where
    of_rows : (rs : List Row) → map body_of (map (λ (r : Row). record { line = r.number; body = r.body }) rs) ≡ map (λ (r : Row). r.body) (bare_rows rs)
    of_rows [] = refl
    of_rows (r ∷ rs) = ap (λ l. r.body ∷ l) (of_rows rs)

same_lines : (rows other : List Row) → bare_rows other ≡ bare_rows rows → SameLines rows other
same_lines rows other e = record {
  values = λ key. sym (numbers_law.value_bare key other) ∙ ap (last_value key) e ∙ numbers_law.value_bare key rows;
  bodies = bodies_bare other ∙ ap (map (λ (r : Row). r.body)) (sym (numbers_law.entries_bare other) ∙ ap entries e ∙ numbers_law.entries_bare rows) ∙ sym (bodies_bare rows);
}

all_same : (rs qs : List (List Row)) → map bare_rows qs ≡ map bare_rows rs → AllRelated SameLines rs qs
all_same [] [] e = tt
all_same [] (q ∷ qs) e = cc
all_same (r ∷ rs) [] e = cc
all_same (r ∷ rs) (q ∷ qs) e =
    let here : bare_rows q ≡ bare_rows r = cc in
    let later : map bare_rows qs ≡ map bare_rows rs = cc in
    (same_lines r q here, all_same rs qs later)

pub records_same : (k : Kind) (bs cs : List Block) → bare cs ≡ bare bs → AllRelated SameLines (records k bs) (records k cs)
records_same k bs cs e = all_same (records k bs) (records k cs) (sym (numbers_law.records_bare k cs) ∙ ap (records k) e ∙ numbers_law.records_bare k bs)
