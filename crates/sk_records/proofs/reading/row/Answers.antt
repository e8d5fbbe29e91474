use Rattle.std.proofs.Common.{ap, refl, ◌∙◌, Option, ℕ, subst, sym}
use Rattle.sk_records.specs.Holding.Held.{line_at, row_at, RowWithin}
use Rattle.sk_records.proofs.RowsSet.{row_lined, row_within, number_read}
use Rattle.sk_records.proofs.reading.row.Goals as goal

pub returns-clause-line : goal.returns-clause-line
returns-clause-line c =
    let text = c.args.text.now in
    let line = line_at text c.args.span in
    ap (row_at text) c.of.ensures
    ∙ row_lined text c.args.span c.args.role c.args.number line c.requires.within refl
    ∙ ap (λ (n : Option ℕ). record { number = n; role = c.args.role; body = line.body; ending = line.ending }) (number_read c.args.number c.requires.some)

pub returns-clause-within : goal.returns-clause-within
returns-clause-within c = subst (RowWithin c.args.text.now) (sym c.of.ensures) (row_within c.args.text.now c.args.span c.args.role c.args.number c.requires.within)
