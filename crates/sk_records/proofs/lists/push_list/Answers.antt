use Rattle.std.proofs.Common.{◌≡◌, ℕ, List, [], ◌∷◌, ◌++◌, map, length, arith, sym, ◌∙◌, ap, subst, length-append}
use Rattle.std.specs.List.{All}
use Rattle.std.proofs.lemmas.List.Elements.{All-head, All-tail, All-push, All-nil}
use Rattle.sk_text.specs.Lines.{PlacedLine, IsPart, line_at, lines_in, lines_of, whole_lines}
use Rattle.sk_text.specs.LineLaws.{placed_unplaced}
use Rattle.sk_records.specs.Rows.{Role}
use Rattle.sk_text.specs.Lent.{placed_line}
use Rattle.sk_records.specs.declared.rows.Row as held
use Rattle.sk_records.specs.Given.{list_row, list_role}
use Rattle.sk_records.specs.Holding.Held.{row_of, rows_at, RowWithin}
use Rattle.sk_records.proofs.RowsSet.{row_within}
use Rattle.sk_records.specs.Holding.Moves.{IsPartFrom}
use Rattle.sk_records.proofs.ReadSteps.{span_of, span_within}
use Rattle.sk_records.proofs.WrittenLemmas.{parts_behind}
use Rattle.sk_records.proofs.ListSet.{given_more}
use Rattle.sk_records.proofs.lists.push_list.Goals as goal

pub loop-line-init : goal.loop-line-init
loop-line-init c =
    let old = c.args.text.now.items in
    let given = c.args.given.now in
    let new = c.extend_from_slice.new.self.items in
    let n : c.len-base.result ≡ length old = omega arith in
    record {
      parts = subst (λ (b : ℕ). All (IsPartFrom new b) c.into_iter-line-iterator.result) (sym n) (parts_behind old given new c.into_iter-line-iterator.result c.in_ok-extend_from_slice.ensures.items (subst (All (IsPart given)) (sym c.into_iter-line-iterator.ensures.into_iter_gives) c.lines-line-items.ensures.parts));
      within = rw c.new-rows.ensures.items (All-nil (RowWithin new));
      same =
          let items : c.into_iter-line-iterator.result ≡ lines_of given = c.into_iter-line-iterator.ensures.into_iter_gives ∙ c.lines-line-items.ensures.lines in
          rw c.new-rows.ensures.items (ap (λ (ps : List PlacedLine). map list_row (map line_at ps)) items ∙ ap (map list_row) (placed_unplaced 0 (whole_lines given)));
    }

pub overflow_cast-span-in-loop-line : goal.overflow_cast-span-in-loop-line
overflow_cast-span-in-loop-line c =
    let p : PlacedLine = placed_line c.in-Some.line in
    let text = c.extend_from_slice.new.self.items in
    let parts : All (IsPartFrom text c.len-base.result) (p ∷ c.next.new.self) = subst (All (IsPartFrom text c.len-base.result)) c.in-Some.ensures.steps c.loop-line.invariant.parts in
    omega (arith, (All-head (IsPartFrom text c.len-base.result) p c.next.new.self parts).within, length-append p.line.body p.line.ending)

pub overflow_cast-span-in-loop-line-2 : goal.overflow_cast-span-in-loop-line-2
overflow_cast-span-in-loop-line-2 c =
    let p : PlacedLine = placed_line c.in-Some.line in
    let text = c.extend_from_slice.new.self.items in
    let parts : All (IsPartFrom text c.len-base.result) (p ∷ c.next.new.self) = subst (All (IsPartFrom text c.len-base.result)) c.in-Some.ensures.steps c.loop-line.invariant.parts in
    omega (arith, (All-head (IsPartFrom text c.len-base.result) p c.next.new.self parts).within, length-append p.line.body p.line.ending)

pub overflow_add-end : goal.overflow_add-end
overflow_add-end c =
    let p : PlacedLine = placed_line c.in-Some.line in
    let text = c.extend_from_slice.new.self.items in
    let parts : All (IsPartFrom text c.len-base.result) (p ∷ c.next.new.self) = subst (All (IsPartFrom text c.len-base.result)) c.in-Some.ensures.steps c.loop-line.invariant.parts in
    omega (arith, (All-head (IsPartFrom text c.len-base.result) p c.next.new.self parts).within, length-append p.line.body p.line.ending)

pub loop-line-preserved : goal.loop-line-preserved
loop-line-preserved c =
    let p : PlacedLine = placed_line c.in-Some.line in
    let text = c.extend_from_slice.new.self.items in
    let base = c.len-base.result in
    let rest = c.next.new.self in
    let parts : All (IsPartFrom text base) (p ∷ rest) = subst (All (IsPartFrom text base)) c.in-Some.ensures.steps c.loop-line.invariant.parts in
    let here = All-head (IsPartFrom text base) p rest parts in
    let made : held.Row = row_of (span_of text base p here) (list_role p.line.body) 0 in
    let role : c.list_role.result ≡ list_role p.line.body = c.list_role.ensures in
    let pushed : c.push.new.self.items ≡ c.loop-line.rows.items ++ made ∷ [] = c.in_ok-push.ensures.items ∙ ap (λ (x : held.Row). c.loop-line.rows.items ++ x ∷ []) (c.of.ensures ∙ ap (λ (r : Role). row_of (span_of text base p here) r 0) role) in
    let before = subst (λ (ps : List PlacedLine). rows_at text c.loop-line.rows.items ++ map list_row (map line_at ps) ≡ map list_row (lines_in c.args.given.now)) c.in-Some.ensures.steps c.loop-line.invariant.same in
    record {
      parts = All-tail (IsPartFrom text base) p rest parts;
      within = rw pushed (All-push (RowWithin text) c.loop-line.rows.items made c.loop-line.invariant.within (row_within text (span_of text base p here) (list_role p.line.body) 0 (span_within text base p here)));
      same = ap (λ (rows : List held.Row). rows_at text rows ++ map list_row (map line_at rest)) pushed ∙ given_more text base p rest c.loop-line.rows.items (map list_row (lines_in c.args.given.now)) here before;
    }
