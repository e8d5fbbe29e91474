use Rattle.std.proofs.Common.{List, ◌∷◌, map, length, arith, sym, ◌∙◌, ap, subst, length-append}
use Rattle.std.specs.List.{All}
use Rattle.std.proofs.lemmas.List.Elements.{All-head, All-tail}
use Rattle.sk_text.specs.Lines.{TextLine, PlacedLine, line_at, AreLines}
use Rattle.sk_text.specs.Lent.{placed_line}
use Rattle.sk_text.specs.LineLaws.{later_lines}
use Rattle.sk_records.specs.Reading.{read_from, Outside}
use Rattle.sk_records.specs.Holding.Held.{blocks_at, line_at as line_held}
use Rattle.sk_records.specs.Holding.Moves.{onto, state_of, IsPartFrom}
use Rattle.sk_records.proofs.ReadSteps.{read_more, read_stop, span_of, span_is_line, span_line}
use Rattle.sk_records.proofs.reading.read_lines.Goals as goal

pub overflow_cast-span-in-loop-line : goal.overflow_cast-span-in-loop-line
overflow_cast-span-in-loop-line c =
    let p : PlacedLine = placed_line c.in-Some.line in
    let parts : All (IsPartFrom c.args.text.now c.args.base) (p ∷ c.next.new.self) = subst (All (IsPartFrom c.args.text.now c.args.base)) c.in-Some.ensures.steps c.loop-line.invariant.parts in
    let here = All-head (IsPartFrom c.args.text.now c.args.base) p c.next.new.self parts in
    omega (arith, here.within, length-append p.line.body p.line.ending, c.requires.places)

pub overflow_cast-span-in-loop-line-2 : goal.overflow_cast-span-in-loop-line-2
overflow_cast-span-in-loop-line-2 c =
    let p : PlacedLine = placed_line c.in-Some.line in
    let parts : All (IsPartFrom c.args.text.now c.args.base) (p ∷ c.next.new.self) = subst (All (IsPartFrom c.args.text.now c.args.base)) c.in-Some.ensures.steps c.loop-line.invariant.parts in
    let here = All-head (IsPartFrom c.args.text.now c.args.base) p c.next.new.self parts in
    omega (arith, here.within, length-append p.line.body p.line.ending, c.requires.places)

pub step-requires-clause-some : goal.step-requires-clause-some
step-requires-clause-some c = c.loop-line.invariant.some

pub overflow_add-end : goal.overflow_add-end
overflow_add-end c =
    let p : PlacedLine = placed_line c.in-Some.line in
    let parts : All (IsPartFrom c.args.text.now c.args.base) (p ∷ c.next.new.self) = subst (All (IsPartFrom c.args.text.now c.args.base)) c.in-Some.ensures.steps c.loop-line.invariant.parts in
    let here = All-head (IsPartFrom c.args.text.now c.args.base) p c.next.new.self parts in
    omega (arith, here.within, length-append p.line.body p.line.ending)

pub step-requires-clause-line : goal.step-requires-clause-line
step-requires-clause-line c =
    let p : PlacedLine = placed_line c.in-Some.line in
    let parts : All (IsPartFrom c.args.text.now c.args.base) (p ∷ c.next.new.self) = subst (All (IsPartFrom c.args.text.now c.args.base)) c.in-Some.ensures.steps c.loop-line.invariant.parts in
    let lines : AreLines (p.line ∷ map line_at c.next.new.self) = subst (λ (ps : List PlacedLine). AreLines (map line_at ps)) c.in-Some.ensures.steps c.loop-line.invariant.lines in
    span_is_line c.args.text.now c.args.base p (All-head (IsPartFrom c.args.text.now c.args.base) p c.next.new.self parts) (map line_at c.next.new.self) lines

pub returns-in-Err-clause-read : goal.returns-in-Err-clause-read
returns-in-Err-clause-read c =
    let text = c.args.text.now in
    let p : PlacedLine = placed_line c.in-Some.line in
    let parts : All (IsPartFrom text c.args.base) (p ∷ c.next.new.self) = subst (All (IsPartFrom text c.args.base)) c.in-Some.ensures.steps c.loop-line.invariant.parts in
    let line = span_line text c.args.base p (All-head (IsPartFrom text c.args.base) p c.next.new.self parts) in
    let all = map line_at c.next.new.self in
    read_stop text c.loop-line.items.items c.step.new.items.items c.loop-line.number (state_of text c.loop-line.current) (line_held text (span_of text c.args.base p (All-head (IsPartFrom text c.args.base) p c.next.new.self parts))) all (read_from c.args.first Outside (map line_at c.args.lines)) c.in-Err.fault c.in-Err.ensures.moves
    (ap (λ (l : TextLine). onto (blocks_at text c.loop-line.items.items) (read_from c.loop-line.number (state_of text c.loop-line.current) (l ∷ all))) line
    ∙ ap (λ (ps : List PlacedLine). onto (blocks_at text c.loop-line.items.items) (read_from c.loop-line.number (state_of text c.loop-line.current) (map line_at ps))) (sym c.in-Some.ensures.steps)
    ∙ c.loop-line.invariant.same)

pub loop-line-preserved : goal.loop-line-preserved
loop-line-preserved c =
    let text = c.args.text.now in
    let p : PlacedLine = placed_line c.in-Some.line in
    let rest = c.next.new.self in
    let parts : All (IsPartFrom text c.args.base) (p ∷ rest) = subst (All (IsPartFrom text c.args.base)) c.in-Some.ensures.steps c.loop-line.invariant.parts in
    let lines : AreLines (p.line ∷ map line_at rest) = subst (λ (ps : List PlacedLine). AreLines (map line_at ps)) c.in-Some.ensures.steps c.loop-line.invariant.lines in
    record {
      parts = All-tail (IsPartFrom text c.args.base) p rest parts;
      lines = later_lines p.line (map line_at rest) lines;
      few = omega (arith, c.loop-line.invariant.few, ap length c.in-Some.ensures.steps);
      some = omega arith;
      within = c.step.ensures.within;
      current = c.in-Ok.ensures.current;
      below = c.in-Ok.ensures.below;
      same =
          let line = span_line text c.args.base p (All-head (IsPartFrom text c.args.base) p rest parts) in
          let all = map line_at rest in
          sym (read_more c.loop-line.number (state_of text c.loop-line.current) (line_held text (span_of text c.args.base p (All-head (IsPartFrom text c.args.base) p rest parts))) all (blocks_at text c.loop-line.items.items) (blocks_at text c.step.new.items.items) (state_of text c.in-Ok.next) c.in-Ok.ensures.moves)
          ∙ ap (λ (l : TextLine). onto (blocks_at text c.loop-line.items.items) (read_from c.loop-line.number (state_of text c.loop-line.current) (l ∷ all))) line
          ∙ ap (λ (ps : List PlacedLine). onto (blocks_at text c.loop-line.items.items) (read_from c.loop-line.number (state_of text c.loop-line.current) (map line_at ps))) (sym c.in-Some.ensures.steps)
          ∙ c.loop-line.invariant.same;
    }
