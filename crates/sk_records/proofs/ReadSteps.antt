-- A line that moves the reader moves what is left.
use Rattle.std.proofs.Common.{◌≡◌, inl, inr, ℕ, ◌+◌, ◌-◌, List, [], ◌∷◌, ◌++◌, length, take, drop, refl, ap, sym, ◌∙◌, append_assoc, arith, subst, Some, Result, Ok, Err, length-append}
use Rattle.std.proofs.lemmas.Option.{some_pair_parts}
use Rattle.std.proofs.lemmas.List.{take_at, drop_at, length-take}
use Rattle.std.proofs.Math.Seq.{take-add}
use Rattle.sk_text.specs.Lines.{TextLine, PlacedLine, line_bytes, lines_in, AreLines}
use Rattle.sk_text.specs.LineLaws.{one_line}
use Rattle.sk_records.specs.declared.faults.ReadFault.{ReadFault}
use Rattle.sk_records.specs.declared.faults.ReadFault.TheVariants as fault
use Rattle.sk_records.specs.declared.rows.Span.{Span}
use Rattle.sk_records.specs.Blocks.{Block}
use Rattle.sk_records.specs.Reading.{State, Step, Bad, Goes, Gives, onward, with_block, read_from, step}
use Rattle.sk_records.specs.Holding.Held.{blocks_at, bytes_at, line_at as line_held, IsWithin}
use Rattle.sk_records.specs.declared.items.Item.{Item}
use Rattle.sk_records.specs.Holding.Moves.{Moves, moved, onto, IsPartFrom, IsLine}
use Rattle.sk_records.specs.Answers.{IsFault}
use Rattle.sk_records.proofs.HeldLines.{drop_drop}

onto_block : (bs : List Block) (b : Block) (r : Result (List Block) ReadFault) → onto bs (with_block b r) ≡ onto (bs ++ (b ∷ [])) r
onto_block bs b (Ok cs) = ap Ok (sym (append_assoc bs (b ∷ []) cs))
onto_block bs b (Err e) = refl

onto_moved : (n : ℕ) (s : Step) (bs cs : List Block) (t : State) (f : State → Result (List Block) ReadFault) → moved s bs ≡ Some (cs, t) → onto bs (onward n s f) ≡ onto cs (f t)
onto_moved n Bad bs cs t f e = cc
onto_moved n (Goes u) bs cs t f e = let p = some_pair_parts bs cs u t e in rw (p.0, p.1) refl
onto_moved n (Gives c u) bs cs t f e = let p = some_pair_parts (bs ++ (c ∷ [])) cs u t e in onto_block bs c (f u) ∙ rw (p.0, p.1) refl

pub read_more : (n : ℕ) (s : State) (l : TextLine) (ls : List TextLine) (bs cs : List Block) (t : State) → moved (step n s l) bs ≡ Some (cs, t) → onto bs (read_from n s (l ∷ ls)) ≡ onto cs (read_from (n + 1) t ls)
read_more n s l ls bs cs t e = onto_moved n (step n s l) bs cs t (λ (u : State). read_from (n + 1) u ls) e

pub read_bad : (n : ℕ) (s : State) (l : TextLine) (ls : List TextLine) (bs : List Block) → step n s l ≡ Bad → onto bs (read_from n s (l ∷ ls)) ≡ Err (fault.BadLine n)
read_bad n s l ls bs e = rw e refl

-- a fault at a line is the first fault
pub read_stop : (text : List ℕ) (old new : List Item) (n : ℕ) (s : State) (l : TextLine) (ls : List TextLine) (r : Result (List Block) ReadFault) (e : ReadFault) → Moves text old new n (step n s l) (Err e) → onto (blocks_at text old) (read_from n s (l ∷ ls)) ≡ r → IsFault fault.NoMemory e r
read_stop text old new n s l ls r fault.NoMemory m g = inl refl
read_stop text old new n s l ls r (fault.BadLine k) m g = inr (sym g ∙ read_bad n s l ls (blocks_at text old) m.0 ∙ ap (λ (x : ℕ). Err (fault.BadLine x)) (sym m.1))
read_stop text old new n s l ls r (fault.OpenMap k) m g = absurd m
read_stop text old new n s l ls r (fault.OpenRecord k) m g = absurd m
read_stop text old new n s l ls r fault.TooLarge m g = absurd m
read_stop text old new n s l ls r fault.BadHeader m g = absurd m

take_take : (n m : ℕ) (xs : List ℕ) (a b : List ℕ) → length a ≡ n → length b ≡ m → take (n + m) xs ≡ a ++ b → (take n xs ≡ a) × (take m (drop n xs) ≡ b)
take_take n m xs a b la lb e =
    let split : take n xs ++ take m (drop n xs) ≡ a ++ b = sym (take-add n m xs) ∙ e in
    let len : length (take n xs) ≡ n = omega (arith, length-take n xs, ap length e, length-take (n + m) xs, length-append a b) in (
      sym (take_at (take n xs) (take m (drop n xs)) n len) ∙ ap (take n) split ∙ take_at a b n la,
      sym (drop_at (take n xs) (take m (drop n xs)) n len) ∙ ap (drop n) split ∙ drop_at a b n la,
    )

-- a line of the iterator, by its places
module _ (text : List ℕ) (base : ℕ) (p : PlacedLine) (part : IsPartFrom text base p) where
  abbrev pub span_of : Span
  span_of = record { start = base + p.at; body_end = base + p.at + length p.line.body; end = base + p.at + length p.line.body + length p.line.ending }

  pub span_within : IsWithin text span_of
  span_within = record { body = omega arith; ending = omega arith; short = omega (arith, part.short); within = omega (arith, part.within, length-append p.line.body p.line.ending) }

  pub span_line : line_held text span_of ≡ p.line
  span_line =
      let b = length p.line.body in
      let e = length p.line.ending in
      let whole : take (b + e) (drop (base + p.at) text) ≡ p.line.body ++ p.line.ending = ap (λ k. take k (drop (base + p.at) text)) (sym (length-append p.line.body p.line.ending)) ∙ part.bytes in
      let parts = take_take b e (drop (base + p.at) text) p.line.body p.line.ending refl refl whole in
      let n : base + p.at + b - (base + p.at) ≡ b = omega arith in
      let m : base + p.at + b + e - (base + p.at + b) ≡ e = omega arith in
      let body : bytes_at text (base + p.at) (base + p.at + b) ≡ p.line.body = ap (λ k. take k (drop (base + p.at) text)) n ∙ parts.0 in
      let ending : bytes_at text (base + p.at + b) (base + p.at + b + e) ≡ p.line.ending =
      ap (λ k. take k (drop (base + p.at + b) text)) m ∙ ap (take e) (sym (drop_drop (base + p.at) b text)) ∙ parts.1 in
      rw (body, ending) refl

  pub span_is_line : (ls : List TextLine) → AreLines (p.line ∷ ls) → IsLine text span_of
  span_is_line ls are = record { within = span_within; one = subst (λ (l : TextLine). lines_in (line_bytes l) ≡ l ∷ []) (sym span_line) (one_line p.line ls are) }
