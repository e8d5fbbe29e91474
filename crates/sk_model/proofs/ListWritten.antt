-- A remap list that is written line by line.
use Rattle.std.proofs.Common.{◌≡◌, ℕ, ◌+◌, ◌<◌, ◌≤◌, List, [], ◌∷◌, ◌++◌, map, length, refl, sym, ap, ◌∙◌, append_assoc, take, get_or}
use Rattle.std.proofs.lemmas.List.{append-nil, map-append, take_more, take_all}
use Rattle.std.proofs.lemmas.Grind.{flat_map-append}
use Rattle.std.specs.Prelude.{codes}
use Rattle.std.specs.Fmt.{decimal}
use Rattle.std.specs.List.{All}
use Rattle.sk_num.specs.Numerals.{padded}
use Rattle.sk_text.specs.Lines.{TextLine, line_bytes, joined}
use Rattle.sk_types.specs.declared.group.RemapEntry.{RemapEntry}
use Rattle.sk_model.specs.Changes.{fed_line, entry_text}
use Rattle.sk_model.specs.WrittenLines.{IsEntryText, IsListText}
use Rattle.sk_model.specs.TypingLaws.ListTexts.{list_is}

abbrev pub front_lines : List RemapEntry → List TextLine
front_lines es = fed_line (codes "Group.remap={") ∷ map (λ (e : RemapEntry). fed_line (entry_text e)) es

joined-append : (a b : List TextLine) → joined (a ++ b) ≡ joined a ++ joined b
joined-append a b = flat_map-append line_bytes a b

one_joined : (l : TextLine) → joined (l ∷ []) ≡ line_bytes l
one_joined l = append-nil (line_bytes l)

pub fed_step : (es : List RemapEntry) (i : ℕ) (d : RemapEntry) (a b : List ℕ) → i < length es → a ≡ joined (front_lines (take i es)) → b ≡ a ++ line_bytes (fed_line (entry_text (get_or es i d))) → b ≡ joined (front_lines (take (i + 1) es))
fed_step es i d a b lt is more =
    let l : TextLine = fed_line (entry_text (get_or es i d)) in
    more ∙ ap (λ (x : List ℕ). x ++ line_bytes l) is
    ∙ ap (λ (x : List ℕ). joined (front_lines (take i es)) ++ x) (sym (one_joined l))
    ∙ sym (joined-append (front_lines (take i es)) (l ∷ []))
    ∙ ap (λ (x : List TextLine). joined (fed_line (codes "Group.remap={") ∷ x)) (sym (map-append (λ (e : RemapEntry). fed_line (entry_text e)) (take i es) (get_or es i d ∷ [])))
    ∙ ap (λ (x : List RemapEntry). joined (front_lines x)) (sym (take_more es i d lt))

pub fed_end : (es : List RemapEntry) (i : ℕ) (a b : List ℕ) → length es ≤ i → a ≡ joined (front_lines (take i es)) → All IsEntryText (take i es) → b ≡ a ++ line_bytes (fed_line (codes "}")) → IsListText es b
fed_end es i a b le is all more =
    let whole : take i es ≡ es = take_all i es le in
    list_is es b (rw whole at all)
    (more ∙ ap (λ (x : List ℕ). x ++ line_bytes (fed_line (codes "}"))) (is ∙ ap (λ (x : List RemapEntry). joined (front_lines x)) whole)
    ∙ ap (λ (x : List ℕ). joined (front_lines es) ++ x) (sym (one_joined (fed_line (codes "}"))))
    ∙ sym (joined-append (front_lines es) (fed_line (codes "}") ∷ [])))

-- the parts of an entry's line one behind the other
pub entry_written : (e : RemapEntry) (hex z a b c d f g h : List ℕ) → hex ≡ padded 16 8 e.source.0 →
    a ≡ z ++ codes "    " → b ≡ a ++ decimal e.number → c ≡ b ++ (32 ∷ []) → d ≡ c ++ hex → f ≡ d ++ (32 ∷ []) → g ≡ f ++ decimal e.copy → h ≡ g ++ (10 ∷ []) → h ≡ z ++ line_bytes (fed_line (entry_text e))
entry_written e hex z a b c d f g h eh ea eb ec ed ef eg last =
    last ∙ ap (λ (x : List ℕ). x ++ (10 ∷ [])) (eg ∙ ap (λ (x : List ℕ). x ++ decimal e.copy) (ef ∙ ap (λ (x : List ℕ). x ++ (32 ∷ [])) (ed ∙ ap (λ (x : List ℕ). c ++ x) eh ∙ ap (λ (x : List ℕ). x ++ padded 16 8 e.source.0) (ec ∙ ap (λ (x : List ℕ). x ++ (32 ∷ [])) (eb ∙ ap (λ (x : List ℕ). x ++ decimal e.number) ea)))))
    ∙ simp append_assoc refl
