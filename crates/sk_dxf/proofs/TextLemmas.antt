-- Texts that are put one behind the other, and groups that are looked for.
use Rattle.std.proofs.Common.{◌≡◌, ◌==◌, ℕ, ◌+◌, ◌<◌, ◌≤◌, List, ◌++◌, length, take, drop, get_or, true, Some, refl, sym, ap, ◌∙◌, append_assoc, arith}
use Rattle.std.proofs.lemmas.Bool.Decides.{nat_tests}
use Rattle.std.proofs.lemmas.List.{append-nil, drop_more, drop_all, take-append-le, length-take}
use Rattle.sk_types.specs.declared.group.Group.{Group}
use Rattle.sk_types.specs.declared.entity.Entity.{Entity}
use Rattle.sk_types.specs.declared.entity.Act.{Act}
use Rattle.sk_dxf.specs.Plane.{PlaneNumbers}
use Rattle.sk_dxf.specs.Drawing.{entity_text, entity_texts, active_in}

-- what was there stays there where more is put behind it
pub kept_more : (old out more new : List ℕ) → take (length old) out ≡ old → new ≡ out ++ more → take (length old) new ≡ old
kept_more old out more new e h = ap (take (length old)) h ∙ take-append-le (length old) out more (omega (arith, ap length e, length-take (length old) out)) ∙ e

-- a piece, then the rest
pub piece_more : (old out new piece rest all : List ℕ) → out ++ (piece ++ rest) ≡ old ++ all → new ≡ out ++ piece → new ++ rest ≡ old ++ all
piece_more old out new piece rest all e h = ap (λ (t : List ℕ). t ++ rest) h ∙ append_assoc out piece rest ∙ e

pub texts_more : {s : ℕ} (plane : PlaneNumbers) (acts : List (Act s)) (group : ℕ) (es : List (Entity s)) (i : ℕ) (d : Entity s) → i < length es → d ≡ get_or es i d →
    entity_texts plane acts group (drop i es) ≡ entity_text plane acts group d ++ entity_texts plane acts group (drop (i + 1) es)
unfolding entity_texts
texts_more plane acts group es i d lt is = rw (drop_more es i d lt, ← is) refl

pub texts_done : {s : ℕ} (plane : PlaneNumbers) (acts : List (Act s)) (group : ℕ) (es : List (Entity s)) (i : ℕ) (out all : List ℕ) → length es ≤ i →
    out ++ entity_texts plane acts group (drop i es) ≡ all → out ≡ all
unfolding entity_texts
texts_done plane acts group es i out all le e = sym (append-nil out) ∙ rw (drop_all i es le) at e

-- three pieces
pub three_pieces : (old a b c x y z : List ℕ) → a ≡ old ++ x → b ≡ a ++ y → c ≡ b ++ z → c ≡ old ++ (x ++ (y ++ z))
three_pieces old a b c x y z ea eb ec = ec ∙ ap (λ (t : List ℕ). t ++ z) (eb ∙ ap (λ (t : List ℕ). t ++ y) ea) ∙ append_assoc (old ++ x) y z ∙ append_assoc old x (y ++ z)

same_test : (n m : ℕ) → n ≡ m → (n == m) ≡ true
same_test n m e = grind (arith, nat_tests)

-- the group in this place is the one that is looked for
pub active_here : {s : ℕ} (n : ℕ) (gs : List (Group s)) (i : ℕ) (d : Group s) → i < length gs → d ≡ get_or gs i d → n ≡ d.id.0 →
    Some d.active ≡ active_in n (drop i gs)
active_here n gs i d lt is e = rw (drop_more gs i d lt, ← is, same_test n d.id.0 e) refl
